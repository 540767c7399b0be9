-- Messages that are written piece by piece, and what they say of a text.

use Rattle.std.proofs.Common.{◌≡◌, ℕ, ◌+◌, ◌/◌, ◌%◌, true, false, add-one, List, [], ◌∷◌, ◌++◌, refl, ap, ◌∙◌, append_assoc, Option, None}
use Rattle.std.specs.Prelude.{Result, Ok, Err, OnOk, is_some}
use Rattle.ert_audit.specs.Messages.{after_at, line_end, lines_on, hex_digit, is_shown_as_is, shown_byte}

-- a call that may fail, and what follows where it doesn't
pub ok_map : {T E P Q : Type 0} (r : Result T E) → (P → Q) → OnOk r P → OnOk r Q
ok_map (Ok x) f p = f p
ok_map (Err e) f p = p

-- two pieces after a text
pub joined : (a b c x y : List ℕ) → b ≡ a ++ x → c ≡ b ++ y → c ≡ a ++ (x ++ y)
joined a b c x y e f = f ∙ ap (λ (t : List ℕ). t ++ y) e ∙ append_assoc a x y

-- no line has been passed
pub no_line : (text : List ℕ) → text ≡ lines_on 0 text
unfolding lines_on
no_line text = refl

-- one more line has been passed
pub line_more : (text rest after : List ℕ) (n : ℕ) → rest ≡ lines_on n text → after ≡ after_at rest (line_end rest)
    → after ≡ lines_on (n + 1) text
unfolding lines_on
line_more text rest after n so_far more =
    rw add-one (more ∙ ap (λ (t : List ℕ). after_at t (line_end t)) so_far)

-- a byte as it is shown
pub shown_plain : (b : ℕ) → is_shown_as_is b ≡ true → shown_byte b ≡ b ∷ []
unfolding shown_byte
shown_plain b is = rw is refl

pub shown_hex : (b : ℕ) → is_shown_as_is b ≡ false → shown_byte b ≡ 92 ∷ 120 ∷ hex_digit (b / 16) ∷ hex_digit (b % 16) ∷ []
unfolding shown_byte
shown_hex b is = rw is refl

-- what is there isn't missing
pub some_end : (end : Option ℕ) → true ≡ is_some end → end ≡ None → ⊥
some_end end some none = let e : true ≡ false = some ∙ ap is_some none in absurd cc
