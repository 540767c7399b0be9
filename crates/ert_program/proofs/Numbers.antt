-- What a typed getter of `clap` gives is the number that the text reads as.

use Rattle.std.proofs.Common.{◌≡◌, ℕ, ◌^◌, List, [], ◌∷◌, Bool, true, false, ◌&&◌, nat_lt, Option, Some, None, refl, ap, length, lt-ltb}
use Rattle.std.specs.Prelude.{Result, Ok, Err, option_and_then}
use Rattle.std.specs.{Char.digit_value, List.list_all, Str.Parse.{ParsesUnsigned, AllDigits, digits_value, without_leading_plus}}
use Rattle.std.proofs.lemmas.Bool.{and_parts}
use Rattle.clap.specs.{Matches.ReadsOne, Walk.Text}
use Rattle.ert_program.specs.{Commands.is_number, Matches.parsed}
use borrow.Author.Tests.{ltb-true}

digits_pass : (ds : List ℕ) → AllDigits 10 ds → list_all (λ d. nat_lt (digit_value d) 10) ds ≡ true
digits_pass [] h = refl
digits_pass (d ∷ ds) h = rw (lt-ltb (digit_value d) 10 h.0) (digits_pass ds h.1)

digits_from : (ds : List ℕ) → list_all (λ d. nat_lt (digit_value d) 10) ds ≡ true → AllDigits 10 ds
digits_from [] e = tt
digits_from (d ∷ ds) e =
    let parts = and_parts _ _ e in
    (ltb-true _ _ parts.0, digits_from ds parts.1)

abbrev fits : List ℕ → Bool
fits ds = is_number ds && nat_lt (digits_value 10 ds) (2 ^ 64)

parsed_some : (E : Type 0) (text : Text) (n : ℕ) → ParsesUnsigned {E = E} 64 10 text (Ok n) → Some n ≡ parsed text
parsed_some E text n h =
    let ds = without_leading_plus text in
    rw (lt-ltb 0 (length ds) h.0.0.0, digits_pass ds h.0.0.1, lt-ltb (digits_value 10 ds) (2 ^ 64) h.0.1) (ap Some h.1)

parsed_none : (E : Type 0) (text : Text) (e : E) → ParsesUnsigned {E = E} 64 10 text (Err e) → None ≡ parsed text
parsed_none E text e h = go (fits (without_leading_plus text)) refl
  where
    go : (b : Bool) → fits (without_leading_plus text) ≡ b → None ≡ parsed text
    go false t = rw t refl
    go true t =
        let outer = and_parts _ _ t in
        let inner = and_parts _ _ outer.0 in
        absurd (h ((ltb-true _ _ inner.0, digits_from (without_leading_plus text) inner.1), ltb-true _ _ outer.1))

pub number_read : (E : Type 0) (G : List ℕ → Result ℕ E → Type 0) (found : Option Text) (r : Option ℕ)
    → ((t : Text) (x : Result ℕ E) → G t x → ParsesUnsigned 64 10 t x)
    → (found ≡ None → r ≡ None) → ((t : Text) → found ≡ Some t → ReadsOne G t r) → r ≡ option_and_then parsed found
number_read E G None r parses none some = none refl
number_read E G (Some t) (Some n) parses none some = parsed_some E t n (parses t (Ok n) (some t refl))
number_read E G (Some t) None parses none some = let read = some t refl in parsed_none E t read.0 (parses t (Err read.0) read.1)
