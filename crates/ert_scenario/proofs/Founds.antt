-- What is known of the parts of a reading that succeeded.

use Rattle.std.proofs.Common.{◌≡◌, Bool, true, false, Ok, Err, refl, ap, ◌∙◌}
use Rattle.ert_scenario.specs.Kinds.{FoundOrFault, found_map, ◌>>=◌, read_both, if_in_range}
use Rattle.ert_scenario.specs.declared.fault.Fault.TheVariants.{Shape, Range}

-- a step that succeeded, with what the step before it read
pub record Follows {A B : Type 0} (first : FoundOrFault A) (next : A → FoundOrFault B) (b : B) : Type 0 where
  pub read : A
  pub was : first ≡ Ok read
  pub then : next read ≡ Ok b

pub follows : {A B : Type 0} (first : FoundOrFault A) (next : A → FoundOrFault B) (b : B) → (first >>= next) ≡ Ok b → Follows first next b
follows (Ok a) next b h = record { read = a; was = refl; then = h }
follows (Err fault) next b h = absurd (cc)

pub in_range_parts : {A : Type 0} (fits : Bool) (a b : A) → if_in_range fits a ≡ Ok b → (fits ≡ true) × (a ≡ b)
unfolding if_in_range
in_range_parts true a b h = (refl, cc)
in_range_parts false a b h = absurd (cc)

-- what is seen of two readings together
pub both_seen : {A B C D : Type 0} (f : A → C) (g : B → D) (a : FoundOrFault A) (b : FoundOrFault B) → found_map (λ (p : A × B). (f p.0, g p.1)) (read_both a b) ≡ read_both (found_map f a) (found_map g b)
unfolding read_both
both_seen f g (Ok a) (Ok b) = refl
both_seen f g (Ok a) (Err fault) = refl
both_seen f g (Err Shape) (Ok b) = refl
both_seen f g (Err Shape) (Err fault) = refl
both_seen f g (Err Range) (Ok b) = refl
both_seen f g (Err Range) (Err fault) = refl

-- the same of a result that is both
pub both_read : {A B C D : Type 0} (f : A → C) (g : B → D) (a : FoundOrFault A) (b : FoundOrFault B) (x : FoundOrFault C) (y : FoundOrFault D) (r : FoundOrFault (A × B)) → r ≡ read_both a b
    → found_map f a ≡ x → found_map g b ≡ y → found_map (λ (p : A × B). (f p.0, g p.1)) r ≡ read_both x y
both_read {A} {B} {C} {D} f g a b x y r is first second =
    ap (λ (s : FoundOrFault (A × B)). found_map (λ (p : A × B). (f p.0, g p.1)) s) is ∙ both_seen f g a b
    ∙ ap (λ (s : FoundOrFault C). read_both s (found_map g b)) first ∙ ap (λ (s : FoundOrFault D). read_both x s) second

-- two readings that succeeded together
pub record AreBoth {A B : Type 0} (a : FoundOrFault A) (b : FoundOrFault B) (x : A) (y : B) : Type 0 where
  pub first : a ≡ Ok x
  pub second : b ≡ Ok y

pub both_ok : {A B : Type 0} (a : FoundOrFault A) (b : FoundOrFault B) (p : A × B) → read_both a b ≡ Ok p → AreBoth a b p.0 p.1
unfolding read_both
both_ok (Ok a) (Ok b) p h = record { first = cc; second = cc }
both_ok (Ok a) (Err fault) p h = absurd (cc)
both_ok (Err Shape) b p h = absurd (cc)
both_ok (Err Range) (Ok b) p h = absurd (cc)
both_ok (Err Range) (Err fault) p h = absurd (cc)

-- two readings together that fail
pub both_err : {A B : Type 0} (a : FoundOrFault A) (b : FoundOrFault B) → (a ≡ Err Range → ⊥) → (b ≡ Err Range → ⊥) → read_both a b ≡ Err Range → ⊥
unfolding read_both
both_err (Ok a) (Ok b) na nb h = cc
both_err (Ok a) (Err Shape) na nb h = cc
both_err (Ok a) (Err Range) na nb h = nb refl
both_err (Err Shape) b na nb h = cc
both_err (Err Range) b na nb h = na refl
