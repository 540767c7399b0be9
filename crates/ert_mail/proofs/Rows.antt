-- Numbers in a row: each stands once, and all are below a bound.

use Rattle.std.proofs.Common.{◌↔◌, Option, Some, None, IsNone, IsSome, IfNone, IfSome, option_to_list, subst, ◌≡◌, ℕ, ◌+◌, ◌<◌, ◌≤◌, true, false, Bool, ◌||◌, ◌&&◌, List, [], ◌∷◌, ◌++◌, length, nat_eq, nat_lt, nat_le, refl, sym, ap, ◌∙◌, arith, zero, suc, inl, inr, length-append}
use Rattle.std.proofs.lemmas.{Bool.{ltb-true, true≢false}, Bool.Decides.{eqb_tells, nat_tests}, List.FromFn.{get_or-range_with_len, length-range_with_len}, Map.Keys.{IsDistinct-from_apart, IsDistinct-head, IsDistinct-push, IsDistinct-tail}}
use Rattle.std.proofs.lemmas.{Map.Steps.length-le_from_distinct_below}
use Rattle.std.specs.{Cmp.nat_eq_equiv, List.{AllByRecursion, list_any, range_with_len}}
use Rattle.ert_mail.specs.Turns.{AreTurns, TurnRow, is_listed}

abbrev pub row_of : ℕ → List ℕ → TurnRow
row_of bound held = record { bound = bound; held = held }

-- one more at the end
pub list_any-push : (p : ℕ → Bool) (xs : List ℕ) (x : ℕ) → list_any p (xs ++ x ∷ []) ≡ (p x || list_any p xs)
list_any-push p [] x = refl
list_any-push p (y ∷ ys) x = ap (λ b. p y || b) (list_any-push p ys x) ∙ swapped (p y) (p x) (list_any p ys)
  where
    swapped : (a b c : Bool) → (a || (b || c)) ≡ (b || (a || c))
    swapped true true c = refl
    swapped true false c = refl
    swapped false b c = refl

-- numbers that were counted up from one
list_any-range : (a n q : ℕ) → list_any (nat_eq q) (range_with_len a n) ≡ (nat_le a q && nat_lt q (a + n))
list_any-range a zero q = grind arith
list_any-range a (suc n) q = grind (arith, list_any-range (a + 1) n q)

-- all numbers below a bound
pub list_any-every : (bound q : ℕ) → list_any (nat_eq q) (range_with_len 0 bound) ≡ nat_lt q bound
list_any-every bound q = list_any-range 0 bound q ∙ grind arith

pub all_turns : (bound capacity : ℕ) → bound ≤ capacity → AreTurns (row_of bound (range_with_len 0 bound)) capacity
all_turns bound capacity room = record {
  once = IsDistinct-from_apart nat_eq (range_with_len 0 bound) (λ i j d less low.
      let within : j < bound = subst (λ n. j < n) (length-range_with_len 0 bound) low in
      grind (arith, nat_tests, get_or-range_with_len 0 bound i d (omega (arith, less, within)), get_or-range_with_len 0 bound j d within, less));
  below = λ q held. ltb-true q bound (sym (list_any-every bound q) ∙ held);
  room = room;
}

-- one more is put last
pub turns_put : (row : TurnRow) (capacity larger x : ℕ) → AreTurns row capacity → capacity ≤ larger → x < row.bound → is_listed row x ≡ false
    → AreTurns (record row { held = row.held ++ x ∷ [] }) larger
turns_put row capacity larger x are grown low away = record {
  once = IsDistinct-push nat_eq_equiv row.held x are.once away;
  below = λ q held. at q (sym (list_any-push (nat_eq q) row.held x) ∙ held);
  room = omega (arith, are.room, grown);
}
  where
    at : (q : ℕ) → (nat_eq q x || is_listed row q) ≡ true → q < row.bound
    at q held = elim (eqb_tells q x) [ inl e ↦ subst (λ n. n < row.bound) (sym e.1) low | inr e ↦ are.below q (sym (ap (λ b. b || is_listed row q) e.0) ∙ held) ]

-- for which there is room
pub room_left : (row : TurnRow) (capacity x : ℕ) → AreTurns row capacity → x < row.bound → is_listed row x ≡ false → length row.held < row.bound
room_left row capacity x are low away =
    let more = turns_put row capacity capacity x are (omega arith) low away in
    let e : length (row.held ++ x ∷ []) ≤ row.bound = length-le_from_distinct_below (row.held ++ x ∷ []) row.bound more.once more.below in
    omega (arith, e, length-append row.held (x ∷ []))

-- the first was taken out
pub record IsTaken (bound capacity x : ℕ) (ys : List ℕ) : Type 0 where
  pub left : AreTurns (row_of bound ys) capacity
  pub away : list_any (nat_eq x) ys ≡ false
  pub low : x < bound

pub taken : (bound capacity x : ℕ) (ys : List ℕ) → AreTurns (row_of bound (x ∷ ys)) capacity → IsTaken bound capacity x ys
taken bound capacity x ys are = record {
  left = record {
    once = IsDistinct-tail nat_eq x ys are.once;
    below = λ q held. are.below q (ap (λ b. nat_eq q x || b) held ∙ or-true (nat_eq q x));
    room = are.room;
  };
  away = none ys (IsDistinct-head nat_eq x ys are.once);
  low = are.below x (ap (λ b. b || list_any (nat_eq x) ys) (nat_eq_equiv.refl x));
}
  where
    or-true : (b : Bool) → (b || true) ≡ true
    or-true true = refl
    or-true false = refl

    none : (zs : List ℕ) → AllByRecursion (λ z. nat_eq x z ≡ false) zs → list_any (nat_eq x) zs ≡ false
    none [] all = refl
    none (z ∷ zs) all = ap (λ b. b || list_any (nat_eq x) zs) all.0 ∙ none zs all.1

-- what a pop at the front leaves
pub left_behind : (bound capacity : ℕ) (xs ys : List ℕ) (picked : Option ℕ) → xs ≡ option_to_list picked ++ ys → AreTurns (row_of bound xs) capacity
    → AreTurns (row_of bound ys) capacity
left_behind bound capacity xs ys None is are = subst (λ zs. AreTurns (row_of bound zs) capacity) is are
left_behind bound capacity xs ys (Some x) is are = (taken bound capacity x ys (subst (λ zs. AreTurns (row_of bound zs) capacity) is are)).left

-- and what it gives
pub record IsPicked (old new : TurnRow) (picked : Option ℕ) : Type 0 where
  pub none : IsNone picked ↔ (old.held ≡ [])
  pub unchanged : IfNone picked (new ≡ old)
  pub first : IfSome picked (λ x. old ≡ record new { held = x ∷ new.held })
  pub away : IfSome picked (λ x. is_listed new x ≡ false)
  pub in_range : IfSome picked (λ x. x < old.bound)

pub picked_first : (bound capacity : ℕ) (xs ys : List ℕ) (picked : Option ℕ) → xs ≡ option_to_list picked ++ ys → IsSome picked ↔ (0 < length xs)
    → AreTurns (row_of bound xs) capacity → IsPicked (row_of bound xs) (row_of bound ys) picked
picked_first bound capacity xs ys None is some are = record {
  none = (λ _. empty xs (λ more. true≢false (sym (some.1 more))), λ _. refl);
  unchanged = ap (row_of bound) (sym is);
  first = tt;
  away = tt;
  in_range = tt;
}
  where
    empty : (zs : List ℕ) → (0 < length zs → ⊥) → zs ≡ []
    empty [] few = refl
    empty (z ∷ zs) few = absurd (few (omega arith))
picked_first bound capacity xs ys (Some x) is some are =
    let was : IsTaken bound capacity x ys = taken bound capacity x ys (subst (λ zs. AreTurns (row_of bound zs) capacity) is are) in
    record {
      none = (λ gone. absurd (true≢false gone), λ none. let clash : x ∷ ys ≡ [] = sym is ∙ none in absurd cc);
      unchanged = tt;
      first = ap (row_of bound) is;
      away = was.away;
      in_range = was.low;
    }
