-- The slots that are held, as a list without repeats and as a set.

use Rattle.std.proofs.Common.{◌↔◌, Option, Some, None, IsNone, IsSome, IfSome, subst, ◌≡◌, ℕ, ◌+◌, ◌<◌, ◌≤◌, true, false, Bool, ◌||◌, ◌&&◌, not, List, [], ◌∷◌, ◌++◌, length, nat_eq, nat_lt, nat_le, refl, sym, ap, ◌∙◌, arith, zero, suc, inl, inr, length-append}
use Rattle.std.proofs.lemmas.{Bool.{eqb-true, ltb-true, true≢false}, Bool.Decides.eqb_tells, Map.Keys.IsDistinct-push, Map.Steps.length-le_from_distinct_below}
use Rattle.std.specs.{Cmp.{nat_cmp_total, nat_eq_equiv, unsigned_tied}, List.{IsDistinct, AllByRecursion, list_any, range_with_len}, Ordering.nat_cmp}
use Rattle.std.specs.FinSet as set
use Rattle.ert_timers.specs.Free.{FreeSet, HasRoom}

-- a slot is in the set exactly where it is in the list
pub contains-from_list : (xs : List ℕ) (q : ℕ)
    → set.contains (set.from_list {R = nat_cmp} xs) q ≡ list_any (nat_eq q) xs
contains-from_list [] q = set.contains-empty nat_cmp q
contains-from_list (x ∷ xs) q =
    set.contains-insert nat_cmp_total _ x q ∙ (λ i. unsigned_tied q x i || contains-from_list xs q i)

-- what holds of each element and of one more, apart
all_parts : (P : ℕ → Type 0) (xs : List ℕ) (x : ℕ) → AllByRecursion P (xs ++ x ∷ [])
    → AllByRecursion P xs × P x
all_parts P [] x h = (tt, h.0)
all_parts P (y ∷ ys) x h = let rest = all_parts P ys x h.1 in ((h.0, rest.0), rest.1)

-- what is left of a list without repeats has none, and lacks what was last
pub distinct_parts : (xs : List ℕ) (x : ℕ) → IsDistinct nat_eq (xs ++ x ∷ [])
    → IsDistinct nat_eq xs × (list_any (nat_eq x) xs ≡ false)
unfolding IsDistinct
distinct_parts [] x h = (tt, refl)
distinct_parts (y ∷ ys) x h =
    let first = all_parts (λ z. nat_eq y z ≡ false) ys x h.0 in
    let rest = distinct_parts ys x h.1 in
    ((first.0, rest.0), λ i. (nat_eq_equiv.symm x y ∙ first.1) i || rest.1 i)

-- the first two of three tests change places
pub or_swap : (a b c : Bool) → (a || (b || c)) ≡ (b || (a || c))
or_swap true true c = refl
or_swap true false c = refl
or_swap false b c = refl

-- one more at the end
pub list_any-push : (p : ℕ → Bool) (xs : List ℕ) (x : ℕ)
    → list_any p (xs ++ x ∷ []) ≡ (p x || list_any p xs)
list_any-push p [] x = refl
list_any-push p (y ∷ ys) x =
    ap (λ b. p y || b) (list_any-push p ys x) ∙ or_swap (p y) (p x) (list_any p ys)

-- a test or true
pub or-true : (b : Bool) → (b || true) ≡ true
or-true true = refl
or-true false = refl

-- one more slot in range, and all are in range
pub below_more : (slots x q : ℕ) (b : Bool) → x < slots → (b ≡ true → q < slots)
    → (nat_eq q x || b) ≡ true → q < slots
below_more slots x q b low h held =
    elim (eqb_tells q x) [ inl e ↦ omega arith | inr e ↦ h ((λ i. sym e.0 i || b) ∙ held) ]

-- the list after a push
pub pushed : (slots capacity larger x : ℕ) (xs : List ℕ) → HasRoom slots xs capacity → capacity ≤ larger
    → x < slots → list_any (nat_eq x) xs ≡ false → HasRoom slots (xs ++ x ∷ []) larger
pushed slots capacity larger x xs h grown low away = record {
  once = IsDistinct-push nat_eq_equiv xs x h.once away;
  below = λ q held.
      below_more slots x q (list_any (nat_eq q) xs) low (h.below q) (sym (list_any-push (nat_eq q) xs x) ∙ held);
  room = omega (arith, h.room);
}

-- the last is among them
pub list_any-last : (x : ℕ) (xs : List ℕ) → list_any (nat_eq x) (xs ++ x ∷ []) ≡ true
list_any-last x xs =
    list_any-push (nat_eq x) xs x ∙ (λ i. nat_eq_equiv.refl x i || list_any (nat_eq x) xs)

-- the list after a pop, and what it gave
pub record IsPopped (slots capacity x : ℕ) (xs : List ℕ) : Type 0 where
  pub room : HasRoom slots xs capacity
  pub in_range : x < slots
  pub away : list_any (nat_eq x) xs ≡ false

pub popped : (slots capacity x : ℕ) (xs : List ℕ) → HasRoom slots (xs ++ x ∷ []) capacity
    → IsPopped slots capacity x xs
popped slots capacity x xs h =
    let parts = distinct_parts xs x h.once in
    record {
      room = record {
        once = parts.0;
        below = λ q held.
            h.below q (list_any-push (nat_eq q) xs x ∙ ap (λ b. nat_eq q x || b) held ∙ or-true (nat_eq q x));
        room = h.room;
      };
      in_range = h.below x (list_any-last x xs);
      away = parts.1;
    }

-- there is room for a slot that isn't held
pub room_left : (slots capacity x : ℕ) (xs : List ℕ) → HasRoom slots xs capacity → x < slots
    → list_any (nat_eq x) xs ≡ false → length xs < slots
room_left slots capacity x xs h low away =
    let more = pushed slots capacity capacity x xs h (omega arith) low away in
    let e : length (xs ++ x ∷ []) ≤ slots =
    length-le_from_distinct_below (xs ++ x ∷ []) slots more.once more.below in
    omega (arith, length-append {A = ℕ})

-- slots that were counted up from a number
pub list_any-range : (a n q : ℕ)
    → list_any (nat_eq q) (range_with_len a n) ≡ (nat_le a q && nat_lt q (a + n))
list_any-range a zero q = grind arith
list_any-range a (suc n) q = grind (arith, list_any-range (a + 1) n q)

-- no slot stands once
pub distinct_none : IsDistinct nat_eq []
unfolding IsDistinct
distinct_none = tt

-- what a pop gives, by the free slots before it and after it
pub record Picks (old new : FreeSet) (picked : Option ℕ) : Type 0 where
  pub held : IfSome picked (λ slot. set.contains old.held slot ≡ true)
  pub taken : IfSome picked (λ slot. new ≡ record { slots = old.slots; held = set.remove old.held slot })
  pub in_range : IfSome picked (λ slot. slot < old.slots)

-- a pop gives nothing just where there was nothing
pub nothing : (n : ℕ) (xs : List ℕ) (picked : Option ℕ) → n ≡ length xs → IsSome picked ↔ (0 < n) → IsNone picked ↔ (xs ≡ [])
nothing n [] None e some = (λ _. refl, λ _. refl)
nothing n (x ∷ xs) None e some = absurd (true≢false (sym (some.1 (omega arith))))
nothing n [] (Some x) e some = absurd (let bad : 0 < n = some.0 refl in omega (arith, bad, e))
nothing n (y ∷ xs) (Some x) e some = (λ is. absurd (true≢false is), λ is. absurd cc)
