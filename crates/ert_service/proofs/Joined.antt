-- Seats that are joined one after the other.

use Rattle.std.proofs.Common.{◌≡◌, ℕ, zero, suc, ◌+◌, ◌<◌, true, List, [], ◌∷◌, ◌++◌, length, slice_index_or, subst, ◌∙◌, arith, append_assoc, length-append}
use borrow.Author.Count.{below_more}
use Rattle.std.specs.Prelude.{All}
use Rattle.std.proofs.lemmas.List.Elements.{All-append}
use Rattle.ert_defs.specs.declared.entry.Actor.{Actor}
use Rattle.ert_locks.proofs.Lent.{holds_self}
use Rattle.ert_service.proofs.Gathered.{seen_then, seen_left, seen_right}
use Rattle.ert_service.specs.{Gathering.IsSeen, Joining.JoinsSeats}
use Rattle.ert_table.specs.{Held.is_held, Views.{Joined, meeting}, declared.view.View.View}

pub all_as : {S : Type 0} (P Q : S → Type 0) (xs : List S) → ((x : S) → P x → Q x) → All P xs → All Q xs
all_as P Q xs gives all = λ k d low. gives (slice_index_or xs k d) (all k d low)

all_one : {S : Type 0} (P : S → Type 0) (x : S) → P x → All P (x ∷ [])
all_one P x one zero d low = one
all_one P x one (suc k) d low = absurd (omega (arith, low))

all_more : {S : Type 0} (P : S → Type 0) (xs : List S) (x : S) → All P xs → P x → All P (xs ++ x ∷ [])
all_more P xs x all one = All-append P xs (x ∷ []) all (all_one P x one)

pub joins_next : {S : Type 0} {number : S → ℕ} {view : S → View} {sort : ℕ → Actor} {count : ℕ} {v : View} {joined items left seats : List S} {x : S} (j : View)
    → items ≡ x ∷ left → j.actors ≡ v.actors ++ (view x).actors → Joined (meeting v (view x)) j.front → (view x).actors ≡ sort (number x) ∷ []
    → JoinsSeats number view sort count v joined items seats → JoinsSeats number view sort count j (joined ++ x ∷ []) left seats
joins_next {S} {number} {view} {sort} {count} {v} {joined} {items} {left} {seats} {x} j is actors met own joins = record {
  all = append_assoc joined (x ∷ []) left ∙ now.all;
  sum = let s : length joined + suc (length left) ≡ count = now.sum in omega (arith, s, longer);
  seen = all_more (λ s. IsSeen (view s) j) joined x
      (all_as (λ s. IsSeen (view s) v) (λ s. IsSeen (view s) j) joined (λ s seen. seen_then seen before) now.seen) here;
  each = λ i d low.
      let later = now.each (suc i) d (omega (arith, low)) in
      shift (number (slice_index_or left i d)) i (length joined) (length (joined ++ x ∷ [])) longer later;
  held = λ i low. below_more (λ n. is_held j.actors (sort n) ≡ true) (length joined) (λ n below. before.held (sort n) (now.held n below)) mine i
      (subst (λ n. i < n) longer low);
}
  where
    now : JoinsSeats number view sort count v joined (x ∷ left) seats
    now = subst (λ l. JoinsSeats number view sort count v joined l seats) is joins

    longer : length (joined ++ x ∷ []) ≡ length joined + 1
    longer = length-append joined (x ∷ [])

    before : IsSeen v j
    before = seen_left v (view x) j actors met

    here : IsSeen (view x) j
    here = seen_right v (view x) j actors met

    plain : (a b : ℕ) → a ≡ b + 0 → a ≡ b
    plain a b e = omega (arith, e)

    mine : is_held j.actors (sort (length joined)) ≡ true
    mine = subst (λ n. is_held j.actors (sort n) ≡ true) (plain (number x) (length joined) (now.each 0 x (omega arith)))
        (here.held (sort (number x)) (rw own (holds_self (sort (number x)))))

    shift : (n i a b : ℕ) → b ≡ a + 1 → n ≡ a + suc i → n ≡ b + i
    shift n i a b more e = omega (arith, more, e)

-- the next seat: its number
pub next_named : {S : Type 0} {number : S → ℕ} {view : S → View} {sort : ℕ → Actor} {count : ℕ} {v : View} {joined items left seats : List S} {x : S}
    → items ≡ x ∷ left → JoinsSeats number view sort count v joined items seats → (number x ≡ length joined) × (length joined < count)
next_named {number = number} {view = view} {sort = sort} {count = count} {v = v} {joined = joined} {left = left} {seats = seats} {x = x} is joins =
    let now : JoinsSeats number view sort count v joined (x ∷ left) seats = subst (λ l. JoinsSeats number view sort count v joined l seats) is joins in
    let one = now.each 0 x (omega arith) in
    let sum : length joined + suc (length left) ≡ count = now.sum in
    (plain (number x) (length joined) one, omega (arith, sum))
  where
    plain : (a b : ℕ) → a ≡ b + 0 → a ≡ b
    plain a b e = omega (arith, e)

pub one_longer : {S : Type 0} (xs : List S) (x : S) → length (xs ++ x ∷ []) ≡ length xs + 1
one_longer xs x = length-append xs (x ∷ [])
