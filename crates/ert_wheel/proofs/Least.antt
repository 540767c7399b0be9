-- The least deadline of a bucket, and how early one of its rows may be due.

use Rattle.std.proofs.Common.{◌≡◌, ◌≢◌, ℕ, ◌+◌, ◌<◌, ◌≤◌, ◌^◌, ◌⊎◌, min, zero, suc, cond, count_by, List, [], ◌∷◌, Bool, true, false, Option, Some, None, IfNone, IfSome, MatchOption, length, get_or, sym, subst, ◌∙◌, ap, inl, inr, refl, arith}
use Rattle.std.proofs.lemmas.{Bool.{cases_eq, cases_lt}, List.Sums.sum_by-cons}
use Rattle.std.specs.Option.{is_some, IsSome}
use Rattle.ert_wheel.proofs.Looking.{InBucket, Steps, key_low, found, at_key}
use Rattle.ert_wheel.specs.{NextDue.{NoRow, HasSomeRow, IsDueIn, IsLeastIn}, Rings.{Rings, Place, AreChains, bound_of, order_of, Finds}, Rows.key_in, Wheels.{held_keys, place_of, places}, declared.row.Key.Key}

-- where none is counted there is no row, and else there is one
pub no_row : (keys : List (Option Key)) → count_by is_some keys ≡ 0 → NoRow keys
no_row [] none slot = refl
no_row (Some key ∷ keys) none slot =
    absurd (omega (arith, sum_by-cons (λ (o : Option Key). cond (is_some o) 1 0) (Some key) keys))
no_row (None ∷ keys) none zero = refl
no_row (None ∷ keys) none (suc slot) =
    no_row keys (omega (arith, sum_by-cons (λ (o : Option Key). cond (is_some o) 1 0) None keys)) slot

pub has_row : (keys : List (Option Key)) → count_by is_some keys ≢ 0 → HasSomeRow keys
has_row [] some = absurd (some refl)
has_row (Some key ∷ keys) some = record { slot = 0; key = key; has = refl }
has_row (None ∷ keys) some =
    let row : HasSomeRow keys =
    has_row keys (λ none. some (omega (arith, sum_by-cons (λ (o : Option Key). cond (is_some o) 1 0) None keys))) in
    record { slot = suc row.slot; key = row.key; has = row.has }

-- the chain was walked down to the slot that comes next
pub record IsPassed (keys : List (Option Key)) (spot : Key → Place) (bucket bound : ℕ) (next : Option ℕ) (least : ℕ) : Type 0 where
  pub low : least ≤ bound
  pub passed : (j : ℕ) (key : Key) → key_in keys j ≡ Some key → (spot key).home ≡ bucket
      → bound_of (places spot keys) next ≤ (spot key).order → least ≤ key.deadline
  pub near : IsDueIn keys spot bucket least ⊎ (least ≡ bound)
  pub stands : IfSome next (InBucket keys spot bucket)

-- the slot of a key has this place
pub at_place : (keys : List (Option Key)) (spot : Key → Place) (j : ℕ) (key : Key) → key_in keys j ≡ Some key
    → places spot keys j ≡ Some (spot key)
at_place keys spot j key has = ap (place_of spot) has

-- the walk begins at the newest
pub passes_none : (chains : Rings) (keys : List (Option Key)) (spot : Key → Place) (bucket bound : ℕ) (next : Option ℕ)
    → length keys ≡ chains.slots → AreChains chains (places spot keys)
    → Finds chains (places spot keys) bucket (2 ^ 64) next → IsPassed keys spot bucket bound next bound
passes_none chains keys spot bucket bound next slots are f = record {
  low = omega arith;
  passed = λ j key has same high.
      let low : j < chains.slots = omega (arith, slots, key_low keys j key has) in
      let place : Place = spot key in
      absurd (omega (
        arith,
        f.greatest j place low (at_place keys spot j key has) same (are.orders j place (at_place keys spot j key has)),
      ));
  near = inr refl;
  stands = found chains keys spot bucket (2 ^ 64) next f;
}

-- a step of the walk
passes_key : (chains : Rings) (keys : List (Option Key)) (spot : Key → Place) (bucket bound slot least : ℕ) (key : Key) (next : Option ℕ)
    → length keys ≡ chains.slots → AreChains chains (places spot keys)
    → IsPassed keys spot bucket bound (Some slot) least → key_in keys slot ≡ Some key → (spot key).home ≡ bucket
    → Finds chains (places spot keys) bucket (spot key).order next
    → IsPassed keys spot bucket bound next (min least key.deadline)
passes_key chains keys spot bucket bound slot least key next slots are p has at_home f =
    let here : bound_of (places spot keys) (Some slot) ≡ (spot key).order + 1 =
    ap (λ (o : Option Key). order_of (place_of spot o) + 1) has in
    record {
      low = omega (arith, p.low);
      passed = λ j other is same high.
          let low : j < chains.slots = omega (arith, slots, key_low keys j other is) in
          elim (cases_lt (spot other).order (spot key).order) [
            | inl less ↦
                absurd (omega (arith, f.greatest j (spot other) low (at_place keys spot j other is) same less))
            | inr more ↦
                elim (cases_eq (spot other).order (spot key).order) [
                  | inl e ↦
                      let one : j ≡ slot =
                      are.once j slot (spot other) (spot key)
                      (at_place keys spot j other is) (at_place keys spot slot key has) e in
                      let some : Some other ≡ Some key = sym is ∙ ap (key_in keys) one ∙ has in
                      let same_key : other ≡ key = cc in
                      let it : other.deadline ≡ key.deadline = ap (λ (k : Key). k.deadline) same_key in
                      omega arith
                  | inr ne ↦ omega (arith, p.passed j other is same (omega (arith, here)))
                ]
          ];
      near = elim (cases_lt key.deadline least) [
        | inl less ↦ inl (record { slot = slot; key = key; has = has; at_home = at_home; at = omega arith })
        | inr more ↦
            let e : least ≡ min least key.deadline = omega arith in
            subst (λ n. IsDueIn keys spot bucket n ⊎ (n ≡ bound)) e p.near
      ];
      stands = found chains keys spot bucket (spot key).order next f;
    }

-- the key that is read there passes
pub steps_on : (chains : Rings) (stored : List Key) (spot : Key → Place) (bucket bound slot : ℕ) (here next : Option ℕ) (least : ℕ) (d : Key)
    → Steps chains stored spot bucket slot here next → IsPassed (held_keys chains stored) spot bucket bound here least
    → IsPassed (held_keys chains stored) spot bucket bound next (min least (get_or stored slot d).deadline)
steps_on chains stored spot bucket bound slot here next least d t p =
    let a = at_key chains stored spot bucket slot here next d t in
    passes_key chains (held_keys chains stored) spot bucket bound slot least (get_or stored slot d) next t.slots t.are
    (subst (λ (o : Option ℕ). IsPassed (held_keys chains stored) spot bucket bound o least) t.is p) a.has a.at_home a.follows

-- the walk ends where nothing comes next
pub passes_all : (keys : List (Option Key)) (spot : Key → Place) (bucket bound : ℕ) (here : Option ℕ) (least : ℕ) → here ≡ None
    → IsPassed keys spot bucket bound here least → IsLeastIn keys spot bucket bound least
passes_all keys spot bucket bound here least is passed =
    let p : IsPassed keys spot bucket bound None least =
    subst (λ (o : Option ℕ). IsPassed keys spot bucket bound o least) is passed in
    record {
      low = p.low;
      below = λ j key has same. p.passed j key has same (omega arith);
      near = p.near;
    }

-- a walk without a bound isn't given up, and so it has an answer
pub never_over : (A : Type 0) (most : Option ℕ) (over : Bool) → IfNone most (over ≡ false) → over ≡ true → IfNone most (IsSome (let none : Option A = None in none))
never_over A None over never is = (let clash : true ≡ false = sym is ∙ never in absurd cc)
never_over A (Some n) over never is = tt

pub is_answered : {A : Type 0} (most : Option ℕ) (least : A) → IfNone most (IsSome (Some least))
is_answered None least = refl
is_answered (Some n) least = tt

pub answer_is : {A : Type 0} (P : Type 0) {X Q : A → Type 0} (answer : Option A) → IsSome answer → IfSome answer X → ((a : A) → X a → Q a) → MatchOption answer P Q
answer_is P None some least f = (let clash : false ≡ true = some in absurd cc)
answer_is P (Some a) some least f = f a least
