-- The laws of the armed timers in order: what is read off the first of them.

use Rattle.std.proofs.Common.{arith, ◌≡◌, ◌∙◌, refl, sym, ap, subst, inl, inr, ℕ, zero, suc, ◌+◌, ◌-◌, ◌<◌, ◌≤◌, Bool, true, false, not, ◌&&◌, ◌⊎◌, nat_eq, nat_le, nat_lt, List, [], ◌∷◌, length, take, drop, Option, Some, None, eq-eqb, eqb-true}
use Rattle.std.proofs.lemmas.{Bool.{cases_Bool, cases_eq, cases_lt, and_parts, lt-leb, le-ltb, leb-false, ltb-false, true≢false, false≢true}, Option.same_Some}
use Rattle.std.specs.Prelude.{slice_get, IsTrue, ◌↔◌}
use Rattle.std.specs.{List.list_any, Ordering.is_gt, BTreeMap.is_at, BTreeSet.{BTreeSet, contains}}
use Rattle.ert_defs.specs.{Laws.is_armed, declared.timer.Status.Status, declared.timer.Status.TheVariants.{Armed, Expired, Delivered, Cancelled, Orphaned, Dropped}}
use Rattle.ert_judge.specs.{Wheels.is_settled, Indexes.{pair_cmp, is_armed_for, HasNoneBefore}, declared.state.wheels.Timer.Timer}
use Rattle.ert_judge.proofs.{PairLaws.pair_up_to, PlaceLaws.{slice_get_take, slice_get_taken, slice_get_drop}}

-- timers are settled where each that is armed fails the test
pub settled_if : (test : ℕ → Bool) (ts : List Timer)
    → ((p : ℕ) (t : Timer) → slice_get ts p ≡ Some t → t.status ≡ Armed → test t.row.deadline ≡ false)
    → is_settled test ts ≡ true
settled_if test [] each = refl
settled_if test (t ∷ ts) each =
    rw (settled_if test ts (λ p u stands armed. each (suc p) u stands armed)) (one t.status t.row.deadline (each 0 t refl))
  where
    one : (s : Status) (d : ℕ) → (s ≡ Armed → test d ≡ false) → (not (is_armed (Some s) && test d) && true) ≡ true
    one Armed d each = rw (each refl) refl
    one Expired d each = refl
    one Delivered d each = refl
    one Cancelled d each = refl
    one Orphaned d each = refl
    one Dropped d each = refl

-- and only there
pub settled_each : (test : ℕ → Bool) (ts : List Timer) → is_settled test ts ≡ true
    → (p : ℕ) (t : Timer) → slice_get ts p ≡ Some t → t.status ≡ Armed → test t.row.deadline ≡ false
settled_each test [] all p t stands armed = absurd cc
settled_each test (u ∷ ts) all zero t stands armed =
    let same : u ≡ t = same_Some u t stands in
    let parts = and_parts (not (is_armed (Some u.status) && test u.row.deadline)) (is_settled test ts) all in
    let here : not (is_armed (Some t.status) && test t.row.deadline) ≡ true = rw same at parts.0 in
    let there : not (test t.row.deadline) ≡ true = rw armed at here in
    elim (cases_Bool (test t.row.deadline)) [ inl passes ↦ absurd (let wrong = rw passes at there in cc) | inr fails ↦ fails ]
settled_each test (u ∷ ts) all (suc p) t stands armed =
    let parts = and_parts (not (is_armed (Some u.status) && test u.row.deadline)) (is_settled test ts) all in
    settled_each test ts parts.1 p t stands armed

-- an armed timer with a deadline
pub record ArmedFor (x : Option Timer) (d : ℕ) : Type 0 where
  pub timer : Timer
  pub is : x ≡ Some timer
  pub armed : timer.status ≡ Armed
  pub deadline : timer.row.deadline ≡ d

pub armed_for : (x : Option Timer) (d : ℕ) → is_armed_for x d ≡ true → ArmedFor x d
armed_for None d is = absurd cc
armed_for (Some t) d is =
    let parts = and_parts (is_armed (Some t.status)) (nat_eq t.row.deadline d) is in
    record { timer = t; is = refl; armed = armed_status t.status parts.0; deadline = eqb-true t.row.deadline d parts.1 }
  where
    armed_status : (s : Status) → is_armed (Some s) ≡ true → s ≡ Armed
    armed_status Armed e = refl
    armed_status Expired e = absurd cc
    armed_status Delivered e = absurd cc
    armed_status Cancelled e = absurd cc
    armed_status Orphaned e = absurd cc
    armed_status Dropped e = absurd cc

-- an armed timer is armed with its deadline
armed_for_own : (t : Timer) → t.status ≡ Armed → is_armed_for (Some t) t.row.deadline ≡ true
armed_for_own t armed = rw (armed, eq-eqb t.row.deadline t.row.deadline refl) refl

-- what a set of armed timers says of those of a wheel
abbrev pub Waits : List Timer → BTreeSet (ℕ × ℕ) → Type 0
Waits ts armed = (d p : ℕ) → contains pair_cmp armed (d, p) ≡ is_armed_for (slice_get ts p) d

-- no key of a set is below this one, which it has
pub record IsLeast (armed : BTreeSet (ℕ × ℕ)) (d p : ℕ) : Type 0 where
  pub member : IsTrue (contains pair_cmp armed (d, p))
  pub least : (q : ℕ × ℕ) → IsTrue (contains pair_cmp armed q) → is_gt (pair_cmp (d, p) q) ≡ false

-- so it is up to each armed timer
pub up_to_each : (ts : List Timer) (armed : BTreeSet (ℕ × ℕ)) (e o : ℕ) → Waits ts armed → IsLeast armed e o
    → (q : ℕ) (t : Timer) → slice_get ts q ≡ Some t → t.status ≡ Armed
    → (e < t.row.deadline) ⊎ ((e ≡ t.row.deadline) × (o ≤ q))
up_to_each ts armed e o waits first q t stands is =
    let member : contains pair_cmp armed (t.row.deadline, q) ≡ true =
    waits t.row.deadline q ∙ (ap (λ x. is_armed_for x t.row.deadline) stands ∙ armed_for_own t is) in
    pair_up_to e o t.row.deadline q (first.least (t.row.deadline, q) member)

-- and it is an armed timer itself
pub least_armed : (ts : List Timer) (armed : BTreeSet (ℕ × ℕ)) (e o : ℕ) → Waits ts armed → IsLeast armed e o
    → ArmedFor (slice_get ts o) e
least_armed ts armed e o waits first = armed_for (slice_get ts o) e (sym (waits e o) ∙ first.member)

-- where a set has no key, no timer is armed
not_armed : (ts : List Timer) (armed : BTreeSet (ℕ × ℕ)) → Waits ts armed
    → ((q : ℕ × ℕ) → contains pair_cmp armed q ≡ false)
    → (q : ℕ) (t : Timer) → slice_get ts q ≡ Some t → t.status ≡ Armed → ⊥
not_armed ts armed waits none q t stands is =
    let has : contains pair_cmp armed (t.row.deadline, q) ≡ true =
    waits t.row.deadline q ∙ (ap (λ x. is_armed_for x t.row.deadline) stands ∙ armed_for_own t is) in
    true≢false (sym has ∙ none (t.row.deadline, q))

-- so all is settled
pub settled_none : (test : ℕ → Bool) (ts : List Timer) (armed : BTreeSet (ℕ × ℕ)) → Waits ts armed
    → ((q : ℕ × ℕ) → contains pair_cmp armed q ≡ false) → is_settled test ts ≡ true
settled_none test ts armed waits none =
    settled_if test ts (λ q t stands is. absurd (not_armed ts armed waits none q t stands is))

-- none comes before a timer where the first of the armed ones doesn't
pub none_before : (ts : List Timer) (armed : BTreeSet (ℕ × ℕ)) (e o d p : ℕ) → Waits ts armed → IsLeast armed e o
    → (d < e) ⊎ ((d ≡ e) × (p ≤ o)) → HasNoneBefore ts p d
none_before ts armed e o d p waits first up = record {
  before = settled_if (λ x. nat_le x d) (take p ts) (λ q t stands is.
      let whole = slice_get_take ts p q t stands in
      let low = whole.0 in
      elim (up_to_each ts armed e o waits first q t whole.1 is) [
        | inl more ↦ elim up [
          | inl below ↦ lt-leb t.row.deadline d (omega arith)
          | inr level ↦ let h = level.0 in lt-leb t.row.deadline d (omega arith)
        ]
        | inr same ↦
            let h = same.0 in
            let k = same.1 in
            elim up [
              | inl below ↦ lt-leb t.row.deadline d (omega arith)
              | inr level ↦ let m = level.1 in absurd (omega arith)
            ]
      ]);
  behind = settled_if (λ x. nat_lt x d) (drop (p + 1) ts) (λ q t stands is.
      let whole : slice_get ts ((p + 1) + q) ≡ Some t = sym (slice_get_drop ts (p + 1) q) ∙ stands in
      elim (up_to_each ts armed e o waits first ((p + 1) + q) t whole is) [
        | inl more ↦ elim up [
          | inl below ↦ le-ltb t.row.deadline d (omega arith)
          | inr level ↦ let h = level.0 in le-ltb t.row.deadline d (omega arith)
        ]
        | inr same ↦
            let h = same.0 in
            elim up [
              | inl below ↦ le-ltb t.row.deadline d (omega arith)
              | inr level ↦ let m = level.0 in le-ltb t.row.deadline d (omega arith)
            ]
      ]);
}

-- and only there
pub first_up : (ts : List Timer) (armed : BTreeSet (ℕ × ℕ)) (e o p : ℕ) (t : Timer) → Waits ts armed → IsLeast armed e o
    → slice_get ts p ≡ Some t → HasNoneBefore ts p t.row.deadline
    → (t.row.deadline < e) ⊎ ((t.row.deadline ≡ e) × (p ≤ o))
first_up ts armed e o p t waits first stands none =
    let d : ℕ = t.row.deadline in
    let own = least_armed ts armed e o waits first in
    let at = own.deadline in
    elim (cases_lt o p) [
      | inl low ↦
          let passes = settled_each (λ x. nat_le x d) (take p ts) none.before o own.timer
          (slice_get_taken ts p o low ∙ own.is) own.armed in
          let above = leb-false own.timer.row.deadline d passes in
          inl (omega arith)
      | inr high ↦ elim (cases_eq o p) [
        | inl here ↦
            let same : own.timer ≡ t = same_Some own.timer t (sym own.is ∙ (ap (slice_get ts) here ∙ stands)) in
            inr (sym (ap (λ (u : Timer). u.row.deadline) same) ∙ at, omega arith)
        | inr there ↦
            let place : o ≡ (p + 1) + (o - (p + 1)) = omega arith in
            let stand : slice_get (drop (p + 1) ts) (o - (p + 1)) ≡ Some own.timer =
            slice_get_drop ts (p + 1) (o - (p + 1)) ∙ (ap (slice_get ts) (sym place) ∙ own.is) in
            let passes = settled_each (λ x. nat_lt x d) (drop (p + 1) ts) none.behind (o - (p + 1)) own.timer stand own.armed in
            let above = ltb-false own.timer.row.deadline d passes in
            elim (cases_lt d e) [ inl below ↦ inl below | inr level ↦ inr (omega arith, omega arith) ]
      ]
    ]

-- a set with no first key has none
pub no_key : (s : BTreeSet (ℕ × ℕ)) → (false ≡ true) ↔ (0 < length s.keys) → (q : ℕ × ℕ) → contains pair_cmp s q ≡ false
no_key s none q = ap (list_any (is_at (pair_cmp q))) (empty s.keys (λ low. false≢true (none.1 low)))
  where
    empty : (ks : List (ℕ × ℕ)) → (0 < length ks → ⊥) → ks ≡ []
    empty [] low = refl
    empty (k ∷ ks) low = absurd (low (omega arith))

-- whether none comes before a timer is read off the first of the armed ones
pub reads_first : (ts now : List Timer) (armed : BTreeSet (ℕ × ℕ)) (e o p : ℕ) (t : Timer) (b : Bool) → ts ≡ now
    → Waits ts armed → IsLeast armed e o → slice_get now p ≡ Some t
    → IsTrue b ↔ ((t.row.deadline < e) ⊎ ((t.row.deadline ≡ e) × (p ≤ o)))
    → IsTrue b ↔ HasNoneBefore now p t.row.deadline
reads_first ts now armed e o p t b same waits first stands is = (
  (λ holds. subst (λ us. HasNoneBefore us p t.row.deadline) same
      (none_before ts armed e o t.row.deadline p waits first (is.0 holds))),
  (λ none. is.1 (first_up ts armed e o p t waits first (ap (λ us. slice_get us p) same ∙ stands)
      (subst (λ us. HasNoneBefore us p t.row.deadline) (sym same) none))),
)

-- where none is armed, none comes before it
pub none_at_all : (ts now : List Timer) (armed : BTreeSet (ℕ × ℕ)) (d p : ℕ) → ts ≡ now → Waits ts armed
    → ((q : ℕ × ℕ) → contains pair_cmp armed q ≡ false) → HasNoneBefore now p d
none_at_all ts now armed d p same waits none =
    subst (λ us. HasNoneBefore us p d) same (record {
      before = settled_if (λ x. nat_le x d) (take p ts) (λ q t stands is.
          absurd (not_armed ts armed waits none q t (slice_get_take ts p q t stands).1 is));
      behind = settled_if (λ x. nat_lt x d) (drop (p + 1) ts) (λ q t stands is.
          absurd (not_armed ts armed waits none ((p + 1) + q) t (sym (slice_get_drop ts (p + 1) q) ∙ stands) is));
    })
