-- A tidy part has as many rows as there are armed timers of its wheel: each row is at the place of its order
-- among them, and each armed timer is held at its slot.

use Rattle.std.proofs.Common.{◌≡◌, ℕ, zero, suc, ◌+◌, ◌<◌, ◌≤◌, Bool, true, false, cond, List, [], ◌∷◌, length, map, count_by, sum_by, Option, Some, None, unwrap_or, option_map, refl, sym, ap, subst, ◌∙◌, arith, set, get_or, get_or-set_other}
use Rattle.std.proofs.lemmas.List.Sums.{sum_by-cons, sum_by-set}
use Rattle.std.specs.{List.slice_get, Option.is_some}
use Rattle.ert_defs.specs.{Laws.is_armed, States.{State, state}, Timers.Row, declared.timer.Status.Status, declared.timer.Status.TheVariants.Armed, declared.timer.TimerRef.TimerRef}
use Rattle.ert_laws.specs.Counts.{count_of, has_status}
use Rattle.ert_timers.specs.{Laws.LawOfTidyCounts, Parts.{HoldsRows, Part, held_row}, Tidy.IsTidy}
use Rattle.ert_timers.proofs.Dropped.{armed_is}
use Rattle.ert_wheel.specs.{Rows.key_in, declared.row.Key.Key}

-- how many timers of a wheel are armed
abbrev armed_of : State → ℕ → ℕ
armed_of s w = count_by (λ (row : Row). is_armed (s.status row.timer)) (s.rows w)

same_test : (x : Option Status) → is_armed x ≡ has_status Armed x
same_test None = refl
same_test (Some Armed) = refl
same_test (Some _) = refl

same_count : (status : TimerRef → Option Status) (rows : List Row)
    → count_by (λ (row : Row). is_armed (status row.timer)) rows ≡ count_of (has_status Armed) status rows
same_count status [] = refl
same_count status (r ∷ rows) =
    sum_by-cons (λ (row : Row). cond (is_armed (status row.timer)) 1 0) r rows
    ∙ (ap (λ b. cond b 1 0 + sum_by (λ (row : Row). cond (is_armed (status row.timer)) 1 0) rows) (same_test (status r.timer))
    ∙ ap (λ n. cond (has_status Armed (status r.timer)) 1 0 + n) (same_count status rows))

-- how many of these are true
abbrev trues : List Bool → ℕ
trues bs = count_by (λ (b : Bool). b) bs

abbrev IsTrueAt : List Bool → ℕ → Type 0
IsTrueAt bs i = get_or bs i false ≡ true

true_low : (bs : List Bool) (i : ℕ) → IsTrueAt bs i → i < length bs
true_low [] i is = absurd cc
true_low (b ∷ bs) zero is = omega arith
true_low (b ∷ bs) (suc i) is = omega (arith, true_low bs i is)

-- one less when one of them is made false
trues_less : (bs : List Bool) (i : ℕ) → IsTrueAt bs i → trues (set bs i false) + 1 ≡ trues bs
trues_less bs i is =
    let one : ◌≡◌ {A = ℕ} (cond (get_or bs i false) 1 0) 1 = ap (λ b. cond b 1 0) is in
    omega (arith, one, sum_by-set (λ (b : Bool). cond b 1 0) bs i false false (true_low bs i is))

-- where each place that is true in one list has one of its own that is true in another, there are no more
trues_most : (xs ys : List Bool) (f : ℕ → ℕ) → ((i : ℕ) → IsTrueAt xs i → IsTrueAt ys (f i))
    → ((i j : ℕ) → IsTrueAt xs i → IsTrueAt xs j → f i ≡ f j → i ≡ j) → trues xs ≤ trues ys
trues_most [] ys f to apart = omega arith
trues_most (false ∷ xs) ys f to apart =
    omega (
      arith,
      sum_by-cons (λ (b : Bool). cond b 1 0) false xs,
      trues_most xs ys (λ i. f (suc i)) (λ i is. to (suc i) is)
          (λ i j is js same. (let e : suc i ≡ suc j = apart (suc i) (suc j) is js same in omega (arith, e))),
    )
trues_most (true ∷ xs) ys f to apart =
    let first : IsTrueAt ys (f zero) = to zero refl in
    omega (
      arith,
      sum_by-cons (λ (b : Bool). cond b 1 0) true xs,
      trues_less ys (f zero) first,
      trues_most xs (set ys (f zero) false) (λ i. f (suc i))
          (λ i is.
          get_or-set_other ys (f zero) (f (suc i)) false false
          (λ same. (let e : suc i ≡ zero = apart (suc i) zero is refl same in absurd (omega (arith, e)))) ∙ to (suc i) is)
          (λ i j is js same. (let e : suc i ≡ suc j = apart (suc i) (suc j) is js same in omega (arith, e))),
    )

-- whether each element passes a test
abbrev marks : {X : Type 0} → (X → Bool) → List X → List Bool
marks test xs = map test xs

trues_of : {X : Type 0} (test : X → Bool) (xs : List X) → trues (marks test xs) ≡ count_by test xs
trues_of test [] = refl
trues_of test (x ∷ xs) =
    sum_by-cons (λ (b : Bool). cond b 1 0) (test x) (marks test xs)
    ∙ (ap (λ n. cond (test x) 1 0 + n) (trues_of test xs) ∙ sym (sum_by-cons (λ y. cond (test y) 1 0) x xs))

-- the place of a true mark has an element that passes the test
mark_at : {X : Type 0} (test : X → Bool) (xs : List X) (i : ℕ) → IsTrueAt (marks test xs) i
    → (x : X) × (slice_get xs i ≡ Some x) × (test x ≡ true)
mark_at test [] i is = absurd cc
mark_at test (x ∷ xs) zero is = (x, refl, is)
mark_at test (x ∷ xs) (suc i) is = mark_at test xs i is

mark_of : {X : Type 0} (test : X → Bool) (xs : List X) (i : ℕ) (x : X) → slice_get xs i ≡ Some x → test x ≡ true → IsTrueAt (marks test xs) i
mark_of test [] i x at is = absurd cc
mark_of test (y ∷ xs) zero x at is =
    let e : y ≡ x = cc in
    ap test e ∙ is
mark_of test (y ∷ xs) (suc i) x at is = mark_of test xs i x at is

-- the same of keys
key_mark : (keys : List (Option Key)) (k : ℕ) → IsTrueAt (marks is_some keys) k → (key : Key) × (key_in keys k ≡ Some key)
key_mark [] k is = absurd cc
key_mark (None ∷ keys) zero is = absurd cc
key_mark (Some key ∷ keys) zero is = (key, refl)
key_mark (o ∷ keys) (suc k) is = key_mark keys k is

mark_key : (keys : List (Option Key)) (k : ℕ) (key : Key) → key_in keys k ≡ Some key → IsTrueAt (marks is_some keys) k
mark_key [] k key is = absurd cc
mark_key (o ∷ keys) zero key is = ap is_some is
mark_key (o ∷ keys) (suc k) key is = mark_key keys k key is

abbrev no_key : Key
no_key = record { deadline = 0; order = 0 }

-- the order of a slot's row, and the slot of the row at a place
abbrev order_at : List (Option Key) → ℕ → ℕ
order_at keys k = (unwrap_or (key_in keys k) no_key).order

abbrev slot_of : List Row → ℕ → ℕ
slot_of rows n = unwrap_or (option_map (λ (r : Row). r.timer.slot) (slice_get rows n)) 0

module _ (s : State) (p : Part) (holds : HoldsRows s p.number p.slots p.keys) (tidy : IsTidy s p) where
  abbrev rows : List Row
  rows = s.rows p.number

  abbrev armed : Row → Bool
  armed row = is_armed (s.status row.timer)

  order_is : (k : ℕ) (key : Key) → key_in p.keys k ≡ Some key → order_at p.keys k ≡ key.order
  order_is k key is = ap (λ o. (unwrap_or o no_key).order) is

  slot_is : (n : ℕ) (row : Row) → slice_get rows n ≡ Some row → slot_of rows n ≡ row.timer.slot
  slot_is n row at = ap (λ o. unwrap_or (option_map (λ (r : Row). r.timer.slot) o) 0) at

  keys_few : count_by is_some p.keys ≤ count_by armed rows
  keys_few =
      let most =
      trues_most (marks is_some p.keys) (marks armed rows) (order_at p.keys) (λ k is.
      let held = key_mark p.keys k is in
      subst (IsTrueAt (marks armed rows)) (sym (order_is k held.0 held.1))
      (mark_of armed rows held.0.order (held_row p.number p.slots k held.0) (holds.each k held.0 held.1)
      (ap is_armed (tidy k held.0 held.1))))
      (λ k j is js same.
      let held = key_mark p.keys k is in
      let other = key_mark p.keys j js in
      let orders : held.0.order ≡ other.0.order = sym (order_is k held.0 held.1) ∙ (same ∙ order_is j other.0 other.1) in
      let both : Some (held_row p.number p.slots k held.0) ≡ Some (held_row p.number p.slots j other.0) =
      sym (holds.each k held.0 held.1) ∙ (ap (slice_get rows) orders ∙ holds.each j other.0 other.1) in
      ap (λ (o : Option Row). unwrap_or (option_map (λ (r : Row). r.timer.slot) o) 0) both) in
      omega (arith, most, trues_of is_some p.keys, trues_of armed rows)

  rows_few : count_by armed rows ≤ count_by is_some p.keys
  rows_few =
      let most =
      trues_most (marks armed rows) (marks is_some p.keys) (slot_of rows) (λ n is.
      let row = mark_at armed rows n is in
      subst (IsTrueAt (marks is_some p.keys)) (sym (slot_is n row.0 row.1))
      (mark_key p.keys row.0.timer.slot (record { deadline = row.0.deadline; order = n })
      (holds.armed n row.0 row.1 (armed_is (s.status row.0.timer) row.2))))
      (λ n m is js same.
      let row = mark_at armed rows n is in
      let other = mark_at armed rows m js in
      let slots : row.0.timer.slot ≡ other.0.timer.slot = sym (slot_is n row.0 row.1) ∙ (same ∙ slot_is m other.0 other.1) in
      let mine = holds.armed n row.0 row.1 (armed_is (s.status row.0.timer) row.2) in
      let its = holds.armed m other.0 other.1 (armed_is (s.status other.0.timer) other.2) in
      sym (ap (λ o. (unwrap_or o no_key).order) mine) ∙ (ap (order_at p.keys) slots ∙ ap (λ o. (unwrap_or o no_key).order) its)) in
      omega (arith, most, trues_of is_some p.keys, trues_of armed rows)

  pub held_armed : count_by is_some p.keys ≡ armed_of s p.number
  held_armed = omega (arith, keys_few, rows_few)

pub tidy_counts : LawOfTidyCounts
tidy_counts g h p stands tidy =
    held_armed (state g h) p stands.holds.rows tidy ∙ same_count (state g h).status ((state g h).rows p.number)
