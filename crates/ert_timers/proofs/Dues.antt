-- The rows that are due, while they are tried one after the other.

use Rattle.std.proofs.Common.{◌≡◌, ◌≢◌, ℕ, zero, suc, ◌+◌, ◌<◌, ◌≤◌, ℤ, pos, ◌≤ℤ◌, Bool, true, false, cond, nat_eq, nat_lt, nat_le, List, [], ◌∷◌, ◌++◌, length, take, drop, All, Option, Some, None, IfSome, refl, sym, ap, subst, ◌∙◌, arith, drop-cons, set, get_or, get_or-set_same, get_or-set_other, inl, inr, eq-eqb, ne_eqb, ◌⊎◌}
use Rattle.std.proofs.lemmas.{Bool.{cases_eq, cases_lt, le-leb, leb-true, ltb-true}, Bool.Decides.{nat_tests, leb_tells}, Int.ints, List.{get_or-map, length-map}, List.Elements.{All-head, All-tail, All-cons, All-nil}}
use Rattle.std.specs.{Bool.OnTrue, List.slice_get}
use Rattle.std.specs.Prelude.{MatchBool, not}
use Rattle.ert_defs.specs.{Legal.{AllSettled, IsNext}, Milliseconds.down, States.{State, state}, Timers.Row, declared.entry.Actor.TheVariants.Sched, declared.entry.Entry.Entry, declared.settings.Settings.Settings}
use Rattle.ert_defs.specs.{declared.timer.Status.Status, declared.timer.Status.TheVariants.Armed, declared.timer.TimerRef.TimerRef}
use Rattle.ert_defs.proofs.Lists.{pairs_head, pairs_tail}
use Rattle.ert_timers.specs.{Changes.let_go, Expiring.{AreDue, IsReady, timer_of}, Parts.{Part, PartStands, last_timer}}
use Rattle.ert_wheel.specs.{FirstDue.{NoRowDue, IsFirstRowDue, MayBeDue}, Rows.{key_in, key_of, order_of_key, row_told, rows_told, times, due_count, comes_before, row_at}, declared.row.Key.Key, declared.row.HeldRow.HeldRow}
use Rattle.ert_wheel.specs.{declared.row.Row.Row as WheelRow}
use Rattle.ert_wheel.proofs.{Looking.key_low, Lists.times-cons}

-- a list is what stands before a place, what stands at it, and what stands behind
parted : (rows : List Row) (n : ℕ) (row : Row) → slice_get rows n ≡ Some row → rows ≡ take n rows ++ (row ∷ drop (n + 1) rows)
parted [] n row at = absurd cc
parted (r ∷ rows) zero row at =
    let e : r ≡ row = cc in
    ap (λ x. x ∷ rows) e
parted (r ∷ rows) (suc n) row at =
    let here : suc n + 1 ≡ suc (n + 1) = omega arith in
    subst (λ m. r ∷ rows ≡ r ∷ (take n rows ++ (row ∷ drop m (r ∷ rows)))) (sym here) (ap (λ x. r ∷ x) (parted rows n row at))

-- the rows before a place and behind it stand where they stood
before_at : (rows : List Row) (n j : ℕ) (row : Row) → slice_get (take n rows) j ≡ Some row → (j < n) × (slice_get rows j ≡ Some row)
before_at rows zero j row at = absurd (none j at)
  where
    none : (j : ℕ) → slice_get (take zero rows) j ≡ Some row → ⊥
    none j at = cc
before_at [] (suc n) j row at = absurd cc
before_at (r ∷ rows) (suc n) zero row at = (omega arith, at)
before_at (r ∷ rows) (suc n) (suc j) row at =
    let more = before_at rows n j row at in
    (omega (arith, more.0), more.1)

behind_at : (rows : List Row) (n j : ℕ) (row : Row) → slice_get (drop n rows) j ≡ Some row → slice_get rows (n + j) ≡ Some row
behind_at rows zero j row at = subst (λ m. slice_get rows m ≡ Some row) (let e : j ≡ zero + j = omega arith in e) at
behind_at [] (suc n) j row at = absurd cc
behind_at (r ∷ rows) (suc n) j row at =
    let e : suc (n + j) ≡ suc n + j = omega arith in
    subst (λ m. slice_get (r ∷ rows) m ≡ Some row) e (behind_at rows n j row at)

-- rows are settled where each that passes the test isn't armed
settled_by : (status : TimerRef → Option Status) (test : ℕ → Bool) (rows : List Row)
    → ((n : ℕ) (row : Row) → slice_get rows n ≡ Some row → test row.deadline ≡ true → status row.timer ≢ Some Armed) → AllSettled status test rows
settled_by status test [] each = tt
settled_by status test (r ∷ rows) each = (each 0 r refl, settled_by status test rows (λ n row at. each (n + 1) row (later n row at)))
  where
    later : (n : ℕ) (row : Row) → slice_get rows n ≡ Some row → slice_get (r ∷ rows) (n + 1) ≡ Some row
    later n row at =
        let e : suc n ≡ n + 1 = omega arith in
        subst (λ m. slice_get (r ∷ rows) m ≡ Some row) e at

-- a slot that is due stands among the rows
slot_in : (k : ℕ) (rows : List WheelRow) → 1 ≤ times k rows → (P : WheelRow → Type 0) → All P rows → (row : WheelRow) × (row.slot ≡ k) × P row
slot_in k [] once P all = absurd (omega (arith, once))
slot_in k (r ∷ rows) once P all =
    elim (cases_eq r.slot k) [
      | inl same ↦ (r, same, All-head P r rows all)
      | inr other ↦
          let none : ◌≡◌ {A = ℕ} (cond (nat_eq r.slot k) 1 0) 0 = ap (λ b. cond b 1 0) (ne_eqb r.slot k other) in
          slot_in k rows (omega (arith, once, times-cons r rows k)) P (All-tail P r rows all)
    ]

due_some : (to : ℕ) (o : Option Key) (key : Key) → o ≡ Some key → key.deadline ≤ to → due_count to o ≡ 1
due_some to o key is low =
    ap (due_count to) is ∙ ap (λ b. cond b 1 0) (le-leb key.deadline to low)

some_due : (to : ℕ) (o : Option Key) (key : Key) → o ≡ Some key → 1 ≤ due_count to o → key.deadline ≤ to
some_due to o key is due = at (nat_le key.deadline to) refl
  where
    at : (b : Bool) → nat_le key.deadline to ≡ b → key.deadline ≤ to
    at true le = leb-true key.deadline to le
    at false le =
        let none : ◌≡◌ {A = ℕ} (due_count to o) 0 = ap (due_count to) is ∙ ap (λ b. cond b 1 0) le in
        absurd (omega (arith, due, none))

due_none : (to : ℕ) (o : Option Key) → due_count to o ≡ 0 → IfSome o (λ key. to < key.deadline)
due_none to None is = tt
due_none to (Some key) is =
    elim (cases_lt to key.deadline) [
      | inl low ↦ low
      | inr high ↦
          let one : ◌≡◌ {A = ℕ} (due_count to (Some key)) 1 = due_some to (Some key) key refl high in
          absurd (omega (arith, one, is))
    ]

due_most : (to : ℕ) (o : Option Key) → due_count to o ≤ 1
due_most to None = omega arith
due_most to (Some key) = at (nat_le key.deadline to)
  where
    at : (b : Bool) → cond b 1 0 ≤ 1
    at true = omega arith
    at false = omega arith

some_same : (a b : Key) → Some a ≡ Some b → a ≡ b
some_same a b is = cc

-- a row comes before another
before_is : (x y : WheelRow) → (x.deadline < y.deadline) ⊎ ((x.deadline ≡ y.deadline) × (x.order < y.order)) → comes_before x y ≡ true
before_is x y (inl low) = grind (arith, nat_tests)
before_is x y (inr same) = grind (arith, nat_tests)

-- the timer of a row that is held and due is the next to expire where no armed timer comes before it
pub next_of : (g : Settings) (h : List Entry) (p : Part) (to : ℕ) (r : WheelRow) → PartStands g h p
    → pos to ≡ down g ((state g h).looked (Sched p.number)) → key_in p.keys r.slot ≡ Some (key_of r) → r.deadline ≤ to
    → ((n : ℕ) (row : Row) → slice_get ((state g h).rows p.number) n ≡ Some row → (state g h).status row.timer ≡ Some Armed
    → comes_before (row_at row.timer.slot (record { deadline = row.deadline; order = n })) r ≡ true → row.deadline ≤ r.deadline → n ≢ r.order
    → ⊥)
    → IsNext g (state g h) (Sched p.number) (last_timer p.number p.slots r.slot)
next_of g h p to r stands told held due none_before =
    let s : State = state g h in
    let rows : List Row = s.rows p.number in
    let row : Row = timer_of p r in
    let at : slice_get rows r.order ≡ Some row = stands.holds.rows.each r.slot (key_of r) held in
    record {
      before = take r.order rows;
      row = row;
      behind = drop (r.order + 1) rows;
      stands = parted rows r.order row at;
      named = refl;
      due = subst (λ (x : ℤ). pos r.deadline ≤ℤ x) told (omega (arith, ints, due));
      first_before = settled_by s.status (λ d. nat_le d r.deadline) (take r.order rows) (λ n x at test armed.
          let there = before_at rows r.order n x at in
          let low : x.deadline ≤ r.deadline = leb-true x.deadline r.deadline test in
          none_before n x there.1 armed (before_is (row_at x.timer.slot (record { deadline = x.deadline; order = n })) r (order x.deadline n low there.0)) low (omega (arith, there.0)));
      first_behind = settled_by s.status (λ d. nat_lt d r.deadline) (drop (r.order + 1) rows) (λ n x at test armed.
          let low : x.deadline < r.deadline = ltb-true x.deadline r.deadline test in
          none_before ((r.order + 1) + n) x (behind_at rows (r.order + 1) n x at) armed (before_is (row_at x.timer.slot (record { deadline = x.deadline; order = (r.order + 1) + n })) r (inl low)) (omega (arith, low))
          (omega arith));
    }
  where
    order : (d n : ℕ) → d ≤ r.deadline → n < r.order → (d < r.deadline) ⊎ ((d ≡ r.deadline) × (n < r.order))
    order d n low high = elim (cases_lt d r.deadline) [ inl less ↦ inl less | inr more ↦ inr (omega (arith, low, more), high) ]

module _ (g : Settings) (h : List Entry) (p : Part) (to : ℕ) (r : WheelRow) (rest : List WheelRow) (ready : IsReady g h p to (r ∷ rest)) where
  pub first_held : key_in p.keys r.slot ≡ Some (key_of r)
  first_held = All-head (λ row. key_in p.keys row.slot ≡ Some (key_of row)) r rest ready.due.held

  pub first_due : r.deadline ≤ to
  first_due =
      let one : ◌≡◌ {A = ℕ} (cond (nat_eq r.slot r.slot) 1 0) 1 = ap (λ b. cond b 1 0) (eq-eqb r.slot r.slot refl) in
      some_due to (key_in p.keys r.slot) (key_of r) first_held (omega (arith, ready.due.each r.slot, times-cons r rest r.slot, one))

  -- no armed timer comes before the first due row
  none_before : (n : ℕ) (row : Row) → slice_get ((state g h).rows p.number) n ≡ Some row → (state g h).status row.timer ≡ Some Armed
      → comes_before (row_at row.timer.slot (record { deadline = row.deadline; order = n })) r ≡ true → row.deadline ≤ r.deadline → n ≢ r.order
      → ⊥
  none_before n row at armed before low other =
      let key : Key = record { deadline = row.deadline; order = n } in
      let held : key_in p.keys row.timer.slot ≡ Some key = ready.stands.holds.rows.armed n row at armed in
      let due : due_count to (key_in p.keys row.timer.slot) ≡ 1 = due_some to (key_in p.keys row.timer.slot) key held (omega (arith, low, first_due)) in
      let apart : r.slot ≢ row.timer.slot =
      λ same. (let e : Some (key_of r) ≡ Some key = sym first_held ∙ (ap (key_in p.keys) same ∙ held) in
      other (sym (ap (λ (k : Key). k.order) (some_same (key_of r) key e)))) in
      let none : ◌≡◌ {A = ℕ} (cond (nat_eq r.slot row.timer.slot) 1 0) 0 = ap (λ b. cond b 1 0) (ne_eqb r.slot row.timer.slot apart) in
      let found =
      slot_in row.timer.slot rest (omega (arith, ready.due.each row.timer.slot, times-cons r rest row.timer.slot, none, due))
      (λ y. (key_in p.keys y.slot ≡ Some (key_of y)) × (comes_before y r ≡ false))
      (both (λ y. key_in p.keys y.slot ≡ Some (key_of y)) (λ y. comes_before y r ≡ false) rest
      (All-tail (λ row. key_in p.keys row.slot ≡ Some (key_of row)) r rest ready.due.held)
      (pairs_head (λ x y. comes_before y x ≡ false) r rest ready.due.in_order)) in
      let keys : Some (key_of found.0) ≡ Some key = sym found.2.0 ∙ (ap (key_in p.keys) found.1 ∙ held) in
      let same : comes_before found.0 r ≡ comes_before (row_at row.timer.slot key) r = ap (λ (k : Key). comes_before (row_at row.timer.slot k) r) (some_same (key_of found.0) key keys) in
      let bad : true ≡ false = sym (same ∙ before) ∙ found.2.1 in
      cc
    where
      both : (P Q : WheelRow → Type 0) (rows : List WheelRow) → All P rows → All Q rows → All (λ y. P y × Q y) rows
      both P Q [] ps qs = All-nil (λ y. P y × Q y)
      both P Q (y ∷ rows) ps qs =
          All-cons (λ y. P y × Q y) y rows (All-head P y rows ps, All-head Q y rows qs)
          (both P Q rows (All-tail P y rows ps) (All-tail Q y rows qs))

  -- so its timer is the next to expire
  pub is_next : IsNext g (state g h) (Sched p.number) (last_timer p.number p.slots r.slot)
  is_next = next_of g h p to r ready.stands ready.told first_held first_due none_before

  first_once : times r.slot rest ≡ 0
  first_once =
      let one : ◌≡◌ {A = ℕ} (cond (nat_eq r.slot r.slot) 1 0) 1 = ap (λ b. cond b 1 0) (eq-eqb r.slot r.slot refl) in
      omega (arith, ready.due.each r.slot, times-cons r rest r.slot, one, due_most to (key_in p.keys r.slot))

  -- when its row has gone, the others are due as before
  pub due_left : (hit : Bool) → AreDue (let_go p r.slot hit) to rest
  due_left hit = record {
    each = λ k.
        elim (cases_eq k r.slot) [
          | inl same ↦ ap (λ n. times n rest) same ∙ (first_once
              ∙ sym (ap (due_count to) (ap (key_in (set p.keys r.slot None)) same ∙ get_or-set_same p.keys r.slot None None low)))
          | inr other ↦
              let apart : r.slot ≢ k = λ e. other (sym e) in
              let none : ◌≡◌ {A = ℕ} (cond (nat_eq r.slot k) 1 0) 0 = ap (λ b. cond b 1 0) (ne_eqb r.slot k apart) in
              let before : times k rest ≡ due_count to (key_in p.keys k) = omega (arith, ready.due.each k, times-cons r rest k, none) in
              before ∙ ap (due_count to) (sym (get_or-set_other p.keys r.slot k None None other))
        ];
    held = stay rest first_once (All-tail (λ row. key_in p.keys row.slot ≡ Some (key_of row)) r rest ready.due.held);
    in_order = pairs_tail (λ x y. comes_before y x ≡ false) r rest ready.due.in_order;
  }
    where
      low : r.slot < length p.keys
      low = key_low p.keys r.slot (key_of r) first_held

      stay : (rows : List WheelRow) → times r.slot rows ≡ 0 → All (λ row. key_in p.keys row.slot ≡ Some (key_of row)) rows
          → All (λ row. key_in (set p.keys r.slot None) row.slot ≡ Some (key_of row)) rows
      stay [] none held = All-nil (λ row. key_in (set p.keys r.slot None) row.slot ≡ Some (key_of row))
      stay (y ∷ rows) none held =
          let other : y.slot ≢ r.slot =
          λ same. (let one : ◌≡◌ {A = ℕ} (cond (nat_eq y.slot r.slot) 1 0) 1 = ap (λ b. cond b 1 0) (eq-eqb y.slot r.slot same) in
          absurd (omega (arith, none, times-cons y rows r.slot, one))) in
          All-cons (λ row. key_in (set p.keys r.slot None) row.slot ≡ Some (key_of row)) y rows
          (get_or-set_other p.keys r.slot y.slot None None other
          ∙ All-head (λ row. key_in p.keys row.slot ≡ Some (key_of row)) y rows held)
          (stay rows (omega (arith, none, times-cons y rows r.slot)) (All-tail (λ row. key_in p.keys row.slot ≡ Some (key_of row)) y rows held))

-- the first row that is due is that of the timer that is the next to expire
pub first_next : (g : Settings) (h : List Entry) (p : Part) (to : ℕ) (r : WheelRow) → PartStands g h p
    → pos to ≡ down g ((state g h).looked (Sched p.number)) → IsFirstRowDue p.keys to r
    → IsNext g (state g h) (Sched p.number) (last_timer p.number p.slots r.slot)
first_next g h p to r stands told first =
    next_of g h p to r stands told first.held first.due (λ n row at armed before low other.
    let held = stands.holds.rows.armed n row at armed in
    let bad : true ≡ false = sym before ∙ first.first row.timer.slot (record { deadline = row.deadline; order = n }) held in
    cc)

-- where no row is due no armed timer is
pub none_armed_due : (g : Settings) (h : List Entry) (p : Part) (to : ℕ) → PartStands g h p → NoRowDue p.keys to
    → AllSettled (state g h).status (λ d. nat_le d to) ((state g h).rows p.number)
none_armed_due g h p to stands none =
    settled_by (state g h).status (λ d. nat_le d to) ((state g h).rows p.number) (λ n row at test armed.
    absurd (omega (
      arith,
      none row.timer.slot (record { deadline = row.deadline; order = n }) (stands.holds.rows.armed n row at armed),
      leb-true row.deadline to test,
    )))

-- where no row is due any more, no armed timer is
pub none_due : (g : Settings) (h : List Entry) (p : Part) (to : ℕ) → IsReady g h p to []
    → AllSettled (state g h).status (λ d. nat_le d to) ((state g h).rows p.number)
none_due g h p to ready =
    settled_by (state g h).status (λ d. nat_le d to) ((state g h).rows p.number) (λ n row at test armed.
    let held = ready.stands.holds.rows.armed n row at armed in
    let one : ◌≡◌ {A = ℕ} (due_count to (key_in p.keys row.timer.slot)) 1 =
    due_some to (key_in p.keys row.timer.slot) (record { deadline = row.deadline; order = n }) held (leb-true row.deadline to test) in
    omega (arith, one, ready.due.each row.timer.slot))

pub none_left : (p : Part) (to : ℕ) → AreDue p to [] → (k : ℕ) → IfSome (key_in p.keys k) (λ key. to < key.deadline)
none_left p to due k = due_none to (key_in p.keys k) (sym (due.each k))

-- where no row is due there is none to try
not_due : (to : ℕ) (o : Option Key) → ((key : Key) → o ≡ Some key → to < key.deadline) → due_count to o ≡ 0
not_due to None none = refl
not_due to (Some key) none =
    elim (leb_tells key.deadline to) [
      | inl (t, due) ↦ absurd (omega (arith, due, none key refl))
      | inr (f, later) ↦ ap (λ b. cond b 1 0) f
    ]

idle_due : (p : Part) (to : ℕ) → NoRowDue p.keys to → AreDue p to []
idle_due p to none = record {
  each = λ k. sym (not_due to (key_in p.keys k) (none k));
  held = All-nil (λ row. key_in p.keys row.slot ≡ Some (key_of row));
  in_order = λ i j d low high. absurd (omega (arith, high));
}

pub idle_is : (p : Part) (to : ℕ) (may : Bool) → MatchBool may (MayBeDue p.keys p.stands p.passed to) (NoRowDue p.keys to)
    → OnTrue (not may) (AreDue p to [])
idle_is p to true told = tt
idle_is p to false none = idle_due p to none

-- the first of the rows that are left
pub next_row : (due : List WheelRow) (n : ℕ) (d : WheelRow) → n < length due → drop n due ≡ get_or due n d ∷ drop (n + 1) due
next_row due n d low =
    let e : suc n ≡ n + 1 = omega arith in
    drop-cons due n d low ∙ ap (λ m. get_or due n d ∷ drop m due) e

-- none is left at the end
pub no_row : (due : List WheelRow) (n : ℕ) → length due ≤ n → drop n due ≡ []
no_row [] zero high = refl
no_row [] (suc n) high = refl
no_row (r ∷ due) zero high = absurd (omega (arith, high))
no_row (r ∷ due) (suc n) high = no_row due n (omega (arith, high))

-- of the rows that are told the next one comes first, and none is left at the end
pub next_told : (keys : List (Option Key)) (told : List HeldRow) (n : ℕ) (d : HeldRow) → n < length told
    → drop n (rows_told keys told) ≡ row_told keys (get_or told n d) ∷ drop (n + 1) (rows_told keys told)
next_told keys told n d low =
    next_row (rows_told keys told) n (row_told keys d) (omega (arith, low, length-map told (row_told keys)))
    ∙ ap (λ row. row ∷ drop (n + 1) (rows_told keys told)) (get_or-map (row_told keys) told n d (row_told keys d) low)

pub none_told : (keys : List (Option Key)) (told : List HeldRow) (n : ℕ) → length told ≤ n → drop n (rows_told keys told) ≡ []
none_told keys told n high = no_row (rows_told keys told) n (omega (arith, high, length-map told (row_told keys)))

-- a row that is told has the order that it had, as long as it is held
pub row_stays : (was now : List (Option Key)) (told : HeldRow) → key_in now told.slot ≡ Some (key_of (row_told was told))
    → row_told now told ≡ row_told was told
row_stays was now told held = ap with_order held
  where
    with_order : Option Key → WheelRow
    with_order o = record { deadline = told.deadline; order = order_of_key o; slot = told.slot }
