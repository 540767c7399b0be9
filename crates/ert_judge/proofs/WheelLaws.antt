-- The laws of a wheel's timers: what arming and moving make of its rows and statuses.

use Rattle.std.proofs.Common.{◌≡◌, ◌≢◌, ◌∙◌, refl, sym, ap, inl, inr, ℕ, Bool, true, false, cond, not, ◌&&◌, nat_eq, List, [], ◌∷◌, ◌++◌, Option, Some, None, eq-eqb, ne_eqb}
use Rattle.std.proofs.lemmas.{Bool.{cases_Bool, cases_eq}, List.map_push, List.Elements.{All-map, All-push, All-weaker}}
use Rattle.std.specs.Prelude.{option_map}
use Rattle.ert_defs.proofs.{ExpiredTimers.{same_timer_self, same_timer-false}, Slots.same_timer-true}
use Rattle.ert_defs.specs.{Timers.{row_of, same_timer, settled_as, handed_as}, declared.timer.Status.Status, declared.timer.Status.TheVariants.{Armed, Expired, Delivered, Cancelled, Orphaned, Dropped}, declared.timer.TimerRef.TimerRef}
use Rattle.ert_judge.specs.{Wheels.{timer_in, rows_of, status_among, same_status, moved_one, moved, AreShown, IsOwnOf, IsOwn}, declared.state.wheels.Timer.Timer}

-- a function of a choice is the choice of its values
through_cond : {X Y : Type 0} (f : X → Y) (b : Bool) (x y : X) → f (cond b x y) ≡ cond b (f x) (f y)
through_cond f true x y = refl
through_cond f false x y = refl

-- the row of a reference is that of its timer
pub row_of_rows : (ts : List Timer) (r : TimerRef) → row_of (rows_of ts) r ≡ option_map (λ t. t.row) (timer_in ts r)
row_of_rows [] r = refl
row_of_rows (t ∷ ts) r =
    rw (row_of_rows ts r)
    (sym (through_cond (option_map (λ (u : Timer). u.row)) (same_timer t.row.timer r) (Some t) (timer_in ts r)))

row_at : (b : Bool) (to : Status) (t : Timer) → (cond {A = Timer} b (record { row = t.row; status = to }) t).row ≡ t.row
row_at true to t = refl
row_at false to t = refl

status_at : (b : Bool) (to : Status) (t : Timer)
    → (cond {A = Timer} b (record { row = t.row; status = to }) t).status ≡ cond b to t.status
status_at true to t = refl
status_at false to t = refl

-- the row of a timer that is found
pub row_found : (ts : List Timer) (r : TimerRef) (t : Option Timer) → t ≡ timer_in ts r
    → option_map (λ (u : Timer). u.row) t ≡ row_of (rows_of ts) r
row_found ts r t e = ap (option_map (λ (u : Timer). u.row)) e ∙ sym (row_of_rows ts r)

-- a move leaves a timer's row
pub moved_row : (r : TimerRef) (from to : Status) (t : Timer) → (moved_one r from to t).row ≡ t.row
moved_row r from to t = row_at (same_timer t.row.timer r && same_status t.status from) to t

-- a move leaves the rows
pub rows_moved : (r : TimerRef) (from to : Status) (ts : List Timer) → rows_of (moved r from to ts) ≡ rows_of ts
rows_moved r from to [] = refl
rows_moved r from to (t ∷ ts) = rw (moved_row r from to t, rows_moved r from to ts) refl

nat_eq_sym : (a b : ℕ) → nat_eq a b ≡ nat_eq b a
nat_eq_sym a b = elim (cases_eq a b) [
  | inl is ↦ rw (eq-eqb a b is, eq-eqb b a (sym is)) refl
  | inr not ↦ rw (ne_eqb a b not, ne_eqb b a (λ is. not (sym is))) refl
]

-- the test of two references is the same both ways
same_timer_sym : (r q : TimerRef) → same_timer r q ≡ same_timer q r
same_timer_sym r q =
    rw (nat_eq_sym r.wheel q.wheel, nat_eq_sym r.slot q.slot, nat_eq_sym r.generation q.generation) refl

-- a status after a move of timers, its own among them or not
abbrev moved_status : Bool → Status → Status → Status → Status
moved_status b from to status = cond (b && same_status status from) to status

-- a move of a reference moves its status and no other
pub status_moved : (r q : TimerRef) (from to : Status) (ts : List Timer)
    → status_among (moved r from to ts) q ≡ option_map (moved_status (same_timer r q) from to) (status_among ts q)
status_moved r q from to [] = refl
status_moved r q from to (t ∷ ts) = rw (moved_row r from to t) (elim (cases_Bool (same_timer t.row.timer q)) [
  | inl is ↦
      let ways : same_timer t.row.timer r ≡ same_timer r q =
      same_timer_sym t.row.timer r ∙ ap (same_timer r) (same_timer-true t.row.timer q is) in
      let here : (moved_one r from to t).status ≡ moved_status (same_timer r q) from to t.status =
      status_at (same_timer t.row.timer r && same_status t.status from) to t
      ∙ ap (λ b. moved_status b from to t.status) ways in
      rw is (ap Some here)
  | inr is ↦ rw is (status_moved r q from to ts)
])

settled_is : (b : Bool) (to : Status) (x : Option Status) → option_map (moved_status b Armed to) x ≡ cond b (settled_as to x) x
settled_is true to None = refl
settled_is true to (Some Armed) = refl
settled_is true to (Some Expired) = refl
settled_is true to (Some Delivered) = refl
settled_is true to (Some Cancelled) = refl
settled_is true to (Some Orphaned) = refl
settled_is true to (Some Dropped) = refl
settled_is false to None = refl
settled_is false to (Some status) = refl

-- a move from armed settles
pub status_settled : (ts : List Timer) (r q : TimerRef) (to : Status)
    → status_among (moved r Armed to ts) q ≡ cond (same_timer r q) (settled_as to (status_among ts q)) (status_among ts q)
status_settled ts r q to = status_moved r q Armed to ts ∙ settled_is (same_timer r q) to (status_among ts q)

handed_is : (b : Bool) (to : Status) (x : Option Status) → option_map (moved_status b Expired to) x ≡ cond b (handed_as to x) x
handed_is true to None = refl
handed_is true to (Some Armed) = refl
handed_is true to (Some Expired) = refl
handed_is true to (Some Delivered) = refl
handed_is true to (Some Cancelled) = refl
handed_is true to (Some Orphaned) = refl
handed_is true to (Some Dropped) = refl
handed_is false to None = refl
handed_is false to (Some status) = refl

-- a move from expired hands over
pub status_handed : (ts : List Timer) (r q : TimerRef) (to : Status)
    → status_among (moved r Expired to ts) q ≡ cond (same_timer r q) (handed_as to (status_among ts q)) (status_among ts q)
status_handed ts r q to = status_moved r q Expired to ts ∙ handed_is (same_timer r q) to (status_among ts q)

-- a timer that is armed puts its row last
pub rows_armed : (ts : List Timer) (t : Timer) → rows_of (ts ++ t ∷ []) ≡ rows_of ts ++ t.row ∷ []
rows_armed ts t = map_push (λ (u : Timer). u.row) ts t

-- where a list names no timer for a reference, neither its first nor the rest has it
none_behind : (b : Bool) (t : Timer) (x : Option Timer) → cond b (Some t) x ≡ None → (b ≡ false) × (x ≡ None)
none_behind true t x none = absurd cc
none_behind false t x none = (refl, none)

-- a new timer that is armed has its status, and leaves those of all others
pub status_armed : (ts : List Timer) (t : Timer) (q : TimerRef) → timer_in ts t.row.timer ≡ None
    → status_among (ts ++ t ∷ []) q ≡ cond (same_timer t.row.timer q) (Some t.status) (status_among ts q)
status_armed [] t q none = through_cond (option_map (λ (u : Timer). u.status)) (same_timer t.row.timer q) (Some t) None
status_armed (u ∷ ts) t q none =
    let parts = none_behind (same_timer u.row.timer t.row.timer) u (timer_in ts t.row.timer) none in
    elim (cases_Bool (same_timer u.row.timer q)) [
      | inl is ↦
          let same = same_timer-true u.row.timer q is in
          let other : same_timer t.row.timer q ≡ false =
          ap (same_timer t.row.timer) (sym same) ∙ (same_timer_sym t.row.timer u.row.timer ∙ parts.0) in
          rw (is, other) refl
      | inr is ↦ rw is (status_armed ts t q parts.1)
    ]

own_moved_one : (w : ℕ) (r : TimerRef) (from to : Status) (ts : List Timer) (t : Timer) → IsOwnOf w ts t
    → IsOwnOf w (moved r from to ts) (moved_one r from to t)
own_moved_one w r from to ts t is =
    let row = moved_row r from to t in
    let here = status_at (same_timer t.row.timer r && same_status t.status from) to t in
    let there : status_among (moved r from to ts) t.row.timer ≡ Some (moved_status (same_timer r t.row.timer) from to t.status) =
    status_moved r t.row.timer from to ts ∙ ap (option_map (moved_status (same_timer r t.row.timer) from to)) is.shown in
    record {
      wheel = rw row is.wheel;
      shown = rw (row, here, same_timer_sym t.row.timer r) there;
    }

-- a move keeps each timer's wheel, and its status by its reference
pub own_moved : (w : ℕ) (r : TimerRef) (from to : Status) (ts : List Timer) → IsOwn w ts → IsOwn w (moved r from to ts)
own_moved w r from to ts own =
    let P : Timer → Type 0 = IsOwnOf w (moved r from to ts) in
    All-map P (moved_one r from to) ts
    (All-weaker (IsOwnOf w ts) (λ t. P (moved_one r from to t)) (own_moved_one w r from to ts) ts own)

-- a timer of a wheel has another reference than one that the wheel doesn't know
own_differs : (w : ℕ) (ts : List Timer) (r : TimerRef) (t : Timer) → timer_in ts r ≡ None → IsOwnOf w ts t
    → r ≢ t.row.timer
own_differs w ts r t none is same =
    let shown = is.shown in
    let not_shown : status_among ts t.row.timer ≡ None =
    ap (status_among ts) (sym same) ∙ ap (option_map (λ (u : Timer). u.status)) none in
    cc

own_armed_one : (w : ℕ) (ts : List Timer) (t u : Timer) → timer_in ts t.row.timer ≡ None → IsOwnOf w ts u
    → IsOwnOf w (ts ++ t ∷ []) u
own_armed_one w ts t u none is =
    let other : same_timer t.row.timer u.row.timer ≡ false =
    same_timer-false t.row.timer u.row.timer (own_differs w ts t.row.timer u none is) in
    record {
      wheel = is.wheel;
      shown = status_armed ts t u.row.timer none
          ∙ (ap (λ b. cond b (Some t.status) (status_among ts u.row.timer)) other ∙ is.shown);
    }

-- arming keeps them, where the timer is of the wheel and new
pub own_armed : (w : ℕ) (ts : List Timer) (t : Timer) → IsOwn w ts → t.row.timer.wheel ≡ w
    → timer_in ts t.row.timer ≡ None → IsOwn w (ts ++ t ∷ [])
own_armed w ts t own wheel none =
    let P : Timer → Type 0 = IsOwnOf w (ts ++ t ∷ []) in
    All-push P ts t (All-weaker (IsOwnOf w ts) P (λ u is. own_armed_one w ts t u none is) ts own)
    (record {
      wheel = wheel;
      shown = status_armed ts t t.row.timer none
          ∙ ap (λ b. cond b (Some t.status) (status_among ts t.row.timer)) (same_timer_self t.row.timer);
    })

-- statuses that are those of a wheel at its references are its timers'
pub own_shown : (w : ℕ) (ts : List Timer) (status : TimerRef → Option Status)
    → ((r : TimerRef) → r.wheel ≡ w → status r ≡ status_among ts r) → IsOwn w ts → AreShown status ts
own_shown w ts status agree own =
    All-weaker (IsOwnOf w ts) (λ t. status t.row.timer ≡ Some t.status) (λ t is. agree t.row.timer is.wheel ∙ is.shown) ts own
