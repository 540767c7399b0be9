-- How an entry moves the status of a timer, and that a timer settles once.

use Rattle.std.proofs.Common.{◌≡◌, ◌≢◌, ℕ, ℤ, nat_eq, All, append-nil, eqb-true, ap, ◌∙◌, ◌+◌, ◌≤◌, Bool, true, false, cond, not, ◌&&◌, List, [], ◌∷◌, ◌++◌, Contains, Option, Some, None, refl, inl, inr, subst, arith}
use Rattle.std.proofs.lemmas.{Bool.{and_parts, and_right}, List.Elements.{All-contains, All-nil, All-push, All-weaker}}
use Rattle.ert_defs.specs.{Actors.has_actor, Laws.{MayMove, is_armed, has_settled, settlings, LawOfMoves, LawOfSettling, LawOfSettled, LawOfRows, LawOfSlots}, Legal.{Can, CanArm, Known, LegalFrom, Legal}, Milliseconds.{natural, down}}
use Rattle.ert_defs.specs.{Milliseconds.deadline_of, States.{State, uses_at, opening, next, run, state}, Timers.{Row, deadline_told, row_from, rows_after, same_timer, status_after, timer_at}, declared.entry.Actor.Actor}
use Rattle.ert_defs.specs.{declared.entry.Actor.TheVariants.Wheel, declared.entry.Entry.Entry, declared.entry.Event.Event, declared.entry.Event.TheVariants.Arm, declared.settings.Settings.Settings, declared.timer.Start.Start}
use Rattle.ert_defs.specs.{declared.timer.Status.Status, declared.timer.Status.TheVariants.{Armed, Expired, Delivered, Cancelled, Orphaned, Dropped}, declared.timer.TimerRef.TimerRef}
use Rattle.ert_defs.proofs.{ExpiredTimers.same_timer_self, Runs.{carry, kept_from, state-append, legal_first, legal_then, legal_one_more}, Slots.{IsOrdered, in_order, next_is_new, same_timer-true, ordered, ordered_next, ordered_opening}}
use Rattle.ert_defs.proofs.{Statuses.{forward_after, forward_may}}

-- a generation that can be armed was never armed
pub armed_first : (g : Settings) (s : State) (by : Actor) (timer r : TimerRef) (deadline : Option ℕ) → IsOrdered s → CanArm g s by timer deadline
    → same_timer timer r ≡ true → s.status r ≡ None
armed_first g s by timer r deadline order can is =
    let same : timer ≡ r = same_timer-true timer r is in
    subst (λ (t : TimerRef). s.status t ≡ None) same
    (next_is_new (λ n. s.status (timer_at timer.wheel timer.slot n)) (uses_at s timer.wheel timer.slot)
    (record { now = natural (down g (s.looked by)); wanted = can.wanted; generation = timer.generation })
    (order timer.wheel timer.slot) can.next_use)

moves_arm : (g : Settings) (s : State) (by : Actor) (timer r : TimerRef) (deadline : Option ℕ) → IsOrdered s → CanArm g s by timer deadline
    → (start : Start) (has_wheel here : Bool) → (has_wheel && same_timer timer r) ≡ here
    → MayMove (s.status r) (status_after r has_wheel (s.status r) (Arm timer start))
moves_arm g s by timer r deadline order can start has_wheel true is =
    let first : s.status r ≡ None = armed_first g s by timer r deadline order can (and_parts has_wheel (same_timer timer r) is).1 in
    rw (is, first) (inr refl)
moves_arm g s by timer r deadline order can start has_wheel false is =
    forward_may (s.status r) (status_after r has_wheel (s.status r) (Arm timer start)) (forward_after r has_wheel (s.status r) (Arm timer start) is)

moves_with : (g : Settings) (s : State) (by : Actor) (with : Option Actor) (r : TimerRef) (b : Bool) (event : Event) → IsOrdered s
    → Known g s by with event → MayMove (s.status r) (status_after r b (s.status r) event)
moves_with g s by with r b (Arm timer start) order known = moves_arm g s by timer r _ order known start b (b && same_timer timer r) refl
moves_with g s by with r b event order known =
    forward_may (s.status r) (status_after r b (s.status r) event) (forward_after r b (s.status r) event (and_right b false refl))

-- a legal entry moves each status as it may
pub moves_next : (g : Settings) (s : State) (e : Entry) (r : TimerRef) → IsOrdered s → Can g s e → MayMove (s.status r) ((next g s e).status r)
moves_next g s e r ordered can = moves_with g s e.by e.with r (has_actor e (Wheel r.wheel)) e.event ordered can.known

pub statuses_move : LawOfMoves
statuses_move g h e r legal =
    let parts = (legal_one_more g h e).0 legal in
    carry (λ (s : State). MayMove ((state g h).status r) (s.status r)) (state-append g h (e ∷ []))
    (moves_next g (state g h) e r (ordered g h parts.0) parts.1)

settled_moves : (x y : Option Status) → MayMove x y → has_settled x ≡ true → has_settled y ≡ true
settled_moves None y may settled = absurd cc
settled_moves (Some Armed) y may settled = absurd cc
settled_moves (Some Expired) y may settled =
    elim may [ inl a ↦ rw a refl | inr b ↦ elim b [ inl c ↦ rw c refl | inr d ↦ rw d refl ] ]
settled_moves (Some Delivered) y may settled = rw may refl
settled_moves (Some Cancelled) y may settled = rw may refl
settled_moves (Some Orphaned) y may settled = rw may refl
settled_moves (Some Dropped) y may settled = rw may refl

-- what was armed and isn't any more has settled
settles_moves : (x y : Option Status) → MayMove x y → (is_armed x && not (is_armed y)) ≡ true → has_settled y ≡ true
settles_moves (Some Armed) y may settles =
    elim may [
      | inl a ↦ let no : false ≡ true = rw a at settles in absurd cc
      | inr b ↦ elim b [ inl c ↦ rw c refl | inr d ↦ elim d [ inl i ↦ rw i refl | inr j ↦ rw j refl ] ]
    ]
settles_moves x y may settles = absurd cc

settled_not_armed : (x : Option Status) → has_settled x ≡ true → is_armed x ≡ false
settled_not_armed None settled = refl
settled_not_armed (Some Armed) settled = absurd cc
settled_not_armed (Some _) settled = refl

-- a timer that has settled stays so
pub settled_stays : (g : Settings) (r : TimerRef) (s : State) (es : List Entry) → IsOrdered s → LegalFrom g s es
    → has_settled (s.status r) ≡ true → has_settled ((run g s es).status r) ≡ true
settled_stays g r s [] ordered legal settled = settled
settled_stays g r s (e ∷ es) ordered legal settled =
    settled_stays g r (next g s e) es (ordered_next g s e ordered legal.0) legal.1
    (settled_moves (s.status r) ((next g s e).status r) (moves_next g s e r ordered legal.0) settled)

-- it settles no more
pub no_settlings : (g : Settings) (r : TimerRef) (s : State) (es : List Entry) → IsOrdered s → LegalFrom g s es
    → has_settled (s.status r) ≡ true → settlings g r s es ≡ 0
no_settlings g r s [] ordered legal settled = refl
no_settlings g r s (e ∷ es) ordered legal settled =
    let still = settled_moves (s.status r) ((next g s e).status r) (moves_next g s e r ordered legal.0) settled in
    let more : settlings g r (next g s e) es ≡ 0 = no_settlings g r (next g s e) es (ordered_next g s e ordered legal.0) legal.1 still in
    rw (settled_not_armed (s.status r) settled) (omega arith)

one_settling_at : (g : Settings) (r : TimerRef) (s : State) (e : Entry) (es : List Entry) → IsOrdered s → LegalFrom g s (e ∷ es)
    → settlings g r (next g s e) es ≤ 1 → (b : Bool) → (is_armed (s.status r) && not (is_armed ((next g s e).status r))) ≡ b
    → cond b 1 0 + settlings g r (next g s e) es ≤ 1
one_settling_at g r s e es ordered legal few true is =
    let settled = settles_moves (s.status r) ((next g s e).status r) (moves_next g s e r ordered legal.0) is in
    let more : settlings g r (next g s e) es ≡ 0 = no_settlings g r (next g s e) es (ordered_next g s e ordered legal.0) legal.1 settled in
    omega arith
one_settling_at g r s e es ordered legal few false is = omega arith

pub one_settling : (g : Settings) (r : TimerRef) (s : State) (es : List Entry) → IsOrdered s → LegalFrom g s es → settlings g r s es ≤ 1
one_settling g r s [] ordered legal = omega arith
one_settling g r s (e ∷ es) ordered legal =
    one_settling_at g r s e es ordered legal (one_settling g r (next g s e) es (ordered_next g s e ordered legal.0) legal.1)
    (is_armed (s.status r) && not (is_armed ((next g s e).status r))) refl

pub timers_settle : LawOfSettling
timers_settle g h r legal = one_settling g r (opening g) h (ordered_opening g) legal

pub settled_timers_stay : LawOfSettled
settled_timers_stay g f m r legal settled =
    carry (λ (s : State). has_settled (s.status r) ≡ true) (state-append g f m)
    (settled_stays g r (state g f) m (ordered g f (legal_first g (opening g) f m legal)) (legal_then g (opening g) f m legal) settled)

-- the timer of a row was armed
abbrev pub WasArmed : State → Row → Type 0
WasArmed s r = s.status r.timer ≢ None

moves_some : (x y : Option Status) → MayMove x y → x ≢ None → y ≢ None
moves_some None y may some = absurd (some refl)
moves_some (Some Armed) y may some =
    λ is. elim may [ inl a ↦ cc | inr b ↦ elim b [ inl c ↦ cc | inr d ↦ elim d [ inl i ↦ cc | inr j ↦ cc ] ] ]
moves_some (Some Expired) y may some = λ is. elim may [ inl a ↦ cc | inr b ↦ elim b [ inl c ↦ cc | inr d ↦ cc ] ]
moves_some (Some Delivered) y may some = λ is. cc
moves_some (Some Cancelled) y may some = λ is. cc
moves_some (Some Orphaned) y may some = λ is. cc
moves_some (Some Dropped) y may some = λ is. cc

-- what is so of the rows before an event and of the one that it adds is so of the rows after it
rows_have : (P : Row → Type 0) (g : Settings) (look : ℤ) (w : ℕ) (rows : List Row) (b : Bool) (event : Event) → All P rows
    → ((timer : TimerRef) (start : Start) (r : Row) → b ≡ true → event ≡ Arm timer start → nat_eq timer.wheel w ≡ true → r.timer ≡ timer → P r)
    → All P (cond b (rows_after g look w rows event) rows)
rows_have P g look w rows false event h new = h
rows_have P g look w rows true (Arm timer start) h new = by_wheel (nat_eq timer.wheel w) refl (deadline_of g start look)
  where
    by_wheel : (here : Bool) → nat_eq timer.wheel w ≡ here → (deadline : Option ℕ) → All P (cond here (rows ++ row_from timer start deadline) rows)
    by_wheel false is deadline = h
    by_wheel true is None = rw append-nil h
    by_wheel true is (Some wanted) =
        let r : Row = record { timer = timer; deadline = deadline_told timer.generation wanted; dest = start.dest; msg = start.msg; kind = start.kind } in
        All-push P rows r h (new timer start r refl refl is refl)
rows_have P g look w rows true _ h new = h

armed_next : (g : Settings) (w : ℕ) (s : State) (e : Entry) → IsOrdered s → Can g s e → All (WasArmed s) (s.rows w)
    → All (WasArmed (next g s e)) ((next g s e).rows w)
armed_next g w s e order can h =
    rows_have (WasArmed (next g s e)) g (s.looked e.by) w (s.rows w) (has_actor e (Wheel w)) e.event
    (All-weaker (WasArmed s) (WasArmed (next g s e)) (λ r some. moves_some (s.status r.timer) ((next g s e).status r.timer) (moves_next g s e r.timer order can) some) (s.rows w) h)
    (λ timer start r has arm is named.
    let wheel : timer.wheel ≡ w = eqb-true timer.wheel w is in
    let has' : has_actor e (Wheel timer.wheel) ≡ true = ap (λ n. has_actor e (Wheel n)) wheel ∙ has in
    let now : status_after timer (has_actor e (Wheel timer.wheel)) (s.status timer) e.event ≡ Some Armed =
    ap (λ b. status_after timer b (s.status timer) e.event) has' ∙ (ap (λ event. status_after timer true (s.status timer) event) arm
    ∙ ap (λ b. cond b (Some Armed) (s.status timer)) (same_timer_self timer)) in
    let own : (next g s e).status r.timer ≡ Some Armed = ap (λ t. (next g s e).status t) named ∙ now in
    λ none. cc)

pub record KeepsArmed (w : ℕ) (s : State) : Type 0 where
  pub order : IsOrdered s
  pub armed : All (WasArmed s) (s.rows w)

pub row_was_armed : (g : Settings) (h : List Entry) (w : ℕ) (row : Row) → Legal g h → Contains ((state g h).rows w) row
    → (state g h).status row.timer ≢ None
row_was_armed g h w row legal in_rows =
    let kept : KeepsArmed w (state g h) = kept_from g (KeepsArmed w)
    (λ s e k can. record { order = ordered_next g s e k.order can; armed = armed_next g w s e k.order can k.armed })
    (opening g) h (record { order = ordered_opening g; armed = All-nil (WasArmed (opening g)) }) legal in
    All-contains (WasArmed (state g h)) ((state g h).rows w) row kept.armed in_rows

not_armed_settled : (x : Option Status) → x ≢ None → x ≢ Some Armed → has_settled x ≡ true
not_armed_settled None some other = absurd (some refl)
not_armed_settled (Some Armed) some other = absurd (other refl)
not_armed_settled (Some _) some other = refl

settled_other : (x : Option Status) → has_settled x ≡ true → x ≢ Some Armed
settled_other x settled = λ is. absurd (cc (rw is at settled))

pub rows_stay_settled : LawOfRows
rows_stay_settled g f m w row legal in_rows other =
    let legal_f = legal_first g (opening g) f m legal in
    let settled = not_armed_settled ((state g f).status row.timer) (row_was_armed g f w row legal_f in_rows) other in
    settled_other ((state g (f ++ m)).status row.timer) (settled_timers_stay g f m row.timer legal settled)

pub slots_in_order : LawOfSlots
slots_in_order g h w k legal =
    in_order (λ n. (state g h).status (timer_at w k n)) (uses_at (state g h) w k) (ordered g h legal w k)
