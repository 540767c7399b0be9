-- The part after the timer of a row was tried, and the row has gone.

use Rattle.std.proofs.Common.{◌≡◌, ◌≢◌, ℕ, zero, suc, ◌+◌, ◌<◌, ◌≤◌, Bool, true, false, cond, ◌&&◌, ◌||◌, nat_eq, List, [], ◌∷◌, ◌++◌, length, AllPairs, Some, None, refl, sym, ap, subst, ◌∙◌, arith, set, get_or, eq-eqb, append-nil}
use Rattle.std.proofs.lemmas.{List.length-set, List.Elements.All-get_or, Option.{get_or_from_slice_get, slice_get_within}}
use Rattle.std.specs.List.{slice_get}
use Rattle.ert_defs.specs.{Actors.has_actor, Entries.{probe_entry, expire_entry}, Mails.{SchedState, with_row, sched_after}, States.{State, state}, Timers.{Row, row_of, same_timer}, declared.entry.Actor.TheVariants.{Wheel, Sched}}
use Rattle.ert_defs.specs.{declared.entry.Entry.Entry, declared.entry.Event.Event, declared.settings.Settings.Settings, declared.timer.Status.TheVariants.Armed, declared.timer.TimerRef.TimerRef}
use Rattle.ert_defs.proofs.{ExpiredTimers.{same_timer_self, same_timer-false}, Lists.{pairs_head, pairs_tail}, Rows.{Differ, rows_hold}, Runs.{sched_stays, state-append}}
use Rattle.ert_table.specs.{Held.is_held, Settlings.{HasRow, Settles}, Takes.Appends, declared.carry.Settle.TheVariants.Expire as ToExpire, declared.view.View.View}
use Rattle.ert_table.proofs.Parts.{stepped}
use Rattle.ert_timers.specs.{Changes.let_go, Expiring.{Expires, timer_of}, ExpiredLists.Queue, Parts.{HoldsSched, Part, PartStands, last_timer, held_row}, Slots.Slot, Trying.expired_after}
use Rattle.ert_laws.specs.Counts.{entries_of, is_arm, is_expire, is_orphan}
use Rattle.ert_timers.proofs.{Later.{later_before, later_step, ends, live_step, count_step}, Rows.{key_left, rows_dropped}, Standing.{clock_stepped, holds_with, count_same}}
use Rattle.ert_wheel.specs.{Rows.{key_in, key_of}, declared.row.Key.Key, declared.row.Row.Row as WheelRow}
use Rattle.ert_wheel.proofs.Looking.{key_low}

-- where no two rows have one reference, that of a row finds it
row_of_place : (rows : List Row) (n : ℕ) (row : Row) → AllPairs Differ rows → slice_get rows n ≡ Some row → row_of rows row.timer ≡ Some row
row_of_place [] n row apart at = absurd cc
row_of_place (r ∷ rows) zero row apart at =
    let e : r ≡ row = cc in
    subst (λ (x : Row). row_of (r ∷ rows) x.timer ≡ Some x) e (rw (same_timer_self r.timer) refl)
row_of_place (r ∷ rows) (suc n) row apart at =
    let there : get_or rows n row ≡ row = get_or_from_slice_get rows n row row at in
    let other : r.timer ≢ row.timer =
    subst (λ (x : Row). r.timer ≢ x.timer) there
    (All-get_or (Differ r) rows n row (slice_get_within rows n row at) (pairs_head Differ r rows apart)) in
    rw (same_timer-false r.timer row.timer other) (row_of_place rows n row (pairs_tail Differ r rows apart) at)

-- the row of a held timer is found by its reference
pub held_found : (g : Settings) (h : List Entry) (p : Part) (k : ℕ) (key : Key) → PartStands g h p → key_in p.keys k ≡ Some key
    → row_of ((state g h).rows p.number) (last_timer p.number p.slots k) ≡ Some (held_row p.number p.slots k key)
held_found g h p k key stands held =
    row_of_place ((state g h).rows p.number) key.order (held_row p.number p.slots k key) (rows_hold g h p.number stands.legal).apart
    (stands.holds.rows.each k key held)

pub held_has_row : (g : Settings) (h : List Entry) (p : Part) (k : ℕ) (key : Key) → PartStands g h p → key_in p.keys k ≡ Some key
    → HasRow (state g h) (last_timer p.number p.slots k) key.deadline
held_has_row g h p k key stands held = record {
  row = held_row p.number p.slots k key;
  stands = held_found g h p k key stands held;
  due = refl;
}

-- a count goes on by one by a step with the wheel that is counted
pub count_more : (g : Settings) (v : View) (e : Entry) (u : View) (w : ℕ) (test : Event → Bool) → Appends g v e u
    → is_held v.actors (Wheel w) ≡ true → has_actor e (Wheel w) ≡ true → test e.event ≡ true
    → entries_of test w u.front ≡ entries_of test w v.front + 1
count_more g v e u w test step held has is =
    let one : ◌≡◌ {A = ℕ} (cond (has_actor e (Wheel w) && test e.event) 1 0) 1 =
    ap (λ b. cond (b && test e.event) 1 0) has ∙ ap (λ b. cond b 1 0) is in
    omega (arith, count_step g v e u w test step held)

-- the row of a timer that isn't armed any more goes
pub stands_gone : (g : Settings) (v : View) (e : Entry) (u : View) (p : Part) (k expired orphaned : ℕ) → PartStands g v.front p
    → k < length p.keys → Appends g v e u → is_held v.actors (Wheel p.number) ≡ true → is_arm e.event ≡ false
    → ((j : ℕ) → j ≢ k → ends e.event (last_timer p.number p.slots j) ≡ false)
    → (state g u.front).status (last_timer p.number p.slots k) ≢ Some Armed
    → expired ≡ entries_of is_expire p.number u.front → orphaned ≡ entries_of is_orphan p.number u.front
    → PartStands g u.front (record p { keys = set p.keys k None; expires = expired; orphans = orphaned; stands = set p.stands k None })
stands_gone g v e u p k expired orphaned stands low step wheel unarmed others settled expires_are orphans_are =
    let later = later_step g v e u p.number step wheel unarmed in
    record {
      checked = stands.checked;
      legal = step.legal;
      holds =
          holds_with g (state g v.front) (state g u.front) p (set p.keys k None) (set p.stands k None) expired orphaned stands.holds later
          (clock_stepped g v e u stands.checked step) (length-set p.keys k None)
          (rows_dropped g v.front p.number p.slots p.keys (state g u.front) stands.legal stands.holds.rows later k low settled
          (λ j seen is.
          let left = key_left p.keys k j seen low is in
          live_step g v e u (last_timer p.number p.slots j) step wheel (others j left.0) (stands.holds.rows.live j seen left.1)));
      counted = record {
        arms = stands.counted.arms ∙ sym (count_same g v e u p.number is_arm step wheel unarmed);
        expires = expires_are;
        orphans = orphans_are;
      };
    }

-- the timers of two slots are two
pub two_slots : (w : ℕ) (slots : List Slot) (k j : ℕ) → j ≢ k → same_timer (last_timer w slots k) (last_timer w slots j) ≡ false
two_slots w slots k j other =
    same_timer-false (last_timer w slots k) (last_timer w slots j) (λ same. other (sym (ap (λ (t : TimerRef). t.slot) same)))

-- what a scheduler's list becomes by its own step
pub waits_by : (g : Settings) (v : View) (e : Entry) (u : View) (w : ℕ) (step : Appends g v e u) → is_held v.actors (Sched w) ≡ true
    → has_actor e (Sched w) ≡ true
    → expired_after g u.front w ≡ (sched_after (state g (v.front ++ step.between)).rows ((state g v.front).scheds w) e.event).expired
waits_by g v e u w step held has =
    let s : State = state g (v.front ++ step.between) in
    let same : s.scheds w ≡ (state g v.front).scheds w =
    ap (λ (t : State). t.scheds w) (state-append g v.front step.between)
    ∙ sched_stays g w (state g v.front) step.between (step.others (Sched w) held) in
    ap (λ (t : State). (t.scheds w).expired) (stepped g v e u step)
    ∙ (ap (λ b. (cond b (sched_after s.rows (s.scheds w) e.event) (s.scheds w)).expired) has
    ∙ ap (λ (x : SchedState). (sched_after s.rows x e.event).expired) same)

pub self : (n : ℕ) → nat_eq n n ≡ true
self n = eq-eqb n n refl

or_true : (b c : Bool) → c ≡ true → (b || c) ≡ true
or_true true c is = refl
or_true false c is = is

-- a try to let a timer expire
pub expired : (g : Settings) (v : View) (p q : Part) (row : WheelRow) (old new : Queue) (u : View) (hit : Bool) → PartStands g v.front p
    → key_in p.keys row.slot ≡ Some (key_of row) → is_held v.actors (Sched p.number) ≡ true → is_held v.actors (Wheel p.number) ≡ true
    → Settles g v (Sched p.number) (last_timer p.number p.slots row.slot) row.deadline ToExpire hit u
    → (state g u.front).status (last_timer p.number p.slots row.slot) ≢ Some Armed
    → q ≡ let_go p row.slot hit → new.rows ≡ old.rows ++ cond hit (timer_of p row ∷ []) [] → old.room ≤ new.room + 1
    → Expires g v p q row old new u
expired g v p q row old new u true stands held sched wheel settles settled part listed room =
    let w : ℕ = p.number in
    let timer : TimerRef = last_timer w p.slots row.slot in
    let e : Entry = expire_entry w timer in
    let step : Appends g v e u = settles in
    let counts = stands.counted in
    let found : row_of ((state g (v.front ++ step.between)).rows w) timer ≡ Some (timer_of p row) =
    ap (λ rows. row_of rows timer) (later_before g v e u w step wheel).rows ∙ held_found g v.front p row.slot (key_of row) stands held in
    record {
      missed = None;
      step = step;
      settled = tt;
      part = part;
      stands = subst (λ (x : Part). PartStands g u.front x) (sym part)
          (stands_gone g v e u p row.slot (p.expires + 1) p.orphans stands (key_low p.keys row.slot (key_of row) held) step wheel refl
          (λ j other. two_slots w p.slots row.slot j other) settled
          (ap (λ n. n + 1) counts.expires ∙ sym (count_more g v e u w is_expire step wheel (self w) refl))
          (counts.orphans ∙ sym (count_same g v e u w is_orphan step wheel refl)));
      expired = listed;
      waits = waits_by g v e u w step sched (ap (λ b. b || false) (self w))
          ∙ ap (λ o. with_row (expired_after g v.front w) o) found;
      room = room;
    }
expired g v p q row old new u false stands held sched wheel settles settled part listed room =
    let w : ℕ = p.number in
    let e : Entry = probe_entry (Sched w) w row.slot settles.found in
    let step : Appends g v e u = settles.step in
    let counts = stands.counted in
    let same : p.expires + 0 ≡ p.expires = omega arith in
    let wide : row.slot < length p.keys = key_low p.keys row.slot (key_of row) held in
    let low : row.slot < g.slots = omega (arith, wide, stands.holds.wide) in
    record {
      missed = Some settles.found;
      step = step;
      settled = settles.not_armed (sym (stands.holds.lasts row.slot low));
      part = part;
      stands = subst (λ (x : Part). PartStands g u.front x) (sym part)
          (stands_gone g v e u p row.slot (p.expires + 0) p.orphans stands (key_low p.keys row.slot (key_of row) held) step wheel refl (λ j other. refl) settled
          (same ∙ (counts.expires ∙ sym (count_same g v e u w is_expire step wheel refl)))
          (counts.orphans ∙ sym (count_same g v e u w is_orphan step wheel refl)));
      expired = listed;
      waits = waits_by g v e u w step sched (ap (λ b. b || false) (self w)) ∙ sym (append-nil (expired_after g v.front w));
      room = room;
    }

-- the same of what the code has
pub expired_from : (g : Settings) (v : View) (p q : Part) (row : WheelRow) (old new : Queue) (u : View) (n : ℕ) (timer : Row) (hit b : Bool)
    → n ≡ p.number → timer ≡ timer_of p row → hit ≡ b → PartStands g v.front p → key_in p.keys row.slot ≡ Some (key_of row)
    → HoldsSched v p.number → Settles g v (Sched n) timer.timer timer.deadline ToExpire hit u
    → (state g u.front).status timer.timer ≢ Some Armed → q ≡ let_go p row.slot hit → new.rows ≡ old.rows ++ cond b (timer ∷ []) []
    → old.room ≤ new.room + 1 → Expires g v p q row old new u
expired_from g v p q row old new u n timer hit b number is was stands held holds settles settled part listed room =
    expired g v p q row old new u b stands held holds.sched holds.wheel
    (subst (λ (t : Row). Settles g v (Sched p.number) t.timer t.deadline ToExpire b u) is
    (subst (λ m. Settles g v (Sched m) timer.timer timer.deadline ToExpire b u) number
    (subst (λ x. Settles g v (Sched n) timer.timer timer.deadline ToExpire x u) was settles)))
    (subst (λ (t : Row). (state g u.front).status t.timer ≢ Some Armed) is settled)
    (part ∙ ap (let_go p row.slot) was)
    (subst (λ (t : Row). new.rows ≡ old.rows ++ cond b (t ∷ []) []) is listed) room
