-- A timer is cancelled for the exit of its destination.

use Rattle.std.proofs.Common.{◌≡◌, ◌≢◌, ℕ, ◌+◌, ◌<◌, Bool, true, false, cond, ◌||◌, [], ◌∷◌, ◌++◌, Option, Some, None, inl, inr, refl, sym, ap, subst, ◌∙◌, arith, set}
use Rattle.ert_defs.specs.{Entries.{probe_entry, orphan_entry, mark_entry}, States.{State, state}, declared.entry.Actor.TheVariants.{Wheel, Caller}, declared.entry.Entry.Entry, declared.settings.Settings.Settings}
use Rattle.ert_defs.specs.{declared.timer.Status.Status, declared.timer.Status.TheVariants.{Armed, Expired}, declared.timer.TimerRef.TimerRef}
use Rattle.ert_effects.specs.{TimerCalls.Closes, WheelCalls.{orphans_by, IsSettled}}
use Rattle.ert_table.proofs.{Looks.can_step, Calls.{step_takes_place, takes_place_then}, Parts.stepped}
use Rattle.ert_table.specs.{Held.is_held, Settlings.{Settles, hit_entry}, Takes.{Appends, MayStep}, declared.carry.Settle.TheVariants.Orphan as ToOrphan, declared.view.View.View}
use Rattle.ert_timers.specs.{Changes.given_back, Parts.{HoldsCaller, Part, PartStands, slot_at, last_timer, held_row}, Starting.{HoldsTimer, Orphans, Ends}, Expiring.is_hit}
use Rattle.ert_laws.specs.Counts.{is_expire, is_orphan}
use Rattle.ert_timers.proofs.{Freed.given_keeps, Later.{live_step, live_unexpired, unexpired_step}, Passing.{loses_none, loses_row}, Standing.{count_same, holds_back, takes_none, stands_step}, Tried.{count_more, held_found, self}}
use Rattle.ert_timers.proofs.{Tried.{stands_gone, two_slots}}
use Rattle.ert_wheel.specs.{Rows.key_in, declared.row.Key.Key}
use Rattle.ert_wheel.proofs.Looking.{key_low}

-- the part once the slot of a timer that takes it no more is held free
pub back : (g : Settings) (v : View) (e : Entry) (u : View) (p : Part) (k : ℕ) (key : Key) (hit : Bool) → PartStands g v.front p
    → key_in p.keys k ≡ Some key → Appends g v e u → is_held v.actors (Wheel p.number) ≡ true
    → ((state g u.front).status (last_timer p.number p.slots k) ≢ Some Armed)
    → ((state g u.front).status (last_timer p.number p.slots k) ≢ Some Expired)
    → PartStands g u.front (record p { keys = set p.keys k None; expires = p.expires; orphans = p.orphans + cond hit 1 0; stands = set p.stands k None })
    → PartStands g u.front (given_back p k hit)
back g v e u p k key hit stands held step wheel settled unexpired gone = record {
  checked = gone.checked;
  legal = gone.legal;
  holds = holds_back g u.front (record p { keys = set p.keys k None; expires = p.expires; orphans = p.orphans + cond hit 1 0; stands = set p.stands k None }) k gone.checked
      gone.legal (omega (arith, key_low p.keys k key held, stands.holds.wide)) gone.holds
      (takes_none ((state g u.front).status (last_timer p.number p.slots k)) settled unexpired);
  counted = record { arms = gone.counted.arms; expires = gone.counted.expires; orphans = gone.counted.orphans };
}

orphaned_at : (g : Settings) (v : View) (by : ℕ) (p q : Part) (k : ℕ) (key : Key) (hit : Bool) (u : View) → PartStands g v.front p
    → key_in p.keys k ≡ Some key → k < g.slots → is_held v.actors (Wheel p.number) ≡ true
    → Settles g v (Caller by) (last_timer p.number p.slots k) key.deadline ToOrphan hit u
    → (state g u.front).status (last_timer p.number p.slots k) ≢ Some Armed → q ≡ given_back p k hit
    → Orphans g v by p q (last_timer p.number p.slots k) u
orphaned_at g v by p q k key true u stands held low wheel settles settled part =
    let w : ℕ = p.number in
    let timer : TimerRef = last_timer w p.slots k in
    let e : Entry = orphan_entry by w timer in
    let step : Appends g v e u = settles in
    let counts = stands.counted in
    record {
      missed = None;
      step = step;
      settled = tt;
      part = part;
      stands = subst (λ (x : Part). PartStands g u.front x) (sym part)
          (back g v e u p k key true stands held step wheel settled
          (unexpired_step g v e u timer step wheel refl (stands.holds.rows.live k key held))
          (stands_gone g v e u p k p.expires (p.orphans + 1) stands (key_low p.keys k key held) step wheel refl (λ j other. two_slots w p.slots k j other) settled
          (counts.expires ∙ sym (count_same g v e u w is_expire step wheel refl))
          (ap (λ n. n + 1) counts.orphans ∙ sym (count_more g v e u w is_orphan step wheel (self w) refl))));
    }
orphaned_at g v by p q k key false u stands held low wheel settles settled part =
    let w : ℕ = p.number in
    let timer : TimerRef = last_timer w p.slots k in
    let e : Entry = probe_entry (Caller by) w k settles.found in
    let step : Appends g v e u = settles.step in
    let counts = stands.counted in
    let same : p.orphans + 0 ≡ p.orphans = omega arith in
    record {
      missed = Some settles.found;
      step = step;
      settled = settles.not_armed (sym (stands.holds.lasts k low));
      part = part;
      stands = subst (λ (x : Part). PartStands g u.front x) (sym part)
          (back g v e u p k key false stands held step wheel settled
          (live_unexpired ((state g u.front).status timer) (live_step g v e u timer step wheel refl (stands.holds.rows.live k key held)))
          (stands_gone g v e u p k p.expires (p.orphans + 0) stands (key_low p.keys k key held) step wheel refl (λ j other. refl) settled
          (counts.expires ∙ sym (count_same g v e u w is_expire step wheel refl))
          (same ∙ (counts.orphans ∙ sym (count_same g v e u w is_orphan step wheel refl)))));
    }

pub orphaned : (g : Settings) (v : View) (by : ℕ) (p q : Part) (timer : TimerRef) (deadline : ℕ) (hit : Bool) (u : View) → PartStands g v.front p
    → HoldsTimer p timer deadline → HoldsCaller g v by p.number → Settles g v (Caller by) timer deadline ToOrphan hit u
    → (state g u.front).status timer ≢ Some Armed → q ≡ given_back p timer.slot hit → Orphans g v by p q timer u
orphaned g v by p q timer deadline hit u stands has holds settles settled part =
    subst (λ t. Orphans g v by p q t u) (sym has.named)
    (orphaned_at g v by p q timer.slot (record { deadline = deadline; order = has.order }) hit u stands has.held
    (subst (λ n. timer.slot < n) stands.holds.many has.low) holds.wheel
    (subst (λ t. Settles g v (Caller by) t deadline ToOrphan hit u) has.named settles)
    (subst (λ t. (state g u.front).status t ≢ Some Armed) has.named settled) part)

-- it may be tried
pub may_orphan : (g : Settings) (v : View) (by : ℕ) (p : Part) (timer : TimerRef) (deadline : ℕ) → PartStands g v.front p → HoldsTimer p timer deadline
    → HoldsCaller g v by p.number → (state g v.front).exited (slot_at p.slots timer.slot).dest ≡ true
    → MayStep g v (hit_entry g (state g v.front) (Caller by) timer deadline ToOrphan)
may_orphan g v by p timer deadline stands has holds exited =
    let key : Key = record { deadline = deadline; order = has.order } in
    subst (λ t. MayStep g v (hit_entry g (state g v.front) (Caller by) t deadline ToOrphan)) (sym has.named)
    (record {
      ours = (holds.caller, holds.wheel);
      keeps = (holds.by_high, refl, record { wheel_high = stands.holds.number; slot_high = subst (λ n. timer.slot < n) stands.holds.many has.low });
      known = record {
        row = held_row p.number p.slots timer.slot key;
        stands = held_found g v.front p timer.slot key stands has.held;
        exited = exited;
      };
    })

or_first : (b c : Bool) → b ≡ true → (b || c) ≡ true
or_first true c is = refl
or_first false c is = absurd cc

-- a mark that saw an exit
pub exited_seen : (g : Settings) (v : View) (by process : ℕ) (u : View) → Appends g v (mark_entry (Caller by) process false true) u
    → (state g u.front).exited process ≡ true
exited_seen g v by process u step =
    let e : Entry = mark_entry (Caller by) process false true in
    let found : true ≡ (state g (v.front ++ step.between)).exited process = (can_step g v e u step).found in
    ap (λ (s : State). s.exited process) (stepped g v e u step)
    ∙ or_first ((state g (v.front ++ step.between)).exited process) _ (sym found)

-- the part stands after a mark
pub marked_stands : (g : Settings) (v : View) (by process : ℕ) (was : Bool) (u : View) (p : Part) → PartStands g v.front p
    → HoldsCaller g v by p.number → Appends g v (mark_entry (Caller by) process false was) u → PartStands g u.front p
marked_stands g v by process was u p stands holds step =
    stands_step g v (mark_entry (Caller by) process false was) u p stands step holds.wheel (record { arm = refl; expire = refl; orphan = refl })

-- a start ends where its destination hadn't exited
pub ends_alive : (g : Settings) (v : View) (by : ℕ) (p : Part) (dest : ℕ) (timer : TimerRef) (was : Bool) (u : View) → PartStands g v.front p
    → HoldsCaller g v by p.number → was ≡ false → Appends g v (mark_entry (Caller by) dest false was) u → Ends g v by p p dest timer u
ends_alive g v by p dest timer was u stands holds not step =
    let here : Appends g v (mark_entry (Caller by) dest false false) u = subst (λ b. Appends g v (mark_entry (Caller by) dest false b) u) not step in
    record {
      was = false;
      closing = [];
      closes = refl;
      call = step_takes_place g v (mark_entry (Caller by) dest false false) u here;
      number = refl;
      stands = marked_stands g v by dest was u p stands holds step;
      loses = loses_none p;
    }

closing_is : (by w : ℕ) (timer : TimerRef) (missed : Option (Option Status)) → timer.wheel ≡ w → IsSettled missed
    → Closes true by timer (orphans_by by w timer missed ∷ [])
closing_is by w timer None wheel settled = inl (ap (λ n. orphan_entry by n timer ∷ []) (sym wheel))
closing_is by w timer (Some found) wheel settled =
    inr (record { found = found; settled = settled; entries = ap (λ n. probe_entry (Caller by) n timer.slot found ∷ []) (sym wheel) })

-- and where it had
pub ends_exited : (g : Settings) (v : View) (by : ℕ) (p q : Part) (dest deadline : ℕ) (timer : TimerRef) (was : Bool) (u w : View) → was ≡ true
    → HoldsTimer p timer deadline → Appends g v (mark_entry (Caller by) dest false was) u → Orphans g u by p q timer w
    → Ends g v by p q dest timer w
ends_exited g v by p q dest deadline timer was u w is has step orphans =
    let here : Appends g v (mark_entry (Caller by) dest false true) u = subst (λ b. Appends g v (mark_entry (Caller by) dest false b) u) is step in
    record {
      was = true;
      closing = orphans_by by p.number timer orphans.missed ∷ [];
      closes = closing_is by p.number timer orphans.missed (ap (λ (t : TimerRef). t.wheel) has.named) orphans.settled;
      call = takes_place_then g v u w (mark_entry (Caller by) dest false true ∷ []) (orphans_by by p.number timer orphans.missed ∷ [])
          (step_takes_place g v (mark_entry (Caller by) dest false true) u here)
          (step_takes_place g u (orphans_by by p.number timer orphans.missed) w orphans.step);
      number = ap (λ (x : Part). x.number) orphans.part;
      stands = orphans.stands;
      loses = loses_row p q timer.slot (key_low p.keys timer.slot (record { deadline = deadline; order = has.order }) has.held)
          (ap (λ (x : Part). x.number) orphans.part) (ap (λ (x : Part). x.slots) orphans.part) (ap (λ (x : Part). x.keys) orphans.part)
          (ap (λ (x : Part). x.passed) orphans.part) (ap (λ (x : Part). x.stands) orphans.part) (given_keeps p q timer.slot (is_hit orphans.missed) orphans.part);
    }

-- a pass holds the same actors after a step
pub still_caller : (g : Settings) (v u : View) (by w k : ℕ) → HoldsCaller g v by w → u.actors ≡ v.actors → k ≡ w → HoldsCaller g u by k
still_caller g v u by w k holds same number =
    subst (HoldsCaller g u by) (sym number) (record {
      caller = subst (λ actors. is_held actors (Caller by) ≡ true) (sym same) holds.caller;
      wheel = subst (λ actors. is_held actors (Wheel w) ≡ true) (sym same) holds.wheel;
      by_high = holds.by_high;
    })
