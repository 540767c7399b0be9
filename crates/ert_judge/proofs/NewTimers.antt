-- What a judge knows of a timer that a legal entry arms: its slot is free for it, and it is a new use of that.

use Rattle.std.proofs.Common.{◌≡◌, ◌∙◌, refl, sym, ap, subst, ℕ, ◌<◌, ◌≤◌, true, false, List, length, Option, Some, None, eq-eqb}
use Rattle.std.proofs.lemmas.{List.length-map, List.Elements.All-get_or, Option.{slice_get_within, get_or_from_slice_get}}
use Rattle.ert_defs.proofs.{ExpiredTimers.same_timer_self, Settlings.armed_first, Slots.{ordered, same_timer-true}}
use Rattle.ert_defs.specs.{Clocks.Clock, Legal.{Can, CanArm, Known}, Milliseconds.{natural, down, deadline_of}, States.{State, state, uses_at}, Timers.{Uses, IsNextUse, is_taken, same_timer}, declared.entry.Actor.Actor}
use Rattle.ert_defs.specs.{declared.entry.Entry.Entry, declared.entry.Event.Event, declared.entry.Event.TheVariants.Arm, declared.settings.Settings.Settings, declared.timer.Start.Start, declared.timer.TimerRef.TimerRef}
use Rattle.ert_judge.specs.{Parts.{looks_in, look_of}, Uses.{uses_in, IsNewUse}, Wheels.{timers_at, rows_of, status_among, IsOwnOf, IsOwn}, declared.state.wheels.Timer.Timer, Breaks.{ArmBreaks, UseBreaks, IsUse, last_status_of, looked_at}}
use Rattle.ert_judge.specs.{Shown.{shown, last_status, HasFollowed}, declared.judge.Judge.Judge, declared.reasons.Reason.Reason, declared.reasons.Reason.TheVariants.{SlotTaken, WheelUsed}}
use Rattle.ert_judge.proofs.TimerLaws.{ArmsNext}

-- a timer of which the use is the next of a free slot can be armed
pub use_known : (c : Clock) (j : Judge) (by : Actor) (timer : TimerRef) (deadline : Option ℕ) (u : Uses) (now count : ℕ)
    → is_taken (last_status j timer.wheel timer.slot) ≡ false → u ≡ uses_in (timers_at j.timers timer.wheel) timer.slot
    → now ≡ natural (down j.settings (look_of (looks_in j.looks) by)) → IsUse u now deadline timer.generation
    → count ≡ length (timers_at j.timers timer.wheel) → count < 9007199254740992
    → CanArm j.settings (shown c j) by timer deadline
use_known c j by timer deadline u now count free uses look is counts few =
    let ts : List Timer = timers_at j.timers timer.wheel in
    let all : length (rows_of ts) ≡ length ts = length-map ts (λ (t : Timer). t.row) in
    record {
      free = free;
      wanted = is.wanted;
      due = is.due;
      next_use = subst (λ (v : Uses). IsNextUse v (natural (down j.settings (look_of (looks_in j.looks) by))) is.wanted timer.generation)
          uses (subst (λ n. IsNextUse u n is.wanted timer.generation) look is.next_use);
      few = subst (λ n. n < 9007199254740992) (counts ∙ sym all) few;
    }

-- why a generation isn't the next use of a free slot is why the timer can't be armed
pub use_breaks : (g : Settings) (s : State) (by : Actor) (timer : TimerRef) (start : Start) (reason : Reason)
    → is_taken (last_status_of s timer.wheel timer.slot) ≡ false
    → UseBreaks (uses_at s timer.wheel timer.slot) (looked_at g s by) (deadline_of g start (s.looked by)) timer.generation reason
    → ArmBreaks g s by timer start reason
use_breaks g s by timer start (SlotTaken status) free never = absurd never
use_breaks g s by timer start WheelUsed free never = absurd never
use_breaks g s by timer start _ free breaks = (free, breaks)

-- and so is that its wheel has had as many timers as it may
pub wheel_used : (c : Clock) (j : Judge) (by : Actor) (timer : TimerRef) (start : Start) (u : Uses) (now count : ℕ)
    → is_taken (last_status j timer.wheel timer.slot) ≡ false → u ≡ uses_in (timers_at j.timers timer.wheel) timer.slot
    → now ≡ natural (down j.settings (look_of (looks_in j.looks) by))
    → IsUse u now (deadline_of j.settings start (look_of (looks_in j.looks) by)) timer.generation
    → count ≡ length (timers_at j.timers timer.wheel) → 9007199254740992 ≤ count
    → ArmBreaks j.settings (shown c j) by timer start WheelUsed
wheel_used c j by timer start u now count free uses look is counts full =
    let ts : List Timer = timers_at j.timers timer.wheel in
    let all : length (rows_of ts) ≡ length ts = length-map ts (λ (t : Timer). t.row) in
    let due : Option ℕ = deadline_of j.settings start (look_of (looks_in j.looks) by) in (
      free,
      subst (λ (v : Uses). IsUse v (natural (down j.settings (look_of (looks_in j.looks) by))) due timer.generation)
          uses (subst (λ n. IsUse u n due timer.generation) look is),
      subst (λ n. 9007199254740992 ≤ n) (counts ∙ sym all) full,
    )

-- a reference without a status in its wheel is a new use of its slot
own_new : (w : ℕ) (ts : List Timer) (r : TimerRef) → IsOwn w ts → r.wheel ≡ w → status_among ts r ≡ None
    → IsNewUse ts r.slot r.generation
own_new w ts r own wheel none p t stands slot generation =
    let is : IsOwnOf w ts t = subst (IsOwnOf w ts) (get_or_from_slice_get ts p t t stands)
    (All-get_or (IsOwnOf w ts) ts p t (slice_get_within ts p t stands) own) in
    let test : same_timer t.row.timer r ≡ true =
    rw (eq-eqb t.row.timer.wheel r.wheel (is.wheel ∙ sym wheel), eq-eqb t.row.timer.slot r.slot slot, eq-eqb t.row.timer.generation r.generation generation) refl in
    let e : Some t.status ≡ None = sym is.shown ∙ (ap (status_among ts) (same_timer-true t.row.timer r test) ∙ none) in
    cc

-- a legal entry arms no timer but a new one
pub arms_next : (g : Settings) (h : List Entry) (j : Judge) (e : Entry) → HasFollowed g h j → Can g (state g h) e
    → ArmsNext j.timers g ((state g h).looked e.by) e.event
arms_next g h j e stands can = of_event e.event can.known
  where
    s : State
    s = state g h

    of_event : (event : Event) → Known g s e.by e.with event → ArmsNext j.timers g (s.looked e.by) event
    of_event (Arm timer start) known = record {
      new = own_new timer.wheel (timers_at j.timers timer.wheel) timer (stands.own timer.wheel) refl
          (sym (ap (λ (t : State). t.status timer) stands.kept)
          ∙ armed_first g s e.by timer timer (deadline_of g start (s.looked e.by)) (ordered g h stands.legal) known (same_timer_self timer));
      due = λ none. let e : None ≡ Some known.wanted = sym none ∙ known.due in cc;
    }
    of_event _ known = tt
