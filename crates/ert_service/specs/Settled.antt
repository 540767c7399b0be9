-- What the calls of a service leave settled. The function of src/laws.rt carries the laws as its contract, so
-- that they are proved.

use Rattle.std.specs.Prelude.{◌≡◌, ◌≢◌, ℕ, ◌<◌, ◌≤◌, true, Contains, List, [], ◌∷◌, ◌++◌, Some, Ok}
use Rattle.ert_effects.specs.{Chains.{AdvancesWheel, Exits, Turns}, TimerCalls.Starts, Ways.{Grows, beside}, declared.answers.Turned.Turned}
use Rattle.ert_defs.specs.{Laws.has_settled, Legal.Legal, States.{State, state}, Timers.Row, declared.entry.Actor.Actor, declared.entry.Actor.TheVariants.Wheel, declared.entry.Entry.Entry, declared.settings.Settings.Settings}
use Rattle.ert_defs.specs.{declared.timer.Start.Start, declared.timer.Status.TheVariants.Armed, declared.timer.TimerRef.TimerRef}

-- no timer of a wheel is armed that is due by a time, in milliseconds after the start time
abbrev pub NoneDue : State → ℕ → ℕ → Type 0
NoneDue s wheel to = (row : Row) → Contains (s.rows wheel) row → row.deadline ≤ to → s.status row.timer ≢ Some Armed

-- of the timers that a wheel had in an earlier state, none for a process is armed in this one
abbrev pub NoneFor : State → State → ℕ → ℕ → Type 0
NoneFor was s wheel process = (row : Row) → Contains (was.rows wheel) row → row.dest ≡ process → s.status row.timer ≢ Some Armed

-- no expired timer waits at a scheduler
abbrev pub NoneWaits : State → ℕ → Type 0
NoneWaits s wheel = (s.scheds wheel).expired ≡ []

-- a timer was started and has been settled
abbrev pub WasSettled : State → TimerRef → Type 0
WasSettled s timer = has_settled (s.status timer) ≡ true

-- after an advance to a time, no timer is armed that the wheel has by then and that is due, whatever comes
-- after the call
abbrev pub LawOfSettledByAdvance : Type 0
LawOfSettledByAdvance = (g : Settings) (a : Actor) (wheel to expired : ℕ) (row : Row) (f h after : List Entry) → Legal g (h ++ after)
    → Grows (AdvancesWheel g (beside g a) wheel (Ok (to, expired))) f h
    → Contains ((state g h).rows wheel) row → row.deadline ≤ to
    → (state g (h ++ after)).status row.timer ≢ Some Armed

-- after an exit, no timer is armed that stood for the process at its Mark, with which the first step of the
-- call ends
abbrev pub LawOfSettledByExit : Type 0
LawOfSettledByExit = (g : Settings) (a : Actor) (by process wheel : ℕ) (row : Row) (f h after : List Entry) → Legal g (h ++ after)
    → (call : Grows (Exits g (beside g a) by process true) f h) → wheel < g.schedulers
    → Contains ((state g (f ++ call.made.before)).rows wheel) row → row.dest ≡ process
    → (state g (h ++ after)).status row.timer ≢ Some Armed

-- after a start that found its destination to have exited, its timer is settled
abbrev pub LawOfSettledByStart : Type 0
LawOfSettledByStart = (g : Settings) (a : Actor) (by wheel : ℕ) (start : Start) (timer : TimerRef) (f h after : List Entry) → Legal g (h ++ after)
    → (call : Grows (beside g a (Wheel wheel ∷ []) (Starts g by wheel start (Ok timer))) f h) → call.made.allowed.was ≡ true
    → WasSettled (state g (h ++ after)) timer

-- after a turn no expired timer waits at the scheduler
abbrev pub LawOfNoneWaiting : Type 0
LawOfNoneWaiting = (g : Settings) (a : Actor) (wheel : ℕ) (t : Turned) (f h : List Entry) → Grows (Turns g (beside g a) wheel (Ok t)) f h
    → NoneWaits (state g h) wheel
