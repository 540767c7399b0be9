-- Laws of the timers of a scheduler. The functions of src/laws.rt carry them as contracts, so that they are
-- proved.

use Rattle.std.specs.Prelude.{◌≡◌, ◌≢◌, ℕ, List, [], ◌∷◌, Option, Some, None, Result, count_by}
use Rattle.std.specs.Option.{is_some}
use Rattle.ert_defs.specs.{Actors.of, Legal.Legal, States.{State, state}, declared.entry.Actor.Actor, declared.entry.Actor.TheVariants.{Wheel, Sched, Caller}, declared.entry.Entry.Entry, declared.memory.NoMemory.NoMemory}
use Rattle.ert_defs.specs.{declared.settings.Settings.Settings, declared.timer.Start.Start, declared.timer.Status.TheVariants.Armed, declared.timer.TimerRef.TimerRef}
use Rattle.ert_effects.specs.{RestartCalls.Restarts, RoomCalls.TellsRoom, Sleeping.{Probed, probed_entries}, TimerCalls.{Cancels, Starts}, WheelCalls.{Advances, Sweeps}, declared.answers.RestartErr.RestartErr, declared.answers.Room.Room}
use Rattle.ert_effects.specs.{declared.answers.StartErr.StartErr}
use Rattle.ert_laws.specs.Counts.{count_at}
use Rattle.ert_table.specs.{Calls.{AreOnlyOf, IsMade}, Held.IsWhole, Views.Begins, declared.view.View.View}
use Rattle.ert_timers.specs.{Parts.{Part, PartStands}, Tidy.{IsTidy, IsTidyBut}}

-- a part that stands for a history stands for each longer legal one that has no more entries of the wheel:
-- where others have made theirs, and where a pass that holds it was joined to another
abbrev pub LawOfStandingParts : Type 0
LawOfStandingParts = (g : Settings) (f h : List Entry) (p : Part) → Begins f h → of h (Wheel p.number) ≡ of f (Wheel p.number) → Legal g h
    → PartStands g f p → PartStands g h p

-- these entries are of an actor and of a wheel alone
abbrev pub AreWithWheel : Actor → ℕ → List Entry → Type 0
AreWithWheel by w es = AreOnlyOf (by ∷ (Wheel w ∷ [])) es

-- the entries of a start are of its caller and of the wheel alone
abbrev pub LawOfStartEntries : Type 0
LawOfStartEntries = (g : Settings) (by w : ℕ) (start : Start) (answer : Result TimerRef StartErr) (s : State) (es : List Entry)
    → Starts g by w start answer s es → AreWithWheel (Caller by) w es

-- so are those of a restart
abbrev pub LawOfRestartEntries : Type 0
LawOfRestartEntries = (g : Settings) (by w : ℕ) (timer : TimerRef) (start : Start) (answer : Result TimerRef RestartErr) (s : State) (es : List Entry)
    → Restarts g by w timer start answer s es → AreWithWheel (Caller by) w es

-- those of an advance are of the scheduler and of its wheel alone
abbrev pub LawOfAdvanceEntries : Type 0
LawOfAdvanceEntries = (g : Settings) (w : ℕ) (answer : Result (ℕ × ℕ) NoMemory) (s : State) (es : List Entry) → Advances g w answer s es
    → AreWithWheel (Sched w) w es

-- those of a sweep are of its caller and of the wheel alone
abbrev pub LawOfSweeps : Type 0
LawOfSweeps = (g : Settings) (by w process : ℕ) (s : State) (es : List Entry) → Sweeps g by w process s es → AreWithWheel (Caller by) w es

-- those of a look at how much room there is are of its caller and of the wheel alone
abbrev pub LawOfRooms : Type 0
LawOfRooms = (g : Settings) (by w : ℕ) (room : Room) (s : State) (es : List Entry) → TellsRoom g by w room s es → AreWithWheel (Caller by) w es

-- those of probes by a scheduler are of it and of its wheel alone
abbrev pub LawOfProbes : Type 0
LawOfProbes = (w : ℕ) (probes : List Probed) → AreWithWheel (Sched w) w (probed_entries w probes)

-- a tidy part holds as many rows as there are armed timers of its wheel
abbrev pub LawOfTidyCounts : Type 0
LawOfTidyCounts = (g : Settings) (h : List Entry) (p : Part) → PartStands g h p → IsTidy (state g h) p
    → count_by is_some p.keys ≡ count_at (state g h) Armed p.number

-- what a cancel by a pass that holds every actor leaves: where it answers a number its timer isn't armed any
-- more; and a tidy part is tidy but for that timer then, and wholly so where the answer is none
pub record IsLeftBy (g : Settings) (v : View) (timer : TimerRef) (answer : Option ℕ) (u : View) : Type 0 where
  pub settled : (left : ℕ) → answer ≡ Some left → (state g u.front).status timer ≢ Some Armed
  pub others : (p : Part) → IsTidy (state g v.front) p → IsTidyBut (state g u.front) p timer
  pub missed : (p : Part) → answer ≡ None → PartStands g v.front p → IsTidy (state g v.front) p → IsTidy (state g u.front) p

-- a cancel by a pass that holds every actor leaves this
abbrev pub LawOfWholeCancels : Type 0
LawOfWholeCancels = (g : Settings) (v : View) (by : Actor) (timer : TimerRef) (answer : Option ℕ) (u : View) → IsWhole g v.actors
    → IsMade g v (Cancels g by timer answer) u → IsLeftBy g v timer answer u
