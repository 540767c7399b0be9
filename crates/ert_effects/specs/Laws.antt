-- Laws on what the calls answer. The functions of src/laws.rt carry them as contracts, so that they are
-- proved.

use Rattle.std.specs.Prelude.{◌≡◌, ◌≢◌, ℕ, ◌<◌, Bool, true, Contains, List, ◌++◌, Option, Some, Ok, Err, ◌≤◌, []}
use Rattle.ert_defs.specs.{Legal.Legal, States.{State, state}, Timers.Row, declared.entry.Actor.Actor, declared.entry.Entry.Entry, declared.mail.Request.Request, declared.settings.Reading.Reading, declared.settings.Settings.Settings}
use Rattle.ert_defs.specs.{declared.timer.Start.Start, declared.timer.Status.TheVariants.Armed, declared.timer.TimerRef.TimerRef}
use Rattle.ert_effects.specs.{Chains.{Exits, Turns}, ClockCalls.{Ticks, Finalizes, TellsTime, TellsOffset, TellsSystemTime}, MailCalls.{HandsOver, Takes, Monitors, Demonitors, Notifies}, RequestCalls.{Picks, Answers}, TimerCalls.Reads}
use Rattle.ert_effects.specs.{TimerCalls.{Cancels, Starts}, Ways.{Way, alone, beside}, WheelCalls.{Advances, TellsAlive, MarksExit}, declared.answers.Turned.Turned}
use Rattle.ert_effects.specs.declared.answers.MonitorErr.TheVariants as monitors
use Rattle.ert_effects.specs.declared.answers.StartErr.TheVariants as starts

-- an answer is read from the entries: in one state the same entries have one answer
abbrev pub IsRead : {A : Type 0} → (A → State → List Entry → Type 0) → Type 0
IsRead {A} allows = (s : State) (es : List Entry) (a b : A) → allows a s es → allows b s es → a ≡ b

-- the same of two answers that aren't out of memory
abbrev pub IsReadBut : {A : Type 0} → A → (A → State → List Entry → Type 0) → Type 0
IsReadBut {A} want allows = (s : State) (es : List Entry) (a b : A) → a ≢ want → b ≢ want → allows a s es → allows b s es → a ≡ b

-- the answer to a tick is read from its entries, forced or not
abbrev pub LawOfTicks : Type 0
LawOfTicks = (g : Settings) (by : ℕ) (r : Reading) (force : Bool) → IsRead (Ticks g by r force)

-- so is the answer to a finalization
abbrev pub LawOfFinalizations : Type 0
LawOfFinalizations = (g : Settings) (by : ℕ) (r : Reading) → IsRead (Finalizes g by r)

-- so is monotonic time
abbrev pub LawOfTimes : Type 0
LawOfTimes = (g : Settings) (by : Actor) → IsRead (TellsTime g by)

-- so is the time offset, with its state
abbrev pub LawOfOffsets : Type 0
LawOfOffsets = (g : Settings) (by : Actor) → IsRead (TellsOffset g by)

-- so is system time
abbrev pub LawOfSystemTimes : Type 0
LawOfSystemTimes = (g : Settings) (by : Actor) → IsRead (TellsSystemTime g by)

-- so is what is left of a timer that is read
abbrev pub LawOfReads : Type 0
LawOfReads = (g : Settings) (by : Actor) (timer : TimerRef) → IsRead (Reads g by timer)

-- so is what was left of a timer that is cancelled
abbrev pub LawOfCancels : Type 0
LawOfCancels = (g : Settings) (by : Actor) (timer : TimerRef) → IsRead (Cancels g by timer)

-- so is the answer to a start, unless memory ran out
abbrev pub LawOfStarts : Type 0
LawOfStarts = (g : Settings) (by wheel : ℕ) (start : Start) → IsReadBut (Err starts.NoMemory) (Starts g by wheel start)

-- so are the milliseconds to which a wheel is advanced, and how many timers expired
abbrev pub LawOfAdvances : Type 0
LawOfAdvances = (g : Settings) (w : ℕ) → IsRead (λ (answer : ℕ × ℕ). Advances g w (Ok answer))

-- so is whether a process is alive, and whether it was when it exits
abbrev pub LawOfMarks : Type 0
LawOfMarks = (g : Settings) (by : Actor) (process : ℕ) → IsRead (TellsAlive g by process) × IsRead (MarksExit g by process)

-- so is what became of an expired timer that is handed over
abbrev pub LawOfHandedOver : Type 0
LawOfHandedOver = (g : Settings) (w : ℕ) (expired : Row) → IsRead (λ how. HandsOver g w expired (Ok how))

-- so is what is taken from a mailbox
abbrev pub LawOfTaken : Type 0
LawOfTaken = (g : Settings) (by process : ℕ) → IsRead (Takes g by process)

-- so is the answer to the making of a monitor, unless memory ran out
abbrev pub LawOfMonitors : Type 0
LawOfMonitors = (g : Settings) (by process : ℕ) → IsReadBut (Err monitors.NoMemory) (Monitors g by process)

-- so is whether a monitor stood that is removed
abbrev pub LawOfDemonitors : Type 0
LawOfDemonitors = (g : Settings) (by process monitor : ℕ) → IsRead (Demonitors g by process monitor)

-- so is how many messages are put where monitors are told the offset
abbrev pub LawOfTold : Type 0
LawOfTold = (g : Settings) (by process : ℕ) → IsRead (λ (put : ℕ). Notifies g by process (Ok put))

-- so is the request that a scheduler picks, or that there was none
abbrev pub LawOfPicks : Type 0
LawOfPicks = (g : Settings) (w : ℕ) → IsRead (Picks g w)

-- so is what is left of a timer by the answer to a request
abbrev pub LawOfAnswers : Type 0
LawOfAnswers = (g : Settings) (w : ℕ) (request : Request) → IsRead (λ (left : Option ℕ). Answers g w request (Ok left))

-- after an exit that was made in a way, no timer of the process that was armed before it is armed: `call`
-- begins with the Mark by which it exits
abbrev pub ExitSettles : Settings → Way → Type 0
ExitSettles g way = (by process wheel : ℕ) (row : Row) (h m after : List Entry) → Legal g (h ++ (m ++ after))
    → (call : Exits g way by process true h m) → wheel < g.schedulers
    → Contains ((state g (h ++ call.before)).rows wheel) row → row.dest ≡ process
    → (state g (h ++ (m ++ after))).status row.timer ≢ Some Armed

-- an exit settles the timers of its process, alone and beside others
abbrev pub LawOfExits : Type 0
LawOfExits = (g : Settings) → ExitSettles g (alone g) × ((a : Actor) → ExitSettles g (beside g a))

-- a turn that was made in a way served 64 at most, and leaves no expired timer to hand over
abbrev pub EndsTurn : Settings → Way → Type 0
EndsTurn g way = (w : ℕ) (t : Turned) (h m : List Entry) → Turns g way w (Ok t) h m
    → (t.served ≤ 64) × (((state g (h ++ m)).scheds w).expired ≡ [])

-- so does each turn, alone and beside others
abbrev pub LawOfTurns : Type 0
LawOfTurns = (g : Settings) → EndsTurn g (alone g) × ((a : Actor) → EndsTurn g (beside g a))
