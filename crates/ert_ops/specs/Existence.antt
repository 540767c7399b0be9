-- That no relation is too strong: after each legal history each call has an answer other than out of memory, with entries
-- that are legal there; so each list of ops has a transcript. The functions of src/existence.rt carry the laws as
-- contracts, so that they are proved.

use Rattle.std.specs.Prelude.{◌≡◌, ◌≢◌, ℕ, ◌<◌, ◌≤◌, Bool, List, ◌++◌, length, None, Ok, Err}
use Rattle.ert_defs.specs.{Actors.IsUser, Legal.{LegalFrom, Legal}, Settings.IsChecked, States.{State, run, state}, declared.entry.Actor.Actor, declared.entry.Entry.Entry, declared.mail.Request.Request, declared.settings.Reading.Reading}
use Rattle.ert_defs.specs.{declared.settings.Settings.Settings, declared.timer.Start.Start, declared.timer.TimerRef.TimerRef}
use Rattle.ert_effects.specs.{Chains.{Serves, AdvancesWheel, Delivers, Turns, Exits}, ClockCalls.{Ticks, Finalizes, TellsTime, TellsOffset, TellsSystemTime}, MailCalls.{Takes, Monitors, Demonitors, Notifies}, RequestCalls.Asks}
use Rattle.ert_effects.specs.{RestartCalls.Restarts, RoomCalls.TellsRoom, SomeCalls.AdvancesWheelSome, TimerCalls.{Reads, Cancels, Starts}, Ways.{Step, Growth, alone}, WheelCalls.{TellsAlive, MarksExit}, declared.answers.Left.Left}
use Rattle.ert_effects.specs.{declared.answers.MonitorErr.TheVariants.NoMemory as NoMonitorMemory, declared.answers.StartErr.TheVariants.NoMemory, declared.answers.Turned.Turned}
use Rattle.ert_ops.specs.{Labels.AreOps, Ranges.AreOpsInRange, declared.op.Op.Op, Plain.plain_text, Scripts.IsTranscript}

-- in a state a step allows some entries that are legal there, and leave no shift due where none was
pub record IsPossible (g : Settings) (s : State) (allows : Step) : Type 0 where
  pub entries : List Entry
  pub allowed : allows s entries
  pub legal : LegalFrom g s entries
  pub undue : s.clock.due ≡ None → (run g s entries).clock.due ≡ None

-- after a history a call of several steps allows some piece that is legal there, and leaves no shift due where none was
pub record CanFollow (g : Settings) (h : List Entry) (call : Growth) : Type 0 where
  pub piece : List Entry
  pub made : call h piece
  pub legal : LegalFrom g (state g h) piece
  pub undue : (state g h).clock.due ≡ None → (state g (h ++ piece)).clock.due ≡ None

-- some answer is possible
abbrev pub HasAnswer : {A : Type 0} → Settings → State → (A → Step) → Type 0
HasAnswer {A} g s allows = (answer : A) × IsPossible g s (allows answer)

-- some answer but this one
abbrev pub HasAnswerBut : {A : Type 0} → Settings → State → A → (A → Step) → Type 0
HasAnswerBut {A} g s but allows = (answer : A) × (answer ≢ but) × IsPossible g s (allows answer)

-- the calls on the clock; while a shift is due, the clock's part makes that before anything else
pub record ClockAnswers (g : Settings) (s : State) : Type 0 where
  pub time : (by : Actor) → IsUser g by → HasAnswer g s (TellsTime g by)
  pub offset : (by : Actor) → IsUser g by → HasAnswer g s (TellsOffset g by)
  pub system_time : (by : Actor) → IsUser g by → HasAnswer g s (TellsSystemTime g by)
  pub tick : (n : ℕ) (r : Reading) (force : Bool) → n < g.callers → s.clock.due ≡ None → HasAnswer g s (Ticks g n r force)
  pub finalize : (n : ℕ) (r : Reading) → n < g.callers → s.clock.due ≡ None → HasAnswer g s (Finalizes g n r)

-- the calls on timers
pub record TimersAnswer (g : Settings) (s : State) : Type 0 where
  pub read : (by : Actor) (timer : TimerRef) → IsUser g by → HasAnswer g s (Reads g by timer)
  pub cancel : (by : Actor) (timer : TimerRef) → IsUser g by → HasAnswer g s (Cancels g by timer)
  pub start : (n w : ℕ) (start : Start) → n < g.callers → w < g.schedulers → start.dest < g.processes
      → HasAnswerBut g s (Err NoMemory) (Starts g n w start)
  pub restart : (n w : ℕ) (timer : TimerRef) (start : Start) → n < g.callers → w < g.schedulers → start.dest < g.processes
      → HasAnswer g s (Restarts g n w timer start)
  pub room : (n w : ℕ) → n < g.callers → w < g.schedulers → HasAnswer g s (TellsRoom g n w)

-- the calls on processes
pub record ProcessesAnswer (g : Settings) (s : State) : Type 0 where
  pub alive : (by : Actor) (p : ℕ) → IsUser g by → p < g.processes → HasAnswer g s (TellsAlive g by p)
  pub mark : (by : Actor) (p : ℕ) → IsUser g by → p < g.processes → HasAnswer g s (MarksExit g by p)
  pub take : (n p : ℕ) → n < g.callers → p < g.processes → HasAnswer g s (Takes g n p)
  pub monitor : (n p : ℕ) → n < g.callers → p < g.processes → HasAnswerBut g s (Err NoMonitorMemory) (Monitors g n p)
  pub demonitor : (n p k : ℕ) → n < g.callers → p < g.processes → HasAnswer g s (Demonitors g n p k)
  pub notify : (n p : ℕ) → n < g.callers → p < g.processes → HasAnswer g s (λ put. Notifies g n p (Ok put))
  pub ask : (n w : ℕ) (q : Request) → n < g.callers → w < g.schedulers → q.reply_to < g.processes → IsPossible g s (Asks g n w q (Ok tt))

-- the calls of several locked steps
pub record ChainsAnswer (g : Settings) (h : List Entry) : Type 0 where
  pub serve : (w : ℕ) → w < g.schedulers → (served : Bool) × CanFollow g h (Serves g (alone g) w (Ok served))
  pub advance : (w : ℕ) → w < g.schedulers → (answer : ℕ × ℕ) × CanFollow g h (AdvancesWheel g (alone g) w (Ok answer))
  pub advance_some : (w most : ℕ) → w < g.schedulers → (answer : ℕ × ℕ × Left) × CanFollow g h (AdvancesWheelSome g (alone g) w most (Ok answer))
  pub deliver : (w : ℕ) → w < g.schedulers → (answer : ℕ × ℕ) × CanFollow g h (Delivers g (alone g) w (Ok answer))
  pub turn : (w : ℕ) → w < g.schedulers → (turned : Turned) × CanFollow g h (Turns g (alone g) w (Ok turned))
  pub exit : (n p : ℕ) → n < g.callers → p < g.processes → (was_alive : Bool) × CanFollow g h (Exits g (alone g) n p was_alive)

-- after each legal history each call has an answer other than out of memory
abbrev pub LawOfPossibleCalls : Type 0
LawOfPossibleCalls = (g : Settings) (h : List Entry) → IsChecked g → Legal g h
    → ClockAnswers g (state g h) × TimersAnswer g (state g h) × ProcessesAnswer g (state g h) × ChainsAnswer g h

-- ops in range have a transcript: the text of the plain service
abbrev pub LawOfExistence : Type 0
LawOfExistence = (g : Settings) (ops : List Op) → IsChecked g → AreOps ops → AreOpsInRange g ops → length ops ≤ g.looks
    → IsTranscript g ops (plain_text g ops)
