-- What the calls that read, cancel and start timers record and answer (`erlang` module reference,
-- `read_timer`, `cancel_timer`, `start_timer`).

use Rattle.std.specs.Prelude.{◌≡◌, ◌≢◌, ◌⊎◌, ℕ, zero, suc, ◌+◌, ◌<◌, ◌≤◌, ℤ, length, Bool, true, false, List, [], ◌∷◌, ◌++◌, Option, Some, None, Result, Ok, Err}
use Rattle.ert_defs.specs.{Entries.{look_entry, probe_entry, peek_entry, cancel_entry, arm_entry, orphan_entry, mark_entry}, Legal.names_timer, Milliseconds.{natural, down, deadline_of}, States.{State, uses_at}, Timers.{turned, is_taken}}
use Rattle.ert_defs.specs.{declared.entry.Actor.Actor, declared.entry.Actor.TheVariants.Caller, declared.entry.Entry.Entry, declared.settings.Settings.Settings, declared.timer.Start.Start, declared.timer.Status.Status}
use Rattle.ert_defs.specs.{declared.timer.Status.TheVariants.Armed, declared.timer.TimerRef.TimerRef}
use Rattle.ert_effects.specs.declared.answers.StartErr.{StartErr, TheVariants.{BadArg, Full, NoMemory}}

-- the entries of a read after its look: nothing is read of a reference out of range
abbrev pub read_entries : Bool → Actor → TimerRef → Option ℕ → List Entry
read_entries false by timer left = []
read_entries true by timer left = peek_entry by timer left ∷ []

-- `read_timer`: a look, and then the timer is read where the reference is in range; the answer is what was
-- left, and nothing where it is out of range
pub record Reads (g : Settings) (by : Actor) (timer : TimerRef) (answer : Option ℕ) (s : State) (es : List Entry) : Type 0 where
  pub now : ℤ
  pub entries : es ≡ look_entry by now ∷ read_entries (names_timer g timer) by timer answer
  pub quiet : names_timer g timer ≡ false → answer ≡ None

-- the entries of a cancel after its look, where this was left when the timer was read: it is cancelled
-- only where something was
abbrev pub cancel_entries : Bool → Actor → TimerRef → Option ℕ → Option ℕ → List Entry
cancel_entries false by timer found left = []
cancel_entries true by timer None left = peek_entry by timer None ∷ []
cancel_entries true by timer (Some found) left = peek_entry by timer (Some found) ∷ (cancel_entry by timer left ∷ [])

-- `cancel_timer`: a look, then the timer is read where the reference is in range, and it is cancelled
-- where something was left; the answer is what the cancel found left, and nothing where there is no cancel
pub record Cancels (g : Settings) (by : Actor) (timer : TimerRef) (answer : Option ℕ) (s : State) (es : List Entry) : Type 0 where
  pub now : ℤ
  pub found : Option ℕ
  pub entries : es ≡ look_entry by now ∷ cancel_entries (names_timer g timer) by timer found answer
  pub unread : names_timer g timer ≡ false → found ≡ None
  pub quiet : found ≡ None → answer ≡ None

-- entries that look at slots of a wheel
abbrev pub AreProbes : Actor → ℕ → List Entry → Type 0
AreProbes by wheel [] = Unit {0}
AreProbes by wheel (e ∷ es) = (slot : ℕ) × (found : Option Status) × (e ≡ probe_entry by wheel slot found) × AreProbes by wheel es

-- a timer couldn't be cancelled for the exit of its destination: another had settled it before
pub record IsMissed (by : Actor) (timer : TimerRef) (es : List Entry) : Type 0 where
  pub found : Option Status
  pub settled : found ≢ Some Armed
  pub entries : es ≡ probe_entry by timer.wheel timer.slot found ∷ []

-- what ends a start: where the destination had exited, the timer is cancelled for that, or was settled by
-- another
abbrev pub Closes : Bool → ℕ → TimerRef → List Entry → Type 0
Closes false by timer es = es ≡ []
Closes true by timer es = (es ≡ orphan_entry by timer.wheel timer ∷ []) ⊎ IsMissed (Caller by) timer es

-- a timer of the wheel is started: a look, some probes, the arming, a look at the exit of the destination,
-- and what follows from that
pub record IsStarted (g : Settings) (by wheel : ℕ) (start : Start) (timer : TimerRef) (s : State) (es : List Entry) : Type 0 where
  pub now : ℤ
  pub probes : List Entry
  pub was : Bool
  pub closing : List Entry
  pub on_wheel : timer.wheel ≡ wheel
  pub are_probes : AreProbes (Caller by) wheel probes
  pub closes : Closes was by timer closing
  pub entries : es ≡ look_entry (Caller by) now
      ∷ (probes ++ (arm_entry by timer start ∷ (mark_entry (Caller by) start.dest false was ∷ closing)))

-- a start has no deadline within the limits, by the look
pub record IsBadArg (g : Settings) (by : ℕ) (start : Start) (es : List Entry) : Type 0 where
  pub now : ℤ
  pub refused : deadline_of g start now ≡ None
  pub entries : es ≡ look_entry (Caller by) now ∷ []

-- at a look of so many milliseconds a slot rests: it was used 262143 times in its round, and the deadlines of
-- all its timers haven't passed
abbrev pub Rests : State → ℕ → ℕ → ℕ → Type 0
Rests s now wheel slot = now < (turned (uses_at s wheel slot)).since

-- so many slots from one on were looked at in order, and each was taken or rests
abbrev pub AreTaken : ℕ → ℕ → ℕ → State → ℕ → ℕ → List Entry → Type 0
AreTaken by wheel now s slot zero es = es ≡ []
AreTaken by wheel now s slot (suc n) es =
    (found : Option Status) × (later : List Entry) × (es ≡ probe_entry (Caller by) wheel slot found ∷ later)
    × ((is_taken found ≡ true) ⊎ Rests s now wheel slot) × AreTaken by wheel now s (suc slot) n later

-- the slots that a start looks at where it knows of none that is free: some from one on, and some from the first on, of
-- which each comes before that one. These are as many slots as a start looks at, or all where there are fewer
pub record Round (slots looks : ℕ) : Type 0 where
  pub from : ℕ
  pub ahead : ℕ
  pub behind : ℕ
  pub within : from + ahead ≤ slots
  pub apart : behind ≤ from
  pub all : slots ≤ looks → ahead + behind ≡ slots
  pub many : looks ≤ slots → ahead + behind ≡ looks

-- a slot is one of them
abbrev pub IsInRound : {slots looks : ℕ} → Round slots looks → ℕ → Type 0
IsInRound round k = ((round.from ≤ k) × (k < round.from + round.ahead)) ⊎ (k < round.behind)

-- they were looked at, and each was taken or rests
pub record IsRoundTaken (by wheel now : ℕ) (s : State) {slots looks : ℕ} (round : Round slots looks) (es : List Entry) : Type 0 where
  pub first : List Entry
  pub second : List Entry
  pub onward : AreTaken by wheel now s round.from round.ahead first
  pub around : AreTaken by wheel now s 0 round.behind second
  pub entries : es ≡ first ++ second

-- no slot is free for a start that has a deadline, of those that it looked at; or the wheel has had 2^53 timers
pub record IsWheelFull (g : Settings) (by wheel : ℕ) (start : Start) (s : State) (es : List Entry) : Type 0 where
  pub now : ℤ
  pub probes : List Entry
  pub accepted : deadline_of g start now ≢ None
  pub are_taken : ((round : Round g.slots g.looks) × IsRoundTaken by wheel (natural (down g now)) s round probes)
      ⊎ ((length (s.rows wheel) ≡ 9007199254740992) × (probes ≡ []))
  pub entries : es ≡ look_entry (Caller by) now ∷ probes

-- out of memory: no entry, or a look and some probes
pub record HasProbed (by wheel : ℕ) (es : List Entry) : Type 0 where
  pub now : ℤ
  pub probes : List Entry
  pub are_probes : AreProbes (Caller by) wheel probes
  pub entries : es ≡ look_entry (Caller by) now ∷ probes

-- `start`, of a timer of a wheel, by a caller with the wheel. The timer is answered: Look, any number of
-- Probes, Arm, Mark, and what follows from that (`IsStarted`). Refused for its time: Look, by which the start
-- has no deadline. The wheel is full, for a start that has a deadline: Look, and a Probe of each slot of a
-- round (`Round`), each taken or resting, or Look alone where the wheel has had 2^53 timers. Out of memory:
-- nothing, or Look and some Probes
abbrev pub Starts : Settings → ℕ → ℕ → Start → Result TimerRef StartErr → State → List Entry → Type 0
Starts g by wheel start (Ok timer) s es = IsStarted g by wheel start timer s es
Starts g by wheel start (Err BadArg) s es = IsBadArg g by start es
Starts g by wheel start (Err Full) s es = IsWheelFull g by wheel start s es
Starts g by wheel start (Err NoMemory) s es = (es ≡ []) ⊎ HasProbed by wheel es
