-- What `live` leaves.

use Rattle.std.specs.Prelude.{◌≡◌, ◌≢◌, ◌<◌, ◌+◌, ◌⊎◌, ℕ, ℤ, pos, true, List, [], ◌∷◌, ◌++◌, length, codes, decimal, Some, None, IsSomeAnd}
use Rattle.std.specs.Fmt.{signed_decimal}
use Rattle.ert_effects.specs.Ways.{alone}
use Rattle.ert_defs.specs.{Legal.Legal, Readings.IsValid, States.state, declared.entry.Entry.Entry, declared.settings.Mode.TheVariants.No, declared.settings.Reading.Reading, declared.settings.Settings.Settings}
use Rattle.ert_defs.specs.{declared.settings.TheConstants.SCENARIO_LOOKS}
use Rattle.ert_io.specs.{Faults.Rose, Known.{StreamTold, HandsOut, HandsUpTo}, Told.{took, TakesFront}}
use Rattle.ert_ops.specs.{declared.op.Op.Op, Labels.Labels, Scripts.Script, declared.reply.Reply.Reply}
use Rattle.ert_ops.specs.declared.op.Op.TheVariants as ops
use Rattle.ert_program.specs.{Written.{Returned, HasHistory}, Streams.{ClockStream, Output}, declared.ending.Ended.Ended, declared.ending.EndStatus.TheVariants.{Done, Refused, WriteFault, ClockFault, NoMemory}}
use Rattle.ert_world.specs.{Openings.IsOpened, Worlds.{Seen, StandsFor}}
use Rattle.ert_script.specs.Scripts.{Does, Runs}
use Rattle.ert_ops.specs.Texts.{◌⋅◌, end_line}
use Rattle.ert_ops.specs.declared.reply.Reply.TheVariants as replies

-- readings that are all valid
abbrev pub AreValid : List Reading → Type 0
AreValid [] = Unit {0}
AreValid (r ∷ rs) = IsValid r × AreValid rs

-- the settings of the service that the first reading opens
abbrev pub live_settings : Reading → Settings
live_settings r = record { mode = No; correction = true; start = pos 0; schedulers = 1; processes = 1; slots = 1; looks = SCENARIO_LOOKS; callers = 1; first = r }

-- the ops for the readings after the first: a tick, and then both times are looked up
abbrev pub live_ops : List Reading → List Op
live_ops [] = []
live_ops (r ∷ rs) = ops.Tick r.mono r.sys ∷ ops.Time ∷ ops.System ∷ live_ops rs

-- what a reply prints: the two times stand in one line, and a tick prints nothing
abbrev pub live_part : Reply → List ℕ
live_part (replies.Time now) = codes "live " ⋅ signed_decimal now
live_part (replies.System time) = codes " " ⋅ signed_decimal time ⋅ codes "\n"
live_part _ = []

-- what replies print, one after the other
abbrev pub live_lines : List Reply → List ℕ
live_lines [] = []
live_lines (r ∷ rs) = live_part r ++ live_lines rs

-- the line of the reading that isn't valid
abbrev pub refused_reading : ℕ → List ℕ
refused_reading number = codes "refused reading " ⋅ decimal number ⋅ codes "\n"

-- a legal history of one thread is a script run of the ops for some readings, of which the first opened the
-- service; the text is the lines of its replies
pub record IsLiveText (first : Reading) (others : List Reading) (text : List ℕ) : Type 0 where
  pub entries : List Entry
  pub replies : List Reply
  pub labels : Labels
  pub legal : Legal (live_settings first) entries
  pub runs : Script (live_settings first) (alone (live_settings first)) 0 [] (ops.Time ∷ ops.System ∷ live_ops others) replies labels [] entries
  pub reads : text ≡ live_lines replies

-- the same of any readings: before the first there is no service and no line
abbrev pub AreLive : List Reading → List ℕ → Type 0
AreLive [] text = text ≡ []
AreLive (first ∷ others) text = IsLiveText first others text

-- n valid readings were taken; the text is their lines and the end line, and the desk that is returned has for its
-- history just the entries of their script run
pub record LiveDone (n : ℕ) (old new : StreamTold Reading) (text : List ℕ) (r : Returned) : Type 0 where
  pub first : Reading
  pub others : List Reading
  pub lines : List ℕ
  pub count : length (first ∷ others) ≡ n
  pub given : HandsOut old new (first ∷ others)
  pub valid : AreValid (first ∷ others)
  pub is : IsLiveText first others lines
  pub whole : text ≡ lines ⋅ end_line (state (live_settings first) is.entries).clock.now
  pub desk : HasHistory (live_settings first) is.entries r

-- fewer than n valid readings were taken, and then one that isn't valid; the text is the lines of the valid
-- ones, and the line of the other
pub record LiveRefused (n : ℕ) (old new : StreamTold Reading) (text : List ℕ) : Type 0 where
  pub readings : List Reading
  pub bad : Reading
  pub lines : List ℕ
  pub count : length readings < n
  pub given : HandsOut old new (readings ++ bad ∷ [])
  pub valid : AreValid readings
  pub not_valid : IsValid bad → ⊥
  pub are : AreLive readings lines
  pub whole : text ≡ lines ⋅ refused_reading (length readings + 1)

-- fewer than n valid readings were taken, and the clock failed; the text is their lines
pub record LiveStopped (n : ℕ) (old new : StreamTold Reading) (text : List ℕ) : Type 0 where
  pub readings : List Reading
  pub count : length readings < n
  pub given : HandsOut old new readings
  pub valid : AreValid readings
  pub are : AreLive readings text

-- what the readings made: an end, and the text that it writes
pub record Watched (n : ℕ) (c d : ClockStream) (e : Ended) (text : List ℕ) : Type 0 where
  pub done : e.status ≡ Done → IsSomeAnd e.desk (LiveDone n c.told d.told text)
  pub refused : e.status ≡ Refused → LiveRefused n c.told d.told text
  pub clock_fault : e.status ≡ ClockFault → Rose c.faults d.faults × LiveStopped n c.told d.told text
  pub only : (e.status ≡ Done) ⊎ (e.status ≡ Refused) ⊎ (e.status ≡ ClockFault)
  pub no_desk : e.status ≢ Done → e.desk ≡ None

-- the text was written
abbrev pub Writes : Output → Output → (List ℕ → Type 0) → Type 0
Writes o p is = (text : List ℕ) × (p.told ≡ took o.told text) × is text

-- a first part of the text that the readings made was written
pub record WatchBreaksOff (n : ℕ) (c d : ClockStream) (o p : Output) : Type 0 where
  pub made : Ended
  pub text : List ℕ
  pub watched : Watched n c d made text
  pub writes : TakesFront o.told p.told text

-- `live` with so many readings came to an end, between two moments of the clock and of the output
pub record LiveEnds (n : ℕ) (c d : ClockStream) (o p : Output) (e : Ended) : Type 0 where
  pub done : e.status ≡ Done → Writes o p (λ text. IsSomeAnd e.desk (LiveDone n c.told d.told text))
  pub no_desk : e.status ≢ Done → e.desk ≡ None
  pub refused : e.status ≡ Refused → Writes o p (LiveRefused n c.told d.told)
  pub clock_fault : e.status ≡ ClockFault → Rose c.faults d.faults × Writes o p (LiveStopped n c.told d.told)
  pub write_fault : e.status ≡ WriteFault → Rose o.faults p.faults × WatchBreaksOff n c d o p
  pub no_memory : e.status ≡ NoMemory → HandsUpTo n c.told d.told × (p ≡ o)
  pub only : (e.status ≡ Done) ⊎ (e.status ≡ Refused) ⊎ (e.status ≡ ClockFault) ⊎ (e.status ≡ WriteFault) ⊎ (e.status ≡ NoMemory)
  -- where nothing fails and the readings are valid, only running out of memory keeps it from being done
  pub complete : (Rose c.faults d.faults → ⊥) → (Rose o.faults p.faults → ⊥)
      → (readings later : List Reading) → c.told.left ≡ Some (readings ++ later) → length readings ≡ n → AreValid readings
      → (e.status ≡ Done) ⊎ (e.status ≡ NoMemory)

-- a world lived through some readings, of which the first opened it: it did their ops, and the text is its lines
pub record Lived (first : Reading) (others : List Reading) (w : Seen) (text : List ℕ) : Type 0 where
  pub start : Seen
  pub opened : IsOpened (live_settings first) start
  pub replies : List Reply
  pub runs : Runs start [] (ops.Time ∷ ops.System ∷ live_ops others) replies w []
  pub stands : StandsFor w.settings w.history w
  pub reads : text ≡ live_lines replies

-- both times were looked up and their line was appended
pub record TellsTimes (old new : Seen) (text text_new : List ℕ) : Type 0 where
  pub now : ℤ
  pub time : ℤ
  pub mid : Seen
  pub first : Does old ops.Time (replies.Time now) mid
  pub second : Does mid ops.System (replies.System time) new
  pub stands : StandsFor new.settings new.history new
  pub writes : text_new ≡ text ++ (live_part (replies.Time now) ++ live_part (replies.System time))
