-- The entries that the steps make.

use Rattle.std.specs.Prelude.{ℕ, ℤ, pos, ◌+ℤ◌, ◌-ℤ◌, ◌/◌, ◌%◌, Bool, true, false, nat_eq, List, Option, Some, None, option_map}
use Rattle.ert_defs.specs.{Entries.entry_by, Lines.first_state, declared.entry.Actor.Actor, declared.entry.Actor.TheVariants.{Keeper, Wheel, Inbox, Sched, MailOf, Caller}, declared.entry.Entry.Entry, declared.entry.Event.TheVariants.Look}
use Rattle.ert_defs.specs.{declared.entry.Event.TheVariants.{Off, Advanced, Ask, Pick, Answer, Take, Unwatch, Watch, Tell}, declared.settings.Mode.Mode, declared.settings.OffsetState.OffsetState}
use Rattle.ert_defs.specs.{declared.settings.OffsetState.TheVariants.Final, declared.settings.Settings.Settings}
use Rattle.ert_table.specs.{Held.least_caller, declared.carry.OffsetCarry.OffsetCarry, declared.carry.OffsetCarry.TheVariants.{Off as ToOff, Watch as ToWatch, Tell as ToTell}, declared.carry.TimeCarry.TimeCarry}
use Rattle.ert_table.specs.{declared.carry.TimeCarry.TheVariants.{Look as ToLook, Advanced as ToAdvance, Ask as ToAsk, Pick as ToPick, Answer as ToAnswer, Take as ToTake, Unwatch as ToUnwatch}}

-- the wheel of a scheduler
abbrev pub wheel_of : Actor → ℕ
wheel_of (Sched w) = w
wheel_of _ = 0

-- what is recorded where the time word is loaded
abbrev pub time_entry : Actor → TimeCarry → ℤ → Entry
time_entry by ToLook now = entry_by by None (Look now)
time_entry by (ToAdvance to) now = entry_by by (Some (Wheel (wheel_of by))) (Advanced (wheel_of by) to)
time_entry by (ToAsk wheel request) now = entry_by by (Some (Inbox wheel)) (Ask wheel request)
time_entry by (ToPick got) now = entry_by by (Some (Inbox (wheel_of by))) (Pick (wheel_of by) got)
time_entry by (ToAnswer left process) now = entry_by by (Some (MailOf process)) (Answer (wheel_of by) left)
time_entry by (ToTake process got) now = entry_by by (Some (MailOf process)) (Take process got)
time_entry by (ToUnwatch process monitor was) now = entry_by by (Some (MailOf process)) (Unwatch process monitor was)

-- the time of a word
abbrev pub time_in : Settings → ℕ → ℤ
time_in g n = g.start +ℤ pos n

-- with whom the offset is read: the clock's part, with the caller of least number among these
abbrev pub offset_with : Settings → List Actor → Actor → Option Actor
offset_with g actors Keeper = option_map Caller (least_caller actors g.callers)
offset_with g actors by = None

-- what is recorded where the offset word is loaded by a pass with these actors
abbrev pub offset_entry : Settings → List Actor → Actor → OffsetCarry → ℤ → OffsetState → Entry
offset_entry g actors by ToOff offset state = entry_by by (offset_with g actors by) (Off offset state)
offset_entry g actors by (ToWatch process monitor) offset state = entry_by by (Some (MailOf process)) (Watch process monitor offset)
offset_entry g actors by (ToTell process) offset state = entry_by by (Some (MailOf process)) (Tell process offset)

-- the offset of a word
abbrev pub offset_in : ℕ → ℤ
offset_in n = pos (n / 2) -ℤ pos 4611686018427387904

-- the state of an offset that is final or not, in a mode
abbrev pub state_where : Mode → Bool → OffsetState
state_where mode true = Final
state_where mode false = first_state mode

-- the state of the offset of a word
abbrev pub state_in : Settings → ℕ → OffsetState
state_in g n = state_where g.mode (nat_eq (n % 2) 1)
