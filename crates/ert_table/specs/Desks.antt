-- What callers see of a desk and of a pass.

use Rattle.std.specs.Prelude.{◌≡◌, ℕ, ℤ, Bool, List, Option, Some, option_map}
use Rattle.ert_defs.specs.{Milliseconds.deadline_of, States.{State, state}, Timers.deadline_told, declared.entry.Entry.Entry, declared.entry.Actor.Actor, declared.entry.Actor.TheVariants.Caller, declared.settings.OffsetState.OffsetState}
use Rattle.ert_defs.specs.{declared.settings.Settings.Settings, declared.timer.Start.Start, declared.timer.TimerRef.TimerRef, Entries.mark_entry}
use Rattle.ert_table.specs.{Entries.{time_entry, offset_entry, offset_in, state_in}, Held.IsWhole, Settlings.{ShownWord, read_entry, hit_entry, Settles}, Takes.{MayStep, Appends}, declared.carry.OffsetCarry.OffsetCarry}
use Rattle.ert_table.specs.{declared.carry.Settle.Settle, declared.carry.TimeCarry.TimeCarry, declared.carry.TimerCarry.TimerCarry, declared.desk.Desk.Desk, declared.desk.Pass.Pass, declared.view.View.View}

-- the settings that a desk was opened with
abbrev pub settings_of : Desk → Settings
settings_of d = d.settings

-- what a pass knows and holds
abbrev pub view_of : Pass → View
view_of p = p.seat.me.0

-- the beginning of the history that a pass knows
abbrev pub front_of : Pass → List Entry
front_of p = p.seat.me.0.front

-- the actors that a pass holds
abbrev pub actors_of : Pass → List Actor
actors_of p = p.seat.me.0.actors

-- a pass is of a desk
pub record Belongs (d : Desk) (p : Pass) : Type 0 where
  pub table : p.seat.table_id ≡ d.table.shared.table_id
  pub named : p.seat.me.0.settings ≡ Some d.settings

-- a pass that holds every actor, and so knows the whole history, which is this one
pub record KnowsAll (d : Desk) (p : Pass) (h : List Entry) : Type 0 where
  pub belongs : Belongs d p
  pub whole : IsWhole d.settings p.seat.me.0.actors
  pub front : p.seat.me.0.front ≡ h

-- the state that a pass knows, after its front
abbrev pub state_of : Desk → Pass → State
state_of d p = state (settings_of d) (front_of p)

-- a pass may step with an entry
abbrev pub MayMake : Desk → Pass → Entry → Type 0
MayMake d p e = MayStep (settings_of d) (view_of p) e

-- a pass has stepped with an entry
abbrev pub Makes : Desk → Pass → Entry → Pass → Type 0
Makes d p e q = Appends (settings_of d) (view_of p) e (view_of q)

-- a pass may load the time, whatever it is
abbrev pub MayLoadTime : Desk → Pass → Actor → TimeCarry → Type 0
MayLoadTime d p by carry = (now : ℤ) → MayMake d p (time_entry by carry now)

-- what is recorded where a pass loads the offset
abbrev pub offset_made : Desk → Pass → Actor → OffsetCarry → ℤ → OffsetState → Entry
offset_made d p by carry offset new = offset_entry (settings_of d) (actors_of p) by carry offset new

-- the same by the word of the offset
abbrev pub offset_loaded : Desk → Pass → Actor → OffsetCarry → ℕ → Entry
offset_loaded d p by carry n = offset_made d p by carry (offset_in n) (state_in (settings_of d) n)

-- a pass may load the offset, whatever it is
abbrev pub MayLoadOffset : Desk → Pass → Actor → OffsetCarry → Type 0
MayLoadOffset d p by carry = (offset : ℤ) (new : OffsetState) → MayMake d p (offset_made d p by carry offset new)

-- what is recorded where a pass loads the word of a slot
abbrev pub read_made : Desk → Pass → Actor → TimerCarry → Option ShownWord → Entry
read_made d p by carry shown = read_entry (settings_of d) ((state_of d p).looked by) by carry shown

-- a pass may load the word of a slot, whatever it shows
abbrev pub MayLoadTimer : Desk → Pass → Actor → TimerCarry → Type 0
MayLoadTimer d p by carry = (shown : Option ShownWord) → MayMake d p (read_made d p by carry shown)

-- what is recorded where a pass settles a timer or hands it over
abbrev pub settled_made : Desk → Pass → Actor → TimerRef → ℕ → Settle → Entry
settled_made d p by timer deadline how = hit_entry (settings_of d) (state_of d p) by timer deadline how

-- a pass has settled a timer or handed it over, or has missed it
abbrev pub SettlesOrMisses : Desk → Pass → Actor → TimerRef → ℕ → Settle → Bool → Pass → Type 0
SettlesOrMisses d p by timer deadline how hit q = Settles (settings_of d) (view_of p) by timer deadline how hit (view_of q)

-- a pass may mark a process, whether it had exited or not
abbrev pub MayMark : Desk → Pass → Actor → ℕ → Bool → Type 0
MayMark d p by process exits = (was : Bool) → MayMake d p (mark_entry by process exits was)

-- a timer that is started has this deadline, by its caller's last look
abbrev pub IsDeadlineOf : Desk → Pass → ℕ → TimerRef → Start → ℕ → Type 0
IsDeadlineOf d p by timer start deadline =
    option_map (deadline_told timer.generation) (deadline_of (settings_of d) start ((state_of d p).looked (Caller by))) ≡ Some deadline
