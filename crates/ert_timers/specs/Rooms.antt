-- A look at how much room a wheel has: at the time, and then at every slot.

use Rattle.std.specs.Prelude.{◌≡◌, ℕ, ◌+◌, ℤ, pos, ◌≤◌, nat_lt, if◌then◌else◌, List, [], ◌∷◌, length, Option, Some, None}
use Rattle.ert_defs.specs.{Entries.{look_entry, probe_entry}, Milliseconds.{down, natural}, States.{State, state}, Timers.is_taken, declared.entry.Actor.TheVariants.Caller, declared.entry.Entry.Entry, declared.settings.Settings.Settings}
use Rattle.ert_defs.specs.{declared.timer.Status.Status}
use Rattle.ert_effects.specs.{RoomCalls.{no_room, with_slot, with_found, ShowsRoom}, declared.answers.Room.Room}
use Rattle.ert_table.specs.{Takes.{Appends, TakesPlace}, declared.view.View.View}
use Rattle.ert_timers.specs.{Changes.is_resting, Parts.{Part, PartStands, slot_at}, Searching.CanTake, Starting.probes_from}

-- a slot was looked at, and what was known before became this
pub record SeesSlot (g : Settings) (v : View) (by now : ℕ) (p : Part) (k : ℕ) (before room : Room) (u : View) : Type 0 where
  pub found : Option Status
  pub step : Appends g v (probe_entry (Caller by) p.number k found) u
  pub told : room ≡ with_slot (is_taken found) (is_resting (slot_at p.slots k) now) (slot_at p.slots k).above before

-- what is known after slots were found so in order, from one on
abbrev pub room_after : State → ℕ → ℕ → ℕ → List (Option Status) → Room → Room
room_after s now wheel slot [] room = room
room_after s now wheel slot (found ∷ founds) room = room_after s now wheel (slot + 1) founds (with_found s now wheel slot found room)

-- a look at the time, and then every slot was looked at
pub record SeesAll (g : Settings) (v : View) (by : ℕ) (p : Part) (seen : Room) (u : View) : Type 0 where
  pub now : ℤ
  pub probes : List Entry
  pub shows : ShowsRoom by p.number (natural (down g now)) (state g v.front) 0 g.slots no_room seen probes
  pub call : TakesPlace g v (look_entry (Caller by) now ∷ probes) u
  pub stands : PartStands g u.front p

-- a look at the time, and then so many slots were looked at in order
pub record SeesSome (g : Settings) (v : View) (by now : ℕ) (p : Part) (n : ℕ) (room : Room) (u : View) : Type 0 where
  pub looked : ℤ
  pub founds : List (Option Status)
  pub down_to : pos now ≡ down g looked
  pub begun : (k : ℕ) → (state g v.front).since p.number k ≤ now
  pub call : TakesPlace g v (look_entry (Caller by) looked ∷ probes_from by p.number 0 founds) u
  pub count : length founds ≡ n
  pub stands : PartStands g u.front p
  pub told : room ≡ room_after (state g v.front) now p.number 0 founds no_room
  pub few : room.free ≤ n

-- the first slot that was found free, by the first before it, and how many were with it
abbrev pub first_with : Option ℕ → ℕ → ℕ → Option ℕ
first_with (Some k) slot free = Some k
first_with None slot free = if nat_lt 0 free then Some slot else None

-- the first slot that was found free can take a timer still; none was found where there is no such one
abbrev pub FindsFree : Settings → State → Part → Room → Option ℕ → Type 0
FindsFree g s p room (Some k) = CanTake g s p k
FindsFree g s p room None = room.free ≡ 0
