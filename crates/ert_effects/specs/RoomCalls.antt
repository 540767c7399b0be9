-- What the call that looks how much room a wheel has records and answers.

use Rattle.std.specs.Prelude.{◌≡◌, ℕ, zero, suc, ◌+◌, ℤ, Bool, true, false, min, nat_lt, if◌then◌else◌, List, [], ◌∷◌, length, Option, Some, None}
use Rattle.ert_defs.specs.{Entries.{look_entry, probe_entry}, Milliseconds.{natural, down}, States.{State, uses_at}, Timers.{turned, is_taken}, declared.entry.Actor.TheVariants.Caller, declared.entry.Entry.Entry}
use Rattle.ert_defs.specs.{declared.settings.Settings.Settings, declared.timer.Status.Status}
use Rattle.ert_effects.specs.declared.answers.Room.{Room}

-- no slot was looked at yet
abbrev pub no_room : Room
no_room = record { free = 0; ready = None }

-- the lesser of two times, where there are two
abbrev pub sooner : ℕ → Option ℕ → Option ℕ
sooner time None = Some time
sooner time (Some other) = Some (min time other)

-- what is known with one slot more, by whether it is taken, whether it rests, and from when on it doesn't
abbrev pub with_slot : Bool → Bool → ℕ → Room → Room
with_slot true rests since room = room
with_slot false false since room = record { free = room.free + 1; ready = room.ready }
with_slot false true since room = record { free = room.free; ready = sooner since room.ready }

-- what is known with a slot that was found in this status at a look of so many milliseconds
abbrev pub with_found : State → ℕ → ℕ → ℕ → Option Status → Room → Room
with_found s now wheel slot found room =
    with_slot (is_taken found) (nat_lt now (turned (uses_at s wheel slot)).since) (turned (uses_at s wheel slot)).since room

-- so many slots from one on were looked at in order, and what was known before became this
abbrev pub ShowsRoom : ℕ → ℕ → ℕ → State → ℕ → ℕ → Room → Room → List Entry → Type 0
ShowsRoom by wheel now s slot zero before room es = (es ≡ []) × (room ≡ before)
ShowsRoom by wheel now s slot (suc n) before room es =
    (found : Option Status) × (later : List Entry) × (es ≡ probe_entry (Caller by) wheel slot found ∷ later)
    × ShowsRoom by wheel now s (suc slot) n (with_found s now wheel slot found before) room later

-- the room of a wheel whose slots were found so: none where it has had 2^53 timers
abbrev pub room_with : ℕ → Room → Room
room_with timers seen = if nat_lt timers 9007199254740992 then seen else no_room

-- `room`, by a caller with the wheel: a look, and then each slot was looked at in order. The answer: how many
-- were found not taken and don't rest at that look, and the least time at which one that rests and isn't taken
-- rests no longer. Where the wheel has had 2^53 timers, none and no time
pub record TellsRoom (g : Settings) (by wheel : ℕ) (room : Room) (s : State) (es : List Entry) : Type 0 where
  pub now : ℤ
  pub probes : List Entry
  pub seen : Room
  pub shows : ShowsRoom by wheel (natural (down g now)) s 0 g.slots no_room seen probes
  pub told : room ≡ room_with (length (s.rows wheel)) seen
  pub entries : es ≡ look_entry (Caller by) now ∷ probes
