-- The places of the words in the table.

use Rattle.std.specs.Prelude.{◌≡◌, ℕ, ◌+◌, ◌*◌, ◌/◌, ◌%◌, ◌<◌, vec_len, slice_index}
use Rattle.ert_defs.specs.{States.State, Words.{time_word, offset_word, is_final, word_of_slot, process_word, wheel_width, wheels_width}, declared.settings.Settings.Settings}
use Rattle.ert_table.specs.declared.{desk.Words.Words, places.SlotPlace.SlotPlace}

-- the place of the word of a slot of a wheel
abbrev pub slot_place : Settings → ℕ → ℕ → ℕ
slot_place g w k = (24 + (w * wheel_width g)) + k

-- a place that was found is that of a slot of a wheel
abbrev pub IsPlaceOf : Settings → ℕ → ℕ → SlotPlace → Type 0
IsPlaceOf g w k found = found.place ≡ slot_place g w k

-- the place of the word of a slot, where the slots of all wheels are counted
abbrev pub timer_place : Settings → ℕ → ℕ
timer_place g i = slot_place g (i / g.slots) (i % g.slots)

-- the place of the word of a process
abbrev pub process_place : Settings → ℕ → ℕ
process_place g p = (24 + wheels_width g) + p

-- the words are those of a state
pub record AreWords (g : Settings) (s : State) (w : Words) : Type 0 where
  pub time : w.time ≡ time_word s.clock.now g.start
  pub offset : w.offset ≡ offset_word s.clock.offset (is_final s.clock.state)
  pub timers_length : vec_len w.timers ≡ g.schedulers * g.slots
  pub timers : (wheel slot : ℕ) → wheel < g.schedulers → slot < g.slots
      → slice_index w.timers.items ((wheel * g.slots) + slot) ≡ word_of_slot s wheel slot
  pub processes_length : vec_len w.processes ≡ g.processes
  pub processes : (p : ℕ) → p < g.processes → slice_index w.processes.items p ≡ process_word (s.exited p)
