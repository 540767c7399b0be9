use Rattle.std.proofs.Common.{◌≡◌, ℕ, ◌<◌, ◌/◌, ◌%◌, slice_index, vec_len}
use Rattle.std.specs.Mem.Slots.{slots_items}
use Rattle.ert_table.specs.Places.{slot_place}
use Rattle.ert_table.proofs.opening.read_timers.Given as goal

abbrev pub invariant-loop-i : goal.invariant-loop-i
invariant-loop-i l = record {
  length : vec_len l.timers ≡ vec_len l.initial.timers;
  read : (k : ℕ) → k < l.i → slice_index l.timers.items k
      ≡ slice_index (slots_items l.closed.words) (slot_place l.settings (k / l.settings.slots) (k % l.settings.slots));
}
