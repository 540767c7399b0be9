use Rattle.std.proofs.Common.{◌≡◌, ℕ, ◌<◌, slice_index, vec_len}
use Rattle.std.specs.Mem.Slots.{slots_items}
use Rattle.ert_table.specs.Places.{process_place}
use Rattle.ert_table.proofs.opening.read_processes.Given as goal

abbrev pub invariant-loop-p : goal.invariant-loop-p
invariant-loop-p l = record {
  length : vec_len l.processes ≡ vec_len l.initial.processes;
  read : (k : ℕ) → k < l.p → slice_index l.processes.items k ≡ slice_index (slots_items l.closed.words) (process_place l.settings k);
}
