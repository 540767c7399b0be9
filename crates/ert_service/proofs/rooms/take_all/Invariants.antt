use Rattle.std.proofs.Common.{◌≡◌, ◌+◌, ◌≤◌, ◌++◌, length}
use Rattle.std.specs.Vec.Iter.{into_iter_items, into_iter_len}
use Rattle.ert_service.specs.Gathering.{somes}
use Rattle.ert_service.proofs.rooms.take_all.Given as goal

abbrev pub invariant-loop-place : goal.invariant-loop-place
invariant-loop-place g l = record {
  taken : l.parts.items ++ somes (into_iter_items l.place-iterator) ≡ somes l.fn.places.items;
  room : l.parts.len + length (into_iter_items l.place-iterator) ≤ l.parts.cap;
  remaining : into_iter_len l.place-iterator ≡ length (into_iter_items l.place-iterator);
}
