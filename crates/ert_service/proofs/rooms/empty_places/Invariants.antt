use Rattle.std.proofs.Common.{◌≡◌, ◌≤◌}
use Rattle.ert_service.specs.Gathering.{AreEmpty}
use Rattle.ert_service.proofs.rooms.empty_places.Given as goal

abbrev pub invariant-loop : goal.invariant-loop
invariant-loop g l = record {
  len : l.places.len ≡ l.counter;
  room : l.count ≤ l.places.cap;
  empty : AreEmpty l.counter l.places.items;
}
