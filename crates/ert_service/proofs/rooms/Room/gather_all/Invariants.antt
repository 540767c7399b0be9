use Rattle.std.proofs.Common.{◌≡◌, length}
use Rattle.std.specs.Vec.Iter.{into_iter_items, into_iter_len}
use Rattle.ert_defs.specs.Legal.{Legal}
use Rattle.ert_service.proofs.Gathered.{Gathers}
use Rattle.ert_table.specs.Desks.{front_of, view_of, Belongs}
use Rattle.ert_service.proofs.rooms.Room.gather_all.Given as goal

abbrev pub invariant-loop-lock : goal.invariant-loop-lock
invariant-loop-lock g l = record {
  belongs : Belongs l.desk l.pass;
  legal : Legal g.L.DeskName.settings (front_of l.pass);
  gathers : Gathers g.P.DeskPart.kind g.L.DeskName.settings (view_of l.fn.pass) (view_of l.pass) l.places.items (length (into_iter_items l.lock-iterator));
  remaining : into_iter_len l.lock-iterator ≡ length (into_iter_items l.lock-iterator);
}
