use Rattle.std.proofs.Common.{◌≡◌, ◌≤◌, length}
use Rattle.std.specs.Vec.Iter.{into_iter_items, into_iter_len}
use Rattle.ert_service.specs.Dividing.{Divides}
use Rattle.ert_table.specs.Desks.{front_of, actors_of, Belongs}
use Rattle.ert_service.proofs.rooms.Room.lock_all.Given as goal

abbrev pub invariant-loop-part : goal.invariant-loop-part
invariant-loop-part g l = record {
  belongs : Belongs l.desk l.pass;
  front : front_of l.pass ≡ front_of l.fn.pass;
  divides : Divides g.P.DeskPart.kind g.L.DeskName.settings (front_of l.fn.pass) (actors_of l.fn.pass) (actors_of l.pass) l.locks.len (into_iter_items l.part-iterator);
  remaining : into_iter_len l.part-iterator ≡ length (into_iter_items l.part-iterator);
  room : g.P.DeskPart.kind.count g.L.DeskName.settings ≤ l.locks.cap;
}
