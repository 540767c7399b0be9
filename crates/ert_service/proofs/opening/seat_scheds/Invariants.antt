use Rattle.std.proofs.Common.{◌≡◌, ◌≤◌, length}
use Rattle.std.specs.Vec.Iter.{into_iter_items, into_iter_len}
use Rattle.ert_locks.specs.Kinds.{scheds}
use Rattle.ert_service.specs.Dividing.{Divides, AreSeated}
use Rattle.ert_table.specs.Desks.{front_of, actors_of, Belongs}
use Rattle.ert_service.proofs.opening.seat_scheds.Given as goal

abbrev pub invariant-loop-part : goal.invariant-loop-part
invariant-loop-part g l = record {
  belongs : Belongs l.desk l.pass;
  front : front_of l.pass ≡ front_of l.fn.pass;
  divides : Divides scheds g.L.DeskName.settings (front_of l.fn.pass) (actors_of l.fn.pass) (actors_of l.pass) l.seats.len (into_iter_items l.part-iterator);
  remaining : into_iter_len l.part-iterator ≡ length (into_iter_items l.part-iterator);
  room : g.L.DeskName.settings.schedulers ≤ l.seats.cap;
  seated : AreSeated (λ s. s.part.wheel) (λ s. front_of s.pass) l.seats.len (front_of l.fn.pass) l.seats.items;
}
