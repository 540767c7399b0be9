use Rattle.std.proofs.Common.{◌≡◌, ◌≤◌, length}
use Rattle.std.specs.Vec.Iter.{into_iter_items, into_iter_len}
use Rattle.ert_defs.specs.{Legal.Legal, declared.entry.Actor.TheVariants.Sched}
use Rattle.ert_locks.specs.Kinds.{scheds}
use Rattle.ert_service.specs.{Gathering.{IsSeen, AreIn}, Joining.JoinsSeats}
use Rattle.ert_table.specs.Desks.{front_of, view_of, Belongs}
use Rattle.ert_service.proofs.joining.join_scheds.Given as goal

abbrev pub invariant-loop-seat : goal.invariant-loop-seat
invariant-loop-seat g l = record {
  belongs : Belongs l.desk l.pass;
  legal : Legal g.L.DeskName.settings (front_of l.pass);
  seen : IsSeen (view_of l.fn.pass) (view_of l.pass);
  joins : JoinsSeats (λ s. s.part.wheel) (λ s. view_of s.pass) Sched g.L.DeskName.settings.schedulers (view_of l.pass) l.yielded (into_iter_items l.seat-iterator) l.fn.seats.items;
  remaining : into_iter_len l.seat-iterator ≡ length (into_iter_items l.seat-iterator);
  inside : AreIn scheds g.L.DeskName.settings (length l.yielded) (view_of l.pass) l.parts.items;
  len : l.parts.len ≡ length l.yielded;
  room : g.L.DeskName.settings.schedulers ≤ l.parts.cap;
}
