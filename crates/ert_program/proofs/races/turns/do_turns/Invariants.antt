use Rattle.std.proofs.Common.{◌≡◌}
use Rattle.ert_table.specs.Desks.{front_of}
use Rattle.ert_program.specs.Workers.{TurnsSoOften}
use Rattle.ert_program.proofs.races.turns.do_turns.Given as goal

abbrev pub invariant-loop-done : goal.invariant-loop-done
invariant-loop-done g l = record {
  number : l.session.seat.part.wheel ≡ l.fn.session.seat.part.wheel;
  so_far : TurnsSoOften g.L.DeskName.settings l.fn.session.seat.part.wheel l.done (front_of l.fn.session.seat.pass) (front_of l.session.seat.pass);
}
