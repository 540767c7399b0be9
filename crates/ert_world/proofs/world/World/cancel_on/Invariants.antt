use Rattle.ert_world.proofs.EndingAll.{EndsSome, rows_at}
use Rattle.ert_world.specs.Stepping.{Stays}
use Rattle.ert_world.proofs.world.World.cancel_on.Given as goal

abbrev pub invariant-loop-timer : goal.invariant-loop-timer
invariant-loop-timer l = record {
  ends : EndsSome l.fn.self l.self l.wheel l.process l.count;
  stays : Stays l.fn.self l.self;
}

abbrev pub decreases-loop-timer : goal.decreases-loop-timer
decreases-loop-timer l = rows_at l.self l.wheel
