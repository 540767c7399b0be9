use Rattle.ert_program.proofs.Rounds.{IsRoundSoFar}
use Rattle.ert_program.proofs.races.round.last_round.Given as goal

abbrev pub invariant-loop-sched : goal.invariant-loop-sched
invariant-loop-sched l = IsRoundSoFar l.fn.world l.sched l.world
