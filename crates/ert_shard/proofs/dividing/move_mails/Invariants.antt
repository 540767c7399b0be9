use Rattle.std.proofs.Common.{◌≤◌}
use Rattle.ert_shard.specs.Hubs.{MovesMails}
use Rattle.ert_table.specs.Desks.{Belongs}
use Rattle.ert_shard.proofs.dividing.move_mails.Given as goal

abbrev pub invariant-loop-process : goal.invariant-loop-process
invariant-loop-process l = record {
  from_is : Belongs l.desk l.from;
  to_is : Belongs l.desk l.to;
  low : l.fn.first ≤ l.process;
  moves : MovesMails l.fn.first l.process l.fn.from l.fn.to l.from l.to;
}
