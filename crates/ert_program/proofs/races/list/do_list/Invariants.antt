use Rattle.std.proofs.Common.{◌≡◌, take}
use Rattle.ert_program.specs.Workers.{DoesAll}
use Rattle.ert_table.specs.Desks.{front_of}
use Rattle.ert_program.proofs.races.list.do_list.Given as goal

abbrev pub invariant-loop-op : goal.invariant-loop-op
invariant-loop-op g l = record {
  number : l.doer.session.seat.number ≡ l.fn.doer.session.seat.number;
  so_far : DoesAll g.L.DeskName.settings l.fn.doer.session.seat.number l.known (take l.op-index l.ops) l.replies.items l.own (front_of l.fn.doer.session.seat.pass) (front_of l.doer.session.seat.pass);
}
