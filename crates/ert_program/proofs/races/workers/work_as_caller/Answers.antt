use Rattle.std.proofs.Common.{List, sym, subst}
use Rattle.ert_ops.specs.{Races.{MayDo, lists_of, race_of}, declared.op.Op.Op}
use Rattle.ert_program.proofs.Worked.{may_at}
use Rattle.ert_program.proofs.races.workers.work_as_caller.Goals as goal

pub do_list-done-requires : goal.do_list-done-requires
do_list-done-requires g c =
    subst (λ (ops : List Op). MayDo g.L.DeskName.settings ops) (sym c.list_for-ops.ensures)
    (may_at g.L.DeskName.settings (lists_of (race_of c.args.race.now)) c.args.seat.number c.requires.may)
