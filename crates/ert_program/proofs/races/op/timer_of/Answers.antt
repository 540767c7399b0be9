use Rattle.std.proofs.Common.{sym, ◌∙◌}
use Rattle.ert_program.proofs.CallsMade.{ref_first, ref_second}
use Rattle.ert_program.proofs.races.op.timer_of.Goals as goal

pub returns-in-Some : goal.returns-in-Some
returns-in-Some c = ref_first c.args.known.now c.args.own.now c.args.label c.in-Some.timer (sym c.in-Some.is ∙ c.find.ensures)

pub returns-in-None : goal.returns-in-None
returns-in-None c =
    ref_second c.args.known.now c.args.own.now c.args.label (sym c.in-None.is ∙ c.find.ensures) ∙ sym c.reference.ensures
