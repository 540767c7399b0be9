use Rattle.std.proofs.Common.{subst}
use Rattle.ert_table.specs.Desks.{MayMark}
use Rattle.ert_table.proofs.desk.Pass.mark.Goals as goal

pub exit_as-requires-clause-may : goal.exit_as-requires-clause-may
exit_as-requires-clause-may c = subst (MayMark c.args.desk.now c.args.self.now c.args.by c.args.process) c.if-exits.true c.requires.may

pub load_exit_as-requires-clause-may : goal.load_exit_as-requires-clause-may
load_exit_as-requires-clause-may c = subst (MayMark c.args.desk.now c.args.self.now c.args.by c.args.process) c.if-exits.false c.requires.may
