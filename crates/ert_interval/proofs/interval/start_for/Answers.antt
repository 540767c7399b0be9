use Rattle.std.proofs.Common.{ap, ◌∙◌, FitsSigned, w64, to_z-of_z, rules}
use Rattle.ert_interval.specs.Deadlines.{start_at}
use Rattle.ert_interval.proofs.interval.start_for.Goals as goal

pub returns : goal.returns
returns c =
    let fits : FitsSigned w64 c.time_of.result = search rules in
    c.start_at.ensures ∙ ap (λ t. start_at t c.args.dest c.args.msg) (to_z-of_z fits ∙ c.time_of.ensures)
