use Rattle.std.proofs.Common.{◌≡◌, ap, ◌∙◌}
use Rattle.std.specs.Option.{option_or}
use Rattle.ert_scenario.specs.Labels.{first_out}
use Rattle.ert_scenario.proofs.Tested.{first_of_all}
use Rattle.ert_scenario.proofs.scenario.first_range.Goals as goal

pub returns-clause-ok : goal.returns-clause-ok
returns-clause-ok c = λ all over.
    let found : c.in_ok-first_out.field-0 ≡ first_out c.args.settings.now c.in-Ok.labels.taken.items 1 c.args.walk.now.ops.items =
    c.in_ok-first_out.ensures.ok ∙ ap (first_out c.args.settings.now c.in-Ok.labels.taken.items 1) c.deref.ensures.value in
    c.or.ensures ∙ ap (λ r. option_or r c.args.walk.now.range) found
    ∙ first_of_all c.args.settings.now c.in-Ok.labels.taken.items c.args.walk.now.ops.items c.args.walk.now.range all c.in-Ok.ensures over
