use Rattle.std.proofs.Common.{◌≡◌, length, false, Ok, sym, ap, ◌∙◌}
use Rattle.ert_scenario.specs.Scenarios.{is_over}
use Rattle.ert_scenario.proofs.QuickMembers.{plain_judged}
use Rattle.ert_scenario.proofs.quick.scenario_with.Goals as goal

pub returns-clause-ok : goal.returns-clause-ok
returns-clause-ok c = λ format values h.
    let many = c.len.ensures ∙ c.args.ops.ok.0 in
    let few : is_over (length c.args.ops.items) 0 c.args.top.turns ≡ false =
    ap (λ n. is_over n 0 c.args.top.turns) (sym many) ∙ sym c.is_over.ensures ∙ c.if-is_over.false in
    plain_judged format values c.args.top c.args.ops.items c.in_ok-first_range.field-0 h c.in_ok-first_range.ensures.ok (sym c.is_some.ensures ∙ c.if-is_some.false) few
    ∙ ap Ok (sym c.scenario_without_race.ensures)
