use Rattle.std.proofs.Common.{◌≡◌, Some, sym}
use Rattle.serde_json.specs.{View.{view, members_view}, declared.value.Value.Object}
use Rattle.serde_json.proofs.Views.{view-Object}
use Rattle.ert_scenario.specs.{QuickMembers.{IsPlanOf, IsPlanWith}, Scenarios.plan_of}
use Rattle.ert_scenario.proofs.QuickMembers.{under, verdict_seen}
use Rattle.ert_scenario.proofs.quick.scenario_of.Goals as goal

pub returns-in-Ok-clause-ok : goal.returns-in-Ok-clause-ok
returns-in-Ok-clause-ok c =
    let seen = c.args.seen in
    let by : seen.format ≡ Some c.format_of.result = c.is_format.ensures c.if-is_format.true in
    under (λ s. IsPlanWith c.in-Ok.top seen.ops.items (plan_of s)) (λ s. IsPlanOf seen (plan_of s)) c.scenario_with.result
    (λ s judges all sees. verdict_seen seen.format c.format_of.result seen.ops.items c.in-Ok.top (plan_of s) (members_view seen.fields.entries) all (view (Object seen.fields))
    (view-Object seen.fields) by (sym c.format_of.ensures) (sym c.in-Ok.ensures) judges sees)
    c.scenario_with.ensures.ok
