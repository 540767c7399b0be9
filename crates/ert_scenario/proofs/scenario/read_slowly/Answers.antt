use Rattle.serde_json.specs.View.{view}
use Rattle.ert_scenario.proofs.Refused.{refused_bytes}
use Rattle.ert_scenario.proofs.scenario.read_slowly.Goals as goal

pub returns-in-Ok-clause-err : goal.returns-in-Ok-clause-err
returns-in-Ok-clause-err c =
    refused_bytes c.args.race c.args.bytes.now (view c.in-Ok.value) c.scenario_of.result
    (record { utf8 = c.in-Ok.ensures.ok.0; reads = c.in-Ok.ensures.ok.1 }) c.scenario_of.ensures.err
