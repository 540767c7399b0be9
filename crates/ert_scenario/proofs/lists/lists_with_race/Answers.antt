use Rattle.std.proofs.Common.{List, map, Some, Ok, Err, Bor, codes, ap, ◌∙◌}
use Rattle.serde_json.specs.{Data.Data, View.view, declared.value.Value.Value}
use Rattle.ert_scenario.specs.{Fields.field, Lists.{RaceValues, race_seen, race_lists}}
use Rattle.ert_scenario.specs.Kinds.{FoundOrFault, ◌>>=◌, listed}
use Rattle.ert_scenario.proofs.Founds.{both_read}
use Rattle.ert_scenario.proofs.lists.lists_with_race.Goals as goal

pub returns-in-Ok : goal.returns-in-Ok
returns-in-Ok c =
    let seen : Bor (List Value) → List Data = λ s. map view s.now in
    let e = both_read seen race_seen c.listed.result c.race_lists.result (field (codes "ops") listed (view c.args.value.now)) (field (codes "race") race_lists (view c.args.value.now))
    (Ok (c.in-Ok.ops, c.in-Ok.race)) c.in-Ok.ensures (c.listed.ensures ∙ ap listed c.get.ensures) (c.race_lists.ensures ∙ ap race_lists c.get-2.ensures) in
    ap (λ (r : FoundOrFault (List Data × RaceValues)). r >>= (λ p. Ok (record { ops = p.0; race = Some p.1 }))) e

pub returns-in-Err : goal.returns-in-Err
returns-in-Err c =
    let seen : Bor (List Value) → List Data = λ s. map view s.now in
    let e = both_read seen race_seen c.listed.result c.race_lists.result (field (codes "ops") listed (view c.args.value.now)) (field (codes "race") race_lists (view c.args.value.now))
    (Err c.in-Err.fault) c.in-Err.ensures (c.listed.ensures ∙ ap listed c.get.ensures) (c.race_lists.ensures ∙ ap race_lists c.get-2.ensures) in
    ap (λ (r : FoundOrFault (List Data × RaceValues)). r >>= (λ p. Ok (record { ops = p.0; race = Some p.1 }))) e
