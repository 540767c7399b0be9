use Rattle.std.proofs.Common.{List, map, Ok, Err, Bor, codes, ap, ◌∙◌}
use Rattle.serde_json.specs.{Data.Data, View.view, declared.value.Value.Value}
use Rattle.ert_scenario.specs.Fields.{field}
use Rattle.ert_scenario.specs.Kinds.{FoundOrFault, ◌>>=◌, listed, arrays}
use Rattle.ert_scenario.proofs.Founds.{both_read}
use Rattle.ert_scenario.proofs.lists.lists_in.Goals as goal

pub returns-in-Ok : goal.returns-in-Ok
returns-in-Ok c =
    let seen : Bor (List Value) → List Data = λ s. map view s.now in
    let e = both_read seen seen c.listed.result c.arrays.result (field (codes "keeper") listed (view c.args.race.now)) (field (codes "callers") arrays (view c.args.race.now))
    (Ok (c.in-Ok.keeper, c.in-Ok.callers)) c.in-Ok.ensures (c.listed.ensures ∙ ap listed c.get.ensures) (c.arrays.ensures ∙ ap arrays c.get-2.ensures) in
    ap (λ (r : FoundOrFault (List Data × List Data)). r >>= (λ p. Ok (record { keeper = p.0; callers = p.1 }))) e

pub returns-in-Err : goal.returns-in-Err
returns-in-Err c =
    let seen : Bor (List Value) → List Data = λ s. map view s.now in
    let e = both_read seen seen c.listed.result c.arrays.result (field (codes "keeper") listed (view c.args.race.now)) (field (codes "callers") arrays (view c.args.race.now))
    (Err c.in-Err.fault) c.in-Err.ensures (c.listed.ensures ∙ ap listed c.get.ensures) (c.arrays.ensures ∙ ap arrays c.get-2.ensures) in
    ap (λ (r : FoundOrFault (List Data × List Data)). r >>= (λ p. Ok (record { keeper = p.0; callers = p.1 }))) e
