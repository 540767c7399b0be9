use Rattle.std.proofs.Common.{◌≡◌, ◌+◌, ◌++◌, List, map, drop, Err, subst, rules}
use Rattle.serde_json.specs.View.{view}
use Rattle.ert_ops.specs.declared.op.Op.{Op}
use Rattle.ert_scenario.specs.{Kinds.FoundOrFault, Walked.WalkIsAt, Walks.raws_of}
use Rattle.ert_scenario.proofs.Scanned.{next_raw, last_raw}
use Rattle.ert_scenario.proofs.scanning.scan_list.Goals as goal

pub loop-value-preserved : goal.loop-value-preserved
loop-value-preserved c = λ rest all h.
    let later = raws_of c.args.format c.args.doer (map view (drop (c.loop-value.value-index + 1) c.args.items.now)) ++ rest in
    let here = next_raw c.args.format c.args.doer c.args.items.now c.loop-value.value-index c.value-item.result c.op_of.result rest c.loop-value-test.true c.value-item.is c.op_of.ensures in
    c.in_ok-step.ensures.goes_on later all (subst (λ (xs : List (FoundOrFault Op)). WalkIsAt c.loop-value.walk xs all) here (c.loop-value.invariant rest all h))

pub returns-in_err-step-clause-stops : goal.returns-in_err-step-clause-stops
returns-in_err-step-clause-stops c =
    let later = λ (rest : List (FoundOrFault Op)). raws_of c.args.format c.args.doer (map view (drop (c.loop-value.value-index + 1) c.args.items.now)) ++ rest in
    let here = λ (rest : List (FoundOrFault Op)). next_raw c.args.format c.args.doer c.args.items.now c.loop-value.value-index c.value-item.result c.op_of.result rest c.loop-value-test.true c.value-item.is c.op_of.ensures in
    let answer : c.from_residual.result ≡ Err c.in_err-step.field-0.0 = search rules in
    rw answer (λ rest all h. c.in_err-step.ensures.stops (later rest) all (subst (λ (xs : List (FoundOrFault Op)). WalkIsAt c.loop-value.walk xs all) (here rest) (c.loop-value.invariant rest all h)))

pub returns-clause-goes_on : goal.returns-clause-goes_on
returns-clause-goes_on c = λ rest all h.
    let end = last_raw c.args.format c.args.doer c.args.items.now c.loop-value.value-index rest c.loop-value-test.false in
    subst (λ (xs : List (FoundOrFault Op)). WalkIsAt c.loop-value.walk xs all) end (c.loop-value.invariant rest all h)
