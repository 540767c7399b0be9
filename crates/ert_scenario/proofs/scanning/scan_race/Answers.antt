use Rattle.std.proofs.Common.{◌≡◌, ◌+◌, List, map, drop, Err, subst, rules}
use Rattle.serde_json.specs.View.{view}
use Rattle.ert_ops.specs.declared.op.Op.{Op}
use Rattle.ert_scenario.specs.{Kinds.FoundOrFault, Walked.WalkIsAt, Walks.caller_raws}
use Rattle.ert_scenario.proofs.Scanned.{next_list, last_list}
use Rattle.ert_scenario.proofs.scanning.scan_race.Goals as goal

pub loop-list-init : goal.loop-list-init
loop-list-init c = λ all h. c.in_ok-scan_list.ensures.goes_on (caller_raws c.args.format (map view c.args.race.now.callers.now)) all h

pub loop-list-preserved : goal.loop-list-preserved
loop-list-preserved c = λ all h.
    let later = caller_raws c.args.format (map view (drop (c.loop-list.list-index + 1) c.args.race.now.callers.now)) in
    let here = next_list c.args.format c.args.race.now.callers.now c.loop-list.list-index c.list-item.result c.items_in.result.now c.loop-list-test.true c.list-item.is c.items_in.ensures in
    c.in_ok-scan_list-2.ensures.goes_on later all (subst (λ (xs : List (FoundOrFault Op)). WalkIsAt c.loop-list.walk xs all) here (c.loop-list.invariant all h))

pub returns-in_err-scan_list-2-clause-stops : goal.returns-in_err-scan_list-2-clause-stops
returns-in_err-scan_list-2-clause-stops c =
    let later = caller_raws c.args.format (map view (drop (c.loop-list.list-index + 1) c.args.race.now.callers.now)) in
    let here = next_list c.args.format c.args.race.now.callers.now c.loop-list.list-index c.list-item.result c.items_in.result.now c.loop-list-test.true c.list-item.is c.items_in.ensures in
    let answer : c.from_residual-in_err-scan_list-2.result ≡ Err c.in_err-scan_list-2.field-0.0 = search rules in
    rw answer (λ all h. c.in_err-scan_list-2.ensures.stops later all (subst (λ (xs : List (FoundOrFault Op)). WalkIsAt c.loop-list.walk xs all) here (c.loop-list.invariant all h)))

pub returns-clause-goes_on : goal.returns-clause-goes_on
returns-clause-goes_on c = λ all h.
    subst (λ (xs : List (FoundOrFault Op)). WalkIsAt c.loop-list.walk xs all) (last_list c.args.format c.args.race.now.callers.now c.loop-list.list-index c.loop-list-test.false) (c.loop-list.invariant all h)
