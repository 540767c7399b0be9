use Rattle.std.proofs.Common.{◌≡◌, ℕ, [], length, Some, None, Err, Bool, true, false, sym, ap, ◌∙◌, rules}
use Rattle.ert_scenario.specs.{Labels.tested, Lists.{lists_seen, list_count}, Scenarios.is_over, Walks.{all_raws, first_range}}
use Rattle.ert_scenario.proofs.{Cut.cut_plan_same, Accepted.few_from, Judged.{ends_walk, judged_range, judged_limit, judged_ok}, Tested.whole_walk}
use Rattle.ert_scenario.proofs.scenario.scenario_with.Goals as goal

-- what was tested, in terms of the walk
tested_over : (m n lists count turns : ℕ) (is : Bool) → m ≡ n → lists ≡ count → is ≡ is_over m lists turns → is_over n count turns ≡ is
tested_over m n lists count turns is e f h = sym (h ∙ ap (λ k. is_over k lists turns) e ∙ ap (λ k. is_over n k turns) f)

pub returns-in_err-walk-clause-err : goal.returns-in_err-walk-clause-err
returns-in_err-walk-clause-err c =
    let seen = lists_seen c.args.lists.now in
    let answer : c.from_residual.result ≡ Err c.in_err-walk.field-0.0 = search rules in
    rw answer (λ other. ends_walk c.args.format seen c.args.top (all_raws c.args.format seen) c.in_err-walk.field-0.0 c.in_err-walk.ensures.err other)

pub returns-in-Some-clause-err : goal.returns-in-Some-clause-err
returns-in-Some-clause-err c =
    let seen = lists_seen c.args.lists.now in
    let raws = all_raws c.args.format seen in
    let walk = c.in_ok-walk.ensures.ok in
    let found : Some c.in-Some.place ≡ first_range 1 (tested c.args.top.settings [] raws) = sym c.in-Some.is ∙ c.in_ok-place.ensures.ok raws walk in
    λ other. judged_range c.args.format seen c.args.top raws c.in-Some.place walk.shape found

pub returns-then-is_over-clause-err : goal.returns-then-is_over-clause-err
returns-then-is_over-clause-err c =
    let seen = lists_seen c.args.lists.now in
    let raws = all_raws c.args.format seen in
    let walk = c.in_ok-walk.ensures.ok in
    let none : first_range 1 (tested c.args.top.settings [] raws) ≡ None = sym (c.in_ok-place.ensures.ok raws walk) ∙ c.in_default.is in
    let many : is_over (length c.in_ok-walk.walk.ops.items) (list_count seen.race) c.args.top.turns ≡ true = tested_over _ _ _ _ _ c.is_over.result (c.len.ensures ∙ c.in_ok-walk.walk.ops.ok.0) c.count.ensures c.is_over.ensures ∙ c.if-is_over.true in
    λ other. judged_limit c.args.format seen c.args.top c.in_ok-walk.walk.ops.items c.in_ok-walk.walk.range raws walk none many

pub scenario_from-requires : goal.scenario_from-requires
scenario_from-requires c =
    (few_from (length c.in_ok-walk.walk.ops.items) (list_count (lists_seen c.args.lists.now).race) c.args.top.turns (tested_over _ _ _ _ _ c.is_over.result (c.len.ensures ∙ c.in_ok-walk.walk.ops.ok.0) c.count.ensures c.is_over.ensures ∙ c.if-is_over.false)).few_lists

pub returns-in-Ok-clause-ok : goal.returns-in-Ok-clause-ok
returns-in-Ok-clause-ok c =
    let seen = lists_seen c.args.lists.now in
    let raws = all_raws c.args.format seen in
    let walk = c.in_ok-walk.ensures.ok in
    let none : first_range 1 (tested c.args.top.settings [] raws) ≡ None = sym (c.in_ok-place.ensures.ok raws walk) ∙ c.in_default.is in
    let few : is_over (length c.in_ok-walk.walk.ops.items) (list_count seen.race) c.args.top.turns ≡ false = tested_over _ _ _ _ _ c.is_over.result (c.len.ensures ∙ c.in_ok-walk.walk.ops.ok.0) c.count.ensures c.is_over.ensures ∙ c.if-is_over.false in
    let kept = whole_walk c.args.top.settings c.in_ok-walk.walk.ops.items c.in_ok-walk.walk.range raws walk none in
    let made = c.in-Ok.ensures ∙ cut_plan_same c.args.format seen c.args.top c.in_ok-walk.walk.ops.items kept in
    judged_ok c.args.format seen c.args.top c.in_ok-walk.walk.ops.items c.in_ok-walk.walk.range raws _ walk none few made
