use Rattle.std.proofs.Common.{rules, ◌≡◌, Some, ap, ◌∙◌}
use Rattle.ert_program.specs.declared.ending.EndStatus.TheVariants.{Done}
use Rattle.ert_tests.proofs.Rooms.{room_told}
use Rattle.ert_tests.proofs.tests.program.in_memory.room_for.Goals as goal

pub returns : goal.returns
returns c =
    let text : c.in_ok-to_vec.field-0.items ≡ c.args.text.now = search rules in
    let how : c.run-ended.result.status ≡ Done = search rules in
    room_told c.args.text.now c.bytes.result.now _ _ _ _ _ c.one_verdict.ensures.one_scenario c.one_verdict.ensures.never_both
    c.scenarios_are_accepted.ensures.scenario
    (c.new-input.ensures.left ∙ ap (λ xs. Some xs) text) c.new-output.ensures.taken c.bytes.ensures (c.run-ended.ensures.ends.done how)
