use Rattle.std.proofs.Common.{◌≡◌, ◌+◌, ◌*◌, sym, ◌∙◌, arith}
use Rattle.ert_table.proofs.Armed.{first_word, later_word, is_later}
use Rattle.ert_table.proofs.timer_words.armed_word.Goals as goal

pub returns-then-generation-le-USES_OF_ROUND : goal.returns-then-generation-le-USES_OF_ROUND
returns-then-generation-le-USES_OF_ROUND c =
    let n = c.args.generation in
    let d = c.args.deadline in
    let sum : (70368744177664 * n + 8 * d) + 1 ≡ (1 + 8 * d) + 70368744177664 * n = omega arith in
    sum ∙ sym (first_word d n c.if-generation-le-USES_OF_ROUND.true)

pub returns-else-generation-le-USES_OF_ROUND : goal.returns-else-generation-le-USES_OF_ROUND
returns-else-generation-le-USES_OF_ROUND c =
    let n = c.args.generation in
    let d = c.args.deadline in
    let late = is_later d n c.requires c.if-generation-le-USES_OF_ROUND.false in
    sym (later_word d n late (c.requires.generation_tells late))
