use Rattle.std.proofs.Common.{rules, refl, sym, ◌∙◌}
use Rattle.ert_judge.proofs.FirstArmed.{found_row, found_status}
use Rattle.ert_judge.proofs.timers.of_orphan.Goals as goal

pub returns-then-has_exited-clause-none : goal.returns-then-has_exited-clause-none
returns-then-has_exited-clause-none c = λ c'.
    let found = sym c.find.ensures ∙ c.in-Some.is in (
      record {
        row = c.in-Some.found.row;
        stands = found_row c' c.args.judge.now c.args.timer c.in-Some.found found;
        exited = sym c.has_exited.ensures ∙ c.if-has_exited.true;
      },
      found_status c.args.judge.now c.args.timer c.in-Some.found found (search rules),
    )

pub returns-else-has_exited-clause-some : goal.returns-else-has_exited-clause-some
returns-else-has_exited-clause-some c = λ c'.
    let found = sym c.find.ensures ∙ c.in-Some.is in (
      found_status c.args.judge.now c.args.timer c.in-Some.found found (search rules),
      record { row = c.in-Some.found.row; stands = found_row c' c.args.judge.now c.args.timer c.in-Some.found found; to = refl },
      sym c.has_exited.ensures ∙ c.if-has_exited.false,
    )
