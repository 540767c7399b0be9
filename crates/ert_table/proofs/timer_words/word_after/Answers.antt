use Rattle.std.proofs.Common.{◌+◌, ◌*◌, ap, ◌∙◌}
use Rattle.ert_defs.specs.{Timers.use_of, Words.status_code}
use Rattle.ert_table.proofs.Armed.{changed, code_high}
use Rattle.ert_table.proofs.timer_words.word_after.Goals as goal

pub returns : goal.returns
returns c before deadline timer is =
    changed c.args.word (status_code before c.args.generation) c.code_of.result deadline (use_of c.args.generation) (code_high before c.args.generation) is
    ∙ ap (λ code. (code + 8 * deadline) + 70368744177664 * use_of c.args.generation) c.code_of.ensures.code
