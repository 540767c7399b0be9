use Rattle.std.proofs.Common.{refl, arith}
use Rattle.ert_table.proofs.{Armed.{first_tells, first_tells_none}, timer_words.deadline_of_first.Goals.{else-rest-eq0-via-then-rest-eq0+else-rest-lt-GENERATION, else-rest-eq0-via-else-rest-eq0}}
use Rattle.ert_table.proofs.timer_words.deadline_of_first.Goals as goal

pub returns-then-rest-lt-GENERATION : goal.returns-then-rest-lt-GENERATION
returns-then-rest-lt-GENERATION c =
    first_tells c.args.word c.args.generation _ (record { low = c.requires.low; high = c.requires.high }) c.ranges.word.fits refl
    c.if-rest-eq0.true c.if-rest-lt-GENERATION.true

pub returns-else-rest-eq0 : goal.returns-else-rest-eq0
returns-else-rest-eq0 c =
    first_tells_none c.args.word c.args.generation _ (record { low = c.requires.low; high = c.requires.high }) refl
    (λ d few is. elim c.else-rest-eq0.branch [
      | else-rest-eq0-via-then-rest-eq0+else-rest-lt-GENERATION w ↦ omega (arith, is, few, w.if-rest-lt-GENERATION.false)
      | else-rest-eq0-via-else-rest-eq0 w ↦ w.if-rest-eq0.false (omega (arith, is))
    ])
