use Rattle.std.proofs.Common.{◌*◌, ◌^◌, ◌%◌, set, subst, sym, w64, bit_and, arith}
use Rattle.std.specs.Int.{bit_not}
use Rattle.ert_wheel.specs.Marks.{AreSummed}
use Rattle.ert_wheel.proofs.MarkBits.{sums_set, sums_clear}
use Rattle.ert_wheel.proofs.marks.Marks.store.Goals as goal

pub invariant_of-self : goal.invariant_of-self
invariant_of-self c =
    subst (λ word. AreSummed (set c.self.inside.words c.args.at word) (bit_and c.self.inside.used (bit_not w64 (1 * 2 ^ c.args.at % 2 ^ 64)))) (sym c.if-word-eq0.true)
    (sums_clear c.self.inside.words c.self.inside.used c.args.at c.self.invariant c.if-at-lt64.true)

pub invariant_of-self-else-word-eq0 : goal.invariant_of-self-else-word-eq0
invariant_of-self-else-word-eq0 c =
    sums_set c.self.inside.words c.self.inside.used c.args.at c.args.word c.self.invariant c.if-at-lt64.true (λ zero. absurd (omega (arith, zero, c.if-word-eq0.false)))
