use Rattle.std.proofs.Common.{◌/◌, arith}
use Rattle.ert_wheel.proofs.MarkBits.{with_mark, with_mark-some, marked_here, marked_others, sums_noted, sums_near}
use Rattle.ert_wheel.proofs.marks.Marks.set.Goals as goal

pub invariant_of-self : goal.invariant_of-self
invariant_of-self c =
    sums_noted c.self.inside.words c.self.inside.used c.note.new.used (c.args.bucket / 64) (with_mark c.self.inside.words c.args.bucket)
    c.self.invariant c.note.ensures.near c.note.ensures.far (with_mark-some c.self.inside.words c.args.bucket)

pub invariant_of-self-else-was-eq0 : goal.invariant_of-self-else-was-eq0
invariant_of-self-else-was-eq0 c =
    sums_near c.self.inside.words c.self.inside.used (c.args.bucket / 64) (with_mark c.self.inside.words c.args.bucket)
    c.self.invariant (λ zero. absurd (omega (arith, zero, c.if-was-eq0.false)))
    (with_mark-some c.self.inside.words c.args.bucket)

pub returns-then-was-eq0-clause-here : goal.returns-then-was-eq0-clause-here
returns-then-was-eq0-clause-here c =
    marked_here c.self.inside.words c.args.bucket (omega (arith, c.self.invariant.wide, c.requires))

pub returns-else-was-eq0-clause-here : goal.returns-else-was-eq0-clause-here
returns-else-was-eq0-clause-here c =
    marked_here c.self.inside.words c.args.bucket (omega (arith, c.self.invariant.wide, c.requires))

pub returns-then-was-eq0-clause-others : goal.returns-then-was-eq0-clause-others
returns-then-was-eq0-clause-others c =
    marked_others c.self.inside.words c.args.self.now c.args.bucket c.self.view_is (omega (arith, c.self.invariant.wide, c.requires))

pub returns-else-was-eq0-clause-others : goal.returns-else-was-eq0-clause-others
returns-else-was-eq0-clause-others c =
    marked_others c.self.inside.words c.args.self.now c.args.bucket c.self.view_is (omega (arith, c.self.invariant.wide, c.requires))
