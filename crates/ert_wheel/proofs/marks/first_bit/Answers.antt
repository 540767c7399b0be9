use Rattle.std.proofs.Common.{arith}
use Rattle.ert_wheel.proofs.MarkBits.{no_bit, some_bit}
use Rattle.ert_wheel.proofs.marks.first_bit.Goals as goal

pub returns-then-left-eq0-clause-below : goal.returns-then-left-eq0-clause-below
returns-then-left-eq0-clause-below c = (no_bit c.args.word c.args.from c.requires c.if-left-eq0.true).below

pub returns-clause-low : goal.returns-clause-low
returns-clause-low c = (some_bit c.args.word c.args.from c.requires c.ranges.word.fits (omega (arith, c.if-left-eq0.false))).low

pub returns-clause-below : goal.returns-clause-below
returns-clause-below c = (some_bit c.args.word c.args.from c.requires c.ranges.word.fits (omega (arith, c.if-left-eq0.false))).below

pub returns-clause-here : goal.returns-clause-here
returns-clause-here c = (some_bit c.args.word c.args.from c.requires c.ranges.word.fits (omega (arith, c.if-left-eq0.false))).here

pub returns-clause-none : goal.returns-clause-none
returns-clause-none c = (some_bit c.args.word c.args.from c.requires c.ranges.word.fits (omega (arith, c.if-left-eq0.false))).none
