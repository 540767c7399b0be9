use Rattle.std.proofs.Common.{arith, ◌∙◌, sym}
use Rattle.ert_audit.proofs.Stops.{stops_behind, stops_at, read_on, ends, more_stands}
use Rattle.ert_audit.proofs.spelling.faults.fault_in.Goals as goal

pub returns-then-at-line-clause-fault : goal.returns-then-at-line-clause-fault
returns-then-at-line-clause-fault c =
    stops_behind c.args.line.now c.loop-turns.turns.now c.loop-turns.at c.in-len1-up.len_at_least c.if-at-line.true
    c.loop-turns.invariant.within ∙ sym c.loop-turns.invariant.same

pub returns-then-not-is_read-clause-fault : goal.returns-then-not-is_read-clause-fault
returns-then-not-is_read-clause-fault c =
    stops_at c.args.line.now c.loop-turns.turns.now c.loop-turns.at c.first_word-word.result.now _ c.in-len1-up.len_at_least
    c.first_word-word.ensures.more (sym c.if-not-is_read.ensures) ∙ sym c.loop-turns.invariant.same

pub loop-turns-preserved : goal.loop-turns-preserved
loop-turns-preserved c = record {
  within = let short = c.first_word-word.ensures.short in omega arith;
  same = c.loop-turns.invariant.same
      ∙ read_on c.args.line.now c.loop-turns.turns.now c.turns_after-turns.result.now c.loop-turns.at c.first_word-word.result.now
      c.in-len1-up.len_at_least c.first_word-word.ensures.more (sym c.if-not-is_read.ensures)
      c.turns_after-turns.ensures;
}

pub returns-then-at-line-2-clause-fault : goal.returns-then-at-line-2-clause-fault
returns-then-at-line-2-clause-fault c =
    ends c.args.line.now c.loop-turns.turns.now c.loop-turns.at c.in_default.len_below c.if-at-line-2.true
    ∙ sym c.loop-turns.invariant.same

pub returns-clause-fault : goal.returns-clause-fault
returns-clause-fault c =
    more_stands c.args.line.now c.loop-turns.turns.now c.loop-turns.at c.saturating_sub.result c.in_default.len_below
    c.if-at-line-2.false c.saturating_sub.ensures ∙ sym c.loop-turns.invariant.same
