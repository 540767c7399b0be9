use Rattle.std.proofs.Common.{◌∙◌, sym, subst}
use Rattle.ert_program.proofs.{Chosen.one_more, Within.{IsWithin, next_within}}
use Rattle.ert_program.proofs.generation.ops_of.Goals as goal

pub ops-preserved : goal.ops-preserved
ops-preserved c = record {
  whole = one_more c.ops.ops.items c.push.new.self.items c.next_op.result c.ops.generator c.next_op.new.self c.args.n c.ops.made c.ops-test.true
      c.next_op.ensures.op c.next_op.ensures.later c.in_ok-push.ensures.items ∙ c.ops.invariant.whole;
  within = subst (IsWithin _) (sym c.next_op.ensures.later) (next_within c.ops.made c.ops.generator c.ops.invariant.within);
}
