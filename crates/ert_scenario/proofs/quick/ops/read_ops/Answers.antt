use Rattle.std.proofs.Common.{◌≡◌, ◌<◌, ◌∷◌, length, None, true, sym, subst, arith}
use Rattle.json.specs.{Json.after_end_array, Token.begin_array}
use Rattle.ert_scenario.specs.Quick.{ReadsOp, ReadsOps}
use Rattle.ert_scenario.proofs.QuickLemmas.{OpsSoFar, ops_start, ops_more, ops_done}
use Rattle.ert_scenario.proofs.quick.ops.read_ops.Goals as goal

pub ops-init : goal.ops-init
ops-init c = ops_start c.args.format c.takes_begin_array.new.reader c.clear.new.self.items c.clear.ensures.items

pub ops-preserved : goal.ops-preserved
ops-preserved c =
    let l = c.ops in
    let f = c.args.format in
    let r = c.read_op.new.reader in
    let op = c.in-Some.op in
    let going : (after_end_array l.reader ≡ None) × (c.take_end_array.new.self ≡ l.reader) = grind arith in
    let one : ReadsOp f c.take_end_array.new.self r op = rw c.in-Some.is at c.in_ok-op.ensures.read in
    let less : length r < length c.take_end_array.new.self = rw c.in-Some.is at c.in_ok-op.ensures.shorter in
    subst (OpsSoFar f c.takes_begin_array.new.reader r) (sym c.in_ok-push.ensures.items)
    (ops_more f c.takes_begin_array.new.reader l.reader r l.ops.items op l.invariant going.0 (subst (λ ts. ReadsOp f ts r op) going.1 one) (subst (λ ts. length r < length ts) going.1 less))

pub returns-clause-read : goal.returns-clause-read
returns-clause-read c = λ yes.
    let begins : c.takes_begin_array.result ≡ true = grind arith in
    let opened : c.args.reader.now ≡ begin_array ∷ c.takes_begin_array.new.reader = c.takes_begin_array.ensures begins in
    subst (λ ts. ReadsOps c.args.format ts c.take_end_array.new.self c.ops.ops.items) (sym opened)
    (ops_done c.args.format c.takes_begin_array.new.reader c.ops.reader c.take_end_array.new.self c.ops.ops.items c.ops.invariant (grind arith))
