use Rattle.std.proofs.Common.{◌≡◌, ◌∷◌, map, true, sym, subst, ap, ◌∙◌, arith}
use Rattle.json.specs.Token.{begin_array}
use Rattle.serde_json.specs.View.{view}
use Rattle.ert_scenario.specs.{Quick.ReadsOp, Rows.op_from, declared.doer.ListDoer.TheVariants.Everyone}
use Rattle.ert_scenario.proofs.QuickLemmas.{op_read}
use Rattle.ert_scenario.proofs.quick.ops.read_op.Goals as goal

pub returns-in-Ok-clause-read : goal.returns-in-Ok-clause-read
returns-in-Ok-clause-read c =
    let begins : c.takes_begin_array.result ≡ true = grind arith in
    let all : c.in_ok-read_items.field-0 ≡ true = grind arith in
    let ts = c.takes_begin_array.new.reader in
    let opened : c.args.reader.now ≡ begin_array ∷ ts = c.takes_begin_array.ensures begins in
    let vs = c.read_items.new.items.items in
    let is = sym (c.in-Ok.ensures ∙ ap (λ xs. op_from c.args.format Everyone (map view xs)) c.deref.ensures.value) in
    subst (λ us. ReadsOp c.args.format us c.read_items.new.reader c.in-Ok.op) (sym opened)
    (op_read c.args.format ts c.read_items.new.reader vs c.in-Ok.op (c.in_ok-read_items.ensures.read all) is)
