use Rattle.std.proofs.Common.{◌≡◌, true, refl, arith}
use Rattle.ert_scenario.proofs.QuickMembers.{member_ops}
use Rattle.ert_scenario.proofs.quick.members.read_list.Goals as goal

pub returns-clause-read : goal.returns-clause-read
returns-clause-read c = λ yes.
    let all : c.in_ok-read_ops.field-0 ≡ true = grind arith in
    member_ops c.args.reader.now c.read_ops.new.reader c.args.seen.now.named c.args.seen.now _ (c.in_ok-read_ops.ensures.read all) refl refl
