use Rattle.ert_table.proofs.ArmActs.{arm_is}
use Rattle.ert_table.proofs.desk.Pass.arm.Goals as goal

pub armed_word-word-requires : goal.armed_word-word-requires
armed_word-word-requires c =
    let pass = c.args.self.now in
    arm_is c.args.desk.now.settings pass.seat.me.0 c.args.by c.args.timer c.args.start.now c.args.deadline c.requires.belongs.named pass.legal
    c.requires.may c.requires.deadline
