use Rattle.std.proofs.Common.{arith}
use Rattle.ert_shard.proofs.Parted.{mails_more}
use Rattle.ert_shard.proofs.dividing.move_mails.Goals as goal

pub loop-process-preserved : goal.loop-process-preserved
loop-process-preserved c =
    let i = c.loop-process.invariant in
    record {
      from_is = c.move_actor.ensures.from;
      to_is = c.move_actor.ensures.to;
      low = (let low = i.low in omega (arith, low));
      moves = mails_more c.args.first c.loop-process.process c.args.from.now c.args.to.now c.loop-process.from c.loop-process.to c.move_actor.new.from c.move_actor.new.to
          i.low i.moves c.move_actor.ensures.moves;
    }
