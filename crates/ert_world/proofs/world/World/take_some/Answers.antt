use Rattle.std.proofs.Common.{[], ◌∷◌, ◌++◌, arith, ap, ◌∙◌, append_assoc, length-append}
use Rattle.ert_world.proofs.Mailed.{took_more, found_empty, found_exited}
use Rattle.ert_world.proofs.world.World.take_some.Goals as goal

pub loop-taken-preserved : goal.loop-taken-preserved
loop-taken-preserved c =
    let i = c.loop-taken.invariant in
    let more = length-append i.took (c.in-Mail.mail ∷ []) in
    record {
      took = i.took ++ c.in-Mail.mail ∷ [];
      put = c.push_reserved.ensures.items ∙ (ap (λ l. l ++ c.in-Mail.mail ∷ []) i.put ∙ append_assoc c.args.mails.now.items i.took (c.in-Mail.mail ∷ []));
      count = omega (arith, more, i.count);
      few = omega (arith, c.loop-taken-test.true);
      room = omega (arith, i.room, c.push_reserved.ensures.len, c.push_reserved.ensures.capacity);
      goes = took_more c.args.self.now c.loop-taken.self c.take.new.self c.args.process i.took c.in-Mail.mail c.take.result c.in-Mail.is i.goes c.take.ensures.call;
    }

pub returns-in-Empty : goal.returns-in-Empty
returns-in-Empty c =
    let i = c.loop-taken.invariant in
    record {
      mails = i.took;
      put = i.put;
      goes = found_empty c.args.self.now c.loop-taken.self c.take.new.self c.args.process c.args.most i.took c.take.result c.in-Empty.is
          (omega (arith, i.count, c.loop-taken-test.true)) i.goes c.take.ensures.call;
    }

pub returns-in-Exited : goal.returns-in-Exited
returns-in-Exited c =
    let i = c.loop-taken.invariant in
    record {
      mails = i.took;
      put = i.put;
      goes = found_exited c.args.self.now c.loop-taken.self c.take.new.self c.args.process c.args.most i.took c.take.result c.in-Exited.is
          (omega (arith, i.count, c.loop-taken-test.true)) i.goes c.take.ensures.call;
    }
