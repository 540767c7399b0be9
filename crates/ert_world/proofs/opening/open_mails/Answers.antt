use Rattle.std.proofs.Common.{◌+◌, sym, subst, rules}
use Rattle.ert_mail.specs.Mailboxes.{IsEmpty}
use Rattle.ert_world.specs.Openings.{AreNew}
use Rattle.ert_world.proofs.Opened.{new_more}
use Rattle.ert_world.proofs.opening.open_mails.Goals as goal

pub loop-process-preserved : goal.loop-process-preserved
loop-process-preserved c = record {
  new = subst (AreNew (IsEmpty) (c.loop-process.process + 1)) (sym c.push_reserved.ensures.items)
      (new_more (IsEmpty) c.loop-process.process c.loop-process.mails.items c.open.result c.loop-process.invariant.new (record { process = c.open.ensures.process; held = c.open.ensures.held; delivered = c.open.ensures.delivered }));
  room = search rules;
}
