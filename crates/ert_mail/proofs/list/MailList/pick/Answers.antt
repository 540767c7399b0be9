use Rattle.std.proofs.Common.{◌<◌, subst}
use Rattle.ert_mail.proofs.Listing.{row_taken}
use Rattle.ert_mail.proofs.list.MailList.pick.Goals as goal

pub invariant_of-self-2 : goal.invariant_of-self-2
invariant_of-self-2 c =
    row_taken c.self.inside.row c.pick_first.new.self c.self.inside.listed.items c.in_ok-process.process c.self.invariant
    (subst (λ n. c.in_ok-process.process < n) c.self.invariant.counted c.in_ok-process.ensures.in_range) c.in_ok-process.ensures.first c.in_ok-process.ensures.away
