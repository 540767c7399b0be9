use Rattle.std.proofs.iter.Serving.{serving}
use Rattle.ert_locks.proofs.Scheds.{hands, first_lent, handed_made, handed_hand, handed_expired}
use Rattle.ert_table.specs.Desks.{front_of}
use Rattle.ert_locks.proofs.mail.handing.Locked+MailPart+L.hand_over.Goals as goal

pub lend-requires-clause-may : goal.lend-requires-clause-may
lend-requires-clause-may g c = λ x p own is lent. let first = first_lent is lent c.requires.first in grind serving

pub lend-requires-clause-leaves : goal.lend-requires-clause-leaves
lend-requires-clause-leaves g c = λ x p own r y q left is lent post.
    let first = first_lent is lent c.requires.first in
    record {
      number = grind serving;
      own_number = grind serving;
      belongs = grind serving;
      stands = grind serving;
      own_stands = record { in_range = grind serving; hand = grind (serving, handed_hand); expired = grind (serving, handed_expired) };
      call = handed_made _ _ _ c.args.expired.now _ r first.own lent.legal (grind serving);
    }

pub returns-clause-call : goal.returns-clause-call
returns-clause-call g c =
    hands g.L.DeskName.settings c.args.seat.now.part c.args.expired.now c.lend.result (front_of c.args.seat.now.pass) _ c.args.seat.now.fits.stands c.requires.first
    (c.lend.ensures.call _ c.requires.own)
