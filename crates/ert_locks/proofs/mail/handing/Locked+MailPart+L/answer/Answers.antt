use Rattle.std.proofs.iter.Serving.{serving}
use Rattle.ert_effects.specs.RequestCalls.{Answers}
use Rattle.ert_locks.proofs.{Own.answers_have, Scheds.{answered_hand, answered_expired}}
use Rattle.ert_table.specs.Desks.{settings_of, view_of}
use Rattle.ert_table.proofs.Makings.{if_ok_made}
use Rattle.ert_locks.proofs.mail.handing.Locked+MailPart+L.answer.Goals as goal

pub lend-requires-clause-own : goal.lend-requires-clause-own
lend-requires-clause-own g c = λ s w n answer. answers_have s w c.args.request.now answer

pub lend-requires-clause-leaves : goal.lend-requires-clause-leaves
lend-requires-clause-leaves g c = λ x p own r y q left is lent post.
    let t = settings_of c.args.desk.now in
    record {
      number = grind serving;
      own_number = grind serving;
      belongs = grind serving;
      stands = grind serving;
      own_stands = record { in_range = grind serving; hand = grind (serving, answered_hand); expired = grind (serving, answered_expired) };
      call = if_ok_made t (view_of p.now) (Answers t own.now.wheel c.args.request.now) r (view_of q.now) lent.legal (grind serving);
    }
