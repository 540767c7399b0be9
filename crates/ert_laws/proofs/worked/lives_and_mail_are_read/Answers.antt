use Rattle.std.proofs.Common.{◌≡◌, refl, rules, [], ◌∷◌, Some}
use Rattle.ert_defs.proofs.Runs.{legal_parts}
use Rattle.ert_defs.specs.{Legal.{IsNext, IsFirst}, States.{next, state}, Worked.by_sched, declared.entry.Actor.TheVariants.{Sched, Wheel, MailOf}, declared.entry.Event.TheVariants.Expire}
use Rattle.ert_laws.specs.WorkedMail.{wide, slow, fast, both_started, both_expired}
use Rattle.ert_laws.proofs.worked.lives_and_mail_are_read.Goals as goal

pub returns-clause-lives : goal.returns-clause-lives
returns-clause-lives c = record { waits = refl; arrives = refl; is_cancelled = refl; is_orphaned = refl; is_dropped = refl; never_armed = refl }

pub returns-clause-mail : goal.returns-clause-mail
returns-clause-mail c = record {
  timer_sent = refl;
  timer_taken = refl;
  answer_sent = refl;
  answer_taken = refl;
  none_sent = refl;
  change_sent = refl;
  change_taken = refl;
}

-- the timer with the earlier deadline is the next to expire, and then the other
fast_next : IsNext wide (state wide both_started) (Sched 0) fast.timer
fast_next = record { before = slow ∷ []; row = fast; behind = []; stands = refl; named = refl; due = search rules; first_before = search rules; first_behind = tt }

slow_next : IsNext wide (next wide (state wide both_started) (by_sched (Some (Wheel 0)) (Expire fast.timer))) (Sched 0) slow.timer
slow_next = record { before = []; row = slow; behind = fast ∷ []; stands = refl; named = refl; due = search rules; first_before = tt; first_behind = search rules }

-- they are handed over in that order
fast_first : (first : IsFirst (fast ∷ slow ∷ []) fast.timer) × (Some (MailOf 0) ≡ Some (MailOf first.row.dest))
fast_first = (record { row = fast; first = refl; named = refl }, refl)

slow_first : (first : IsFirst (slow ∷ []) slow.timer) × (Some (MailOf 0) ≡ Some (MailOf first.row.dest))
slow_first = (record { row = slow; first = refl; named = refl }, refl)

pub returns-clause-order : goal.returns-clause-order
returns-clause-order c = record {
  legal = (legal_parts wide both_started both_expired).1 (search rules, search (rules, fast_next, slow_next, fast_first, slow_first));
  expired = refl;
  sent = refl;
  first_taken = refl;
  other_stands = refl;
}
