-- What is so of each kind of parts.

use Rattle.std.proofs.Common.{◌≡◌, List, sym, ap, subst, ◌∙◌}
use Rattle.std.proofs.Math.{Arith.lt-one, Nat.zero-lt-suc}
use Rattle.std.specs.Prelude.{nat_eq, false}
use Rattle.ert_locks.specs.Kinds.{IsKind, keepers, wheels, inboxes, scheds, mails, callers}
use Rattle.ert_mail.proofs.LawsHold.{inbox_on, mail_on}
use Rattle.ert_table.proofs.StandOn.{keeper_on}
use Rattle.ert_timers.proofs.{SchedParts.sched_on, LawsHold.stand_on as wheel_on}

pub keepers_are : IsKind keepers
keepers_are = record {
  stand_on = λ g f h part longer same legal stands. keeper_on g f h part longer same legal stands;
  low = λ g h part stands. zero-lt-suc 0;
  apart = λ g m n low_m low_n other. subst (λ i. nat_eq 0 i ≡ false) (lt-one low_n) (subst (λ i. nat_eq i n ≡ false) (lt-one low_m) other);
}

pub wheels_are : IsKind wheels
wheels_are = record {
  stand_on = λ g f h p longer same legal stands. wheel_on g f h p longer same legal stands;
  low = λ g h p stands. stands.holds.number;
  apart = λ g m n _ _ other. other;
}

pub inboxes_are : IsKind inboxes
inboxes_are = record {
  stand_on = λ g f h q longer same legal stands. inbox_on g f h q longer same stands;
  low = λ g h q stands. stands.in_range;
  apart = λ g m n _ _ other. other;
}

pub scheds_are : IsKind scheds
scheds_are = record {
  stand_on = λ g f h p longer same legal stands. sched_on g f h p longer same stands;
  low = λ g h p stands. stands.in_range;
  apart = λ g m n _ _ other. other;
}

pub mails_are : IsKind mails
mails_are = record {
  stand_on = λ g f h m longer same legal stands. mail_on g f h m longer same stands;
  low = λ g h m stands. stands.in_range;
  apart = λ g m n _ _ other. other;
}

pub callers_are : IsKind callers
callers_are = record {
  stand_on = λ g f h n longer same legal stands. stands;
  low = λ g h n stands. stands;
  apart = λ g m n _ _ other. other;
}
