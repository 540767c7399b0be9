-- Every legal history keeps the laws.

use Rattle.std.proofs.Common.{◌≤ℤ◌, List, [], ◌∷◌, ◌++◌, sym, subst}
use Rattle.ert_defs.proofs.{Runs.legal_first, Times.time_rises}
use Rattle.ert_defs.specs.{Legal.Legal, States.{opening, state}, declared.entry.Entry.Entry}
use Rattle.ert_laws.proofs.{Expiries.in_order, Looks.due_by_now, Mailboxes.mailboxes, OwnTells.messages_are_told, Permissions.permitted, TimerLives.lives}
use Rattle.ert_laws.specs.KeptLaws.{LawOfHistories}

pub keeps_laws : LawOfHistories
keeps_laws g h checked legal = record {
  legal = legal;
  time = λ f m parted.
      subst (λ (l : List Entry). (state g f).clock.now ≤ℤ (state g l).clock.now) (sym parted) (time_rises g f m checked (subst (Legal g) parted legal));
  clock = permitted g h checked legal;
  expiry = λ f m e timer parted event.
      due_by_now g f e timer checked (legal_first g (opening g) (f ++ e ∷ []) m (subst (Legal g) parted legal)) event;
  lives = λ r. lives g h r legal;
  mailboxes = λ p. mailboxes g h p legal;
  order = λ w p. in_order g h w p legal;
  told = λ p. messages_are_told g h p legal;
}
