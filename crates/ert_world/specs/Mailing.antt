-- A process with mail, and takes of several messages.

use Rattle.std.specs.Prelude.{◌≡◌, ◌≢◌, ℕ, ◌<◌, true, List, [], ◌++◌, length, Option, Some, None}
use Rattle.std.specs.List.{range_with_len}
use Rattle.ert_defs.specs.{States.state, declared.mail.Mail.Mail, declared.settings.Settings.Settings}
use Rattle.ert_effects.specs.{MailCalls.Takes, Ways.{Growth, Way, Then, Many}, declared.answers.Taken.TheVariants.{Mail as Took, Empty, Exited}}
use Rattle.ert_mail.specs.{Turns.{is_listed, TurnRow}, Lists.LooksForMail}
use Rattle.ert_world.specs.{Worlds.{Seen, Goes, By, HasProcessExited}, declared.mailing.TakeEnd.TakeEnd, declared.mailing.TakeEnd.TheVariants.{Most, Empty as FoundEmpty, Exited as HadExited}}

-- the messages of a process in the history of a world
abbrev pub mail_of : Seen → ℕ → List Mail
mail_of w process = ((state w.settings w.history).mails process).queue

-- a process in range hasn't exited and has mail, or each that has mail has exited
abbrev pub IsNextMail : Seen → Option ℕ → Type 0
IsNextMail w (Some process) = (process < w.settings.processes) × (HasProcessExited w process → ⊥) × (mail_of w process ≢ [])
IsNextMail w None = (process : ℕ) → process < w.settings.processes → mail_of w process ≢ [] → HasProcessExited w process

-- the processes that may have mail, in the order of their turns: all, where there is no row yet
abbrev pub turns_of : ℕ → Option TurnRow → List ℕ
turns_of processes None = range_with_len 0 processes
turns_of processes (Some row) = row.held

-- `next_mail`: a process with mail is looked for, by caller 0, in the order of turns, and there is a row then in which each
-- stands that has mail and hasn't exited. The wheels stay
pub record FindsMail (old : Seen) (answer : Option ℕ) (new : Seen) : Type 0 where
  pub row : TurnRow
  pub is : new.turns ≡ Some row
  pub bound : row.bound ≡ old.settings.processes
  pub goes : Goes (record old { turns = Some row }) (By old (λ g. LooksForMail 0 0 (turns_of old.settings.processes old.turns) answer row.held)) new
  pub wheels : new.wheels ≡ old.wheels
  pub next : IsNextMail new answer
  pub listed : (process : ℕ) → process < new.settings.processes → mail_of new process ≢ [] → (HasProcessExited new process → ⊥) → is_listed row process ≡ true

-- messages of a process are taken, one after the other
abbrev pub TakesMails : Settings → Way → ℕ → List Mail → Growth
TakesMails g way process mails h m = Many (λ mail. way [] (Takes g 0 process (Took mail))) mails h m

-- `take_some`: so many messages are taken, or fewer, and then the mailbox was empty or the process had exited:
-- one more `take` finds that
abbrev pub TakesSome : Settings → Way → ℕ → ℕ → List Mail → TakeEnd → Growth
TakesSome g way process most mails Most h m = (length mails ≡ most) × TakesMails g way process mails h m
TakesSome g way process most mails FoundEmpty h m =
    (length mails < most) × Then (TakesMails g way process mails) (way [] (Takes g 0 process Empty)) h m
TakesSome g way process most mails HadExited h m =
    (length mails < most) × Then (TakesMails g way process mails) (way [] (Takes g 0 process Exited)) h m

-- the messages that a world took stand last in a list
pub record TakesInto (old : Seen) (process most : ℕ) (before after : List Mail) (ended : TakeEnd) (new : Seen) : Type 0 where
  pub mails : List Mail
  pub put : after ≡ before ++ mails
  pub goes : Goes old (λ way. TakesSome old.settings way process most mails ended) new
