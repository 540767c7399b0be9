-- What the steps of the calls of a scheduler make of what it has and of a mailbox.

use Rattle.std.specs.Prelude.{◌≡◌, ℕ, [], ◌∷◌, ◌++◌, Option, Ok}
use Rattle.ert_defs.specs.{Mails.{MailState, message_of, answer_of}, States.state, Timers.Row, declared.mail.Request.Request, declared.settings.Settings.Settings}
use Rattle.ert_effects.specs.{MailCalls.handed_entries, RequestCalls.HasAnswered, declared.answers.Handed.Handed, declared.answers.Handed.TheVariants.{Put, Dropped}}
use Rattle.ert_table.specs.{Calls.IsMade, Takes.TakesPlace, declared.view.View.View}
use Rattle.ert_laws.specs.Counts.{deliveries}
use Rattle.ert_mail.specs.Mailboxes.{handed, sched_after_answer}

-- what a process has after an expired timer was handed over to it
abbrev pub with_expired : Handed → Row → MailState → MailState
with_expired Put expired m = record { queue = m.queue ++ message_of expired ∷ []; monitors = m.monitors; next = m.next }
with_expired Dropped expired m = m

-- an expired timer was handed over, and so changed what its scheduler and its destination have
pub record IsHanded (g : Settings) (v : View) (expired : Row) (how : Handed) (w : View) : Type 0 where
  pub call : TakesPlace g v (handed_entries expired.timer.wheel expired how) w
  pub sched : (state g w.front).scheds expired.timer.wheel ≡ handed (Ok how) ((state g v.front).scheds expired.timer.wheel)
  pub mails : (state g w.front).mails expired.dest ≡ with_expired how expired ((state g v.front).mails expired.dest)

-- what a process has after its request was answered
abbrev pub with_answer : Request → Option ℕ → MailState → MailState
with_answer request left m = record { queue = m.queue ++ answer_of request left; monitors = m.monitors; next = m.next }

-- a request was answered by a scheduler, and so changed what that and the asker have
pub record IsReplied (g : Settings) (v : View) (n : ℕ) (request : Request) (left : Option ℕ) (w : View) : Type 0 where
  pub call : IsMade g v (HasAnswered g n request left) w
  pub sched : (state g w.front).scheds n ≡ sched_after_answer (Ok left) ((state g v.front).scheds n)
  pub mails : (state g w.front).mails request.reply_to ≡ with_answer request left ((state g v.front).mails request.reply_to)
  pub undelivered : deliveries request.reply_to w.front ≡ deliveries request.reply_to v.front
