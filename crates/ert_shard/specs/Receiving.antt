-- A process of a shard with mail, and takes of several messages.

use Rattle.std.specs.Prelude.{◌≡◌, ◌≢◌, ℕ, ◌+◌, ◌-◌, ◌<◌, true, List, [], ◌++◌, length, Option, Some, None, option_map}
use Rattle.ert_defs.specs.{States.{state, HasExited}, declared.mail.Mail.Mail, declared.settings.Settings.Settings}
use Rattle.ert_effects.specs.{MailCalls.Takes, Ways.{Growth, Way, Then, Many}, declared.answers.Taken.TheVariants.{Mail as Took, Empty, Exited}}
use Rattle.ert_mail.specs.{Turns.{is_listed, TurnRow}, Lists.LooksForMail}
use Rattle.ert_shard.specs.Shards.{Owned, ShardSteps, ShardBy, IsHome}
use Rattle.ert_world.specs.{Mailing.turns_of, declared.mailing.TakeEnd.TakeEnd, declared.mailing.TakeEnd.TheVariants.{Most, Empty as FoundEmpty, Exited as HadExited}}

-- the messages of a process in the history that a shard knows
abbrev pub shard_mail : Owned → ℕ → List Mail
shard_mail o process = ((state o.settings o.history).mails process).queue

-- a process of a shard hasn't exited and has mail, or each of its processes that has mail has exited
abbrev pub IsShardsNextMail : Owned → Option ℕ → Type 0
IsShardsNextMail o (Some process) =
    IsHome o.share process × (HasExited o.settings o.history process → ⊥) × (shard_mail o process ≢ [])
IsShardsNextMail o None =
    (process : ℕ) → IsHome o.share process → shard_mail o process ≢ [] → HasExited o.settings o.history process

-- a process that was counted from a first one
abbrev pub process_from : ℕ → Option ℕ → Option ℕ
process_from first place = option_map (λ p. first + p) place

-- `next_mail` of a shard: a process with mail is looked for, by the shard's caller, in the order of turns, and there is a row
-- then in which each of its processes stands that has mail and hasn't exited. The wheel stays
pub record ShardFindsMail (old : Owned) (answer : Option ℕ) (new : Owned) : Type 0 where
  pub row : TurnRow
  pub is : new.turns ≡ Some row
  pub bound : old.share.from + row.bound ≡ old.share.to
  pub place : Option ℕ
  pub told : answer ≡ process_from old.share.from place
  pub steps : ShardSteps (record old { turns = Some row }) (ShardBy old (λ g.
      LooksForMail old.share.from (old.share.number + 1) (turns_of (old.share.to - old.share.from) old.turns) place row.held)) new
  pub wheel : new.wheel ≡ old.wheel
  pub next : IsShardsNextMail new answer
  pub listed : (process : ℕ) → IsHome new.share process → shard_mail new process ≢ [] → (HasExited new.settings new.history process → ⊥)
      → is_listed row (process - new.share.from) ≡ true

-- messages of a process are taken by a caller, one after the other
abbrev pub CallerTakesMails : Settings → Way → ℕ → ℕ → List Mail → Growth
CallerTakesMails g way by process mails h m = Many (λ mail. way [] (Takes g by process (Took mail))) mails h m

-- `take_some` of a shard: so many messages are taken, or fewer, and then the mailbox was empty or the process had exited
abbrev pub CallerTakesSome : Settings → Way → ℕ → ℕ → ℕ → List Mail → TakeEnd → Growth
CallerTakesSome g way by process most mails Most h m = (length mails ≡ most) × CallerTakesMails g way by process mails h m
CallerTakesSome g way by process most mails FoundEmpty h m =
    (length mails < most) × Then (CallerTakesMails g way by process mails) (way [] (Takes g by process Empty)) h m
CallerTakesSome g way by process most mails HadExited h m =
    (length mails < most) × Then (CallerTakesMails g way by process mails) (way [] (Takes g by process Exited)) h m

-- the messages that a shard took stand last in a list
pub record ShardTakesInto (old : Owned) (process most : ℕ) (before after : List Mail) (ended : TakeEnd) (new : Owned) : Type 0 where
  pub mails : List Mail
  pub put : after ≡ before ++ mails
  pub steps : ShardSteps old (λ way. CallerTakesSome old.settings way (old.share.number + 1) process most mails ended) new
