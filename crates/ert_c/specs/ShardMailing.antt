-- What a shard does by the calls that find a process with mail, take several messages, and make room in a mailbox or in the
-- list of expired timers, and how C is told the answers.

use Rattle.std.specs.Prelude.{◌≡◌, ℕ, ◌+◌, ℤ, List, length, Option, None, Result, IfOk, OnErr, ⊤}
use Rattle.ert_c.specs.{Mailing.{LeavesAll, StandFirst}, ShardCalls.AtHome, Through.{Through, TellsC}, Told.IsToldDone, declared.mail_calls.ErtMail.ErtMail}
use Rattle.ert_defs.specs.declared.{mail.Mail.Mail, memory.NoMemory.NoMemory as OutOfMemory}
use Rattle.ert_shard.specs.{Receiving.{ShardFindsMail, CallerTakesSome}, Shards.{Owned, ShardSteps}}
use Rattle.ert_world.specs.declared.mailing.TakeEnd.{TakeEnd}

-- a process of a shard that hasn't exited and has mail is told, or that there is none; memory may run out
-- at the first such call alone, and then nothing has changed
pub record ShardFindsMailBy (answer : Result (Option ℕ) OutOfMemory) (old new : Owned) : Type 0 where
  pub next : IfOk answer (λ found. ShardFindsMail old found new)
  pub memory : OnErr answer ((old.turns ≡ None) × (new ≡ old))

-- a shard takes messages of a process as its caller, so many at most: these, and how that ended
abbrev pub ShardTakesSomeBy : ℕ → ℕ → List Mail × TakeEnd → Owned → Owned → Type 0
ShardTakesSomeBy process most answer old new =
    ShardSteps old (λ way. CallerTakesSome old.settings way (old.share.number + 1) process most answer.0 answer.1) new

-- a shard's messages were taken into places, so many at most as there are, and counted
pub record ShardTakesPlaces (process : ℕ) (old : Owned) (kept found : List ErtMail) (answer : ℕ × TakeEnd) (new : Owned) : Type 0 where
  pub mails : List Mail
  pub makes : ShardTakesSomeBy process (length kept) (mails, answer.1) old new
  pub count : answer.0 ≡ length mails
  pub places : StandFirst mails kept found

-- C has room made in the mailbox of a process of a shard, or gives its memory back
abbrev pub ShardChangesRoom : ℕ → Option Owned → ℤ → Option Owned → Type 0
ShardChangesRoom process old status new = Through ⊤ (AtHome process LeavesAll (λ answer. IsToldDone answer status) status ⊤) old status new

-- C has room made in the list of expired timers of a shard, or gives its memory back
abbrev pub ShardChangesListRoom : Option Owned → ℤ → Option Owned → Type 0
ShardChangesListRoom old status new = Through ⊤ (TellsC LeavesAll (λ answer. IsToldDone answer status)) old status new
