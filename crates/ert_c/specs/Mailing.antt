-- What a service does by the calls that find a process with mail, take several messages, make room in a mailbox or in a
-- list of expired timers, and cancel all timers of a process, and how C is told the answers.

use Rattle.std.specs.Prelude.{◌≡◌, ℕ, ℤ, map, drop, List, ◌++◌, length, Option, Some, None, Result, Ok, Err, IfOk, OnErr, ⊤}
use Rattle.ert_defs.specs.declared.{mail.Mail.Mail, memory.NoMemory.NoMemory as OutOfMemory}
use Rattle.ert_world.specs.{Cancelling.CancelsAll, Mailing.{FindsMail, TakesSome}, Stepping.Stays, Worlds.Seen, declared.mailing.TakeEnd.TakeEnd, declared.mailing.TakeEnd.TheVariants.{Most, Empty, Exited}}
use Rattle.ert_c.specs.{Calls.{AtProcess, AtSched, MakesCall}, Through.Through, Told.{mail_as, IsToldDone}, declared.mail_calls.ErtMail.ErtMail, declared.status.TheConstants.{OK, NO_MEMORY, EMPTY, EXITED}}

-- a process that hasn't exited and has mail is told, or that there is none; memory may run out
-- at the first such call alone, and then nothing has changed
pub record FindsMailBy (answer : Result (Option ℕ) OutOfMemory) (old new : Seen) : Type 0 where
  pub next : IfOk answer (λ found. FindsMail old found new)
  pub memory : OnErr answer ((old.turns ≡ None) × (new ≡ old))

-- a process with mail, for C
abbrev pub IsNextTold : Result (Option ℕ) OutOfMemory → ℕ → ℤ → ℕ → Type 0
IsNextTold (Ok (Some process)) old status new = (status ≡ OK) × (new ≡ process)
IsNextTold (Ok None) old status new = (status ≡ EMPTY) × (new ≡ old)
IsNextTold (Err e) old status new = (status ≡ NO_MEMORY) × (new ≡ old)

-- caller 0 takes messages of a process, so many at most: these, and how that ended
abbrev pub TakesSomeBy : ℕ → ℕ → List Mail × TakeEnd → Seen → Seen → Type 0
TakesSomeBy process most answer = MakesCall (λ w way. TakesSome w.settings way process most answer.0 answer.1)

-- how a take of several messages ended, for C
abbrev pub end_as : TakeEnd → ℤ
end_as Most = OK
end_as Empty = EMPTY
end_as Exited = EXITED

-- messages stand in the first of some places, and the others are as they were
abbrev pub StandFirst : List Mail → List ErtMail → List ErtMail → Type 0
StandFirst mails kept found = found ≡ map mail_as mails ++ drop (length mails) kept

-- the messages that were taken and how many there are, for C
abbrev pub IsTookSome : List Mail × TakeEnd → List ErtMail × ℕ → ℤ → List ErtMail × ℕ → Type 0
IsTookSome answer kept status found = (status ≡ end_as answer.1) × (found.1 ≡ length answer.0) × StandFirst answer.0 kept.0 found.0

-- messages were taken into places, so many at most as there are, and counted
pub record TakesPlaces (process : ℕ) (old : Seen) (kept found : List ErtMail) (answer : ℕ × TakeEnd) (new : Seen) : Type 0 where
  pub mails : List Mail
  pub makes : TakesSomeBy process (length kept) (mails, answer.1) old new
  pub count : answer.0 ≡ length mails
  pub places : StandFirst mails kept found

-- room was made in a mailbox or in a list of expired timers, or its memory was given back, or out of memory: in each case
-- all is as it was
abbrev pub LeavesAll : {W : Type 0} → Result (Unit {0}) OutOfMemory → W → W → Type 0
LeavesAll answer old new = new ≡ old

-- C has room made in the mailbox of a process, or gives its memory back
abbrev pub ChangesRoom : ℕ → Option Seen → ℤ → Option Seen → Type 0
ChangesRoom process old status new = Through ⊤ (AtProcess process LeavesAll (λ answer. IsToldDone answer status) status ⊤) old status new

-- C has room made in the list of expired timers of a scheduler, or gives its memory back
abbrev pub ChangesListRoom : ℕ → Option Seen → ℤ → Option Seen → Type 0
ChangesListRoom sched old status new = Through ⊤ (AtSched sched LeavesAll (λ answer. IsToldDone answer status) status ⊤) old status new

-- caller 0 cancels all timers of a process: so many were cancelled
pub record CancelsAllBy (process answer : ℕ) (old new : Seen) : Type 0 where
  pub makes : MakesCall (λ w way. CancelsAll w.settings way process answer) old new
  pub stays : Stays old new
