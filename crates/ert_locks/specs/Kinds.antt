-- The kinds of parts that a desk has, and a part that stands for what its pass knows.

use Rattle.std.specs.Prelude.{◌≡◌, ℕ, ◌<◌, nat_eq, false, List}
use Rattle.atomic_table.specs.Seated.{TableId}
use Rattle.ert_clock.specs.Shown.{Shown, ClockStands}
use Rattle.ert_defs.specs.{Actors.{of, same_actor}, Legal.Legal, declared.entry.Actor.Actor, declared.entry.Actor.TheVariants.{Keeper, Wheel, Inbox, Sched, MailOf, Caller}, declared.entry.Entry.Entry, declared.settings.Settings.Settings}
use Rattle.ert_mail.specs.{Inboxes.{Waiting, InboxStands}, Mailboxes.{Mailbox, MailboxStands as MailStands}}
use Rattle.ert_locks.specs.Names.{IsPassFor}
use Rattle.ert_timers.specs.{SchedParts.SchedStands, declared.sched_part.SchedPart.SchedPart, Parts.{Part, PartStands as WheelStands}}
use Rattle.ert_table.specs.{Desks.front_of, Views.Begins, declared.desk.Pass.Pass}

-- a kind of parts: the actor of each number, how many numbers there are, the number of a part, and when a part
-- stands for a history
pub record Kind (X : Type 0) : Type 1 where
  pub actor : ℕ → Actor
  pub count : Settings → ℕ
  pub number : X → ℕ
  pub stands : Settings → List Entry → X → Type 0

-- the clock's part, of which there is one
abbrev pub keepers : Kind Shown
keepers = record { actor = λ n. Keeper; count = λ g. 1; number = λ k. 0; stands = ClockStands }

-- the wheels, the inboxes and the schedulers, one each for every scheduler
abbrev pub wheels : Kind Part
wheels = record { actor = Wheel; count = λ g. g.schedulers; number = λ p. p.number; stands = WheelStands }

abbrev pub inboxes : Kind Waiting
inboxes = record { actor = Inbox; count = λ g. g.schedulers; number = λ q. q.wheel; stands = InboxStands }

abbrev pub scheds : Kind SchedPart
scheds = record { actor = Sched; count = λ g. g.schedulers; number = λ p. p.wheel; stands = SchedStands }

-- the mailboxes, one for every process
abbrev pub mails : Kind Mailbox
mails = record { actor = MailOf; count = λ g. g.processes; number = λ m. m.process; stands = MailStands }

-- the callers, each of which has its number alone
abbrev pub callers : Kind ℕ
callers = record { actor = Caller; count = λ g. g.callers; number = λ n. n; stands = λ g h n. n < g.callers }

-- what is so of each kind: a part stands for a longer history too, where none of the later entries has its
-- actor; its number is below the count; and two numbers have two actors
pub record IsKind {X : Type 0} (k : Kind X) : Type 0 where
  pub stand_on : (g : Settings) (f h : List Entry) (x : X) → Begins f h → of h (k.actor (k.number x)) ≡ of f (k.actor (k.number x)) → Legal g h
      → k.stands g f x → k.stands g h x
  pub low : (g : Settings) (h : List Entry) (x : X) → k.stands g h x → k.number x < k.count g
  pub apart : (g : Settings) (m n : ℕ) → m < k.count g → n < k.count g → nat_eq m n ≡ false → same_actor (k.actor m) (k.actor n) ≡ false

-- a part stands for the front of a pass of the named desk that has its actor alone
pub record PartFits {X : Type 0} (table : TableId) (g : Settings) (k : Kind X) (part : X) (p : Pass) : Type 0 where
  pub sits : IsPassFor table g (k.actor (k.number part)) p
  pub stands : k.stands g (front_of p) part
