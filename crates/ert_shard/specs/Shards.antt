-- What callers see of a shard, and how its calls make its history longer.

use Rattle.std.specs.Prelude.{◌≡◌, ◌≢◌, ℕ, ◌+◌, ◌<◌, ◌≤◌, Bool, false, ◌&&◌, ◌||◌, nat_eq, nat_le, nat_lt, List, [], ◌∷◌, length, Option, Some, None, slice_index_or}
use Rattle.atomic_table.specs.Seated.{TableId}
use Rattle.ert_defs.specs.{Actors.of, Legal.Legal, States.{State, state}, declared.entry.Actor.Actor, declared.entry.Actor.TheVariants.{Keeper, Wheel, Inbox, Sched, MailOf, Caller}, declared.entry.Entry.Entry, declared.entry.Event.Event}
use Rattle.ert_defs.specs.{declared.entry.Event.TheVariants.Arm, declared.settings.Settings.Settings, declared.timer.TimerRef.TimerRef}
use Rattle.ert_effects.specs.Ways.{Growth, Way, Grows}
use Rattle.ert_mail.specs.{Inboxes.{Waiting, InboxStands}, Lists.exited_from, Mailboxes.{Mailbox, MailboxStands as MailStands}, Turns.TurnRow}
use Rattle.ert_table.specs.{Desks.{settings_of, front_of, actors_of, Belongs}, Held.{is_held, IsActor}, declared.desk.Desk.Desk, declared.desk.Pass.Pass}
use Rattle.ert_timers.specs.{Freeing.IsHeld, Parts.{Part, PartStands as WheelStands}, Passed.LosesRows, SchedParts.SchedStands, declared.sched_part.SchedPart.SchedPart}
use Rattle.ert_world.specs.{Ways.among, Worlds.{ListAll, TurnsGrow}}

-- what a shard has: the scheduler of this number, and the processes from one on, below another
pub record Share : Type 0 where
  pub number : ℕ
  pub from : ℕ
  pub to : ℕ

-- a process is of a share
abbrev pub IsHome : Share → ℕ → Type 0
IsHome s p = (s.from ≤ p) × (p < s.to)

-- whether an actor is of a share
abbrev pub is_own : Share → Actor → Bool
is_own s Keeper = false
is_own s (Wheel w) = nat_eq w s.number
is_own s (Inbox w) = nat_eq w s.number
is_own s (Sched w) = nat_eq w s.number
is_own s (MailOf p) = nat_le s.from p && nat_lt p s.to
is_own s (Caller c) = nat_eq c (s.number + 1)

-- whether an actor with whom an entry was made passes a test
abbrev pub is_with_any : (Actor → Bool) → Option Actor → Bool
is_with_any own None = false
is_with_any own (Some a) = own a

-- whether an entry has an actor that passes a test: its maker, or the one with whom it was made
abbrev pub has_any : (Actor → Bool) → Entry → Bool
has_any own e = own e.by || is_with_any own e.with

-- whether an entry has an actor of a share
abbrev pub is_of : Share → Entry → Bool
is_of s e = has_any (is_own s) e

-- beside all others, by the actors of a share: no other makes an entry with one of them
abbrev pub as_share : Settings → Share → Way
as_share g s = among g (is_of s)

-- what callers see of a shard: which desk it is of, with its settings, the history that it knows, its share, its wheel, and
-- the row of its processes that may have mail, counted from the first, from the first `next_mail` on
pub record Owned : Type 0 where
  pub table : TableId
  pub settings : Settings
  pub history : List Entry
  pub share : Share
  pub wheel : Part
  pub turns : Option TurnRow

abbrev pub share_of : ℕ → ℕ → ℕ → Share
share_of number from to = record { number = number; from = from; to = to }

-- what callers see of a shard with these: the history is the front of its pass
abbrev pub owned : Desk → Pass → Share → Part → Option TurnRow → Owned
owned d p s wheel turns = record {
  table = d.table.shared.table_id;
  settings = settings_of d;
  history = front_of p;
  share = s;
  wheel = wheel;
  turns = turns;
}

-- the steps of a shard come about beside those of all others
abbrev pub shard_way : Owned → Way
shard_way o = as_share o.settings o.share

-- a shard makes a call: its history grows by it and is legal. Its desk, its settings and its share
-- stay, and who waits for a turn keeps its place
pub record ShardGoes (old : Owned) (call : Way → Growth) (new : Owned) : Type 0 where
  pub grows : Grows (call (shard_way old)) old.history new.history
  pub legal : Legal new.settings new.history
  pub table : new.table ≡ old.table
  pub settings : new.settings ≡ old.settings
  pub share : new.share ≡ old.share
  pub turns : TurnsGrow old.turns new.turns

-- it makes a call that starts no timer: no row comes to its wheel, and each slot that this held free is so still
pub record ShardSteps (old : Owned) (call : Way → Growth) (new : Owned) : Type 0 where
  pub goes : ShardGoes old call new
  pub rows : LosesRows old.wheel new.wheel

-- of the entries that its history gains, those of its actors are what is allowed after the history before
abbrev pub ShardBy : Owned → (Settings → State → List Entry → Type 0) → Way → Growth
ShardBy o allows way = way [] (allows o.settings)

-- the wheel of a shard holds no row of a timer, if that is of this wheel
abbrev pub ShardHasForgotten : Owned → TimerRef → Type 0
ShardHasForgotten o timer = timer.wheel ≡ o.share.number → IsHeld o.wheel timer → ⊥

-- nor of one that was started before and that it had forgotten
abbrev pub ShardStayForgotten : Owned → Owned → Type 0
ShardStayForgotten old new = (timer : TimerRef) → (state old.settings old.history).status timer ≢ None → ShardHasForgotten old timer
    → ShardHasForgotten new timer

-- of the actors in range a pass holds just those of a share in range
pub record HoldsShare (g : Settings) (actors : List Actor) (s : Share) : Type 0 where
  pub low : s.number < g.schedulers
  pub seat : s.number + 1 < g.callers
  pub ordered : s.from ≤ s.to
  pub most : s.to ≤ g.processes
  pub own : (a : Actor) → IsActor g a → is_held actors a ≡ is_own s a

-- the parts of a shard
pub record ShardParts : Type 0 where
  pub wheel : Part
  pub inbox : Waiting
  pub sched : SchedPart
  pub mails : List Mailbox
  pub list : Option TurnRow

abbrev pub shard_parts_of : Part → Waiting → SchedPart → List Mailbox → Option TurnRow → ShardParts
shard_parts_of wheel inbox sched mails list =
    record { wheel = wheel; inbox = inbox; sched = sched; mails = mails; list = list }

-- a state in which it is counted from a first process which have exited
abbrev pub counted_from : ℕ → State → State
counted_from first st = record st { exited = exited_from first st.exited }

-- the mailboxes of a share stand in order of number; each stands for the history but those that are lent
pub record AreMails (g : Settings) (h : List Entry) (s : Share) (lent : List Actor) (mails : List Mailbox) : Type 0 where
  pub counted : s.from + length mails ≡ s.to
  pub named : (i : ℕ) (d : Mailbox) → i < length mails → (slice_index_or mails i d).process ≡ s.from + i
  pub stand : (i : ℕ) (d : Mailbox) → i < length mails → is_held lent (MailOf (s.from + i)) ≡ false → MailStands g h (slice_index_or mails i d)

-- the parts of a shard stand for a history but those that are lent. Where its processes are listed, each that hasn't exited
-- and whose mailbox has mail is
pub record ShardPartsStand (g : Settings) (h : List Entry) (s : Share) (lent : List Actor) (parts : ShardParts) : Type 0 where
  pub legal : Legal g h
  pub wheel_is : parts.wheel.number ≡ s.number
  pub wheel : is_held lent (Wheel s.number) ≡ false → WheelStands g h parts.wheel
  pub inbox_is : parts.inbox.wheel ≡ s.number
  pub inbox : is_held lent (Inbox s.number) ≡ false → InboxStands g h parts.inbox
  pub sched_is : parts.sched.wheel ≡ s.number
  pub sched : is_held lent (Sched s.number) ≡ false → SchedStands g h parts.sched
  pub mails : AreMails g h s lent parts.mails
  pub listed : ListAll (counted_from s.from (state g h)) parts.list parts.mails

-- an event starts a timer for a process of a share, if it starts one
abbrev pub IsHomeEvent : Share → Event → Type 0
IsHomeEvent s (Arm timer start) = IsHome s start.dest
IsHomeEvent s _ = Unit {0}

-- all timers that these entries start are for processes of a share
abbrev pub AreHome : Share → List Entry → Type 0
AreHome s [] = Unit {0}
AreHome s (e ∷ es) = IsHomeEvent s e.event × AreHome s es

-- the parts of a shard fit: the pass is of the desk and holds the actors of its share, each part stands for its
-- front, and all timers of the wheel were started for processes of the share
pub record AreShardPartsFit (d : Desk) (p : Pass) (s : Share) (parts : ShardParts) : Type 0 where
  pub belongs : Belongs d p
  pub holds : HoldsShare (settings_of d) (actors_of p) s
  pub stand : ShardPartsStand (settings_of d) (front_of p) s [] parts
  pub home : AreHome s (of (front_of p) (Wheel s.number))
