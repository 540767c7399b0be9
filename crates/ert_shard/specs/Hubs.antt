-- What callers see of the rest of a world that is divided, and how shards are given and come back.

use Rattle.std.specs.Prelude.{◌≡◌, ℕ, zero, suc, ◌+◌, ◌-◌, ◌<◌, ◌≤◌, ◌⊎◌, Bool, true, false, not, ◌&&◌, ◌||◌, nat_le, nat_lt, List, [], ◌∷◌, ◌++◌, length, take, remove, All, slice_get, Some, slice_index_or, None}
use Rattle.atomic_table.specs.Seated.{TableId}
use Rattle.ert_clock.specs.Shown.{Shown, ClockStands}
use Rattle.ert_defs.specs.{Actors.of, Legal.Legal, States.State, declared.entry.Actor.Actor, declared.entry.Actor.TheVariants.{Keeper, Wheel, Inbox, Sched, MailOf, Caller}, declared.entry.Entry.Entry, declared.settings.Settings.Settings}
use Rattle.ert_effects.specs.Ways.{Growth, Way, Grows}
use Rattle.ert_mail.specs.{Inboxes.InboxStands, Mailboxes.MailboxStands as MailStands}
use Rattle.ert_laws.specs.Counts.{entries_of, is_arm}
use Rattle.ert_shard.specs.{Shards.{Share, share_of, Owned, AreHome, has_any}, declared.dividing.ShardErr.ShardErr, declared.dividing.ShardErr.TheVariants.{Used, NoMemory}, declared.hub.Home.Home}
use Rattle.ert_table.specs.{Desks.{settings_of, front_of, actors_of, Belongs}, Held.{is_held, IsActor, actors_but}, Views.{Begins, longer}, declared.desk.Desk.Desk, declared.desk.Pass.Pass}
use Rattle.ert_timers.specs.{Parts.PartStands as WheelStands, SchedParts.SchedStands}
use Rattle.ert_world.specs.{Parts.{AllParts, AreOrdered}, Seats.Seated, Ways.among, Worlds.Seen, declared.seat_err.SeatErr.SeatErr, declared.seat_err.SeatErr.TheVariants.{NoSeat, NoMemory as NoSeatMemory}}

-- what callers see of the rest of a world: which desk it is of, with its settings, the history that it knows, what its
-- clock shows, how many schedulers and processes are left, the caller that is to get the next seat, and, for the last of
-- the schedulers that are left, which processes the shards had that came back
pub record Rest : Type 0 where
  pub table : TableId
  pub settings : Settings
  pub history : List Entry
  pub clock : Shown
  pub left : ℕ
  pub first : ℕ
  pub next : ℕ
  pub homes : List Home

abbrev pub rest : Desk → Pass → Shown → ℕ → ℕ → ℕ → List Home → Rest
rest d p clock left first next homes = record {
  table = d.table.shared.table_id;
  settings = settings_of d;
  history = front_of p;
  clock = clock;
  left = left;
  first = first;
  next = next;
  homes = homes;
}

-- whether an actor was given to no shard and to no seat. Seats get the callers after those of the schedulers
abbrev pub is_kept : ℕ → ℕ → ℕ → Actor → Bool
is_kept left first next Keeper = true
is_kept left first next (Wheel w) = nat_lt w left
is_kept left first next (Inbox w) = nat_lt w left
is_kept left first next (Sched w) = nat_lt w left
is_kept left first next (MailOf p) = nat_lt p first
is_kept left first next (Caller c) = nat_le c left || nat_le next c

-- of the actors in range a pass holds just those that were given to no shard and to no seat
pub record HubHoldsRest (g : Settings) (actors : List Actor) (left first next : ℕ) : Type 0 where
  pub most : left ≤ g.schedulers
  pub few : first ≤ g.processes
  pub seats : g.schedulers < next
  pub callers : next ≤ g.callers
  pub rest : (a : Actor) → IsActor g a → is_held actors a ≡ is_kept left first next a

-- the parts that are left stand for a history
pub record StandLeft (g : Settings) (h : List Entry) (left first : ℕ) (parts : AllParts) : Type 0 where
  pub legal : Legal g h
  pub keeper : ClockStands g h parts.keeper
  pub wheels : AreOrdered (λ p. p.number) (WheelStands g h) Wheel [] left parts.wheels
  pub inboxes : AreOrdered (λ q. q.wheel) (InboxStands g h) Inbox [] left parts.inboxes
  pub mails : AreOrdered (λ m. m.process) (MailStands g h) MailOf [] first parts.mails
  pub scheds : AreOrdered (λ p. p.wheel) (SchedStands g h) Sched [] left parts.scheds

-- the share of a shard that had the wheel of this number and these processes
abbrev pub share_at : ℕ → Home → Share
share_at w home = share_of w home.from home.to

-- the last wheels that are left were shards', and all their timers were started for processes of these
pub record HaveHomes (h : List Entry) (left : ℕ) (homes : List Home) : Type 0 where
  pub base : ℕ
  pub counted : base + length homes ≡ left
  pub home : (i : ℕ) (d : Home) → i < length homes → AreHome (share_at (base + i) (slice_index_or homes i d)) (of h (Wheel (base + i)))

-- there is room for every scheduler and for every process
pub record HasRoomForAll (g : Settings) (wheels inboxes mails scheds : ℕ) : Type 0 where
  pub wheels_room : g.schedulers ≤ wheels
  pub inboxes_room : g.schedulers ≤ inboxes
  pub mails_room : g.processes ≤ mails
  pub scheds_room : g.schedulers ≤ scheds

-- the parts of the rest of a world fit
pub record IsRest (d : Desk) (p : Pass) (left first next : ℕ) (homes : List Home) (parts : AllParts) : Type 0 where
  pub belongs : Belongs d p
  pub holds : HubHoldsRest (settings_of d) (actors_of p) left first next
  pub stand : StandLeft (settings_of d) (front_of p) left first parts
  pub home : HaveHomes (front_of p) left homes

-- nothing was given away of a world
pub record IsFresh (w : Seen) (r : Rest) : Type 0 where
  pub table : r.table ≡ w.table
  pub settings : r.settings ≡ w.settings
  pub history : r.history ≡ w.history
  pub clock : r.clock ≡ w.clock
  pub left : r.left ≡ w.settings.schedulers
  pub first : r.first ≡ w.settings.processes
  pub next : r.next ≡ w.settings.schedulers + 1
  pub homes : r.homes ≡ []

-- whether an entry has an actor that is left
abbrev pub is_rests : Rest → Entry → Bool
is_rests r e = has_any (is_kept r.left r.first r.next) e

abbrev pub hub_way : Rest → Way
hub_way r = among r.settings (is_rests r)

-- the world again, of which nothing is given away
pub record IsWorldAgain (r : Rest) (w : Seen) : Type 0 where
  pub table : w.table ≡ r.table
  pub settings : w.settings ≡ r.settings
  pub history : w.history ≡ r.history
  pub clock : w.clock ≡ r.clock
  pub next : w.next ≡ 1

-- the rest of a world makes a call that may move the clock: its history grows by it and is legal. Its desk, its settings
-- and what is left stay
pub record HubGoes (old : Rest) (call : Way → Growth) (new : Rest) : Type 0 where
  pub grows : Grows (call (hub_way old)) old.history new.history
  pub legal : Legal new.settings new.history
  pub table : new.table ≡ old.table
  pub settings : new.settings ≡ old.settings
  pub left : new.left ≡ old.left
  pub first : new.first ≡ old.first
  pub next : new.next ≡ old.next
  pub homes : new.homes ≡ old.homes

-- it makes a call that leaves the clock as it is
pub record HubSteps (old : Rest) (call : Way → Growth) (new : Rest) : Type 0 where
  pub goes : HubGoes old call new
  pub clock : new.clock ≡ old.clock

abbrev pub HubBy : Rest → (Settings → State → List Entry → Type 0) → Way → Growth
HubBy r allows way = way [] (allows r.settings)

-- the last scheduler that is left and the last processes become a shard, which knows as much
pub record GivesShard (old : Rest) (processes : ℕ) (new : Rest) (shard : Owned) : Type 0 where
  pub table : shard.table ≡ old.table
  pub settings : shard.settings ≡ old.settings
  pub history : shard.history ≡ old.history
  pub share : shard.share ≡ share_of (old.left - 1) (old.first - processes) old.first
  pub turns : shard.turns ≡ None
  pub rest : new ≡ record old { left = old.left - 1; first = old.first - processes; homes = take (length old.homes - 1) old.homes }

-- the processes below one, for a wheel
abbrev pub share_below : ℕ → ℕ → Share
share_below w first = share_of w 0 first

-- the timers of a wheel that is left are known to be for processes from one on, below another: it has had none, or was a
-- shard's whose processes are among these
abbrev pub AreKnown : Rest → ℕ → ℕ → ℕ → Type 0
AreKnown r w from to =
    (entries_of is_arm w r.history ≡ 0)
    ⊎ ((home : Home) × (r.left - w ≤ length r.homes) × (slice_get r.homes (length r.homes - (r.left - w)) ≡ Some home) × (from ≤ home.from) × (home.to ≤ to))

-- those of the last wheel that is left are known to be for so many of the last processes, and those of the wheels that stay
-- for the processes that stay
pub record IsAtHome (r : Rest) (processes : ℕ) : Type 0 where
  pub own : AreKnown r (r.left - 1) (r.first - processes) r.first
  pub others : (w : ℕ) → w < r.left - 1 → AreKnown r w 0 (r.first - processes)

-- no shard is given: the timers of its wheel aren't known to be for its processes, or those of another to be for others, or
-- there is no memory
abbrev pub IsShardRefused : Rest → ℕ → ShardErr → Type 0
IsShardRefused r processes Used = IsAtHome r processes → ⊥
IsShardRefused r processes NoMemory = IsAtHome r processes

-- the next caller gets a seat on the desk, which knows as much; all else stays
pub record HubGivesSeat (old new : Rest) (seat : Seated) : Type 0 where
  pub table : seat.table ≡ old.table
  pub settings : seat.settings ≡ old.settings
  pub history : seat.history ≡ old.history
  pub number : seat.number ≡ old.next
  pub below : old.next < old.settings.callers
  pub rest : new ≡ record old { next = old.next + 1 }

-- a seat is refused: every caller after those of the schedulers has one, or there is no memory
abbrev pub HubRefusesSeat : Rest → SeatErr → Type 0
HubRefusesSeat r NoSeat = r.settings.callers ≤ r.next
HubRefusesSeat r NoSeatMemory = r.next < r.settings.callers

-- a shard is the last that was given of those that are out
abbrev pub IsLastOut : Rest → Owned → Type 0
IsLastOut r o = (o.share.number ≡ r.left) × (o.share.from ≡ r.first)

-- a shard comes back; the history is the longer of the two, which the other begins
pub record TakesBack (old : Rest) (shard : Owned) (new : Rest) : Type 0 where
  pub table : new.table ≡ old.table
  pub settings : new.settings ≡ old.settings
  pub history : new.history ≡ longer old.history shard.history
  pub begins : Begins old.history new.history
  pub other_begins : Begins shard.history new.history
  pub legal : Legal new.settings new.history
  pub clock : new.clock ≡ old.clock
  pub left : new.left ≡ old.left + 1
  pub first : new.first ≡ shard.share.to
  pub next : new.next ≡ old.next
  pub homes : new.homes ≡ old.homes ++ record { from = shard.share.from; to = shard.share.to } ∷ []

-- shards are of the desk of a hub
abbrev pub AreOurs : Rest → List Owned → Type 0
AreOurs r shards = All (λ o. (o.table ≡ r.table) × (o.settings ≡ r.settings)) shards

-- so many of some shards came back, one after the other, each when it was the next; these are left of them
abbrev pub ComeBack : ℕ → Rest → List Owned → Rest → List Owned → Type 0
ComeBack zero old shards new left = (new ≡ old) × (left ≡ shards)
ComeBack (suc n) old shards new left =
    (i : ℕ) × (o : Owned) × (mid : Rest) × (slice_get shards i ≡ Some o) × IsLastOut old o × TakesBack old o mid × ComeBack n mid (remove shards i) new left

-- shards came back until none of those that are left is the next
pub record TakesAll (old : Rest) (shards : List Owned) (new : Rest) (left : List Owned) : Type 0 where
  pub count : ℕ
  pub back : ComeBack count old shards new left
  pub begins : Begins old.history new.history
  pub table : new.table ≡ old.table
  pub settings : new.settings ≡ old.settings
  pub ours : AreOurs new left
  pub none : All (λ o. IsLastOut new o → ⊥) left

-- an actor was moved from a pass to another; both know what they knew
pub record MovesActor (a : Actor) (from to from_new to_new : Pass) : Type 0 where
  pub from_is : actors_of from_new ≡ actors_but (actors_of from) a
  pub to_is : actors_of to_new ≡ actors_of to ++ a ∷ []
  pub from_front : front_of from_new ≡ front_of from
  pub to_front : front_of to_new ≡ front_of from

-- whether an actor is a mailbox from one number on, below another
abbrev pub is_mail : ℕ → ℕ → Actor → Bool
is_mail first last (MailOf p) = nat_le first p && nat_lt p last
is_mail first last _ = false

abbrev pub HoldsMails : ℕ → ℕ → Pass → Type 0
HoldsMails first last p = (i : ℕ) → first ≤ i → i < last → is_held (actors_of p) (MailOf i) ≡ true

-- the actors of these mailboxes were moved
pub record MovesMails (first last : ℕ) (from to from_new to_new : Pass) : Type 0 where
  pub from_is : (a : Actor) → is_held (actors_of from_new) a ≡ (not (is_mail first last a) && is_held (actors_of from) a)
  pub to_is : (a : Actor) → is_held (actors_of to_new) a ≡ (is_held (actors_of to) a || is_mail first last a)
  pub from_front : front_of from_new ≡ front_of from
  pub to_front : front_of to_new ≡ front_of from
