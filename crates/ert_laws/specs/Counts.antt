-- How many timers of a service have which status, and what their entries tell of that. The functions of
-- src/counts.rt carry the laws as contracts, so that they are proved.

use Rattle.std.specs.Prelude.{◌≡◌, ℕ, zero, suc, ◌+◌, ◌*◌, ◌≤◌, Bool, true, false, cond, ◌&&◌, List, [], ◌∷◌, length, filter, count_by, Option, Some}
use Rattle.ert_defs.specs.{Actors.{is_with, has_actor}, Legal.Legal, States.{State, state}, Timers.Row, declared.entry.Actor.TheVariants.{Wheel, MailOf}, declared.entry.Entry.Entry, declared.entry.Event.Event}
use Rattle.ert_defs.specs.{declared.entry.Event.TheVariants.{Arm, Expire, Orphan, Deliver}, declared.settings.Settings.Settings, declared.timer.Status.Status, declared.timer.Status.TheVariants.{Armed, Expired, Delivered, Cancelled}}
use Rattle.ert_defs.specs.{declared.timer.Status.TheVariants.{Orphaned, Dropped}, declared.timer.TimerRef.TimerRef}

-- the sum of what each of the first so many numbers gives
abbrev pub total : (ℕ → ℕ) → ℕ → ℕ
total f zero = 0
total f (suc n) = total f n + f n

-- whether a timer has a status
abbrev pub has_status : Status → Option Status → Bool
has_status Armed (Some Armed) = true
has_status Expired (Some Expired) = true
has_status Delivered (Some Delivered) = true
has_status Cancelled (Some Cancelled) = true
has_status Orphaned (Some Orphaned) = true
has_status Dropped (Some Dropped) = true
has_status _ _ = false

-- how many of these rows have a status that passes a test
abbrev pub count_of : (Option Status → Bool) → (TimerRef → Option Status) → List Row → ℕ
count_of test status [] = 0
count_of test status (r ∷ rows) = cond (test (status r.timer)) 1 0 + count_of test status rows

-- how many timers of a wheel have a status
abbrev pub count_at : State → Status → ℕ → ℕ
count_at s status w = count_of (has_status status) s.status (s.rows w)

-- how many timers of the first so many wheels have a status
abbrev pub count_in : State → Status → ℕ → ℕ
count_in s status n = total (count_at s status) n

-- the timers of a service by their status
pub record Counts : Type 0 where
  pub armed : ℕ
  pub expired : ℕ
  pub delivered : ℕ
  pub dropped : ℕ
  pub cancelled : ℕ
  pub orphaned : ℕ

-- the timers of all wheels in a state, by their status
abbrev pub counts_of : Settings → State → Counts
counts_of g s = record {
  armed = count_in s Armed g.schedulers;
  expired = count_in s Expired g.schedulers;
  delivered = count_in s Delivered g.schedulers;
  dropped = count_in s Dropped g.schedulers;
  cancelled = count_in s Cancelled g.schedulers;
  orphaned = count_in s Orphaned g.schedulers;
}

-- whether an event arms a timer
abbrev pub is_arm : Event → Bool
is_arm (Arm timer start) = true
is_arm _ = false

-- whether an event lets a timer expire
abbrev pub is_expire : Event → Bool
is_expire (Expire timer) = true
is_expire _ = false

-- whether an event cancels a timer for the exit of its destination
abbrev pub is_orphan : Event → Bool
is_orphan (Orphan timer) = true
is_orphan _ = false

-- how many entries of a wheel are of one kind
abbrev pub entries_of : (Event → Bool) → ℕ → List Entry → ℕ
entries_of test w h = count_by (λ e. has_actor e (Wheel w) && test e.event) h

-- whether an event puts the message of an expired timer into a mailbox
abbrev pub is_delivery : Event → Bool
is_delivery (Deliver timer) = true
is_delivery _ = false

-- whether an entry puts the message of an expired timer into the mailbox of this process
abbrev pub delivers_to : ℕ → Entry → Bool
delivers_to p e = is_with e.with (MailOf p) && is_delivery e.event

-- how many were in a history
abbrev pub deliveries : ℕ → List Entry → ℕ
deliveries p h = length (filter (delivers_to p) h)

-- each timer of a wheel was armed once
abbrev pub LawOfArms : Type 0
LawOfArms = (g : Settings) (h : List Entry) (w : ℕ) → Legal g h → entries_of is_arm w h ≡ length ((state g h).rows w)

-- those that expired stay so, or are delivered or dropped
abbrev pub LawOfExpiries : Type 0
LawOfExpiries = (g : Settings) (h : List Entry) (w : ℕ) → Legal g h
    → entries_of is_expire w h
    ≡ count_at (state g h) Expired w + count_at (state g h) Delivered w + count_at (state g h) Dropped w

-- those that were cancelled for an exit stay so
abbrev pub LawOfOrphans : Type 0
LawOfOrphans = (g : Settings) (h : List Entry) (w : ℕ) → Legal g h
    → entries_of is_orphan w h ≡ count_at (state g h) Orphaned w

-- those that are expired wait at the scheduler of their wheel
abbrev pub LawOfWaits : Type 0
LawOfWaits = (g : Settings) (h : List Entry) (w : ℕ) → Legal g h
    → length ((state g h).scheds w).expired ≡ count_at (state g h) Expired w

-- those that are delivered, of all wheels, were put into the mailboxes of all processes
abbrev pub LawOfDeliveries : Type 0
LawOfDeliveries = (g : Settings) (h : List Entry) → Legal g h
    → total (λ p. deliveries p h) g.processes ≡ count_in (state g h) Delivered g.schedulers

-- each timer of a wheel has one of six statuses
abbrev pub LawOfSix : Type 0
LawOfSix = (g : Settings) (h : List Entry) (w : ℕ) → Legal g h
    → length ((state g h).rows w)
    ≡ count_at (state g h) Armed w + count_at (state g h) Expired w + count_at (state g h) Delivered w
    + count_at (state g h) Dropped w + count_at (state g h) Cancelled w + count_at (state g h) Orphaned w

-- a wheel has at most 2^53 timers
abbrev pub LawOfMany : Type 0
LawOfMany = (g : Settings) (h : List Entry) (w : ℕ) → Legal g h → length ((state g h).rows w) ≤ 9007199254740992

-- and those of some wheels so many for each
abbrev pub LawOfAll : Type 0
LawOfAll = (g : Settings) (h : List Entry) (n : ℕ) → Legal g h
    → total (λ w. length ((state g h).rows w)) n ≤ 9007199254740992 * n

-- the counts that agree with the entries of a history and with the lists of its schedulers
pub record Agrees (g : Settings) (h : List Entry) (n : Counts) : Type 0 where
  pub armed : n.armed ≡ count_in (state g h) Armed g.schedulers
  pub expired : n.expired ≡ total (λ w. length ((state g h).scheds w).expired) g.schedulers
  pub delivered : n.delivered ≡ total (λ p. deliveries p h) g.processes
  pub orphaned : n.orphaned ≡ total (λ w. entries_of is_orphan w h) g.schedulers
  -- each timer that expired waits, or was delivered or dropped
  pub expiries : total (λ w. entries_of is_expire w h) g.schedulers ≡ n.expired + n.delivered + n.dropped
  -- each timer that was armed is so, or expired, or was cancelled
  pub arms : total (λ w. entries_of is_arm w h) g.schedulers
      ≡ n.armed + n.cancelled + n.orphaned + total (λ w. entries_of is_expire w h) g.schedulers

-- the timers of a service by their status agree with its history
abbrev pub LawOfCounts : Type 0
LawOfCounts = (g : Settings) (h : List Entry) → Legal g h → Agrees g h (counts_of g (state g h))

-- and no other counts do
abbrev pub LawOfOneCount : Type 0
LawOfOneCount = (g : Settings) (h : List Entry) (n : Counts) → Legal g h → Agrees g h n → n ≡ counts_of g (state g h)
