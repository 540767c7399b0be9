-- What callers see of a world, the history that it knows, and how its calls make that longer.

use Rattle.std.specs.Prelude.{◌≡◌, ◌≢◌, ℕ, ◌<◌, ◌≤◌, ◌⊎◌, ◌++◌, true, false, List, [], ◌∷◌, filter, slice_index_or, Option, Some, None, Result, Ok, Err}
use Rattle.atomic_table.specs.Seated.{TableId}
use Rattle.ert_effects.specs.Ways.{Growth, Way, Grows, alone}
use Rattle.ert_clock.specs.Shown.{Shown, ClockStands}
use Rattle.ert_defs.specs.{Legal.Legal, Mails.SchedState, Settings.IsChecked, States.{State, state, HasExited as HasExitedIn, sched_of}, Timers.is_taken, declared.entry.Actor.Actor, declared.entry.Actor.TheVariants.Caller}
use Rattle.ert_defs.specs.{declared.entry.Entry.Entry, declared.entry.Event.TheVariants.Cancel, declared.mail.Request.Request, declared.mail.RequestKind.RequestKind, declared.mail.RequestKind.TheVariants.Cancel as ToCancel}
use Rattle.ert_defs.specs.{declared.mail.RequestKind.TheVariants.Read as ToRead, declared.memory.NoMemory.NoMemory, declared.settings.Settings.Settings, declared.timer.TimerRef.TimerRef}
use Rattle.ert_mail.specs.{Lists.AreListed, Mailboxes.Mailbox, Turns.TurnRow}
use Rattle.ert_table.specs.{Desks.{settings_of, front_of, actors_of, Belongs}, Held.{is_held, IsActor}, declared.desk.Desk.Desk, declared.desk.Pass.Pass}
use Rattle.ert_timers.specs.{Freeing.{IsHeld, IsLetGo}, NextDue.{IsNearest, IsNextHeld}, Parts.Part, Passed.{HasPassed, LosesRows}, Tidy.IsTidy}
use Rattle.ert_world.specs.{Parts.{AllParts, Stand}, Ways.{beside_seats, is_unseated}}

-- what callers see of a world: which desk it is of, with its settings, the history that it knows, what its clock
-- shows, the next caller that is to get a seat, its wheels, and the row of the processes that may have mail, from the first
-- `next_mail` on
pub record Seen : Type 0 where
  pub table : TableId
  pub settings : Settings
  pub history : List Entry
  pub clock : Shown
  pub next : ℕ
  pub wheels : List Part
  pub turns : Option TurnRow

-- what they see of a world with these: the history is the front of its pass
abbrev pub seen : Desk → Pass → ℕ → Shown → List Part → Option TurnRow → Seen
seen d p next clock wheels turns = record {
  table = d.table.shared.table_id;
  settings = settings_of d;
  history = front_of p;
  clock = clock;
  next = next;
  wheels = wheels;
  turns = turns;
}

-- an actor was given no seat: every one but the callers from 1 on, below the next
abbrev pub IsUnseated : ℕ → Actor → Type 0
IsUnseated next (Caller n) = (n ≡ 0) ⊎ (next ≤ n)
IsUnseated next _ = Unit {0}

-- of the actors in range just those are held that were given no seat
pub record HoldsRest (g : Settings) (actors : List Actor) (next : ℕ) : Type 0 where
  pub some : 0 < next
  pub most : next ≤ g.callers
  pub rest : (a : Actor) → IsActor g a → IsUnseated next a → is_held actors a ≡ true
  pub given : (n : ℕ) → 0 < n → n < next → is_held actors (Caller n) ≡ false

-- the parts of a world fit: the pass is of the desk and holds every actor but those with seats, and each part
-- stands for its front
pub record AreFit (d : Desk) (p : Pass) (next : ℕ) (parts : AllParts) : Type 0 where
  pub belongs : Belongs d p
  pub holds : HoldsRest (settings_of d) (actors_of p) next
  pub stand : Stand (settings_of d) (front_of p) [] parts

-- all wheels are tidy after a history: each timer that one holds is armed
abbrev pub AreTidy : Settings → List Entry → List Part → Type 0
AreTidy g h wheels = (i : ℕ) (d : Part) → i < g.schedulers → IsTidy (state g h) (slice_index_or wheels i d)

-- the parts of a world are sound: they fit, and where no seat was given out its wheels are tidy
pub record AreSound (d : Desk) (p : Pass) (next : ℕ) (parts : AllParts) : Type 0 where
  pub fit : AreFit d p next parts
  pub tidy : next ≡ 1 → AreTidy (settings_of d) (front_of p) parts.wheels

-- where processes are listed, each that hasn't exited and whose mailbox has mail is
abbrev pub ListAll : State → Option TurnRow → List Mailbox → Type 0
ListAll s None mails = Unit {0}
ListAll s (Some row) mails = AreListed s.exited row mails

-- what a world keeps: its parts are sound, and the processes with mail are listed where any are
pub record AreKept (d : Desk) (p : Pass) (next : ℕ) (parts : AllParts) : Type 0 where
  pub sound : AreSound d p next parts
  pub listed : ListAll (state (settings_of d) (front_of p)) parts.turns parts.mails

-- how early the next of the rows that a wheel of a world holds is due, and None where it holds none. It holds the row
-- of each armed timer, and may hold the row of one that was cancelled until that would have been due
abbrev pub IsNextHeldAt : Seen → ℕ → Option ℕ → Type 0
IsNextHeldAt w i answer = (d : Part) → IsNextHeld (slice_index_or w.wheels i d) answer

-- where no seat was given out, a time that is answered is that of an armed timer; or one is armed, and it is the begin of a
-- window, after the first time that the wheel hasn't passed
abbrev pub IsNearestAt : Seen → ℕ → Option ℕ → Type 0
IsNearestAt w i answer = w.next ≡ 1
    → (d : Part) → IsNearest (state w.settings w.history) i (slice_index_or w.wheels i d).passed answer

-- a world's steps come about beside those of its seats
abbrev pub way_of : Seen → Way
way_of w = beside_seats w.settings w.next

-- a wheel of a world holds no row of a timer
abbrev pub HasForgotten : Seen → TimerRef → Type 0
HasForgotten w timer = (d : Part) → IsHeld (slice_index_or w.wheels timer.wheel d) timer → ⊥

-- nor one of any timer that these entries cancelled
abbrev pub HasForgottenAll : Seen → List Entry → Type 0
HasForgottenAll w [] = Unit {0}
HasForgottenAll w (e ∷ es) = ((timer : TimerRef) (left : ℕ) → e.event ≡ Cancel timer (Some left) → HasForgotten w timer) × HasForgottenAll w es

-- the history of a world goes on by a piece, and its wheels hold no row of a timer that was cancelled by an entry of
-- it which no seat made
pub record ForgetsCancelled (old new : Seen) : Type 0 where
  pub piece : List Entry
  pub grown : new.history ≡ old.history ++ piece
  pub forgotten : HasForgottenAll new (filter (is_unseated old.next) piece)

-- wheels of a world may have lost rows, no row has come, and each slot that was held free is so still
abbrev pub LoseRows : Seen → Seen → Type 0
LoseRows old new = (i : ℕ) (d : Part) → LosesRows (slice_index_or old.wheels i d) (slice_index_or new.wheels i d)

-- the rows of a wheel stay, and so do its time and where they stand
pub record KeepsRows (p q : Part) : Type 0 where
  pub keys : q.keys ≡ p.keys
  pub time : q.passed ≡ p.passed
  pub stands : q.stands ≡ p.stands

-- those of each wheel of a world
abbrev pub KeepRows : Seen → Seen → Type 0
KeepRows old new = (i : ℕ) (d : Part) → KeepsRows (slice_index_or old.wheels i d) (slice_index_or new.wheels i d)

-- each row that a wheel of a world holds is due later than a time
abbrev pub HasPassedAt : Seen → ℕ → ℕ → Type 0
HasPassedAt w i to = (d : Part) → HasPassed (slice_index_or w.wheels i d) to

-- who waits for a turn keeps its place: there is a row only once `next_mail` made one, and others are put behind those in it
abbrev pub TurnsGrow : Option TurnRow → Option TurnRow → Type 0
TurnsGrow None new = new ≡ None
TurnsGrow (Some row) new = (more : List ℕ) × (new ≡ Some (record row { held = row.held ++ more }))

-- a world makes a call, which may be made in any way: its history grows by it, beside its seats, and as that of one
-- thread where it gave out none. It is legal then. The world's desk, its settings, its clock and its seats stay, and who
-- waits for a turn keeps its place
pub record Goes (old : Seen) (call : Way → Growth) (new : Seen) : Type 0 where
  pub grows : Grows (call (way_of old)) old.history new.history
  pub lone : old.next ≡ 1 → Grows (call (alone old.settings)) old.history new.history
  pub legal : Legal new.settings new.history
  pub table : new.table ≡ old.table
  pub settings : new.settings ≡ old.settings
  pub clock : new.clock ≡ old.clock
  pub next : new.next ≡ old.next
  pub turns : TurnsGrow old.turns new.turns

-- the same of a call that may move the clock
abbrev pub GoesOnClock : Seen → (Way → Growth) → Seen → Type 0
GoesOnClock old call new = Goes (record old { clock = new.clock }) call new

-- parts were put together to a world: it has all of them, but that its wheels may have let go the rows of timers that
-- others had cancelled
pub record IsPutTogether (parts new : Seen) : Type 0 where
  pub rest : new ≡ record parts { wheels = new.wheels }
  pub rows : LoseRows parts new

-- a timer was let go, of a wheel of a world
abbrev pub IsLetGoIn : Seen → TimerRef → Type 0
IsLetGoIn w timer = (d : Part) → IsLetGo (slice_index_or w.wheels timer.wheel d) timer

-- the message of a timer of a wheel in range was handed over: it takes its slot no more, which can be used again
abbrev pub IsHandedIn : Seen → TimerRef → Type 0
IsHandedIn w timer = (timer.wheel < w.settings.schedulers) × IsLetGoIn w timer × (is_taken ((state w.settings w.history).status timer) ≡ false)

-- of the entries that its history gains, those that come about so are what is allowed after the history before
abbrev pub By : Seen → (Settings → State → List Entry → Type 0) → Way → Growth
By w allows way = way [] (allows w.settings)

-- a world stands for a history of its settings: it knows that, and the clock stands for it
pub record StandsFor (g : Settings) (h : List Entry) (w : Seen) : Type 0 where
  pub settings : w.settings ≡ g
  pub history : w.history ≡ h
  pub checked : IsChecked g
  pub clock : ClockStands g h w.clock

-- a process has exited in the history of a world
abbrev pub HasProcessExited : Seen → ℕ → Type 0
HasProcessExited w process = HasExitedIn w.settings w.history process

-- what a scheduler has in the history of a world
abbrev pub world_sched : Seen → ℕ → SchedState
world_sched w n = sched_of w.settings w.history n

-- what was left of a timer that was cancelled for a request; None where the request was to read it
abbrev pub left_for : RequestKind → Option ℕ → Option ℕ
left_for ToCancel left = left
left_for ToRead left = None

-- the same, by what the answer to a request gave; None when out of memory
abbrev pub cancelled_by : Request → Result (Option ℕ) NoMemory → Option ℕ
cancelled_by request (Ok left) = left_for request.kind left
cancelled_by request (Err e) = None

-- no wheel of a world holds the row of a timer that was started before and that it had forgotten
abbrev pub StayForgotten : Seen → Seen → Type 0
StayForgotten old new = (timer : TimerRef) → (state old.settings old.history).status timer ≢ None → HasForgotten old timer → HasForgotten new timer
