-- A call that cancelled a timer, whose row still stands, and how the row goes.

use Rattle.std.specs.Prelude.{◌≡◌, ◌≢◌, ℕ, ◌<◌, List, [], ◌∷◌, ◌++◌, filter, slice_index_or, Option, Some, None}
use Rattle.ert_effects.specs.Ways.{Growth, Way, Grows, alone}
use Rattle.ert_defs.specs.{Legal.Legal, States.state, declared.entry.Entry.Entry, declared.entry.Event.TheVariants.Cancel, declared.timer.Status.TheVariants.Armed, declared.timer.TimerRef.TimerRef}
use Rattle.ert_timers.specs.{Freeing.IsLast, Parts.Part, Tidy.{IsTidy, IsTidyBut}}
use Rattle.ert_world.specs.{Ways.is_unseated, Worlds.{Seen, HasForgotten, LoseRows, TurnsGrow, way_of}}

-- a wheel of a world is tidy
abbrev pub IsTidyAt : Seen → ℕ → Type 0
IsTidyAt w i = (d : Part) → IsTidy (state w.settings w.history) (slice_index_or w.wheels i d)

-- all timers that it holds but one are armed
abbrev pub IsTidyButAt : Seen → ℕ → TimerRef → Type 0
IsTidyButAt w i timer = (d : Part) → IsTidyBut (state w.settings w.history) (slice_index_or w.wheels i d) timer

-- where no seat was given out each wheel that was tidy is so still, but for a timer that was cancelled, if this much
-- was left of it
abbrev pub StayTidyBut : TimerRef → Option ℕ → Seen → Seen → Type 0
StayTidyBut timer None old new = old.next ≡ 1 → (i : ℕ) → i < old.settings.schedulers → IsTidyAt old i → IsTidyAt new i
StayTidyBut timer (Some left) old new = old.next ≡ 1 → (i : ℕ) → i < old.settings.schedulers → IsTidyAt old i → IsTidyButAt new i timer

-- a timer isn't armed in the history of a world
abbrev pub IsSettledIn : Seen → TimerRef → Type 0
IsSettledIn w timer = (state w.settings w.history).status timer ≢ Some Armed

-- a timer is the last of its slot, of a wheel of a world
abbrev pub IsLastIn : Seen → TimerRef → Type 0
IsLastIn w timer = (d : Part) → IsLast (slice_index_or w.wheels timer.wheel d) timer

-- a timer is of a wheel in range, no longer armed and the last of its slot, if this much was left of it when it was
-- cancelled
abbrev pub IsGone : Seen → TimerRef → Option ℕ → Type 0
IsGone w timer None = Unit {0}
IsGone w timer (Some left) = (timer.wheel < w.settings.schedulers) × IsSettledIn w timer × IsLastIn w timer

-- these entries cancel no timer but one, if this much was left of it
abbrev pub CancelOnly : TimerRef → Option ℕ → List Entry → Type 0
CancelOnly timer left [] = Unit {0}
CancelOnly timer left (e ∷ es) = ((t : TimerRef) (n : ℕ) → e.event ≡ Cancel t (Some n) → (t ≡ timer) × (left ≡ Some n)) × CancelOnly timer left es

-- the history of a world goes on by a piece, whose entries that no seat made do so
pub record CancelsOnly (timer : TimerRef) (left : Option ℕ) (old new : Seen) : Type 0 where
  pub piece : List Entry
  pub grown : new.history ≡ old.history ++ piece
  pub only : CancelOnly timer left (filter (is_unseated old.next) piece)

-- but for one timer that was cancelled, if this much was left of it: its row still stands
pub record GoesBut (timer : TimerRef) (left : Option ℕ) (old : Seen) (call : Way → Growth) (new : Seen) : Type 0 where
  pub grows : Grows (call (way_of old)) old.history new.history
  pub lone : old.next ≡ 1 → Grows (call (alone old.settings)) old.history new.history
  pub legal : Legal new.settings new.history
  pub table : new.table ≡ old.table
  pub settings : new.settings ≡ old.settings
  pub clock : new.clock ≡ old.clock
  pub next : new.next ≡ old.next
  pub turns : TurnsGrow old.turns new.turns
  pub wheels : new.wheels ≡ old.wheels
  pub tidy : StayTidyBut timer left old new
  pub cancels : CancelsOnly timer left old new
  pub gone : IsGone new timer left

-- the row of a timer goes, and nothing else changes
pub record Forgets (timer : TimerRef) (old new : Seen) : Type 0 where
  pub table : new.table ≡ old.table
  pub history : new.history ≡ old.history
  pub settings : new.settings ≡ old.settings
  pub clock : new.clock ≡ old.clock
  pub next : new.next ≡ old.next
  pub turns : new.turns ≡ old.turns
  pub rows : LoseRows old new
  pub forgotten : HasForgotten new timer
  pub tidy : (i : ℕ) → i < old.settings.schedulers → IsTidyButAt old i timer → IsTidyAt new i
