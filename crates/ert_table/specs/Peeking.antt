-- A timer that is read, and one that is cancelled where it was armed when it was read.

use Rattle.std.specs.Prelude.{◌≡◌, ℕ, Bool, cond, Option, Some, None, option_map}
use Rattle.ert_defs.specs.{Entries.peek_entry, Milliseconds.left, States.{State, state}, declared.entry.Actor.Actor, declared.settings.Settings.Settings, declared.timer.TimerRef.TimerRef}
use Rattle.ert_table.specs.{Settlings.{HasRow, Settles}, Takes.Appends, declared.carry.Settle.TheVariants.Cancel as ToCancel, declared.view.View.View}

-- a deadline that was read is that of the timer
abbrev pub HasDeadline : State → TimerRef → Option ℕ → Type 0
HasDeadline s timer None = Unit {0}
HasDeadline s timer (Some deadline) = HasRow s timer deadline

-- a timer was read: what is left of it by the last look follows from the deadline that is answered
pub record Peeks (g : Settings) (v : View) (by : Actor) (timer : TimerRef) (answer : Option ℕ) (w : View) : Type 0 where
  pub step : Appends g v (peek_entry by timer (option_map (λ d. left g d ((state g v.front).looked by)) answer)) w
  pub row : HasDeadline (state g w.front) timer answer

-- a timer for which this deadline was found, if any, is cancelled or missed; the deadline is the answer where it is
-- cancelled. Where none was found there is no step
abbrev pub CancelsFound : Settings → View → Actor → TimerRef → Option ℕ → Option ℕ → View → Type 0
CancelsFound g v by timer None answer w = (answer ≡ None) × (w ≡ v)
CancelsFound g v by timer (Some deadline) answer w =
    (hit : Bool) × (answer ≡ cond hit (Some deadline) None) × Settles g v by timer deadline ToCancel hit w

-- a timer was read, and then cancelled or missed where it was armed
pub record PeeksAndCancels (g : Settings) (v : View) (by : Actor) (timer : TimerRef) (answer : Option ℕ) (w : View) : Type 0 where
  pub found : Option ℕ
  pub between : View
  pub peek : Peeks g v by timer found between
  pub cancel : CancelsFound g between by timer found answer w
