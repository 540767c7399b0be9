-- The look with which a call of a part begins.

use Rattle.std.specs.Prelude.{◌≡◌, ℕ, ◌/◌, ℤ, pos, Option, option_map, IfSome}
use Rattle.ert_defs.specs.{Entries.look_entry, Milliseconds.{down, deadline_of}, States.state, declared.entry.Actor.Actor, declared.entry.Actor.TheVariants.Caller, declared.settings.Settings.Settings, declared.timer.Start.Start}
use Rattle.ert_table.specs.{Takes.Appends, declared.view.View.View}
use Rattle.ert_timers.specs.declared.looking.Ahead.{Ahead}

-- an actor looks at the time, and is told the whole milliseconds, rounded down
pub record LooksDown (g : Settings) (v : View) (by : Actor) (to : ℕ) (u : View) : Type 0 where
  pub now : ℤ
  pub step : Appends g v (look_entry by now) u
  pub told : pos to ≡ down g now

-- the whole milliseconds of the look of a start, rounded down
abbrev pub now_in : Ahead → ℕ
now_in a = a.passed / 1000000

-- a caller looks at the time, and is told the whole milliseconds, rounded down, and the deadline of a start
pub record LooksAhead (g : Settings) (v : View) (by : ℕ) (start : Start) (ahead : Option Ahead) (u : View) : Type 0 where
  pub now : ℤ
  pub step : Appends g v (look_entry (Caller by) now) u
  pub told : option_map (λ (a : Ahead). a.deadline) ahead ≡ deadline_of g start now
  pub down_to : IfSome ahead (λ a. pos (now_in a) ≡ down g now)
  pub time : now ≡ (state g u.front).clock.now
