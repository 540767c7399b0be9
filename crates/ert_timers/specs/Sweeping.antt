-- The timers of a process that has exited are cancelled, one after the other.

use Rattle.std.specs.Prelude.{◌≡◌, ℕ, true, List}
use Rattle.ert_defs.specs.{States.{State, state}, declared.entry.Entry.Entry, declared.settings.Settings.Settings}
use Rattle.ert_effects.specs.WheelCalls.{Try, AllMaySweep, AreOnce, orphan_entries}
use Rattle.ert_table.specs.{Takes.TakesPlace, declared.view.View.View}
use Rattle.ert_timers.specs.{Frees.FreesRows, Parts.{Part, PartStands}, Passed.{HoldsEach, HoldsNone, LosesRows}}

-- some of them were tried
pub record SweepsSome (g : Settings) (v : View) (by process : ℕ) (p q : Part) (u : View) : Type 0 where
  pub tries : List Try
  pub may : AllMaySweep ((state g v.front).rows p.number) process tries
  pub once : AreOnce tries
  pub held : HoldsEach p tries
  pub none : HoldsNone q tries
  pub loses : LosesRows p q
  pub frees : FreesRows p q
  pub call : TakesPlace g v (orphan_entries by p.number tries) u
  pub stands : PartStands g u.front q
  pub number : q.number ≡ p.number
  pub rows : (state g u.front).rows p.number ≡ (state g v.front).rows p.number
  pub exited : (state g u.front).exited process ≡ true

-- only timers were tried that had a row before
pub record SweepsHeld (by : ℕ) (p : Part) (s : State) (es : List Entry) : Type 0 where
  pub tries : List Try
  pub held : HoldsEach p tries
  pub entries : es ≡ orphan_entries by p.number tries
