-- The next due time is asked for until a timer is found armed, or so many rows have gone.

use Rattle.std.specs.Prelude.{◌≡◌, ◌⊎◌, ℕ, ◌<◌, ◌≤◌, List, length, Option, Some, None}
use Rattle.ert_defs.specs.{States.{State, state}, declared.settings.Settings.Settings}
use Rattle.ert_effects.specs.Sleeping.{Probed, AreSettledButLast, probed_entries}
use Rattle.ert_table.specs.{Takes.TakesPlace, declared.view.View.View}
use Rattle.ert_timers.specs.{NextDue.{IsNearest, IsNextHeld}, Frees.FreesRows, Parts.{Part, PartStands}, Passed.LosesRows, Sleeping.HasLost}

-- as `IsFoundNext`, where so many rows may go
abbrev pub IsFoundWithin : ℕ → State → Part → Part → Option ℕ → Type 0
IsFoundWithin most s p q None = Unit {0}
IsFoundWithin most s p q (Some time) = IsNearest s q.number q.passed (Some time) ⊎ HasLost most p q ⊎ (time < q.passed)

-- slots were probed, so many at most, until a timer was found armed
pub record AsksOn (g : Settings) (v : View) (p q : Part) (most : ℕ) (answer : Option ℕ) (u : View) : Type 0 where
  pub probes : List Probed
  pub few : length probes ≤ most
  pub settled : AreSettledButLast probes
  pub call : TakesPlace g v (probed_entries p.number probes) u
  pub stands : PartStands g u.front q
  pub held : IsNextHeld q answer
  pub found : IsFoundWithin most (state g u.front) p q answer
  pub loses : LosesRows p q
  pub frees : FreesRows p q
  pub time : q.passed ≡ p.passed
