-- The slots that have a row are looked at, and the rows of settled timers go.

use Rattle.std.specs.Prelude.{◌≡◌, ℕ, ◌<◌, List, Some}
use Rattle.ert_defs.specs.{States.state, declared.entry.Entry.Entry, declared.settings.Settings.Settings, declared.timer.Status.TheVariants.Armed}
use Rattle.ert_timers.specs.{Frees.FreesRows, Parts.{Part, PartStands, last_timer}, Passed.LosesRows}
use Rattle.ert_wheel.specs.{Rows.key_in, declared.row.Key.Key}

-- a slot was looked at: where it has a row still, its timer is armed
pub record DropsRow (g : Settings) (h : List Entry) (p q : Part) (k : ℕ) : Type 0 where
  pub stands : PartStands g h q
  pub loses : LosesRows p q
  pub frees : FreesRows p q
  pub here : (key : Key) → key_in q.keys k ≡ Some key → (state g h).status (last_timer q.number q.slots k) ≡ Some Armed

-- so many slots were
pub record DropsRows (g : Settings) (h : List Entry) (p q : Part) (n : ℕ) : Type 0 where
  pub stands : PartStands g h q
  pub loses : LosesRows p q
  pub frees : FreesRows p q
  pub below : (k : ℕ) (key : Key) → k < n → key_in q.keys k ≡ Some key → (state g h).status (last_timer q.number q.slots k) ≡ Some Armed
