-- What a scheduler has, and when it stands for a history.

use Rattle.std.specs.Prelude.{◌≡◌, ◌<◌, List}
use Rattle.ert_defs.specs.{States.state, declared.entry.Entry.Entry, declared.settings.Settings.Settings}
use Rattle.ert_timers.specs.declared.sched_part.SchedPart.{SchedPart}

-- a scheduler's part stands for a history: its hand and its list of expired timers are those of the history
pub record SchedStands (g : Settings) (h : List Entry) (p : SchedPart) : Type 0 where
  pub in_range : p.wheel < g.schedulers
  pub hand : p.hand ≡ ((state g h).scheds p.wheel).hand
  pub expired : p.expired.rows ≡ ((state g h).scheds p.wheel).expired
