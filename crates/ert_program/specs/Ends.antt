-- What a race does to a world.

use Rattle.std.specs.Prelude.{◌≡◌, List}
use Rattle.ert_effects.specs.Ways.{Grows}
use Rattle.ert_ops.specs.{Races.Race, Labels.Labels}
use Rattle.ert_program.specs.{Made.MakesRound, Outcomes.{ActAtOnce, Races}, Reports.Did}
use Rattle.ert_world.specs.Worlds.{Seen}

-- all act at once on a world, with these labels
pub record RunsAtOnce (old : Seen) (labels : Labels) (race : Race) (dids : List Did) (new : Seen) : Type 0 where
  pub grows : Grows (ActAtOnce old.settings labels race dids) old.history new.history
  pub settings : new.settings ≡ old.settings
  pub next : new.next ≡ old.next

-- each scheduler of a world makes a turn
pub record EndsRound (old new : Seen) : Type 0 where
  pub grows : Grows (MakesRound old.settings old.settings.schedulers) old.history new.history
  pub settings : new.settings ≡ old.settings
  pub next : new.next ≡ old.next

-- the history of a world grows by a race, with these labels
pub record RacesTo (old : Seen) (labels : Labels) (race : Race) (dids : List Did) (new : Seen) : Type 0 where
  pub grows : Grows (Races old.settings labels race dids) old.history new.history
  pub settings : new.settings ≡ old.settings
  pub next : new.next ≡ old.next
