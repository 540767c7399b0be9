-- That no relation of a race is too strong: each race has an outcome. The function of src/existence.rt carries the law
-- as its contract, so that it is proved.

use Rattle.std.specs.Prelude.{ℕ, List}
use Rattle.ert_defs.specs.{Settings.IsChecked, declared.entry.Entry.Entry, declared.settings.Settings.Settings}
use Rattle.ert_ops.specs.{Races.{Race, IsRace}, Ranges.AreOpsInRange, declared.op.Op.Op}
use Rattle.ert_program.specs.Outcomes.{IsOutcome}

-- ops that are in range, and then a race, have an outcome
abbrev pub LawOfOutcomes : Type 0
LawOfOutcomes = (g : Settings) (ops : List Op) (race : Race) → IsChecked g → AreOpsInRange g ops → IsRace g ops race
    → (h : List Entry) × (text : List ℕ) × IsOutcome g ops race h text
