-- What `race` leaves.

use Rattle.std.specs.Prelude.{◌≡◌, ℕ, true, List, Some}
use Rattle.ert_defs.specs.declared.{entry.Entry.Entry, settings.Settings.Settings}
use Rattle.ert_io.specs.{Reads.Input, Told.SinkTold}
use Rattle.ert_ops.specs.{Races.Race, declared.op.Op.Op}
use Rattle.ert_program.specs.{Outcomes.IsOutcome, Written.{Returned, MayWrite}, Inputs.InputEnds, OnDesks.DidOn, Streams.Output, declared.ending.EndStatus.EndStatus}
use Rattle.ert_scenario.specs.{Acceptance.IsRaceable, Scenarios.Plan}

-- a text of a race after these ops
abbrev pub OfRace : Type 1
OfRace = Settings → List Op → Race → List ℕ → Type 0

-- a text is the report of an outcome
abbrev pub IsReport : Settings → List Op → Race → List ℕ → Type 0
IsReport g ops race text = (h : List Entry) × IsOutcome g ops race h text

-- a text of the race of a plan
pub record OfPlan (may : OfRace) (plan : Plan) (text : List ℕ) : Type 0 where
  pub race : Race
  pub has : plan.race ≡ Some race
  pub is : may plan.settings plan.ops race text

-- what `race` may write of bytes: they are a scenario with a race
abbrev pub RaceWrites : (Settings → List Op → Race → List ℕ → Type 0) → List ℕ → List ℕ → Type 0
RaceWrites may bytes text = (g : Settings) × (ops : List Op) × (race : Race) × IsRaceable bytes g ops race × may g ops race text

-- `race` came to an end, between two moments of the input and of the output
abbrev pub RaceEnds : Input → Input → Output → Output → EndStatus → Type 0
RaceEnds = InputEnds (RaceWrites IsReport) (RaceWrites MayWrite)

-- a history and a text are an outcome of the race of a plan
pub record RaceOf (plan : Plan) (h : List Entry) (text : List ℕ) : Type 0 where
  pub race : Race
  pub has : plan.race ≡ Some race
  pub is : IsOutcome plan.settings plan.ops race h text

-- `race` was done, and returned this desk
abbrev pub RaceOn : Input → Input → SinkTold → SinkTold → Returned → Type 0
RaceOn = DidOn true RaceOf
