-- What a command leaves whose input is no scenario: why it is none, and what was written of that.

use Rattle.std.specs.Prelude.{◌≡◌, ◌⊎◌, ℕ, Bool, List, Option, length, IsSomeAnd}
use Rattle.ert_io.specs.{Known.HasRoomFor, Reads.{Input, ReadsAll}, Told.{SinkTold, took, TakesFront}}
use Rattle.ert_scenario.specs.{Scenarios.{Plan, HasRefusal}, declared.scenario.ScenarioErr.ScenarioErr}
use Rattle.ert_program.specs.{Inputs.IsPossibleInput, OnDesks.HasRead, Refusals.refusal_line, Streams.Output, declared.ending.Ended.Ended, declared.ending.EndStatus.TheVariants.{Refused, WriteFault, NoMemory}}
use Rattle.ert_program.specs.{declared.ending.Refusal.Refusal}

-- all bytes were read, the refusal that is returned has them, they have that refusal, and its line was written
pub record RefusesInput (race : Bool) (i j : Input) (old new : SinkTold) (refusal : Refusal) : Type 0 where
  pub wanted : refusal.race ≡ race
  pub takes : ReadsAll i j refusal.bytes.items
  pub is : HasRefusal race refusal.bytes.items refusal.why
  pub writes : new ≡ took old (refusal_line refusal.why)

-- all bytes were read, they have a refusal, and the first part of its line was written
pub record PartRefused (race : Bool) (i j : Input) (old new : SinkTold) : Type 0 where
  pub bytes : List ℕ
  pub takes : ReadsAll i j bytes
  pub why : ScenarioErr
  pub is : HasRefusal race bytes why
  pub writes : TakesFront old new (refusal_line why)

-- all bytes were read, and they are a scenario; or they have a refusal, and the first part of its line was written
abbrev pub ReadsOrRefuses : Bool → Input → Input → SinkTold → SinkTold → Type 0
ReadsOrRefuses race i j old new = ((plan : Plan) × HasRead race i j plan) ⊎ PartRefused race i j old new

-- a command that reads a scenario, with a race or without as is wanted, came to an end: what it leaves of a refusal
pub record RefusalEnds (race : Bool) (i j : Input) (o p : Output) (e : Ended) : Type 0 where
  pub refused : e.status ≡ Refused → IsSomeAnd e.refusal (RefusesInput race i j o.told p.told)
  pub write_fault : e.status ≡ WriteFault → ReadsOrRefuses race i j o.told p.told
  pub no_memory : e.status ≡ NoMemory → (p ≡ o) ⊎ ReadsOrRefuses race i j o.told p.told

-- where the output tells its room, it has room for the line of a refusal
abbrev pub RefusalFits : Bool → Option (List ℕ) → Option ℕ → Type 0
RefusalFits race left room = (bytes : List ℕ) (why : ScenarioErr) → IsPossibleInput left bytes → HasRefusal race bytes why
    → HasRoomFor room (length (refusal_line why))
