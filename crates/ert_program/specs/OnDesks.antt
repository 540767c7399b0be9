-- What was done of a plan, with the desk that it was done on.

use Rattle.std.specs.Prelude.{◌≡◌, ℕ, Bool, List}
use Rattle.ert_defs.specs.declared.entry.Entry.{Entry}
use Rattle.ert_io.specs.{Reads.{Input, ReadsAll}, Told.{SinkTold, took}}
use Rattle.ert_program.specs.Written.{Returned, HasHistory}
use Rattle.ert_scenario.specs.Scenarios.{Plan, IsScenario}

-- what a command may do with a plan: a history of it, and the text that it writes of that
abbrev pub Doing : Type 1
Doing = Plan → List Entry → List ℕ → Type 0

-- all bytes were read, and they are a scenario with this plan, with a race or without as is wanted
pub record HasRead (race : Bool) (i j : Input) (plan : Plan) : Type 0 where
  pub bytes : List ℕ
  pub takes : ReadsAll i j bytes
  pub is : IsScenario race bytes plan

-- a plan was done on a desk: its text was written, and the desk that is returned has the very history of that text
pub record RanOn (does : Doing) (plan : Plan) (old new : SinkTold) (r : Returned) : Type 0 where
  pub history : List Entry
  pub text : List ℕ
  pub is : does plan history text
  pub writes : new ≡ took old text
  pub desk : HasHistory plan.settings history r

-- all bytes were read, they are a scenario, and it was done on a desk
pub record DidOn (race : Bool) (does : Doing) (i j : Input) (old new : SinkTold) (r : Returned) : Type 0 where
  pub plan : Plan
  pub read : HasRead race i j plan
  pub ran : RanOn does plan old new r
