-- What is written of the explanation of a refusal.

use Rattle.std.specs.Prelude.{◌≡◌, ◌⊎◌, ℕ, Bool, List}
use Rattle.ert_explain.specs.{Explained.IsExplained, Messages.message, declared.explanation.Explanation.Explanation}
use Rattle.ert_io.specs.Told.{SinkTold, TakesFront}
use Rattle.ert_scenario.specs.declared.scenario.ScenarioErr.{ScenarioErr}

-- a text is the line of a true explanation of the refusal of bytes
pub record IsMessageOn (race : Bool) (bytes : List ℕ) (why : ScenarioErr) (text : List ℕ) : Type 0 where
  pub explanation : Explanation
  pub is : IsExplained race bytes why explanation
  pub says : text ≡ message bytes explanation

-- that line was written, or a first part of it
pub record TellsWhy (race : Bool) (bytes : List ℕ) (why : ScenarioErr) (old new : SinkTold) : Type 0 where
  pub text : List ℕ
  pub is : IsMessageOn race bytes why text
  pub writes : TakesFront old new text

-- the same, or nothing was written because memory ran out
abbrev pub TellsWhyOrNothing : Bool → List ℕ → ScenarioErr → SinkTold → SinkTold → Type 0
TellsWhyOrNothing race bytes why old new = (new ≡ old) ⊎ TellsWhy race bytes why old new
