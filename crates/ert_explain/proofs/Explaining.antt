-- The explanation of a value's refusal, as one of the bytes.

use Rattle.std.proofs.Common.{◌≡◌, ◌≢◌, ℕ, Bool, List, refl}
use Rattle.serde_json.specs.Data.{Data}
use Rattle.ert_scenario.specs.{Scenarios.IsValue, declared.scenario.ScenarioErr.ScenarioErr, declared.scenario.ScenarioErr.TheVariants.{Json, Shape, Range, Limit, NoMemory}}
use Rattle.ert_explain.specs.{Explained.{IsExplained, IsExplainedBy}, declared.explanation.Explanation.Explanation}

-- the bytes are the value
pub explained : (race : Bool) (bytes : List ℕ) (d : Data) (refusal : ScenarioErr) (e : Explanation) → refusal ≢ Json → IsValue bytes d
    → IsExplainedBy race d bytes refusal e → IsExplained race bytes refusal e
explained race bytes d Json e other is by = absurd (other refl)
explained race bytes d (Shape place) e other is by = record { same = by.same; cause = (d, is, by.cause); position = by.position; shown = (d, is, by.shown) }
explained race bytes d (Range place) e other is by = record { same = by.same; cause = (d, is, by.cause); position = by.position; shown = (d, is, by.shown) }
explained race bytes d (Limit place) e other is by = record { same = by.same; cause = (d, is, by.cause); position = by.position; shown = (d, is, by.shown) }
explained race bytes d NoMemory e other is by = record { same = by.same; cause = (d, is, by.cause); position = by.position; shown = (d, is, by.shown) }
