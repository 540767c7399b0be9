-- The lines that the program writes where it runs nothing.

use Rattle.std.specs.Prelude.{ℕ, List, [], codes, decimal}
use Rattle.ert_ops.specs.Texts.{◌⋅◌}
use Rattle.ert_scenario.specs.declared.scenario.ScenarioErr.{ScenarioErr, TheVariants.{Json, Shape, Range, Limit, NoMemory}}

-- the line of a refusal
abbrev pub refusal_line : ScenarioErr → List ℕ
refusal_line Json = codes "refused json\n"
refusal_line (Shape place) = codes "refused shape " ⋅ decimal place ⋅ codes "\n"
refusal_line (Range place) = codes "refused range " ⋅ decimal place ⋅ codes "\n"
refusal_line (Limit place) = codes "refused limit " ⋅ decimal place ⋅ codes "\n"
refusal_line NoMemory = []

-- the line of a faulty command line
abbrev pub usage_line : List ℕ
usage_line = codes "usage: ertime run | race | live N | stress SEED N\n"
