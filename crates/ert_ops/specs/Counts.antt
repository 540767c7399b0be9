-- The line that tells how many timers of a service have which status.

use Rattle.std.specs.Prelude.{ℕ, List, codes}
use Rattle.std.specs.Fmt.{decimal}
use Rattle.ert_laws.specs.Counts.{Counts}
use Rattle.ert_ops.specs.Texts.{◌⋅◌}

-- the line of the counts
abbrev pub settled_line : Counts → List ℕ
settled_line n = codes "settled armed " ⋅ decimal n.armed ⋅ codes " expired " ⋅ decimal n.expired
    ⋅ codes " delivered " ⋅ decimal n.delivered ⋅ codes " dropped " ⋅ decimal n.dropped
    ⋅ codes " cancelled " ⋅ decimal n.cancelled ⋅ codes " orphaned " ⋅ decimal n.orphaned ⋅ codes "\n"
