-- What the plain service leaves of the timers.

use Rattle.std.specs.Prelude.{List, [], ◌∷◌}
use Rattle.ert_defs.specs.{States.{State, opening, run}, declared.settings.Settings.Settings}
use Rattle.ert_laws.specs.Counts.{Counts, counts_of}
use Rattle.ert_ops.specs.{declared.op.Op.Op, Plain.op_piece, Labels.Labels, Scripts.labels_after}

-- the plain service after ops, from a state and labels on
abbrev pub plain_after : Settings → State → Labels → List Op → State
plain_after g s ls [] = s
plain_after g s ls (op ∷ ops) = plain_after g (run g s (op_piece g s ls op).entries) (labels_after ls op (op_piece g s ls op).reply) ops

-- what a list of ops leaves of its timers
abbrev pub plain_counts : Settings → List Op → Counts
plain_counts g ops = counts_of g (plain_after g (opening g) [] ops)
