-- The text of a report: the lines of the ops, then those of each list under its heading, then how many timers
-- have which status, and the time.

use Rattle.std.specs.Prelude.{ℕ, zero, suc, ℤ, List, [], ◌∷◌, ◌++◌, codes}
use Rattle.std.specs.Fmt.{decimal}
use Rattle.ert_laws.specs.Counts.{Counts}
use Rattle.ert_ops.specs.{Counts.settled_line, Labels.{Labels, label_of}, Lines.line_of, Scripts.lines_of, declared.op.Op.Op, declared.reply.Reply.Reply}
use Rattle.ert_ops.specs.Texts.{◌⋅◌, end_line}

-- what came of a list: its replies, and the labels that it bound
pub record Did : Type 0 where
  pub replies : List Reply
  pub own : Labels

-- the labels of the ops, and then those that the lists bound, list after list
abbrev pub all_labels : Labels → List Did → Labels
all_labels labels [] = labels
all_labels labels (d ∷ dids) = all_labels (labels ++ d.own) dids

-- the lines of replies, by labels
abbrev pub lines_by : Labels → List Reply → List ℕ
lines_by labels [] = []
lines_by labels (r ∷ rs) = line_of (label_of labels) r ⋅ lines_by labels rs

-- the line above the lines of a caller's list: caller 0 does the keeper list
abbrev pub heading : ℕ → List ℕ
heading zero = codes "keeper\n"
heading (suc k) = codes "caller " ⋅ decimal (suc k) ⋅ codes "\n"

-- the lists of the callers from one on, each under its heading
abbrev pub lists_text : Labels → ℕ → List Did → List ℕ
lists_text labels k [] = []
lists_text labels k (d ∷ dids) = heading k ⋅ lines_by labels d.replies ⋅ lists_text labels (suc k) dids

-- the report behind the lines of the ops; a message is printed with the label of its timer, whichever list
-- bound it
abbrev pub behind : Labels → List Did → Counts → ℤ → List ℕ
behind labels dids counts now = lists_text (all_labels labels dids) 0 dids ⋅ settled_line counts ⋅ end_line now

-- the report: the lines of the ops; `keeper` and the lines of the clock's list; `caller K` and the lines of
-- each caller's list; the counts of all timers by status, and the time. Messages are printed with the labels
-- of all lists
abbrev pub report : List Op → List Reply → Labels → List Did → Counts → ℤ → List ℕ
report ops replies labels dids counts now = lines_of [] ops replies ⋅ behind labels dids counts now
