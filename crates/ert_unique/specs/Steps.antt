-- What a draw tells.

use Rattle.std.specs.Prelude.{◌≡◌, ℕ, ◌+◌, ◌*◌, ◌^◌, ◌<◌, ◌≤◌, []}
use Rattle.atomic_table.specs.Table.{Me}
use Rattle.ert_unique.specs.{Views.drew, declared.view.View.View}

-- a pass drew a number: it is greater than all that the pass had seen, and within the draws of all passes
pub record Draws (v : View) (n : ℕ) (w : View) : Type 0 where
  pub now : w ≡ drew v n
  pub rises : v.seen < n
  pub range : n ≤ 2 ^ 40 * v.passes

-- a pass as its seat has it
abbrev pub UniqueSitter : Type 0
UniqueSitter = Me (Unit {0}) View

-- the pass found a number in the word, and drew the next one
abbrev pub DrawsNext : UniqueSitter → ℕ → UniqueSitter → Type 0
DrawsNext me found now = (now.1 ≡ []) × Draws me.0 (found + 1) now.0
