-- What was written of a text.

use Rattle.std.specs.Prelude.{◌≡◌, ℕ, List, ◌++◌}
use Rattle.ert_io.specs.Told.{SinkTold, took}

-- of what waited to be written the first part was, and this still waits
pub record WritesWaiting (old new : SinkTold) (waiting left : List ℕ) : Type 0 where
  pub part : List ℕ
  pub took : new ≡ took old part
  pub whole : part ++ left ≡ waiting
