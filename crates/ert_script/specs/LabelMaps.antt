-- What is found of labels and of timers.

use Rattle.std.specs.Prelude.{◌≡◌, ℕ, cond, nat_eq, [], ◌∷◌, Option, Some, None}
use Rattle.ert_script.specs.Keys.{key_of_timer}
use Rattle.ert_defs.specs.{Timers.same_timer, declared.timer.TimerRef.TimerRef}
use Rattle.ert_ops.specs.Labels.{Labels}

-- the reference of the first pair with a label
abbrev pub first_ref : Labels → ℕ → Option TimerRef
first_ref [] l = None
first_ref (p ∷ ps) l = cond (nat_eq p.0 l) (Some p.1) (first_ref ps l)

-- the label of the first pair with a reference
abbrev pub first_label : Labels → TimerRef → Option ℕ
first_label [] r = None
first_label (p ∷ ps) r = cond (same_timer p.1 r) (Some p.0) (first_label ps r)

-- what is found at a label, and what at the key of a reference, is of a list of labels: of each the first pair
pub record AreFound (ls : Labels) (references : ℕ → Option TimerRef) (labels : ℕ × ℕ × ℕ → Option ℕ) : Type 0 where
  pub of_label : (l : ℕ) → references l ≡ first_ref ls l
  pub of_timer : (r : TimerRef) → labels (key_of_timer r) ≡ first_label ls r
