use Rattle.std.proofs.Common.{◌≡◌, ℕ, vec_capacity}
use Rattle.ert_wheel.proofs.{Steps.left_newer, Collecting.IsCollecting}
use Rattle.ert_wheel.proofs.walk.collect.Given as goal
use Rattle.ert_wheel.specs.{Rings.Place, Walks.MayCollect, Wheels.held_keys, declared.row.Key.Key}

pub record Walks (capacity start : ℕ) (walked : Type 0) : Type 0 where
  pub room : capacity ≡ start
  pub walks : walked

abbrev pub invariant-loop-next : goal.invariant-loop-next
invariant-loop-next g l =
    Walks (vec_capacity l.rows) (vec_capacity l.fn.rows)
    ((spot : Key → Place) → MayCollect l.chains (held_keys l.chains l.kept.keys) spot l.bucket l.to l.fn.rows.items
    → IsCollecting (held_keys l.chains l.kept.keys) spot l.bucket l.to l.next l.fn.rows.items l.rows.items)

abbrev pub decreases-loop-next : goal.decreases-loop-next
decreases-loop-next g l = left_newer l.chains l.next
