use Rattle.std.proofs.Common.{◌≡◌, ◌+◌, ℕ, Option, Some, subst}
use Rattle.ert_wheel.proofs.marked.MarkedChains.newer.Goals as goal
use Rattle.ert_wheel.specs.Rings.{Rings, Place, AreChains, FindsOldest}

pub returns-clause-finds : goal.returns-clause-finds
returns-clause-finds c =
    subst (λ (r : Rings). (places : ℕ → Option Place) (place : Place) → AreChains r places → places c.args.slot ≡ Some place
    → FindsOldest r places place.home (place.order + 1) c.newer.result) c.self.view_is c.newer.ensures.finds
