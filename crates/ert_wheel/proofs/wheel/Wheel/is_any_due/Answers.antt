use Rattle.std.proofs.Common.{ℕ, ap, subst}
use Rattle.std.specs.Prelude.{MatchBool}
use Rattle.ert_wheel.proofs.{Reaching.any_due, Standing.wheel_stands, Writes.{sees, passed_of}}
use Rattle.ert_wheel.proofs.wheel.Wheel.is_any_due.Goals as goal
use Rattle.ert_wheel.specs.FirstDue.{NoRowDue, SomeRowDue}

pub returns : goal.returns
returns g c =
    let keys = c.args.self.now.keys in
    let look = wheel_stands (sees c.self.invariant.rows c.self.view_is).wheel in
    subst (λ (n : ℕ). MatchBool c.is_some.result (SomeRowDue keys n) (NoRowDue keys n)) (ap passed_of c.self.view_is)
    (any_due look.stand c.newest.result c.is_some.result c.is_some.ensures c.bucket_of_window-home.ensures.is c.newest.ensures.finds)
