use Rattle.ert_wheel.proofs.Writes.{sees}
use Rattle.ert_wheel.proofs.wheel.Wheel.first_kept.Goals as goal

pub first_at-requires : goal.first_at-requires
first_at-requires g c = record { before = λ slot key has. (sees c.self.invariant.rows c.self.view_is).above slot key has }
