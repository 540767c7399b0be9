use Rattle.std.proofs.Common.{ℕ, ◌<◌, IfSome, sym, subst}
use Rattle.ert_timers.specs.Parts.{Part}
use Rattle.ert_timers.proofs.part.WheelPart.go_on.Goals as goal
use Rattle.ert_wheel.specs.Rows.{key_in}

pub pass-requires : goal.pass-requires
pass-requires c = subst (λ (p : Part). (slot : ℕ) → IfSome (key_in p.keys slot) (λ key. c.args.to < key.deadline)) (sym c.self.view_is) c.requires
