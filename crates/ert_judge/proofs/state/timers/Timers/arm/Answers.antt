use Rattle.std.proofs.Common.{rules, ◌≡◌, subst}
use Rattle.ert_judge.specs.{Uses.IsNewUse, Wheels.timers_at}
use Rattle.ert_judge.proofs.state.timers.Timers.arm.Goals as goal

pub arm-requires-clause-new : goal.arm-requires-clause-new
arm-requires-clause-new c =
    let same : timers_at c.args.self.now c.args.timer.wheel ≡ c.in-Some-get_mut.wheel.now = search rules in
    subst (λ ts. IsNewUse ts c.args.timer.slot c.args.timer.generation) same c.requires.new
