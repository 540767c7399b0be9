use Rattle.std.proofs.Common.{rules}
use Rattle.ert_defs.specs.declared.entry.Act.{Act}
use Rattle.ert_clock.specs.Ticks.{act_of, Gives}
use Rattle.ert_clock.proofs.Stand.{ticks_by, may_act}
use Rattle.ert_clock.proofs.clock.Clock.tick.Goals as goal

pub returns-clause-stands : goal.returns-clause-stands
returns-clause-stands c =
    let act : Act = act_of c.args.force in
    let gives : Gives c.args.self.now c.args.reading act c.step.result c.step.new.self = search rules in
    ticks_by c.args.self.now c.args.reading act c.step.result c.step.new.self
    (may_act c.args.force c.args.self.now.face.state) gives
