use Rattle.std.proofs.Common.{rules, ◌≡◌}
use Rattle.ert_defs.specs.declared.settings.OffsetState.TheVariants.{Preliminary}
use Rattle.ert_clock.proofs.Stand.{final_from}
use Rattle.ert_clock.proofs.clock.Clock.finalize.Goals as goal

pub returns-in_ok-moved-clause-stands : goal.returns-in_ok-moved-clause-stands
returns-in_ok-moved-clause-stands c =
    let from : c.state-state.result ≡ Preliminary = search rules in
    final_from c.args.self.now c.args.reading c.state-state.result c.in_ok-moved.moved c.step.new.self
    c.state-state.ensures from c.in_ok-moved.ensures
