use Rattle.std.specs.Prelude.{length}
use Rattle.ert_effects.specs.TimerCalls.{Starts}
use Rattle.ert_names.proofs.{Fitting.starts_fit, Living.names_by}
use Rattle.ert_names.proofs.world.NameWorld.start.Goals as goal

pub invariant_of-self : goal.invariant_of-self
invariant_of-self c =
    let n = length c.self.inside.rows.items in
    let w = c.self.inside.world in
    names_by n c.self.inside.registry w c.start.new.self (λ g. Starts g 0 c.args.wheel c.args.start.now c.start.result) (λ q s es. starts_fit n q w.settings 0 c.args.wheel c.args.start.now c.start.result s es (λ is. absurd (c.requires.not_registrar is))) c.start.ensures.call c.self.invariant
