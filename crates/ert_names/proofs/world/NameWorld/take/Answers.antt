use Rattle.std.specs.Prelude.{length}
use Rattle.ert_effects.specs.MailCalls.{Takes}
use Rattle.ert_names.proofs.{Fitting.takes_fit, Living.names_by}
use Rattle.ert_names.proofs.world.NameWorld.take.Goals as goal

pub invariant_of-self : goal.invariant_of-self
invariant_of-self c =
    let n = length c.self.inside.rows.items in
    let w = c.self.inside.world in
    names_by n c.self.inside.registry w c.take.new.self (λ g. Takes g 0 c.args.process c.take.result) (λ q s es. takes_fit n q w.settings 0 c.args.process c.take.result s es) c.take.ensures.call c.self.invariant
