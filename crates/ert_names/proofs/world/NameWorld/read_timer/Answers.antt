use Rattle.std.specs.Prelude.{length}
use Rattle.ert_effects.specs.TimerCalls.{Reads}
use Rattle.ert_defs.specs.declared.entry.Actor.TheVariants.{Caller}
use Rattle.ert_names.proofs.{Fitting.reads_fit, Living.names_by}
use Rattle.ert_names.proofs.world.NameWorld.read_timer.Goals as goal

pub invariant_of-self : goal.invariant_of-self
invariant_of-self c =
    let n = length c.self.inside.rows.items in
    let w = c.self.inside.world in
    names_by n c.self.inside.registry w c.read_timer.new.self (λ g. Reads g (Caller 0) c.args.timer c.read_timer.result) (λ q s es. reads_fit n q w.settings (Caller 0) c.args.timer c.read_timer.result s es) c.read_timer.ensures.call c.self.invariant
