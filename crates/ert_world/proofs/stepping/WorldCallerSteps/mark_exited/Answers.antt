use Rattle.std.proofs.Common.{[], sym, subst}
use Rattle.ert_effects.specs.{WheelCalls.MarksExit, Ways.Grows}
use Rattle.ert_defs.specs.declared.entry.Actor.TheVariants.{Caller}
use Rattle.ert_world.specs.Worlds.{way_of}
use Rattle.ert_world.proofs.stepping.WorldCallerSteps.mark_exited.Goals as goal

pub returns-clause-call : goal.returns-clause-call
returns-clause-call c =
    let a = c.args.self.now in
    subst (λ n. Grows ((way_of a) [] (MarksExit a.settings (Caller n) c.args.process c.mark_exit.result)) a.history c.mark_exit.new.self.history) (sym c.requires.acts) c.mark_exit.ensures.call.grows

pub returns-clause-stays : goal.returns-clause-stays
returns-clause-stays c = c.mark_exit.ensures.stays
