use Rattle.ert_effects.specs.TimerCalls.{Reads}
use Rattle.ert_defs.specs.declared.entry.Actor.TheVariants.{Caller}
use Rattle.ert_table.specs.Desks.{settings_of}
use Rattle.ert_world.proofs.{Calm.read_quiet, Calls.alone_called, Listed.kept_by}
use Rattle.ert_world.proofs.world.World.read_timer.Goals as goal

pub invariant_of-self : goal.invariant_of-self
invariant_of-self c =
    let all =
    ((alone_called c.args.self.now c.self.inside c.deref.result.now _ c.read_timer.new.self (λ g. Reads g (Caller 0) c.args.timer c.read_timer.result) c.deref.ensures c.self.view_is c.self.invariant.sound
    c.read_timer.ensures.belongs c.read_timer.ensures.call.call (read_quiet (settings_of c.deref.result.now) (Caller 0) c.args.timer c.read_timer.result))) in
    kept_by c.self.inside c.self.inside.list c.self.view_is all.fit all.goes.grows c.self.invariant.listed

pub returns : goal.returns
returns c =
    record {
      call =
          (alone_called c.args.self.now c.self.inside c.deref.result.now _ c.read_timer.new.self (λ g. Reads g (Caller 0) c.args.timer c.read_timer.result) c.deref.ensures c.self.view_is c.self.invariant.sound
          c.read_timer.ensures.belongs c.read_timer.ensures.call.call (read_quiet (settings_of c.deref.result.now) (Caller 0) c.args.timer c.read_timer.result)).goes;
    }
