use Rattle.ert_effects.specs.RequestCalls.{Asks}
use Rattle.ert_mail.proofs.LawsHold.{asks_only}
use Rattle.ert_table.specs.Desks.{settings_of, view_of}
use Rattle.ert_table.proofs.Makings.{if_ok_made}
use Rattle.ert_world.proofs.{Calls.{inbox_called, asked_in}, Listed.kept_by, Calm.asks_calm}
use Rattle.ert_world.proofs.world.World.ask.Goals as goal

pub invariant_of-self : goal.invariant_of-self
invariant_of-self c =
    let all =
    ((inbox_called c.args.self.now c.self.inside c.deref.result.now _ c.ask.new.pass c.inbox_for-wheel.result c.index_mut.result.now c.ask.new.self (λ n g. Asks g 0 n c.args.request c.ask.result)
    c.deref.ensures c.self.view_is c.self.invariant.sound c.ask.ensures.belongs c.inbox_for-wheel.ensures.in_range c.index_mut.ensures.value c.ask.ensures.wheel c.ask.ensures.stands
    (λ legal. if_ok_made (settings_of c.deref.result.now) (view_of c.self.inside.pass) (Asks (settings_of c.deref.result.now) 0 c.index_mut.result.now.wheel c.args.request) c.ask.result (view_of c.ask.new.pass) legal c.ask.ensures.call)
    (asks_only (settings_of c.deref.result.now) 0 c.index_mut.result.now.wheel c.args.request c.ask.result) (asks_calm (settings_of c.deref.result.now) 0 c.index_mut.result.now.wheel c.args.request c.ask.result))) in
    kept_by c.self.inside c.self.inside.list c.self.view_is all.fit all.goes.grows c.self.invariant.listed

pub returns : goal.returns
returns c =
    record {
      call =
          asked_in c.args.self.now _ c.args.request c.ask.result c.inbox_for-wheel.result _ c.inbox_for-wheel.ensures.value
          (inbox_called c.args.self.now c.self.inside c.deref.result.now _ c.ask.new.pass c.inbox_for-wheel.result c.index_mut.result.now c.ask.new.self (λ n g. Asks g 0 n c.args.request c.ask.result)
          c.deref.ensures c.self.view_is c.self.invariant.sound c.ask.ensures.belongs c.inbox_for-wheel.ensures.in_range c.index_mut.ensures.value c.ask.ensures.wheel c.ask.ensures.stands
          (λ legal. if_ok_made (settings_of c.deref.result.now) (view_of c.self.inside.pass) (Asks (settings_of c.deref.result.now) 0 c.index_mut.result.now.wheel c.args.request) c.ask.result (view_of c.ask.new.pass) legal c.ask.ensures.call)
          (asks_only (settings_of c.deref.result.now) 0 c.index_mut.result.now.wheel c.args.request c.ask.result) (asks_calm (settings_of c.deref.result.now) 0 c.index_mut.result.now.wheel c.args.request c.ask.result)).goes;
    }
