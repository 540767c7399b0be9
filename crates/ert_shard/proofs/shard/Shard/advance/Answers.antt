use Rattle.std.proofs.Common.{◌≡◌, Err, rules, refl, arith}
use Rattle.ert_shard.proofs.{Called.{did_at, has_at}, TriedHeld.shard_tries_held, Turned.{advance_ok, advance_refused}}
use Rattle.ert_shard.specs.Shards.{share_of, shard_parts_of}
use Rattle.ert_table.specs.Desks.{settings_of, view_of}
use Rattle.ert_timers.proofs.SchedParts.{advance_fits}
use Rattle.ert_timers.specs.declared.sched_part.SchedPart.{SchedPart}
use Rattle.ert_shard.proofs.shard.Shard.advance.Goals as goal

pub invariant_of-self : goal.invariant_of-self
invariant_of-self c =
    let b = c.self.inside in
    let s = share_of b.number b.from b.to in
    let parts = shard_parts_of b.wheel b.inbox b.sched b.mails.items b.list in
    let x : SchedPart = record { wheel = b.sched.wheel; hand = b.sched.hand; expired = c.advance.new.expired } in
    (did_at c.deref.ensures (advance_refused c.args.self.now c.deref.result.now b.pass c.advance.new.pass s c.in_err-to.field-0.0 parts c.advance.new.self x
    (has_at c.deref.ensures c.self.view_is c.self.invariant) c.advance.ensures.belongs c.advance.ensures.number c.advance.ensures.stands c.advance.ensures.loses c.in_err-to.ensures.call refl refl)).fit

pub returns-in_err-to : goal.returns-in_err-to
returns-in_err-to c =
    let b = c.self.inside in
    let s = share_of b.number b.from b.to in
    let parts = shard_parts_of b.wheel b.inbox b.sched b.mails.items b.list in
    let x : SchedPart = record { wheel = b.sched.wheel; hand = b.sched.hand; expired = c.advance.new.expired } in
    let result : c.from_residual.result ≡ Err c.in_err-to.field-0.0 = search rules in
    rw result (record {
      call = (did_at c.deref.ensures (advance_refused c.args.self.now c.deref.result.now b.pass c.advance.new.pass s c.in_err-to.field-0.0 parts c.advance.new.self x
          (has_at c.deref.ensures c.self.view_is c.self.invariant) c.advance.ensures.belongs c.advance.ensures.number c.advance.ensures.stands c.advance.ensures.loses c.in_err-to.ensures.call refl refl)).steps;
      passed = tt;
      held = tt;
    })

pub overflow_cast-result : goal.overflow_cast-result
overflow_cast-result c =
    let g = settings_of c.deref.result.now in
    let few = advance_fits g c.self.inside.wheel.number c.in_ok-to.to c.len.result c.len-before.result
    c.self.inside.sched.expired c.advance.new.expired (view_of c.self.inside.pass) (view_of c.advance.new.pass)
    c.deref.result.now.checked.counts.slots_high c.in_ok-to.ensures.call c.len.ensures c.len-before.ensures in
    omega (arith, few.1)

pub invariant_of-self-2 : goal.invariant_of-self-2
invariant_of-self-2 c =
    let b = c.self.inside in
    let s = share_of b.number b.from b.to in
    let parts = shard_parts_of b.wheel b.inbox b.sched b.mails.items b.list in
    let x : SchedPart = record { wheel = b.sched.wheel; hand = b.sched.hand; expired = c.advance.new.expired } in
    (did_at c.deref.ensures (advance_ok c.args.self.now c.deref.result.now b.pass c.advance.new.pass s c.in_ok-to.to c.len.result c.len-before.result parts c.advance.new.self x
    (has_at c.deref.ensures c.self.view_is c.self.invariant) c.advance.ensures.belongs c.advance.ensures.number c.advance.ensures.stands c.advance.ensures.loses c.in_ok-to.ensures.call refl refl c.len.ensures c.len-before.ensures)).fit

pub returns : goal.returns
returns c =
    let b = c.self.inside in
    let s = share_of b.number b.from b.to in
    let parts = shard_parts_of b.wheel b.inbox b.sched b.mails.items b.list in
    let x : SchedPart = record { wheel = b.sched.wheel; hand = b.sched.hand; expired = c.advance.new.expired } in
    record {
      call = (did_at c.deref.ensures (advance_ok c.args.self.now c.deref.result.now b.pass c.advance.new.pass s c.in_ok-to.to c.len.result c.len-before.result parts c.advance.new.self x
          (has_at c.deref.ensures c.self.view_is c.self.invariant) c.advance.ensures.belongs c.advance.ensures.number c.advance.ensures.stands c.advance.ensures.loses c.in_ok-to.ensures.call refl refl c.len.ensures c.len-before.ensures)).steps;
      passed = c.in_ok-to.ensures.passed;
      held = shard_tries_held c.args.self.now c.deref.result.now _ b.pass c.advance.new.pass s c.in_ok-to.to parts c.advance.new.self x c.deref.ensures c.self.view_is c.self.invariant
          c.advance.ensures.belongs c.advance.ensures.number c.advance.ensures.stands c.advance.ensures.loses c.in_ok-to.ensures.call refl refl c.in_ok-to.ensures.held;
    }
