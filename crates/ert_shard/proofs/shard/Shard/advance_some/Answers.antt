use Rattle.std.proofs.Common.{◌≡◌, Err, rules, refl, arith}
use Rattle.ert_shard.proofs.{Called.{did_at, has_at}, Turned.{some_ok, some_refused}}
use Rattle.ert_shard.specs.Shards.{share_of, shard_parts_of}
use Rattle.ert_table.specs.Desks.{settings_of, view_of}
use Rattle.ert_timers.proofs.SchedParts.{count_fits}
use Rattle.ert_timers.specs.declared.sched_part.SchedPart.{SchedPart}
use Rattle.ert_shard.proofs.shard.Shard.advance_some.Goals as goal

pub invariant_of-self : goal.invariant_of-self
invariant_of-self c =
    let b = c.self.inside in
    let s = share_of b.number b.from b.to in
    let parts = shard_parts_of b.wheel b.inbox b.sched b.mails.items b.list in
    let x : SchedPart = record { wheel = b.sched.wheel; hand = b.sched.hand; expired = c.advance_some.new.expired } in
    (did_at c.deref.ensures (some_refused c.args.self.now c.deref.result.now b.pass c.advance_some.new.pass s c.args.most c.in_err-to.field-0.0 parts c.advance_some.new.self x
    (has_at c.deref.ensures c.self.view_is c.self.invariant) c.advance_some.ensures.belongs c.advance_some.ensures.number c.advance_some.ensures.stands
    c.advance_some.ensures.loses c.in_err-to.ensures.call refl refl)).fit

pub returns-in_err-to-clause-call : goal.returns-in_err-to-clause-call
returns-in_err-to-clause-call c =
    let b = c.self.inside in
    let s = share_of b.number b.from b.to in
    let parts = shard_parts_of b.wheel b.inbox b.sched b.mails.items b.list in
    let x : SchedPart = record { wheel = b.sched.wheel; hand = b.sched.hand; expired = c.advance_some.new.expired } in
    let result : c.from_residual.result ≡ Err c.in_err-to.field-0.0 = search rules in
    rw result (did_at c.deref.ensures (some_refused c.args.self.now c.deref.result.now b.pass c.advance_some.new.pass s c.args.most c.in_err-to.field-0.0 parts c.advance_some.new.self x
    (has_at c.deref.ensures c.self.view_is c.self.invariant) c.advance_some.ensures.belongs c.advance_some.ensures.number c.advance_some.ensures.stands
    c.advance_some.ensures.loses c.in_err-to.ensures.call refl refl)).steps

pub overflow_cast-result : goal.overflow_cast-result
overflow_cast-result c =
    let g = settings_of c.deref.result.now in
    let is = c.in_ok-to.ensures.call in
    let few = count_fits g c.self.inside.wheel.number c.len.result c.len-before.result is.gained
    c.self.inside.sched.expired c.advance_some.new.expired (view_of c.self.inside.pass) (view_of c.advance_some.new.pass)
    c.deref.result.now.checked.counts.slots_high is.call.call.legal is.expired is.waits c.len.ensures c.len-before.ensures in
    omega (arith, few.1)

pub invariant_of-self-2 : goal.invariant_of-self-2
invariant_of-self-2 c =
    let b = c.self.inside in
    let s = share_of b.number b.from b.to in
    let parts = shard_parts_of b.wheel b.inbox b.sched b.mails.items b.list in
    let x : SchedPart = record { wheel = b.sched.wheel; hand = b.sched.hand; expired = c.advance_some.new.expired } in
    (did_at c.deref.ensures (some_ok c.args.self.now c.deref.result.now b.pass c.advance_some.new.pass s c.args.most c.in_ok-to.to c.len.result c.len-before.result c.in_ok-to.left parts
    c.advance_some.new.self x (has_at c.deref.ensures c.self.view_is c.self.invariant) c.advance_some.ensures.belongs c.advance_some.ensures.number c.advance_some.ensures.stands
    c.advance_some.ensures.loses c.in_ok-to.ensures.call refl refl c.len.ensures c.len-before.ensures)).fit

pub returns-clause-call : goal.returns-clause-call
returns-clause-call c =
    let b = c.self.inside in
    let s = share_of b.number b.from b.to in
    let parts = shard_parts_of b.wheel b.inbox b.sched b.mails.items b.list in
    let x : SchedPart = record { wheel = b.sched.wheel; hand = b.sched.hand; expired = c.advance_some.new.expired } in
    (did_at c.deref.ensures (some_ok c.args.self.now c.deref.result.now b.pass c.advance_some.new.pass s c.args.most c.in_ok-to.to c.len.result c.len-before.result c.in_ok-to.left parts
    c.advance_some.new.self x (has_at c.deref.ensures c.self.view_is c.self.invariant) c.advance_some.ensures.belongs c.advance_some.ensures.number c.advance_some.ensures.stands
    c.advance_some.ensures.loses c.in_ok-to.ensures.call refl refl c.len.ensures c.len-before.ensures)).steps
