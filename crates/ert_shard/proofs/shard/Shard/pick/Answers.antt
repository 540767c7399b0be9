use Rattle.std.proofs.Common.{◌≡◌, refl, subst}
use Rattle.ert_defs.specs.States.{sched_of}
use Rattle.ert_shard.proofs.{Called.has_at, Requested.{picked, hand_picked}}
use Rattle.ert_shard.specs.Shards.{share_of, shard_parts_of}
use Rattle.ert_table.specs.{Desks.{settings_of, front_of}, declared.desk.Desk.Desk}
use Rattle.ert_timers.specs.declared.sched_part.SchedPart.{SchedPart}
use Rattle.ert_shard.proofs.shard.Shard.pick.Goals as goal

pub invariant_of-self : goal.invariant_of-self
invariant_of-self c =
    let b = c.self.inside in
    let s = share_of b.number b.from b.to in
    let x : SchedPart = record { wheel = b.sched.wheel; hand = c.pick-got.result; expired = b.sched.expired } in
    (picked c.args.self.now c.deref.result.now _ b.pass c.pick-got.new.pass s (shard_parts_of b.wheel b.inbox b.sched b.mails.items b.list) c.pick-got.new.self c.pick-got.result x
    c.deref.ensures c.self.view_is c.self.invariant c.pick-got.ensures.belongs c.pick-got.ensures.wheel c.pick-got.ensures.stands c.pick-got.ensures.call c.pick-got.ensures.sched refl refl refl).fit

pub returns-clause-call : goal.returns-clause-call
returns-clause-call c =
    let b = c.self.inside in
    let s = share_of b.number b.from b.to in
    let x : SchedPart = record { wheel = b.sched.wheel; hand = c.pick-got.result; expired = b.sched.expired } in
    (picked c.args.self.now c.deref.result.now _ b.pass c.pick-got.new.pass s (shard_parts_of b.wheel b.inbox b.sched b.mails.items b.list) c.pick-got.new.self c.pick-got.result x
    c.deref.ensures c.self.view_is c.self.invariant c.pick-got.ensures.belongs c.pick-got.ensures.wheel c.pick-got.ensures.stands c.pick-got.ensures.call c.pick-got.ensures.sched refl refl refl).steps

pub returns-clause-hand : goal.returns-clause-hand
returns-clause-hand c =
    let b = c.self.inside in
    let s = share_of b.number b.from b.to in
    let parts = shard_parts_of b.wheel b.inbox b.sched b.mails.items b.list in
    subst (λ (d : Desk). (sched_of (settings_of d) (front_of c.pick-got.new.pass) b.number).hand ≡ c.pick-got.result) c.deref.ensures
    (hand_picked c.deref.result.now b.pass c.pick-got.new.pass s parts c.pick-got.result (has_at c.deref.ensures c.self.view_is c.self.invariant).fit c.pick-got.ensures.sched)
