use Rattle.std.proofs.Common.{◌≡◌, ◌+◌, None, Some, rules, sym, ap}
use Rattle.ert_defs.specs.declared.entry.Actor.TheVariants.{Caller}
use Rattle.ert_effects.specs.TimerCalls.{Cancels}
use Rattle.ert_shard.proofs.{Called.{alone_called, lost, wheel_replaced}, Gone.{gone, named_stands, named_over}}
use Rattle.ert_shard.specs.Shards.{Owned, ShardBy, share_of, shard_parts_of}
use Rattle.ert_table.specs.Desks.{settings_of}
use Rattle.ert_world.proofs.Cancelled.{cancel_only}
use Rattle.ert_shard.proofs.shard.Shard.cancel_timer.Goals as goal

pub invariant_of-self : goal.invariant_of-self
invariant_of-self c =
    let b = c.self.inside in
    let s = share_of b.number b.from b.to in
    let does = alone_called c.args.self.now c.deref.result.now _ b.pass c.cancel_timer.new.self s (shard_parts_of b.wheel b.inbox b.sched b.mails.items b.list)
    (λ m g. Cancels g (Caller (m + 1)) c.args.timer (None)) c.deref.ensures c.self.view_is c.self.invariant c.in_err-left.ensures.belongs c.in_err-left.ensures.call.call
    (cancel_only (settings_of c.deref.result.now) (Caller (b.number + 1)) c.args.timer (None)) in
    does.fit

pub returns-in_err-left : goal.returns-in_err-left
returns-in_err-left c =
    let b = c.self.inside in
    let s = share_of b.number b.from b.to in
    let does = alone_called c.args.self.now c.deref.result.now _ b.pass c.cancel_timer.new.self s (shard_parts_of b.wheel b.inbox b.sched b.mails.items b.list)
    (λ m g. Cancels g (Caller (m + 1)) c.args.timer (None)) c.deref.ensures c.self.view_is c.self.invariant c.in_err-left.ensures.belongs c.in_err-left.ensures.call.call
    (cancel_only (settings_of c.deref.result.now) (Caller (b.number + 1)) c.args.timer (None)) in
    let result : c.from_residual.result ≡ None = search rules in
    rw result (record { call = does.steps; forgotten = tt })

pub forget-requires-clause-stands : goal.forget-requires-clause-stands
forget-requires-clause-stands c =
    let b = c.self.inside in
    let s = share_of b.number b.from b.to in
    let does = alone_called c.args.self.now c.deref.result.now _ b.pass c.cancel_timer.new.self s (shard_parts_of b.wheel b.inbox b.sched b.mails.items b.list)
    (λ m g. Cancels g (Caller (m + 1)) c.args.timer (Some c.in_ok-left.left)) c.deref.ensures c.self.view_is c.self.invariant c.in_ok-left.ensures.belongs c.in_ok-left.ensures.call.call
    (cancel_only (settings_of c.deref.result.now) (Caller (b.number + 1)) c.args.timer (Some c.in_ok-left.left)) in
    named_stands _ c.cancel_timer.new.self s (shard_parts_of b.wheel b.inbox b.sched b.mails.items b.list) does.fit

pub forget-requires-clause-last : goal.forget-requires-clause-last
forget-requires-clause-last c =
    let b = c.self.inside in
    let s = share_of b.number b.from b.to in
    let does = alone_called c.args.self.now c.deref.result.now _ b.pass c.cancel_timer.new.self s (shard_parts_of b.wheel b.inbox b.sched b.mails.items b.list)
    (λ m g. Cancels g (Caller (m + 1)) c.args.timer (Some c.in_ok-left.left)) c.deref.ensures c.self.view_is c.self.invariant c.in_ok-left.ensures.belongs c.in_ok-left.ensures.call.call
    (cancel_only (settings_of c.deref.result.now) (Caller (b.number + 1)) c.args.timer (Some c.in_ok-left.left)) in
    let over = gone c.deref.result.now _ b.pass c.cancel_timer.new.self s (shard_parts_of b.wheel b.inbox b.sched b.mails.items b.list) c.args.timer c.in_ok-left.left c.deref.ensures c.self.invariant
    (c.if-timer-self.true) c.in_ok-left.ensures.call.call in
    over.last

pub forget-requires-clause-settled : goal.forget-requires-clause-settled
forget-requires-clause-settled c =
    let b = c.self.inside in
    let s = share_of b.number b.from b.to in
    let does = alone_called c.args.self.now c.deref.result.now _ b.pass c.cancel_timer.new.self s (shard_parts_of b.wheel b.inbox b.sched b.mails.items b.list)
    (λ m g. Cancels g (Caller (m + 1)) c.args.timer (Some c.in_ok-left.left)) c.deref.ensures c.self.view_is c.self.invariant c.in_ok-left.ensures.belongs c.in_ok-left.ensures.call.call
    (cancel_only (settings_of c.deref.result.now) (Caller (b.number + 1)) c.args.timer (Some c.in_ok-left.left)) in
    let over = gone c.deref.result.now _ b.pass c.cancel_timer.new.self s (shard_parts_of b.wheel b.inbox b.sched b.mails.items b.list) c.args.timer c.in_ok-left.left c.deref.ensures c.self.invariant
    (c.if-timer-self.true) c.in_ok-left.ensures.call.call in
    named_over c.deref.result.now c.cancel_timer.new.self (shard_parts_of b.wheel b.inbox b.sched b.mails.items b.list) c.args.timer c.cancel_timer.ensures.belongs over

pub invariant_of-self-then-timer-self : goal.invariant_of-self-then-timer-self
invariant_of-self-then-timer-self c =
    let b = c.self.inside in
    let s = share_of b.number b.from b.to in
    let does = alone_called c.args.self.now c.deref.result.now _ b.pass c.cancel_timer.new.self s (shard_parts_of b.wheel b.inbox b.sched b.mails.items b.list)
    (λ m g. Cancels g (Caller (m + 1)) c.args.timer (Some c.in_ok-left.left)) c.deref.ensures c.self.view_is c.self.invariant c.in_ok-left.ensures.belongs c.in_ok-left.ensures.call.call
    (cancel_only (settings_of c.deref.result.now) (Caller (b.number + 1)) c.args.timer (Some c.in_ok-left.left)) in
    wheel_replaced _ c.cancel_timer.new.self s (shard_parts_of b.wheel b.inbox b.sched b.mails.items b.list) c.forget.new.self does.fit c.forget.ensures.number
    (c.forget.ensures.stands _ does.fit.belongs.named)

pub invariant_of-self-else-timer-self : goal.invariant_of-self-else-timer-self
invariant_of-self-else-timer-self c =
    let b = c.self.inside in
    let s = share_of b.number b.from b.to in
    let does = alone_called c.args.self.now c.deref.result.now _ b.pass c.cancel_timer.new.self s (shard_parts_of b.wheel b.inbox b.sched b.mails.items b.list)
    (λ m g. Cancels g (Caller (m + 1)) c.args.timer (Some c.in_ok-left.left)) c.deref.ensures c.self.view_is c.self.invariant c.in_ok-left.ensures.belongs c.in_ok-left.ensures.call.call
    (cancel_only (settings_of c.deref.result.now) (Caller (b.number + 1)) c.args.timer (Some c.in_ok-left.left)) in
    does.fit

pub returns-then-timer-self : goal.returns-then-timer-self
returns-then-timer-self c =
    let b = c.self.inside in
    let s = share_of b.number b.from b.to in
    let does = alone_called c.args.self.now c.deref.result.now _ b.pass c.cancel_timer.new.self s (shard_parts_of b.wheel b.inbox b.sched b.mails.items b.list)
    (λ m g. Cancels g (Caller (m + 1)) c.args.timer (Some c.in_ok-left.left)) c.deref.ensures c.self.view_is c.self.invariant c.in_ok-left.ensures.belongs c.in_ok-left.ensures.call.call
    (cancel_only (settings_of c.deref.result.now) (Caller (b.number + 1)) c.args.timer (Some c.in_ok-left.left)) in
    record {
      call = lost c.args.self.now _ (ShardBy c.args.self.now (λ g. Cancels g (Caller (c.args.self.now.share.number + 1)) c.args.timer (Some c.in_ok-left.left))) b.wheel c.forget.new.self
          (sym (ap (λ (o : Owned). o.wheel) c.self.view_is)) does.steps.goes c.forget.ensures.loses;
      forgotten = λ own held. c.forget.ensures.forgotten held;
    }

pub returns-else-timer-self : goal.returns-else-timer-self
returns-else-timer-self c =
    let b = c.self.inside in
    let s = share_of b.number b.from b.to in
    let does = alone_called c.args.self.now c.deref.result.now _ b.pass c.cancel_timer.new.self s (shard_parts_of b.wheel b.inbox b.sched b.mails.items b.list)
    (λ m g. Cancels g (Caller (m + 1)) c.args.timer (Some c.in_ok-left.left)) c.deref.ensures c.self.view_is c.self.invariant c.in_ok-left.ensures.belongs c.in_ok-left.ensures.call.call
    (cancel_only (settings_of c.deref.result.now) (Caller (b.number + 1)) c.args.timer (Some c.in_ok-left.left)) in
    record { call = does.steps; forgotten = λ own held. absurd (c.if-timer-self.false own) }
