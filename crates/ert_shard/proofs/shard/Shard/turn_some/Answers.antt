use Rattle.std.proofs.Common.{◌≡◌, Bool, ◌||◌, Ok, Err, inl, rules, sym, ap, subst, ◌∙◌}
use Rattle.ert_shard.proofs.{MoreLeft.{delivered_rest, done_most, more_left, waits_left}, Stepped.{turned_up_to, some_unserved, some_unadvanced, some_undelivered}}
use Rattle.ert_shard.specs.{Shards.{ShardSteps, shard_way}, Turning.{IsMoreLeft, TurnsUpTo}, declared.turns.Turn.Turn}
use Rattle.ert_world.proofs.{Bounding.delivered_most, MoreLeft.left_kept}
use Rattle.ert_shard.proofs.shard.Shard.turn_some.Goals as goal

pub returns-in_err-served-clause-call : goal.returns-in_err-served-clause-call
returns-in_err-served-clause-call c =
    let result : c.from_residual.result ≡ Err c.in_err-served.field-0.0 = search rules in
    rw result (some_unserved c.args.most c.args.self.now c.serve_all.new.self c.in_err-served.field-0.0 c.in_err-served.ensures)

pub returns-in_err-to-clause-call : goal.returns-in_err-to-clause-call
returns-in_err-to-clause-call c =
    let result : c.from_residual-in_err-to.result ≡ Err c.in_err-to.field-0.0 = search rules in
    rw result (some_unadvanced c.args.most c.args.self.now c.serve_all.new.self c.advance_some.new.self c.in_ok-served.served c.in_err-to.field-0.0 c.in_ok-served.ensures c.in_err-to.ensures.call)

pub returns-in_err-put-clause-call : goal.returns-in_err-put-clause-call
returns-in_err-put-clause-call c =
    let result : c.from_residual-in_err-put.result ≡ Err c.in_err-put.field-0.0 = search rules in
    rw result (some_undelivered c.args.most c.args.self.now c.serve_all.new.self c.advance_some.new.self c.deliver_some.new.self c.in_ok-served.served (c.in_ok-to.to, c.in_ok-to.expired, c.in_ok-to.left) c.in_err-put.field-0.0
    c.in_ok-served.ensures c.in_ok-to.ensures.call c.in_err-put.ensures.call)

pub returns-then-is_more-clause-call : goal.returns-then-is_more-clause-call
returns-then-is_more-clause-call c =
    let a = c.args.self.now in
    let e = c.deliver_some.new.self in
    let t : Turn = record { served = c.in_ok-served.served; to = c.in_ok-to.to; expired = c.in_ok-to.expired; put = c.in_ok-put.put; dropped = c.in_ok-put.dropped } in
    subst (λ (more : Bool). ShardSteps a (λ way. TurnsUpTo a.settings way a.share c.args.most (Ok (t, more))) e)
    (ap (λ (more : Bool). more || c.in_ok-put.waits) (sym c.is_more.ensures ∙ c.if-is_more.true) ∙ sym c.if-is_more.true)
    (turned_up_to c.args.most a c.serve_all.new.self c.advance_some.new.self e t c.in_ok-to.left c.in_ok-put.waits c.in_ok-served.ensures c.in_ok-to.ensures.call c.in_ok-put.ensures.call)

pub returns-else-is_more-clause-call : goal.returns-else-is_more-clause-call
returns-else-is_more-clause-call c =
    let a = c.args.self.now in
    let e = c.deliver_some.new.self in
    let t : Turn = record { served = c.in_ok-served.served; to = c.in_ok-to.to; expired = c.in_ok-to.expired; put = c.in_ok-put.put; dropped = c.in_ok-put.dropped } in
    subst (λ (more : Bool). ShardSteps a (λ way. TurnsUpTo a.settings way a.share c.args.most (Ok (t, more))) e)
    (ap (λ (more : Bool). more || c.in_ok-put.waits) (sym c.is_more.ensures ∙ c.if-is_more.false))
    (turned_up_to c.args.most a c.serve_all.new.self c.advance_some.new.self e t c.in_ok-to.left c.in_ok-put.waits c.in_ok-served.ensures c.in_ok-to.ensures.call c.in_ok-put.ensures.call)

pub returns-then-is_more-clause-left : goal.returns-then-is_more-clause-left
returns-then-is_more-clause-left c =
    let d = c.advance_some.new.self in
    let e = c.deliver_some.new.self in
    subst (IsMoreLeft e c.in_ok-to.to) (sym c.if-is_more.true)
    (more_left e c.in_ok-to.to c.in_ok-to.left (sym c.is_more.ensures ∙ c.if-is_more.true)
    (left_kept d.wheel e.wheel c.in_ok-to.to c.in_ok-to.left c.deliver_some.ensures.kept c.in_ok-to.ensures.left))

pub returns-else-is_more-clause-left : goal.returns-else-is_more-clause-left
returns-else-is_more-clause-left c =
    let d = c.advance_some.new.self in
    let e = c.deliver_some.new.self in
    waits_left e c.in_ok-to.to c.args.most _ c.in_ok-to.left c.in_ok-put.waits (sym c.is_more.ensures ∙ c.if-is_more.false)
    (left_kept d.wheel e.wheel c.in_ok-to.to c.in_ok-to.left c.deliver_some.ensures.kept c.in_ok-to.ensures.left)
    (delivered_rest d e c.args.most (c.in_ok-put.put, c.in_ok-put.dropped, c.in_ok-put.waits) c.in_ok-put.ensures.call)

pub returns-then-is_more-clause-done : goal.returns-then-is_more-clause-done
returns-then-is_more-clause-done c = λ more.
    let d = c.advance_some.new.self in
    let e = c.deliver_some.new.self in
    let t : Turn = record { served = c.in_ok-served.served; to = c.in_ok-to.to; expired = c.in_ok-to.expired; put = c.in_ok-put.put; dropped = c.in_ok-put.dropped } in
    done_most c.args.self.now.wheel c.serve_all.new.self.wheel d.wheel e.wheel c.args.most t c.in_ok-to.left (sym c.is_more.ensures ∙ c.if-is_more.true)
    c.in_ok-served.ensures.rows c.in_ok-to.ensures.fewer c.in_ok-put.ensures.call.rows
    (left_kept d.wheel e.wheel c.in_ok-to.to c.in_ok-to.left c.deliver_some.ensures.kept c.in_ok-to.ensures.left)

pub returns-else-is_more-clause-done : goal.returns-else-is_more-clause-done
returns-else-is_more-clause-done c = λ more.
    let b = c.advance_some.new.self in
    let grows = c.in_ok-put.ensures.call.goes.grows in
    inl (delivered_most b.settings (shard_way b) b.share.number c.args.most (c.in_ok-put.put, c.in_ok-put.dropped, c.in_ok-put.waits) b.history grows.piece grows.made more)
