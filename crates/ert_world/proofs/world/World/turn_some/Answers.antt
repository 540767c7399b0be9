use Rattle.std.proofs.Common.{◌≡◌, ◌||◌, ℕ, Bool, Ok, Err, inl, rules, ap, subst, sym, ◌∙◌}
use Rattle.ert_effects.specs.{SomeCalls.is_more, Ways.Way, declared.answers.Turned.Turned}
use Rattle.ert_world.proofs.{Alone.goes_on, Bounding.{delivered_most, turned_some, turn_some_unserved, turn_some_unadvanced, turn_some_undelivered}, MoreLeft.{the_way, delivered_rest, done_most, left_at, more_left, waits_left}}
use Rattle.ert_world.specs.{Bounded.{IsMoreAt, TurnsSome}, Stepping.stay, Worlds.{Goes, Seen}}
use Rattle.ert_world.proofs.world.World.turn_some.Goals as goal

pub returns-in_err-served-clause-call : goal.returns-in_err-served-clause-call
returns-in_err-served-clause-call c =
    let a = c.args.self.now in
    let b = c.serve_all.new.steps in
    let e = c.in_err-served.field-0.0 in
    let result : c.from_residual.result ≡ Err e = search rules in
    rw result (goes_on a b (λ (way : Way). TurnsSome a.settings way c.args.sched c.args.most (Err e))
    (turn_some_unserved (λ (w : Seen). w.settings) (λ (w : Seen). w.history) (λ (w : Seen). w.next) the_way c.args.sched c.args.most a b e c.in_err-served.ensures.call)
    c.serve_all.ensures.legal c.serve_all.ensures.stays)

pub returns-in_err-to-clause-call : goal.returns-in_err-to-clause-call
returns-in_err-to-clause-call c =
    let a = c.args.self.now in
    let b = c.serve_all.new.steps in
    let d = c.advance_some.new.self in
    let kept = c.serve_all.ensures.stays in
    let e = c.in_err-to.field-0.0 in
    let result : c.from_residual-in_err-to.result ≡ Err e = search rules in
    rw result (goes_on a d (λ (way : Way). TurnsSome a.settings way c.args.sched c.args.most (Err e))
    (turn_some_unadvanced (λ (w : Seen). w.settings) (λ (w : Seen). w.history) (λ (w : Seen). w.next) the_way c.args.sched c.args.most a b d c.in_ok-served.served e
    (kept.settings, kept.next) c.in_ok-served.ensures.call c.in_err-to.ensures.call.grows)
    c.in_err-to.ensures.call.legal (stay a b d kept c.advance_some.ensures.stays))

pub returns-in_err-put-clause-call : goal.returns-in_err-put-clause-call
returns-in_err-put-clause-call c =
    let a = c.args.self.now in
    let b = c.serve_all.new.steps in
    let d = c.advance_some.new.self in
    let f = c.deliver_some.new.self in
    let kept = c.serve_all.ensures.stays in
    let moved = c.advance_some.ensures.stays in
    let e = c.in_err-put.field-0.0 in
    let result : c.from_residual-in_err-put.result ≡ Err e = search rules in
    rw result (goes_on a f (λ (way : Way). TurnsSome a.settings way c.args.sched c.args.most (Err e))
    (turn_some_undelivered (λ (w : Seen). w.settings) (λ (w : Seen). w.history) (λ (w : Seen). w.next) the_way c.args.sched c.args.most a b d f c.in_ok-served.served
    (c.in_ok-to.to, c.in_ok-to.expired, c.in_ok-to.left) e (kept.settings, kept.next) (moved.settings, moved.next)
    c.in_ok-served.ensures.call c.in_ok-to.ensures.call.grows c.in_err-put.ensures.call)
    c.deliver_some.ensures.legal (stay a d f (stay a b d kept moved) c.deliver_some.ensures.stays))

pub returns-then-is_more-clause-call : goal.returns-then-is_more-clause-call
returns-then-is_more-clause-call c =
    let a = c.args.self.now in
    let b = c.serve_all.new.steps in
    let d = c.advance_some.new.self in
    let f = c.deliver_some.new.self in
    let kept = c.serve_all.ensures.stays in
    let moved = c.advance_some.ensures.stays in
    let t : Turned = record { served = c.in_ok-served.served; to = c.in_ok-to.to; expired = c.in_ok-to.expired; put = c.in_ok-put.put; dropped = c.in_ok-put.dropped } in
    subst (λ (more : Bool). Goes a (λ (way : Way). TurnsSome a.settings way c.args.sched c.args.most (Ok (t, more))) f)
    (ap (λ (more : Bool). more || c.in_ok-put.waits) (sym c.is_more.ensures ∙ c.if-is_more.true) ∙ sym c.if-is_more.true)
    (goes_on a f (λ (way : Way). TurnsSome a.settings way c.args.sched c.args.most (Ok (t, (is_more c.in_ok-to.left || c.in_ok-put.waits))))
    (turned_some (λ (w : Seen). w.settings) (λ (w : Seen). w.history) (λ (w : Seen). w.next) the_way c.args.sched c.args.most a b d f t c.in_ok-to.left c.in_ok-put.waits
    (kept.settings, kept.next) (moved.settings, moved.next)
    c.in_ok-served.ensures.call c.in_ok-to.ensures.call.grows c.in_ok-put.ensures.call)
    c.deliver_some.ensures.legal (stay a d f (stay a b d kept moved) c.deliver_some.ensures.stays))

pub returns-else-is_more-clause-call : goal.returns-else-is_more-clause-call
returns-else-is_more-clause-call c =
    let a = c.args.self.now in
    let b = c.serve_all.new.steps in
    let d = c.advance_some.new.self in
    let f = c.deliver_some.new.self in
    let kept = c.serve_all.ensures.stays in
    let moved = c.advance_some.ensures.stays in
    let t : Turned = record { served = c.in_ok-served.served; to = c.in_ok-to.to; expired = c.in_ok-to.expired; put = c.in_ok-put.put; dropped = c.in_ok-put.dropped } in
    subst (λ (more : Bool). Goes a (λ (way : Way). TurnsSome a.settings way c.args.sched c.args.most (Ok (t, more))) f)
    (ap (λ (more : Bool). more || c.in_ok-put.waits) (sym c.is_more.ensures ∙ c.if-is_more.false))
    (goes_on a f (λ (way : Way). TurnsSome a.settings way c.args.sched c.args.most (Ok (t, (is_more c.in_ok-to.left || c.in_ok-put.waits))))
    (turned_some (λ (w : Seen). w.settings) (λ (w : Seen). w.history) (λ (w : Seen). w.next) the_way c.args.sched c.args.most a b d f t c.in_ok-to.left c.in_ok-put.waits
    (kept.settings, kept.next) (moved.settings, moved.next)
    c.in_ok-served.ensures.call c.in_ok-to.ensures.call.grows c.in_ok-put.ensures.call)
    c.deliver_some.ensures.legal (stay a d f (stay a b d kept moved) c.deliver_some.ensures.stays))

pub returns-in_err-to-clause-stays : goal.returns-in_err-to-clause-stays
returns-in_err-to-clause-stays c =
    stay c.args.self.now c.serve_all.new.steps c.advance_some.new.self c.serve_all.ensures.stays c.advance_some.ensures.stays

pub returns-in_err-put-clause-stays : goal.returns-in_err-put-clause-stays
returns-in_err-put-clause-stays c =
    let d = c.advance_some.new.self in
    stay c.args.self.now d c.deliver_some.new.self (stay c.args.self.now c.serve_all.new.steps d c.serve_all.ensures.stays c.advance_some.ensures.stays)
    c.deliver_some.ensures.stays

pub returns-then-is_more-clause-stays : goal.returns-then-is_more-clause-stays
returns-then-is_more-clause-stays c =
    let d = c.advance_some.new.self in
    stay c.args.self.now d c.deliver_some.new.self (stay c.args.self.now c.serve_all.new.steps d c.serve_all.ensures.stays c.advance_some.ensures.stays)
    c.deliver_some.ensures.stays

pub returns-else-is_more-clause-stays : goal.returns-else-is_more-clause-stays
returns-else-is_more-clause-stays c =
    let d = c.advance_some.new.self in
    stay c.args.self.now d c.deliver_some.new.self (stay c.args.self.now c.serve_all.new.steps d c.serve_all.ensures.stays c.advance_some.ensures.stays)
    c.deliver_some.ensures.stays

pub returns-then-is_more-clause-left : goal.returns-then-is_more-clause-left
returns-then-is_more-clause-left c =
    let f = c.deliver_some.new.self in
    subst (IsMoreAt f c.args.sched c.in_ok-to.to) (sym c.if-is_more.true)
    (more_left f c.args.sched c.in_ok-to.to c.in_ok-to.left (sym c.is_more.ensures ∙ c.if-is_more.true)
    (left_at c.advance_some.new.self f c.args.sched c.in_ok-to.to c.in_ok-to.left c.deliver_some.ensures.kept c.in_ok-to.ensures.left))

pub returns-else-is_more-clause-left : goal.returns-else-is_more-clause-left
returns-else-is_more-clause-left c =
    let d = c.advance_some.new.self in
    let f = c.deliver_some.new.self in
    let answer : ℕ × ℕ × Bool = (c.in_ok-put.put, c.in_ok-put.dropped, c.in_ok-put.waits) in
    waits_left f c.args.sched c.in_ok-to.to c.args.most _ c.in_ok-to.left c.in_ok-put.waits (sym c.is_more.ensures ∙ c.if-is_more.false)
    (left_at d f c.args.sched c.in_ok-to.to c.in_ok-to.left c.deliver_some.ensures.kept c.in_ok-to.ensures.left)
    (delivered_rest d f c.args.sched c.args.most answer c.in_ok-put.ensures.call c.deliver_some.ensures.stays.settings)

pub returns-then-is_more-clause-done : goal.returns-then-is_more-clause-done
returns-then-is_more-clause-done c = λ more.
    let d = c.advance_some.new.self in
    let f = c.deliver_some.new.self in
    let t : Turned = record { served = c.in_ok-served.served; to = c.in_ok-to.to; expired = c.in_ok-to.expired; put = c.in_ok-put.put; dropped = c.in_ok-put.dropped } in
    done_most c.args.self.now c.serve_all.new.steps d f c.args.sched c.args.most t c.in_ok-to.left (sym c.is_more.ensures ∙ c.if-is_more.true)
    c.serve_all.ensures.stays.rows c.in_ok-to.ensures.fewer c.deliver_some.ensures.stays.rows
    (left_at d f c.args.sched c.in_ok-to.to c.in_ok-to.left c.deliver_some.ensures.kept c.in_ok-to.ensures.left)

pub returns-else-is_more-clause-done : goal.returns-else-is_more-clause-done
returns-else-is_more-clause-done c = λ more.
    inl (delivered_most c.advance_some.new.self.settings (the_way c.advance_some.new.self.settings c.advance_some.new.self.next c.args.sched) c.args.sched c.args.most
    (c.in_ok-put.put, c.in_ok-put.dropped, c.in_ok-put.waits) c.advance_some.new.self.history c.in_ok-put.ensures.call.piece c.in_ok-put.ensures.call.made more)
