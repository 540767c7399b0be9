use Rattle.std.proofs.Common.{◌≡◌, false, length, Err, arith, rules, sym, ap, ◌∙◌}
use Rattle.std.specs.Option.{is_some}
use Rattle.ert_world.proofs.{Bounding.{at_most, are_left, delivered_some, none_left, undelivered_some}, Chained.{handed_put, handed_dropped}, MoreLeft.{the_way, keep_then}}
use Rattle.ert_world.specs.{Stepping.stay, Worlds.Seen}
use Rattle.ert_world.proofs.world.World.deliver_some.Goals as goal

pub hands-preserved-in-Put : goal.hands-preserved-in-Put
hands-preserved-in-Put c =
    let b = c.hands.self in
    let i = c.hands.invariant in
    record {
      handed = handed_put (λ (w : Seen). w.settings) (λ (w : Seen). w.history) (λ (w : Seen). w.next) the_way c.args.sched c.hands.put c.hands.dropped _ c.args.self.now b c.hand_next.new.self
          (i.stays.settings, i.stays.next) i.handed
          c.in_ok-hand_next.ensures.call c.in-Put.is;
      few = omega (arith, c.hands-test.true);
      stays = stay c.args.self.now b c.hand_next.new.self i.stays c.hand_next.ensures.stays;
      kept = keep_then c.args.self.now b c.hand_next.new.self i.kept c.hand_next.ensures.kept;
    }

pub hands-preserved : goal.hands-preserved
hands-preserved c =
    let b = c.hands.self in
    let i = c.hands.invariant in
    record {
      handed = handed_dropped (λ (w : Seen). w.settings) (λ (w : Seen). w.history) (λ (w : Seen). w.next) the_way c.args.sched c.hands.put c.hands.dropped _ c.args.self.now b c.hand_next.new.self
          (i.stays.settings, i.stays.next) i.handed
          c.in_ok-hand_next.ensures.call c.in-Dropped.is;
      few = omega (arith, c.hands-test.true);
      stays = stay c.args.self.now b c.hand_next.new.self i.stays c.hand_next.ensures.stays;
      kept = keep_then c.args.self.now b c.hand_next.new.self i.kept c.hand_next.ensures.kept;
    }

pub returns-in_default-clause-call : goal.returns-in_default-clause-call
returns-in_default-clause-call c =
    let a = c.args.self.now in
    let b = c.hands.self in
    let i = c.hands.invariant in
    delivered_some (λ (w : Seen). w.settings) (λ (w : Seen). w.history) (λ (w : Seen). w.next) the_way c.args.sched c.args.most c.hands.put c.hands.dropped false i.handed.hows a b
    (i.stays.settings, i.stays.next) i.handed.made i.handed.put_is i.handed.dropped_is i.few
    (none_left c.args.most (length i.handed.hows) _ (sym c.first_of_expired.ensures.first ∙ c.in_default.is))

pub returns-in_err-hand_next-clause-call : goal.returns-in_err-hand_next-clause-call
returns-in_err-hand_next-clause-call c =
    let a = c.args.self.now in
    let b = c.hands.self in
    let i = c.hands.invariant in
    let result : c.from_residual.result ≡ Err c.in_err-hand_next.field-0.0 = search rules in
    rw result (undelivered_some (λ (w : Seen). w.settings) (λ (w : Seen). w.history) (λ (w : Seen). w.next) the_way c.args.sched c.args.most c.hands.put c.hands.dropped c.in_err-hand_next.field-0.0 i.handed.hows a b c.hand_next.new.self
    (i.stays.settings, i.stays.next) i.handed.made i.handed.put_is i.handed.dropped_is c.hands-test.true c.in_err-hand_next.ensures.call)

pub returns-clause-call : goal.returns-clause-call
returns-clause-call c =
    let a = c.args.self.now in
    let b = c.hands.self in
    let i = c.hands.invariant in
    delivered_some (λ (w : Seen). w.settings) (λ (w : Seen). w.history) (λ (w : Seen). w.next) the_way c.args.sched c.args.most c.hands.put c.hands.dropped c.is_some-more.result i.handed.hows a b
    (i.stays.settings, i.stays.next) i.handed.made i.handed.put_is i.handed.dropped_is i.few
    (are_left c.is_some-more.result c.args.most (length i.handed.hows) _ (at_most i.handed.hows c.args.most c.hands.put c.hands.dropped i.handed.put_is i.handed.dropped_is i.few c.hands-test.false)
    (c.is_some-more.ensures ∙ ap is_some c.first_of_expired-2.ensures.first))

pub returns-in_err-hand_next-clause-kept : goal.returns-in_err-hand_next-clause-kept
returns-in_err-hand_next-clause-kept c =
    keep_then c.args.self.now c.hands.self c.hand_next.new.self c.hands.invariant.kept c.hand_next.ensures.kept

pub returns-in_err-hand_next-clause-stays : goal.returns-in_err-hand_next-clause-stays
returns-in_err-hand_next-clause-stays c =
    stay c.args.self.now c.hands.self c.hand_next.new.self c.hands.invariant.stays c.hand_next.ensures.stays
