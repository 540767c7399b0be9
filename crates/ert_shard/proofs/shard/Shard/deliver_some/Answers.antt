use Rattle.std.proofs.Common.{◌≡◌, ◌+◌, false, [], ◌∷◌, ◌++◌, length, Ok, Err, arith, rules, sym, ap, subst, ◌∙◌, add-zero}
use Rattle.std.specs.Option.{is_some}
use Rattle.ert_effects.specs.{Chains.{Hands, puts, drops}, declared.answers.Handed.TheVariants.{Put, Dropped}}
use Rattle.ert_shard.proofs.{Deliveries.{one_handed, some_handed, some_unhanded}, MoreLeft.keeps_then}
use Rattle.ert_shard.specs.{Shards.ShardSteps, Turning.shard_expired}
use Rattle.ert_world.proofs.{Bounding.{at_most, are_left, none_left}, Chained.{puts_more, drops_more}}
use Rattle.ert_shard.proofs.shard.Shard.deliver_some.Goals as goal

pub hands-preserved-in-Put : goal.hands-preserved-in-Put
hands-preserved-in-Put c =
    let b = c.hands.self in
    let i = c.hands.invariant in
    record {
      hows = i.hows ++ Put ∷ [];
      handing = one_handed c.args.self.now b c.hand_first.new.self i.hows Put i.handing
          (subst (λ how. ShardSteps b (λ way. Hands b.settings way b.share.number (Ok how)) c.hand_first.new.self) c.in-Put.is c.in_ok-hand_first.ensures.call);
      put_is = ap (λ n. n + 1) i.put_is ∙ sym (puts_more i.hows Put);
      dropped_is = i.dropped_is ∙ sym (drops_more i.hows Put ∙ add-zero (drops i.hows));
      few = omega (arith, c.hands-test.true);
      kept = keeps_then c.args.self.now.wheel b.wheel c.hand_first.new.self.wheel i.kept c.hand_first.ensures.kept;
    }

pub hands-preserved : goal.hands-preserved
hands-preserved c =
    let b = c.hands.self in
    let i = c.hands.invariant in
    record {
      hows = i.hows ++ Dropped ∷ [];
      handing = one_handed c.args.self.now b c.hand_first.new.self i.hows Dropped i.handing
          (subst (λ how. ShardSteps b (λ way. Hands b.settings way b.share.number (Ok how)) c.hand_first.new.self) c.in-Dropped.is c.in_ok-hand_first.ensures.call);
      put_is = i.put_is ∙ sym (puts_more i.hows Dropped ∙ add-zero (puts i.hows));
      dropped_is = ap (λ n. n + 1) i.dropped_is ∙ sym (drops_more i.hows Dropped);
      few = omega (arith, c.hands-test.true);
      kept = keeps_then c.args.self.now.wheel b.wheel c.hand_first.new.self.wheel i.kept c.hand_first.ensures.kept;
    }

pub returns-in_default-clause-call : goal.returns-in_default-clause-call
returns-in_default-clause-call c =
    let b = c.hands.self in
    let i = c.hands.invariant in
    some_handed c.args.self.now b c.args.most c.hands.put c.hands.dropped false i.hows i.handing c.first_of_expired.ensures.legal i.put_is i.dropped_is i.few
    (none_left c.args.most (length i.hows) (shard_expired b) (sym c.first_of_expired.ensures.first ∙ c.in_default.is))

pub returns-in_err-hand_first-clause-call : goal.returns-in_err-hand_first-clause-call
returns-in_err-hand_first-clause-call c =
    let i = c.hands.invariant in
    let result : c.from_residual.result ≡ Err c.in_err-hand_first.field-0.0 = search rules in
    rw result (some_unhanded c.args.self.now c.hands.self c.hand_first.new.self c.args.most c.hands.put c.hands.dropped c.in_err-hand_first.field-0.0 i.hows i.handing
    i.put_is i.dropped_is c.hands-test.true c.in_err-hand_first.ensures.call)

pub returns-clause-call : goal.returns-clause-call
returns-clause-call c =
    let b = c.hands.self in
    let i = c.hands.invariant in
    some_handed c.args.self.now b c.args.most c.hands.put c.hands.dropped c.is_some-more.result i.hows i.handing c.first_of_expired-2.ensures.legal i.put_is i.dropped_is i.few
    (are_left c.is_some-more.result c.args.most (length i.hows) (shard_expired b) (at_most i.hows c.args.most c.hands.put c.hands.dropped i.put_is i.dropped_is i.few c.hands-test.false)
    (c.is_some-more.ensures ∙ ap is_some c.first_of_expired-2.ensures.first))

pub returns-in_err-hand_first-clause-kept : goal.returns-in_err-hand_first-clause-kept
returns-in_err-hand_first-clause-kept c =
    keeps_then c.args.self.now.wheel c.hands.self.wheel c.hand_first.new.self.wheel c.hands.invariant.kept c.hand_first.ensures.kept
