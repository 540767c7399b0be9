use Rattle.std.proofs.Common.{◌^◌, ◌≡◌, ◌≤◌, true, false, Some, None, Ok, Err, length, [], ◌∷◌, ◌++◌, rules, subst, arith}
use Rattle.ert_defs.specs.{Legal.Legal, declared.memory.NoMemory.NoMemory}
use Rattle.ert_names.specs.{Handing.{waiting, HandsNext, HandsOne, HandsNone}, Registered.Registered}
use Rattle.ert_names.proofs.{Handing.{hands_none, counted_none, hands_more, counted_true, counted_false, few_handed, few_lost, hands_all}, Waiting.few_waiting}
use Rattle.ert_names.proofs.world.NameWorld.hand_all.Goals as goal

pub loop-was_handed-init : goal.loop-was_handed-init
loop-was_handed-init c =
    let few : length (waiting c.args.self.now.world) ≤ 2 ^ 63 =
    subst (λ (w : Registered). length (waiting w.world) ≤ 2 ^ 63) c.self.view_is
    (few_waiting (length c.self.inside.rows.items) c.self.inside.world c.settings-settings.ensures.stands c.self.invariant.fits) in
    record {
      messages = [];
      some = hands_none c.args.self.now (subst (λ (w : Registered). w.world.next ≡ 1) c.self.view_is c.self.invariant.fits.lone)
          (subst (λ (w : Registered). Legal w.world.settings w.world.history) c.self.view_is c.settings-settings.ensures.stands.clock.legal);
      counted = counted_none c.args.self.now;
      few = omega (arith, few);
    }

pub returns-in_err-was_handed : goal.returns-in_err-was_handed
returns-in_err-was_handed c =
    let e : NoMemory = c.in_err-was_handed.field-0.0 in
    let result : c.hand_next.result ≡ Err e = search rules in
    let answer : c.from_residual.result ≡ Err e = search rules in
    let same : c.hand_next.new.self ≡ c.loop-was_handed.self =
    subst (λ r. HandsNext c.loop-was_handed.self r c.hand_next.new.self) result c.hand_next.ensures.call in
    record {
      call =
          rw (answer, same) (record { messages = c.loop-was_handed.invariant.messages; hands = c.loop-was_handed.invariant.some });
    }

pub loop-was_handed-preserved-then-was_handed : goal.loop-was_handed-preserved-then-was_handed
loop-was_handed-preserved-then-was_handed c =
    let result : c.hand_next.result ≡ Ok (Some true) = search rules in
    let one : HandsOne c.loop-was_handed.self true c.hand_next.new.self =
    subst (λ r. HandsNext c.loop-was_handed.self r c.hand_next.new.self) result c.hand_next.ensures.call in
    let i = c.loop-was_handed.invariant in
    record {
      messages = i.messages ++ one.message ∷ [];
      some = hands_more c.args.self.now c.loop-was_handed.self c.hand_next.new.self i.messages one.message i.some one.hands;
      counted = counted_true c.args.self.now c.loop-was_handed.self i.messages one.message c.loop-was_handed.handed c.loop-was_handed.lost i.counted
          i.some.names i.some.rows one.is_handed one.known;
      few = few_handed c.loop-was_handed.handed c.loop-was_handed.lost _ _ i.few one.fewer;
    }

pub loop-was_handed-smaller-then-was_handed : goal.loop-was_handed-smaller-then-was_handed
loop-was_handed-smaller-then-was_handed c =
    let result : c.hand_next.result ≡ Ok (Some true) = search rules in
    let one : HandsOne c.loop-was_handed.self true c.hand_next.new.self =
    subst (λ r. HandsNext c.loop-was_handed.self r c.hand_next.new.self) result c.hand_next.ensures.call in
    let fewer = one.fewer in
    omega (arith, fewer)

pub loop-was_handed-preserved : goal.loop-was_handed-preserved
loop-was_handed-preserved c =
    let result : c.hand_next.result ≡ Ok (Some false) = search rules in
    let one : HandsOne c.loop-was_handed.self false c.hand_next.new.self =
    subst (λ r. HandsNext c.loop-was_handed.self r c.hand_next.new.self) result c.hand_next.ensures.call in
    let i = c.loop-was_handed.invariant in
    record {
      messages = i.messages ++ one.message ∷ [];
      some = hands_more c.args.self.now c.loop-was_handed.self c.hand_next.new.self i.messages one.message i.some one.hands;
      counted = counted_false c.args.self.now c.loop-was_handed.self i.messages one.message c.loop-was_handed.handed c.loop-was_handed.lost i.counted
          i.some.names i.some.rows one.is_handed one.known;
      few = few_lost c.loop-was_handed.handed c.loop-was_handed.lost _ _ i.few one.fewer;
    }

pub loop-was_handed-smaller : goal.loop-was_handed-smaller
loop-was_handed-smaller c =
    let result : c.hand_next.result ≡ Ok (Some false) = search rules in
    let one : HandsOne c.loop-was_handed.self false c.hand_next.new.self =
    subst (λ r. HandsNext c.loop-was_handed.self r c.hand_next.new.self) result c.hand_next.ensures.call in
    let fewer = one.fewer in
    omega (arith, fewer)

pub returns : goal.returns
returns c =
    let result : c.hand_next.result ≡ Ok None = search rules in
    let none : HandsNone c.loop-was_handed.self c.hand_next.new.self =
    subst (λ r. HandsNext c.loop-was_handed.self r c.hand_next.new.self) result c.hand_next.ensures.call in
    let i = c.loop-was_handed.invariant in
    record {
      call =
          hands_all c.args.self.now c.loop-was_handed.self c.hand_next.new.self i.messages c.loop-was_handed.handed c.loop-was_handed.lost i.some i.counted none;
    }
