use Rattle.std.proofs.Common.{◌≡◌, Err, inl, inr, refl, sym, rules}
use Rattle.ert_world.proofs.Chained.{one_less, few_put, few_dropped, none_handed, handed_put, handed_dropped, delivered, undelivered}
use Rattle.ert_world.proofs.chains.deliver.Goals as goal

pub loop-expired-init : goal.loop-expired-init
loop-expired-init g c =
    let s = g.S.SchedSteps in
    record { handed = none_handed s.settings s.history s.mark s.way c.args.sched c.args.steps.now; few = inl refl; stays = g.met.S.SchedSteps.same c.args.steps.now }

pub first_of_expired-requires : goal.first_of_expired-requires
first_of_expired-requires g c = g.met.S.SchedSteps.acts_on c.args.steps.now c.loop-expired.steps c.args.sched c.loop-expired.invariant.stays c.requires

pub hand_first-requires-clause-acts : goal.hand_first-requires-clause-acts
hand_first-requires-clause-acts g c = g.met.S.SchedSteps.acts_on c.args.steps.now c.loop-expired.steps c.args.sched c.loop-expired.invariant.stays c.requires

pub hand_first-requires-clause-first : goal.hand_first-requires-clause-first
hand_first-requires-clause-first g c = sym c.in-Some.ensures.first

pub returns-in_err-hand_first-clause-call : goal.returns-in_err-hand_first-clause-call
returns-in_err-hand_first-clause-call g c =
    let s = g.S.SchedSteps in
    let a = c.args.steps.now in
    let b = c.loop-expired.steps in
    let i = c.loop-expired.invariant in
    let result : c.from_residual.result ≡ Err c.in_err-hand_first.field-0.0 = search rules in
    rw result (undelivered s.settings s.history s.mark s.way c.args.sched c.loop-expired.put c.loop-expired.dropped a b c.hand_first.new.self c.in_err-hand_first.field-0.0
    (g.met.S.SchedSteps.same_settings a b i.stays, g.met.S.SchedSteps.same_mark a b i.stays) i.handed c.in_err-hand_first.ensures.call)

pub returns-in_err-hand_first-clause-stays : goal.returns-in_err-hand_first-clause-stays
returns-in_err-hand_first-clause-stays g c =
    g.met.S.SchedSteps.stay c.args.steps.now c.loop-expired.steps c.hand_first.new.self c.loop-expired.invariant.stays c.hand_first.ensures.stays

pub loop-expired-preserved-in-Put : goal.loop-expired-preserved-in-Put
loop-expired-preserved-in-Put g c =
    let s = g.S.SchedSteps in
    let b = c.loop-expired.steps in
    let i = c.loop-expired.invariant in
    let less = one_less _ _ c.in-Some.expired (sym c.in-Some.ensures.first) c.in_ok-hand_first.ensures.expired in
    record {
      handed = handed_put s.settings s.history s.mark s.way c.args.sched c.loop-expired.put c.loop-expired.dropped _ c.args.steps.now b c.hand_first.new.self
          (g.met.S.SchedSteps.same_settings c.args.steps.now b i.stays, g.met.S.SchedSteps.same_mark c.args.steps.now b i.stays) i.handed
          c.in_ok-hand_first.ensures.call c.in-Put.is;
      few = inr (few_put c.loop-expired.put c.loop-expired.dropped _ _ i.few c.in-Some.ensures.few less);
      stays = g.met.S.SchedSteps.stay c.args.steps.now b c.hand_first.new.self i.stays c.hand_first.ensures.stays;
    }

pub loop-expired-preserved : goal.loop-expired-preserved
loop-expired-preserved g c =
    let s = g.S.SchedSteps in
    let b = c.loop-expired.steps in
    let i = c.loop-expired.invariant in
    let less = one_less _ _ c.in-Some.expired (sym c.in-Some.ensures.first) c.in_ok-hand_first.ensures.expired in
    record {
      handed = handed_dropped s.settings s.history s.mark s.way c.args.sched c.loop-expired.put c.loop-expired.dropped _ c.args.steps.now b c.hand_first.new.self
          (g.met.S.SchedSteps.same_settings c.args.steps.now b i.stays, g.met.S.SchedSteps.same_mark c.args.steps.now b i.stays) i.handed
          c.in_ok-hand_first.ensures.call c.in-Dropped.is;
      few = inr (few_dropped c.loop-expired.put c.loop-expired.dropped _ _ i.few c.in-Some.ensures.few less);
      stays = g.met.S.SchedSteps.stay c.args.steps.now b c.hand_first.new.self i.stays c.hand_first.ensures.stays;
    }

pub returns-clause-call : goal.returns-clause-call
returns-clause-call g c =
    let s = g.S.SchedSteps in
    let a = c.args.steps.now in
    let b = c.loop-expired.steps in
    let i = c.loop-expired.invariant in
    delivered s.settings s.history s.mark s.way c.args.sched c.loop-expired.put c.loop-expired.dropped a b
    (g.met.S.SchedSteps.same_settings a b i.stays, g.met.S.SchedSteps.same_mark a b i.stays) i.handed (sym c.in_default.ensures.first)
