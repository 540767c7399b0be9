use Rattle.std.proofs.Common.{◌≡◌, Bool, true, false, inl, inr, rules, Ok, Err, Result, ap, subst, ◌∙◌, arith}
use Rattle.ert_shard.proofs.Served.{served_more, served_most, served_to_end, unserved}
use Rattle.ert_shard.specs.{Serving.ShardServes, Shards.ShardSteps, declared.requests.ServeErr.ServeErr, declared.requests.ServeErr.TheVariants.NotHome}
use Rattle.ert_shard.proofs.shard.Shard.serve_all.Goals as goal

pub loop-served-preserved : goal.loop-served-preserved
loop-served-preserved c =
    let b = c.loop-served.self in
    let one : c.in-Ok-true.field-0 ≡ true = search rules in
    record {
      steps = served_more c.args.self.now b c.serve.new.self c.loop-served.served c.loop-served.invariant.steps
          (subst (λ (r : Result Bool ServeErr). ShardSteps b (λ way. ShardServes b.settings way b.share r) c.serve.new.self)
          (c.in-Ok-true.is ∙ ap (λ (x : Bool). Ok x) one) c.serve.ensures.call);
    }

pub returns-in-Ok-false : goal.returns-in-Ok-false
returns-in-Ok-false c =
    let b = c.loop-served.self in
    let none : c.in-Ok-false.field-0 ≡ false = search rules in
    served_to_end c.args.self.now b c.serve.new.self c.loop-served.served (Ok false) (omega (arith, c.loop-served-test.true)) c.loop-served.invariant.steps
    (subst (λ (r : Result Bool ServeErr). ShardSteps b (λ way. ShardServes b.settings way b.share r) c.serve.new.self)
    (c.in-Ok-false.is ∙ ap (λ (x : Bool). Ok x) none) c.serve.ensures.call)
    (λ h m ends. inl ends)

pub returns-in-Err-NotHome : goal.returns-in-Err-NotHome
returns-in-Err-NotHome c =
    let b = c.loop-served.self in
    served_to_end c.args.self.now b c.serve.new.self c.loop-served.served (Err NotHome) (omega (arith, c.loop-served-test.true)) c.loop-served.invariant.steps
    (subst (λ (r : Result Bool ServeErr). ShardSteps b (λ way. ShardServes b.settings way b.share r) c.serve.new.self)
    (c.in-Err-NotHome.is ∙ ap (λ (x : ServeErr). Err x) c.in-Err-NotHome.field-0-is) c.serve.ensures.call)
    (λ h m ends. inr ends)

pub returns-in-Err-NoMemory : goal.returns-in-Err-NoMemory
returns-in-Err-NoMemory c =
    let b = c.loop-served.self in
    unserved c.args.self.now b c.serve.new.self c.loop-served.served _ (omega (arith, c.loop-served-test.true)) c.loop-served.invariant.steps
    (subst (λ (r : Result Bool ServeErr). ShardSteps b (λ way. ShardServes b.settings way b.share r) c.serve.new.self)
    (c.in-Err-NoMemory.is ∙ ap (λ (x : ServeErr). Err x) c.in-Err-NoMemory.field-0-is) c.serve.ensures.call)

pub returns : goal.returns
returns c =
    served_most c.args.self.now c.loop-served.self c.loop-served.served (omega (arith, c.loop-served-test.false, c.loop-served.auto.served-end)) c.loop-served.invariant.steps
