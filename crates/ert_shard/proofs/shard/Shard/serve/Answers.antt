use Rattle.std.proofs.Common.{rules, Option, subst}
use Rattle.ert_defs.specs.declared.mail.Request.{Request}
use Rattle.ert_effects.specs.Chains.{HoldsRequest}
use Rattle.ert_shard.proofs.Served.{served_one, served_none, held_forgets, served_forgets, unserved_forgets}
use Rattle.ert_shard.specs.Shards.{ShardSteps}
use Rattle.ert_shard.proofs.shard.Shard.serve.Goals as goal

pub returns-in_default-clause-call : goal.returns-in_default-clause-call
returns-in_default-clause-call c =
    let a = c.args.self.now in
    subst (λ (got : Option Request). ShardSteps a (λ way. HoldsRequest a.settings way a.share.number got) c.hold.new.self) c.in_default.is c.hold.ensures.call

pub returns-in_default-clause-forgotten : goal.returns-in_default-clause-forgotten
returns-in_default-clause-forgotten c = held_forgets c.args.self.now c.hold.new.self c.hold.result c.hold.ensures.call

pub answer_held-requires-clause-home : goal.answer_held-requires-clause-home
answer_held-requires-clause-home c = c.is_home.ensures.0 (search rules)

pub returns-in-Ok-clause-call : goal.returns-in-Ok-clause-call
returns-in-Ok-clause-call c =
    served_one c.args.self.now c.hold.new.self c.answer_held.new.self c.in-Some.request c.in-Ok.field-0 c.in-Some.ensures.call c.in-Ok.ensures.call

pub returns-in-Ok-clause-forgotten : goal.returns-in-Ok-clause-forgotten
returns-in-Ok-clause-forgotten c =
    served_forgets c.args.self.now c.hold.new.self c.answer_held.new.self c.in-Some.request c.in-Ok.field-0 c.in-Some.ensures.call c.in-Ok.ensures.call c.in-Ok.ensures.forgotten

pub returns-in-Err-clause-call : goal.returns-in-Err-clause-call
returns-in-Err-clause-call c =
    served_none c.args.self.now c.hold.new.self c.answer_held.new.self c.in-Some.request c.in-Err.field-0 c.in-Some.ensures.call c.in-Err.ensures.call

pub returns-in-Err-clause-forgotten : goal.returns-in-Err-clause-forgotten
returns-in-Err-clause-forgotten c =
    unserved_forgets c.args.self.now c.hold.new.self c.answer_held.new.self c.in-Some.request c.in-Err.field-0 c.in-Some.ensures.call c.in-Err.ensures.call
