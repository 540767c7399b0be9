use Rattle.std.proofs.Common.{refl, ap, ◌∙◌, rules}
use Rattle.ert_c.proofs.{Sharing.{made_through, below_home, above_home, at_home}, shard_exports.ert_shard_exit.Goals.{then-process-from-via-then-process-from, then-process-from-via-else-process-from+then-process-to}}
use Rattle.ert_c.specs.declared.shard_handle.ErtShard.{ErtShard}
use Rattle.ert_c.proofs.shard_exports.ert_shard_exit.Goals as goal

pub returns-then-process-from : goal.returns-then-process-from
returns-then-process-from c = elim c.then-process-from.branch [
  | then-process-from-via-then-process-from w ↦ made_through _ _ _ _ _ c.lend-own.result.now c.lend-own.result.now (c.as_place.ensures.value ∙ c.lend-own.ensures.value)
      (ap (λ (s : ErtShard). s.place.value) w.shard-is)
      (below_home _ _ c.lend-own.result.now.share c.args.process c.from.result w.if-process-from.true c.from.ensures (record { told = refl; unchanged = refl; same = refl }))
  | then-process-from-via-else-process-from+then-process-to w ↦ made_through _ _ _ _ _ c.lend-own.result.now c.lend-own.result.now (c.as_place.ensures.value ∙ c.lend-own.ensures.value)
      (ap (λ (s : ErtShard). s.place.value) w.shard-is)
      (above_home _ _ c.lend-own.result.now.share c.args.process w.to.result w.if-process-to.true w.to.ensures (record { told = refl; unchanged = refl; same = refl }))
]

pub returns : goal.returns
returns c = made_through _ _ _ _ _ c.lend-own.result.now c.exit-answer.new.self (c.as_place.ensures.value ∙ c.lend-own.ensures.value) refl
    (at_home _ _ c.lend-own.result.now.share c.args.process c.from.result c.to.result c.if-process-from.false c.from.ensures
    c.if-process-to.false c.to.ensures (record { answer = c.exit-answer.result; made = c.exit-answer.ensures; told = search rules }))
