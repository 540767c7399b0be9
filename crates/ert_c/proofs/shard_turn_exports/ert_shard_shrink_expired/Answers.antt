use Rattle.std.proofs.Common.{refl, ◌∙◌, rules}
use Rattle.ert_c.proofs.Sharing.{made_through}
use Rattle.ert_c.proofs.shard_turn_exports.ert_shard_shrink_expired.Goals as goal

pub returns : goal.returns
returns c = made_through _ _ _ _ _ c.lend.result.now c.shrink_expired-answer.new.self (c.as_place.ensures.value ∙ c.lend.ensures.value) refl
    (record { answer = c.shrink_expired-answer.result; made = c.shrink_expired-answer.ensures; told = search rules })
