use Rattle.std.proofs.Common.{refl, ◌∙◌, rules}
use Rattle.ert_c.proofs.Sharing.{made_through}
use Rattle.ert_c.proofs.shard_turn_exports.ert_shard_reserve_expired.Goals as goal

pub returns : goal.returns
returns c = made_through _ _ _ _ _ c.lend.result.now c.reserve_expired-answer.new.self (c.as_place.ensures.value ∙ c.lend.ensures.value) refl
    (record { answer = c.reserve_expired-answer.result; made = c.reserve_expired-answer.ensures; told = search rules })
