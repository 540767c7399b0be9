use Rattle.std.proofs.Common.{refl, ◌∙◌, rules}
use Rattle.ert_c.proofs.Sharing.{made_through}
use Rattle.ert_c.proofs.shard_waiting_exports.ert_shard_expired.Goals as goal

pub returns : goal.returns
returns c = made_through _ _ _ _ _ c.lend.result.now c.lend.result.now (c.as_place.ensures.value ∙ c.lend.ensures.value) refl
    (record { answer = c.expired-answer.result; made = record { waiting = c.expired-answer.ensures; unchanged = refl }; told = search rules })
