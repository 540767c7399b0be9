use Rattle.std.proofs.Common.{refl, ◌∙◌, rules}
use Rattle.ert_c.proofs.Sharing.{made_through}
use Rattle.ert_c.proofs.shard_exports.ert_shard_cancel.Goals as goal

pub returns : goal.returns
returns c = made_through _ _ _ _ _ c.lend.result.now c.cancel_timer-answer.new.self (c.as_place.ensures.value ∙ c.lend.ensures.value) refl
    (record { answer = c.cancel_timer-answer.result; made = search rules; told = search rules })
