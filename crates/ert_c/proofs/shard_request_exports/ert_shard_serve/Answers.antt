use Rattle.std.proofs.Common.{refl, ◌∙◌, rules}
use Rattle.ert_c.proofs.Sharing.{made_through}
use Rattle.ert_c.proofs.shard_request_exports.ert_shard_serve.Goals as goal

pub returns : goal.returns
returns c = made_through _ _ _ _ _ c.lend.result.now c.serve-answer.new.self (c.as_place.ensures.value ∙ c.lend.ensures.value) refl
    (record { answer = c.serve-answer.result; made = record { steps = c.serve-answer.ensures.call; forgotten = c.serve-answer.ensures.forgotten }; told = search rules })
