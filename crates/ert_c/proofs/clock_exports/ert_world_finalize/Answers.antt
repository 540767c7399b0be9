use Rattle.std.proofs.Common.{refl, ◌∙◌, rules}
use Rattle.ert_c.proofs.Ways.{through}
use Rattle.ert_c.proofs.clock_exports.ert_world_finalize.Goals as goal

pub returns : goal.returns
returns c = through _ _ _ _ _ c.lend.result.now c.finalize-answer.new.self (c.as_place.ensures.value ∙ c.lend.ensures.value) refl
    (record { answer = c.finalize-answer.result; made = search rules; told = search rules })
