use Rattle.std.proofs.Common.{refl, ◌∙◌, rules}
use Rattle.ert_c.proofs.Sharing.{made_through}
use Rattle.ert_c.proofs.shard_turn_exports.ert_shard_turn.Goals as goal

pub returns : goal.returns
returns c = made_through _ _ _ _ _ c.lend.result.now c.turn-answer.new.self (c.as_place.ensures.value ∙ c.lend.ensures.value) refl
    (record {
      answer = c.turn-answer.result;
      made = record { steps = c.turn-answer.ensures.call; passed = c.turn-answer.ensures.passed };
      told = search rules;
    })
