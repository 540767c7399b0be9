use Rattle.std.proofs.Common.{refl, ◌∙◌, rules}
use Rattle.ert_c.proofs.Sharing.{made_through}
use Rattle.ert_c.proofs.shard_turn_exports.ert_shard_advance.Goals as goal

pub returns : goal.returns
returns c = made_through _ _ _ _ _ c.lend.result.now c.advance-answer.new.self (c.as_place.ensures.value ∙ c.lend.ensures.value) refl
    (record {
      answer = c.advance-answer.result;
      made = record { steps = c.advance-answer.ensures.call; passed = c.advance-answer.ensures.passed; held = c.advance-answer.ensures.held };
      told = search rules;
    })
