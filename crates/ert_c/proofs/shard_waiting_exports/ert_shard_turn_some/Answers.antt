use Rattle.std.proofs.Common.{refl, ◌∙◌, rules}
use Rattle.ert_c.proofs.Sharing.{made_through}
use Rattle.ert_c.proofs.shard_waiting_exports.ert_shard_turn_some.Goals as goal

pub returns : goal.returns
returns c = made_through _ _ _ _ _ c.lend.result.now c.turn_some-answer.new.self (c.as_place.ensures.value ∙ c.lend.ensures.value) refl
    (record {
      answer = c.turn_some-answer.result;
      made = record { steps = c.turn_some-answer.ensures.call; left = c.turn_some-answer.ensures.left; done = c.turn_some-answer.ensures.done };
      told = search rules;
    })
