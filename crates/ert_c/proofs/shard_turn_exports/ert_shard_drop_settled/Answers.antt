use Rattle.std.proofs.Common.{refl, ◌∙◌, rules}
use Rattle.ert_c.proofs.Sharing.{made_through}
use Rattle.ert_c.proofs.shard_turn_exports.ert_shard_drop_settled.Goals as goal

pub returns : goal.returns
returns c = made_through _ _ _ _ _ c.lend.result.now c.drop_settled-answer.new.self (c.as_place.ensures.value ∙ c.lend.ensures.value) refl
    (record {
      answer = c.drop_settled-answer.result;
      made = record { drops = c.drop_settled-answer.ensures.call; time = c.drop_settled-answer.ensures.time };
      told = search rules;
    })
