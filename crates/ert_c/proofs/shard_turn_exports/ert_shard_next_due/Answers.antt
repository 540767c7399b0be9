use Rattle.std.proofs.Common.{refl, ◌∙◌, rules}
use Rattle.ert_c.proofs.Sharing.{made_through}
use Rattle.ert_c.proofs.shard_turn_exports.ert_shard_next_due.Goals as goal

pub returns : goal.returns
returns c = made_through _ _ _ _ _ c.lend.result.now c.next_due-answer.new.self (c.as_place.ensures.value ∙ c.lend.ensures.value) refl
    (record {
      answer = c.next_due-answer.result;
      made = record {
        makes = c.next_due-answer.ensures.call;
        held = c.next_due-answer.ensures.held;
        armed = c.next_due-answer.ensures.armed;
        found = c.next_due-answer.ensures.found;
        time = c.next_due-answer.ensures.time;
      };
      told = search rules;
    })
