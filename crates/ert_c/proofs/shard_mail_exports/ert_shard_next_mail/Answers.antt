use Rattle.std.proofs.Common.{refl, ◌∙◌, rules}
use Rattle.ert_c.proofs.Sharing.{made_through}
use Rattle.ert_c.proofs.shard_mail_exports.ert_shard_next_mail.Goals as goal

pub returns : goal.returns
returns c = made_through _ _ _ _ _ c.lend.result.now c.next_mail-answer.new.self (c.as_place.ensures.value ∙ c.lend.ensures.value) refl
    (record {
      answer = c.next_mail-answer.result;
      made = record { next = c.next_mail-answer.ensures.next; memory = c.next_mail-answer.ensures.memory };
      told = search rules;
    })
