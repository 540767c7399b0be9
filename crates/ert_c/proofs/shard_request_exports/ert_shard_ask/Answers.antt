use Rattle.std.proofs.Common.{refl, sym, ◌∙◌, rules}
use Rattle.ert_c.proofs.Sharing.{made_through, is_at_home, not_at_home}
use Rattle.ert_c.proofs.shard_request_exports.ert_shard_ask.Goals as goal

pub returns-in_default : goal.returns-in_default
returns-in_default c = made_through _ _ _ _ _ c.lend-own.result.now c.lend-own.result.now (c.as_place.ensures.value ∙ c.lend-own.ensures.value) refl
    (rw (sym c.request_kind_at.ensures ∙ c.in_default.is) (record { told = refl; unchanged = refl }))

pub returns-then-not-is_home : goal.returns-then-not-is_home
returns-then-not-is_home c = made_through _ _ _ _ _ c.lend-own.result.now c.lend-own.result.now (c.as_place.ensures.value ∙ c.lend-own.ensures.value) refl
    (rw (sym c.request_kind_at.ensures ∙ c.in-Some.is)
    (not_at_home _ _ c.lend-own.result.now.share c.args.request.now.reply_to c.is_home.result (search rules) c.is_home.ensures (record { told = refl; unchanged = refl; same = tt })))

pub returns : goal.returns
returns c = made_through _ _ _ _ _ c.lend-own.result.now c.ask-answer.new.self (c.as_place.ensures.value ∙ c.lend-own.ensures.value) refl
    (rw (sym c.request_kind_at.ensures ∙ c.in-Some.is)
    (is_at_home _ _ c.lend-own.result.now.share c.args.request.now.reply_to c.is_home.result (search rules) c.is_home.ensures
    (record { answer = c.ask-answer.result; made = search rules; told = search rules })))
