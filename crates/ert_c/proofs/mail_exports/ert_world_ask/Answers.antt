use Rattle.std.proofs.Common.{refl, sym, ap, ◌∙◌, rules, arith}
use Rattle.ert_c.proofs.Ways.{through}
use Rattle.ert_c.proofs.mail_exports.ert_world_ask.Goals as goal
use Rattle.ert_defs.specs.declared.settings.Settings.{Settings}

pub returns : goal.returns
returns c = through _ _ _ _ _ c.lend-service.result.now c.ask-answer.new.self (c.as_place.ensures.value ∙ c.lend-service.ensures.value) refl
    (rw (sym c.request_kind_at.ensures ∙ c.in-Some.is) (record {
      below = λ _. record { answer = c.ask-answer.result; made = search rules; told = search rules };
      above = λ h. absurd (omega (arith, c.if-request-settings.false, ap (λ (g : Settings). g.processes) c.settings.ensures.value, h));
    }))
