use Rattle.std.proofs.Common.{refl, ap, ◌∙◌, rules, arith}
use Rattle.ert_c.proofs.Ways.{through}
use Rattle.ert_c.proofs.turn_exports.ert_world_shrink_expired.Goals as goal
use Rattle.ert_defs.specs.declared.settings.Settings.{Settings}

pub returns : goal.returns
returns c =
    through _ _ _ _ _ c.lend-service.result.now c.shrink_expired-answer.new.self (c.as_place.ensures.value ∙ c.lend-service.ensures.value) refl (record {
      below = λ _. record { answer = c.shrink_expired-answer.result; made = c.shrink_expired-answer.ensures; told = search rules };
      above = λ h. absurd (omega (arith, c.if-sched-settings.false, ap (λ (g : Settings). g.schedulers) c.settings.ensures.value, h));
    })
