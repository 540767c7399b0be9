use Rattle.std.proofs.Common.{refl, ap, ◌∙◌, rules, arith}
use Rattle.ert_c.proofs.Ways.{through}
use Rattle.ert_c.proofs.turn_exports.ert_world_drop_settled.Goals as goal
use Rattle.ert_defs.specs.declared.settings.Settings.{Settings}

pub returns : goal.returns
returns c =
    let drops = c.drop_settled-answer.ensures in
    through _ _ _ _ _ c.lend-service.result.now c.drop_settled-answer.new.self (c.as_place.ensures.value ∙ c.lend-service.ensures.value) refl (record {
      below = λ _. record {
        answer = c.drop_settled-answer.result;
        made = record { drops = drops.call; stays = drops.stays; time = drops.time };
        told = search rules;
      };
      above = λ h. absurd (omega (arith, c.if-sched-settings.false, ap (λ (g : Settings). g.schedulers) c.settings.ensures.value, h));
    })
