use Rattle.std.proofs.Common.{refl, ap, ◌∙◌, rules, arith}
use Rattle.ert_c.proofs.Ways.{through}
use Rattle.ert_c.proofs.turn_exports.ert_world_next_due.Goals as goal
use Rattle.ert_defs.specs.declared.settings.Settings.{Settings}

pub returns : goal.returns
returns c =
    let looks = c.next_due-answer.ensures in
    through _ _ _ _ _ c.lend-service.result.now c.next_due-answer.new.self (c.as_place.ensures.value ∙ c.lend-service.ensures.value) refl (record {
      below = λ _. record {
        answer = c.next_due-answer.result;
        made = record {
          makes = looks.call;
          stays = looks.stays;
          held = looks.held;
          armed = looks.armed;
          nearest = looks.nearest;
          found = looks.found;
          time = looks.time;
        };
        told = search rules;
      };
      above = λ h. absurd (omega (arith, c.if-sched-settings.false, ap (λ (g : Settings). g.schedulers) c.settings.ensures.value, h));
    })
