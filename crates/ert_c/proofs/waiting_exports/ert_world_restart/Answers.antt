use Rattle.std.proofs.Common.{refl, ap, subst, ◌∙◌, rules, arith}
use Rattle.ert_c.proofs.Ways.{through}
use Rattle.ert_c.proofs.waiting_exports.ert_world_restart.Goals as goal
use Rattle.ert_c.specs.{Told.timer_from_c, Waiting.RestartsBy}
use Rattle.ert_defs.specs.declared.{settings.Settings.Settings, timer.Start.Start, timer.TimerRef.TimerRef}

pub returns : goal.returns
returns c =
    through _ _ _ _ _ c.lend-service.result.now c.restart-answer.new.self (c.as_place.ensures.value ∙ c.lend-service.ensures.value) refl (record {
      below = λ _. record {
        answer = c.restart-answer.result;
        made = subst (λ (s : Start). RestartsBy (timer_from_c c.args.timer.now) s c.restart-answer.result c.lend-service.result.now c.restart-answer.new.self) c.read-2.ensures
            (subst (λ (t : TimerRef). RestartsBy t c.read-2.result c.restart-answer.result c.lend-service.result.now c.restart-answer.new.self) c.read.ensures
            (record { makes = c.restart-answer.ensures.call; time = c.restart-answer.ensures.time; forgotten = c.restart-answer.ensures.forgotten; full = c.restart-answer.ensures.full; frees = c.restart-answer.ensures.frees }));
        told = search rules;
      };
      above = λ h. absurd (omega (arith, c.if-process-settings.false, ap (λ (g : Settings). g.processes) c.settings.ensures.value, h));
    })
