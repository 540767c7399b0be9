use Rattle.std.proofs.Common.{refl, ap, subst, ◌∙◌, rules, arith}
use Rattle.ert_c.proofs.Ways.{through}
use Rattle.ert_c.proofs.timer_exports.ert_world_start.Goals as goal
use Rattle.ert_c.specs.Calls.{StartsBy}
use Rattle.ert_defs.specs.declared.{settings.Settings.Settings, timer.Start.Start}

pub returns : goal.returns
returns c =
    through _ _ _ _ _ c.lend-service.result.now c.start-answer.new.self (c.as_place.ensures.value ∙ c.lend-service.ensures.value) refl (record {
      below = λ _. record {
        below = λ _. record {
          answer = c.start-answer.result;
          made = subst (λ (s : Start). StartsBy c.args.sched s c.start-answer.result c.lend-service.result.now c.start-answer.new.self) c.read.ensures
              (record {
                makes = c.start-answer.ensures.call;
                time = c.start-answer.ensures.time;
                memory = c.start-answer.ensures.memory;
                forgotten = c.start-answer.ensures.forgotten;
                full = c.start-answer.ensures.full;
                searched = c.start-answer.ensures.searched;
                ready = c.start-answer.ensures.ready;
                frees = c.start-answer.ensures.frees;
              });
          told = search rules;
        };
        above = λ h. absurd (omega (arith, c.if-start-settings.false, ap (λ (g : Settings). g.processes) c.settings-2.ensures.value, h));
      };
      above = λ h. absurd (omega (arith, c.if-sched-settings.false, ap (λ (g : Settings). g.schedulers) c.settings.ensures.value, h));
    })
