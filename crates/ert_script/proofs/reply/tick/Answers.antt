use Rattle.std.proofs.Common.{rules, FitsSigned, w64, to_z-of_z, refl}
use Rattle.ert_defs.specs.Timers.{timer_at}
use Rattle.ert_effects.specs.Ways.{alone}
use Rattle.ert_script.proofs.Answered.{tick_grows}
use Rattle.ert_script.proofs.reply.tick.Goals as goal

pub returns : goal.returns
returns c =
    let w = c.args.world.now in
    let mono : FitsSigned w64 c.args.mono = search rules in
    let sys : FitsSigned w64 c.args.sys = search rules in
    let goes = simp to_z-of_z at c.tick.ensures.call in
    rw c.ticked.ensures
    (record {
      with = λ ls. record {
        grows = tick_grows w.settings (alone w.settings) 0 (timer_at 0 0 0) _ _ c.args.mono c.args.sys c.tick.result (search rules) (goes.lone c.requires.lone) ls;
        settings = goes.settings;
        next = goes.next;
        labels = refl;
      };
    })
