use Rattle.std.proofs.Common.{true, false, refl, subst}
use Rattle.std.specs.Prelude.{length}
use Rattle.ert_effects.specs.{Chains.Exits, Ways.Way}
use Rattle.ert_names.specs.{Calls.ExitDropsName, Registered.{Registered, seen_with_names}}
use Rattle.ert_world.specs.Worlds.{Goes}
use Rattle.ert_names.proofs.Living.{exited_old, exited_new, exited_unnamed, without_unnamed}
use Rattle.ert_names.proofs.world.NameWorld.exit.Goals as goal

pub invariant_of-self : goal.invariant_of-self
invariant_of-self c =
    let n = length c.self.inside.rows.items in
    let w = c.self.inside.world in
    exited_old n c.self.inside.registry c.args.process w c.exit.new.self c.requires.not_registrar
    (subst (λ b. Goes w (λ way. Exits w.settings way 0 c.args.process b) c.exit.new.self) c.if-not-exit.true c.exit.ensures.call)
    c.exit.ensures.call.legal c.self.invariant

pub returns-then-not-exit-clause-call : goal.returns-then-not-exit-clause-call
returns-then-not-exit-clause-call c =
    let before = seen_with_names c.self.inside.world c.self.inside.registry c.self.inside.rows.items c.self.inside.mail.items in
    let after = seen_with_names c.exit.new.self c.self.inside.registry c.self.inside.rows.items c.self.inside.mail.items in
    let call = λ (w : Registered) (way : Way). Exits w.world.settings way 0 c.args.process false in
    subst (λ (w : Registered). ExitDropsName w c.args.process false (call w) after) c.self.view_is
    (record {
      goes = record {
        goes = subst (λ b. Goes before.world (λ way. Exits before.world.settings way 0 c.args.process b) c.exit.new.self) c.if-not-exit.true c.exit.ensures.call;
        lone = c.self.invariant.fits.lone;
      };
      names = refl;
      rows = refl;
      mail = refl;
    })

pub returns-then-not-exit-clause-unnamed : goal.returns-then-not-exit-clause-unnamed
returns-then-not-exit-clause-unnamed c =
    let n = length c.self.inside.rows.items in
    let w = c.self.inside.world in
    exited_unnamed n c.self.inside.registry c.args.process w c.exit.new.self
    (subst (λ b. Goes w (λ way. Exits w.settings way 0 c.args.process b) c.exit.new.self) c.if-not-exit.true c.exit.ensures.call)
    c.exit.ensures.call.legal c.self.invariant

pub invariant_of-self-2 : goal.invariant_of-self-2
invariant_of-self-2 c =
    let n = length c.self.inside.rows.items in
    let w = c.self.inside.world in
    exited_new n c.self.inside.registry c.remove_process.new.self c.args.process c.exit.result w c.exit.new.self c.requires.not_registrar c.exit.ensures.call
    c.remove_process.ensures c.self.invariant

pub returns-clause-unnamed : goal.returns-clause-unnamed
returns-clause-unnamed c = without_unnamed c.self.inside.registry c.remove_process.new.self c.args.process c.remove_process.ensures

pub returns-clause-call : goal.returns-clause-call
returns-clause-call c =
    let before = seen_with_names c.self.inside.world c.self.inside.registry c.self.inside.rows.items c.self.inside.mail.items in
    let after = seen_with_names c.exit.new.self c.remove_process.new.self c.self.inside.rows.items c.self.inside.mail.items in
    let call = λ (w : Registered) (way : Way). Exits w.world.settings way 0 c.args.process true in
    subst (λ (w : Registered). ExitDropsName w c.args.process true (call w) after) c.self.view_is
    (record {
      goes = record {
        goes = subst (λ b. Goes before.world (λ way. Exits before.world.settings way 0 c.args.process b) c.exit.new.self) c.if-not-exit.false c.exit.ensures.call;
        lone = c.self.invariant.fits.lone;
      };
      names = c.remove_process.ensures;
      rows = refl;
      mail = refl;
    })
