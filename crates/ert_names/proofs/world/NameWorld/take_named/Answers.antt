use Rattle.std.proofs.Common.{◌≡◌, true, None, rules, refl, sym, subst, ◌∙◌}
use Rattle.ert_names.specs.{Calls.{SeesAlive, first_for, others_for}, Registered.{Registered, seen_with_names}}
use Rattle.ert_names.proofs.{Handing.none_goes, Living.names_looked}
use Rattle.ert_world.specs.Worlds.{Goes, By}
use Rattle.std.specs.Prelude.{length}
use Rattle.ert_effects.specs.WheelCalls.{TellsAlive}
use Rattle.ert_defs.specs.declared.entry.Actor.TheVariants.{Caller}
use Rattle.ert_names.proofs.world.NameWorld.take_named.Goals as goal

pub invariant_of-self : goal.invariant_of-self
invariant_of-self c =
    names_looked (length c.self.inside.rows.items) c.self.inside.registry c.self.inside.world c.is_alive.new.self c.args.process c.is_alive.result c.is_alive.ensures.call c.self.invariant

pub invariant_of-self-2 : goal.invariant_of-self-2
invariant_of-self-2 c =
    names_looked (length c.self.inside.rows.items) c.self.inside.registry c.self.inside.world c.is_alive.new.self c.args.process c.is_alive.result c.is_alive.ensures.call c.self.invariant

pub returns-in-None : goal.returns-in-None
returns-in-None c =
    let w = c.self.inside.world in
    let ms = c.self.inside.mail.items in
    let result : c.first_mail.result ≡ None = search rules in
    let none : first_for c.args.process ms ≡ None = sym c.first_mail.ensures.value ∙ result in
    let lives : Goes w (By w (λ g. TellsAlive g (Caller 0) c.args.process true)) c.is_alive.new.self =
    subst (λ b. Goes w (By w (λ g. TellsAlive g (Caller 0) c.args.process b)) c.is_alive.new.self) c.if-not-is_alive.false c.is_alive.ensures.call in
    let between = seen_with_names c.is_alive.new.self c.self.inside.registry c.self.inside.rows.items ms in
    let after = none_goes c.args.process ms none in
    record {
      call =
          rw c.first_mail.ensures.mail
          (subst (λ (w : Registered). (first_for c.args.process w.mail ≡ None) × SeesAlive w c.args.process true (record between { mail = others_for c.args.process ms }))
          c.self.view_is
          (none, record { goes = record { goes = lives; lone = c.self.invariant.fits.lone }; names = refl; rows = refl; mail = after }));
    }
