use Rattle.std.proofs.Common.{true, inr, length, rules, refl, subst}
use Rattle.ert_effects.specs.WheelCalls.{TellsAlive}
use Rattle.ert_defs.specs.declared.entry.Actor.TheVariants.{Caller}
use Rattle.ert_names.specs.{Calls.{GoesLone, IsBadName, AreFree, HasRegistered, SeesAlive}, Registered.{Registered, seen_with_names}}
use Rattle.ert_names.proofs.{Living.{names_looked, registered_if, seen_living}, world.NameWorld.register.Goals.{in-Ok, in-Err}}
use Rattle.ert_world.specs.Worlds.{Goes, By}
use Rattle.ert_names.proofs.world.NameWorld.register.Goals as goal

pub invariant_of-self : goal.invariant_of-self
invariant_of-self c =
    names_looked (length c.self.inside.rows.items) c.self.inside.registry c.self.inside.world c.is_alive.new.self c.args.process c.is_alive.result c.is_alive.ensures.call c.self.invariant

pub invariant_of-self-2 : goal.invariant_of-self-2
invariant_of-self-2 c =
    let n = length c.self.inside.rows.items in
    let names = c.self.inside.registry in
    let w = c.self.inside.world in
    let alive : Goes w (By w (λ g. TellsAlive g (Caller 0) c.args.process true)) c.is_alive.new.self =
    subst (λ b. Goes w (By w (λ g. TellsAlive g (Caller 0) c.args.process b)) c.is_alive.new.self) c.if-not-is_alive.false c.is_alive.ensures.call in
    registered_if n names c.insert.new.self c.args.name.now c.args.process c.is_alive.new.self c.insert.result c.insert.ensures.ok c.insert.ensures.err
    (seen_living c.args.process w c.is_alive.new.self alive c.self.invariant.fits.lone alive.legal)
    (names_looked n names w c.is_alive.new.self c.args.process true alive c.self.invariant)

pub returns-then-not-is_alive : goal.returns-then-not-is_alive
returns-then-not-is_alive c =
    let w = c.self.inside.world in
    let after = seen_with_names c.is_alive.new.self c.self.inside.registry c.self.inside.rows.items c.self.inside.mail.items in
    let free : AreFree c.self.inside.registry c.args.name.now c.args.process = search rules in
    record {
      call =
          subst (λ (w : Registered). IsBadName w c.args.name.now c.args.process after) c.self.view_is
          (inr (
            free,
            record {
              goes = record {
                goes = subst (λ b. Goes w (By w (λ g. TellsAlive g (Caller 0) c.args.process b)) c.is_alive.new.self) c.if-not-is_alive.true c.is_alive.ensures.call;
                lone = c.self.invariant.fits.lone;
              };
              names = refl;
              rows = refl;
              mail = refl;
            },
          ));
    }

pub returns : goal.returns
returns c =
    let w = c.self.inside.world in
    let free : AreFree c.self.inside.registry c.args.name.now c.args.process = search rules in
    let lives : GoesLone w (By w (λ g. TellsAlive g (Caller 0) c.args.process true)) c.is_alive.new.self = record {
      goes = subst (λ b. Goes w (By w (λ g. TellsAlive g (Caller 0) c.args.process b)) c.is_alive.new.self) c.if-not-is_alive.false c.is_alive.ensures.call;
      lone = c.self.invariant.fits.lone;
    } in
    let after = seen_with_names c.is_alive.new.self c.insert.new.self c.self.inside.rows.items c.self.inside.mail.items in
    record {
      call =
          elim c.match-insert.branch [
            | in-Ok m ↦ rw m.result-is
                (subst (λ (w : Registered). HasRegistered w c.args.name.now c.args.process after) c.self.view_is
                (record { free = free; lives = lives; names = m.in-Ok.ensures.ok; rows = refl; mail = refl }))
            | in-Err m ↦ rw m.result-is
                (subst (λ (w : Registered). AreFree w.names c.args.name.now c.args.process × SeesAlive w c.args.process true after) c.self.view_is
                (free, record { goes = lives; names = m.in-Err.ensures.err; rows = refl; mail = refl }))
          ];
    }
