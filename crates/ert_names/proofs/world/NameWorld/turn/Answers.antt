use Rattle.std.proofs.Common.{◌≡◌, Ok, Err, inl, inr, length, rules, refl, subst}
use Rattle.ert_effects.specs.Chains.{Turns}
use Rattle.ert_defs.specs.declared.memory.NoMemory.{NoMemory}
use Rattle.ert_names.specs.{Calls.{TurnsNamed, HasTurnedAndHanded}, Handing.{HandsAll, HandsThem, HandsSome}, Registered.{Registered, seen_with_names}}
use Rattle.ert_names.proofs.{Fitting.turns_fit, Handing.{turned, stopped}, Living.names_on}
use Rattle.ert_world.specs.Worlds.{Goes}
use Rattle.ert_names.proofs.world.NameWorld.turn.Goals as goal

pub invariant_of-self : goal.invariant_of-self
invariant_of-self c =
    let n = length c.self.inside.rows.items in
    let g = c.self.inside.world.settings in
    names_on n c.self.inside.registry c.self.inside.world c.turn.new.self (λ way. Turns g way c.args.sched c.turn.result)
    (λ q. turns_fit n q g c.args.sched c.turn.result) c.turn.ensures.call
    c.self.invariant

pub returns-in_err-turned : goal.returns-in_err-turned
returns-in_err-turned c =
    let e : NoMemory = c.in_err-turned.field-0.0 in
    let w = c.self.inside.world in
    let result : c.turn.result ≡ Err e = search rules in
    let answer : c.from_residual.result ≡ Err e = search rules in
    let after = seen_with_names c.turn.new.self c.self.inside.registry c.self.inside.rows.items c.self.inside.mail.items in
    let goes : Goes w (λ way. Turns w.settings way c.args.sched (Err e)) c.turn.new.self =
    subst (λ r. Goes w (λ way. Turns w.settings way c.args.sched r) c.turn.new.self) result c.turn.ensures.call in
    record {
      call =
          rw answer
          (subst (λ (w : Registered). TurnsNamed w c.args.sched (Err e) after) c.self.view_is
          (inl (record { goes = record { goes = goes; lone = c.self.invariant.fits.lone }; names = refl; rows = refl; mail = refl })));
    }

pub invariant_of-self-2 : goal.invariant_of-self-2
invariant_of-self-2 c =
    let n = length c.self.inside.rows.items in
    let g = c.self.inside.world.settings in
    names_on n c.self.inside.registry c.self.inside.world c.turn.new.self (λ way. Turns g way c.args.sched c.turn.result)
    (λ q. turns_fit n q g c.args.sched c.turn.result) c.turn.ensures.call
    c.self.invariant

pub returns-in_err-handed : goal.returns-in_err-handed
returns-in_err-handed c =
    let e : NoMemory = c.in_err-handed.field-0.0 in
    let w = c.self.inside.world in
    let t = c.in_ok-turned.turned in
    let result : c.turn.result ≡ Ok t = search rules in
    let answer : c.from_residual-in_err-handed.result ≡ Err e = search rules in
    let handed : c.hand_all.result ≡ Err e = search rules in
    let before = seen_with_names w c.self.inside.registry c.self.inside.rows.items c.self.inside.mail.items in
    let between = seen_with_names c.turn.new.self c.self.inside.registry c.self.inside.rows.items c.self.inside.mail.items in
    let hands : HandsSome between c.hand_all.new.self = subst (λ r. HandsAll between r c.hand_all.new.self) handed c.hand_all.ensures.call in
    record {
      call =
          rw answer
          (subst (λ (w : Registered). TurnsNamed w c.args.sched (Err e) c.hand_all.new.self) c.self.view_is
          (inr (stopped before between c.hand_all.new.self c.args.sched t c.turn.result result c.turn.ensures.call c.self.invariant.fits.lone refl refl refl hands)));
    }

pub returns : goal.returns
returns c =
    let w = c.self.inside.world in
    let t = c.in_ok-turned.turned in
    let result : c.turn.result ≡ Ok t = search rules in
    let handed : c.hand_all.result ≡ Ok (c.in_ok-handed.handed, c.in_ok-handed.lost) = search rules in
    let before = seen_with_names w c.self.inside.registry c.self.inside.rows.items c.self.inside.mail.items in
    let between = seen_with_names c.turn.new.self c.self.inside.registry c.self.inside.rows.items c.self.inside.mail.items in
    let hands : HandsThem between (c.in_ok-handed.handed, c.in_ok-handed.lost) c.hand_all.new.self =
    subst (λ r. HandsAll between r c.hand_all.new.self) handed c.hand_all.ensures.call in
    record {
      call =
          subst (λ (w : Registered). HasTurnedAndHanded w c.args.sched (record { turned = t; handed = c.in_ok-handed.handed; lost = c.in_ok-handed.lost }) c.hand_all.new.self)
          c.self.view_is
          (turned before between c.hand_all.new.self c.args.sched t c.turn.result (c.in_ok-handed.handed, c.in_ok-handed.lost) result c.turn.ensures.call c.self.invariant.fits.lone
          refl refl refl hands);
    }
