use Rattle.std.proofs.Common.{length, refl, subst}
use Rattle.ert_effects.specs.ClockCalls.{Ticks}
use Rattle.ert_clock.specs.Ticks.{act_of}
use Rattle.ert_names.specs.{Calls.GoesAloneOnClock, Fits.FitsRows, Registered.{Registered, seen_with_names}}
use Rattle.ert_names.proofs.{Fitting.acts_fit, Living.names_by}
use Rattle.ert_world.specs.Worlds.{Seen, By}
use Rattle.ert_names.proofs.world.NameWorld.tick.Goals as goal

pub invariant_of-self : goal.invariant_of-self
invariant_of-self c =
    let n = length c.self.inside.rows.items in
    let w : Seen = record c.self.inside.world { clock = c.tick.new.self.clock } in
    let was = c.self.invariant in
    let fits : FitsRows n w = record { processes = was.fits.processes; lone = was.fits.lone; entries = was.fits.entries } in
    names_by n c.self.inside.registry w c.tick.new.self (λ g. Ticks g 0 c.args.reading c.args.force c.tick.result)
    (λ q s es. acts_fit n q w.settings 0 c.args.reading (act_of c.args.force) c.tick.result s es) c.tick.ensures.call (record { fits = fits; living = was.living })

pub returns-clause-call : goal.returns-clause-call
returns-clause-call c =
    let after = seen_with_names c.tick.new.self c.self.inside.registry c.self.inside.rows.items c.self.inside.mail.items in
    subst (λ (w : Registered). GoesAloneOnClock w (By w.world (λ g. Ticks g 0 c.args.reading c.args.force c.tick.result)) after) c.self.view_is
    (record { goes = record { goes = c.tick.ensures.call; lone = c.self.invariant.fits.lone }; names = refl; rows = refl; mail = refl })
