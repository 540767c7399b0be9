use Rattle.std.proofs.Common.{◌≡◌, true, refl, sym, subst}
use Rattle.ert_defs.specs.declared.entry.Actor.TheVariants.{Sched}
use Rattle.ert_effects.specs.WheelCalls.{Advances}
use Rattle.ert_locks.proofs.{Scheds.{Advanced, advanced}, wheel.advance_for.Goals.After-len-after}
use Rattle.ert_table.specs.{Calls.IsMade, Desks.{settings_of, view_of}, Held.is_held}
use Rattle.ert_timers.specs.Expiring.{IsAdvanced}
use Rattle.ert_locks.proofs.wheel.advance_for.Goals as goal

done : (c : After-len-after) → Advanced (settings_of c.args.desk.now) c.len-after.result c.len-before.result c.advance-to.result c.args.sched.now
    (record c.args.sched.now { expired = c.advance-to.new.expired }) (view_of c.args.pass.now) (view_of c.advance-to.new.pass)
done c =
    let t = settings_of c.args.desk.now in
    let v = view_of c.args.pass.now in
    let u = view_of c.advance-to.new.pass in
    let p = c.args.sched.now in
    let held = subst (λ m. is_held v.actors (Sched m) ≡ true) c.requires.wheel c.requires.holds.sched in
    let told = subst (λ m. IsAdvanced t v m c.advance-to.result p.expired c.advance-to.new.expired u) c.requires.wheel c.advance-to.ensures.call in
    advanced t c.len-after.result c.len-before.result c.advance-to.result p (record p { expired = c.advance-to.new.expired }) v u
    c.args.desk.now.checked.counts.slots_high held c.requires.sched told c.len-after.ensures c.len-before.ensures

pub counted-requires : goal.counted-requires
counted-requires c = (done (goal.at.counted-requires c).After-len-after).few

pub returns : goal.returns
returns c =
    let done = done (goal.at.returns c).After-len-after in
    let t = settings_of c.args.desk.now in
    let made = subst (λ a. IsMade t (view_of c.args.pass.now) (Advances t c.args.sched.now.wheel a) (view_of c.advance-to.new.pass)) (sym c.counted.ensures) done.made in
    let part = c.advance-to.ensures in
    record {
      number = part.number;
      own_number = refl;
      belongs = part.belongs;
      stands = part.stands;
      own_stands = record { in_range = c.requires.sched.in_range; hand = done.hand; expired = done.expired };
      call = made;
    }
