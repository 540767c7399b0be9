use Rattle.std.proofs.Common.{◌≡◌, ◌<◌, length, None, sym, subst}
use Rattle.ert_timers.specs.{Parts.{Part, all_slots}, Free.free_set}
use Rattle.ert_timers.proofs.Fit.{fit_put}
use Rattle.ert_timers.proofs.part.WheelPart.free_after.Goals as goal
use Rattle.ert_wheel.specs.Rows.{key_in}

pub invariant_of-self : goal.invariant_of-self
invariant_of-self c =
    let p = c.self.inside in
    let k = c.args.timer.slot in
    record {
      fit =
          fit_put (all_slots p.wheel.values p.wheel.owners.slots) p.wheel.keys (free_set p.free) (free_set c.put.new.self) p.wheel.owners p.arms p.expires p.orphans k c.self.invariant.fit c.put.ensures.held
          (subst (λ (q : Part). k < length q.slots) (sym c.self.view_is) c.requires.low)
          (subst (λ (q : Part). key_in q.keys k ≡ None) (sym c.self.view_is) c.requires.vacant);
      joined = c.self.invariant.joined;
    }
