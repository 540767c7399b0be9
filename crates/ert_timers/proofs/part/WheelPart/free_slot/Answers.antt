use Rattle.std.proofs.Common.{◌≡◌, ◌<◌, false, length, None, sym, subst}
use Rattle.std.specs.FinSet as sets
use Rattle.ert_timers.specs.{Parts.{Part, all_slots}, Free.free_set}
use Rattle.ert_timers.proofs.Fit.{fit_put, written_away}
use Rattle.ert_timers.proofs.part.WheelPart.free_slot.Goals as goal
use Rattle.ert_wheel.specs.Rows.{key_in}

pub value-requires : goal.value-requires
value-requires c =
    let p = c.self.inside in
    let k = c.args.slot in
    written_away (all_slots p.wheel.values p.wheel.owners.slots) p.wheel.keys (free_set p.free) p.wheel.owners p.arms p.expires p.orphans k c.self.invariant.fit
    (subst (λ (q : Part). k < length q.slots) (sym c.self.view_is) c.requires.low)
    (subst (λ (q : Part). sets.contains q.free k ≡ false) (sym c.self.view_is) c.requires.away)

pub invariant_of-self : goal.invariant_of-self
invariant_of-self c =
    let p = c.self.inside in
    let k = c.args.slot in
    record {
      fit =
          fit_put (all_slots p.wheel.values p.wheel.owners.slots) p.wheel.keys (free_set p.free) (free_set c.put.new.free) p.wheel.owners p.arms p.expires p.orphans k c.self.invariant.fit c.put.ensures.held
          (subst (λ (q : Part). k < length q.slots) (sym c.self.view_is) c.requires.low)
          (subst (λ (q : Part). key_in q.keys k ≡ None) (sym c.self.view_is) c.requires.vacant);
      joined = c.self.invariant.joined;
    }
