use Rattle.std.proofs.Common.{◌≡◌, ◌<◌, None, false, length, sym, subst, refl, ap, ◌∙◌}
use Rattle.std.specs.FinSet as sets
use Rattle.ert_timers.specs.{Parts.{Part, all_slots}, Free.free_set}
use Rattle.ert_timers.specs.contracts.part.WheelPart.{the_view}
use Rattle.ert_timers.proofs.{Fit.{fit_owned, fit_same, may_leave, written_away}, Keeping.owned_thinned, Owners.{thinned_more, thinned_none}}
use Rattle.ert_timers.proofs.part.WheelPart.leave.Goals as goal
use Rattle.ert_wheel.specs.{Rings.with_place, Rows.key_in}

pub part_from-requires-clause-may : goal.part_from-requires-clause-may
part_from-requires-clause-may c =
    let p = c.self.inside in
    may_leave (all_slots p.wheel.values p.wheel.owners.slots) p.wheel.keys (free_set p.free) p.wheel.owners p.arms p.expires p.orphans c.args.slot c.self.invariant.fit
    (subst (λ (q : Part). c.args.slot < length q.slots) (sym c.self.view_is) c.requires.low)

pub part_from-requires-clause-written : goal.part_from-requires-clause-written
part_from-requires-clause-written c =
    let p = c.self.inside in
    written_away (all_slots p.wheel.values p.wheel.owners.slots) p.wheel.keys (free_set p.free) p.wheel.owners p.arms p.expires p.orphans c.args.slot c.self.invariant.fit
    (subst (λ (q : Part). c.args.slot < length q.slots) (sym c.self.view_is) c.requires.low)
    (subst (λ (q : Part). sets.contains q.free c.args.slot ≡ false) (sym c.self.view_is) c.requires.away)

pub invariant_of-self : goal.invariant_of-self
invariant_of-self c =
    let p = c.self.inside in
    let new = c.part_from.new.wheel in
    let slots = all_slots p.wheel.values p.wheel.owners.slots in
    let chained = c.self.invariant.fit.chained in
    let none = subst (λ (q : Part). key_in q.keys c.args.slot ≡ None) (sym c.self.view_is) c.requires.vacant in
    record {
      fit =
          fit_same (c.part_from.ensures.stored new.owners.slots ∙ ap (all_slots p.wheel.values) c.part_from.ensures.slots) c.part_from.ensures.keys refl
          (fit_owned slots p.wheel.keys (free_set p.free) p.wheel.owners new.owners p.arms p.expires p.orphans c.self.invariant.fit
          c.part_from.ensures.slots c.part_from.ensures.homes c.part_from.ensures.written
          (owned_thinned slots p.wheel.keys p.wheel.owners new.owners p.arms (with_place chained.places c.args.slot None) chained
          (thinned_more p.wheel.owners new.owners p.wheel.keys chained.places chained.places c.args.slot
          (thinned_none p.wheel.owners p.wheel.keys chained.places chained.are) none c.part_from.ensures.parted)));
      joined = c.part_from.ensures.joined c.self.invariant.joined;
    }

pub returns : goal.returns
returns c =
    (λ i. (let q : Part = record (the_view c.self.inside) {
      processes = c.part_from.ensures.homes i;
      slots = (c.part_from.ensures.stored c.part_from.new.wheel.owners.slots ∙ ap (all_slots c.self.inside.wheel.values) c.part_from.ensures.slots) i;
      keys = c.part_from.ensures.keys i;
      passed = c.part_from.ensures.passed i;
      stands = c.part_from.ensures.stands i;
    } in q)) ∙ c.self.view_is
