use Rattle.std.proofs.Common.{◌≡◌, ◌+◌, ◌<◌, nat_eq, length, refl, sym, ap, subst, ◌∙◌, set, arith, eqb-true}
use Rattle.ert_timers.proofs.{Joined.joined_kept, AllSlots.read_at, Fit.{fit_dropped, fit_same, may_leave, same_places, some_key, written_away}, Keeping.{orders_if, fit_kept, slots_kept, named_kept}, Anew.{free_again, set_twice}}
use Rattle.ert_timers.proofs.{part.WheelPart.renew.Goals.After-join_seldom}
use Rattle.ert_timers.specs.{Changes.{dropped, kept, slot_for}, Owners.{MayJoin, Joins}, Parts.{Part, all_slots, slot_at}, Restarting.CanRenew, Slots.{Slot, stored_slot}, Free.free_set}
use Rattle.ert_timers.specs.contracts.part.WheelPart.{the_view}
use Rattle.ert_timers.proofs.part.WheelPart.renew.Goals as goal
use Rattle.ert_wheel.specs.Rings.{Rings, AreChains, MayTake, StandsIn}

pub overflow_add-self : goal.overflow_add-self
overflow_add-self c = omega (arith, c.self.invariant.fit.few_arms)

pub value-last-requires : goal.value-last-requires
value-last-requires c =
    let p = c.self.inside in
    let can = subst (λ (q : Part). CanRenew q c.args.slot) (sym c.self.view_is) c.requires.can in
    written_away (all_slots p.wheel.values p.wheel.owners.slots) p.wheel.keys (free_set p.free) p.wheel.owners p.arms p.expires p.orphans c.args.slot c.self.invariant.fit
    can.low can.away

pub replace-requires-clause-slot : goal.replace-requires-clause-slot
replace-requires-clause-slot c =
    let p = c.self.inside in
    let can = subst (λ (q : Part). CanRenew q c.args.slot) (sym c.self.view_is) c.requires.can in
    written_away (all_slots p.wheel.values p.wheel.owners.slots) p.wheel.keys (free_set p.free) p.wheel.owners p.arms p.expires p.orphans c.args.slot c.self.invariant.fit
    can.low can.away

pub replace-requires-clause-newest : goal.replace-requires-clause-newest
replace-requires-clause-newest c = orders_if c.self.inside.wheel.keys c.self.inside.arms c.self.invariant.fit.orders

pub join_seldom-requires-clause-process : goal.join_seldom-requires-clause-process
join_seldom-requires-clause-process c =
    subst (λ (r : Rings). c.args.start.now.dest < r.homes) (sym c.replace.ensures.owners)
    (subst (λ (q : Part). c.args.start.now.dest < q.processes) (sym c.self.view_is) c.requires.dest)

pub join_seldom-requires-clause-may : goal.join_seldom-requires-clause-may
join_seldom-requires-clause-may c =
    let p = c.self.inside in
    subst (λ (r : Rings). MayTake r c.args.slot) (sym c.replace.ensures.owners)
    (may_leave (all_slots p.wheel.values p.wheel.owners.slots) p.wheel.keys (free_set p.free) p.wheel.owners p.arms p.expires p.orphans c.args.slot c.self.invariant.fit
    (subst (λ (q : Part). c.args.slot < length q.slots) (sym c.self.view_is) c.requires.can.low))

pub join_seldom-requires-clause-written : goal.join_seldom-requires-clause-written
join_seldom-requires-clause-written c =
    let p = c.self.inside in
    let can = subst (λ (q : Part). CanRenew q c.args.slot) (sym c.self.view_is) c.requires.can in
    subst (λ (r : Rings). c.args.slot < r.written) (sym c.replace.ensures.owners)
    (written_away (all_slots p.wheel.values p.wheel.owners.slots) p.wheel.keys (free_set p.free) p.wheel.owners p.arms p.expires p.orphans c.args.slot c.self.invariant.fit
    can.low can.away)

-- what is kept of the slots with the timer
slots : (c : After-join_seldom) → all_slots c.join_seldom.new.wheel.values c.join_seldom.new.wheel.owners.slots
    ≡ set (the_view c.self.inside).slots c.args.slot (slot_for c.args.next (slot_at (the_view c.self.inside).slots c.args.slot).above c.args.start.now)
slots c =
    let p = c.self.inside in
    let low = subst (λ (q : Part). c.args.slot < length q.slots) (sym c.self.view_is) c.requires.can.low in
    slots_kept p.wheel.values c.join_seldom.new.wheel.values p.wheel.owners.slots c.join_seldom.new.wheel.owners.slots c.args.slot c.value-last.result c.used.result
    c.args.start.now c.args.next c.value-last.ensures (omega (arith, low, c.self.invariant.fit.owned))
    (c.join_seldom.ensures.slots ∙ ap (λ (r : Rings). r.slots) c.replace.ensures.owners) (c.join_seldom.ensures.values ∙ c.replace.ensures.values) c.used.ensures.slot

pub invariant_of-self : goal.invariant_of-self
invariant_of-self c =
    let p = c.self.inside in
    let seen : Part = the_view p in
    let k = c.args.slot in
    let can = subst (λ (q : Part). CanRenew q k) (sym c.self.view_is) c.requires.can in
    let dest = subst (λ (q : Part). c.args.start.now.dest < q.processes) (sym c.self.view_is) c.requires.dest in
    let fit = c.self.invariant.fit in
    let read : slot_at seen.slots k ≡ stored_slot c.value-last.result =
    read_at p.wheel.values p.wheel.owners.slots k c.value-last.result c.value-last.ensures (omega (arith, can.low, fit.owned)) in
    let start = c.args.start.now in
    let same = c.replace.ensures.owners in
    let new = c.join_seldom.new.wheel in
    let has = some_key _ can.held in
    let less = fit_dropped seen.slots p.wheel.keys (free_set p.free) p.wheel.owners p.arms p.expires p.orphans k has.0 fit has.1 in
    let stays = nat_eq c.dest.result start.dest in
    let joins = subst (λ (r : Rings). AreChains r fit.chained.places → MayJoin fit.chained.places k start.dest p.arms stays → Joins new.owners fit.chained.places k start.dest p.arms)
    same (c.join_seldom.ensures.joins fit.chained.places p.arms) fit.chained.are
    (record {
      fits = omega (arith, fit.few_arms);
      orders = fit.chained.orders;
      stands = λ stays.
          subst (λ n. StandsIn fit.chained.places n k) (ap (λ (s : Slot). s.dest) read ∙ (sym c.dest.ensures ∙ eqb-true _ _ stays)) (fit.chained.held k has.0 has.1);
    }) in
    record {
      fit =
          fit_same (slots c) ((c.join_seldom.ensures.keys ∙ c.replace.ensures.keys) ∙ sym (set_twice p.wheel.keys k _ _)) refl
          (fit_kept (dropped seen k) (free_set p.free) p.wheel.owners new.owners k start c.args.next less refl (free_again seen k can)
          can.few dest
          (c.join_seldom.ensures.slots ∙ ap (λ (r : Rings). r.slots) same) (c.join_seldom.ensures.homes ∙ ap (λ (r : Rings). r.homes) same)
          (c.join_seldom.ensures.written ∙ ap (λ (r : Rings). r.written) same)
          (subst (λ places. Joins new.owners places k start.dest p.arms)
          (same_places seen.slots p.wheel.keys (free_set p.free) p.wheel.owners p.arms p.expires p.orphans k has.0 fit has.1) joins));
      joined = joined_kept p.wheel.values new.values p.wheel.owners new.owners fit.chained.places k start.dest p.arms c.used.result c.self.invariant.joined fit.chained.are
          (c.join_seldom.ensures.slots ∙ ap (λ (r : Rings). r.slots) same) (c.join_seldom.ensures.values ∙ c.replace.ensures.values) joins;
    }

pub returns-clause-kept : goal.returns-clause-kept
returns-clause-kept c =
    (λ i. (let q : Part = record (the_view c.self.inside) {
      processes = (c.join_seldom.ensures.homes ∙ ap (λ (r : Rings). r.homes) c.replace.ensures.owners) i;
      slots = slots c i;
      keys = (c.join_seldom.ensures.keys ∙ c.replace.ensures.keys) i;
      arms = c.self.inside.arms + 1;
      passed = (c.join_seldom.ensures.passed ∙ c.replace.ensures.passed) i;
      stands = c.join_seldom.new.wheel.stands;
    } in q)) ∙ ap (λ (p : Part). kept p c.args.slot c.args.start.now c.args.next c.join_seldom.new.wheel.stands) c.self.view_is

pub returns-clause-timer : goal.returns-clause-timer
returns-clause-timer c =
    named_kept c.self.inside.number (the_view c.self.inside).slots (all_slots c.join_seldom.new.wheel.values c.join_seldom.new.wheel.owners.slots) c.args.slot
    (slot_at (the_view c.self.inside).slots c.args.slot).above c.args.start.now c.args.next
    (subst (λ (q : Part). c.args.slot < length q.slots) (sym c.self.view_is) c.requires.can.low) (slots c)
