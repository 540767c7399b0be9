use Rattle.std.proofs.Common.{◌≡◌, ◌+◌, ◌<◌, length, refl, sym, ap, subst, ◌∙◌, set, arith}
use Rattle.ert_timers.proofs.{Joined.{stands_noted, joined_kept}, AllSlots.read_at, Fit.{fit_same, may_leave, written_away}, Keeping.{orders_if, fit_kept, slots_kept, named_kept}, part.WheelPart.keep.Goals.After-join}
use Rattle.ert_timers.specs.{Changes.{MayBecomeFree, kept, slot_for}, Owners.{MayJoin, Joins}, Parts.{Part, all_slots, slot_at}, Slots.{Slot, stored_slot}, Free.free_set}
use Rattle.ert_timers.specs.contracts.part.WheelPart.{the_view}
use Rattle.ert_timers.proofs.part.WheelPart.keep.Goals as goal
use Rattle.ert_wheel.specs.Rings.{Rings, AreChains, MayTake}

pub overflow_add-self : goal.overflow_add-self
overflow_add-self c = omega (arith, c.self.invariant.fit.few_arms)

pub value-last-requires : goal.value-last-requires
value-last-requires c =
    let p = c.self.inside in
    let free = subst (λ (q : Part). MayBecomeFree q c.args.slot) (sym c.self.view_is) c.requires.free in
    written_away (all_slots p.wheel.values p.wheel.owners.slots) p.wheel.keys (free_set p.free) p.wheel.owners p.arms p.expires p.orphans c.args.slot c.self.invariant.fit
    free.low free.away

pub insert-requires-clause-slot : goal.insert-requires-clause-slot
insert-requires-clause-slot c =
    let p = c.self.inside in
    let free = subst (λ (q : Part). MayBecomeFree q c.args.slot) (sym c.self.view_is) c.requires.free in
    written_away (all_slots p.wheel.values p.wheel.owners.slots) p.wheel.keys (free_set p.free) p.wheel.owners p.arms p.expires p.orphans c.args.slot c.self.invariant.fit
    free.low free.away

pub insert-requires-clause-newest : goal.insert-requires-clause-newest
insert-requires-clause-newest c = orders_if c.self.inside.wheel.keys c.self.inside.arms c.self.invariant.fit.orders

pub join-requires-clause-process : goal.join-requires-clause-process
join-requires-clause-process c =
    subst (λ (r : Rings). c.args.start.now.dest < r.homes) (sym c.insert.ensures.owners)
    (subst (λ (q : Part). c.args.start.now.dest < q.processes) (sym c.self.view_is) c.requires.dest)

pub join-requires-clause-may : goal.join-requires-clause-may
join-requires-clause-may c =
    let p = c.self.inside in
    subst (λ (r : Rings). MayTake r c.args.slot) (sym c.insert.ensures.owners)
    (may_leave (all_slots p.wheel.values p.wheel.owners.slots) p.wheel.keys (free_set p.free) p.wheel.owners p.arms p.expires p.orphans c.args.slot c.self.invariant.fit
    (subst (λ (q : Part). c.args.slot < length q.slots) (sym c.self.view_is) c.requires.free.low))

pub join-requires-clause-written : goal.join-requires-clause-written
join-requires-clause-written c =
    let p = c.self.inside in
    let free = subst (λ (q : Part). MayBecomeFree q c.args.slot) (sym c.self.view_is) c.requires.free in
    subst (λ (r : Rings). c.args.slot < r.written) (sym c.insert.ensures.owners)
    (written_away (all_slots p.wheel.values p.wheel.owners.slots) p.wheel.keys (free_set p.free) p.wheel.owners p.arms p.expires p.orphans c.args.slot c.self.invariant.fit
    free.low free.away)

-- what is kept of the slots with the timer
slots : (c : After-join) → all_slots c.join.new.wheel.values c.join.new.wheel.owners.slots
    ≡ set (the_view c.self.inside).slots c.args.slot (slot_for c.args.next (slot_at (the_view c.self.inside).slots c.args.slot).above c.args.start.now)
slots c =
    let p = c.self.inside in
    let low = subst (λ (q : Part). c.args.slot < length q.slots) (sym c.self.view_is) c.requires.free.low in
    slots_kept p.wheel.values c.join.new.wheel.values p.wheel.owners.slots c.join.new.wheel.owners.slots c.args.slot c.value-last.result c.used.result
    c.args.start.now c.args.next c.value-last.ensures (omega (arith, low, c.self.invariant.fit.owned))
    (c.join.ensures.slots ∙ ap (λ (r : Rings). r.slots) c.insert.ensures.owners) (c.join.ensures.values ∙ c.insert.ensures.values) c.used.ensures.slot

pub invariant_of-self : goal.invariant_of-self
invariant_of-self c =
    let p = c.self.inside in
    let seen : Part = the_view p in
    let k = c.args.slot in
    let free = subst (λ (q : Part). MayBecomeFree q k) (sym c.self.view_is) c.requires.free in
    let dest = subst (λ (q : Part). c.args.start.now.dest < q.processes) (sym c.self.view_is) c.requires.dest in
    let fit = c.self.invariant.fit in
    let read : slot_at seen.slots k ≡ stored_slot c.value-last.result =
    read_at p.wheel.values p.wheel.owners.slots k c.value-last.result c.value-last.ensures (omega (arith, free.low, fit.owned)) in
    let start = c.args.start.now in
    let same = c.insert.ensures.owners in
    let new = c.join.new.wheel in
    let joins = subst (λ (r : Rings). AreChains r fit.chained.places → MayJoin fit.chained.places k start.dest p.arms c.is_with-stays.result → Joins new.owners fit.chained.places k start.dest p.arms)
    same (c.join.ensures.joins fit.chained.places p.arms) fit.chained.are
    (record {
      fits = omega (arith, fit.few_arms);
      orders = fit.chained.orders;
      stands = λ stays.
          stands_noted p.wheel.owners fit.chained.places k (stored_slot c.value-last.result).dest start.dest fit.chained.are (omega (arith, free.low, fit.owned))
          (c.self.invariant.joined k c.value-last.result (omega (arith, free.low, fit.owned)) c.value-last.ensures (c.is_with-stays.ensures.joined stays))
          (λ place is. fit.chained.lasts k place is ∙ ap (λ (s : Slot). s.dest) read) (c.is_with-stays.ensures.dest stays);
    }) in
    record {
      fit =
          fit_same (slots c) (c.join.ensures.keys ∙ c.insert.ensures.keys) refl
          (fit_kept seen (free_set p.free) p.wheel.owners new.owners k start c.args.next fit refl free
          (subst (λ (q : Part). q.arms < 9007199254740992) (sym c.self.view_is) c.requires.few) dest
          (c.join.ensures.slots ∙ ap (λ (r : Rings). r.slots) same) (c.join.ensures.homes ∙ ap (λ (r : Rings). r.homes) same)
          (c.join.ensures.written ∙ ap (λ (r : Rings). r.written) same) joins);
      joined = joined_kept p.wheel.values new.values p.wheel.owners new.owners fit.chained.places k start.dest p.arms c.used.result c.self.invariant.joined fit.chained.are
          (c.join.ensures.slots ∙ ap (λ (r : Rings). r.slots) same) (c.join.ensures.values ∙ c.insert.ensures.values) joins;
    }

pub returns-clause-kept : goal.returns-clause-kept
returns-clause-kept c =
    (λ i. (let q : Part = record (the_view c.self.inside) {
      processes = (c.join.ensures.homes ∙ ap (λ (r : Rings). r.homes) c.insert.ensures.owners) i;
      slots = slots c i;
      keys = (c.join.ensures.keys ∙ c.insert.ensures.keys) i;
      arms = c.self.inside.arms + 1;
      passed = (c.join.ensures.passed ∙ c.insert.ensures.passed) i;
      stands = c.join.new.wheel.stands;
    } in q)) ∙ ap (λ (p : Part). kept p c.args.slot c.args.start.now c.args.next c.join.new.wheel.stands) c.self.view_is

pub returns-clause-timer : goal.returns-clause-timer
returns-clause-timer c =
    named_kept c.self.inside.number (the_view c.self.inside).slots (all_slots c.join.new.wheel.values c.join.new.wheel.owners.slots) c.args.slot
    (slot_at (the_view c.self.inside).slots c.args.slot).above c.args.start.now c.args.next
    (subst (λ (q : Part). c.args.slot < length q.slots) (sym c.self.view_is) c.requires.free.low) (slots c)
