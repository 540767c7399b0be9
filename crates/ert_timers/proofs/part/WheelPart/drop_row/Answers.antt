use Rattle.std.proofs.Common.{◌≡◌, ◌<◌, length, refl, sym, ap, subst, ◌∙◌}
use Rattle.std.specs.Bool.{OnTrue}
use Rattle.ert_timers.proofs.{Joined.joined_same, Fit.{some_key, fit_removed, fit_lost, fit_same, written_used}, Keeping.on_if, part.WheelPart.drop_row.Goals.After-remove}
use Rattle.ert_timers.specs.{Changes.{LostRow, dropped}, Freeing.IsInUse, Parts.{Part, all_slots}, Free.free_set, declared.slot.Stored.Stored}
use Rattle.ert_timers.specs.contracts.part.WheelPart.{the_view}
use Rattle.ert_timers.proofs.part.WheelPart.drop_row.Goals as goal
use Rattle.ert_wheel.specs.Rows.{Held, key_in}

pub remove-requires : goal.remove-requires
remove-requires c =
    (written_used (the_view c.self.inside) (free_set c.self.inside.free) c.self.inside.wheel.owners c.args.slot c.self.invariant.fit refl
    (subst (λ (q : Part). c.args.slot < length q.slots) (sym c.self.view_is) c.requires.low) (subst (λ (q : Part). IsInUse q c.args.slot) (sym c.self.view_is) c.requires.used))

-- the part is as it was but for the row
left : (c : After-remove) → (let q : Part = record (the_view c.self.inside) {
  processes = c.remove.new.self.owners.homes;
  slots = all_slots c.remove.new.self.values c.remove.new.self.owners.slots;
  keys = c.remove.new.self.keys;
  passed = c.remove.new.self.passed;
  stands = c.remove.new.self.stands;
} in q) ≡ dropped (the_view c.self.inside) c.args.slot
left c = λ i. (let q : Part = record (the_view c.self.inside) {
  processes = (c.remove.ensures.owners i).homes;
  slots = all_slots (c.remove.ensures.values i) (c.remove.ensures.owners i).slots;
  keys = c.remove.ensures.left i;
  passed = c.remove.ensures.passed i;
  stands = c.remove.ensures.stands i;
} in q)

pub invariant_of-self : goal.invariant_of-self
invariant_of-self c =
    let p = c.self.inside in
    let new = c.remove.new.self in
    record {
      fit =
          fit_same (λ i. all_slots (c.remove.ensures.values i) (c.remove.ensures.owners i).slots) refl refl
          (fit_removed (all_slots p.wheel.values p.wheel.owners.slots) p.wheel.keys new.keys (free_set p.free) p.wheel.owners new.owners p.arms p.expires p.orphans
          c.args.slot c.self.invariant.fit c.remove.ensures.left c.remove.ensures.owners);
      joined = joined_same p.wheel.values new.values p.wheel.owners new.owners c.remove.ensures.values c.remove.ensures.owners c.self.invariant.joined;
    }

pub returns-clause-left : goal.returns-clause-left
returns-clause-left c = left c ∙ ap (λ (p : Part). dropped p c.args.slot) c.self.view_is

pub returns-clause-lost : goal.returns-clause-lost
returns-clause-lost c =
    let p = c.self.inside in
    subst (λ (q : Part). OnTrue c.remove.result (LostRow q c.args.slot)) (sym (left c))
    (on_if c.remove.result (LostRow (dropped (the_view p) c.args.slot) c.args.slot) (λ hit.
    let has = some_key (key_in p.wheel.keys c.args.slot) (c.remove.ensures.found.0 hit) in
    fit_lost (the_view p) p.wheel.owners (free_set p.free) c.args.slot has.0 c.self.invariant.fit refl has.1))

pub returns-clause-none : goal.returns-clause-none
returns-clause-none c = λ none.
    let same = c.remove.ensures.none (ap (λ (q : Part). key_in q.keys c.args.slot) c.self.view_is ∙ none) in
    ap (λ (h : Held Stored). let q : Part = record (the_view c.self.inside) {
      processes = h.owners.homes;
      slots = all_slots h.values h.owners.slots;
      keys = h.keys;
      passed = h.passed;
      stands = h.stands;
    } in q) same
    ∙ c.self.view_is
