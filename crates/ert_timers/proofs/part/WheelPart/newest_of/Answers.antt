use Rattle.std.proofs.Common.{◌≡◌, ◌<◌, ◌∙◌, ap, option_map, refl, sym, subst}
use Rattle.ert_timers.specs.{Changes.NextOf, Parts.{Part, all_slots}, Free.free_set}
use Rattle.ert_timers.specs.contracts.part.WheelPart.{the_view}
use Rattle.ert_timers.proofs.{Fit.{fit_owned, fit_same}, Keeping.{next_found, owned_thinned}, part.WheelPart.newest_of.Goals.After-find_row}
use Rattle.ert_wheel.specs.Rows.{row_told}
use Rattle.ert_timers.proofs.part.WheelPart.newest_of.Goals as goal

pub find_row-requires-clause-process : goal.find_row-requires-clause-process
find_row-requires-clause-process c = subst (λ (q : Part). c.args.process < q.processes) (sym c.self.view_is) c.requires

pub find_row-requires-clause-may : goal.find_row-requires-clause-may
find_row-requires-clause-may c =
    let fit = c.self.invariant.fit in
    record { wide = fit.wide ∙ sym fit.owned; places = fit.chained.places; are = fit.chained.are }

pub invariant_of-self : goal.invariant_of-self
invariant_of-self c =
    let p = c.self.inside in
    let fit = c.self.invariant.fit in
    let new = c.find_row.new.wheel in
    let finds = c.find_row.ensures.finds fit.chained.places fit.chained.are in
    let slots = all_slots p.wheel.values p.wheel.owners.slots in
    record {
      fit =
          fit_same (c.find_row.ensures.stored new.owners.slots ∙ ap (all_slots p.wheel.values) c.find_row.ensures.slots) c.find_row.ensures.keys refl
          (fit_owned slots p.wheel.keys (free_set p.free) p.wheel.owners new.owners p.arms p.expires p.orphans fit c.find_row.ensures.slots
          c.find_row.ensures.homes c.find_row.ensures.written
          (owned_thinned slots p.wheel.keys p.wheel.owners new.owners p.arms finds.left fit.chained finds.thinned));
      joined = c.find_row.ensures.joined c.self.invariant.joined;
    }

-- the part that is seen is the same
same : (c : After-find_row) → (let q : Part = record (the_view c.self.inside) {
  processes = c.find_row.new.wheel.owners.homes;
  slots = all_slots c.find_row.new.wheel.values c.find_row.new.wheel.owners.slots;
  keys = c.find_row.new.wheel.keys;
  passed = c.find_row.new.wheel.passed;
  stands = c.find_row.new.wheel.stands;
} in q) ≡ the_view c.self.inside
same c = λ i. (let q : Part = record (the_view c.self.inside) {
  processes = c.find_row.ensures.homes i;
  slots = (c.find_row.ensures.stored c.find_row.new.wheel.owners.slots ∙ ap (all_slots c.self.inside.wheel.values) c.find_row.ensures.slots) i;
  keys = c.find_row.ensures.keys i;
  passed = c.find_row.ensures.passed i;
  stands = c.find_row.ensures.stands i;
} in q)

pub returns-clause-part : goal.returns-clause-part
returns-clause-part c = same c ∙ c.self.view_is

pub returns-clause-row : goal.returns-clause-row
returns-clause-row c =
    let fit = c.self.invariant.fit in
    let p = c.self.inside in
    subst (λ (q : Part). NextOf q c.args.process (option_map (row_told q.keys) c.find_row.result)) (sym (same c))
    (next_found (the_view p) (free_set p.free) p.wheel.owners c.find_row.new.wheel.owners c.args.process (option_map (row_told p.wheel.keys) c.find_row.result) fit
    (c.find_row.ensures.finds fit.chained.places fit.chained.are))
