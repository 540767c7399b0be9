use Rattle.std.proofs.Common.{◌≡◌, ◌+◌, ◌∙◌, Some, None, arith, sym, inr}
use Rattle.ert_timers.specs.{Parts.all_slots, Free.free_set}
use Rattle.ert_timers.proofs.{Fit.{fit_counted, some_key}, Keeping.{byte_low, lost_seen}}
use Rattle.ert_timers.proofs.part.WheelPart.let_go.Goals as goal

pub overflow_add-self : goal.overflow_add-self
overflow_add-self c =
    let lost =
    lost_seen _ c.drop_row.new.self c.args.slot c.drop_row.result c.self.view_is (c.drop_row.ensures.found.1 c.requires.held) c.drop_row.ensures.lost in
    omega (arith, lost.few, lost.room, byte_low c.args.expired c.from.result c.from.ensures)

pub invariant_of-self : goal.invariant_of-self
invariant_of-self c =
    let p = c.self.inside in
    let lost =
    lost_seen _ c.drop_row.new.self c.args.slot c.drop_row.result c.self.view_is (c.drop_row.ensures.found.1 c.requires.held) c.drop_row.ensures.lost in
    record {
      fit =
          fit_counted (all_slots p.wheel.values p.wheel.owners.slots) p.wheel.keys (free_set p.free) p.wheel.owners p.arms p.expires p.orphans (p.expires + c.from.result) p.orphans
          c.self.invariant.fit (omega (arith, lost.room, byte_low c.args.expired c.from.result c.from.ensures));
      joined = c.self.invariant.joined;
    }

pub drop_row-requires-clause-used : goal.drop_row-requires-clause-used
drop_row-requires-clause-used c =
    let has = some_key _ c.requires.held in
    inr (λ none. let no : Some has.0 ≡ None = sym has.1 ∙ none in cc)
