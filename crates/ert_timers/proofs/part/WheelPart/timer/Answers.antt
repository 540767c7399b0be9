use Rattle.std.proofs.Common.{◌<◌, length, refl, sym, ap, subst, ◌∙◌, rules, arith}
use Rattle.ert_timers.specs.{Freeing.IsInUse, Parts.{Part, slot_at}, Free.free_set}
use Rattle.ert_timers.specs.contracts.part.WheelPart.{the_view}
use Rattle.ert_timers.proofs.{AllSlots.{all_len, read_at}, Fit.written_used}
use Rattle.ert_timers.proofs.part.WheelPart.timer.Goals as goal

pub value-last-requires : goal.value-last-requires
value-last-requires c =
    (written_used (the_view c.self.inside) (free_set c.self.inside.free) c.self.inside.wheel.owners c.args.row.slot c.self.invariant.fit refl
    (subst (λ (q : Part). c.args.row.slot < length q.slots) (sym c.self.view_is) c.requires.low) (subst (λ (q : Part). IsInUse q c.args.row.slot) (sym c.self.view_is) c.requires.used))

pub returns : goal.returns
returns c =
    let w = c.self.inside.wheel in
    let low = subst (λ (p : Part). c.args.row.slot < length p.slots) (sym c.self.view_is) c.requires.low in
    let read = sym (ap (λ (p : Part). slot_at p.slots c.args.row.slot) c.self.view_is)
    ∙ read_at w.values w.owners.slots c.args.row.slot c.value-last.result c.value-last.ensures (omega (arith, low, all_len w.values w.owners.slots)) in
    search (rules, read)
