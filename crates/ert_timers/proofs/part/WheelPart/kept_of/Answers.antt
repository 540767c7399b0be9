use Rattle.std.proofs.Common.{◌<◌, length, sym, ap, subst, ◌∙◌, arith}
use Rattle.ert_timers.specs.{Parts.{Part, slot_at}, Slots.stored_slot}
use Rattle.ert_timers.proofs.AllSlots.{all_len, read_at, unused_at}
use Rattle.ert_timers.proofs.part.WheelPart.kept_of.Goals as goal

pub returns-then-slot-written : goal.returns-then-slot-written
returns-then-slot-written c =
    let w = c.self.inside.wheel in
    let low = subst (λ (p : Part). c.args.slot < length p.slots) (sym c.self.view_is) c.requires in
    ap stored_slot c.unused.ensures ∙ (sym (unused_at w.values w.owners.slots c.args.slot (omega (arith, c.if-slot-written.true, c.written.ensures.values)) (omega (arith, low, all_len w.values w.owners.slots)))
    ∙ ap (λ (p : Part). slot_at p.slots c.args.slot) c.self.view_is)

pub value-requires : goal.value-requires
value-requires c = omega (arith, c.if-slot-written.false, c.written.ensures.written)

pub returns : goal.returns
returns c =
    let w = c.self.inside.wheel in
    let low = subst (λ (p : Part). c.args.slot < length p.slots) (sym c.self.view_is) c.requires in
    sym (read_at w.values w.owners.slots c.args.slot c.value.result c.value.ensures (omega (arith, low, all_len w.values w.owners.slots)))
    ∙ ap (λ (p : Part). slot_at p.slots c.args.slot) c.self.view_is
