use Rattle.std.proofs.Common.{◌<◌, length, option_map, sym, ap, subst, ◌∙◌, arith}
use Rattle.ert_timers.specs.Parts.{Part}
use Rattle.ert_timers.proofs.part.WheelPart.row.Goals as goal
use Rattle.ert_wheel.specs.Rows.{key_in, told_at}

pub returns-then-slot-written : goal.returns-then-slot-written
returns-then-slot-written c =
    let fit = c.self.invariant.fit in
    let low = subst (λ (p : Part). c.args.slot < length p.slots) (sym c.self.view_is) c.requires in
    let none = fit.vacant c.args.slot (fit.unwritten c.args.slot (omega (arith, c.if-slot-written.true, c.written.ensures.written)) low) in
    sym (ap (option_map (told_at c.args.slot)) (sym (ap (λ (p : Part). key_in p.keys c.args.slot) c.self.view_is) ∙ none))

pub row-requires : goal.row-requires
row-requires c = omega (arith, c.if-slot-written.false, c.written.ensures.written)
