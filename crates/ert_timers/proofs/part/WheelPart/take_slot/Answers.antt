use Rattle.std.proofs.Common.{sym, ap, subst, ◌∙◌}
use Rattle.std.specs.FinSet as sets
use Rattle.ert_table.specs.Desks.{settings_of, view_of}
use Rattle.ert_timers.specs.{Looking.now_in, Parts.{HoldsCaller, Part, PartStands}, Starting.TakesSlot}
use Rattle.ert_timers.proofs.Takings.{takes_first, takes_then}
use Rattle.ert_timers.proofs.part.WheelPart.take_slot.Goals as goal

pub returns-in-Some-clause-call : goal.returns-in-Some-clause-call
returns-in-Some-clause-call c =
    takes_first (settings_of c.args.desk.now) (view_of c.args.pass.now) c.args.by (now_in c.args.ahead) c.args.self.now c.pick.new.self c.in-Some.slot c.requires.stands
    c.requires.now
    c.in-Some.ensures.picked c.in-Some.ensures.usable c.in-Some.ensures.held

pub look_around-requires-clause-none : goal.look_around-requires-clause-none
look_around-requires-clause-none c = λ slot.
    ap (λ (p : Part). sets.contains p.free slot) c.in_default.ensures.unchanged ∙ c.in_default.ensures.none slot

pub look_around-requires-clause-holds : goal.look_around-requires-clause-holds
look_around-requires-clause-holds c =
    subst (λ (p : Part). HoldsCaller (settings_of c.args.desk.now) (view_of c.args.pass.now) c.args.by p.number) (sym c.in_default.ensures.unchanged)
    c.requires.holds

pub look_around-requires-clause-stands : goal.look_around-requires-clause-stands
look_around-requires-clause-stands c =
    subst (λ (p : Part). PartStands (settings_of c.args.desk.now) (view_of c.args.pass.now).front p) (sym c.in_default.ensures.unchanged)
    c.requires.stands

pub returns-clause-call : goal.returns-clause-call
returns-clause-call c =
    let g = settings_of c.args.desk.now in
    let v = view_of c.args.pass.now in
    let w = view_of c.look_around.new.pass in
    let down = c.rounded_down.ensures in
    subst (λ n. TakesSlot g v c.args.by n c.args.self.now c.pick-2.new.self c.pick-2.result w) down
    (takes_then g v c.args.by c.rounded_down.result c.args.self.now c.pick.new.self c.look_around.new.self
    c.pick-2.new.self c.pick-2.result w c.requires.stands (down ∙ c.requires.now) c.in_default.ensures.unchanged
    (λ slot. ap (λ (p : Part). sets.contains p.free slot) c.in_default.ensures.unchanged ∙ c.in_default.ensures.none slot)
    c.look_around.ensures.call c.pick-2.ensures.none c.pick-2.ensures.unchanged
    c.pick-2.ensures.held c.pick-2.ensures.picked c.pick-2.ensures.usable)
