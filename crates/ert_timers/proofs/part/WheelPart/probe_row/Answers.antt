use Rattle.std.proofs.Common.{sym, ◌∙◌}
use Rattle.ert_table.specs.Desks.{settings_of, view_of}
use Rattle.ert_timers.specs.Starting.{status_shown}
use Rattle.ert_timers.proofs.Probed.{probed_is, probed_stands, probed_settled, probes_armed, probes_settled}
use Rattle.ert_timers.proofs.part.WheelPart.probe_row.Goals as goal

pub returns-then-is_armed-clause-call : goal.returns-then-is_armed-clause-call
returns-then-is_armed-clause-call c =
    let g = settings_of c.args.desk.now in
    let v = view_of c.args.pass.now in
    let u = view_of c.load_timer-shown.new.self in
    probes_armed g v c.args.self.now c.args.slot (status_shown c.load_timer-shown.result) u c.requires.stands c.requires.holds c.requires.low
    (probed_is g v c.args.self.now.number c.number-wheel.result c.args.slot c.load_timer-shown.result u c.number-wheel.ensures c.load_timer-shown.ensures.step)
    (sym c.is_armed.ensures ∙ c.if-is_armed.true)

pub forget_last-requires-clause-stands : goal.forget_last-requires-clause-stands
forget_last-requires-clause-stands c =
    let g = settings_of c.args.desk.now in
    let v = view_of c.args.pass.now in
    let u = view_of c.load_timer-shown.new.self in
    probed_stands g v c.args.self.now c.args.slot (status_shown c.load_timer-shown.result) u c.requires.stands c.requires.holds
    (probed_is g v c.args.self.now.number c.number-wheel.result c.args.slot c.load_timer-shown.result u c.number-wheel.ensures c.load_timer-shown.ensures.step)

pub forget_last-requires-clause-settled : goal.forget_last-requires-clause-settled
forget_last-requires-clause-settled c =
    let g = settings_of c.args.desk.now in
    let v = view_of c.args.pass.now in
    let u = view_of c.load_timer-shown.new.self in
    probed_settled g v c.args.self.now c.args.slot (status_shown c.load_timer-shown.result) u c.requires.stands c.requires.holds c.requires.low
    (probed_is g v c.args.self.now.number c.number-wheel.result c.args.slot c.load_timer-shown.result u c.number-wheel.ensures c.load_timer-shown.ensures.step)
    (sym c.is_armed.ensures ∙ c.if-is_armed.false)

pub returns-clause-call : goal.returns-clause-call
returns-clause-call c =
    let g = settings_of c.args.desk.now in
    let v = view_of c.args.pass.now in
    let u = view_of c.load_timer-shown.new.self in
    probes_settled g v c.args.self.now c.forget_last.new.self c.args.slot (status_shown c.load_timer-shown.result) u c.requires.stands c.requires.holds c.requires.low
    (probed_is g v c.args.self.now.number c.number-wheel.result c.args.slot c.load_timer-shown.result u c.number-wheel.ensures c.load_timer-shown.ensures.step)
    (sym c.is_armed.ensures ∙ c.if-is_armed.false) c.forget_last.ensures.stands c.forget_last.ensures.part
