use Rattle.std.proofs.Common.{◌<◌, length, None, inl, sym, ap, subst, ◌∙◌, get_or-set_same}
use Rattle.std.specs.FinSet as sets
use Rattle.ert_table.specs.Desks.{settings_of, view_of}
use Rattle.ert_timers.specs.{Parts.Part, Starting.status_shown}
use Rattle.ert_timers.proofs.Lookings.{probe_is, looks_taken, looks_resting, looks_free}
use Rattle.ert_timers.proofs.part.WheelPart.look_at.Goals as goal
use Rattle.ert_wheel.specs.Rows.{key_in}

pub returns-then-is_taken-clause-call : goal.returns-then-is_taken-clause-call
returns-then-is_taken-clause-call c =
    let g = settings_of c.args.desk.now in
    let v = view_of c.args.pass.now in
    let u = view_of c.load_timer-shown.new.self in
    looks_taken g v c.args.by c.args.now c.args.self.now c.args.slot (status_shown c.load_timer-shown.result) u c.requires.stands c.requires.holds
    (subst (λ n. c.args.slot < n) c.requires.stands.holds.many c.requires.low) c.requires.away
    (probe_is g v c.args.by c.args.self.now.number c.number-wheel.result c.args.slot c.load_timer-shown.result u c.number-wheel.ensures
    c.load_timer-shown.ensures.step)
    (sym c.is_taken.ensures ∙ c.if-is_taken.true)

pub free_slot-requires-clause-low : goal.free_slot-requires-clause-low
free_slot-requires-clause-low c = subst (λ (p : Part). c.args.slot < length p.slots) (sym c.drop_row.ensures.left) c.requires.low

pub free_slot-requires-clause-away : goal.free_slot-requires-clause-away
free_slot-requires-clause-away c = ap (λ (p : Part). sets.contains p.free c.args.slot) c.drop_row.ensures.left ∙ c.requires.away

pub free_slot-requires-clause-vacant : goal.free_slot-requires-clause-vacant
free_slot-requires-clause-vacant c =
    let p = c.args.self.now in
    ap (λ (q : Part). key_in q.keys c.args.slot) c.drop_row.ensures.left
    ∙ get_or-set_same p.keys c.args.slot None None
    (subst (λ n. c.args.slot < n) (c.requires.stands.holds.many ∙ sym c.requires.stands.holds.wide) c.requires.low)

pub returns-clause-call : goal.returns-clause-call
returns-clause-call c =
    let g = settings_of c.args.desk.now in
    let v = view_of c.args.pass.now in
    let u = view_of c.load_timer-shown.new.self in
    looks_free g v c.args.by c.args.now c.args.self.now c.drop_row.new.self c.free_slot.new.self c.args.slot (status_shown c.load_timer-shown.result) u
    c.requires.stands c.requires.holds c.requires.past (subst (λ n. c.args.slot < n) c.requires.stands.holds.many c.requires.low)
    (probe_is g v c.args.by c.args.self.now.number c.number-wheel.result c.args.slot c.load_timer-shown.result u c.number-wheel.ensures
    c.load_timer-shown.ensures.step)
    (sym c.is_taken.ensures ∙ c.if-is_taken.false) c.drop_row.ensures.left (sym c.is_resting.ensures ∙ c.if-is_resting.false) c.free_slot.ensures

pub is_resting-requires : goal.is_resting-requires
is_resting-requires c = subst (λ (p : Part). c.args.slot < length p.slots) (sym c.drop_row.ensures.left) c.requires.low

pub returns-then-is_resting-clause-call : goal.returns-then-is_resting-clause-call
returns-then-is_resting-clause-call c =
    let g = settings_of c.args.desk.now in
    let v = view_of c.args.pass.now in
    let u = view_of c.load_timer-shown.new.self in
    looks_resting g v c.args.by c.args.now c.args.self.now c.drop_row.new.self c.args.slot (status_shown c.load_timer-shown.result) u
    c.requires.stands c.requires.holds (subst (λ n. c.args.slot < n) c.requires.stands.holds.many c.requires.low) c.requires.away
    (probe_is g v c.args.by c.args.self.now.number c.number-wheel.result c.args.slot c.load_timer-shown.result u c.number-wheel.ensures
    c.load_timer-shown.ensures.step)
    (sym c.is_taken.ensures ∙ c.if-is_taken.false) c.drop_row.ensures.left (sym c.is_resting.ensures ∙ c.if-is_resting.true)

pub drop_row-requires-clause-used : goal.drop_row-requires-clause-used
drop_row-requires-clause-used c = inl c.requires.away
