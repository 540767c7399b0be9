use Rattle.std.proofs.Common.{refl, sym, ap, ◌∙◌}
use Rattle.std.specs.FinSet as sets
use Rattle.ert_defs.specs.States.{state}
use Rattle.ert_table.specs.Desks.{settings_of, view_of}
use Rattle.ert_timers.proofs.{Moved.{cancel_missed, freed_again, gains_moved, gone_armed, is_cancelled, slot_cancelled, slot_read}, Freed.{freed_keeps, freed_there}, Orphaned.still_caller, Passing.same_last, Renewed.cancel_calm}
use Rattle.ert_timers.proofs.{Renewed.{gone_renewed, is_read, missed_at, missed_then, not_read, peek_calm, renewed}}
use Rattle.ert_timers.specs.Parts.{Part}
use Rattle.ert_timers.proofs.part.WheelPart.restart_in.Goals as goal

pub returns-in_default-clause-stands : goal.returns-in_default-clause-stands
returns-in_default-clause-stands c =
    let g = settings_of c.args.desk.now in
    let v = view_of c.args.pass.now in
    let u = view_of c.peek_word.new.self in
    let p = c.args.self.now in
    let peek = not_read g v u c.args.by c.args.timer c.peek_word.result c.in_default.is c.peek_word.ensures.step in
    freed_again g u.front c.args.by p c.free_slot.new.self c.args.slot c.args.start.now c.args.next
    (peek_calm g v c.args.by c.args.timer _ u p c.requires.stands c.requires.holds peek)
    (slot_read g v u c.args.by p c.args.timer _ c.args.slot c.args.start.now c.args.next c.requires.stands c.requires.holds peek c.requires.found) c.free_slot.ensures

pub returns-in_default-clause-call : goal.returns-in_default-clause-call
returns-in_default-clause-call c =
    let g = settings_of c.args.desk.now in
    let v = view_of c.args.pass.now in
    let u = view_of c.peek_word.new.self in
    missed_at g v u c.args.by c.args.self.now.number c.args.timer c.args.start.now
    (not_read g v u c.args.by c.args.timer c.peek_word.result c.in_default.is c.peek_word.ensures.step)

pub returns-then-not-cancel_word-clause-stands : goal.returns-then-not-cancel_word-clause-stands
returns-then-not-cancel_word-clause-stands c =
    let read = is_read (settings_of c.args.desk.now) (view_of c.args.pass.now) (view_of c.peek_word.new.self) c.args.by c.args.self.now c.args.timer c.peek_word.result c.in-Some.read c.in-Some.is
    c.peek_word.ensures.step c.requires.stands c.requires.holds in
    let g = settings_of c.args.desk.now in
    let u = view_of c.peek_word.new.self in
    let x = view_of c.cancel_word.new.self in
    let p = c.args.self.now in
    let missed = cancel_missed g u c.args.by c.args.timer _ c.cancel_word.result x c.if-not-cancel_word.true c.cancel_word.ensures.step in
    freed_again g x.front c.args.by p c.free_slot-then-not-cancel_word.new.self c.args.slot c.args.start.now c.args.next
    (cancel_calm g u c.args.by c.args.timer _ x p read.stands read.holds missed)
    (slot_cancelled g u x c.args.by p c.args.timer _ c.args.slot c.args.start.now c.args.next read.stands read.holds missed
    (slot_read g (view_of c.args.pass.now) u c.args.by p c.args.timer _ c.args.slot c.args.start.now c.args.next c.requires.stands c.requires.holds read.step c.requires.found))
    c.free_slot-then-not-cancel_word.ensures

pub returns-then-not-cancel_word-clause-call : goal.returns-then-not-cancel_word-clause-call
returns-then-not-cancel_word-clause-call c =
    let read = is_read (settings_of c.args.desk.now) (view_of c.args.pass.now) (view_of c.peek_word.new.self) c.args.by c.args.self.now c.args.timer c.peek_word.result c.in-Some.read c.in-Some.is
    c.peek_word.ensures.step c.requires.stands c.requires.holds in
    let g = settings_of c.args.desk.now in
    let u = view_of c.peek_word.new.self in
    let x = view_of c.cancel_word.new.self in
    missed_then g (view_of c.args.pass.now) u x c.args.by c.args.self.now.number c.args.timer c.args.start.now read.found read.step
    (cancel_missed g u c.args.by c.args.timer _ c.cancel_word.result x c.if-not-cancel_word.true c.cancel_word.ensures.step)

pub let_go_of-requires-clause-stands : goal.let_go_of-requires-clause-stands
let_go_of-requires-clause-stands c =
    let read = is_read (settings_of c.args.desk.now) (view_of c.args.pass.now) (view_of c.peek_word.new.self) c.args.by c.args.self.now c.args.timer c.peek_word.result c.in-Some.read c.in-Some.is
    c.peek_word.ensures.step c.requires.stands c.requires.holds in
    let done = is_cancelled (settings_of c.args.desk.now) (view_of c.args.pass.now) (view_of c.peek_word.new.self) (view_of c.cancel_word.new.self) c.args.by c.args.self.now c.args.timer
    c.args.slot c.args.start.now c.args.next c.in-Some.read c.cancel_word.result read c.requires.stands c.requires.holds c.requires.found c.if-not-cancel_word.false c.cancel_word.ensures.step in
    done.stands

pub let_go_of-requires-clause-held : goal.let_go_of-requires-clause-held
let_go_of-requires-clause-held c =
    let read = is_read (settings_of c.args.desk.now) (view_of c.args.pass.now) (view_of c.peek_word.new.self) c.args.by c.args.self.now c.args.timer c.peek_word.result c.in-Some.read c.in-Some.is
    c.peek_word.ensures.step c.requires.stands c.requires.holds in
    let done = is_cancelled (settings_of c.args.desk.now) (view_of c.args.pass.now) (view_of c.peek_word.new.self) (view_of c.cancel_word.new.self) c.args.by c.args.self.now c.args.timer
    c.args.slot c.args.start.now c.args.next c.in-Some.read c.cancel_word.result read c.requires.stands c.requires.holds c.requires.found c.if-not-cancel_word.false c.cancel_word.ensures.step in
    done.held

pub let_go_of-requires-clause-settled : goal.let_go_of-requires-clause-settled
let_go_of-requires-clause-settled c =
    let read = is_read (settings_of c.args.desk.now) (view_of c.args.pass.now) (view_of c.peek_word.new.self) c.args.by c.args.self.now c.args.timer c.peek_word.result c.in-Some.read c.in-Some.is
    c.peek_word.ensures.step c.requires.stands c.requires.holds in
    let done = is_cancelled (settings_of c.args.desk.now) (view_of c.args.pass.now) (view_of c.peek_word.new.self) (view_of c.cancel_word.new.self) c.args.by c.args.self.now c.args.timer
    c.args.slot c.args.start.now c.args.next c.in-Some.read c.cancel_word.result read c.requires.stands c.requires.holds c.requires.found c.if-not-cancel_word.false c.cancel_word.ensures.step in
    done.settled

pub arm-named-requires-clause-holds : goal.arm-named-requires-clause-holds
arm-named-requires-clause-holds c =
    let read = is_read (settings_of c.args.desk.now) (view_of c.args.pass.now) (view_of c.peek_word.new.self) c.args.by c.args.self.now c.args.timer c.peek_word.result c.in-Some.read c.in-Some.is
    c.peek_word.ensures.step c.requires.stands c.requires.holds in
    let done = is_cancelled (settings_of c.args.desk.now) (view_of c.args.pass.now) (view_of c.peek_word.new.self) (view_of c.cancel_word.new.self) c.args.by c.args.self.now c.args.timer
    c.args.slot c.args.start.now c.args.next c.in-Some.read c.cancel_word.result read c.requires.stands c.requires.holds c.requires.found c.if-not-cancel_word.false c.cancel_word.ensures.step in
    let m = view_of c.cancel_word.new.self in
    still_caller (settings_of c.args.desk.now) m m c.args.by c.args.self.now.number c.let_go_of.new.self.number done.holds refl c.let_go_of.ensures.number

pub arm-named-requires-clause-stands : goal.arm-named-requires-clause-stands
arm-named-requires-clause-stands c = c.let_go_of.ensures.stands

pub arm-named-requires-clause-free : goal.arm-named-requires-clause-free
arm-named-requires-clause-free c =
    let read = is_read (settings_of c.args.desk.now) (view_of c.args.pass.now) (view_of c.peek_word.new.self) c.args.by c.args.self.now c.args.timer c.peek_word.result c.in-Some.read c.in-Some.is
    c.peek_word.ensures.step c.requires.stands c.requires.holds in
    let done = is_cancelled (settings_of c.args.desk.now) (view_of c.args.pass.now) (view_of c.peek_word.new.self) (view_of c.cancel_word.new.self) c.args.by c.args.self.now c.args.timer
    c.args.slot c.args.start.now c.args.next c.in-Some.read c.cancel_word.result read c.requires.stands c.requires.holds c.requires.found c.if-not-cancel_word.false c.cancel_word.ensures.step in
    (c.let_go_of.ensures.slots (state (settings_of c.args.desk.now) (view_of c.cancel_word.new.self).front) c.args.by c.args.slot c.args.start.now c.args.next done.slot).free

pub arm-named-requires-clause-usable : goal.arm-named-requires-clause-usable
arm-named-requires-clause-usable c =
    let read = is_read (settings_of c.args.desk.now) (view_of c.args.pass.now) (view_of c.peek_word.new.self) c.args.by c.args.self.now c.args.timer c.peek_word.result c.in-Some.read c.in-Some.is
    c.peek_word.ensures.step c.requires.stands c.requires.holds in
    let done = is_cancelled (settings_of c.args.desk.now) (view_of c.args.pass.now) (view_of c.peek_word.new.self) (view_of c.cancel_word.new.self) c.args.by c.args.self.now c.args.timer
    c.args.slot c.args.start.now c.args.next c.in-Some.read c.cancel_word.result read c.requires.stands c.requires.holds c.requires.found c.if-not-cancel_word.false c.cancel_word.ensures.step in
    (c.let_go_of.ensures.slots (state (settings_of c.args.desk.now) (view_of c.cancel_word.new.self).front) c.args.by c.args.slot c.args.start.now c.args.next done.slot).usable

pub arm-named-requires-clause-next : goal.arm-named-requires-clause-next
arm-named-requires-clause-next c =
    let read = is_read (settings_of c.args.desk.now) (view_of c.args.pass.now) (view_of c.peek_word.new.self) c.args.by c.args.self.now c.args.timer c.peek_word.result c.in-Some.read c.in-Some.is
    c.peek_word.ensures.step c.requires.stands c.requires.holds in
    let done = is_cancelled (settings_of c.args.desk.now) (view_of c.args.pass.now) (view_of c.peek_word.new.self) (view_of c.cancel_word.new.self) c.args.by c.args.self.now c.args.timer
    c.args.slot c.args.start.now c.args.next c.in-Some.read c.cancel_word.result read c.requires.stands c.requires.holds c.requires.found c.if-not-cancel_word.false c.cancel_word.ensures.step in
    (c.let_go_of.ensures.slots (state (settings_of c.args.desk.now) (view_of c.cancel_word.new.self).front) c.args.by c.args.slot c.args.start.now c.args.next done.slot).coming

pub arm-named-requires-clause-few : goal.arm-named-requires-clause-few
arm-named-requires-clause-few c =
    let read = is_read (settings_of c.args.desk.now) (view_of c.args.pass.now) (view_of c.peek_word.new.self) c.args.by c.args.self.now c.args.timer c.peek_word.result c.in-Some.read c.in-Some.is
    c.peek_word.ensures.step c.requires.stands c.requires.holds in
    let done = is_cancelled (settings_of c.args.desk.now) (view_of c.args.pass.now) (view_of c.peek_word.new.self) (view_of c.cancel_word.new.self) c.args.by c.args.self.now c.args.timer
    c.args.slot c.args.start.now c.args.next c.in-Some.read c.cancel_word.result read c.requires.stands c.requires.holds c.requires.found c.if-not-cancel_word.false c.cancel_word.ensures.step in
    (c.let_go_of.ensures.slots (state (settings_of c.args.desk.now) (view_of c.cancel_word.new.self).front) c.args.by c.args.slot c.args.start.now c.args.next done.slot).few

pub end-requires-clause-holds : goal.end-requires-clause-holds
end-requires-clause-holds c =
    let read = is_read (settings_of c.args.desk.now) (view_of c.args.pass.now) (view_of c.peek_word.new.self) c.args.by c.args.self.now c.args.timer c.peek_word.result c.in-Some.read c.in-Some.is
    c.peek_word.ensures.step c.requires.stands c.requires.holds in
    let done = is_cancelled (settings_of c.args.desk.now) (view_of c.args.pass.now) (view_of c.peek_word.new.self) (view_of c.cancel_word.new.self) c.args.by c.args.self.now c.args.timer
    c.args.slot c.args.start.now c.args.next c.in-Some.read c.cancel_word.result read c.requires.stands c.requires.holds c.requires.found c.if-not-cancel_word.false c.cancel_word.ensures.step in
    still_caller (settings_of c.args.desk.now) (view_of c.cancel_word.new.self) (view_of c.arm-named.new.pass) c.args.by c.args.self.now.number c.arm-named.new.self.number
    done.holds c.arm-named.ensures.call.step.actors (ap (λ (p : Part). p.number) c.arm-named.ensures.call.part ∙ c.let_go_of.ensures.number)

pub end-requires-clause-stands : goal.end-requires-clause-stands
end-requires-clause-stands c = c.arm-named.ensures.call.stands

pub end-requires-clause-held : goal.end-requires-clause-held
end-requires-clause-held c = c.arm-named.ensures.call.holds

pub end-requires-clause-dest : goal.end-requires-clause-dest
end-requires-clause-dest c = c.arm-named.ensures.call.dest

pub returns-clause-number : goal.returns-clause-number
returns-clause-number c =
    c.end.ensures.call.number ∙ (ap (λ (p : Part). p.number) c.arm-named.ensures.call.part ∙ c.let_go_of.ensures.number)

pub returns-clause-stands : goal.returns-clause-stands
returns-clause-stands c = c.end.ensures.call.stands

pub returns-clause-call : goal.returns-clause-call
returns-clause-call c =
    let read = is_read (settings_of c.args.desk.now) (view_of c.args.pass.now) (view_of c.peek_word.new.self) c.args.by c.args.self.now c.args.timer c.peek_word.result c.in-Some.read c.in-Some.is
    c.peek_word.ensures.step c.requires.stands c.requires.holds in
    let done = is_cancelled (settings_of c.args.desk.now) (view_of c.args.pass.now) (view_of c.peek_word.new.self) (view_of c.cancel_word.new.self) c.args.by c.args.self.now c.args.timer
    c.args.slot c.args.start.now c.args.next c.in-Some.read c.cancel_word.result read c.requires.stands c.requires.holds c.requires.found c.if-not-cancel_word.false c.cancel_word.ensures.step in
    renewed (settings_of c.args.desk.now) (view_of c.args.pass.now) (view_of c.peek_word.new.self) (view_of c.cancel_word.new.self) (view_of c.arm-named.new.pass)
    (view_of c.end.new.pass) c.args.by c.args.self.now c.let_go_of.new.self c.arm-named.new.self c.end.new.self c.args.timer c.args.slot c.args.start.now c.args.next
    c.arm-named.result read.found read.step done.step c.arm-named.ensures.call c.end.ensures.call c.let_go_of.ensures.number

pub returns-clause-rows : goal.returns-clause-rows
returns-clause-rows c =
    gains_moved c.args.self.now c.let_go_of.new.self c.arm-named.new.self c.end.new.self c.arm-named.result c.let_go_of.ensures.loses c.arm-named.ensures.call.rows
    c.end.ensures.call.loses

pub returns-clause-gone : goal.returns-clause-gone
returns-clause-gone c =
    let read = is_read (settings_of c.args.desk.now) (view_of c.args.pass.now) (view_of c.peek_word.new.self) c.args.by c.args.self.now c.args.timer c.peek_word.result c.in-Some.read c.in-Some.is
    c.peek_word.ensures.step c.requires.stands c.requires.holds in
    let done = is_cancelled (settings_of c.args.desk.now) (view_of c.args.pass.now) (view_of c.peek_word.new.self) (view_of c.cancel_word.new.self) c.args.by c.args.self.now c.args.timer
    c.args.slot c.args.start.now c.args.next c.in-Some.read c.cancel_word.result read c.requires.stands c.requires.holds c.requires.found c.if-not-cancel_word.false c.cancel_word.ensures.step in
    gone_renewed c.arm-named.new.self c.end.new.self c.args.timer c.end.ensures.call.loses
    (gone_armed c.args.self.now c.let_go_of.new.self c.arm-named.new.self c.args.timer c.args.slot c.args.start.now c.args.next c.requires.found.free done.held
    c.let_go_of.ensures.gone c.let_go_of.ensures.number c.arm-named.ensures.call.part)

pub returns-in_default-clause-frees : goal.returns-in_default-clause-frees
returns-in_default-clause-frees c = freed_keeps c.args.self.now c.free_slot.new.self c.args.slot c.free_slot.ensures

pub returns-in_default-clause-back : goal.returns-in_default-clause-back
returns-in_default-clause-back c = freed_there c.args.self.now c.free_slot.new.self c.args.slot c.free_slot.ensures

pub returns-then-not-cancel_word-clause-frees : goal.returns-then-not-cancel_word-clause-frees
returns-then-not-cancel_word-clause-frees c =
    freed_keeps c.args.self.now c.free_slot-then-not-cancel_word.new.self c.args.slot c.free_slot-then-not-cancel_word.ensures

pub returns-then-not-cancel_word-clause-back : goal.returns-then-not-cancel_word-clause-back
returns-then-not-cancel_word-clause-back c =
    freed_there c.args.self.now c.free_slot-then-not-cancel_word.new.self c.args.slot c.free_slot-then-not-cancel_word.ensures

pub returns-clause-frees : goal.returns-clause-frees
returns-clause-frees c = λ k was.
    c.end.ensures.call.loses.frees k (ap (λ (p : Part). sets.contains p.free k) c.arm-named.ensures.call.part ∙ c.let_go_of.ensures.frees k was)

pub returns-clause-back : goal.returns-clause-back
returns-clause-back c =
    c.arm-named.ensures.call.named ∙ sym (same_last c.arm-named.new.self c.end.new.self c.args.slot c.end.ensures.call.loses)
