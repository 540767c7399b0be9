use Rattle.std.proofs.Common.{inl, inr, refl, ap, ◌∙◌, arith}
use Rattle.ert_table.specs.Desks.{settings_of, view_of}
use Rattle.ert_timers.specs.{Changes.next_use, Looking.now_in, Parts.{Part, slot_at}}
use Rattle.ert_timers.proofs.{Orphaned.still_caller, Starts.{bad_arg, ahead_stands, now_is, use_ahead, is_at_end, is_full, is_started, gains_none, gains_started, searches}, Freed.{found_none, keeps_uses, none_uses, started_uses}}
use Rattle.ert_timers.proofs.{Passing.{fewer_rows, loses_none}, Searched.finds_open}
use Rattle.ert_timers.proofs.part.WheelPart.start.Goals as goal

pub take_slot-requires-clause-holds : goal.take_slot-requires-clause-holds
take_slot-requires-clause-holds c =
    still_caller (settings_of c.args.desk.now) (view_of c.args.pass.now) (view_of c.look_ahead.new.pass) c.args.by c.args.self.now.number
    c.args.self.now.number c.requires.holds c.look_ahead.ensures.looks.step.actors refl

pub take_slot-requires-clause-stands : goal.take_slot-requires-clause-stands
take_slot-requires-clause-stands c =
    ahead_stands (settings_of c.args.desk.now) (view_of c.args.pass.now) c.args.by c.args.start.now c.look_ahead.result
    (view_of c.look_ahead.new.pass) c.args.self.now c.requires.stands c.requires.holds c.look_ahead.ensures.looks

pub arm-timer-requires-clause-holds : goal.arm-timer-requires-clause-holds
arm-timer-requires-clause-holds c =
    still_caller (settings_of c.args.desk.now) (view_of c.args.pass.now) (view_of c.take_slot.new.pass) c.args.by c.args.self.now.number
    c.take_slot.new.self.number c.requires.holds
    (c.take_slot.ensures.call.call.actors ∙ c.look_ahead.ensures.looks.step.actors) c.take_slot.ensures.call.number

pub arm-timer-requires-clause-stands : goal.arm-timer-requires-clause-stands
arm-timer-requires-clause-stands c = c.take_slot.ensures.call.stands

pub arm-timer-requires-clause-free : goal.arm-timer-requires-clause-free
arm-timer-requires-clause-free c = c.in-Some-take_slot.ensures.call.finds

pub arm-timer-requires-clause-usable : goal.arm-timer-requires-clause-usable
arm-timer-requires-clause-usable c = c.in-Some-take_slot.ensures.call.usable

pub take_slot-requires-clause-now : goal.take_slot-requires-clause-now
take_slot-requires-clause-now c =
    now_is (settings_of c.args.desk.now) (view_of c.args.pass.now) c.args.by c.args.start.now c.look_ahead.result c.in-Some.ahead
    (view_of c.look_ahead.new.pass) c.in-Some.is c.look_ahead.ensures.looks

pub arm-timer-requires-clause-next : goal.arm-timer-requires-clause-next
arm-timer-requires-clause-next c =
    use_ahead (settings_of c.args.desk.now) (view_of c.args.pass.now) c.args.by c.args.self.now c.take_slot.new.self c.args.start.now
    c.look_ahead.result c.in-Some.ahead c.take_slot.result c.in-Some-take_slot.slot c.next_use-next.result (view_of c.look_ahead.new.pass)
    (view_of c.take_slot.new.pass) c.requires.holds c.in-Some.is c.in-Some-take_slot.is c.in-Some.ensures.now c.in-Some.ensures.deadline
    c.look_ahead.ensures.looks c.take_slot.ensures.call
    (c.next_use-next.ensures
    ∙ ap (λ n. next_use (slot_at c.take_slot.new.self.slots c.in-Some-take_slot.slot).generation n c.in-Some.ahead.deadline) c.rounded_down.ensures)

pub arm-timer-requires-clause-few : goal.arm-timer-requires-clause-few
arm-timer-requires-clause-few c = omega (arith, c.take_slot.ensures.call.arms, c.arms.ensures, c.if-arms-ge-MOST_TIMERS.false)

pub end-requires-clause-holds : goal.end-requires-clause-holds
end-requires-clause-holds c =
    still_caller (settings_of c.args.desk.now) (view_of c.args.pass.now) (view_of c.arm-timer.new.pass) c.args.by c.args.self.now.number
    c.arm-timer.new.self.number c.requires.holds
    (c.arm-timer.ensures.call.step.actors ∙ (c.take_slot.ensures.call.call.actors ∙ c.look_ahead.ensures.looks.step.actors))
    (ap (λ (p : Part). p.number) c.arm-timer.ensures.call.part ∙ c.take_slot.ensures.call.number)

pub end-requires-clause-stands : goal.end-requires-clause-stands
end-requires-clause-stands c = c.arm-timer.ensures.call.stands

pub end-requires-clause-held : goal.end-requires-clause-held
end-requires-clause-held c = c.arm-timer.ensures.call.holds

pub end-requires-clause-dest : goal.end-requires-clause-dest
end-requires-clause-dest c = c.arm-timer.ensures.call.dest

pub returns-clause-call : goal.returns-clause-call
returns-clause-call c =
    is_started (settings_of c.args.desk.now) (view_of c.args.pass.now) c.args.by c.args.self.now c.take_slot.new.self c.arm-timer.new.self
    c.end.new.self c.args.start.now c.look_ahead.result (now_in c.in-Some.ahead) c.take_slot.result c.in-Some-take_slot.slot c.next_use-next.result c.arm-timer.result
    (view_of c.look_ahead.new.pass) (view_of c.take_slot.new.pass) (view_of c.arm-timer.new.pass) (view_of c.end.new.pass)
    c.look_ahead.ensures.looks c.take_slot.ensures.call c.arm-timer.ensures.call c.end.ensures.call

pub returns-clause-number : goal.returns-clause-number
returns-clause-number c =
    c.end.ensures.call.number ∙ (ap (λ (p : Part). p.number) c.arm-timer.ensures.call.part ∙ c.take_slot.ensures.call.number)

pub returns-clause-stands : goal.returns-clause-stands
returns-clause-stands c = c.end.ensures.call.stands

pub returns-in_default-clause-call : goal.returns-in_default-clause-call
returns-in_default-clause-call c =
    bad_arg (settings_of c.args.desk.now) (view_of c.args.pass.now) c.args.by c.args.self.now.number c.args.start.now c.look_ahead.result
    (view_of c.look_ahead.new.pass) c.in_default.is c.look_ahead.ensures.looks

pub returns-in_default-clause-stands : goal.returns-in_default-clause-stands
returns-in_default-clause-stands c =
    ahead_stands (settings_of c.args.desk.now) (view_of c.args.pass.now) c.args.by c.args.start.now c.look_ahead.result
    (view_of c.look_ahead.new.pass) c.args.self.now c.requires.stands c.requires.holds c.look_ahead.ensures.looks

pub returns-in_default-take_slot-clause-number : goal.returns-in_default-take_slot-clause-number
returns-in_default-take_slot-clause-number c = c.take_slot.ensures.call.number

pub returns-in_default-take_slot-clause-stands : goal.returns-in_default-take_slot-clause-stands
returns-in_default-take_slot-clause-stands c = c.take_slot.ensures.call.stands

pub returns-in_default-take_slot-clause-call : goal.returns-in_default-take_slot-clause-call
returns-in_default-take_slot-clause-call c =
    is_full (settings_of c.args.desk.now) (view_of c.args.pass.now) c.args.by c.args.self.now c.take_slot.new.self c.args.start.now
    c.look_ahead.result c.in-Some.ahead c.take_slot.result (view_of c.look_ahead.new.pass) (view_of c.take_slot.new.pass) c.requires.stands
    c.in-Some.is c.in_default-take_slot.is c.look_ahead.ensures.looks c.take_slot.ensures.call

pub returns-clause-rows : goal.returns-clause-rows
returns-clause-rows c =
    gains_started (settings_of c.args.desk.now) c.args.by c.args.self.now c.take_slot.new.self c.arm-timer.new.self
    c.end.new.self (now_in c.in-Some.ahead) c.take_slot.result c.in-Some-take_slot.slot c.next_use-next.result c.args.start.now c.arm-timer.result
    (view_of c.look_ahead.new.pass) (view_of c.take_slot.new.pass) (view_of c.arm-timer.new.pass) (view_of c.end.new.pass)
    c.take_slot.ensures.call c.arm-timer.ensures.call c.end.ensures.call

pub returns-in_default-clause-rows : goal.returns-in_default-clause-rows
returns-in_default-clause-rows c = gains_none c.args.self.now c.args.self.now _ (fewer_rows (loses_none c.args.self.now))

pub returns-in_default-take_slot-clause-rows : goal.returns-in_default-take_slot-clause-rows
returns-in_default-take_slot-clause-rows c = gains_none c.args.self.now c.take_slot.new.self _ c.take_slot.ensures.call.fewer

pub returns-then-arms-ge-MOST_TIMERS-clause-rows : goal.returns-then-arms-ge-MOST_TIMERS-clause-rows
returns-then-arms-ge-MOST_TIMERS-clause-rows c = gains_none c.args.self.now c.args.self.now _ (fewer_rows (loses_none c.args.self.now))

pub returns-then-arms-ge-MOST_TIMERS-clause-call : goal.returns-then-arms-ge-MOST_TIMERS-clause-call
returns-then-arms-ge-MOST_TIMERS-clause-call c =
    is_at_end (settings_of c.args.desk.now) (view_of c.args.pass.now) c.args.by c.arms.result c.args.self.now c.args.start.now c.look_ahead.result
    c.in-Some.ahead (view_of c.look_ahead.new.pass) c.requires.stands c.in-Some.is c.arms.ensures c.if-arms-ge-MOST_TIMERS.true c.look_ahead.ensures.looks

pub returns-then-arms-ge-MOST_TIMERS-clause-stands : goal.returns-then-arms-ge-MOST_TIMERS-clause-stands
returns-then-arms-ge-MOST_TIMERS-clause-stands c =
    ahead_stands (settings_of c.args.desk.now) (view_of c.args.pass.now) c.args.by c.args.start.now c.look_ahead.result
    (view_of c.look_ahead.new.pass) c.args.self.now c.requires.stands c.requires.holds c.look_ahead.ensures.looks

pub next_use-next-requires-clause-used : goal.next_use-next-requires-clause-used
next_use-next-requires-clause-used c = inl c.in-Some-take_slot.ensures.call.finds.away

pub returns-in_default-clause-frees : goal.returns-in_default-clause-frees
returns-in_default-clause-frees c = keeps_uses c.args.self.now c.args.self.now _ (λ k was. was)

pub returns-then-arms-ge-MOST_TIMERS-clause-full : goal.returns-then-arms-ge-MOST_TIMERS-clause-full
returns-then-arms-ge-MOST_TIMERS-clause-full c = λ is. inl (omega (arith, c.arms.ensures, c.if-arms-ge-MOST_TIMERS.true))

pub returns-then-arms-ge-MOST_TIMERS-clause-frees : goal.returns-then-arms-ge-MOST_TIMERS-clause-frees
returns-then-arms-ge-MOST_TIMERS-clause-frees c = keeps_uses c.args.self.now c.args.self.now _ (λ k was. was)

pub returns-in_default-take_slot-clause-full : goal.returns-in_default-take_slot-clause-full
returns-in_default-take_slot-clause-full c = λ is. inr (found_none _ _ _ _ _ _ _ _ c.in_default-take_slot.is c.take_slot.ensures.call)

pub returns-in_default-take_slot-clause-frees : goal.returns-in_default-take_slot-clause-frees
returns-in_default-take_slot-clause-frees c =
    none_uses c.args.self.now c.take_slot.new.self c.take_slot.result _ c.in_default-take_slot.is c.take_slot.ensures.call.frees

pub returns-clause-frees : goal.returns-clause-frees
returns-clause-frees c =
    started_uses (settings_of c.args.desk.now) c.args.by c.args.self.now c.take_slot.new.self c.arm-timer.new.self c.end.new.self c.take_slot.result
    c.in-Some-take_slot.slot c.next_use-next.result c.args.start.now c.arm-timer.result (view_of c.take_slot.new.pass) (view_of c.arm-timer.new.pass)
    (view_of c.end.new.pass) c.in-Some-take_slot.is c.take_slot.ensures.call.frees c.arm-timer.ensures.call c.end.ensures.call

pub returns-in_default-take_slot-clause-searched : goal.returns-in_default-take_slot-clause-searched
returns-in_default-take_slot-clause-searched c = λ is few.
    searches (settings_of c.args.desk.now) (view_of c.args.pass.now) c.args.by c.args.self.now c.take_slot.new.self c.args.start.now
    c.look_ahead.result c.in-Some.ahead c.take_slot.result (view_of c.look_ahead.new.pass) (view_of c.take_slot.new.pass) c.requires.stands
    c.in-Some.is c.in_default-take_slot.is c.look_ahead.ensures.looks c.take_slot.ensures.call

pub returns-in_default-take_slot-clause-ready : goal.returns-in_default-take_slot-clause-ready
returns-in_default-take_slot-clause-ready c = λ is full.
    finds_open (settings_of c.args.desk.now) (view_of c.args.pass.now) c.args.by c.args.self.now c.take_slot.new.self c.args.start.now
    c.look_ahead.result c.in-Some.ahead c.take_slot.result (view_of c.look_ahead.new.pass) (view_of c.take_slot.new.pass) c.requires.stands
    c.requires.holds c.in-Some.is c.look_ahead.ensures.looks c.take_slot.ensures.call is c.in_default-take_slot.is

pub returns-then-arms-ge-MOST_TIMERS-clause-searched : goal.returns-then-arms-ge-MOST_TIMERS-clause-searched
returns-then-arms-ge-MOST_TIMERS-clause-searched c = λ is few. absurd (omega (arith, few, c.arms.ensures, c.if-arms-ge-MOST_TIMERS.true))

pub returns-then-arms-ge-MOST_TIMERS-clause-ready : goal.returns-then-arms-ge-MOST_TIMERS-clause-ready
returns-then-arms-ge-MOST_TIMERS-clause-ready c = λ is full. absurd (omega (arith, is.few, c.arms.ensures, c.if-arms-ge-MOST_TIMERS.true))
