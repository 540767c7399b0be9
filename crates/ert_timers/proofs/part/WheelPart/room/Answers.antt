use Rattle.std.proofs.Common.{unwrap_or, sym, ap, subst, arith}
use Rattle.ert_table.specs.Desks.{settings_of, view_of, front_of}
use Rattle.ert_timers.proofs.{OpenSlots.opened, Roomed.{tells_room, room_left, none_left}, Standing.stands_next}
use Rattle.ert_timers.specs.Parts.{Part, PartStands}
use Rattle.ert_timers.proofs.part.WheelPart.room.Goals as goal

pub returns-then-arms-lt-MOST_TIMERS-clause-call : goal.returns-then-arms-lt-MOST_TIMERS-clause-call
returns-then-arms-lt-MOST_TIMERS-clause-call c =
    tells_room (settings_of c.args.desk.now) (view_of c.args.pass.now) c.args.by c.args.self.now c.see_slots-first.result.0 c.see_slots-first.result.0
    (view_of c.see_slots-first.new.pass) c.requires.stands c.see_slots-first.ensures.call
    (room_left c.args.self.now.arms c.see_slots-first.result.0 (omega (arith, c.if-arms-lt-MOST_TIMERS.true, c.arms.ensures, ap (λ (p : Part). p.arms) c.begin_next_look_at.ensures)))

pub returns-else-arms-lt-MOST_TIMERS-clause-call : goal.returns-else-arms-lt-MOST_TIMERS-clause-call
returns-else-arms-lt-MOST_TIMERS-clause-call c =
    tells_room (settings_of c.args.desk.now) (view_of c.args.pass.now) c.args.by c.args.self.now c.see_slots-first.result.0 _
    (view_of c.see_slots-first.new.pass) c.requires.stands c.see_slots-first.ensures.call
    (none_left c.args.self.now.arms c.see_slots-first.result.0 (omega (arith, c.if-arms-lt-MOST_TIMERS.false, c.arms.ensures, ap (λ (p : Part). p.arms) c.begin_next_look_at.ensures)))

pub returns-then-arms-lt-MOST_TIMERS-clause-stands : goal.returns-then-arms-lt-MOST_TIMERS-clause-stands
returns-then-arms-lt-MOST_TIMERS-clause-stands c =
    subst (λ (p : Part). PartStands (settings_of c.args.desk.now) (front_of c.see_slots-first.new.pass) p) (sym c.begin_next_look_at.ensures)
    (stands_next (settings_of c.args.desk.now) (front_of c.see_slots-first.new.pass) c.args.self.now _ c.see_slots-first.ensures.call.stands)

pub returns-else-arms-lt-MOST_TIMERS-clause-stands : goal.returns-else-arms-lt-MOST_TIMERS-clause-stands
returns-else-arms-lt-MOST_TIMERS-clause-stands c =
    subst (λ (p : Part). PartStands (settings_of c.args.desk.now) (front_of c.see_slots-first.new.pass) p) (sym c.begin_next_look_at.ensures)
    (stands_next (settings_of c.args.desk.now) (front_of c.see_slots-first.new.pass) c.args.self.now _ c.see_slots-first.ensures.call.stands)

pub returns-then-arms-lt-MOST_TIMERS-clause-ready : goal.returns-then-arms-lt-MOST_TIMERS-clause-ready
returns-then-arms-lt-MOST_TIMERS-clause-ready c = λ some.
    opened (settings_of c.args.desk.now) (front_of c.see_slots-first.new.pass) c.args.self.now c.begin_next_look_at.new.self c.see_slots-first.result.0
    c.see_slots-first.result.1 _ c.see_slots-first.ensures.first (omega (arith, some))
    (omega (arith, c.if-arms-lt-MOST_TIMERS.true, c.arms.ensures, ap (λ (p : Part). p.arms) c.begin_next_look_at.ensures)) c.begin_next_look_at.ensures
    (λ k is. ap (λ f. unwrap_or f c.args.self.now.next_look) is)
