use Rattle.std.proofs.Common.{refl, arith}
use Rattle.ert_table.specs.Desks.{settings_of, view_of}
use Rattle.ert_timers.proofs.{Orphaned.still_caller, OpenSlots.{finds_more, looked_past}, Roomed.{sees_none, sees_more, sees_all}, Standing.clock_stepped}
use Rattle.ert_defs.specs.declared.entry.Actor.TheVariants.{Caller}
use Rattle.ert_timers.proofs.part.WheelPart.see_slots.Goals as goal

pub loop-slot-init : goal.loop-slot-init
loop-slot-init c = record {
  belongs = c.look_down-now.ensures.belongs;
  holds = still_caller (settings_of c.args.desk.now) (view_of c.args.pass.now) (view_of c.look_down-now.new.pass) c.args.by c.args.self.now.number
      c.args.self.now.number c.requires.holds c.look_down-now.ensures.looks.step.actors refl;
  call = sees_none (settings_of c.args.desk.now) (view_of c.args.pass.now) c.args.by c.look_down-now.result c.args.self.now
      (view_of c.look_down-now.new.pass) c.requires.stands c.requires.holds c.look_down-now.ensures.looks;
  first = refl;
  past = looked_past (settings_of c.args.desk.now) (view_of c.args.pass.now) (Caller c.args.by) c.look_down-now.result (view_of c.look_down-now.new.pass)
      c.requires.stands.checked c.look_down-now.ensures.looks;
}

pub see_slot-room-requires-clause-belongs : goal.see_slot-room-requires-clause-belongs
see_slot-room-requires-clause-belongs c = c.loop-slot.invariant.belongs

pub see_slot-room-requires-clause-holds : goal.see_slot-room-requires-clause-holds
see_slot-room-requires-clause-holds c = c.loop-slot.invariant.holds

pub see_slot-room-requires-clause-stands : goal.see_slot-room-requires-clause-stands
see_slot-room-requires-clause-stands c = c.loop-slot.invariant.call.stands

pub see_slot-room-requires-clause-low : goal.see_slot-room-requires-clause-low
see_slot-room-requires-clause-low c = omega (arith, c.loop-slot-test.true, c.slot_count-slot-end.ensures)

pub see_slot-room-requires-clause-few : goal.see_slot-room-requires-clause-few
see_slot-room-requires-clause-few c = c.loop-slot.invariant.call.few

pub loop-slot-preserved : goal.loop-slot-preserved
loop-slot-preserved c =
    let g = settings_of c.args.desk.now in
    let one = c.see_slot-room.ensures.call in
    record {
      belongs = c.see_slot-room.ensures.belongs;
      holds = still_caller g (view_of c.loop-slot.pass) (view_of c.see_slot-room.new.pass) c.args.by c.args.self.now.number
          c.args.self.now.number c.loop-slot.invariant.holds one.step.actors refl;
      call = sees_more g (view_of c.args.pass.now) c.args.by c.look_down-now.result c.args.self.now c.loop-slot.slot c.loop-slot.room
          c.see_slot-room.result (view_of c.loop-slot.pass) (view_of c.see_slot-room.new.pass) c.requires.stands
          (omega (arith, c.loop-slot-test.true, c.slot_count-slot-end.ensures, c.requires.stands.holds.many))
          c.loop-slot.invariant.call c.loop-slot.invariant.holds one c.see_slot-room.ensures.few;
      first = finds_more g (view_of c.loop-slot.pass) c.args.by c.look_down-now.result c.args.self.now c.loop-slot.slot c.loop-slot.room c.see_slot-room.result
          c.loop-slot.first c.first_with-first.result (view_of c.see_slot-room.new.pass) c.loop-slot.invariant.call.stands c.loop-slot.invariant.holds
          c.loop-slot.invariant.past (omega (arith, c.loop-slot-test.true, c.slot_count-slot-end.ensures))
          c.loop-slot.invariant.first one c.first_with-first.ensures;
      past = omega (
        arith,
        c.loop-slot.invariant.past,
        clock_stepped g (view_of c.loop-slot.pass) _ (view_of c.see_slot-room.new.pass) c.loop-slot.invariant.call.stands.checked one.step,
      );
    }

pub returns-clause-belongs : goal.returns-clause-belongs
returns-clause-belongs c = c.loop-slot.invariant.belongs

pub returns-clause-call : goal.returns-clause-call
returns-clause-call c =
    sees_all (settings_of c.args.desk.now) (view_of c.args.pass.now) c.args.by c.look_down-now.result c.args.self.now c.loop-slot.slot
    c.loop-slot.room (view_of c.loop-slot.pass)
    (omega (arith, c.loop-slot-test.false, c.loop-slot.auto.slot-end, c.slot_count-slot-end.ensures, c.requires.stands.holds.many))
    c.loop-slot.invariant.call

pub returns-clause-first : goal.returns-clause-first
returns-clause-first c = c.loop-slot.invariant.first
