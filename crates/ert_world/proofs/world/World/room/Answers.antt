use Rattle.std.proofs.Common.{slice_index_or, slice_set, subst}
use Rattle.ert_defs.specs.States.{state}
use Rattle.ert_effects.specs.RoomCalls.{TellsRoom}
use Rattle.ert_table.specs.{Desks.{settings_of, front_of}, declared.desk.Desk.Desk}
use Rattle.ert_timers.proofs.LawsHold.{rooms_only}
use Rattle.ert_timers.specs.Searching.{HasOpenSlot}
use Rattle.ert_world.proofs.{Calls.has_at, Rooms.{wheel_looked, room_calm}, Listed.kept_by, Replaced.replaced_by}
use Rattle.ert_world.proofs.world.World.room.Goals as goal

pub invariant_of-self : goal.invariant_of-self
invariant_of-self c =
    let all =
    ((wheel_looked c.args.self.now c.self.inside c.deref.result.now _ c.room.new.pass c.args.wheel c.index_mut.result.now c.room.new.self (λ n g. TellsRoom g 0 n c.room.result)
    c.deref.ensures c.self.view_is c.self.invariant.sound c.room.ensures.belongs c.requires c.index_mut.ensures.value _ c.room.ensures.part c.room.ensures.stands c.room.ensures.call
    (rooms_only (settings_of c.deref.result.now) 0 c.index_mut.result.now.number c.room.result) (room_calm (settings_of c.deref.result.now) 0 c.index_mut.result.now.number c.room.result))) in
    kept_by c.self.inside c.self.inside.list c.self.view_is all.fit all.goes.grows c.self.invariant.listed

pub returns-clause-call : goal.returns-clause-call
returns-clause-call c =
    (wheel_looked c.args.self.now c.self.inside c.deref.result.now _ c.room.new.pass c.args.wheel c.index_mut.result.now c.room.new.self (λ n g. TellsRoom g 0 n c.room.result)
    c.deref.ensures c.self.view_is c.self.invariant.sound c.room.ensures.belongs c.requires c.index_mut.ensures.value _ c.room.ensures.part c.room.ensures.stands c.room.ensures.call
    (rooms_only (settings_of c.deref.result.now) 0 c.index_mut.result.now.number c.room.result) (room_calm (settings_of c.deref.result.now) 0 c.index_mut.result.now.number c.room.result)).goes

pub returns-clause-ready : goal.returns-clause-ready
returns-clause-ready c = λ some x.
    subst (λ (e : Desk). HasOpenSlot (settings_of e) (state (settings_of e) (front_of c.room.new.pass)) (slice_index_or (slice_set c.self.inside.wheels.items c.args.wheel c.room.new.self) c.args.wheel x))
    c.deref.ensures
    (replaced_by (λ p q. HasOpenSlot (settings_of c.deref.result.now) (state (settings_of c.deref.result.now) (front_of c.room.new.pass)) q)
    c.args.self.now c.self.inside c.deref.result.now c.args.wheel c.index_mut.result.now c.room.new.self
    (has_at c.deref.ensures c.self.view_is c.self.invariant.sound) c.requires c.index_mut.ensures.value (c.room.ensures.ready some) x)
