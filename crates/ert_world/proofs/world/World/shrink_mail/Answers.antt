use Rattle.std.proofs.Common.{refl}
use Rattle.std.specs.Arc.{arc_value}
use Rattle.ert_world.proofs.{Calls.{Has, has_at, parts_in, processes_at}, RoomChanged.room_changed}
use Rattle.ert_world.proofs.world.World.shrink_mail.Goals as goal

pub invariant_of-self : goal.invariant_of-self
invariant_of-self c =
    let b = c.self.inside in
    let has : Has c.args.self.now b (arc_value b.desk) = has_at refl c.self.view_is c.self.invariant.sound in
    room_changed (arc_value b.desk) b.pass b.next (parts_in b) c.args.process c.index_mut.result.now c.shrink.new.self c.self.invariant
    (processes_at has c.args.process c.requires) c.index_mut.ensures.value c.shrink.ensures.same
