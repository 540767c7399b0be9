use Rattle.std.specs.Arc.{arc_value}
use Rattle.ert_shard.proofs.RoomChanged.{list_room_changed}
use Rattle.ert_shard.specs.Shards.{share_of, shard_parts_of}
use Rattle.ert_shard.proofs.shard.Shard.reserve_expired.Goals as goal

pub invariant_of-self : goal.invariant_of-self
invariant_of-self c =
    let b = c.self.inside in
    list_room_changed (arc_value b.desk) b.pass (share_of b.number b.from b.to) (shard_parts_of b.wheel b.inbox b.sched b.mails.items b.list) c.reserve.new.self
    c.self.invariant c.reserve.ensures.rows
