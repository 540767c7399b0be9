use Rattle.std.proofs.Common.{sym, subst}
use Rattle.std.specs.Arc.{arc_value}
use Rattle.ert_shard.proofs.RoomChanged.{room_changed}
use Rattle.ert_shard.specs.Shards.{Owned, IsHome, share_of, shard_parts_of}
use Rattle.ert_shard.proofs.shard.Shard.reserve_mail.Goals as goal

pub invariant_of-self : goal.invariant_of-self
invariant_of-self c =
    let b = c.self.inside in
    room_changed (arc_value b.desk) b.pass (share_of b.number b.from b.to) (shard_parts_of b.wheel b.inbox b.sched b.mails.items b.list) c.args.process
    c.index_mut.result.now c.reserve.new.self c.self.invariant (subst (λ (o : Owned). IsHome o.share c.args.process) (sym c.self.view_is) c.requires)
    c.index_mut.ensures.value c.reserve.ensures.same
