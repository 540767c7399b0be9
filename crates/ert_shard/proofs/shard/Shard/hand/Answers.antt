use Rattle.std.proofs.Common.{ap, ◌∙◌}
use Rattle.std.specs.Arc.{arc_value}
use Rattle.ert_defs.specs.States.{sched_of}
use Rattle.ert_shard.proofs.{Called.Has, Turned.{Had, had}}
use Rattle.ert_shard.specs.Shards.{Owned, share_of, shard_parts_of}
use Rattle.ert_shard.proofs.shard.Shard.hand.Goals as goal

pub returns : goal.returns
returns c =
    let b = c.self.inside in
    let s = share_of b.number b.from b.to in
    let has : Has c.args.self.now (arc_value b.desk) b.pass s (shard_parts_of b.wheel b.inbox b.sched b.mails.items b.list) = record { is = c.self.view_is; fit = c.self.invariant } in
    let was : Had (arc_value b.desk) b.pass s b.sched = had has in
    was.hand ∙ ap (λ (o : Owned). (sched_of o.settings o.history o.share.number).hand) c.self.view_is
