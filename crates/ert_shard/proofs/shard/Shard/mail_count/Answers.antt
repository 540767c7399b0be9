use Rattle.std.proofs.Common.{sym, subst, ◌∙◌}
use Rattle.std.specs.Arc.{arc_value}
use Rattle.ert_shard.proofs.Deliveries.{mail_waits}
use Rattle.ert_shard.specs.Shards.{Owned, IsHome, share_of, shard_parts_of}
use Rattle.ert_shard.proofs.shard.Shard.mail_count.Goals as goal

pub returns : goal.returns
returns c =
    let b = c.self.inside in
    c.waiting.ensures ∙ mail_waits c.args.self.now (arc_value b.desk) b.pass (share_of b.number b.from b.to) (shard_parts_of b.wheel b.inbox b.sched b.mails.items b.list) c.args.process c.index.result.now
    (record { is = c.self.view_is; fit = c.self.invariant }) (subst (λ (o : Owned). IsHome o.share c.args.process) (sym c.self.view_is) c.requires) c.index.ensures
