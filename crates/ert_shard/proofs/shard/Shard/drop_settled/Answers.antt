use Rattle.std.proofs.Common.{subst, ap, ◌∙◌}
use Rattle.ert_shard.proofs.Probing.{all_probed}
use Rattle.ert_shard.specs.Shards.{Owned, share_of, shard_parts_of}
use Rattle.ert_timers.specs.{Parts.Part, Sleeping.HasLost}
use Rattle.ert_shard.proofs.shard.Shard.drop_settled.Goals as goal

pub invariant_of-self : goal.invariant_of-self
invariant_of-self c =
    let b = c.self.inside in
    (all_probed c.args.self.now c.deref.result.now _ b.pass c.probe_rows.new.pass (share_of b.number b.from b.to) c.probe_rows.result
    (shard_parts_of b.wheel b.inbox b.sched b.mails.items b.list) c.probe_rows.new.self c.deref.ensures c.self.view_is c.self.invariant c.probe_rows.ensures.belongs
    c.probe_rows.ensures.number c.probe_rows.ensures.stands c.probe_rows.ensures.loses c.probe_rows.ensures.call).fit

pub returns : goal.returns
returns c =
    let b = c.self.inside in
    let rows = c.probe_rows.ensures.call in
    let new = c.probe_rows.new.self in
    let was = ap (λ (o : Owned). o.wheel) c.self.view_is in
    record {
      call = record {
        probes = rows.probes;
        steps = (all_probed c.args.self.now c.deref.result.now _ b.pass c.probe_rows.new.pass (share_of b.number b.from b.to) c.probe_rows.result
            (shard_parts_of b.wheel b.inbox b.sched b.mails.items b.list) new c.deref.ensures c.self.view_is c.self.invariant c.probe_rows.ensures.belongs
            c.probe_rows.ensures.number c.probe_rows.ensures.stands c.probe_rows.ensures.loses rows).steps;
        fewer = subst (λ (p : Part). HasLost c.probe_rows.result p new) was rows.fewer;
        armed = rows.armed;
      };
      time = c.probe_rows.ensures.time ∙ ap (λ (p : Part). p.passed) was;
    }
