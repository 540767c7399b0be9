use Rattle.std.proofs.Common.{◌+◌, sym, subst}
use Rattle.ert_effects.specs.RestartCalls.{Restarts}
use Rattle.ert_shard.proofs.{Called.wheel_stepped, Renewed.{lets_go, restarts_home}}
use Rattle.ert_shard.specs.Shards.{Owned, IsHome, share_of, shard_parts_of}
use Rattle.ert_table.specs.Desks.{settings_of}
use Rattle.ert_timers.specs.Frees.{IsUsedUp, UsesFree}
use Rattle.ert_timers.proofs.LawsHold.{restarts_only}
use Rattle.ert_shard.proofs.shard.Shard.restart.Goals as goal

pub invariant_of-self : goal.invariant_of-self
invariant_of-self c =
    let b = c.self.inside in
    let s = share_of b.number b.from b.to in
    (wheel_stepped c.args.self.now c.deref.result.now _ b.pass c.restart.new.pass s (shard_parts_of b.wheel b.inbox b.sched b.mails.items b.list) c.restart.new.self
    (λ m n g. Restarts g (m + 1) n c.args.timer c.args.start.now c.restart.result) c.deref.ensures c.self.view_is c.self.invariant c.restart.ensures.belongs c.restart.ensures.number
    c.restart.ensures.stands c.restart.ensures.call (λ n. restarts_only (settings_of c.deref.result.now) (b.number + 1) n c.args.timer c.args.start.now c.restart.result)
    (λ n. restarts_home s (settings_of c.deref.result.now) (b.number + 1) n c.args.timer c.args.start.now c.restart.result
    (subst (λ (o : Owned). IsHome o.share c.args.start.now.dest) (sym c.self.view_is) c.requires))).fit

pub returns-clause-call : goal.returns-clause-call
returns-clause-call c =
    let b = c.self.inside in
    let s = share_of b.number b.from b.to in
    (wheel_stepped c.args.self.now c.deref.result.now _ b.pass c.restart.new.pass s (shard_parts_of b.wheel b.inbox b.sched b.mails.items b.list) c.restart.new.self
    (λ m n g. Restarts g (m + 1) n c.args.timer c.args.start.now c.restart.result) c.deref.ensures c.self.view_is c.self.invariant c.restart.ensures.belongs c.restart.ensures.number
    c.restart.ensures.stands c.restart.ensures.call (λ n. restarts_only (settings_of c.deref.result.now) (b.number + 1) n c.args.timer c.args.start.now c.restart.result)
    (λ n. restarts_home s (settings_of c.deref.result.now) (b.number + 1) n c.args.timer c.args.start.now c.restart.result
    (subst (λ (o : Owned). IsHome o.share c.args.start.now.dest) (sym c.self.view_is) c.requires))).goes

pub returns-clause-forgotten : goal.returns-clause-forgotten
returns-clause-forgotten c = lets_go _ c.args.timer c.restart.result c.restart.ensures.gone

pub returns-clause-full : goal.returns-clause-full
returns-clause-full c = λ is. subst (λ (o : Owned). IsUsedUp o.wheel c.restart.new.self) c.self.view_is (c.restart.ensures.full is)

pub returns-clause-frees : goal.returns-clause-frees
returns-clause-frees c = subst (λ (o : Owned). UsesFree o.wheel c.restart.new.self c.restart.result) c.self.view_is c.restart.ensures.frees
