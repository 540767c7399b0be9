use Rattle.std.proofs.Common.{◌+◌, refl, sym, subst}
use Rattle.ert_effects.specs.TimerCalls.{Starts}
use Rattle.ert_shard.proofs.{Called.wheel_stepped, Forgets.shard_forgotten, Home.starts_home, Searching.shard_searched}
use Rattle.ert_shard.specs.Shards.{Owned, IsHome, share_of, shard_parts_of}
use Rattle.ert_defs.specs.{Legal.Legal, States.state}
use Rattle.ert_timers.specs.{Parts.PartStands, Passed.GainsOne, Searching.HasOpenSlot, Frees.{IsUsedUp, UsesFree}}
use Rattle.ert_table.specs.{Desks.{settings_of, front_of}, declared.desk.Desk.Desk}
use Rattle.ert_timers.proofs.LawsHold.{starts_only}
use Rattle.ert_shard.proofs.shard.Shard.start.Goals as goal

pub invariant_of-self : goal.invariant_of-self
invariant_of-self c =
    let b = c.self.inside in
    let s = share_of b.number b.from b.to in
    (wheel_stepped c.args.self.now c.deref.result.now _ b.pass c.start.new.pass s (shard_parts_of b.wheel b.inbox b.sched b.mails.items b.list) c.start.new.self
    (λ m n g. Starts g (m + 1) n c.args.start.now c.start.result) c.deref.ensures c.self.view_is c.self.invariant c.start.ensures.belongs c.start.ensures.number c.start.ensures.stands
    c.start.ensures.call (λ n. starts_only (settings_of c.deref.result.now) (b.number + 1) n c.args.start.now c.start.result)
    (λ n. starts_home s (settings_of c.deref.result.now) (b.number + 1) n c.args.start.now c.start.result (subst (λ (o : Owned). IsHome o.share c.args.start.now.dest) (sym c.self.view_is) c.requires))).fit

pub returns-clause-call : goal.returns-clause-call
returns-clause-call c =
    let b = c.self.inside in
    let s = share_of b.number b.from b.to in
    (wheel_stepped c.args.self.now c.deref.result.now _ b.pass c.start.new.pass s (shard_parts_of b.wheel b.inbox b.sched b.mails.items b.list) c.start.new.self
    (λ m n g. Starts g (m + 1) n c.args.start.now c.start.result) c.deref.ensures c.self.view_is c.self.invariant c.start.ensures.belongs c.start.ensures.number c.start.ensures.stands
    c.start.ensures.call (λ n. starts_only (settings_of c.deref.result.now) (b.number + 1) n c.args.start.now c.start.result)
    (λ n. starts_home s (settings_of c.deref.result.now) (b.number + 1) n c.args.start.now c.start.result (subst (λ (o : Owned). IsHome o.share c.args.start.now.dest) (sym c.self.view_is) c.requires))).goes

pub returns-clause-full : goal.returns-clause-full
returns-clause-full c = λ is. subst (λ (o : Owned). IsUsedUp o.wheel c.start.new.self) c.self.view_is (c.start.ensures.full is)

pub returns-clause-frees : goal.returns-clause-frees
returns-clause-frees c = subst (λ (o : Owned). UsesFree o.wheel c.start.new.self c.start.result) c.self.view_is c.start.ensures.frees

pub returns-clause-ready : goal.returns-clause-ready
returns-clause-ready c = λ is.
    let is_open = subst (λ (o : Owned). HasOpenSlot o.settings (state o.settings o.history) o.wheel) (sym c.self.view_is) is in
    c.start.ensures.ready (subst (λ (d : Desk). HasOpenSlot (settings_of d) (state (settings_of d) (front_of c.self.inside.pass)) c.self.inside.wheel) (sym c.deref.ensures) is_open)

pub returns-clause-forgotten : goal.returns-clause-forgotten
returns-clause-forgotten c =
    shard_forgotten c.args.self.now _ c.args.start.now c.start.result
    (subst (λ (o : Owned). Legal o.settings o.history) c.self.view_is c.self.invariant.stand.legal)
    (subst (λ (o : Owned). PartStands o.settings o.history o.wheel) c.self.view_is (c.self.invariant.stand.wheel refl))
    (subst (λ (o : Owned). GainsOne o.wheel c.start.new.self c.start.result) c.self.view_is c.start.ensures.rows) (returns-clause-call c)

pub returns-clause-searched : goal.returns-clause-searched
returns-clause-searched c = λ is few.
    let b = c.self.inside in
    shard_searched c.args.self.now c.deref.result.now _ b.pass c.start.new.pass (share_of b.number b.from b.to) (shard_parts_of b.wheel b.inbox b.sched b.mails.items b.list)
    c.start.new.self c.args.start.now c.deref.ensures c.self.view_is c.self.invariant c.start.ensures.belongs c.start.ensures.number c.start.ensures.stands
    (c.start.ensures.searched is) c.requires few
