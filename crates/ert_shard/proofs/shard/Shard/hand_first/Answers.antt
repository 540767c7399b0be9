use Rattle.std.proofs.Common.{◌≡◌, rules, Ok, Err, Some, refl, sym, ap, subst}
use Rattle.std.specs.Arc.{arc_value}
use Rattle.std.specs.Prelude.{slice_set, ◌-◌}
use Rattle.ert_defs.specs.{Mails.{first_of, others_of}, States.state}
use Rattle.ert_effects.specs.Chains.{Hands}
use Rattle.ert_shard.proofs.{Called.{Has, does_at, did_at, has_at, lost, mail_named, place_low, wheel_replaced}, Gone.named_stands, Deliveries.{own_first, step_refused, sched_holds, mail_stands, handed_now, hands_on, handed_in, named_free}}
use Rattle.ert_shard.specs.{Turning.shard_expired, Shards.{Owned, counted_from, share_of, shard_parts_of}}
use Rattle.ert_table.specs.{Desks.{settings_of, front_of, state_of}, declared.desk.Desk.Desk}
use Rattle.ert_world.proofs.{Listed.{list_low, listed_now, listed_grown}, Reusing.{keeps_reused, loses_reused}}
use Rattle.ert_timers.specs.{Parts.Part, declared.sched_part.SchedPart.SchedPart}
use Rattle.ert_world.specs.Worlds.{KeepsRows}
use Rattle.ert_shard.proofs.shard.Shard.hand_first.Goals as goal

pub overflow_sub-place : goal.overflow_sub-place
overflow_sub-place c =
    let b = c.self.inside in
    let s = share_of b.number b.from b.to in
    let parts = shard_parts_of b.wheel b.inbox b.sched b.mails.items b.list in
    let has : Has c.args.self.now (arc_value b.desk) b.pass s parts = record { is = c.self.view_is; fit = c.self.invariant } in
    let own = own_first c.args.self.now (arc_value b.desk) b.pass s parts c.args.expired.now has c.requires in
    own.home.0

pub may_get_mail-requires : goal.may_get_mail-requires
may_get_mail-requires c =
    let b = c.self.inside in
    let s = share_of b.number b.from b.to in
    let parts = shard_parts_of b.wheel b.inbox b.sched b.mails.items b.list in
    let has : Has c.args.self.now (arc_value b.desk) b.pass s parts = record { is = c.self.view_is; fit = c.self.invariant } in
    let own = own_first c.args.self.now (arc_value b.desk) b.pass s parts c.args.expired.now has c.requires in
    list_low (counted_from b.from (state_of (arc_value b.desk) b.pass)) b.list b.mails.items (c.args.expired.now.dest - b.from) has.fit.stand.listed
    (place_low has.fit c.args.expired.now.dest own.home)

pub index_mut-requires : goal.index_mut-requires
index_mut-requires c =
    let b = c.self.inside in
    let s = share_of b.number b.from b.to in
    let parts = shard_parts_of b.wheel b.inbox b.sched b.mails.items b.list in
    let has : Has c.args.self.now (arc_value b.desk) b.pass s parts = record { is = c.self.view_is; fit = c.self.invariant } in
    let own = own_first c.args.self.now (arc_value b.desk) b.pass s parts c.args.expired.now has c.requires in
    rw b.mails.ok.0 (place_low has.fit c.args.expired.now.dest own.home)

pub deliver-requires-clause-holds : goal.deliver-requires-clause-holds
deliver-requires-clause-holds c =
    let b = c.self.inside in
    let s = share_of b.number b.from b.to in
    let parts = shard_parts_of b.wheel b.inbox b.sched b.mails.items b.list in
    let has : Has c.args.self.now c.deref.result.now b.pass s parts = has_at c.deref.ensures c.self.view_is c.self.invariant in
    let own = own_first c.args.self.now c.deref.result.now b.pass s parts c.args.expired.now has c.requires in
    sched_holds c.deref.result.now b.pass s parts c.args.expired.now.timer.wheel c.args.expired.now.dest c.index_mut.result.now.process has.fit own.placed.wheel own.home
    (mail_named has.fit c.args.expired.now.dest c.index_mut.result.now own.home c.index_mut.ensures.value)

pub deliver-requires-clause-dest : goal.deliver-requires-clause-dest
deliver-requires-clause-dest c =
    let b = c.self.inside in
    let s = share_of b.number b.from b.to in
    let parts = shard_parts_of b.wheel b.inbox b.sched b.mails.items b.list in
    let has : Has c.args.self.now c.deref.result.now b.pass s parts = has_at c.deref.ensures c.self.view_is c.self.invariant in
    let own = own_first c.args.self.now c.deref.result.now b.pass s parts c.args.expired.now has c.requires in
    sym (mail_named has.fit c.args.expired.now.dest c.index_mut.result.now own.home c.index_mut.ensures.value)

pub deliver-requires-clause-first : goal.deliver-requires-clause-first
deliver-requires-clause-first c =
    let b = c.self.inside in
    let s = share_of b.number b.from b.to in
    let parts = shard_parts_of b.wheel b.inbox b.sched b.mails.items b.list in
    let has : Has c.args.self.now c.deref.result.now b.pass s parts = has_at c.deref.ensures c.self.view_is c.self.invariant in
    let own = own_first c.args.self.now c.deref.result.now b.pass s parts c.args.expired.now has c.requires in
    subst (λ n. first_of ((state (settings_of c.deref.result.now) (front_of b.pass)).scheds n).expired ≡ Some c.args.expired.now) (sym own.placed.wheel)
    (subst (λ (o : Owned). first_of (shard_expired o) ≡ Some c.args.expired.now) (sym has.is) c.requires)

pub deliver-requires-clause-stands : goal.deliver-requires-clause-stands
deliver-requires-clause-stands c =
    let b = c.self.inside in
    let s = share_of b.number b.from b.to in
    let parts = shard_parts_of b.wheel b.inbox b.sched b.mails.items b.list in
    let has : Has c.args.self.now c.deref.result.now b.pass s parts = has_at c.deref.ensures c.self.view_is c.self.invariant in
    let own = own_first c.args.self.now c.deref.result.now b.pass s parts c.args.expired.now has c.requires in
    mail_stands c.deref.result.now b.pass s parts c.args.expired.now.dest c.index_mut.result.now has.fit own.home c.index_mut.ensures.value

pub reuse-requires-clause-stands : goal.reuse-requires-clause-stands
reuse-requires-clause-stands c =
    let b = c.self.inside in
    let s = share_of b.number b.from b.to in
    let parts = shard_parts_of b.wheel b.inbox b.sched b.mails.items b.list in
    let has : Has c.args.self.now c.deref.result.now b.pass s parts = has_at c.deref.ensures c.self.view_is c.self.invariant in
    let own = own_first c.args.self.now c.deref.result.now b.pass s parts c.args.expired.now has c.requires in
    let x : SchedPart = record { wheel = b.sched.wheel; hand = b.sched.hand; expired = c.pop.new.self } in
    let does = does_at c.deref.ensures (handed_now c.args.self.now c.deref.result.now b.pass c.deliver.new.pass s parts c.may_get_mail.new.list c.index_mut.result.now c.deliver.new.self c.args.expired.now
    c.in_ok-handed.handed x has c.deliver.ensures.belongs c.requires c.index_mut.ensures.value c.deliver.ensures.process c.deliver.ensures.stands c.in_ok-handed.ensures.call
    c.in_ok-handed.ensures.sched refl refl c.pop.ensures.others
    (listed_grown b.list c.may_get_mail.new.list (c.args.expired.now.dest - b.from) c.may_get_mail.ensures, λ st all low. listed_now st b.list c.may_get_mail.new.list b.mails.items (c.args.expired.now.dest - b.from) c.deliver.new.self c.may_get_mail.ensures all low)) in
    named_stands (arc_value b.desk) c.deliver.new.pass s (shard_parts_of b.wheel b.inbox x (slice_set b.mails.items (c.args.expired.now.dest - b.from) c.deliver.new.self) c.may_get_mail.new.list) does.fit

pub reuse-requires-clause-let_go : goal.reuse-requires-clause-let_go
reuse-requires-clause-let_go c =
    let b = c.self.inside in
    let s = share_of b.number b.from b.to in
    let parts = shard_parts_of b.wheel b.inbox b.sched b.mails.items b.list in
    let has : Has c.args.self.now c.deref.result.now b.pass s parts = has_at c.deref.ensures c.self.view_is c.self.invariant in
    let own = own_first c.args.self.now c.deref.result.now b.pass s parts c.args.expired.now has c.requires in
    let can = handed_in c.args.self.now c.deref.result.now b.pass c.deliver.new.pass s parts c.args.expired.now c.in_ok-handed.handed has c.requires c.in_ok-handed.ensures.call in
    can.let_go

pub reuse-requires-clause-handed : goal.reuse-requires-clause-handed
reuse-requires-clause-handed c =
    let b = c.self.inside in
    let s = share_of b.number b.from b.to in
    let parts = shard_parts_of b.wheel b.inbox b.sched b.mails.items b.list in
    let has : Has c.args.self.now c.deref.result.now b.pass s parts = has_at c.deref.ensures c.self.view_is c.self.invariant in
    let own = own_first c.args.self.now c.deref.result.now b.pass s parts c.args.expired.now has c.requires in
    let can = handed_in c.args.self.now c.deref.result.now b.pass c.deliver.new.pass s parts c.args.expired.now c.in_ok-handed.handed has c.requires c.in_ok-handed.ensures.call in
    named_free c.deref.result.now c.deliver.new.pass b.wheel c.args.expired.now.timer c.deliver.ensures.belongs can

pub invariant_of-self-2 : goal.invariant_of-self-2
invariant_of-self-2 c =
    let b = c.self.inside in
    let s = share_of b.number b.from b.to in
    let parts = shard_parts_of b.wheel b.inbox b.sched b.mails.items b.list in
    let has : Has c.args.self.now c.deref.result.now b.pass s parts = has_at c.deref.ensures c.self.view_is c.self.invariant in
    let own = own_first c.args.self.now c.deref.result.now b.pass s parts c.args.expired.now has c.requires in
    let x : SchedPart = record { wheel = b.sched.wheel; hand = b.sched.hand; expired = c.pop.new.self } in
    let does = does_at c.deref.ensures (handed_now c.args.self.now c.deref.result.now b.pass c.deliver.new.pass s parts c.may_get_mail.new.list c.index_mut.result.now c.deliver.new.self c.args.expired.now
    c.in_ok-handed.handed x has c.deliver.ensures.belongs c.requires c.index_mut.ensures.value c.deliver.ensures.process c.deliver.ensures.stands c.in_ok-handed.ensures.call
    c.in_ok-handed.ensures.sched refl refl c.pop.ensures.others
    (listed_grown b.list c.may_get_mail.new.list (c.args.expired.now.dest - b.from) c.may_get_mail.ensures, λ st all low. listed_now st b.list c.may_get_mail.new.list b.mails.items (c.args.expired.now.dest - b.from) c.deliver.new.self c.may_get_mail.ensures all low)) in
    wheel_replaced (arc_value b.desk) c.deliver.new.pass s (shard_parts_of b.wheel b.inbox x (slice_set b.mails.items (c.args.expired.now.dest - b.from) c.deliver.new.self) c.may_get_mail.new.list) c.reuse.new.self does.fit c.reuse.ensures.number
    (c.reuse.ensures.stands _ does.fit.belongs.named)

pub returns-clause-call : goal.returns-clause-call
returns-clause-call c =
    let b = c.self.inside in
    let s = share_of b.number b.from b.to in
    let parts = shard_parts_of b.wheel b.inbox b.sched b.mails.items b.list in
    let has : Has c.args.self.now c.deref.result.now b.pass s parts = has_at c.deref.ensures c.self.view_is c.self.invariant in
    let own = own_first c.args.self.now c.deref.result.now b.pass s parts c.args.expired.now has c.requires in
    let x : SchedPart = record { wheel = b.sched.wheel; hand = b.sched.hand; expired = c.pop.new.self } in
    let does = does_at c.deref.ensures (handed_now c.args.self.now c.deref.result.now b.pass c.deliver.new.pass s parts c.may_get_mail.new.list c.index_mut.result.now c.deliver.new.self c.args.expired.now
    c.in_ok-handed.handed x has c.deliver.ensures.belongs c.requires c.index_mut.ensures.value c.deliver.ensures.process c.deliver.ensures.stands c.in_ok-handed.ensures.call
    c.in_ok-handed.ensures.sched refl refl c.pop.ensures.others
    (listed_grown b.list c.may_get_mail.new.list (c.args.expired.now.dest - b.from) c.may_get_mail.ensures, λ st all low. listed_now st b.list c.may_get_mail.new.list b.mails.items (c.args.expired.now.dest - b.from) c.deliver.new.self c.may_get_mail.ensures all low)) in
    lost c.args.self.now _ (λ way. Hands c.args.self.now.settings way c.args.self.now.share.number (Ok c.in_ok-handed.handed)) b.wheel c.reuse.new.self
    (sym (ap (λ (o : Owned). o.wheel) c.self.view_is)) does.goes (loses_reused b.wheel c.reuse.new.self c.args.expired.now.timer.slot c.reuse.ensures.freed)

pub returns-clause-expired : goal.returns-clause-expired
returns-clause-expired c =
    let b = c.self.inside in
    let s = share_of b.number b.from b.to in
    let parts = shard_parts_of b.wheel b.inbox b.sched b.mails.items b.list in
    let has : Has c.args.self.now c.deref.result.now b.pass s parts = has_at c.deref.ensures c.self.view_is c.self.invariant in
    let own = own_first c.args.self.now c.deref.result.now b.pass s parts c.args.expired.now has c.requires in
    subst (λ (d : Desk). ((state (settings_of d) (front_of c.deliver.new.pass)).scheds b.number).expired ≡ others_of (shard_expired c.args.self.now)) c.deref.ensures
    (hands_on c.args.self.now c.deref.result.now b.pass c.deliver.new.pass s parts c.args.expired.now c.in_ok-handed.handed has c.requires c.in_ok-handed.ensures.sched)

pub invariant_of-self : goal.invariant_of-self
invariant_of-self c =
    let b = c.self.inside in
    let s = share_of b.number b.from b.to in
    let parts = shard_parts_of b.wheel b.inbox b.sched b.mails.items b.list in
    let has : Has c.args.self.now c.deref.result.now b.pass s parts = has_at c.deref.ensures c.self.view_is c.self.invariant in
    let own = own_first c.args.self.now c.deref.result.now b.pass s parts c.args.expired.now has c.requires in
    let did = did_at c.deref.ensures (step_refused c.args.self.now c.deref.result.now b.pass c.deliver.new.pass s parts c.may_get_mail.new.list c.args.expired.now.dest c.index_mut.result.now c.deliver.new.self
    (λ o way. Hands o.settings way o.share.number (Err c.in_err-handed.field-0.0)) has c.deliver.ensures.belongs own.home c.index_mut.ensures.value c.deliver.ensures.process
    c.deliver.ensures.stands c.in_err-handed.ensures.call.same
    (λ m grown mine. record {
      expired = c.args.expired.now;
      first = subst (λ (o : Owned). first_of (shard_expired o) ≡ Some c.args.expired.now) (sym has.is) c.requires;
      step = mine;
    })
    (listed_grown b.list c.may_get_mail.new.list (c.args.expired.now.dest - b.from) c.may_get_mail.ensures, λ st all low. listed_now st b.list c.may_get_mail.new.list b.mails.items (c.args.expired.now.dest - b.from) c.deliver.new.self c.may_get_mail.ensures all low)) in
    did.fit

pub returns-in_err-handed : goal.returns-in_err-handed
returns-in_err-handed c =
    let b = c.self.inside in
    let s = share_of b.number b.from b.to in
    let parts = shard_parts_of b.wheel b.inbox b.sched b.mails.items b.list in
    let has : Has c.args.self.now c.deref.result.now b.pass s parts = has_at c.deref.ensures c.self.view_is c.self.invariant in
    let own = own_first c.args.self.now c.deref.result.now b.pass s parts c.args.expired.now has c.requires in
    let did = did_at c.deref.ensures (step_refused c.args.self.now c.deref.result.now b.pass c.deliver.new.pass s parts c.may_get_mail.new.list c.args.expired.now.dest c.index_mut.result.now c.deliver.new.self
    (λ o way. Hands o.settings way o.share.number (Err c.in_err-handed.field-0.0)) has c.deliver.ensures.belongs own.home c.index_mut.ensures.value c.deliver.ensures.process
    c.deliver.ensures.stands c.in_err-handed.ensures.call.same
    (λ m grown mine. record {
      expired = c.args.expired.now;
      first = subst (λ (o : Owned). first_of (shard_expired o) ≡ Some c.args.expired.now) (sym has.is) c.requires;
      step = mine;
    })
    (listed_grown b.list c.may_get_mail.new.list (c.args.expired.now.dest - b.from) c.may_get_mail.ensures, λ st all low. listed_now st b.list c.may_get_mail.new.list b.mails.items (c.args.expired.now.dest - b.from) c.deliver.new.self c.may_get_mail.ensures all low)) in
    let result : c.from_residual.result ≡ Err c.in_err-handed.field-0.0 = search rules in
    rw result (record {
      call = did.steps;
      expired = tt;
      kept = record {
        keys = ap (λ (o : Owned). o.wheel.keys) c.self.view_is;
        time = ap (λ (o : Owned). o.wheel.passed) c.self.view_is;
        stands = ap (λ (o : Owned). o.wheel.stands) c.self.view_is;
      };
    })

pub returns-clause-kept : goal.returns-clause-kept
returns-clause-kept c =
    subst (λ (p : Part). KeepsRows p c.reuse.new.self) (ap (λ (o : Owned). o.wheel) c.self.view_is)
    (keeps_reused c.self.inside.wheel c.reuse.new.self c.args.expired.now.timer.slot c.reuse.ensures.freed)
