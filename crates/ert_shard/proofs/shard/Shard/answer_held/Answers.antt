use Rattle.std.proofs.Common.{true, ◌≡◌, ◌-◌, [], ◌∷◌, Ok, Err, None, Some, rules, refl, sym, ap, subst}
use Rattle.std.specs.Arc.{arc_value}
use Rattle.std.specs.Prelude.{slice_set}
use Rattle.ert_defs.specs.{States.sched_of, declared.entry.Actor.TheVariants.MailOf}
use Rattle.ert_effects.specs.RequestCalls.{Answers}
use Rattle.ert_shard.proofs.{Called.{Has, did_at, has_at, lost, mail_named, place_low, wheel_replaced}, Deliveries.{step_refused, sched_holds, mail_stands}, Gone.{named_over, named_stands}, Requested.{answered_now, asked_gone}}
use Rattle.ert_shard.specs.Shards.{Owned, IsHome, counted_from, share_of, shard_parts_of}
use Rattle.ert_table.specs.Desks.{state_of}
use Rattle.ert_world.proofs.Listed.{list_low, listed_now, listed_grown}
use Rattle.ert_timers.specs.declared.sched_part.SchedPart.{SchedPart}
use Rattle.ert_shard.proofs.shard.Shard.answer_held.Goals as goal

pub overflow_sub-place : goal.overflow_sub-place
overflow_sub-place c =
    let b = c.self.inside in
    let s = share_of b.number b.from b.to in
    let parts = shard_parts_of b.wheel b.inbox b.sched b.mails.items b.list in
    let request = c.args.request.now in
    let home : IsHome s request.reply_to = subst (λ (o : Owned). IsHome o.share request.reply_to) (sym c.self.view_is) c.requires.home in
    home.0

pub may_get_mail-requires : goal.may_get_mail-requires
may_get_mail-requires c =
    let b = c.self.inside in
    let s = share_of b.number b.from b.to in
    let parts = shard_parts_of b.wheel b.inbox b.sched b.mails.items b.list in
    let request = c.args.request.now in
    let home : IsHome s request.reply_to = subst (λ (o : Owned). IsHome o.share request.reply_to) (sym c.self.view_is) c.requires.home in
    list_low (counted_from b.from (state_of (arc_value b.desk) b.pass)) b.list b.mails.items (request.reply_to - b.from) c.self.invariant.stand.listed
    (place_low c.self.invariant request.reply_to home)

pub index_mut-mail-requires : goal.index_mut-mail-requires
index_mut-mail-requires c =
    let b = c.self.inside in
    let s = share_of b.number b.from b.to in
    let parts = shard_parts_of b.wheel b.inbox b.sched b.mails.items b.list in
    let request = c.args.request.now in
    let home : IsHome s request.reply_to = subst (λ (o : Owned). IsHome o.share request.reply_to) (sym c.self.view_is) c.requires.home in
    rw b.mails.ok.0 (place_low c.self.invariant request.reply_to home)

pub answer-requires-clause-holds : goal.answer-requires-clause-holds
answer-requires-clause-holds c =
    let b = c.self.inside in
    let s = share_of b.number b.from b.to in
    let parts = shard_parts_of b.wheel b.inbox b.sched b.mails.items b.list in
    let request = c.args.request.now in
    let home : IsHome s request.reply_to = subst (λ (o : Owned). IsHome o.share request.reply_to) (sym c.self.view_is) c.requires.home in
    let has : Has c.args.self.now c.deref.result.now b.pass s parts = has_at c.deref.ensures c.self.view_is c.self.invariant in
    sched_holds c.deref.result.now b.pass s parts b.number request.reply_to c.index_mut-mail.result.now.process has.fit refl home
    (mail_named has.fit request.reply_to c.index_mut-mail.result.now home c.index_mut-mail.ensures.value)

pub answer-requires-clause-asker : goal.answer-requires-clause-asker
answer-requires-clause-asker c =
    let b = c.self.inside in
    let s = share_of b.number b.from b.to in
    let parts = shard_parts_of b.wheel b.inbox b.sched b.mails.items b.list in
    let request = c.args.request.now in
    let home : IsHome s request.reply_to = subst (λ (o : Owned). IsHome o.share request.reply_to) (sym c.self.view_is) c.requires.home in
    let has : Has c.args.self.now c.deref.result.now b.pass s parts = has_at c.deref.ensures c.self.view_is c.self.invariant in
    sym (mail_named has.fit request.reply_to c.index_mut-mail.result.now home c.index_mut-mail.ensures.value)

pub answer-requires-clause-hand : goal.answer-requires-clause-hand
answer-requires-clause-hand c =
    let b = c.self.inside in
    let s = share_of b.number b.from b.to in
    let parts = shard_parts_of b.wheel b.inbox b.sched b.mails.items b.list in
    let request = c.args.request.now in
    let home : IsHome s request.reply_to = subst (λ (o : Owned). IsHome o.share request.reply_to) (sym c.self.view_is) c.requires.home in
    let has : Has c.args.self.now c.deref.result.now b.pass s parts = has_at c.deref.ensures c.self.view_is c.self.invariant in
    subst (λ (o : Owned). (sched_of o.settings o.history o.share.number).hand ≡ Some request) (sym has.is) c.requires.hand

pub answer-requires-clause-stands : goal.answer-requires-clause-stands
answer-requires-clause-stands c =
    let b = c.self.inside in
    let s = share_of b.number b.from b.to in
    let parts = shard_parts_of b.wheel b.inbox b.sched b.mails.items b.list in
    let request = c.args.request.now in
    let home : IsHome s request.reply_to = subst (λ (o : Owned). IsHome o.share request.reply_to) (sym c.self.view_is) c.requires.home in
    let has : Has c.args.self.now c.deref.result.now b.pass s parts = has_at c.deref.ensures c.self.view_is c.self.invariant in
    mail_stands c.deref.result.now b.pass s parts request.reply_to c.index_mut-mail.result.now has.fit home c.index_mut-mail.ensures.value

pub invariant_of-self : goal.invariant_of-self
invariant_of-self c =
    let b = c.self.inside in
    let s = share_of b.number b.from b.to in
    let parts = shard_parts_of b.wheel b.inbox b.sched b.mails.items b.list in
    let request = c.args.request.now in
    let home : IsHome s request.reply_to = subst (λ (o : Owned). IsHome o.share request.reply_to) (sym c.self.view_is) c.requires.home in
    let has : Has c.args.self.now c.deref.result.now b.pass s parts = has_at c.deref.ensures c.self.view_is c.self.invariant in
    let did = did_at c.deref.ensures (step_refused c.args.self.now c.deref.result.now b.pass c.answer.new.pass s parts c.may_get_mail.new.list request.reply_to
    c.index_mut-mail.result.now c.answer.new.self (λ o way. way (MailOf request.reply_to ∷ []) (Answers o.settings o.share.number request (Err c.in_err-left.field-0.0))) has
    c.answer.ensures.belongs home c.index_mut-mail.ensures.value c.answer.ensures.process c.answer.ensures.stands c.in_err-left.ensures.call.same (λ m grown own. own)
    (listed_grown b.list c.may_get_mail.new.list (request.reply_to - b.from) c.may_get_mail.ensures, λ st all low. listed_now st b.list c.may_get_mail.new.list b.mails.items (request.reply_to - b.from) c.answer.new.self c.may_get_mail.ensures all low)) in
    did.fit

pub returns-in_err-left-clause-call : goal.returns-in_err-left-clause-call
returns-in_err-left-clause-call c =
    let b = c.self.inside in
    let s = share_of b.number b.from b.to in
    let parts = shard_parts_of b.wheel b.inbox b.sched b.mails.items b.list in
    let request = c.args.request.now in
    let home : IsHome s request.reply_to = subst (λ (o : Owned). IsHome o.share request.reply_to) (sym c.self.view_is) c.requires.home in
    let has : Has c.args.self.now c.deref.result.now b.pass s parts = has_at c.deref.ensures c.self.view_is c.self.invariant in
    let did = did_at c.deref.ensures (step_refused c.args.self.now c.deref.result.now b.pass c.answer.new.pass s parts c.may_get_mail.new.list request.reply_to
    c.index_mut-mail.result.now c.answer.new.self (λ o way. way (MailOf request.reply_to ∷ []) (Answers o.settings o.share.number request (Err c.in_err-left.field-0.0))) has
    c.answer.ensures.belongs home c.index_mut-mail.ensures.value c.answer.ensures.process c.answer.ensures.stands c.in_err-left.ensures.call.same (λ m grown own. own)
    (listed_grown b.list c.may_get_mail.new.list (request.reply_to - b.from) c.may_get_mail.ensures, λ st all low. listed_now st b.list c.may_get_mail.new.list b.mails.items (request.reply_to - b.from) c.answer.new.self c.may_get_mail.ensures all low)) in
    let result : c.from_residual.result ≡ Err c.in_err-left.field-0.0 = search rules in
    rw result did.steps

pub forget-requires-clause-stands : goal.forget-requires-clause-stands
forget-requires-clause-stands c =
    let b = c.self.inside in
    let s = share_of b.number b.from b.to in
    let parts = shard_parts_of b.wheel b.inbox b.sched b.mails.items b.list in
    let request = c.args.request.now in
    let home : IsHome s request.reply_to = subst (λ (o : Owned). IsHome o.share request.reply_to) (sym c.self.view_is) c.requires.home in
    let has : Has c.args.self.now c.deref.result.now b.pass s parts = has_at c.deref.ensures c.self.view_is c.self.invariant in
    let x : SchedPart = record { wheel = b.sched.wheel; hand = None; expired = b.sched.expired } in
    let now = shard_parts_of b.wheel b.inbox x (slice_set b.mails.items (request.reply_to - b.from) c.answer.new.self) c.may_get_mail.new.list in
    let done = answered_now c.args.self.now c.deref.result.now b.pass c.answer.new.pass s parts c.may_get_mail.new.list c.index_mut-mail.result.now c.answer.new.self request
    c.in_ok-left.left x has c.answer.ensures.belongs home c.index_mut-mail.ensures.value c.answer.ensures.process c.answer.ensures.stands c.in_ok-left.ensures.call
    c.in_ok-left.ensures.sched refl refl refl (listed_grown b.list c.may_get_mail.new.list (request.reply_to - b.from) c.may_get_mail.ensures, λ st all low. listed_now st b.list c.may_get_mail.new.list b.mails.items (request.reply_to - b.from) c.answer.new.self c.may_get_mail.ensures all low) in
    named_stands c.deref.result.now c.answer.new.pass s now done.fit

pub forget-requires-clause-last : goal.forget-requires-clause-last
forget-requires-clause-last c =
    let b = c.self.inside in
    let s = share_of b.number b.from b.to in
    let parts = shard_parts_of b.wheel b.inbox b.sched b.mails.items b.list in
    let request = c.args.request.now in
    let home : IsHome s request.reply_to = subst (λ (o : Owned). IsHome o.share request.reply_to) (sym c.self.view_is) c.requires.home in
    let has : Has c.args.self.now c.deref.result.now b.pass s parts = has_at c.deref.ensures c.self.view_is c.self.invariant in
    let cancelled = c.if-has_cancelled.ensures.0 refl in
    let gone = asked_gone c.deref.result.now b.pass c.answer.new.pass s parts request c.in_ok-left.left has.fit cancelled.0 c.in_ok-left.ensures.call cancelled.1 in
    gone.last

pub forget-requires-clause-settled : goal.forget-requires-clause-settled
forget-requires-clause-settled c =
    let b = c.self.inside in
    let s = share_of b.number b.from b.to in
    let parts = shard_parts_of b.wheel b.inbox b.sched b.mails.items b.list in
    let request = c.args.request.now in
    let home : IsHome s request.reply_to = subst (λ (o : Owned). IsHome o.share request.reply_to) (sym c.self.view_is) c.requires.home in
    let has : Has c.args.self.now c.deref.result.now b.pass s parts = has_at c.deref.ensures c.self.view_is c.self.invariant in
    let cancelled = c.if-has_cancelled.ensures.0 refl in
    let gone = asked_gone c.deref.result.now b.pass c.answer.new.pass s parts request c.in_ok-left.left has.fit cancelled.0 c.in_ok-left.ensures.call cancelled.1 in
    named_over c.deref.result.now c.answer.new.pass parts request.timer c.answer.ensures.belongs gone

pub invariant_of-self-then-has_cancelled : goal.invariant_of-self-then-has_cancelled
invariant_of-self-then-has_cancelled c =
    let b = c.self.inside in
    let s = share_of b.number b.from b.to in
    let parts = shard_parts_of b.wheel b.inbox b.sched b.mails.items b.list in
    let request = c.args.request.now in
    let home : IsHome s request.reply_to = subst (λ (o : Owned). IsHome o.share request.reply_to) (sym c.self.view_is) c.requires.home in
    let has : Has c.args.self.now c.deref.result.now b.pass s parts = has_at c.deref.ensures c.self.view_is c.self.invariant in
    let x : SchedPart = record { wheel = b.sched.wheel; hand = None; expired = b.sched.expired } in
    let now = shard_parts_of b.wheel b.inbox x (slice_set b.mails.items (request.reply_to - b.from) c.answer.new.self) c.may_get_mail.new.list in
    let done = answered_now c.args.self.now c.deref.result.now b.pass c.answer.new.pass s parts c.may_get_mail.new.list c.index_mut-mail.result.now c.answer.new.self request
    c.in_ok-left.left x has c.answer.ensures.belongs home c.index_mut-mail.ensures.value c.answer.ensures.process c.answer.ensures.stands c.in_ok-left.ensures.call
    c.in_ok-left.ensures.sched refl refl refl (listed_grown b.list c.may_get_mail.new.list (request.reply_to - b.from) c.may_get_mail.ensures, λ st all low. listed_now st b.list c.may_get_mail.new.list b.mails.items (request.reply_to - b.from) c.answer.new.self c.may_get_mail.ensures all low) in
    let fit = (did_at c.deref.ensures done).fit in
    wheel_replaced (arc_value b.desk) c.answer.new.pass s now c.forget.new.self fit c.forget.ensures.number (c.forget.ensures.stands _ fit.belongs.named)

pub invariant_of-self-else-has_cancelled : goal.invariant_of-self-else-has_cancelled
invariant_of-self-else-has_cancelled c =
    let b = c.self.inside in
    let s = share_of b.number b.from b.to in
    let parts = shard_parts_of b.wheel b.inbox b.sched b.mails.items b.list in
    let request = c.args.request.now in
    let home : IsHome s request.reply_to = subst (λ (o : Owned). IsHome o.share request.reply_to) (sym c.self.view_is) c.requires.home in
    let has : Has c.args.self.now c.deref.result.now b.pass s parts = has_at c.deref.ensures c.self.view_is c.self.invariant in
    let x : SchedPart = record { wheel = b.sched.wheel; hand = None; expired = b.sched.expired } in
    let now = shard_parts_of b.wheel b.inbox x (slice_set b.mails.items (request.reply_to - b.from) c.answer.new.self) c.may_get_mail.new.list in
    let done = answered_now c.args.self.now c.deref.result.now b.pass c.answer.new.pass s parts c.may_get_mail.new.list c.index_mut-mail.result.now c.answer.new.self request
    c.in_ok-left.left x has c.answer.ensures.belongs home c.index_mut-mail.ensures.value c.answer.ensures.process c.answer.ensures.stands c.in_ok-left.ensures.call
    c.in_ok-left.ensures.sched refl refl refl (listed_grown b.list c.may_get_mail.new.list (request.reply_to - b.from) c.may_get_mail.ensures, λ st all low. listed_now st b.list c.may_get_mail.new.list b.mails.items (request.reply_to - b.from) c.answer.new.self c.may_get_mail.ensures all low) in
    (did_at c.deref.ensures done).fit

pub returns-then-has_cancelled-clause-call : goal.returns-then-has_cancelled-clause-call
returns-then-has_cancelled-clause-call c =
    let b = c.self.inside in
    let s = share_of b.number b.from b.to in
    let parts = shard_parts_of b.wheel b.inbox b.sched b.mails.items b.list in
    let request = c.args.request.now in
    let home : IsHome s request.reply_to = subst (λ (o : Owned). IsHome o.share request.reply_to) (sym c.self.view_is) c.requires.home in
    let has : Has c.args.self.now c.deref.result.now b.pass s parts = has_at c.deref.ensures c.self.view_is c.self.invariant in
    let x : SchedPart = record { wheel = b.sched.wheel; hand = None; expired = b.sched.expired } in
    let now = shard_parts_of b.wheel b.inbox x (slice_set b.mails.items (request.reply_to - b.from) c.answer.new.self) c.may_get_mail.new.list in
    let done = answered_now c.args.self.now c.deref.result.now b.pass c.answer.new.pass s parts c.may_get_mail.new.list c.index_mut-mail.result.now c.answer.new.self request
    c.in_ok-left.left x has c.answer.ensures.belongs home c.index_mut-mail.ensures.value c.answer.ensures.process c.answer.ensures.stands c.in_ok-left.ensures.call
    c.in_ok-left.ensures.sched refl refl refl (listed_grown b.list c.may_get_mail.new.list (request.reply_to - b.from) c.may_get_mail.ensures, λ st all low. listed_now st b.list c.may_get_mail.new.list b.mails.items (request.reply_to - b.from) c.answer.new.self c.may_get_mail.ensures all low) in
    lost c.args.self.now _ (λ way. way (MailOf request.reply_to ∷ []) (Answers c.args.self.now.settings c.args.self.now.share.number request (Ok c.in_ok-left.left))) b.wheel c.forget.new.self (sym (ap (λ (o : Owned). o.wheel) c.self.view_is))
    (did_at c.deref.ensures done).steps.goes c.forget.ensures.loses

pub returns-else-has_cancelled-clause-call : goal.returns-else-has_cancelled-clause-call
returns-else-has_cancelled-clause-call c =
    let b = c.self.inside in
    let s = share_of b.number b.from b.to in
    let parts = shard_parts_of b.wheel b.inbox b.sched b.mails.items b.list in
    let request = c.args.request.now in
    let home : IsHome s request.reply_to = subst (λ (o : Owned). IsHome o.share request.reply_to) (sym c.self.view_is) c.requires.home in
    let has : Has c.args.self.now c.deref.result.now b.pass s parts = has_at c.deref.ensures c.self.view_is c.self.invariant in
    let x : SchedPart = record { wheel = b.sched.wheel; hand = None; expired = b.sched.expired } in
    let now = shard_parts_of b.wheel b.inbox x (slice_set b.mails.items (request.reply_to - b.from) c.answer.new.self) c.may_get_mail.new.list in
    let done = answered_now c.args.self.now c.deref.result.now b.pass c.answer.new.pass s parts c.may_get_mail.new.list c.index_mut-mail.result.now c.answer.new.self request
    c.in_ok-left.left x has c.answer.ensures.belongs home c.index_mut-mail.ensures.value c.answer.ensures.process c.answer.ensures.stands c.in_ok-left.ensures.call
    c.in_ok-left.ensures.sched refl refl refl (listed_grown b.list c.may_get_mail.new.list (request.reply_to - b.from) c.may_get_mail.ensures, λ st all low. listed_now st b.list c.may_get_mail.new.list b.mails.items (request.reply_to - b.from) c.answer.new.self c.may_get_mail.ensures all low) in
    (did_at c.deref.ensures done).steps

pub returns-then-has_cancelled-clause-forgotten : goal.returns-then-has_cancelled-clause-forgotten
returns-then-has_cancelled-clause-forgotten c = λ some own held. c.forget.ensures.forgotten held

pub returns-else-has_cancelled-clause-forgotten : goal.returns-else-has_cancelled-clause-forgotten
returns-else-has_cancelled-clause-forgotten c = λ some own held.
    absurd (let is : c.has_cancelled.result ≡ true = c.has_cancelled.ensures.1 (own, some) in cc)
