use Rattle.std.proofs.Common.{◌≡◌, Some, Err, rules, refl, ap, sym, subst, ◌∙◌}
use Rattle.std.specs.Arc.{arc_value}
use Rattle.ert_effects.specs.Chains.{Hands}
use Rattle.ert_defs.specs.{Mails.{first_of, others_of}, States.state}
use Rattle.ert_mail.specs.Mailboxes.{MailboxStands}
use Rattle.ert_world.proofs.{Alone.stays_same, Calls.{mail_named, Has, has_at, parts_in, schedulers_at}, Listed.{list_low, listed_now, kept_by, does_listed, turns_put}, SchedCalls.{expired_placed, hands_on, handed_in, sched_holds}}
use Rattle.ert_world.proofs.{SchedCalls.{handed_now, step_refused}}
use Rattle.ert_table.specs.{Desks.{settings_of, front_of, state_of}, declared.desk.Desk.Desk}
use Rattle.ert_world.specs.Worlds.{Seen, seen, IsHandedIn, world_sched}
use Rattle.ert_world.proofs.world.World.hand_over.Goals as goal

pub may_get_mail-requires : goal.may_get_mail-requires
may_get_mail-requires c =
    list_low (state_of (arc_value c.self.inside.desk) c.self.inside.pass) c.self.inside.list c.self.inside.mails.items c.args.expired.now.dest c.self.invariant.listed
    (rw c.self.invariant.sound.fit.stand.mails.counted (expired_placed c.args.self.now c.self.inside _ c.args.sched c.args.expired.now (has_at refl c.self.view_is c.self.invariant.sound) c.requires.first).dest)

pub index_mut-requires : goal.index_mut-requires
index_mut-requires c =
    let placed = expired_placed c.args.self.now c.self.inside _ c.args.sched c.args.expired.now (has_at refl c.self.view_is c.self.invariant.sound) c.requires.first in
    rw (c.self.inside.mails.ok.0 ∙ c.self.invariant.sound.fit.stand.mails.counted) placed.dest

pub deliver-requires-clause-holds : goal.deliver-requires-clause-holds
deliver-requires-clause-holds c =
    let has : Has c.args.self.now c.self.inside c.deref.result.now = has_at c.deref.ensures c.self.view_is c.self.invariant.sound in
    let placed = expired_placed c.args.self.now c.self.inside c.deref.result.now c.args.sched c.args.expired.now (has_at c.deref.ensures c.self.view_is c.self.invariant.sound) c.requires.first in
    sched_holds c.args.self.now c.self.inside c.deref.result.now c.args.expired.now.timer.wheel c.args.expired.now.dest c.index_mut.result.now.process has
    (rw placed.wheel (schedulers_at has c.args.sched c.requires.sched)) placed.dest
    (mail_named (settings_of c.deref.result.now) (front_of c.self.inside.pass) _ (parts_in c.self.inside) c.args.expired.now.dest c.index_mut.result.now
    has.fit.stand placed.dest c.index_mut.ensures.value)

pub deliver-requires-clause-dest : goal.deliver-requires-clause-dest
deliver-requires-clause-dest c =
    let has : Has c.args.self.now c.self.inside c.deref.result.now = has_at c.deref.ensures c.self.view_is c.self.invariant.sound in
    let placed = expired_placed c.args.self.now c.self.inside c.deref.result.now c.args.sched c.args.expired.now (has_at c.deref.ensures c.self.view_is c.self.invariant.sound) c.requires.first in
    sym (mail_named (settings_of c.deref.result.now) (front_of c.self.inside.pass) _ (parts_in c.self.inside) c.args.expired.now.dest c.index_mut.result.now
    has.fit.stand placed.dest c.index_mut.ensures.value)

pub deliver-requires-clause-first : goal.deliver-requires-clause-first
deliver-requires-clause-first c =
    let has : Has c.args.self.now c.self.inside c.deref.result.now = has_at c.deref.ensures c.self.view_is c.self.invariant.sound in
    let placed = expired_placed c.args.self.now c.self.inside c.deref.result.now c.args.sched c.args.expired.now (has_at c.deref.ensures c.self.view_is c.self.invariant.sound) c.requires.first in
    subst (λ n. first_of ((state (settings_of c.deref.result.now) (front_of c.self.inside.pass)).scheds n).expired ≡ Some c.args.expired.now) (sym placed.wheel)
    (subst (λ (w : Seen). first_of (world_sched w c.args.sched).expired ≡ Some c.args.expired.now) (sym has.is) c.requires.first)

pub deliver-requires-clause-stands : goal.deliver-requires-clause-stands
deliver-requires-clause-stands c =
    let has : Has c.args.self.now c.self.inside c.deref.result.now = has_at c.deref.ensures c.self.view_is c.self.invariant.sound in
    let placed = expired_placed c.args.self.now c.self.inside c.deref.result.now c.args.sched c.args.expired.now (has_at c.deref.ensures c.self.view_is c.self.invariant.sound) c.requires.first in
    subst (MailboxStands (settings_of c.deref.result.now) (front_of c.self.inside.pass)) (sym c.index_mut.ensures.value)
    (has.fit.stand.mails.stand c.args.expired.now.dest c.index_mut.result.now placed.dest refl)

pub returns-in_err-handed-clause-call : goal.returns-in_err-handed-clause-call
returns-in_err-handed-clause-call c =
    let has : Has c.args.self.now c.self.inside c.deref.result.now = has_at c.deref.ensures c.self.view_is c.self.invariant.sound in
    let placed = expired_placed c.args.self.now c.self.inside c.deref.result.now c.args.sched c.args.expired.now (has_at c.deref.ensures c.self.view_is c.self.invariant.sound) c.requires.first in
    let result : c.from_residual.result ≡ Err c.in_err-handed.field-0.0 = search rules in
    rw result (does_listed c.may_get_mail.new.list (turns_put c.args.self.now c.self.inside.list c.may_get_mail.new.list c.args.expired.now.dest (ap (λ (w : Seen). w.turns) c.self.view_is) c.may_get_mail.ensures) c.deref.ensures (step_refused c.args.self.now c.self.inside c.deref.result.now c.deliver.new.pass c.args.expired.now.dest c.index_mut.result.now c.deliver.new.self
    (λ w way. Hands w.settings way c.args.sched (Err c.in_err-handed.field-0.0)) has c.deliver.ensures.belongs
    placed.dest c.index_mut.ensures.value c.deliver.ensures.process c.deliver.ensures.stands c.in_err-handed.ensures.call.same
    (λ m grown own. record {
      expired = c.args.expired.now;
      first = subst (λ (w : Seen). first_of (world_sched w c.args.sched).expired ≡ Some c.args.expired.now) (sym has.is) c.requires.first;
      step = own;
    }))).goes

pub invariant_of-self : goal.invariant_of-self
invariant_of-self c =
    let all =
    (let has : Has c.args.self.now c.self.inside c.deref.result.now = has_at c.deref.ensures c.self.view_is c.self.invariant.sound in
    let placed = expired_placed c.args.self.now c.self.inside c.deref.result.now c.args.sched c.args.expired.now has c.requires.first in
    (does_listed c.may_get_mail.new.list (turns_put c.args.self.now c.self.inside.list c.may_get_mail.new.list c.args.expired.now.dest (ap (λ (w : Seen). w.turns) c.self.view_is) c.may_get_mail.ensures) c.deref.ensures (step_refused c.args.self.now c.self.inside c.deref.result.now c.deliver.new.pass c.args.expired.now.dest c.index_mut.result.now c.deliver.new.self
    (λ w way. Hands w.settings way c.args.sched (Err c.in_err-handed.field-0.0)) has c.deliver.ensures.belongs
    placed.dest c.index_mut.ensures.value c.deliver.ensures.process c.deliver.ensures.stands c.in_err-handed.ensures.call.same
    (λ m grown own. record {
      expired = c.args.expired.now;
      first = subst (λ (w : Seen). first_of (world_sched w c.args.sched).expired ≡ Some c.args.expired.now) (sym has.is) c.requires.first;
      step = own;
    })))) in
    kept_by c.self.inside c.may_get_mail.new.list c.self.view_is all.fit all.goes.grows
    (listed_now (state_of (arc_value c.self.inside.desk) c.self.inside.pass) c.self.inside.list c.may_get_mail.new.list c.self.inside.mails.items c.args.expired.now.dest c.deliver.new.self c.may_get_mail.ensures c.self.invariant.listed
    (rw c.self.invariant.sound.fit.stand.mails.counted (expired_placed c.args.self.now c.self.inside _ c.args.sched c.args.expired.now (has_at refl c.self.view_is c.self.invariant.sound) c.requires.first).dest))

pub invariant_of-self-2 : goal.invariant_of-self-2
invariant_of-self-2 c =
    let all =
    ((does_listed c.may_get_mail.new.list (turns_put c.args.self.now c.self.inside.list c.may_get_mail.new.list c.args.expired.now.dest (ap (λ (w : Seen). w.turns) c.self.view_is) c.may_get_mail.ensures) c.deref.ensures (handed_now c.args.self.now c.self.inside c.deref.result.now c.deliver.new.pass c.args.sched c.index_mut.result.now c.deliver.new.self c.args.expired.now c.in_ok-handed.handed
    c.index_mut-2.result.now (record { wheel = c.index_mut-2.result.now.wheel; hand = c.index_mut-2.result.now.hand; expired = c.pop.new.self })
    (has_at c.deref.ensures c.self.view_is c.self.invariant.sound) c.deliver.ensures.belongs c.requires.sched c.requires.first c.index_mut.ensures.value c.deliver.ensures.process
    c.deliver.ensures.stands c.in_ok-handed.ensures.call c.in_ok-handed.ensures.sched c.index_mut-2.ensures.value refl refl c.pop.ensures.others))) in
    kept_by c.self.inside c.may_get_mail.new.list c.self.view_is all.fit all.goes.grows
    (listed_now (state_of (arc_value c.self.inside.desk) c.self.inside.pass) c.self.inside.list c.may_get_mail.new.list c.self.inside.mails.items c.args.expired.now.dest c.deliver.new.self c.may_get_mail.ensures c.self.invariant.listed
    (rw c.self.invariant.sound.fit.stand.mails.counted (expired_placed c.args.self.now c.self.inside _ c.args.sched c.args.expired.now (has_at refl c.self.view_is c.self.invariant.sound) c.requires.first).dest))

pub returns-clause-call : goal.returns-clause-call
returns-clause-call c =
    (does_listed c.may_get_mail.new.list (turns_put c.args.self.now c.self.inside.list c.may_get_mail.new.list c.args.expired.now.dest (ap (λ (w : Seen). w.turns) c.self.view_is) c.may_get_mail.ensures) c.deref.ensures (handed_now c.args.self.now c.self.inside c.deref.result.now c.deliver.new.pass c.args.sched c.index_mut.result.now c.deliver.new.self c.args.expired.now c.in_ok-handed.handed
    c.index_mut-2.result.now (record { wheel = c.index_mut-2.result.now.wheel; hand = c.index_mut-2.result.now.hand; expired = c.pop.new.self })
    (has_at c.deref.ensures c.self.view_is c.self.invariant.sound) c.deliver.ensures.belongs c.requires.sched c.requires.first c.index_mut.ensures.value c.deliver.ensures.process
    c.deliver.ensures.stands c.in_ok-handed.ensures.call c.in_ok-handed.ensures.sched c.index_mut-2.ensures.value refl refl c.pop.ensures.others)).goes

pub returns-clause-expired : goal.returns-clause-expired
returns-clause-expired c =
    subst (λ (d : Desk). ((state (settings_of d) (front_of c.deliver.new.pass)).scheds c.args.sched).expired ≡ others_of (world_sched c.args.self.now c.args.sched).expired) c.deref.ensures
    (hands_on c.args.self.now c.self.inside c.deref.result.now c.deliver.new.pass c.args.sched c.args.expired.now c.in_ok-handed.handed (has_at c.deref.ensures c.self.view_is c.self.invariant.sound)
    c.requires.first c.in_ok-handed.ensures.sched)

pub returns-clause-handed : goal.returns-clause-handed
returns-clause-handed c =
    subst (λ (d : Desk). IsHandedIn (seen d c.deliver.new.pass c.self.inside.next c.self.inside.keeper c.self.inside.wheels.items c.may_get_mail.new.list) c.args.expired.now.timer) c.deref.ensures
    (handed_in c.args.self.now c.self.inside c.deref.result.now c.deliver.new.pass c.args.sched c.args.expired.now c.in_ok-handed.handed c.may_get_mail.new.list (has_at c.deref.ensures c.self.view_is c.self.invariant.sound)
    c.requires.sched c.requires.first c.in_ok-handed.ensures.call)

pub returns-clause-stays : goal.returns-clause-stays
returns-clause-stays c =
    let done =
    (does_listed c.may_get_mail.new.list (turns_put c.args.self.now c.self.inside.list c.may_get_mail.new.list c.args.expired.now.dest (ap (λ (w : Seen). w.turns) c.self.view_is) c.may_get_mail.ensures) c.deref.ensures (handed_now c.args.self.now c.self.inside c.deref.result.now c.deliver.new.pass c.args.sched c.index_mut.result.now c.deliver.new.self c.args.expired.now c.in_ok-handed.handed
    c.index_mut-2.result.now (record { wheel = c.index_mut-2.result.now.wheel; hand = c.index_mut-2.result.now.hand; expired = c.pop.new.self })
    (has_at c.deref.ensures c.self.view_is c.self.invariant.sound) c.deliver.ensures.belongs c.requires.sched c.requires.first c.index_mut.ensures.value c.deliver.ensures.process
    c.deliver.ensures.stands c.in_ok-handed.ensures.call c.in_ok-handed.ensures.sched c.index_mut-2.ensures.value refl refl c.pop.ensures.others)) in
    stays_same done.goes (ap (λ (w : Seen). w.wheels) c.self.view_is) done.forgets

pub returns-in_err-handed-clause-stays : goal.returns-in_err-handed-clause-stays
returns-in_err-handed-clause-stays c =
    let has : Has c.args.self.now c.self.inside c.deref.result.now = has_at c.deref.ensures c.self.view_is c.self.invariant.sound in
    let placed = expired_placed c.args.self.now c.self.inside c.deref.result.now c.args.sched c.args.expired.now (has_at c.deref.ensures c.self.view_is c.self.invariant.sound) c.requires.first in
    let done =
    does_listed c.may_get_mail.new.list (turns_put c.args.self.now c.self.inside.list c.may_get_mail.new.list c.args.expired.now.dest (ap (λ (w : Seen). w.turns) c.self.view_is) c.may_get_mail.ensures) c.deref.ensures (step_refused c.args.self.now c.self.inside c.deref.result.now c.deliver.new.pass c.args.expired.now.dest c.index_mut.result.now c.deliver.new.self
    (λ w way. Hands w.settings way c.args.sched (Err c.in_err-handed.field-0.0)) has c.deliver.ensures.belongs
    placed.dest c.index_mut.ensures.value c.deliver.ensures.process c.deliver.ensures.stands c.in_err-handed.ensures.call.same
    (λ m grown own. record {
      expired = c.args.expired.now;
      first = subst (λ (w : Seen). first_of (world_sched w c.args.sched).expired ≡ Some c.args.expired.now) (sym has.is) c.requires.first;
      step = own;
    })) in
    stays_same done.goes (ap (λ (w : Seen). w.wheels) c.self.view_is) done.forgets
