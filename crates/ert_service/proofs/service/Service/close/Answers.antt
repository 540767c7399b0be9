use Rattle.std.proofs.Common.{sym, ap, subst}
use Rattle.std.specs.Arc.{arc_value}
use Rattle.ert_defs.specs.{Legal.Legal, declared.entry.Actor.TheVariants.{Caller, Sched}}
use Rattle.ert_laws.proofs.Kept.{keeps_laws}
use Rattle.ert_laws.specs.KeptLaws.{KeepsLaws}
use Rattle.ert_locks.specs.KindLaws.{wheels_are, inboxes_are, mails_are, scheds_are}
use Rattle.ert_world.specs.Worlds.{Seen as Shows}
use Rattle.ert_service.proofs.{Closed.{fit_of, own_of}, Gathered.{seen_then, seen_right, in_later}, Joined.all_as}
use Rattle.ert_service.specs.{Gathering.IsSeen, Joining.HasOwn}
use Rattle.ert_table.specs.Desks.{settings_of, front_of, view_of, Belongs}
use Rattle.ert_service.proofs.service.Service.close.Goals as goal

pub from_parts-requires-clause-fit : goal.from_parts-requires-clause-fit
from_parts-requires-clause-fit g c =
    let legal = c.join_callers.ensures.legal in
    let at_scheds = c.join_callers.ensures.seen in
    let at_mails = seen_then c.join_scheds-scheds.ensures.seen at_scheds in
    let at_inboxes = seen_then c.gather_all-mails.ensures.seen at_mails in
    let at_wheels = seen_then c.gather_all-inboxes.ensures.seen at_inboxes in
    let at_keeper = seen_then c.gather_all-wheels.ensures.seen at_wheels in
    fit_of c.args.self.named (subst (λ d. Belongs d c.join_callers.new.pass) c.deref-shared.ensures c.join_callers.ensures.belongs) (record {
      legal = legal;
      keeper_fits = c.into_parts-keeper.ensures.fits;
      keeper = seen_then (seen_right (view_of c.args.rest) (view_of c.into_parts-keeper.result.1) (view_of c.join.new.self) c.join.ensures.actors c.join.ensures.joined) at_keeper;
      wheels = in_later wheels_are at_wheels legal c.gather_all-wheels.ensures.parts;
      inboxes = in_later inboxes_are at_inboxes legal c.gather_all-inboxes.ensures.parts;
      mails = in_later mails_are at_mails legal c.gather_all-mails.ensures.parts;
      scheds = in_later scheds_are at_scheds legal c.join_scheds-scheds.ensures.parts;
      callers = c.join_callers.ensures.held;
    })

pub returns-clause-scheds : goal.returns-clause-scheds
returns-clause-scheds g c =
    let vs = view_of c.join_scheds-scheds.new.pass in
    all_as (λ x. IsSeen (view_of x.pass) vs) (λ x. HasOwn (Sched x.part.wheel) (front_of x.pass) c.from_parts.result.history) c.args.scheds.items
    (λ x seen. subst (λ h. HasOwn (Sched x.part.wheel) (front_of x.pass) h) (sym (ap (λ (w : Shows). w.history) c.from_parts.ensures.rest))
    (own_of (Sched x.part.wheel) x.fits.sits.actors (seen_then seen c.join_callers.ensures.seen)))
    c.join_scheds-scheds.ensures.seats

pub returns-clause-callers : goal.returns-clause-callers
returns-clause-callers g c =
    let vc = view_of c.join_callers.new.pass in
    all_as (λ x. IsSeen (view_of x.pass) vc) (λ x. HasOwn (Caller x.number) (front_of x.pass) c.from_parts.result.history) c.args.callers.items
    (λ x seen. subst (λ h. HasOwn (Caller x.number) (front_of x.pass) h) (sym (ap (λ (w : Shows). w.history) c.from_parts.ensures.rest))
    (own_of (Caller x.number) x.sits.actors seen))
    c.join_callers.ensures.seats

pub returns-clause-laws : goal.returns-clause-laws
returns-clause-laws g c =
    let d = arc_value c.args.self.desk in
    let s = settings_of d in
    let legal = subst (λ t. Legal t (front_of c.join_callers.new.pass)) (sym c.args.self.named.settings_is) c.join_callers.ensures.legal in
    subst (λ (w : Shows). KeepsLaws w.settings w.history) (sym c.from_parts.ensures.rest) (keeps_laws s (front_of c.join_callers.new.pass) d.checked legal)
