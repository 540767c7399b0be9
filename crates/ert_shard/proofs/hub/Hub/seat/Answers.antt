use Rattle.std.proofs.Common.{◌<◌, [], ◌∷◌, ◌++◌, sym, ap, subst, ◌∙◌}
use Rattle.ert_defs.specs.declared.{entry.Actor.TheVariants.Caller, settings.Settings.Settings}
use Rattle.ert_shard.proofs.Seats.{seated_fit, back_fit}
use Rattle.ert_table.specs.{Desks.{settings_of, front_of, actors_of}, declared.desk.Desk.Desk}
use Rattle.ert_world.proofs.Given.{longer_same}
use Rattle.ert_world.specs.{Parts.parts_of, Seats.Seated}
use Rattle.ert_shard.proofs.hub.Hub.seat.Goals as goal

pub invariant_of-self : goal.invariant_of-self
invariant_of-self c =
    let b = c.self.inside in
    let low = subst (λ (d : Desk). b.next < (settings_of d).callers) c.deref.ensures (subst (λ (g : Settings). b.next < g.callers) c.settings.ensures c.if-number-settings.false) in (
      seated_fit c.deref-2.result.now _ b.pass c.split-pass.new.self b.left b.first b.next b.homes.items (parts_of b.keeper b.wheels.items b.inboxes.items b.mails.items b.scheds.items)
          c.deref-2.ensures c.self.invariant.0 c.split-pass.ensures.belongs c.split-pass.ensures.rest c.split-pass.ensures.front low,
      c.self.invariant.1,
      c.self.invariant.2,
    )

pub invariant_of-self-in-Err : goal.invariant_of-self-in-Err
invariant_of-self-in-Err c =
    let b = c.self.inside in
    let low = subst (λ (d : Desk). b.next < (settings_of d).callers) c.deref.ensures (subst (λ (g : Settings). b.next < g.callers) c.settings.ensures c.if-number-settings.false) in
    let same = c.in-Err.ensures.value_returned ∙ c.from_parts.ensures in
    let actors = c.into_parts-desk.ensures.sits.actors ∙ ap (λ (s : Seated). Caller s.number ∷ []) same in
    let front = longer_same (front_of c.split-pass.new.self) (front_of c.into_parts-desk.result.1) (front_of b.pass) c.split-pass.ensures.front
    (sym (ap (λ (s : Seated). s.history) c.into_parts-desk.ensures.same) ∙ (ap (λ (s : Seated). s.history) same ∙ c.split-pass.ensures.new_front)) in (
      back_fit c.deref-in-Err.result.now _ b.pass c.split-pass.new.self c.join.new.self b.left b.first b.next b.homes.items (parts_of b.keeper b.wheels.items b.inboxes.items b.mails.items b.scheds.items)
          c.deref-in-Err.ensures c.self.invariant.0 c.join.ensures.belongs c.split-pass.ensures.rest (c.join.ensures.actors ∙ ap (λ l. actors_of c.split-pass.new.self ++ l) actors)
          (c.join.ensures.front ∙ front) low,
      c.self.invariant.1,
      c.self.invariant.2,
    )
