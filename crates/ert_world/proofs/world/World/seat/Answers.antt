use Rattle.std.proofs.Common.{◌<◌, [], ◌∷◌, ◌++◌, ap, subst, sym, ◌∙◌}
use Rattle.std.specs.{Arc.arc_value, declared.alloc.AllocFailed.AllocFailed}
use Rattle.ert_defs.specs.{States.state, declared.entry.Actor.TheVariants.Caller, declared.settings.Settings.Settings}
use Rattle.ert_table.specs.{Desks.{settings_of, front_of, actors_of}, declared.desk.Desk.Desk}
use Rattle.ert_world.proofs.{Calls.parts_in, Given.{fit_after, fit_again, longer_same}}
use Rattle.ert_world.specs.{Seats.Seated, Worlds.ListAll}
use Rattle.ert_world.proofs.world.World.seat.Goals as goal

pub invariant_of-self : goal.invariant_of-self
invariant_of-self c = record {
  sound =
      (let low = subst (λ (d : Desk). c.self.inside.next < (settings_of d).callers) c.deref.ensures
      (subst (λ (g : Settings). c.self.inside.next < g.callers) c.settings.ensures c.if-number-settings.false) in
      fit_after c.deref-2.result.now _ c.self.inside.pass c.split-pass.new.self c.self.inside.next (parts_in c.self.inside) c.deref-2.ensures c.self.invariant.sound
      c.split-pass.ensures.belongs c.split-pass.ensures.rest c.split-pass.ensures.front low);
  listed = subst (λ h. ListAll (state (settings_of (arc_value c.self.inside.desk)) h) c.self.inside.list c.self.inside.mails.items) (sym c.split-pass.ensures.front) c.self.invariant.listed;
}

pub invariant_of-self-in-Err : goal.invariant_of-self-in-Err
invariant_of-self-in-Err c = record {
  sound =
      (let same = ap (λ (x : AllocFailed Seated). x.value) c.failed.view_is ∙ c.in-Err.ensures.value_returned in
      let actors = c.failed.invariant.actors ∙ ap (λ (s : Seated). Caller s.number ∷ []) same in
      let front = longer_same (front_of c.split-pass.new.self) (front_of c.failed.inside.0.0.pass) (front_of c.self.inside.pass) c.split-pass.ensures.front
      (ap (λ (s : Seated). s.history) same ∙ c.split-pass.ensures.new_front) in
      fit_again c.deref-in-Err.result.now _ c.self.inside.pass c.split-pass.new.self c.join.new.self c.self.inside.next (parts_in c.self.inside) c.deref-in-Err.ensures
      c.self.invariant.sound c.join.ensures.belongs c.split-pass.ensures.rest (c.join.ensures.actors ∙ ap (λ l. actors_of c.split-pass.new.self ++ l) actors)
      (c.join.ensures.front ∙ front));
  listed =
      let same = ap (λ (x : AllocFailed Seated). x.value) c.failed.view_is ∙ c.in-Err.ensures.value_returned in
      let front = longer_same (front_of c.split-pass.new.self) (front_of c.failed.inside.0.0.pass) (front_of c.self.inside.pass) c.split-pass.ensures.front
      (ap (λ (s : Seated). s.history) same ∙ c.split-pass.ensures.new_front) in
      subst (λ h. ListAll (state (settings_of (arc_value c.self.inside.desk)) h) c.self.inside.list c.self.inside.mails.items) (sym (c.join.ensures.front ∙ front)) c.self.invariant.listed;
}
