use Rattle.std.proofs.Common.{refl, sym, ap, subst, ◌∙◌}
use Rattle.std.specs.Arc.{arc_value}
use Rattle.ert_defs.specs.declared.entry.Actor.TheVariants.{Caller}
use Rattle.ert_table.specs.{Desks.Belongs, declared.desk.Desk.Desk}
use Rattle.ert_world.specs.{Seats.Seated, Worlds.Seen}
use Rattle.ert_world.proofs.{Calls.{Has, has_at}, Listed.kept_by, Meetings.{is_meeting, can_split, belongs_as, met_fit, met_both}}
use Rattle.ert_world.proofs.world.World.meet.Goals as goal

pub join-requires-clause-other_belongs : goal.join-requires-clause-other_belongs
join-requires-clause-other_belongs c =
    subst (λ (d : Desk). Belongs d c.seat.inside.pass) (sym c.deref.ensures)
    (belongs_as (arc_value c.seat.inside.desk) (arc_value c.self.inside.desk) c.seat.inside.pass
    (ap (λ (x : Seated). x.table) c.seat.view_is ∙ (c.requires.table ∙ sym (ap (λ (w : Seen). w.table) c.self.view_is)))
    (ap (λ (x : Seated). x.settings) c.seat.view_is ∙ (c.requires.settings ∙ sym (ap (λ (w : Seen). w.settings) c.self.view_is)))
    c.seat.invariant.belongs)

pub split-pass-requires-clause-held : goal.split-pass-requires-clause-held
split-pass-requires-clause-held c =
    can_split c.self.inside.pass c.seat.inside.pass c.join.new.self (Caller c.seat.inside.number) c.seat.invariant.actors c.join.ensures.actors

pub invariant_of-self : goal.invariant_of-self
invariant_of-self c =
    let d = arc_value c.self.inside.desk in
    let met = is_meeting d _ c.self.inside.pass c.seat.inside.pass c.join.new.self c.split-pass.new.self c.split-pass.result (Caller c.seat.inside.number) c.deref.ensures c.seat.invariant.actors
    c.join.ensures.actors c.join.ensures.joined c.join.ensures.legal c.split-pass.ensures.rest c.split-pass.ensures.front c.split-pass.ensures.actor c.split-pass.ensures.new_front in
    let has : Has c.args.self.now c.self.inside d = has_at refl c.self.view_is c.self.invariant.sound in
    let belongs = subst (λ (d : Desk). Belongs d c.split-pass.new.self) c.deref-2.ensures c.split-pass.ensures.belongs in
    let all = met_both c.args.self.now c.self.inside d c.seat.inside.pass c.join.new.self c.split-pass.new.self c.split-pass.result c.seat.inside.number has belongs met
    c.args.seat (arc_value c.seat.inside.desk) c.seat.view_is
    (sym (ap (λ (x : Seated). x.settings) c.seat.view_is ∙ (c.requires.settings ∙ sym (ap (λ (w : Seen). w.settings) c.self.view_is))))
    c.join.ensures.front in
    kept_by c.self.inside c.self.inside.list c.self.view_is
    (met_fit c.args.self.now c.self.inside d c.seat.inside.pass c.join.new.self c.split-pass.new.self c.split-pass.result c.seat.inside.number has belongs met)
    all.goes.grows c.self.invariant.listed

pub invariant_of-result : goal.invariant_of-result
invariant_of-result c = record {
  belongs = belongs_as (arc_value c.self.inside.desk) (arc_value c.seat.inside.desk) c.split-pass.result
      (sym (ap (λ (x : Seated). x.table) c.seat.view_is ∙ (c.requires.table ∙ sym (ap (λ (w : Seen). w.table) c.self.view_is))))
      (sym (ap (λ (x : Seated). x.settings) c.seat.view_is ∙ (c.requires.settings ∙ sym (ap (λ (w : Seen). w.settings) c.self.view_is))))
      (subst (λ (d : Desk). Belongs d c.split-pass.result) c.deref-2.ensures c.split-pass.ensures.new_belongs);
  actors = c.split-pass.ensures.actor;
  below = c.seat.invariant.below;
}

pub returns : goal.returns
returns c =
    let d = arc_value c.self.inside.desk in
    let met = is_meeting d _ c.self.inside.pass c.seat.inside.pass c.join.new.self c.split-pass.new.self c.split-pass.result (Caller c.seat.inside.number) c.deref.ensures c.seat.invariant.actors
    c.join.ensures.actors c.join.ensures.joined c.join.ensures.legal c.split-pass.ensures.rest c.split-pass.ensures.front c.split-pass.ensures.actor c.split-pass.ensures.new_front in
    let has : Has c.args.self.now c.self.inside d = has_at refl c.self.view_is c.self.invariant.sound in
    let belongs = subst (λ (d : Desk). Belongs d c.split-pass.new.self) c.deref-2.ensures c.split-pass.ensures.belongs in
    met_both c.args.self.now c.self.inside d c.seat.inside.pass c.join.new.self c.split-pass.new.self c.split-pass.result c.seat.inside.number has belongs met
    c.args.seat (arc_value c.seat.inside.desk) c.seat.view_is
    (sym (ap (λ (x : Seated). x.settings) c.seat.view_is ∙ (c.requires.settings ∙ sym (ap (λ (w : Seen). w.settings) c.self.view_is))))
    c.join.ensures.front
