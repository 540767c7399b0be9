use Rattle.std.proofs.Common.{refl, sym, subst}
use Rattle.std.specs.Arc.{arc_value}
use Rattle.ert_table.specs.{Desks.{settings_of, actors_of}, declared.desk.Desk.Desk}
use Rattle.ert_world.proofs.{Alone.whole_of, Dropping.{kept_then, put_together}}
use Rattle.ert_world.specs.{Parts.parts_of, Worlds.AreFit}
use Rattle.ert_world.proofs.world.World.from_parts.Goals as goal

pub drop_all_settled-requires-clause-belongs : goal.drop_all_settled-requires-clause-belongs
drop_all_settled-requires-clause-belongs c =
    let p = c.args.parts in
    (subst (λ (x : Desk). AreFit x p.pass 1 (parts_of p.keeper p.wheels.items p.inboxes.items p.mails.items p.scheds.items)) (sym c.deref.ensures) c.requires.fit).belongs

pub drop_all_settled-requires-clause-whole : goal.drop_all_settled-requires-clause-whole
drop_all_settled-requires-clause-whole c =
    let p = c.args.parts in
    whole_of (settings_of c.deref.result.now) (actors_of p.pass) 1 refl
    (subst (λ (x : Desk). AreFit x p.pass 1 (parts_of p.keeper p.wheels.items p.inboxes.items p.mails.items p.scheds.items)) (sym c.deref.ensures) c.requires.fit).holds

pub drop_all_settled-requires-clause-ordered : goal.drop_all_settled-requires-clause-ordered
drop_all_settled-requires-clause-ordered c =
    let p = c.args.parts in
    (subst (λ (x : Desk). AreFit x p.pass 1 (parts_of p.keeper p.wheels.items p.inboxes.items p.mails.items p.scheds.items)) (sym c.deref.ensures) c.requires.fit).stand.wheels

pub invariant_of-result : goal.invariant_of-result
invariant_of-result c = record {
  sound =
      (let p = c.args.parts in
      kept_then c.deref.result.now (arc_value p.desk) p.pass c.drop_all_settled.new.pass (parts_of p.keeper p.wheels.items p.inboxes.items p.mails.items p.scheds.items)
      c.drop_all_settled.new.wheels.items c.deref.ensures c.requires.fit c.drop_all_settled.ensures.belongs c.drop_all_settled.ensures.same
      c.drop_all_settled.ensures.ordered c.drop_all_settled.ensures.tidy);
  listed = tt;
}

pub returns : goal.returns
returns c =
    let p = c.args.parts in
    put_together (arc_value p.desk) p.pass c.drop_all_settled.new.pass p.keeper p.wheels.items c.drop_all_settled.new.wheels.items c.drop_all_settled.ensures.same
    c.drop_all_settled.ensures.rows
