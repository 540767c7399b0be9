use Rattle.std.proofs.Common.{length, refl, sym, ap, subst, ◌∙◌, arith}
use Rattle.ert_table.specs.{Desks.{settings_of, front_of}, Held.IsWhole, declared.view.View.View}
use Rattle.ert_timers.specs.{Dropping.DropsRow, Parts.PartStands}
use Rattle.ert_timers.proofs.Dropped.{drops_first, drops_more, left_tidy}
use Rattle.ert_timers.proofs.part.WheelPart.drop_settled.Goals as goal

pub loop-slot-init : goal.loop-slot-init
loop-slot-init c = record {
  belongs = c.requires.belongs;
  same = refl;
  drops = drops_first (settings_of c.args.desk.now) (front_of c.args.pass.now) c.args.self.now c.requires.stands;
}

pub drop_settled_row-requires-clause-low : goal.drop_settled_row-requires-clause-low
drop_settled_row-requires-clause-low c =
    omega (arith, c.loop-slot-test.true, c.slot_count-slot-end.ensures, ap length c.loop-slot.invariant.drops.loses.slots)

pub drop_settled_row-requires-clause-whole : goal.drop_settled_row-requires-clause-whole
drop_settled_row-requires-clause-whole c =
    subst (λ (v : View). IsWhole (settings_of c.args.desk.now) v.actors) (sym c.loop-slot.invariant.same) c.requires.whole

pub drop_settled_row-requires-clause-stands : goal.drop_settled_row-requires-clause-stands
drop_settled_row-requires-clause-stands c =
    subst (λ (v : View). PartStands (settings_of c.args.desk.now) v.front c.loop-slot.self) (sym c.loop-slot.invariant.same) c.loop-slot.invariant.drops.stands

pub loop-slot-preserved : goal.loop-slot-preserved
loop-slot-preserved c =
    let g = settings_of c.args.desk.now in
    record {
      belongs = c.drop_settled_row.ensures.belongs;
      same = c.drop_settled_row.ensures.same ∙ c.loop-slot.invariant.same;
      drops = drops_more g (front_of c.args.pass.now) c.args.self.now c.loop-slot.self c.drop_settled_row.new.self c.loop-slot.slot
          c.loop-slot.invariant.drops
          (subst (λ (v : View). DropsRow g v.front c.loop-slot.self c.drop_settled_row.new.self c.loop-slot.slot) c.loop-slot.invariant.same
          c.drop_settled_row.ensures.drops);
    }

pub returns : goal.returns
returns c = record {
  belongs = c.loop-slot.invariant.belongs;
  same = c.loop-slot.invariant.same;
  stands = c.loop-slot.invariant.drops.stands;
  loses = c.loop-slot.invariant.drops.loses;
  frees = c.loop-slot.invariant.drops.frees;
  tidy = left_tidy (settings_of c.args.desk.now) (front_of c.args.pass.now) c.args.self.now c.loop-slot.self c.loop-slot.slot
      c.loop-slot.invariant.drops (omega (arith, c.loop-slot-test.false, c.slot_count-slot-end.ensures));
}
