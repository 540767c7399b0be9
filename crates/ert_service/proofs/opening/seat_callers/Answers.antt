use Rattle.std.proofs.Common.{◌+◌, rules, sym, ap, subst, ◌∙◌}
use Rattle.ert_service.proofs.Divided.{held_next, seats_more}
use Rattle.ert_service.specs.Dividing.{AreSeated}
use Rattle.ert_table.specs.Desks.{front_of, actors_of}
use Rattle.ert_service.proofs.opening.seat_callers.Goals as goal

pub loop-number-preserved : goal.loop-number-preserved
loop-number-preserved g c = record {
  belongs = c.split-own.ensures.belongs;
  front = c.split-own.ensures.front ∙ c.loop-number.invariant.front;
  held = held_next (actors_of c.loop-number.pass) (actors_of c.split-own.new.self) c.loop-number.number g.L.DeskName.settings.callers c.split-own.ensures.rest c.loop-number.invariant.held;
  count = c.loop-number.invariant.count;
  len = search rules;
  room = search rules;
  seated = subst (λ l. AreSeated (λ s. s.number) (λ s. front_of s.pass) (c.loop-number.number + 1) (front_of c.args.pass.now) l) (sym c.push_reserved.ensures.items)
      (seats_more c.new.result c.loop-number.invariant.seated
      c.new.ensures.number (ap (λ p. front_of p) c.new.ensures.pass ∙ (c.split-own.ensures.new_front ∙ c.loop-number.invariant.front)));
}
