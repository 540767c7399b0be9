use Rattle.std.proofs.Common.{ℕ, subst, ◌∙◌}
use Rattle.ert_effects.specs.{Chains.Turns, Ways.{Grows, beside}}
use Rattle.ert_defs.specs.declared.entry.Actor.TheVariants.{Sched}
use Rattle.ert_table.specs.Desks.{front_of}
use Rattle.ert_program.proofs.TurnsMade.{turns_more}
use Rattle.ert_program.proofs.races.turns.do_turns.Goals as goal

pub loop-done-preserved : goal.loop-done-preserved
loop-done-preserved g c =
    let s = g.L.DeskName.settings in
    let w = c.args.session.now.seat.part.wheel in
    let h = front_of c.loop-done.session.seat.pass in
    let k = front_of c.turn.new.self.seat.pass in
    let one = subst (λ (m : ℕ). Grows (Turns s (beside s (Sched m)) m c.turn.result) h k) c.loop-done.invariant.number c.turn.ensures.call in
    let one_ok = subst (λ r. Grows (Turns s (beside s (Sched w)) w r) h k) c.in_default.is one in
    record {
      number = c.turn.ensures.number ∙ c.loop-done.invariant.number;
      so_far = turns_more s w c.loop-done.done c.in_default.field-0 (front_of c.args.session.now.seat.pass) h k c.loop-done.invariant.so_far one_ok;
    }

pub returns-in-Err-clause-stops : goal.returns-in-Err-clause-stops
returns-in-Err-clause-stops g c =
    let s = g.L.DeskName.settings in
    let w = c.args.session.now.seat.part.wheel in
    let h = front_of c.loop-done.session.seat.pass in
    let k = front_of c.turn.new.self.seat.pass in
    let one = subst (λ (m : ℕ). Grows (Turns s (beside s (Sched m)) m c.turn.result) h k) c.loop-done.invariant.number c.turn.ensures.call in
    record {
      done = c.loop-done.done;
      few = c.loop-done-test.true;
      reached = h;
      turned = c.loop-done.invariant.so_far;
      stops = subst (λ r. Grows (Turns s (beside s (Sched w)) w r) h k) c.in-Err.is one;
    }
