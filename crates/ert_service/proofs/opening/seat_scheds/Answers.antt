use Rattle.std.proofs.Common.{◌+◌, length, rules, arith, sym, ap, subst, ◌∙◌}
use Rattle.ert_locks.specs.KindLaws.{scheds_are}
use Rattle.ert_service.proofs.Divided.{next_of, divides_next, seats_more}
use Rattle.ert_service.specs.Dividing.{AreSeated}
use Rattle.ert_table.specs.Desks.{front_of}
use Rattle.ert_service.proofs.opening.seat_scheds.Goals as goal

pub split-own-requires-clause-held : goal.split-own-requires-clause-held
split-own-requires-clause-held g c = (next_of c.in-Some.ensures.steps.0 c.loop-part.invariant.divides).held

pub loop-part-preserved : goal.loop-part-preserved
loop-part-preserved g c =
    let next = next_of c.in-Some.ensures.steps.0 c.loop-part.invariant.divides in
    let gone = c.in-Some.ensures.steps.1 in
    let short = ap length c.in-Some.ensures.steps.0 in
    let was = c.loop-part.invariant.remaining in
    record {
      remaining = omega arith;
      belongs = c.split-own.ensures.belongs;
      front = c.split-own.ensures.front ∙ c.loop-part.invariant.front;
      divides = divides_next scheds_are c.push_reserved.ensures.len c.in-Some.ensures.steps.0 c.split-own.ensures.rest c.loop-part.invariant.divides;
      room = search rules;
      seated = subst (λ k. AreSeated (λ s. s.part.wheel) (λ s. front_of s.pass) k (front_of c.args.pass.now) c.push_reserved.new.self.items) (sym c.push_reserved.ensures.len)
          (subst (λ l. AreSeated (λ s. s.part.wheel) (λ s. front_of s.pass) (c.loop-part.seats.len + 1) (front_of c.args.pass.now) l) (sym c.push_reserved.ensures.items)
          (seats_more c.new.result c.loop-part.invariant.seated
          (ap (λ p. p.wheel) c.new.ensures.part ∙ next.named) (ap (λ p. front_of p) c.new.ensures.pass ∙ (c.split-own.ensures.new_front ∙ c.loop-part.invariant.front))));
    }
