use Rattle.std.proofs.Common.{length, arith, ap, subst}
use Rattle.ert_defs.specs.Legal.{Legal}
use Rattle.ert_service.proofs.{Gathered.{seen_then, seen_left}, Joined.joins_next}
use Rattle.ert_table.specs.Desks.{front_of, view_of}
use Rattle.ert_service.proofs.joining.join_callers.Goals as goal

pub loop-seat-preserved : goal.loop-seat-preserved
loop-seat-preserved g c =
    let v = view_of c.loop-seat.pass in
    let w = view_of c.in-Some.seat.pass in
    let j = view_of c.join.new.self in
    let gone = c.in-Some.ensures.steps.1 in
    let short = ap length c.in-Some.ensures.steps.0 in
    let was = c.loop-seat.invariant.remaining in
    record {
      belongs = c.join.ensures.belongs;
      legal = subst (λ t. Legal t (front_of c.join.new.self)) c.requires.desk.settings_is c.join.ensures.legal;
      seen = seen_then c.loop-seat.invariant.seen (seen_left v w j c.join.ensures.actors c.join.ensures.joined);
      joins = joins_next j c.in-Some.ensures.steps.0 c.join.ensures.actors c.join.ensures.joined c.in-Some.seat.sits.actors c.loop-seat.invariant.joins;
      remaining = omega arith;
    }
