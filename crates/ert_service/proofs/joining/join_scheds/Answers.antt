use Rattle.std.proofs.Common.{◌+◌, ◌<◌, [], ◌∷◌, ◌++◌, length, rules, arith, sym, ap, subst, ◌∙◌}
use Rattle.ert_defs.specs.{Legal.Legal, declared.entry.Actor.TheVariants.Sched}
use Rattle.ert_locks.proofs.Lent.{holds_self}
use Rattle.ert_locks.specs.{KindLaws.scheds_are, Kinds.scheds}
use Rattle.ert_service.proofs.{Gathered.{seen_then, seen_left, seen_right, in_later, in_more}, Joined.{joins_next, next_named, one_longer}}
use Rattle.ert_service.specs.Gathering.{AreIn}
use Rattle.ert_table.specs.Desks.{front_of, view_of}
use Rattle.ert_service.proofs.joining.join_scheds.Goals as goal

pub loop-seat-preserved : goal.loop-seat-preserved
loop-seat-preserved g c =
    let s = g.L.DeskName.settings in
    let n = length c.loop-seat.yielded in
    let w = view_of c.in-Some.seat.pass in
    let j = view_of c.join.new.self in
    let x = c.in-Some.seat.part in
    let fits = c.in-Some.seat.fits in
    let gone = c.in-Some.ensures.steps.1 in
    let short = ap length c.in-Some.ensures.steps.0 in
    let was = c.loop-seat.invariant.remaining in
    let legal = subst (λ t. Legal t (front_of c.join.new.self)) c.requires.desk.settings_is c.join.ensures.legal in
    let joins = joins_next j c.in-Some.ensures.steps.0 c.join.ensures.actors c.join.ensures.joined fits.sits.actors c.loop-seat.invariant.joins in
    let named = (next_named c.in-Some.ensures.steps.0 c.loop-seat.invariant.joins).0 in
    let longer = one_longer c.loop-seat.yielded c.in-Some.seat in
    let before = seen_left (view_of c.loop-seat.pass) w j c.join.ensures.actors c.join.ensures.joined in
    let here = seen_right (view_of c.loop-seat.pass) w j c.join.ensures.actors c.join.ensures.joined in
    let low : n < length (c.loop-seat.yielded ++ c.in-Some.seat ∷ []) = omega (arith, longer) in
    let own = c.join.ensures.joined.other_own (Sched x.wheel) (rw fits.sits.actors (holds_self (Sched x.wheel))) in
    let stands = scheds_are.stand_on s (front_of c.in-Some.seat.pass) (front_of c.join.new.self) x here.begins own legal fits.stands in
    let more = in_more x (in_later scheds_are before legal c.loop-seat.invariant.inside) named stands (joins.held n low) in
    record {
      belongs = c.join.ensures.belongs;
      legal = legal;
      seen = seen_then c.loop-seat.invariant.seen before;
      joins = joins;
      remaining = omega arith;
      inside = subst (λ m. AreIn scheds s m j c.push_reserved.new.self.items) (sym longer)
          (subst (λ l. AreIn scheds s (n + 1) j l) (sym c.push_reserved.ensures.items) more);
      len = c.push_reserved.ensures.len ∙ (ap (λ m. m + 1) c.loop-seat.invariant.len ∙ sym longer);
      room = search rules;
    }
