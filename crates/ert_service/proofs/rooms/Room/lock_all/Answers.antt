use Rattle.std.proofs.Common.{◌≡◌, true, [], ◌∷◌, refl, length, rules, arith, sym, ap, subst, ◌∙◌}
use Rattle.ert_locks.proofs.Lent.{is_of}
use Rattle.ert_service.proofs.Divided.{next_of, divides_none, divides_next}
use Rattle.ert_table.specs.{Desks.actors_of, Held.{is_held, actors_but}}
use Rattle.ert_service.proofs.rooms.Room.lock_all.Goals as goal

pub split-own-requires-clause-held : goal.split-own-requires-clause-held
split-own-requires-clause-held g c =
    let next = next_of c.in-Some.ensures.steps.0 c.loop-part.invariant.divides in
    subst (λ a. is_held (actors_of c.loop-part.pass) a ≡ true) (sym c.own_actor.ensures) next.held

pub loop-part-preserved : goal.loop-part-preserved
loop-part-preserved g c =
    let gone = c.in-Some.ensures.steps.1 in
    let short = ap length c.in-Some.ensures.steps.0 in
    let was = c.loop-part.invariant.remaining in
    record {
      belongs = c.split-own.ensures.belongs;
      front = c.split-own.ensures.front ∙ c.loop-part.invariant.front;
      divides = divides_next g.met.P.DeskPart.is_kind c.push_reserved.ensures.len c.in-Some.ensures.steps.0
          (c.split-own.ensures.rest ∙ ap (λ a. actors_but (actors_of c.loop-part.pass) a) c.own_actor.ensures) c.loop-part.invariant.divides;
      remaining = omega arith;
      room = search rules;
    }

pub loop-part-init : goal.loop-part-init
loop-part-init g c = record {
  belongs = c.requires.belongs;
  front = refl;
  divides = divides_none c.requires.parts (search rules) c.in_ok-locks.ensures.len c.requires.held;
  remaining = search rules;
  room = search rules;
}

pub new-requires : goal.new-requires
new-requires g c =
    let next = next_of c.in-Some.ensures.steps.0 c.loop-part.invariant.divides in
    record {
      sits = is_of g.L.DeskName.table g.L.DeskName.settings (g.P.DeskPart.kind.actor (g.P.DeskPart.kind.number c.in-Some.part)) c.args.desk.now c.split-own.result c.requires.desk c.split-own.ensures.new_belongs
          (c.split-own.ensures.actor ∙ ap (λ a. a ∷ []) c.own_actor.ensures);
      stands = subst (λ h. g.P.DeskPart.kind.stands g.L.DeskName.settings h c.in-Some.part) (sym (c.split-own.ensures.new_front ∙ c.loop-part.invariant.front)) next.stand;
    }
