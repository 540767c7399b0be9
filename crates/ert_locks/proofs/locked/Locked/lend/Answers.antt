use Rattle.std.proofs.Common.{rules, ◌≡◌, true, refl, sym, ap, subst, ◌∙◌}
use Rattle.ert_locks.proofs.{Lent.{lent_out, lent_to, fits_again}, locked.Locked.lend.Given.Over, locked.Locked.lend.Goals.{After-meet, After-call-answer}}
use Rattle.ert_locks.specs.Lent.{IsLent, IsGivenBack}
use Rattle.ert_table.specs.{Desks.{front_of, actors_of}, Held.{is_held, actors_but}}
use Rattle.ert_locks.proofs.locked.Locked.lend.Goals as goal

lent : (g : Over) (c : After-meet g) → IsLent c.args.desk.now g.P.DeskPart.kind g.S.DeskPart.kind c.args.self.now (front_of c.args.seat.now) c.self.inside.part c.meet.new.pass
    c.args.own.now
lent g c = lent_to c.self.view_is c.meet.ensures.meets c.meet.ensures.belongs c.meet.ensures.legal c.meet.ensures.stands c.meet.ensures.own_stands

left : (g : Over) (c : After-call-answer g)
    → IsLent c.args.desk.now g.P.DeskPart.kind g.S.DeskPart.kind c.args.self.now (front_of c.args.seat.now) c.self.inside.part c.meet.new.pass c.args.own.now
    → IsGivenBack c.args.desk.now g.P.DeskPart.kind g.S.DeskPart.kind (λ s by n. g.C.Allowed.allows s by n c.call-answer.result) c.self.inside.part c.meet.new.pass c.args.own.now
    c.call-answer.new.arg2 c.call-answer.new.arg3 c.call-answer.new.arg4
left g c lent = c.requires.leaves _ _ _ _ _ _ _ refl lent c.call-answer.ensures

pub call-answer-requires : goal.call-answer-requires
call-answer-requires g c = let h = lent g (goal.at.call-answer-requires g c).After-meet in search rules

pub split-requires-clause-belongs : goal.split-requires-clause-belongs
split-requires-clause-belongs g c =
    let at = goal.at.split-requires-clause-belongs g c in
    (left g at.After-call-answer (lent g at.After-meet)).belongs

pub split-requires-clause-held : goal.split-requires-clause-held
split-requires-clause-held g c =
    let at = goal.at.split-requires-clause-held g c in
    let h = lent g at.After-meet in
    let user = g.S.DeskPart.kind.actor (g.S.DeskPart.kind.number c.args.own.now) in
    rw c.own_actor-actor.ensures (subst (λ l. is_held l user ≡ true) (sym (left g at.After-call-answer h).call.call.actors) h.has_user)

pub invariant_of-self : goal.invariant_of-self
invariant_of-self g c =
    let at = goal.at.invariant_of-self g c in
    let h = lent g at.After-meet in
    let rest = c.split.ensures.rest ∙ ap (λ a. actors_but (actors_of c.call-answer.new.arg3) a) c.own_actor-actor.ensures in
    fits_again c.requires.desk h (left g at.After-call-answer h) (c.requires.apart _ _) c.split.ensures.belongs rest c.split.ensures.front

pub returns-clause-call : goal.returns-clause-call
returns-clause-call g c = λ n is.
    let at = goal.at.returns-clause-call g c in
    let by = g.S.DeskPart.kind.number c.args.own.now in
    let answer = c.call-answer.result in
    lent_out g.P.DeskPart.kind.actor (λ s m. g.C.Allowed.allows s by m answer) c.requires.desk.settings_is (c.self.view_is ∙ is) c.meet.ensures.meets
    (left g at.After-call-answer (lent g at.After-meet)).call (c.requires.own g.L.DeskName.settings by _ answer) c.split.ensures.new_front

pub returns-clause-called : goal.returns-clause-called
returns-clause-called g c =
    let h = lent g (goal.at.returns-clause-called g c).After-meet in
    record {
      part = _;
      pass = _;
      own = _;
      new_part = _;
      new_pass = _;
      new_own = _;
      is_own = refl;
      lent = h;
      post = c.call-answer.ensures;
      is_left = refl;
      front = c.split.ensures.new_front;
    }
