use Rattle.std.proofs.Common.{◌≡◌, ◌<◌, ◌++◌, [], ◌∷◌, false, length, sym, ap, subst, arith}
use Rattle.ert_mail.proofs.Rows.{room_left, row_of, turns_put}
use Rattle.ert_mail.specs.Turns.{TurnRow, is_listed}
use Rattle.ert_mail.proofs.turns.Turns.put.Goals as goal

pub push_back_reserved-requires : goal.push_back_reserved-requires
push_back_reserved-requires c =
    let held = c.self.inside.waiting in
    let few : length held.items < c.self.inside.bound =
    room_left (row_of c.self.inside.bound held.items) held.cap c.args.number c.self.invariant
    (subst (λ (r : TurnRow). c.args.number < r.bound) (sym c.self.view_is) c.requires.in_range)
    (subst (λ (r : TurnRow). is_listed r c.args.number ≡ false) (sym c.self.view_is) c.requires.away) in
    omega (arith, few, held.ok.0, c.self.invariant.room)

pub invariant_of-self : goal.invariant_of-self
invariant_of-self c =
    let held = c.self.inside.waiting in
    rw c.push_back_reserved.ensures.items
    (turns_put (row_of c.self.inside.bound held.items) held.cap _ c.args.number c.self.invariant (omega (arith, c.push_back_reserved.ensures.capacity))
    (subst (λ (r : TurnRow). c.args.number < r.bound) (sym c.self.view_is) c.requires.in_range)
    (subst (λ (r : TurnRow). is_listed r c.args.number ≡ false) (sym c.self.view_is) c.requires.away))

pub returns : goal.returns
returns c =
    subst (λ (old : TurnRow). row_of c.self.inside.bound c.push_back_reserved.new.self.items ≡ record old { held = old.held ++ c.args.number ∷ [] })
    c.self.view_is (ap (row_of c.self.inside.bound) c.push_back_reserved.ensures.items)
