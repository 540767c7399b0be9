use Rattle.std.proofs.Common.{subst}
use Rattle.ert_mail.proofs.Rows.{IsPicked, left_behind, picked_first, row_of}
use Rattle.ert_mail.specs.Turns.{TurnRow}
use Rattle.ert_mail.proofs.turns.Turns.pick_first.Goals as goal

pub invariant_of-self : goal.invariant_of-self
invariant_of-self c =
    rw c.pop_front.ensures.capacity
    (left_behind c.self.inside.bound _ c.self.inside.waiting.items c.pop_front.new.self.items c.pop_front.result
    c.pop_front.ensures.items c.self.invariant)

pub returns : goal.returns
returns c =
    let held = c.self.inside.waiting in
    let new : TurnRow = row_of c.self.inside.bound c.pop_front.new.self.items in
    let picked : IsPicked c.args.self.now new c.pop_front.result =
    subst (λ (old : TurnRow). IsPicked old new c.pop_front.result) c.self.view_is
    (picked_first c.self.inside.bound held.cap held.items c.pop_front.new.self.items c.pop_front.result c.pop_front.ensures.items
    (rw held.ok.0 at c.pop_front.ensures.variant) c.self.invariant) in
    record {
      none = picked.none;
      unchanged = picked.unchanged;
      first = picked.first;
      away = picked.away;
      in_range = picked.in_range;
    }
