use Rattle.std.proofs.Common.{List, Option, ◌∙◌, subst, sym, ap}
use Rattle.ert_wheel.proofs.{Tellers.next_some, Writes.{sees, keys_of}}
use Rattle.ert_wheel.proofs.wheel.Wheel.next_due.Goals as goal
use Rattle.ert_wheel.specs.{NextDue.NoneBefore, declared.row.Key.Key}

pub invariant_of-self : goal.invariant_of-self
invariant_of-self g c = record {
  rows = record {
    wheel = c.self.invariant.rows.wheel;
    above = subst (λ (keys : List (Option Key)). NoneBefore keys c.in_ok-early.early.time) (sym (ap keys_of c.self.view_is)) c.in_ok-early.ensures.none_before;
  };
  alike = c.self.invariant.alike;
}

pub returns-then-is_some-clause-due : goal.returns-then-is_some-clause-due
returns-then-is_some-clause-due g c =
    next_some c.args.self.now.keys c.args.self.now.stands c.args.self.now.passed c.self.inside.floor c.told_at.result
    (sees c.self.invariant.rows c.self.view_is).above c.told_at.ensures.tells (sym c.is_some.ensures ∙ c.if-is_some.true)
