use Rattle.std.proofs.Common.{◌≤◌, ◌∙◌, ℕ, List, Option, MatchOption, ap, refl, subst, sym}
use Rattle.ert_wheel.proofs.{Reaching.sees_first, Standing.wheel_stands, Writes.{sees_ordered, same_held, alike_after, is_held, is_kept, keys_of, passed_of}}
use Rattle.ert_wheel.proofs.wheel.Wheel.first_at.Goals as goal
use Rattle.ert_wheel.specs.{FirstDue.{NoRowDue, IsFirstRowDue}, NextDue.MayWalk, Rows.row_told, Wheels.stand_on, declared.row.HeldRow.HeldRow, declared.row.Key.Key}

pub oldest_due-requires-clause-may : goal.oldest_due-requires-clause-may
oldest_due-requires-clause-may g c =
    let s = sees_ordered c.self.invariant.rows c.self.view_is c.order_some-done.ensures.wheel in
    let look = wheel_stands s.wheel in
    subst (λ (keys : List (Option Key)). MayWalk c.order_some-done.new.chains keys) (sym (is_held s))
    (record { slots = s.wheel.slots; spot = stand_on c.self.inside.next_time look.level look.stand.time look.stand.rank; are = look.stand.are })

pub order_some-done-requires-clause-most : goal.order_some-done-requires-clause-most
order_some-done-requires-clause-most g c = c.self.invariant.alike.most

pub invariant_of-self : goal.invariant_of-self
invariant_of-self g c = record {
  alike = alike_after c.self.invariant.alike refl refl c.order_some-done.ensures.slots c.order_some-done.ensures.written refl refl;
  rows = is_kept (sees_ordered c.self.invariant.rows c.self.view_is c.order_some-done.ensures.wheel);
}

pub returns-then-not-done-clause-same : goal.returns-then-not-done-clause-same
returns-then-not-done-clause-same g c =
    let s = sees_ordered c.self.invariant.rows c.self.view_is c.order_some-done.ensures.wheel in
    same_held (is_held s ∙ sym (ap keys_of c.self.view_is)) c.order_some-done.ensures.stands c.self.view_is

pub invariant_of-self-in_default : goal.invariant_of-self-in_default
invariant_of-self-in_default g c = record {
  alike = alike_after c.self.invariant.alike refl refl c.order_some-done.ensures.slots c.order_some-done.ensures.written refl refl;
  rows = is_kept (sees_ordered c.self.invariant.rows c.self.view_is c.order_some-done.ensures.wheel);
}

pub invariant_of-self-2 : goal.invariant_of-self-2
invariant_of-self-2 g c = record {
  alike = alike_after c.self.invariant.alike refl refl c.order_some-done.ensures.slots c.order_some-done.ensures.written refl refl;
  rows = is_kept (sees_ordered c.self.invariant.rows c.self.view_is c.order_some-done.ensures.wheel);
}

pub returns-in_default-clause-same : goal.returns-in_default-clause-same
returns-in_default-clause-same g c =
    let s = sees_ordered c.self.invariant.rows c.self.view_is c.order_some-done.ensures.wheel in
    same_held (is_held s ∙ sym (ap keys_of c.self.view_is)) c.order_some-done.ensures.stands c.self.view_is

pub returns-clause-same : goal.returns-clause-same
returns-clause-same g c =
    let s = sees_ordered c.self.invariant.rows c.self.view_is c.order_some-done.ensures.wheel in
    same_held (is_held s ∙ sym (ap keys_of c.self.view_is)) c.order_some-done.ensures.stands c.self.view_is

pub returns-clause-first : goal.returns-clause-first
returns-clause-first g c =
    let keys = c.args.self.now.keys in
    let s = sees_ordered c.self.invariant.rows c.self.view_is c.order_some-done.ensures.wheel in
    let look = wheel_stands s.wheel in
    let done = c.if-not-done.ensures.done in
    subst (λ (o : Option HeldRow). MatchOption o (c.args.time ≤ c.args.self.now.passed → NoRowDue keys c.args.time) (λ row. IsFirstRowDue keys c.args.time (row_told keys row))) c.in-Some.is
    (subst (λ (n : ℕ). MatchOption c.oldest_due.result (c.args.time ≤ n → NoRowDue keys c.args.time) (λ row. IsFirstRowDue keys c.args.time (row_told keys row))) (ap passed_of c.self.view_is)
    (sees_first look.stand (s.wheel.are.in_order done.time done.rising) c.args.time c.requires.before c.oldest_due.result c.self.inside.kept.keys (is_held s)
    c.bucket_of_window-home.ensures.is c.oldest_due.ensures))

pub returns-in_default-clause-first : goal.returns-in_default-clause-first
returns-in_default-clause-first g c =
    let keys = c.args.self.now.keys in
    let s = sees_ordered c.self.invariant.rows c.self.view_is c.order_some-done.ensures.wheel in
    let look = wheel_stands s.wheel in
    let done = c.if-not-done.ensures.done in
    subst (λ (o : Option HeldRow). MatchOption o (c.args.time ≤ c.args.self.now.passed → NoRowDue keys c.args.time) (λ row. IsFirstRowDue keys c.args.time (row_told keys row))) c.in_default.is
    (subst (λ (n : ℕ). MatchOption c.oldest_due.result (c.args.time ≤ n → NoRowDue keys c.args.time) (λ row. IsFirstRowDue keys c.args.time (row_told keys row))) (ap passed_of c.self.view_is)
    (sees_first look.stand (s.wheel.are.in_order done.time done.rising) c.args.time c.requires.before c.oldest_due.result c.self.inside.kept.keys (is_held s)
    c.bucket_of_window-home.ensures.is c.oldest_due.ensures))
