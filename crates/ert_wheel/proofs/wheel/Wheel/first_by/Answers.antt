use Rattle.std.proofs.Common.{◌≡◌, ℕ, List, Option, Some, ◌∙◌, ap, subst, sym, arith}
use Rattle.ert_wheel.proofs.{Reaching.told_at_stop, Writes.{keys_of, passed_of}}
use Rattle.ert_wheel.proofs.wheel.Wheel.first_by.Goals as goal
use Rattle.ert_wheel.specs.{FirstDue.{IsFirstDueAt, IsReached}, Rows.{Held, key_in}, Wheels.held_keys, declared.row.Key.Key}

pub invariant_of-self : goal.invariant_of-self
invariant_of-self g c = record {
  alike = c.self.invariant.alike;
  rows = record {
    wheel = c.self.invariant.rows.wheel;
    above = λ slot key has.
        omega (
          arith,
          c.max-self-inside.ensures,
          c.self.invariant.rows.above slot key has,
          c.requires.reached.next.none_before slot key (subst (λ (keys : List (Option Key)). key_in keys slot ≡ Some key) (ap keys_of c.self.view_is) has),
        );
  };
}

pub first_at-requires : goal.first_at-requires
first_at-requires g c = record {
  before = λ slot key has.
      c.requires.reached.next.none_before slot key (subst (λ (keys : List (Option Key)). key_in keys slot ≡ Some key) (ap keys_of c.self.view_is) has);
}

pub returns-clause-first : goal.returns-clause-first
returns-clause-first g c =
    let r : IsReached c.args.self.now.keys c.first_at.new.self.stands c.first_at.new.self.passed c.args.to c.args.reached =
    subst (λ (h : Held _). IsReached c.args.self.now.keys h.stands h.passed c.args.to c.args.reached)
    (sym (c.first_at.ensures.same ∙ c.self.view_is)) c.requires.reached in
    let told : IsFirstDueAt c.args.self.now.keys c.first_at.new.self.passed c.args.reached c.first_at.result =
    subst (λ (keys : List (Option Key)). IsFirstDueAt keys c.first_at.new.self.passed c.args.reached c.first_at.result) (ap keys_of c.self.view_is)
    (subst (λ (n : ℕ). IsFirstDueAt (held_keys c.self.inside.buckets c.self.inside.kept.keys) n c.args.reached c.first_at.result)
    (sym (ap passed_of c.first_at.ensures.same)) c.first_at.ensures.first) in
    told_at_stop c.args.self.now.keys c.first_at.new.self.stands c.first_at.new.self.passed c.args.to c.args.reached c.first_at.result r (omega (arith, c.if-reached-to.false)) told
