use Rattle.std.proofs.Common.{arith, refl, inl, inr}
use Rattle.std.proofs.lemmas.Bool.{lt-ltb, le-leb, leb-true, eqb-true}
use Rattle.ert_judge.proofs.ArmedLaws.{reads_first, none_at_all, no_key}
use Rattle.ert_judge.proofs.state.wheels.Wheel.has_none_before.Goals as goal

pub returns-then-deadline-first : goal.returns-then-deadline-first
returns-then-deadline-first c =
    reads_first c.self.inside.timers.items c.args.self.now c.self.inside.armed c.in-Some.first.now.0
    c.in-Some.first.now.1 c.args.place c.args.timer _ c.self.view_is c.self.invariant.waits
    (record { member = c.in-Some.ensures.member; least = c.in-Some.ensures.least }) c.requires
    ((λ _. inl c.if-deadline-first.true), (λ _. lt-ltb _ _ c.if-deadline-first.true))

pub returns-then-deadline-first-2 : goal.returns-then-deadline-first-2
returns-then-deadline-first-2 c =
    reads_first c.self.inside.timers.items c.args.self.now c.self.inside.armed c.in-Some.first.now.0
    c.in-Some.first.now.1 c.args.place c.args.timer _ c.self.view_is c.self.invariant.waits
    (record { member = c.in-Some.ensures.member; least = c.in-Some.ensures.least }) c.requires (
      (λ h. inr (c.if-deadline-first-2.true, leb-true _ _ h)),
      (λ up. elim up [ inl low ↦ absurd (omega arith) | inr level ↦ le-leb _ _ level.1 ]),
    )

pub returns-else-deadline-first-2 : goal.returns-else-deadline-first-2
returns-else-deadline-first-2 c =
    reads_first c.self.inside.timers.items c.args.self.now c.self.inside.armed c.in-Some.first.now.0
    c.in-Some.first.now.1 c.args.place c.args.timer _ c.self.view_is c.self.invariant.waits
    (record { member = c.in-Some.ensures.member; least = c.in-Some.ensures.least }) c.requires (
      (λ h. absurd (c.if-deadline-first-2.false (eqb-true _ _ h))),
      (λ up. elim up [ inl low ↦ absurd (omega arith) | inr level ↦ absurd (c.if-deadline-first-2.false level.0) ]),
    )

pub returns-in-None : goal.returns-in-None
returns-in-None c = (
  (λ _. none_at_all c.self.inside.timers.items c.args.self.now c.self.inside.armed c.args.timer.row.deadline c.args.place
      c.self.view_is c.self.invariant.waits (no_key c.self.inside.armed c.in-None.ensures.variant)),
  (λ _. refl),
)
