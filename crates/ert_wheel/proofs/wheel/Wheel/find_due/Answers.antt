use Rattle.std.proofs.Common.{◌≡◌, ℕ, true, false, inl, inr, sym, ap, subst, ◌∙◌, arith}
use Rattle.std.proofs.lemmas.Bool.{cases_eq}
use Rattle.ert_wheel.proofs.{Tellers.due_tells, Views.key_stored, Writes.keys_of}
use Rattle.ert_wheel.proofs.wheel.Wheel.find_due.Goals as goal
use Rattle.ert_wheel.specs.{NextDue.IsDueOf, Rows.key_in}

pub loop-slot-init : goal.loop-slot-init
loop-slot-init g c = λ slot low due. omega (arith, low)

pub loop-slot-preserved : goal.loop-slot-preserved
loop-slot-preserved g c = λ slot low due.
    elim (cases_eq slot c.loop-slot.slot) [
      | inl here ↦
          let that = subst (λ (k : ℕ). IsDueOf c.args.self.now.keys k c.args.time) here due in
          let yes : true ≡ false = sym (c.is_due_at.ensures.1 that) ∙ c.if-is_due_at.false in
          absurd cc
      | inr other ↦ c.loop-slot.invariant slot (omega (arith, low, other)) due
    ]

pub returns-then-is_due_at-clause-tells : goal.returns-then-is_due_at-clause-tells
returns-then-is_due_at-clause-tells g c =
    due_tells c.args.self.now.keys c.args.self.now.stands c.args.self.now.passed c.args.time c.loop-slot.slot (c.is_due_at.ensures.0 c.if-is_due_at.true)

pub returns-clause-found : goal.returns-clause-found
returns-clause-found g c =
    let due = c.requires in
    let low = key_stored c.self.inside.buckets c.self.inside.kept.keys due.slot due.key (ap (λ ks. key_in ks due.slot) (ap keys_of c.self.view_is) ∙ due.has) in
    absurd (c.loop-slot.invariant due.slot (omega (arith, low, c.loop-slot-test.false, c.len-slot-end.ensures.keys)) (record { key = due.key; has = due.has; at = due.at }))
