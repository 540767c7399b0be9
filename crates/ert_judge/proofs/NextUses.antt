-- Why a generation isn't the next of a slot that doesn't rest, by what that next one is.

use Rattle.std.proofs.Common.{◌≡◌, ◌≢◌, ◌↔◌, ◌∙◌, ◌<◌, ◌≤◌, ◌+◌, inl, inr, refl, sym, subst, ℕ, Option, Some, None}
use Rattle.std.proofs.lemmas.Bool.{cases_lt}
use Rattle.ert_defs.specs.Timers.{Uses, IsNextUse, turned, use_of, deadline_in, generation_in}
use Rattle.ert_judge.specs.Breaks.{IsNotNext, IsUse}

-- what tells the next generation of a slot, where there is one
abbrev Tells : Uses → ℕ → ℕ → Option ℕ → Type 0
Tells u now wanted next = (n : ℕ) → (next ≡ Some n) ↔ IsNextUse u now wanted n

-- where there is none the deadline is past the limit
pub past_limit : (u : Uses) (now wanted : ℕ) (next : Option ℕ) → Tells u now wanted next → next ≡ None → (turned u).since ≤ now
    → (w : ℕ) → Some wanted ≡ Some w → 8796093022207 < deadline_in (turned u).since now w
past_limit u now wanted next tells none rested w same =
    let here : wanted ≡ w = cc in
    subst (λ d. 8796093022207 < deadline_in (turned u).since now d) here
    (elim (cases_lt 8796093022207 (deadline_in (turned u).since now wanted)) [
      | inl past ↦ past
      | inr low ↦
          let n : ℕ = generation_in (turned u).since (use_of (turned u).last + 1) (deadline_in (turned u).since now wanted) in
          let is : IsNextUse u now wanted n = record { rested = rested; within = low; counts = refl } in
          let e : None ≡ Some n = sym none ∙ (tells n).1 is in
          absurd cc
    ])

-- where it is this, that is the next use
pub same_use : (u : Uses) (now wanted told n : ℕ) (next : Option ℕ) → Tells u now wanted next → next ≡ Some n → n ≡ told
    → IsUse u now (Some wanted) told
same_use u now wanted told n next tells some same =
    record { wanted = wanted; due = refl; next_use = subst (λ x. IsNextUse u now wanted x) same ((tells n).0 some) }

-- where it is another, that tells it
pub another : (u : Uses) (now wanted told n : ℕ) (next : Option ℕ) → Tells u now wanted next → next ≡ Some n → told ≢ n
    → IsNotNext u now (Some wanted) told n
another u now wanted told n next tells some other = record {
  wanted = wanted;
  rested = ((tells n).0 some).rested;
  due = inr (refl, ((tells n).0 some).within);
  value = ((tells n).0 some).counts;
  differs = other;
}
