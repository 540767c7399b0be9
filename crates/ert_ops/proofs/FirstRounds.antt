-- A slot that was used fewer than 262143 times is in its first round: it doesn't rest, and its next generation
-- is one more than the last.

use Rattle.std.proofs.Common.{◌≡◌, ℕ, zero, suc, ◌+◌, ◌<◌, refl, ap, ◌∙◌, subst, inl, inr, arith}
use Rattle.ert_defs.proofs.Uses.{IsSound, turn_cases, use_low}
use Rattle.ert_defs.specs.Timers.{Uses, IsNextUse, turned, use_of, deadline_in, generation_in}

since_first : (u : Uses) (since : ℕ) → u.since ≡ since → IsSound u → u.last < 262143 → u.since ≡ 0
since_first u zero is sound low = is
since_first u (suc since) is sound low = absurd (omega (arith, sound.later (omega (arith, is)), low))

-- it has no other round yet
pub record IsInFirst (u : Uses) : Type 0 where
  pub since : u.since ≡ 0
  pub stays : turned u ≡ u
  pub low : use_of u.last ≡ u.last

pub first_round : (u : Uses) → IsSound u → u.last < 262143 → IsInFirst u
first_round u sound low =
    let same : use_of u.last ≡ u.last = use_low u.last (omega (arith, low)) in
    record {
      since = since_first u u.since refl sound low;
      stays = elim (turn_cases u) [
        | inl here ↦ here.1
        | inr turns ↦ absurd (omega (arith, turns.0, same, low))
      ];
      low = same;
    }

pub not_resting : (u : Uses) → IsInFirst u → (turned u).since ≡ 0
not_resting u first = ap (λ (v : Uses). v.since) first.stays ∙ first.since

pub one_more : (u : Uses) (now wanted n : ℕ) → IsInFirst u → IsNextUse u now wanted n → n ≡ u.last + 1
one_more u now wanted n first next =
    let P : Uses → Type 0 = λ v. n ≡ generation_in v.since (use_of v.last + 1) (deadline_in v.since now wanted) in
    let here : n ≡ generation_in u.since (use_of u.last + 1) (deadline_in u.since now wanted) = subst P first.stays next.counts in
    subst (λ (k : ℕ). n ≡ generation_in k (use_of u.last + 1) (deadline_in k now wanted)) first.since here ∙ ap (λ (k : ℕ). k + 1) first.low
