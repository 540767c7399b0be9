-- The windows of a level take its buckets in turn.

use Rattle.std.proofs.Common.{◌≡◌, ◌⊎◌, ℕ, ◌+◌, ◌-◌, ◌*◌, ◌%◌, ◌<◌, ◌≤◌, min, Option, subst, inl, inr, arith}
use Rattle.std.proofs.lemmas.Bool.{cases_lt}
use Rattle.ert_wheel.specs.{Marks.{HasSlot, FirstUsed, FirstWindow}, Rings.{Rings, Place}}

-- the windows from one on, before an end, whose buckets begin at a place of the level
module _ (r : Rings) (places : ℕ → Option Place) (level from end at last : ℕ) (up : from ≤ end) (few : end ≤ from + 1024) (is : at ≡ from % 1024)
    (is_last : last ≡ level * 1024 + min (at + (end - from)) 1024) where
  -- up to the last bucket
  pub near_window : (found : ℕ) → FirstUsed r places (level * 1024 + at) (last) found
      → level * 1024 + at ≤ found → found ≤ last
      → (found < last) ⊎ (at + (end - from) ≤ 1024)
      → FirstWindow r places level from end (from + (found - level * 1024 - at))
  near_window found used high low all = record {
    none_below = λ w j p less has begins ends same.
        elim (cases_lt (at + (w - from)) 1024) [
          | inl here ↦
              let home : p.home ≡ level * 1024 + (at + (w - from)) = omega (arith, same, is) in
              omega (arith, is_last, home, used.none_below j p less has (omega (arith, is_last, home)) (omega (arith, is_last, home)))
          | inr past ↦ elim all [ inl before ↦ omega (arith, is_last, before, past) | inr whole ↦ absurd (omega (arith, is_last, whole, past, ends)) ]
        ];
    has_slot = λ before.
        let least : found < last = elim all [ inl less ↦ less | inr whole ↦ omega (arith, is_last, whole, before) ] in
        subst (λ (b : ℕ). HasSlot r places b) (omega (arith, is_last, least, is, high)) (used.has_slot least);
  }

  -- and then from the first on
  pub far_window : (none found : ℕ) → FirstUsed r places (level * 1024 + at) (last) none
      → last ≤ none → 1024 < at + (end - from)
      → FirstUsed r places (level * 1024) (level * 1024 + (at + (end - from)) - 1024) found
      → level * 1024 ≤ found → found ≤ level * 1024 + (at + (end - from)) - 1024
      → FirstWindow r places level from end (from + (found + 1024 - level * 1024 - at))
  far_window none found first past more used high low = record {
    none_below = λ w j p less has begins ends same.
        elim (cases_lt (at + (w - from)) 1024) [
          | inl here ↦
              let home : p.home ≡ level * 1024 + (at + (w - from)) = omega (arith, same, is) in
              absurd (omega (arith, is_last, home, past, more, first.none_below j p less has (omega (arith, is_last, home)) (omega (arith, is_last, home, more))))
          | inr over ↦
              let home : p.home ≡ level * 1024 + (at + (w - from) - 1024) = omega (arith, same, is, over, few, ends) in
              omega (arith, is_last, home, over, used.none_below j p less has (omega (arith, is_last, home)) (omega (arith, is_last, home, over, ends)))
        ];
    has_slot = λ before.
        let least : found < level * 1024 + (at + (end - from)) - 1024 = omega (arith, is_last, before, more, high) in
        subst (λ (b : ℕ). HasSlot r places b) (omega (arith, is_last, least, is, high, few, up)) (used.has_slot least);
  }
