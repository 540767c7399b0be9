-- What is kept of all slots, by what is kept of those that are written.

use Rattle.std.proofs.Common.{◌≡◌, ℕ, zero, suc, ◌<◌, ◌≤◌, List, [], ◌∷◌, ◌++◌, length, map, replicate, Some, get_or, set, slice_get, refl, sym, ap, ◌∙◌, arith, inl, inr, get_or-set_same, get_or-set_other}
use Rattle.std.proofs.{Math.ListN.get_or-eq_default, lemmas.Bool.cases_eq, lemmas.List.{get_or-replicate, length-replicate, length-set}, lemmas.List.FromFn.{fill_by_all, get_or-map-range_with_len, length-map-range_with_len}}
use Rattle.std.proofs.{lemmas.Option.{get_or_from_slice_get, slice_get_within}}
use Rattle.std.specs.List.{range_with_len}
use Rattle.ert_timers.specs.{Parts.{all_slots, slot_at, written_slot, unused}, Slots.{stored_slot, nothing}, declared.slot.Stored.Stored}

pub all_len : (values : List Stored) (n : ℕ) → length (all_slots values n) ≡ n
unfolding all_slots
all_len values n = length-map-range_with_len (λ k. written_slot values k) 0 n

pub all_at : (values : List Stored) (n k : ℕ) → k < n → slot_at (all_slots values n) k ≡ written_slot values k
unfolding all_slots
all_at values n k low = get_or-map-range_with_len (λ j. written_slot values j) 0 n k k unused low (omega arith)

-- what is read of a slot that is written, and what counts for one that isn't
pub read_at : (values : List Stored) (n k : ℕ) (stored : Stored) → slice_get values k ≡ Some stored → k < n
    → slot_at (all_slots values n) k ≡ stored_slot stored
read_at values n k stored is low = all_at values n k low ∙ ap stored_slot (get_or_from_slice_get values k stored nothing is)

pub unused_at : (values : List Stored) (n k : ℕ) → length values ≤ k → k < n → slot_at (all_slots values n) k ≡ unused
unused_at values n k high low = all_at values n k low ∙ ap stored_slot (get_or-eq_default values nothing high)

-- none is written at first
pub all_unused : (n : ℕ) → all_slots [] n ≡ replicate n unused
unfolding all_slots
all_unused n =
    sym (fill_by_all (λ k. written_slot [] k) (replicate n unused) n unused (length-replicate n unused) (λ k low. get_or-replicate n k unused unused low))

-- a slot that is written gets another timer
pub all_set : (values : List Stored) (n k : ℕ) (stored : Stored) → k < length values
    → set (all_slots values n) k (stored_slot stored) ≡ all_slots (set values k stored) n
unfolding all_slots
all_set values n k stored low =
    fill_by_all (λ j. written_slot (set values k stored) j) (set (all_slots values n) k (stored_slot stored)) n unused
    (length-set (all_slots values n) k (stored_slot stored) ∙ all_len values n) at
  where
    at : (j : ℕ) → j < n → get_or (set (all_slots values n) k (stored_slot stored)) j unused ≡ written_slot (set values k stored) j
    at j few =
        elim (cases_eq j k) [
          | inl e ↦
              let here : k < length (all_slots values n) = omega (arith, all_len values n, e) in
              ap (λ m. get_or (set (all_slots values n) k (stored_slot stored)) m unused) e
              ∙ (get_or-set_same (all_slots values n) k (stored_slot stored) unused here
              ∙ sym (ap (written_slot (set values k stored)) e ∙ ap stored_slot (get_or-set_same values k stored nothing low)))
          | inr ne ↦
              get_or-set_other (all_slots values n) k j (stored_slot stored) unused ne
              ∙ (all_at values n j few ∙ ap stored_slot (sym (get_or-set_other values k j stored nothing ne)))
        ]

-- more are written, as never used
pub padded : (values : List Stored) (m j : ℕ) → get_or (values ++ replicate m nothing) j nothing ≡ get_or values j nothing
padded [] zero j = refl
padded [] (suc m) zero = refl
padded [] (suc m) (suc j) = padded [] m j
padded (x ∷ xs) m zero = refl
padded (x ∷ xs) m (suc j) = padded xs m j

pub all_more : (values : List Stored) (m n : ℕ) → all_slots (values ++ replicate m nothing) n ≡ all_slots values n
unfolding all_slots
all_more values m n = λ i. map (λ k. stored_slot (padded values m k i)) (range_with_len 0 n)

-- what is stored of a slot changes, but not what is kept of it
changed_at : (values : List Stored) (k : ℕ) (stored new : Stored) → slice_get values k ≡ Some stored → stored_slot new ≡ stored_slot stored
    → (j : ℕ) → written_slot (set values k new) j ≡ written_slot values j
changed_at values k stored new is same j =
    elim (cases_eq j k) [
      | inl e ↦
          ap (written_slot (set values k new)) e
          ∙ (ap stored_slot (get_or-set_same values k new nothing (slice_get_within values k stored is))
          ∙ (same ∙ (sym (ap stored_slot (get_or_from_slice_get values k stored nothing is)) ∙ sym (ap (written_slot values) e))))
      | inr ne ↦ ap stored_slot (get_or-set_other values k j new nothing ne)
    ]

pub all_changed : (values : List Stored) (k : ℕ) (stored new : Stored) → slice_get values k ≡ Some stored → stored_slot new ≡ stored_slot stored
    → (n : ℕ) → all_slots (set values k new) n ≡ all_slots values n
unfolding all_slots
all_changed values k stored new is same n = λ i. map (λ j. changed_at values k stored new is same j i) (range_with_len 0 n)
