-- Which word stands at which place.

use Rattle.std.proofs.Common.{◌≡◌, ◌≢◌, ⊎_elim, ℕ, ◌+◌, ◌-◌, ◌*◌, ◌/◌, ◌%◌, ◌<◌, ◌≤◌, true, false, nat_lt, refl, ap, ◌∙◌, arith, div-add-mod', ne_eqb}
use Rattle.std.proofs.lemmas.{Bool.{cases_eq, cases_lt}, Bool.Decides.nat_tests, Nat.{div-mul-add, mod-mul-add, mul-add-lt, div_below}}
use Rattle.ert_defs.specs.{States.State, Words.{word_of, later_word, word_of_wheel, word_of_process, word_of_slot, process_word, wheel_width, wheels_width, word_count}, declared.settings.Settings.Settings}
use Rattle.ert_table.specs.Places.{slot_place, process_place}

below_true : (m n : ℕ) → m < n → nat_lt m n ≡ true
below_true m n lt = grind (arith, nat_tests)

below_false : (m n : ℕ) → n ≤ m → nat_lt m n ≡ false
below_false m n le = grind (arith, nat_tests)

-- a word behind the first twenty-four
word_of-later : (g : Settings) (s : State) (i j : ℕ) → i ≡ 24 + j → word_of g s i ≡ later_word g s j
word_of-later g s i j is =
    let behind : i - 24 ≡ j = omega arith in
    rw (ne_eqb i 8 (λ no. omega arith), ne_eqb i 16 (λ no. omega arith), below_false i 24 (omega arith)) (ap (λ k. later_word g s k) behind)

-- the word at an index of a wheel stands behind those of the wheels before it
word_of-wheel : (g : Settings) (s : State) (w k i : ℕ) → w < g.schedulers → k < wheel_width g → i ≡ 24 + (w * wheel_width g + k)
    → word_of g s i ≡ word_of_wheel g s w k
word_of-wheel g s w k i low lt is =
    let j : ℕ = w * wheel_width g + k in
    let fits : j < wheels_width g = omega (arith, mul-add-lt w (wheel_width g) k g.schedulers low lt) in
    word_of-later g s i j is ∙ rw (below_true j (wheels_width g) fits)
    (ap (λ x. word_of_wheel g s x (j % wheel_width g)) (div-mul-add w (wheel_width g) k lt)
    ∙ ap (λ x. word_of_wheel g s w x) (mod-mul-add w (wheel_width g) k lt))

-- the word of a slot stands at its place
pub word_of-slot : (g : Settings) (s : State) (w k : ℕ) → w < g.schedulers → k < g.slots
    → word_of g s (slot_place g w k) ≡ word_of_slot s w k
word_of-slot g s w k low lt =
    word_of-wheel g s w k (slot_place g w k) low (omega arith) (omega arith) ∙ rw (below_true k g.slots lt) refl

pub slot_place-high : (g : Settings) (w k : ℕ) → w < g.schedulers → k < g.slots → slot_place g w k < word_count g
slot_place-high g w k low lt =
    let within : k < wheel_width g = omega arith in
    omega (arith, mul-add-lt w (wheel_width g) k g.schedulers low within)

-- the word at an index of the processes stands behind the wheels
word_of-behind : (g : Settings) (s : State) (p i : ℕ) → i ≡ 24 + (wheels_width g + p) → word_of g s i ≡ word_of_process g s p
word_of-behind g s p i is =
    let wheels : ℕ = wheels_width g in
    let behind : (wheels + p) - wheels ≡ p = omega arith in
    word_of-later g s i (wheels + p) is
    ∙ rw (below_false (wheels + p) wheels (omega arith)) (ap (λ x. word_of_process g s x) behind)

-- so does the word of a process
pub word_of-process : (g : Settings) (s : State) (p : ℕ) → p < g.processes → word_of g s (process_place g p) ≡ process_word (s.exited p)
word_of-process g s p lt = word_of-behind g s p (process_place g p) (omega arith) ∙ rw (below_true p g.processes lt) refl

pub process_place-high : (g : Settings) (p : ℕ) → p < g.processes → process_place g p < word_count g
process_place-high g p lt = omega arith

-- what a place is for: one of the words, or a gap
pub data Use (g : Settings) (i : ℕ) : Type 0 where
  for_time : i ≡ 8 → Use g i
  for_offset : i ≡ 16 → Use g i
  for_slot : (w k : ℕ) → w < g.schedulers → k < g.slots → i ≡ slot_place g w k → Use g i
  for_process : (p : ℕ) → p < g.processes → i ≡ process_place g p → Use g i
  for_gap : ((s : State) → word_of g s i ≡ 0) → Use g i

-- a place in a wheel or in the gap behind it
use_in_wheel : (g : Settings) (i j : ℕ) → i ≡ 24 + j → j < wheels_width g → Use g i
use_in_wheel g i j is lt =
    let w : ℕ = j / wheel_width g in
    let k : ℕ = j % wheel_width g in
    let whole : w * wheel_width g + k ≡ j = div-add-mod' j (wheel_width g) in
    let low : w < g.schedulers = div_below j (wheel_width g) g.schedulers (omega arith) lt in
    ⊎_elim
    (λ (in_slots : k < g.slots). for_slot w k low in_slots (omega arith))
    (λ (behind : g.slots ≤ k). for_gap (λ s. word_of-later g s i j is
    ∙ rw (below_true j (wheels_width g) lt, below_false k g.slots behind) refl))
    (cases_lt k g.slots)

-- a place of a process or in the gap behind them
use_behind : (g : Settings) (i p : ℕ) → i ≡ 24 + (wheels_width g + p) → Use g i
use_behind g i p is =
    ⊎_elim
    (λ (in_processes : p < g.processes). for_process p in_processes (omega arith))
    (λ (behind : g.processes ≤ p). for_gap (λ s. word_of-behind g s p i is ∙ rw (below_false p g.processes behind) refl))
    (cases_lt p g.processes)

-- each place is for something
pub use_of : (g : Settings) (i : ℕ) → Use g i
use_of g i =
    ⊎_elim for_time
    (λ (not_time : i ≢ 8). ⊎_elim for_offset
    (λ (not_offset : i ≢ 16). ⊎_elim
    (λ (first : i < 24). for_gap (λ s. rw (ne_eqb i 8 not_time, ne_eqb i 16 not_offset, below_true i 24 first) refl))
    (λ (later : 24 ≤ i). ⊎_elim
    (λ (in_wheels : i - 24 < wheels_width g). use_in_wheel g i (i - 24) (omega arith) in_wheels)
    (λ (behind : wheels_width g ≤ i - 24). use_behind g i ((i - 24) - wheels_width g) (omega arith))
    (cases_lt (i - 24) (wheels_width g)))
    (cases_lt i 24))
    (cases_eq i 16))
    (cases_eq i 8)
