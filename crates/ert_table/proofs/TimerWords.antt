-- The word of a timer has its status, its deadline and its generation.

use Rattle.std.proofs.Common.{◌≡◌, ℕ, nat_eq, cond, true, false, inl, inr, ◌+◌, ◌*◌, ◌/◌, ◌%◌, ◌≤◌, Some, refl, sym, ap, ◌∙◌, arith}
use Rattle.std.proofs.lemmas.Bool.Decides.{nat_tests}
use Rattle.ert_defs.specs.{Timers.use_of, Words.{status_code, timer_word}, declared.timer.Status.Status, declared.timer.Status.TheVariants.{Armed, Expired, Delivered, Cancelled, Orphaned, Dropped}}
use Rattle.ert_table.specs.{Ranges.{IsTimer, shown_generation, word_deadline, word_generation}, Settlings.{status_by, status_in}}
use Rattle.ert_table.proofs.Armed.{use_low, use_high, armed_first, armed_later, order_of, code_high}

by_code : (status : Status) (generation : ℕ) → status_by (status_code status generation) ≡ Some status
by_code Armed n = elim (order_of n) [ inl low ↦ ap status_by (armed_first n low) | inr high ↦ ap status_by (armed_later n high) ]
by_code _ n = refl

code_in : (c d g : ℕ) → c ≤ 7 → ((c + 8 * d) + 70368744177664 * g) % 8 ≡ c
code_in c d g high = omega arith

deadline_back : (c d g : ℕ) → c ≤ 7 → d ≤ 8796093022207 → (((c + 8 * d) + 70368744177664 * g) / 8) % 8796093022208 ≡ d
deadline_back c d g high fits = omega arith

use_back : (c d g : ℕ) → c ≤ 7 → d ≤ 8796093022207 → ((c + 8 * d) + 70368744177664 * g) / 70368744177664 ≡ g
use_back c d g high fits = omega arith

all_back : (d g : ℕ) → ((7 + 8 * d) + 70368744177664 * g) / 8 ≡ d + 8796093022208 * g
all_back d g = omega arith

-- the word of a timer has its status and deadline, and of its generation what it shows
pub record HasParts (n : ℕ) (status : Status) (deadline generation : ℕ) : Type 0 where
  pub status_is : status_in n ≡ Some status
  pub deadline_is : word_deadline n ≡ deadline
  pub generation_is : word_generation n ≡ shown_generation status generation

-- another code than 7 leaves the use
use_shown : (n c d g : ℕ) → n ≡ (c + 8 * d) + 70368744177664 * g → c ≤ 6 → d ≤ 8796093022207 → word_generation n ≡ g
use_shown n c d g is few fits =
    let code : n % 8 ≡ c = ap (λ m. m % 8) is ∙ code_in c d g (omega (arith, few)) in
    let other : nat_eq (n % 8) 7 ≡ false = grind (arith, nat_tests) in
    ap (λ b. cond b (n / 8) (n / 70368744177664)) other ∙ (ap (λ m. m / 70368744177664) is ∙ use_back c d g (omega (arith, few)) fits)

all_shown : (n d g : ℕ) → n ≡ (7 + 8 * d) + 70368744177664 * g → word_generation n ≡ d + 8796093022208 * g
all_shown n d g is =
    let code : n % 8 ≡ 7 = ap (λ m. m % 8) is ∙ code_in 7 d g (omega arith) in
    let own : nat_eq (n % 8) 7 ≡ true = grind (arith, nat_tests) in
    ap (λ b. cond b (n / 8) (n / 70368744177664)) own ∙ (ap (λ m. m / 8) is ∙ all_back d g)

generation_shown : (status : Status) (deadline generation : ℕ) → IsTimer deadline generation
    → word_generation (timer_word status deadline generation) ≡ shown_generation status generation
generation_shown Armed d m is = elim (order_of m) [
  | inl low ↦ use_shown (timer_word Armed d m) 1 d m
      (ap (λ c. (c + 8 * d) + 70368744177664 * use_of m) (armed_first m low) ∙ ap (λ u. (1 + 8 * d) + 70368744177664 * u) (use_low m low))
      (omega arith) is.deadline_high
  | inr high ↦
      let tells = is.generation_tells high in
      let sum : d + 8796093022208 * (m / 8796093022208) ≡ m = omega (arith, tells) in
      all_shown (timer_word Armed d m) d (m / 8796093022208)
      (ap (λ c. (c + 8 * d) + 70368744177664 * use_of m) (armed_later m high) ∙ ap (λ u. (7 + 8 * d) + 70368744177664 * u) (use_high m high)) ∙ sum
]
generation_shown Expired d m is = use_shown (timer_word Expired d m) 2 d (use_of m) refl (omega arith) is.deadline_high
generation_shown Delivered d m is = use_shown (timer_word Delivered d m) 3 d (use_of m) refl (omega arith) is.deadline_high
generation_shown Cancelled d m is = use_shown (timer_word Cancelled d m) 4 d (use_of m) refl (omega arith) is.deadline_high
generation_shown Orphaned d m is = use_shown (timer_word Orphaned d m) 5 d (use_of m) refl (omega arith) is.deadline_high
generation_shown Dropped d m is = use_shown (timer_word Dropped d m) 6 d (use_of m) refl (omega arith) is.deadline_high

pub word_parts : (status : Status) (deadline generation : ℕ) → IsTimer deadline generation
    → HasParts (timer_word status deadline generation) status deadline generation
word_parts status deadline generation is = record {
  status_is = ap status_by (code_in (status_code status generation) deadline (use_of generation) (code_high status generation)) ∙ by_code status generation;
  deadline_is = deadline_back (status_code status generation) deadline (use_of generation) (code_high status generation) is.deadline_high;
  generation_is = generation_shown status deadline generation is;
}

-- words of timers that are one are of one status, deadline and shown generation
pub same_parts : (a b : Status) (d e m n : ℕ) → IsTimer d m → IsTimer e n → timer_word a d m ≡ timer_word b e n
    → (a ≡ b) × (d ≡ e) × (shown_generation a m ≡ shown_generation b n)
same_parts a b d e m n fits fits' same =
    let one = word_parts a d m fits in
    let other = word_parts b e n fits' in
    let status : Some a ≡ Some b = sym one.status_is ∙ (ap status_in same ∙ other.status_is) in
    (cc, sym one.deadline_is ∙ (ap word_deadline same ∙ other.deadline_is), sym one.generation_is ∙ (ap word_generation same ∙ other.generation_is))
