-- The word of an armed timer, compared as a whole.

use Rattle.std.proofs.Common.{◌≡◌, ℕ, ◌<◌, ◌≤◌, ◌+◌, ◌-◌, ◌*◌, ◌/◌, ◌%◌, Bool, true, false, ◌&&◌, nat_lt, nat_le, Some, None, inl, inr, ◌⊎◌, refl, sym, ap, ◌∙◌, arith}
use Rattle.std.proofs.lemmas.Bool.{leb-true, ltb-true, or_cases, and_parts, Decides.nat_tests}
use Rattle.ert_defs.specs.{Legal.is_generation, Timers.use_of, Words.{status_code, timer_word}, declared.timer.Status.Status, declared.timer.Status.TheVariants.Armed}
use Rattle.ert_table.specs.Ranges.{IsTimer, TellsArmed}

pub use_low : (n : ℕ) → n < 8796093022208 → use_of n ≡ n
use_low n low = grind (arith, nat_tests)

pub use_high : (n : ℕ) → 8796093022208 ≤ n → use_of n ≡ n / 8796093022208
use_high n high = grind (arith, nat_tests)

pub armed_first : (n : ℕ) → n < 8796093022208 → status_code Armed n ≡ 1
armed_first n low = grind (arith, nat_tests)

pub armed_later : (n : ℕ) → 8796093022208 ≤ n → status_code Armed n ≡ 7
armed_later n high = grind (arith, nat_tests)

pub order_of : (n : ℕ) → (n < 8796093022208) ⊎ (8796093022208 ≤ n)
order_of n = at (nat_lt n 8796093022208) refl
  where
    at : (b : Bool) → nat_lt n 8796093022208 ≡ b → (n < 8796093022208) ⊎ (8796093022208 ≤ n)
    at true is = inl (grind (arith, nat_tests))
    at false is = inr (grind (arith, nat_tests))

pub code_low : (status : Status) (generation : ℕ) → 1 ≤ status_code status generation
code_low Armed n = elim (order_of n) [ inl low ↦ omega (arith, armed_first n low) | inr high ↦ omega (arith, armed_later n high) ]
code_low _ n = omega arith

pub code_high : (status : Status) (generation : ℕ) → status_code status generation ≤ 7
code_high Armed n = elim (order_of n) [ inl low ↦ omega (arith, armed_first n low) | inr high ↦ omega (arith, armed_later n high) ]
code_high _ n = omega arith

-- a generation in range is of the first round or of a later one
pub record IsOfFirst (n : ℕ) : Type 0 where
  pub low : 1 ≤ n
  pub high : n ≤ 262143

pub record IsOfLater (n : ℕ) : Type 0 where
  pub low : 8796093022208 ≤ n
  pub high : n < 2305843009213693952

of_cases : (n : ℕ) → is_generation n ≡ true → IsOfFirst n ⊎ IsOfLater n
of_cases n is =
    elim (or_cases (nat_le 1 n && nat_le n 262143) (nat_le 8796093022208 n && nat_lt n 2305843009213693952) is) [
      | inl first ↦
          let parts = and_parts (nat_le 1 n) (nat_le n 262143) first in
          inl (record { low = leb-true 1 n parts.0; high = leb-true n 262143 parts.1 })
      | inr later ↦
          let parts = and_parts (nat_le 8796093022208 n) (nat_lt n 2305843009213693952) later in
          inr (record { low = leb-true 8796093022208 n parts.0; high = ltb-true n 2305843009213693952 parts.1 })
    ]

pub of_first : (n : ℕ) → is_generation n ≡ true → n ≤ 262143 → IsOfFirst n
of_first n is few = elim (of_cases n is) [ inl first ↦ first | inr later ↦ absurd (omega (arith, later.low, few)) ]

pub of_later : (n : ℕ) → is_generation n ≡ true → 262143 < n → IsOfLater n
of_later n is more = elim (of_cases n is) [ inl first ↦ absurd (omega (arith, first.high, more)) | inr later ↦ later ]

-- the word in the first round, and in a later one
pub first_word : (d n : ℕ) → n ≤ 262143 → timer_word Armed d n ≡ (1 + 8 * d) + 70368744177664 * n
first_word d n few =
    ap (λ c. (c + 8 * d) + 70368744177664 * use_of n) (armed_first n (omega arith))
    ∙ ap (λ u. (1 + 8 * d) + 70368744177664 * u) (use_low n (omega arith))

pub later_word : (d n : ℕ) → 8796093022208 ≤ n → n % 8796093022208 ≡ d → timer_word Armed d n ≡ 8 * n + 7
later_word d n late tells =
    let sum : (7 + 8 * d) + 70368744177664 * (n / 8796093022208) ≡ 8 * n + 7 = omega (arith, tells) in
    ap (λ c. (c + 8 * d) + 70368744177664 * use_of n) (armed_later n late)
    ∙ (ap (λ u. (7 + 8 * d) + 70368744177664 * u) (use_high n late) ∙ sum)

-- a generation above those of the first round is of a later one
pub is_later : (d n : ℕ) → IsTimer d n → 262143 < n → 8796093022208 ≤ n
is_later d n timer more = elim (order_of n) [ inl low ↦ absurd (omega (arith, timer.generation_first low, more)) | inr late ↦ late ]

-- what is left of a word without the status and the use of a timer
abbrev pub rest_of : ℕ → ℕ → ℕ
rest_of word n = (word + (18446744073709551616 - (70368744177664 * n + 1))) % 18446744073709551616

rest_is : (word d n : ℕ) → n ≤ 262143 → d ≤ 8796093022207 → word ≡ (1 + 8 * d) + 70368744177664 * n → rest_of word n ≡ 8 * d
rest_is word d n few fits is = omega (arith, is)

word_is : (word n rest : ℕ) → word < 18446744073709551616 → n ≤ 262143 → rest ≡ rest_of word n → rest % 8 ≡ 0 → rest < 70368744177664
    → word ≡ (1 + 8 * (rest / 8)) + 70368744177664 * n
word_is word n rest fits few is even small = omega (arith, is)

-- in the first round it tells a deadline where nothing but that is left
pub first_tells : (word n rest : ℕ) → IsOfFirst n → word < 18446744073709551616 → rest ≡ rest_of word n → rest % 8 ≡ 0
    → rest < 70368744177664 → TellsArmed word n (Some (rest / 8))
first_tells word n rest first fits is even small =
    let made = word_is word n rest fits first.high is even small in
    record {
      unpacks = λ d timer same.
          let left = rest_is word d n first.high timer.deadline_high (same ∙ first_word d n first.high) in
          let equal : rest / 8 ≡ d = omega (arith, is, left) in
          ap (λ (m : ℕ). Some m) equal;
      packs = made ∙ sym (first_word (rest / 8) n first.high);
      in_range = record {
        deadline_high = omega (arith, small);
        generation_low = first.low;
        generation_first = λ _. first.high;
        generation_tells = λ late. absurd (omega (arith, late, first.high));
        generation_high = omega (arith, first.high);
      };
    }

-- and no other word is one of an armed timer
pub first_tells_none : (word n rest : ℕ) → IsOfFirst n → rest ≡ rest_of word n → ((d : ℕ) → d ≤ 8796093022207 → rest ≡ 8 * d → ⊥) → TellsArmed word n None
first_tells_none word n rest first is not = record {
  unpacks = λ d timer same. absurd (not d timer.deadline_high (is ∙ rest_is word d n first.high timer.deadline_high (same ∙ first_word d n first.high)));
  packs = tt;
  in_range = tt;
}

-- in a later round the word is told by the generation
pub later_tells : (word n : ℕ) → IsOfLater n → word ≡ 8 * n + 7 → TellsArmed word n (Some (n % 8796093022208))
later_tells word n later is = record {
  unpacks = λ d timer same. ap (λ (m : ℕ). Some m) (timer.generation_tells later.low);
  packs = is ∙ sym (later_word (n % 8796093022208) n later.low refl);
  in_range = record {
    deadline_high = omega arith;
    generation_low = omega (arith, later.low);
    generation_first = λ early. absurd (omega (arith, early, later.low));
    generation_tells = λ late. refl;
    generation_high = later.high;
  };
}

pub later_tells_none : (word n : ℕ) → IsOfLater n → (word ≡ 8 * n + 7 → ⊥) → TellsArmed word n None
later_tells_none word n later not = record {
  unpacks = λ d timer same. absurd (not (same ∙ later_word d n later.low (timer.generation_tells later.low)));
  packs = tt;
  in_range = tt;
}

-- another status takes the place of the first
pub changed : (word before after d u : ℕ) → before ≤ 7 → word ≡ (before + 8 * d) + 70368744177664 * u
    → (word - word % 8) + after ≡ (after + 8 * d) + 70368744177664 * u
changed word before after d u few is = omega (arith, is)
