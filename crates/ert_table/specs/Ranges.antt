-- Which values have a word, and which numbers are words.

use Rattle.std.specs.Prelude.{◌≡◌, ◌⊎◌, ℕ, ℤ, pos, ◌<◌, ◌≤◌, ◌/◌, ◌%◌, ◌+ℤ◌, ◌≤ℤ◌, Bool, cond, nat_eq, Option, Some, IfSome, FitsSigned}
use Rattle.std.specs.Int.{w64}
use Rattle.ert_defs.specs.{Lines.IsOffset, Timers.use_of, Words.{time_word, offset_word, timer_word}, declared.timer.Status.Status, declared.timer.Status.TheVariants.Armed}

-- a time that has a word: from the start time to the last millisecond that a deadline can name
pub record IsTime (now start : ℤ) : Type 0 where
  pub low : start ≤ℤ now
  pub high : now ≤ℤ (start +ℤ pos 8796093022207000000)

-- the word of some time of 64 bits
pub record IsTimeWord (word : ℕ) (start : ℤ) : Type 0 where
  pub now : ℤ
  pub fits : FitsSigned w64 now
  pub in_range : IsTime now start
  pub stands : word ≡ time_word now start

-- the word of some offset
pub record IsOffsetWord (word : ℕ) : Type 0 where
  pub offset : ℤ
  pub final : Bool
  pub in_range : IsOffset offset
  pub stands : word ≡ offset_word offset final

-- a timer that has a word, by its deadline in milliseconds after the start and its generation
pub record IsTimer (deadline generation : ℕ) : Type 0 where
  pub deadline_high : deadline ≤ 8796093022207
  pub generation_low : 1 ≤ generation
  -- it is of its slot's first round, or of a later one, and then it tells the deadline
  pub generation_first : generation < 8796093022208 → generation ≤ 262143
  pub generation_tells : 8796093022208 ≤ generation → generation % 8796093022208 ≡ deadline
  pub generation_high : generation < 2305843009213693952

-- what a word shows of a generation: that of a timer that isn't armed is its use alone
abbrev pub shown_generation : Status → ℕ → ℕ
shown_generation Armed generation = generation
shown_generation _ generation = use_of generation

-- the word of some timer
pub record IsUsedWord (word : ℕ) : Type 0 where
  pub status : Status
  pub deadline : ℕ
  pub generation : ℕ
  pub in_range : IsTimer deadline generation
  pub stands : word ≡ timer_word status deadline generation

-- the deadline in the word of a timer, and 0 in that of a slot that was never used
abbrev pub word_deadline : ℕ → ℕ
word_deadline word = (word / 8) % 8796093022208

-- what the word shows of the generation (`shown_generation`), and 0 in that of a slot that was never used
abbrev pub word_generation : ℕ → ℕ
word_generation word = cond (nat_eq (word % 8) 7) (word / 8) (word / 70368744177664)

-- the word of a slot, used or not
abbrev pub IsTimerWord : ℕ → Type 0
IsTimerWord word = (word ≡ 0) ⊎ IsUsedWord word

-- what a word tells of the timer of a generation: its deadline where the word is that of the timer, armed
pub record TellsArmed (word generation : ℕ) (answer : Option ℕ) : Type 0 where
  pub unpacks : (deadline : ℕ) → IsTimer deadline generation → word ≡ timer_word Armed deadline generation → answer ≡ Some deadline
  pub packs : IfSome answer (λ deadline. word ≡ timer_word Armed deadline generation)
  pub in_range : IfSome answer (λ deadline. IsTimer deadline generation)
