-- The marks of buckets by the bits of words.

use Rattle.std.proofs.Common.{subst, ◌≡◌, ◌≢◌, ℕ, ◌+◌, ◌-◌, ◌*◌, ◌/◌, ◌%◌, ◌^◌, ◌<◌, ◌≤◌, min, List, length, get_or, set, replicate, w64, bit_and, bit_or, sym, ap, ◌∙◌, inl, inr, arith, get_or-set_same, get_or-set_other}
use Rattle.std.proofs.{Math.Nat.{div-div-eq-div-mul, div-le_self, mod-eq_of_lt}, lemmas.Bool.{cases_eq, cases_lt}, lemmas.List.{get_or-replicate, length-replicate, length-set}, lemmas.Nat.{pow-add, pow_below}, lemmas.Nat.Bits.bit_at-zero}
use Rattle.std.proofs.{lemmas.Nat.Bits.{bit_at-trailing_zeros, bit_at_above, bit_at_set_same, bit_at_set_other, bit_at_clear_same, bit_at_clear_other}}
use Rattle.std.specs.Int.{bit_at, bit_not, trailing_zeros}
use Rattle.ert_wheel.specs.{Marks.{mark_of, AreSummed}, declared.row.TheConstants.BUCKETS}

-- a bucket's mark is in its word
pub mark-set_same : (words : List ℕ) (bucket word : ℕ) → bucket / 64 < length words
    → mark_of (set words (bucket / 64) word) bucket ≡ bit_at word (bucket % 64)
mark-set_same words bucket word within =
    ap (λ n. bit_at n (bucket % 64)) (get_or-set_same words (bucket / 64) word 0 within)

-- a word that keeps its other bits keeps the marks of the other buckets
pub mark-set_other : (words : List ℕ) (bucket word : ℕ) → bucket / 64 < length words
    → ((i : ℕ) → i < 64 → i ≢ bucket % 64 → bit_at word i ≡ bit_at (get_or words (bucket / 64) 0) i)
    → (other : ℕ) → other ≢ bucket → mark_of (set words (bucket / 64) word) other ≡ mark_of words other
mark-set_other words bucket word within kept other differs =
    elim (cases_eq (other / 64) (bucket / 64)) [
      | inl same ↦ rw (same, get_or-set_same words (bucket / 64) word 0 within) (kept (other % 64) (omega arith) (λ index. differs (omega arith)))
      | inr apart ↦ ap (λ n. bit_at n (other % 64)) (get_or-set_other words (bucket / 64) (other / 64) word 0 apart)
    ]

-- the word of a bucket with the mark of that
abbrev pub with_mark : List ℕ → ℕ → ℕ
with_mark words bucket = bit_or (get_or words (bucket / 64) 0) (1 * 2 ^ (bucket % 64) % 2 ^ 64)

pub marked_here : (words : List ℕ) (bucket : ℕ) → bucket / 64 < length words
    → mark_of (set words (bucket / 64) (with_mark words bucket)) bucket ≡ 1
marked_here words bucket within =
    mark-set_same words bucket (with_mark words bucket) within ∙ bit_at_set_same w64 _ (bucket % 64) (omega arith)

pub marked_others : (words seen : List ℕ) (bucket : ℕ) → words ≡ seen → bucket / 64 < length words
    → (other : ℕ) → other ≢ bucket → mark_of (set words (bucket / 64) (with_mark words bucket)) other ≡ mark_of seen other
marked_others words seen bucket is within other differs =
    mark-set_other words bucket (with_mark words bucket) within
    (λ i low apart. bit_at_set_other w64 _ (bucket % 64) (omega arith) i apart) other differs
    ∙ ap (λ (ws : List ℕ). mark_of ws other) is

-- it isn't 0
pub with_mark-some : (words : List ℕ) (bucket : ℕ) → with_mark words bucket ≢ 0
with_mark-some words bucket zero =
    absurd (omega (arith, sym (bit_at_set_same w64 (get_or words (bucket / 64) 0) (bucket % 64) (omega arith)) ∙ (ap (λ n. bit_at n (bucket % 64)) zero ∙ bit_at-zero (bucket % 64))))

-- no bucket is marked in words of 0
pub no_mark : (bucket : ℕ) → bucket < BUCKETS → mark_of (replicate 67 0) bucket ≡ 0
no_mark bucket low =
    ap (λ n. bit_at n (bucket % 64)) (get_or-replicate 67 (bucket / 64) 0 0 (omega arith)) ∙ bit_at-zero (bucket % 64)

-- what is shifted
bit_at_shr : (word from i : ℕ) → bit_at (word / 2 ^ from) i ≡ bit_at word (from + i)
bit_at_shr word from i =
    ap (λ n. n % 2) (div-div-eq-div-mul word (2 ^ from) (2 ^ i) ∙ ap (λ m. word / m) (sym (pow-add 2 from i)))

-- the lowest 1 from a place on
pub record IsFirstBit (word from found : ℕ) : Type 0 where
  pub up : from ≤ found
  pub low : found ≤ 64
  pub below : (place : ℕ) → from ≤ place → place < found → bit_at word place ≡ 0
  pub here : found < 64 → bit_at word found ≡ 1
  pub none : found ≡ 64 → word / 2 ^ from ≡ 0

pub no_bit : (word from : ℕ) → from < 64 → word / 2 ^ from ≡ 0 → IsFirstBit word from 64
no_bit word from low none = record {
  up = omega arith;
  low = omega arith;
  below = λ place up less.
      let e : from + (place - from) ≡ place = omega arith in
      sym (ap (bit_at word) e) ∙ sym (bit_at_shr word from (place - from)) ∙ ap (λ n. bit_at n (place - from)) none
      ∙ bit_at-zero (place - from);
  here = λ less. absurd (omega arith);
  none = λ _. none;
}

pub some_bit : (word from : ℕ) → from < 64 → word < 2 ^ 64 → 0 < word / 2 ^ from
    → IsFirstBit word from (from + trailing_zeros w64 (word / 2 ^ from))
some_bit word from low fits some =
    let left : ℕ = word / 2 ^ from in
    let less : left < 2 ^ 64 = omega (arith, div-le_self word (2 ^ from)) in
    let t = bit_at-trailing_zeros w64 left some less in
    let one : bit_at word (from + trailing_zeros w64 left) ≡ 1 = sym (bit_at_shr word from (trailing_zeros w64 left)) ∙ t.1 in
    let small : from + trailing_zeros w64 left < 64 =
    elim (cases_lt (from + trailing_zeros w64 left) 64) [
      | inl less ↦ less
      | inr more ↦ absurd (omega (arith, one, bit_at_above word 64 (from + trailing_zeros w64 left) fits more))
    ] in
    record {
      up = omega arith;
      low = omega (arith, small);
      below = λ place up below.
          let e : from + (place - from) ≡ place = omega arith in
          sym (ap (bit_at word) e) ∙ sym (bit_at_shr word from (place - from)) ∙ t.2 (place - from) (omega arith);
      here = λ _. one;
      none = λ end. absurd (omega (arith, small, end));
    }

-- words of 0 have no mark
pub sums_none : AreSummed (replicate 67 0) 0
sums_none = record {
  wide = length-replicate {A = ℕ} 67 0;
  none = λ at low _. get_or-replicate 67 at 0 0 (omega arith);
  some = λ at low one. absurd (omega (arith, sym one ∙ bit_at-zero at));
}

-- the words of the highest level aren't noted
pub sums_far : (words : List ℕ) (used at word : ℕ) → AreSummed words used → 64 ≤ at → AreSummed (set words at word) used
sums_far words used at word sums far = record {
  wide = length-set words at word ∙ sums.wide;
  none = λ i less clear. get_or-set_other words at i word 0 (omega arith) ∙ sums.none i less clear;
  some = λ i less one. rw (get_or-set_other words at i word 0 (omega arith)) (sums.some i less one);
}

-- a word that isn't 0 is noted
pub sums_set : (words : List ℕ) (used at word : ℕ) → AreSummed words used → at < 64 → word ≢ 0
    → AreSummed (set words at word) (bit_or used (1 * 2 ^ at % 2 ^ 64))
sums_set words used at word sums low some = record {
  wide = length-set words at word ∙ sums.wide;
  none = λ i less clear.
      elim (cases_eq i at) [
        | inl same ↦ absurd (omega (arith, sym (bit_at_set_same w64 used at (omega (arith, low))) ∙ (ap (bit_at (bit_or used (1 * 2 ^ at % 2 ^ 64))) (sym same) ∙ clear)))
        | inr apart ↦ get_or-set_other words at i word 0 apart ∙ sums.none i less (sym (bit_at_set_other w64 used at (omega (arith, low)) i apart) ∙ clear)
      ];
  some = λ i less one.
      elim (cases_eq i at) [
        | inl same ↦ rw (same, get_or-set_same words at word 0 (omega (arith, low, sums.wide))) some
        | inr apart ↦ rw (get_or-set_other words at i word 0 apart) (sums.some i less (sym (bit_at_set_other w64 used at (omega (arith, low)) i apart) ∙ one))
      ];
}

-- a word that has a mark gets another
pub sums_kept : (words : List ℕ) (used at word : ℕ) → AreSummed words used → at < 64 → get_or words at 0 ≢ 0 → word ≢ 0
    → AreSummed (set words at word) used
sums_kept words used at word sums low had some = record {
  wide = length-set words at word ∙ sums.wide;
  none = λ i less clear.
      elim (cases_eq i at) [
        | inl same ↦ absurd (had (sums.none at low (sym (ap (bit_at used) same) ∙ clear)))
        | inr apart ↦ get_or-set_other words at i word 0 apart ∙ sums.none i less clear
      ];
  some = λ i less one.
      elim (cases_eq i at) [
        | inl same ↦ rw (same, get_or-set_same words at word 0 (omega (arith, low, sums.wide))) some
        | inr apart ↦ rw (get_or-set_other words at i word 0 apart) (sums.some i less one)
      ];
}

-- a word of 0 is noted
pub sums_clear : (words : List ℕ) (used at : ℕ) → AreSummed words used → at < 64
    → AreSummed (set words at 0) (bit_and used (bit_not w64 (1 * 2 ^ at % 2 ^ 64)))
sums_clear words used at sums low = record {
  wide = length-set words at 0 ∙ sums.wide;
  none = λ i less clear.
      elim (cases_eq i at) [
        | inl same ↦ rw same (get_or-set_same words at 0 0 (omega (arith, low, sums.wide)))
        | inr apart ↦ get_or-set_other words at i 0 0 apart ∙ sums.none i less (sym (bit_at_clear_other w64 used at (omega (arith, low)) i (omega (arith, less)) apart) ∙ clear)
      ];
  some = λ i less one.
      elim (cases_eq i at) [
        | inl same ↦ absurd (omega (arith, sym one ∙ (ap (bit_at (bit_and used (bit_not w64 (1 * 2 ^ at % 2 ^ 64)))) same ∙ bit_at_clear_same w64 used at (omega (arith, low)))))
        | inr apart ↦ rw (get_or-set_other words at i 0 0 apart) (sums.some i less (sym (bit_at_clear_other w64 used at (omega (arith, low)) i (omega (arith, less)) apart) ∙ one))
      ];
}

-- a word gets a mark, and that is noted
pub sums_noted : (words : List ℕ) (used noted at word : ℕ) → AreSummed words used → (at < 64 → noted ≡ bit_or used (2 ^ at))
    → (64 ≤ at → noted ≡ used) → word ≢ 0 → AreSummed (set words at word) noted
sums_noted words used noted at word sums near far some =
    elim (cases_lt at 64) [
      | inl low ↦
          let one : 1 * 2 ^ at ≡ 2 ^ at = omega arith in
          let e : 1 * 2 ^ at % 2 ^ 64 ≡ 2 ^ at = mod-eq_of_lt (omega (arith, one, pow_below at 64 low)) ∙ one in
          subst (λ (n : ℕ). AreSummed (set words at word) n) (ap (bit_or used) e ∙ sym (near low)) (sums_set words used at word sums low some)
      | inr high ↦ subst (λ (n : ℕ). AreSummed (set words at word) n) (sym (far high)) (sums_far words used at word sums high)
    ]

-- a word that has a mark gets another, near or far
pub sums_near : (words : List ℕ) (used at word : ℕ) → AreSummed words used → get_or words at 0 ≢ 0 → word ≢ 0
    → AreSummed (set words at word) used
sums_near words used at word sums had some =
    elim (cases_lt at 64) [
      | inl low ↦ sums_kept words used at word sums low had some
      | inr high ↦ sums_far words used at word sums high
    ]

-- no bucket is marked from one on, below another
pub record IsPast (words : List ℕ) (from bucket : ℕ) : Type 0 where
  pub up : from ≤ bucket
  pub low : bucket ≤ BUCKETS
  pub below : (b : ℕ) → from ≤ b → b < bucket → mark_of words b ≡ 0

-- as far as a word tells
past_bit : (words : List ℕ) (from bucket bit b : ℕ) → IsPast words from bucket
    → IsFirstBit (get_or words (bucket / 64) 0) (bucket % 64) bit → from ≤ b → b < bucket / 64 * 64 + bit → mark_of words b ≡ 0
past_bit words from bucket bit b past first up less =
    elim (cases_lt b bucket) [
      | inl before ↦ past.below b up before
      | inr after ↦
          let low : bit ≤ 64 = first.low in
          let e : b / 64 ≡ bucket / 64 = omega arith in
          ap (λ w. bit_at (get_or words w 0) (b % 64)) e ∙ first.below (b % 64) (omega arith) (omega arith)
    ]

-- the first marked bucket before an end
pub record IsFirstMark (words : List ℕ) (from end found : ℕ) : Type 0 where
  pub up : from ≤ found
  pub low : found ≤ end
  pub below : (b : ℕ) → from ≤ b → b < found → mark_of words b ≡ 0
  pub here : found < end → mark_of words found ≡ 1

pub first_found : (words : List ℕ) (from end bucket bit : ℕ) → IsPast words from bucket → bucket < end → end ≤ BUCKETS
    → IsFirstBit (get_or words (bucket / 64) 0) (bucket % 64) bit → bit < 64 → IsFirstMark words from end (min (bucket / 64 * 64 + bit) end)
first_found words from end bucket bit past less most first small =
    let up : from ≤ bucket = past.up in
    let high : bucket % 64 ≤ bit = first.up in
    record {
      up = omega arith;
      low = omega arith;
      below = λ b high low. past_bit words from bucket bit b past first high (omega arith);
      here = λ before.
          let is : min (bucket / 64 * 64 + bit) end ≡ bucket / 64 * 64 + bit = omega arith in
          let e : (bucket / 64 * 64 + bit) / 64 ≡ bucket / 64 = omega arith in
          let m : (bucket / 64 * 64 + bit) % 64 ≡ bit = omega arith in
          ap (mark_of words) is
          ∙ ap (λ w. bit_at (get_or words w 0) ((bucket / 64 * 64 + bit) % 64)) e
          ∙ ap (bit_at (get_or words (bucket / 64) 0)) m ∙ first.here small;
    }

-- no word has a mark from one on, below another of the highest level
pub record IsPastWords (words : List ℕ) (from at : ℕ) : Type 0 where
  pub up : from ≤ at
  pub high : 64 ≤ at
  pub low : at ≤ 67
  pub below : (i : ℕ) → from ≤ i → i < at → get_or words i 0 ≡ 0

pub past_more : (words : List ℕ) (from at : ℕ) → IsPastWords words from at → at < 67 → get_or words at 0 ≡ 0
    → IsPastWords words from (at + 1)
past_more words from at past low none = record {
  up = omega (arith, past.up);
  high = omega (arith, past.high);
  low = omega arith;
  below = λ i up less. elim (cases_eq i at) [
    | inl is ↦ ap (λ j. get_or words j 0) is ∙ none
    | inr ne ↦ past.below i up (omega arith)
  ];
}
