-- A plain word is no flag, and its number is the one that `clap` reads.

use Rattle.std.proofs.Common.{◌≡◌, ℕ, ◌<◌, ◌^◌, List, [], ◌∷◌, Bool, true, false, ◌&&◌, nat_eq, nat_lt, nat_le, Some, None, refl, sym, ap, ◌∙◌, cond, drop, arith, eqb-true}
use Rattle.std.specs.Prelude.{option_and_then}
use Rattle.std.specs.{List.list_all, Str.Parse.{digits_value, without_leading_plus}}
use Rattle.std.proofs.lemmas.Bool.{and_parts, Decides.nat_tests}
use Rattle.clap.specs.{Lexer.{long_of_rest, short_of_rest, strip_byte}, ValueTests.is_unsigned_in, Walk.Text}
use Rattle.ert_program.specs.{Commands.{is_plain_byte, is_plain_word, is_number, is_number_in}, Matches.parsed}
use Rattle.ert_program.proofs.Plain.{IsWord}

is_not : (b other : ℕ) → is_plain_byte b ≡ true → is_plain_byte other ≡ false → nat_eq b other ≡ false
is_not b other plain none = go (nat_eq b other) refl
  where
    go : (t : Bool) → nat_eq b other ≡ t → t ≡ false
    go false e = refl
    go true e =
        let same : b ≡ other = eqb-true b other e in
        let both : true ≡ false = sym plain ∙ ap is_plain_byte same ∙ none in
        absurd (cc)

word_from : (b : ℕ) (bs : List ℕ) → nat_eq b 45 ≡ false → IsWord (b ∷ bs)
word_from b bs e = record {
  dashes = rw e;
  long = ap (λ t. option_and_then long_of_rest (option_and_then (strip_byte 45) (cond t (Some bs) None))) e;
  short = ap (λ t. option_and_then short_of_rest (cond t (Some bs) None)) e;
}

first_plain : (b : ℕ) (bs : List ℕ) → is_plain_word (b ∷ bs) ≡ true → is_plain_byte b ≡ true
first_plain b bs h = (and_parts (is_plain_byte b) (list_all is_plain_byte bs) (and_parts _ _ h).1).0

pub plain_is_word : (word : Text) → is_plain_word word ≡ true → IsWord word
plain_is_word [] h = absurd (cc)
plain_is_word (b ∷ bs) h = word_from b bs (is_not b 45 (first_plain b bs h) refl)

no_plus : (word : Text) → is_plain_word word ≡ true → without_leading_plus word ≡ word
no_plus [] h = refl
no_plus (b ∷ bs) h = ap (λ t. drop (cond t 1 0) (b ∷ bs)) (is_not b 43 (first_plain b bs h) refl)

fits_too : (number : Bool) (n low high : ℕ) → high < 2 ^ 64 → (number && (nat_lt n (2 ^ 64) && (nat_le low n && nat_le n high))) ≡ (number && (nat_le low n && nat_le n high))
fits_too number n low high small = go (nat_le n high) refl
  where
    go : (t : Bool) → nat_le n high ≡ t → (number && (nat_lt n (2 ^ 64) && (nat_le low n && nat_le n high))) ≡ (number && (nat_le low n && nat_le n high))
    go true e = let fits : nat_lt n (2 ^ 64) ≡ true = grind (arith, nat_tests) in rw fits
    go false e = rw e (ap (λ t. number && t) (none (nat_lt n (2 ^ 64)) (nat_le low n)))
      where
        none : (a b : Bool) → (a && (b && false)) ≡ (b && false)
        none true b = refl
        none false true = refl
        none false false = refl

-- the number that `clap` reads is the word's
pub number_is : (word : Text) (low high : ℕ) → high < 2 ^ 64 → is_plain_word word ≡ true → is_unsigned_in low high word ≡ is_number_in low high word
number_is word low high small h =
    ap (λ (w : Text). is_number w && (nat_lt (digits_value 10 w) (2 ^ 64) && (nat_le low (digits_value 10 w) && nat_le (digits_value 10 w) high))) (no_plus word h)
    ∙ fits_too (is_number word) (digits_value 10 word) low high small

-- and it is the one that is read afterwards
pub parsed_is : (word : Text) (low high : ℕ) → high < 2 ^ 64 → is_plain_word word ≡ true → is_number_in low high word ≡ true
    → parsed word ≡ Some (digits_value 10 word)
parsed_is word low high small plain h =
    let outer = and_parts (is_number word) (nat_le low (digits_value 10 word) && nat_le (digits_value 10 word) high) h in
    let inner = and_parts (nat_le low (digits_value 10 word)) (nat_le (digits_value 10 word) high) outer.1 in
    let number : is_number word ≡ true = outer.0 in
    let most : nat_le (digits_value 10 word) high ≡ true = inner.1 in
    let fits : nat_lt (digits_value 10 word) (2 ^ 64) ≡ true = grind (arith, nat_tests) in
    ap (λ (w : Text). cond (is_number w && nat_lt (digits_value 10 w) (2 ^ 64)) (Some (digits_value 10 w)) None) (no_plus word plain)
    ∙ rw (number, fits)
