-- Numbers, as the code reads them and as they are written.

use Rattle.std.proofs.Common.{◌≡◌, ◌≢◌, ℕ, zero, suc, ◌^◌, ◌<◌, ◌≤◌, true, false, ltb, leb, eqb, List, [], ◌∷◌, length, get_or, Some, None, Result, Ok, Err, refl, sym, ap, ◌∙◌, arith}
use Rattle.std.specs.Prelude.{◌&&◌}
use Rattle.std.specs.{Fmt.decimal, Result.{result_ok, OkIff}, Str.{IsUtf8, all_ascii_digits}, Str.Parse.{digits_value, ParsesUnsigned}}
use Rattle.std.proofs.lemmas.{Bool.{and_parts, and_from, false_from_ne_true, ltb-true, leb-true, lt-ltb, le-leb, ne_eqb}, Option.cond_some, Fmt.{IsAscii-from_digits, decimal_digit, decimal_nonempty, first_decimal, digits_decimal}}
use Rattle.std.proofs.lemmas.{Fmt.{digits_value-decimal, decimal-digits_value}, Str.IsUtf8-from_ascii, Str.Parse.{IsNumeralModel, digit_at, numerals_by_value, tells_all_ascii_digits, parse_plain}}
use Rattle.ert_audit.specs.{Parts.Word, Readers.{is_plain, natural_of}}
use Rattle.ert_audit.proofs.Formats.{is_ink}

-- whether a word has digits alone
abbrev HasDigits : List ℕ → Type 0
HasDigits ds = all_ascii_digits ds ≡ true

own : IsNumeralModel HasDigits (digits_value 10)
own = numerals_by_value HasDigits tells_all_ascii_digits

-- a plain word doesn't begin with a plus
plain_first : (word : Word) → is_plain word ≡ true → get_or word 0 0 ≢ 43
plain_first [] h e = absurd cc
plain_first (d ∷ []) h e =
    let p = and_parts (leb 48 d) (leb d 57) h in
    let low : 48 ≤ d = leb-true 48 d p.0 in
    let same : d ≡ 43 = e in
    absurd (omega arith)
plain_first (d ∷ c ∷ ds) h e =
    let p = and_parts (leb 49 d) (leb d 57) h in
    let low : 49 ≤ d = leb-true 49 d p.0 in
    let same : d ≡ 43 = e in
    absurd (omega arith)

-- the number of a word that has one
pub natural_is : (word : Word) → is_plain word ≡ true → HasDigits word → digits_value 10 word < 2 ^ 64 → natural_of word ≡ Some (digits_value 10 word)
unfolding natural_of
natural_is word plain digits small = rw (plain, digits, lt-ltb _ _ small) refl

-- and of one that has none
pub natural_none : (word : Word) → (is_plain word ≡ true → HasDigits word → digits_value 10 word < 2 ^ 64 → ⊥) → natural_of word ≡ None
unfolding natural_of
natural_none word h =
    let b = (is_plain word && all_ascii_digits word) && ltb (digits_value 10 word) 18446744073709551616 in
    let no : b ≡ false = false_from_ne_true b (λ e.
    let outer = and_parts (is_plain word && all_ascii_digits word) (ltb (digits_value 10 word) 18446744073709551616) e in
    let inner = and_parts (is_plain word) (all_ascii_digits word) outer.0 in
    h inner.0 inner.1 (ltb-true _ _ outer.1)) in
    rw no refl

-- a word that isn't text is no number
pub no_number : (word : Word) → (IsUtf8 word → ⊥) → natural_of word ≡ None
no_number word h = natural_none word (λ plain digits small. h (IsUtf8-from_ascii word (IsAscii-from_digits word (own.to word digits))))

-- a plain word has a digit
plain_length : (word : Word) → is_plain word ≡ true → 0 < length word
plain_length [] plain = absurd cc
plain_length (d ∷ ds) plain = omega arith

-- what parsing a plain word gives
pub parsed : {E : Type 0} (word : Word) (r : Result ℕ E) → is_plain word ≡ true → ParsesUnsigned 64 10 word r → result_ok r ≡ natural_of word
parsed {E} word r plain h = given_is r (parse_plain own 64 word r h (plain_first word plain))
  where
    given_is : (r : Result ℕ E) → OkIff r (HasDigits word × (0 < length word) × (digits_value 10 word < 2 ^ 64)) (digits_value 10 word) → result_ok r ≡ natural_of word
    given_is (Ok n) g = ap (λ (m : ℕ). Some m) g.1 ∙ sym (natural_is word plain g.0.0 g.0.2)
    given_is (Err e) g = sym (natural_none word (λ p digits small. g (digits, plain_length word plain, small)))

natural_some : (word : Word) (n : ℕ) → natural_of word ≡ Some n → (is_plain word ≡ true) × HasDigits word × (digits_value 10 word < 2 ^ 64) × (digits_value 10 word ≡ n)
unfolding natural_of
natural_some word n e =
    let p = cond_some ((is_plain word && all_ascii_digits word) && ltb (digits_value 10 word) 18446744073709551616) (digits_value 10 word) n e in
    let outer = and_parts (is_plain word && all_ascii_digits word) (ltb (digits_value 10 word) 18446744073709551616) p.0 in
    let inner = and_parts (is_plain word) (all_ascii_digits word) outer.0 in
    (inner.0, inner.1, ltb-true _ _ outer.1, p.1)

-- a plain word that begins with the digit 0 has no other
plain_zero : (word : Word) → is_plain word ≡ true → get_or word 0 0 ≡ 48 → length word ≡ 1
plain_zero [] plain e = absurd cc
plain_zero (d ∷ []) plain e = refl
plain_zero (d ∷ c ∷ ds) plain e =
    let p = and_parts (leb 49 d) (leb d 57) plain in
    let low : 49 ≤ d = leb-true 49 d p.0 in
    let same : d ≡ 48 = e in
    absurd (omega arith)

-- what is read as a number is written so
pub natural-takes : (word : Word) (n : ℕ) → natural_of word ≡ Some n → (word ≡ decimal n) × (n < 2 ^ 64)
natural-takes word n e =
    let p = natural_some word n e in
    let back = decimal-digits_value own word p.1 (plain_length word p.0) (plain_zero word p.0) p.2 in
    (sym back ∙ ap decimal p.3, rw (← p.3) p.2)

-- digits whose first isn't 0, or one digit, are plain
plain_from : (word : Word) → HasDigits word → 0 < length word → (get_or word 0 0 ≡ 48 → length word ≡ 1) → is_plain word ≡ true
plain_from [] digits some lone = absurd (omega arith)
plain_from (d ∷ []) digits some lone =
    let r = digit_at (d ∷ []) 0 (own.to (d ∷ []) digits) (omega arith) in
    and_from (leb 48 d) (leb d 57) (le-leb 48 d r.0) (le-leb d 57 r.1)
plain_from (d ∷ c ∷ ds) digits some lone =
    let r = digit_at (d ∷ c ∷ ds) 0 (own.to (d ∷ c ∷ ds) digits) (omega arith) in
    let other : d ≡ 48 → ⊥ = λ e. let two : suc (suc (length ds)) ≡ 1 = lone e in absurd (omega arith) in
    let low : 49 ≤ d = omega (arith, r.0, other) in
    and_from (leb 49 d) (leb d 57) (le-leb 49 d low) (le-leb d 57 r.1)

-- a number is written so that it begins with 0 only where it is 0
decimal_zero : (n : ℕ) → n < 2 ^ 64 → get_or (decimal n) 0 0 ≡ 48 → length (decimal n) ≡ 1
decimal_zero zero small e = ap length (decimal_digit 0 (omega arith))
decimal_zero (suc n) small e =
    let low = first_decimal (suc n) (omega arith) small in
    absurd (omega (arith, low, e))

-- what is written is read
pub natural-again : (n : ℕ) → n < 2 ^ 64 → natural_of (decimal n) ≡ Some n
natural-again n small =
    let digits : HasDigits (decimal n) = digits_decimal own n small in
    let value = digits_value-decimal own n small in
    let plain = plain_from (decimal n) digits (decimal_nonempty n small) (decimal_zero n small) in
    natural_is (decimal n) plain digits (rw value small) ∙ ap (λ (m : ℕ). Some m) value

-- digits are ink
digits_ink : (word : Word) → HasDigits word → is_ink word ≡ true
digits_ink [] digits = refl
digits_ink (d ∷ ds) digits =
    let r = digit_at (d ∷ ds) 0 (own.to (d ∷ ds) digits) (omega arith) in
    let rest = (tells_all_ascii_digits.parts d ds digits).1 in
    and_from (ltb 32 d && ltb d 128) (is_ink ds)
    (and_from (ltb 32 d) (ltb d 128) (lt-ltb 32 d (omega (arith, r.0))) (lt-ltb d 128 (omega (arith, r.1)))) (digits_ink ds rest)

pub natural-ink : (n : ℕ) → n < 2 ^ 64 → is_ink (decimal n) ≡ true
natural-ink n small = digits_ink (decimal n) (digits_decimal own n small)

-- a number begins with no byte below the digits
pub decimal_first : (n : ℕ) → n < 2 ^ 64 → (b : ℕ) → b < 48 → eqb (get_or (decimal n) 0 0) b ≡ false
decimal_first n small b low =
    let r = digit_at (decimal n) 0 (own.to (decimal n) (digits_decimal own n small)) (decimal_nonempty n small) in
    ne_eqb (get_or (decimal n) 0 0) b (λ same. omega (arith, r.0, same))
