-- How words are read: functions that take words from the front, and those that join them.

use Rattle.std.specs.Prelude.{ℕ, zero, suc, ℤ, pos, negsuc, ◌==◌, List, [], ◌∷◌, drop, slice_index, Bool, false, ◌&&◌, nat_lt, nat_le, codes, Option, Some, None, option_map, option_and_then, if◌then◌else◌}
use Rattle.std.specs.{Borrow.Bor, Str.{bytes_eq, is_utf8, all_ascii_digits}, Str.Parse.digits_value}
use Rattle.ert_audit.specs.{Cuts.words_of, Parts.Word}

-- what reads a value from the front of words: the value and the words after it
abbrev pub Reader : Type 0 → Type 0
Reader A = List Word → Option (A × List Word)

-- what a function gave, with the words that it left
abbrev pub value_and_rest : {A : Type 0} → Option A → Option (Bor (List ℕ)) → Option (A × List Word)
value_and_rest given rest = option_map (λ a. (a, words_of rest)) given

-- a value that takes no word
abbrev pub done : {A : Type 0} → A → Reader A
done a words = Some (a, words)

-- one reader, and then the next with what was read
infixl 10 ◌>>=◌
abbrev pub ◌>>=◌ : {A B : Type 0} → Reader A → (A → Reader B) → Reader B
(read >>= next) words = option_and_then (λ x. next x.0 x.1) (read words)

-- any word
unfoldable pub read_word : Reader Word
read_word [] = None
read_word (word ∷ words) = Some (word, words)

-- a word in UTF-8
unfoldable pub read_text : Reader Word
read_text [] = None
read_text (word ∷ words) = if is_utf8 word then Some (word, words) else None

-- a word, where it means something
abbrev pub meant : {A : Type 0} → (Word → Option A) → Reader A
meant meaning = read_word >>= (λ word words. option_map (λ a. (a, words)) (meaning word))

-- what has this name in a table
abbrev pub meant_by : {A : Type 0} → Word → List (Word × A) → Option A
meant_by name [] = None
meant_by name (row ∷ rows) = if bytes_eq name row.0 then Some row.1 else meant_by name rows

-- a word that is a name in a table
abbrev pub keyword : {A : Type 0} → List (Word × A) → Reader A
keyword rows = read_text >>= (λ name words. option_map (λ a. (a, words)) (meant_by name rows))

-- the reader of this name in a table
abbrev pub read_named : {A : Type 0} → Word → List (Word × Reader A) → Reader A
read_named name [] words = None
read_named name (row ∷ rows) words = if bytes_eq name row.0 then row.1 words else read_named name rows words

-- a name in a table, and what its reader reads
abbrev pub choice : {A : Type 0} → List (Word × Reader A) → Reader A
choice rows = read_text >>= (λ name. read_named name rows)

-- the words after the word none
unfoldable pub none_at : List Word → Option (List Word)
none_at [] = None
none_at (word ∷ words) = if bytes_eq word (codes "none") then Some words else None

-- nothing where the word none was read, and else a value
abbrev pub absent_or : {A : Type 0} → Reader A → List Word → Option (List Word)
    → Option (Option A × List Word)
absent_or read words (Some rest) = Some (None, rest)
absent_or read words None = option_map (λ x. (Some x.0, x.1)) (read words)

-- the word none, or a value
abbrev pub optional : {A : Type 0} → Reader A → Reader (Option A)
optional read words = absent_or read words (none_at words)

-- what was read, where no words are left
abbrev pub all_read : {A : Type 0} → A × List Word → Option A
all_read (a, []) = Some a
all_read (a, word ∷ words) = None

-- a value that is all of the words
abbrev pub whole : {A : Type 0} → Reader A → List Word → Option A
whole read words = option_and_then all_read (read words)

-- whether a word begins as a number does: with a digit, which is 0 only where it stands alone
abbrev pub is_plain : List ℕ → Bool
is_plain [] = false
is_plain (d ∷ []) = nat_le 48 d && nat_le d 57
is_plain (d ∷ e ∷ ds) = nat_le 49 d && nat_le d 57

-- a number of 64 bits
unfoldable pub natural_of : Word → Option ℕ
natural_of word =
    if is_plain word && all_ascii_digits word && nat_lt (digits_value 10 word) 18446744073709551616
    then Some (digits_value 10 word) else None

-- a number of 32 bits
unfoldable pub small_of : Word → Option ℕ
small_of word = option_and_then (λ n. if nat_lt n 4294967296 then Some n else None) (natural_of word)

-- a number below 0, by how far below it is
abbrev pub negative_by : ℕ → Option ℤ
negative_by zero = None
negative_by (suc n) = if nat_lt n 9223372036854775808 then Some (negsuc n) else None

-- a number from 0 on
abbrev pub from_zero : ℕ → Option ℤ
from_zero n = if nat_lt n 9223372036854775808 then Some (pos n) else None

-- a number of 64 bits with a leading minus where it is below 0
unfoldable pub integer_of : Word → Option ℤ
integer_of word =
    if slice_index word 0 == 45 then option_and_then negative_by (natural_of (drop 1 word))
    else option_and_then from_zero (natural_of word)
