-- Which words are which command.

use Rattle.std.specs.Prelude.{ℕ, List, [], ◌∷◌, Bool, ◌&&◌, ◌||◌, Option, Some, None, length, nat_lt, nat_le, codes, if◌then◌else◌}
use Rattle.std.specs.{Char.digit_value, List.list_all, Str.bytes_eq, Str.Parse.digits_value}
use Rattle.ert_program.specs.declared.command.Command.{Command, TheVariants.{Run, Race, Live, Stress}}

-- a to z, and 0 to 9
abbrev pub is_plain_byte : ℕ → Bool
is_plain_byte b = (nat_le 97 b && nat_le b 122) || (nat_le 48 b && nat_le b 57)

-- a word of such characters, and of at least one
abbrev pub is_plain_word : List ℕ → Bool
is_plain_word word = nat_lt 0 (length word) && list_all is_plain_byte word

-- one or more digits
abbrev pub is_number : List ℕ → Bool
is_number word = nat_lt 0 (length word) && list_all (λ d. nat_lt (digit_value d) 10) word

-- one or more digits whose number lies in a range
abbrev pub is_number_in : ℕ → ℕ → List ℕ → Bool
is_number_in low high word = is_number word && (nat_le low (digits_value 10 word) && nat_le (digits_value 10 word) high)

-- no word follows
abbrev pub without_words : Command → List (List ℕ) → Option Command
without_words command [] = Some command
without_words command (word ∷ words) = None

-- what follows `live`: how many readings, 1 to 1,000
abbrev pub live_of : List (List ℕ) → Option Command
live_of (n ∷ []) = if is_number_in 1 1000 n then Some (Live (digits_value 10 n)) else None
live_of _ = None

-- what follows `stress`: the seed, 0 to 999,999,999, and how many ops, 1 to 100,000
abbrev pub stress_of : List (List ℕ) → Option Command
stress_of (seed ∷ n ∷ []) =
    if is_number_in 0 999999999 seed && is_number_in 1 100000 n then Some (Stress (digits_value 10 seed) (digits_value 10 n)) else None
stress_of _ = None

-- the command of the words, by the first
abbrev pub form_of : List (List ℕ) → Option Command
form_of [] = None
form_of (word ∷ words) =
    if bytes_eq (codes "run") word then without_words Run words
    else (if bytes_eq (codes "race") word then without_words Race words
    else (if bytes_eq (codes "live") word then live_of words
    else (if bytes_eq (codes "stress") word then stress_of words
    else None)))

-- the command that the words are
abbrev pub command_of : List (List ℕ) → Option Command
command_of words = if list_all is_plain_word words then form_of words else None
