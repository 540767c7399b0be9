-- What an argument or a field is read as, or the fault that it has.

use Rattle.std.specs.Prelude.{ℕ, ℤ, pos, negsuc, nat_lt, List, [], ◌∷◌, Bool, true, false, Option, Some, None, is_some, Result, Ok, Err, option_map, option_and_then, if◌then◌else◌}
use Rattle.std.specs.{List.list_all, Str.bytes_eq}
use Rattle.ert_defs.specs.{Mails.{first_of, others_of}, declared.settings.Reading.Reading}
use Rattle.serde_json.specs.{Data.{Data, Items, no_items, item}, Find.{as_number, as_i64, as_u64, as_bool, as_str, as_array}}
use Rattle.ert_scenario.specs.declared.fault.Fault.{Fault, TheVariants.{Shape, Range}}

-- what was read, or its fault
abbrev pub FoundOrFault : Type 0 → Type 0
FoundOrFault X = Result X Fault

-- what was read, seen by `f`
abbrev pub found_map : {A B : Type 0} → (A → B) → FoundOrFault A → FoundOrFault B
found_map f (Ok a) = Ok (f a)
found_map f (Err fault) = Err fault

-- the next step, with what was read
infixl 10 ◌>>=◌
abbrev pub ◌>>=◌ : {A B : Type 0} → FoundOrFault A → (A → FoundOrFault B) → FoundOrFault B
(Ok a) >>= next = next a
(Err fault) >>= next = Err fault

-- two readings together: a shape fault of either counts before a range fault of the other
unfoldable pub read_both : {A B : Type 0} → FoundOrFault A → FoundOrFault B → FoundOrFault (A × B)
read_both (Ok a) (Ok b) = Ok (a, b)
read_both (Ok a) (Err fault) = Err fault
read_both (Err Shape) second = Err Shape
read_both (Err Range) (Ok b) = Err Range
read_both (Err Range) (Err fault) = Err fault

-- a value that isn't of the kind is a shape fault
unfoldable pub of_kind : {X : Type 0} → Option X → FoundOrFault X
of_kind None = Err Shape
of_kind (Some x) = Ok x

-- a value outside its range is a range fault
unfoldable pub if_in_range : {X : Type 0} → Bool → X → FoundOrFault X
if_in_range true x = Ok x
if_in_range false x = Err Range

-- a number that the JSON crate gives as an integer of 64 bits, so without a fraction or an exponent
unfoldable pub integer : Option Data → FoundOrFault ℤ
integer value = of_kind (option_and_then as_i64 (option_and_then as_number value))

-- an integer from 0 to below 2^32
abbrev pub word_from : ℤ → FoundOrFault ℕ
word_from (pos n) = if_in_range (nat_lt n 4294967296) n
word_from (negsuc n) = Err Range

-- a number that the JSON crate gives as an integer of 64 bits; outside of 0 to 2^32 - 1 it is a range fault
unfoldable pub word : Option Data → FoundOrFault ℕ
word value = integer value >>= word_from

-- an integer that isn't negative
abbrev pub non_negative_from : ℤ → FoundOrFault ℕ
non_negative_from (pos n) = Ok n
non_negative_from (negsuc n) = Err Range

-- a number that the JSON crate gives as an integer of 64 bits; a negative one is a range fault
unfoldable pub non_negative : Option Data → FoundOrFault ℕ
non_negative value = integer value >>= non_negative_from

-- items as a list
unfoldable pub list_of : Items → List Data
list_of no_items = []
list_of (item d ds) = d ∷ list_of ds

-- a number that the JSON crate gives as an integer from 0 to below 2^64
unfoldable pub unsigned_integer : Option Data → FoundOrFault ℕ
unsigned_integer value = of_kind (option_and_then as_u64 (option_and_then as_number value))

-- `true` or `false`
unfoldable pub boolean : Option Data → FoundOrFault Bool
boolean value = of_kind (option_and_then as_bool value)

-- the items of an array
unfoldable pub listed : Option Data → FoundOrFault (List Data)
listed value = of_kind (option_map list_of (option_and_then as_array value))

-- the list, where there is one
abbrev pub or_empty : FoundOrFault (List Data) → List Data
or_empty (Ok ds) = ds
or_empty (Err fault) = []

-- the items of a value that is an array; others have none
abbrev pub items_in : Data → List Data
items_in d = or_empty (listed (Some d))

-- whether it is an array
abbrev pub is_array : Data → Bool
is_array d = is_some (as_array d)

-- the items of an array, each of which is an array
unfoldable pub arrays : Option Data → FoundOrFault (List Data)
arrays value = listed value >>= (λ lists. if list_all is_array lists then Ok lists else Err Shape)

-- the text of a string
unfoldable pub text : Option Data → FoundOrFault (List ℕ)
text value = of_kind (option_and_then as_str value)

-- one argument, and then the others
infixr 20 ◌▹◌
abbrev pub ◌▹◌ : {A B : Type 0} → (Option Data → FoundOrFault A) → (List Data → FoundOrFault B) → List Data → FoundOrFault (A × B)
(kind ▹ others) args = read_both (kind (first_of args)) (others (others_of args))

-- no further argument
unfoldable pub end : List Data → FoundOrFault (Unit {0})
end [] = Ok tt
end (d ∷ ds) = Err Shape

-- one argument alone, from 0 to below 2^32
abbrev pub one_word : List Data → FoundOrFault ℕ
one_word args = (word ▹ end) args >>= (λ p. Ok p.0)

-- two such arguments
abbrev pub two_words : List Data → FoundOrFault (ℕ × ℕ)
two_words args = (word ▹ word ▹ end) args >>= (λ p. Ok (p.0, p.1.0))

-- what is read where there is a value, and this where there is none
abbrev pub or_absent : {X : Type 0} → X → (Option Data → FoundOrFault X) → Option Data → FoundOrFault X
or_absent absent kind None = Ok absent
or_absent absent kind (Some d) = kind (Some d)

-- what has this name in a table; a name that isn't there is a shape fault
abbrev pub called : {X : Type 0} → List ℕ → List (List ℕ × X) → FoundOrFault X
called name [] = Err Shape
called name (row ∷ rows) = if bytes_eq name row.0 then Ok row.1 else called name rows

-- two integers and no more, as a reading that may be out of range
unfoldable pub reading_from : List Data → FoundOrFault Reading
reading_from items = (integer ▹ integer ▹ end) items >>= (λ p. Ok (record { mono = p.0; sys = p.1.0 }))

-- an array of the same
abbrev pub listed_reading : Option Data → FoundOrFault Reading
listed_reading value = listed value >>= reading_from
