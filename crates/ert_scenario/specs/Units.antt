-- The units of time in a scenario, each by its parts per second (`erlang` module reference, type
-- `time_unit`).

use Rattle.std.specs.Prelude.{ℕ, List, [], ◌∷◌, codes, Bool, ◌&&◌, nat_le, nat_lt, Option, Ok, Err}
use Rattle.serde_json.specs.Data.{Data}
use Rattle.ert_scenario.specs.Kinds.{FoundOrFault, ◌>>=◌, if_in_range, unsigned_integer, text, called}

-- the units that have a name; native is the nanosecond
abbrev pub unit_names : List (List ℕ × ℕ)
unit_names =
    (codes "second", 1)
    ∷ (codes "millisecond", 1000)
    ∷ (codes "microsecond", 1000000)
    ∷ (codes "nanosecond", 1000000000)
    ∷ (codes "native", 1000000000)
    ∷ []

-- whether a second may have so many parts: 1 to 2^63 - 1
unfoldable pub is_parts : ℕ → Bool
is_parts n = nat_le 1 n && nat_lt n 9223372036854775808

-- the unit of which a second has so many
unfoldable pub unit_of : ℕ → FoundOrFault ℕ
unit_of n = if_in_range (is_parts n) n

-- a unit by its name, where there is one, and else by its parts
abbrev pub named_or_counted : FoundOrFault (List ℕ) → FoundOrFault ℕ → FoundOrFault ℕ
named_or_counted (Ok name) parts = called name unit_names
named_or_counted (Err fault) parts = parts >>= unit_of

-- a unit: a string that is its name, or a natural that is its parts
unfoldable pub time_unit : Option Data → FoundOrFault ℕ
time_unit value = named_or_counted (text value) (unsigned_integer value)
