-- Which kind of value an argument has, as a test. Each says what a row of `ert_scenario` asks for.

use Rattle.std.specs.Prelude.{ℕ, List, [], ◌∷◌, codes, Bool, true, false, not, Option, Some, None, is_none, option_and_then}
use Rattle.serde_json.specs.{Data.Data, Find.{as_number, as_i64, as_u64, as_bool, as_str}}
use Rattle.ert_scenario.specs.Fields.{is_among}
use Rattle.ert_explain.specs.declared.param.Param.{Param, TheVariants.{Mono, Sys, Time, From, To, Label, Scheduler, Process, Monitor, Origin, Milliseconds, Message, Told}}

-- whether it is no integer of 64 bits with sign
unfoldable pub no_integer : Data → Bool
no_integer d = is_none (option_and_then as_i64 (as_number d))

-- whether it is no integer from 0 to below 2^64
unfoldable pub no_natural : Data → Bool
no_natural d = is_none (option_and_then as_u64 (as_number d))

-- whether it is neither `true` nor `false`
unfoldable pub no_boolean : Data → Bool
no_boolean d = is_none (as_bool d)

-- whether the text of a string isn't among these
abbrev pub is_not_among : List (List ℕ) → Option (List ℕ) → Bool
is_not_among names None = true
is_not_among names (Some name) = not (is_among names name)

-- whether it is neither `"rel"` nor `"abs"`
unfoldable pub no_origin : Data → Bool
no_origin d = is_not_among (codes "rel" ∷ codes "abs" ∷ []) (as_str d)

-- whether it is the name of a unit
abbrev pub is_unit_name : List ℕ → Bool
is_unit_name name = is_among (codes "second" ∷ codes "millisecond" ∷ codes "microsecond" ∷ codes "nanosecond" ∷ codes "native" ∷ []) name

-- the same of a string, and of another value whether it is no natural
abbrev pub no_unit_by : Option (List ℕ) → Data → Bool
no_unit_by None d = no_natural d
no_unit_by (Some name) d = not (is_unit_name name)

-- whether it is neither the name of a unit nor a natural
unfoldable pub no_unit : Data → Bool
no_unit d = no_unit_by (as_str d) d

-- whether a value isn't of the kind that the argument asks for, whatever its range
abbrev pub is_wrong : Param → Data → Bool
is_wrong Mono d = no_integer d
is_wrong Sys d = no_integer d
is_wrong Time d = no_integer d
is_wrong From d = no_unit d
is_wrong To d = no_unit d
is_wrong Label d = no_integer d
is_wrong Scheduler d = no_integer d
is_wrong Process d = no_integer d
is_wrong Monitor d = no_integer d
is_wrong Origin d = no_origin d
is_wrong Milliseconds d = no_integer d
is_wrong Message d = no_natural d
is_wrong Told d = no_boolean d
