-- The fields of a scenario but for its lists of ops: the settings, and the turns of a race.

use Rattle.std.specs.Prelude.{ℕ, ℤ, pos, List, [], ◌∷◌, codes, Bool, true, false, ◌&&◌, ◌||◌, Option, Ok, Err, if◌then◌else◌}
use Rattle.std.specs.{Ordering.int_eq, Str.bytes_eq}
use Rattle.serde_json.specs.{Data.{Data, Members, no_members, member}, Find.{get, as_object}}
use Rattle.ert_defs.specs.declared.settings.{Mode.Mode, Mode.TheVariants.{No, Single, Multi}, Reading.Reading, Settings.Settings, TheConstants.SCENARIO_LOOKS}
use Rattle.ert_scenario.specs.Kinds.{FoundOrFault, ◌>>=◌, read_both, of_kind, if_in_range, integer, word, non_negative, boolean, text, called, or_absent, listed_reading}
use Rattle.ert_scenario.specs.{Ranges.is_checked, declared.fault.Fault.TheVariants.Shape, declared.fields.Sizes.Sizes, declared.fields.ClockFields.ClockFields, declared.fields.Head.Head, declared.fields.Top.Top}
use Rattle.ert_scenario.specs.{declared.format.Format.Format, declared.format.Format.TheVariants.{One, Two}}

-- the name of each field of the clock
abbrev pub clock_fields : List (List ℕ)
clock_fields = codes "mode" ∷ codes "correction" ∷ codes "start" ∷ codes "first" ∷ []

-- the name of each other field
abbrev pub other_fields : List (List ℕ)
other_fields = codes "schedulers" ∷ codes "processes" ∷ codes "slots" ∷ codes "format" ∷ codes "ops" ∷ []

-- whether it is one of these names
abbrev pub is_among : List (List ℕ) → List ℕ → Bool
is_among [] name = false
is_among (one ∷ others) name = if bytes_eq name one then true else is_among others name

-- whether it is the name of a field; `race` is one where a race is wanted
abbrev pub is_field : Bool → List ℕ → Bool
is_field race name = is_among clock_fields name || (is_among other_fields name || (race && bytes_eq name (codes "race")))

-- whether each member has such a name
unfoldable pub are_named : (List ℕ → Bool) → Members → Bool
are_named is no_members = true
are_named is (member name d members) = is name && are_named is members

-- an object that has no members with other names
unfoldable pub only_named : (List ℕ → Bool) → Data → FoundOrFault (Unit {0})
only_named is d = of_kind (as_object d) >>= (λ members. if are_named is members then Ok tt else Err Shape)

-- the value of a field, as this kind
abbrev pub field : {X : Type 0} → List ℕ → (Option Data → FoundOrFault X) → Data → FoundOrFault X
field name kind d = kind (get name d)

-- the start time, which is 0 where it is absent
unfoldable pub start_time : Option Data → FoundOrFault ℤ
start_time value = or_absent (pos 0) integer value

-- the name of each time warp mode
abbrev pub modes_by_name : List (List ℕ × Mode)
modes_by_name = (codes "no", No) ∷ (codes "single", Single) ∷ (codes "multi", Multi) ∷ []

-- the time warp mode, which is no where it is absent
unfoldable pub time_warp_mode : Option Data → FoundOrFault Mode
time_warp_mode value = or_absent No (λ name. text name >>= (λ bytes. called bytes modes_by_name)) value

-- whether time correction is on, as it is where this is absent
unfoldable pub time_correction : Option Data → FoundOrFault Bool
time_correction value = or_absent true boolean value

-- the start time and the first reading
unfoldable pub start_and_first : Data → FoundOrFault (ℤ × Reading)
start_and_first d = read_both (field (codes "start") start_time d) (field (codes "first") listed_reading d)

-- the time warp mode and the time correction
unfoldable pub modes : Data → FoundOrFault (Mode × Bool)
modes d = read_both (field (codes "mode") time_warp_mode d) (field (codes "correction") time_correction d)

-- the fields of the clock
unfoldable pub clock_fields_of : Data → FoundOrFault ClockFields
clock_fields_of d = read_both (start_and_first d) (modes d) >>= (λ p. Ok (record { start = p.0.0; first = p.0.1; mode = p.1.0; correction = p.1.1 }))

-- a count, which is this one where it is absent
unfoldable pub count : ℕ → Option Data → FoundOrFault ℕ
count absent value = or_absent absent word value

-- how many schedulers, processes, and timer slots of each scheduler there are
unfoldable pub sizes_of : Data → FoundOrFault Sizes
sizes_of d =
    read_both (field (codes "schedulers") (count 1) d) (read_both (field (codes "processes") (count 1) d) (field (codes "slots") (count 1024) d))
    >>= (λ p. Ok (record { schedulers = p.0; processes = p.1.0; slots = p.1.1 }))

-- the format, which is 1 or 2
unfoldable pub one_or_two : Option Data → FoundOrFault (Unit {0})
one_or_two value = integer value >>= (λ format. if_in_range (int_eq format (pos 1) || int_eq format (pos 2)) tt)

-- the fields that settings are made of, not yet tested for their ranges
abbrev pub head_of : Bool → Data → FoundOrFault Head
head_of race d =
    read_both (read_both (only_named (is_field race) d) (field (codes "format") one_or_two d)) (read_both (clock_fields_of d) (sizes_of d))
    >>= (λ p. Ok (record { clock = p.1.0; sizes = p.1.1 }))

-- the settings that the fields give, for one caller
abbrev pub settings_with : Head → Settings
settings_with head = record {
  mode = head.clock.mode;
  correction = head.clock.correction;
  start = head.clock.start;
  schedulers = head.sizes.schedulers;
  processes = head.sizes.processes;
  slots = head.sizes.slots;
  looks = SCENARIO_LOOKS;
  callers = 1;
  first = head.clock.first;
}

-- the settings, for one caller
unfoldable pub settings_from : Bool → Data → FoundOrFault Settings
settings_from race d = head_of race d >>= (λ head. if_in_range (is_checked (settings_with head)) (settings_with head))

-- the name of each field of a race
abbrev pub race_fields : List (List ℕ)
race_fields = codes "turns" ∷ codes "keeper" ∷ codes "callers" ∷ []

-- how many turns each scheduler makes in a race, which has no other fields
unfoldable pub race_turns : Option Data → FoundOrFault ℕ
race_turns value = of_kind value >>= (λ race. read_both (only_named (is_among race_fields) race) (field (codes "turns") non_negative race) >>= (λ p. Ok p.1))

-- what stands at place 0 beside the lists of ops, with the turns of a race where one is wanted
unfoldable pub top_of : Bool → Data → FoundOrFault Top
top_of false d = settings_from false d >>= (λ settings. Ok (record { settings = settings; turns = 0 }))
top_of true d = read_both (settings_from true d) (field (codes "race") race_turns d) >>= (λ p. Ok (record { settings = p.0; turns = p.1 }))

-- the format that this integer names; other integers are read as 2
abbrev pub format_by : FoundOrFault ℤ → Format
format_by (Ok format) = if int_eq format (pos 1) then One else Two
format_by (Err fault) = Two

-- the format that the ops are read by
unfoldable pub format_of : Data → Format
format_of d = format_by (field (codes "format") integer d)
