-- The value of format 2 that says what a value of format 1 says.

use Rattle.std.specs.Prelude.{◌≡◌, ℕ, pos, List, [], ◌∷◌, ◌++◌, map, codes, Bool, true, false, ◌||◌, Option, Some, None, Ok, Err, if◌then◌else◌}
use Rattle.std.specs.Str.{bytes_eq}
use Rattle.ert_defs.specs.Mails.{first_of}
use Rattle.serde_json.specs.{Data.{Data, null, boolean, number, string, array, object, unsigned, put}, Find.get, View.items_of}
use Rattle.ert_scenario.specs.{Fields.field, Kinds.{FoundOrFault, integer, list_of, text}}

-- whether it is the name of an op that asks a scheduler
abbrev pub is_ask : FoundOrFault (List ℕ) → Bool
is_ask (Ok name) = bytes_eq name (codes "cancel_async") || bytes_eq name (codes "read_async")
is_ask (Err fault) = false

-- the items of an op: one that asks a scheduler gets `true` as its last argument
unfoldable pub migrated_items : List Data → List Data
migrated_items items = if is_ask (text (first_of items)) then items ++ boolean true ∷ [] else items

-- an op
unfoldable pub migrated_op : Data → Data
migrated_op null = null
migrated_op (boolean b) = boolean b
migrated_op (number n) = number n
migrated_op (string s) = string s
migrated_op (array ds) = array (items_of (migrated_items (list_of ds)))
migrated_op (object ms) = object ms

-- an array with each item changed; another value stays
unfoldable pub each : (Data → Data) → Data → Data
each change null = null
each change (boolean b) = boolean b
each change (number n) = number n
each change (string s) = string s
each change (array ds) = array (items_of (map change (list_of ds)))
each change (object ms) = object ms

-- a list of ops
abbrev pub migrated_list : Data → Data
migrated_list list = each migrated_op list

-- an object, with this field
unfoldable pub with_field : List ℕ → Data → Data → Data
with_field name field null = null
with_field name field (boolean b) = boolean b
with_field name field (number n) = number n
with_field name field (string s) = string s
with_field name field (array ds) = array ds
with_field name field (object ms) = object (put name field ms)

-- an object with a field changed, where it has one
abbrev pub changed_to : List ℕ → (Data → Data) → Option Data → Data → Data
changed_to name change None d = d
changed_to name change (Some field) d = with_field name (change field) d

-- a value with its field of this name changed, where it has one
unfoldable pub changed : List ℕ → (Data → Data) → Data → Data
changed name change d = changed_to name change (get name d) d

-- a race: its lists are migrated
abbrev pub migrated_race : Data → Data
migrated_race race = changed (codes "callers") (each migrated_list) (changed (codes "keeper") migrated_list race)

-- a value: all its lists are migrated, and `format` is 2
unfoldable pub migrated : Data → Data
migrated d = with_field (codes "format") (number (unsigned 2)) (changed (codes "race") migrated_race (changed (codes "ops") migrated_list d))

-- the field `format` of a value is this integer
abbrev pub IsOfFormat : ℕ → Data → Type 0
IsOfFormat format d = field (codes "format") integer d ≡ Ok (pos format)
