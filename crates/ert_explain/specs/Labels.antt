-- The labels of starts.

use Rattle.std.specs.Prelude.{◌≡◌, ◌<◌, ◌+◌, ℕ, ℤ, List, [], ◌∷◌, Bool, Option, Some, None, option_and_then}
use Rattle.serde_json.specs.{Data.Data, Find.{as_number, as_i64, as_str}}
use Rattle.ert_scenario.specs.Kinds.{items_in}
use Rattle.ert_explain.specs.{OpNames.op_called, Places.op_at, declared.op_name.OpName.OpName, declared.op_name.OpName.TheVariants.{Start, SendAfter}}

-- the integer that a value is, where the op is a start
abbrev pub integer_label : Data → OpName → Option ℤ
integer_label label Start = option_and_then as_i64 (as_number label)
integer_label label SendAfter = option_and_then as_i64 (as_number label)
integer_label label _ = None

-- the label of an op of this name, where it is a start
unfoldable pub start_label : Data → Data → Option ℤ
start_label name label = option_and_then (integer_label label) (option_and_then op_called (as_str name))

-- the label of an op with these items
abbrev pub items_label : List Data → Option ℤ
items_label [] = None
items_label (name ∷ []) = None
items_label (name ∷ label ∷ others) = start_label name label

-- the label of an op, where it is a start
abbrev pub label_of_start : Data → Option ℤ
label_of_start op = items_label (items_in op)

-- the label of the op of this number, where it is a start
abbrev pub label_at : Bool → Data → ℕ → Option ℤ
label_at race d number = option_and_then (λ p. label_of_start p.op) (op_at race d number)

-- an op before the op of this number has this place, from 1, and both are starts with one label
pub record IsSameLabel (race : Bool) (d : Data) (place number : ℕ) : Type 0 where
  pub earlier : ℕ
  pub label : ℤ
  pub counts : place ≡ earlier + 1
  pub less : earlier < number
  pub first : label_at race d earlier ≡ Some label
  pub second : label_at race d number ≡ Some label

-- no op before the op of this number is a start with its label
abbrev pub IsNewLabel : Bool → Data → ℕ → Type 0
IsNewLabel race d number = (earlier : ℕ) (label : ℤ) → earlier < number → label_at race d earlier ≡ Some label → label_at race d number ≡ Some label → ⊥
