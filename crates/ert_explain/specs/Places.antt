-- The ops of a value, by their places.

use Rattle.std.specs.Prelude.{ℕ, ◌+◌, ◌-◌, List, [], ◌∷◌, length, codes, nat_lt, Bool, true, false, Option, Some, None, option_map, option_and_then, slice_get, if◌then◌else◌}
use Rattle.serde_json.specs.{Data.Data, Find.get, View.view}
use Rattle.ert_scenario.specs.Kinds.{listed, or_empty, items_in}
use Rattle.ert_explain.specs.declared.place.{ListName.ListName, ListName.TheVariants.{Ops, Keeper, Caller}, PlacedOp.PlacedOp}

-- an op that stands in a value: its list, its index there, and its value
pub record OpSeen : Type 0 where
  pub list : ListName
  pub index : ℕ
  pub op : Data

-- an op that the code found
abbrev pub op_seen : PlacedOp → OpSeen
op_seen p = record { list = p.list; index = p.index; op = view p.value.now }

-- the item of a list that has this index
abbrev pub item_at : ListName → List Data → ℕ → Option OpSeen
item_at list items index = option_map (λ d. record { list = list; index = index; op = d }) (slice_get items index)

-- the op of this number in the lists of callers, of which the first has this number
abbrev pub caller_op_at : ℕ → List Data → ℕ → Option OpSeen
caller_op_at caller [] number = None
caller_op_at caller (list ∷ lists) number =
    if nat_lt number (length (items_in list)) then item_at (Caller caller) (items_in list) number
    else caller_op_at (caller + 1) lists (number - length (items_in list))

-- the items of a field; none where it is no array
abbrev pub items_at : List ℕ → Data → List Data
items_at name d = or_empty (listed (get name d))

-- the op of this number in the lists of a race
unfoldable pub race_op_at : Data → ℕ → Option OpSeen
race_op_at race number =
    if nat_lt number (length (items_at (codes "keeper") race)) then item_at Keeper (items_at (codes "keeper") race) number
    else caller_op_at 0 (items_at (codes "callers") race) (number - length (items_at (codes "keeper") race))

-- the same in the value of the field `race`, where one is wanted
abbrev pub op_behind : Bool → Data → ℕ → Option OpSeen
op_behind false d number = None
op_behind true d number = option_and_then (λ race. race_op_at race number) (get (codes "race") d)

-- the op of this number, from 0, in all lists together
unfoldable pub op_at : Bool → Data → ℕ → Option OpSeen
op_at race d number =
    if nat_lt number (length (items_at (codes "ops") d)) then item_at Ops (items_at (codes "ops") d) number
    else op_behind race d (number - length (items_at (codes "ops") d))
