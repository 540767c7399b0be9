-- The fault at each place of a value, read off by index: another reading of the verdict's places.

use Rattle.std.specs.Prelude.{◌≡◌, ◌<◌, ◌⊎◌, ℕ, zero, suc, Bool, List, [], ◌∷◌, length, Option, Some, None, Ok, Err}
use Rattle.serde_json.specs.Data.{Data}
use Rattle.ert_defs.specs.declared.settings.Settings.{Settings}
use Rattle.ert_ops.specs.declared.op.Op.{Op}
use Rattle.ert_scenario.specs.{Fields.{top_of, format_of}, Labels.started_label, Lists.{OpValues, lists_found, list_count}, Walks.{all_raws, founds_of}, declared.fault.Fault.Fault, declared.fault.Fault.TheVariants.{Shape, Range}}
use Rattle.ert_scenario.specs.{declared.fields.Top.Top, declared.limits.TheConstants.{MOST_LISTS, MOST_TURNS, MOST_OPS}}
use Rattle.ert_scenario.specs.Kinds.{FoundOrFault, found_map, ◌>>=◌, read_both}

-- the fault, where there is one
abbrev pub fault_of : {X : Type 0} → FoundOrFault X → Option Fault
fault_of (Ok x) = None
fault_of (Err fault) = Some fault

-- the fault of the op at this index
abbrev pub fault_in : List (FoundOrFault Op) → ℕ → Option Fault
fault_in [] i = None
fault_in (found ∷ rest) zero = fault_of found
fault_in (found ∷ rest) (suc i) = fault_in rest i

-- what the ops of all lists are, one list after the other
abbrev pub op_founds : Bool → Data → FoundOrFault (List (FoundOrFault Op))
op_founds race d = lists_found race d >>= (λ lists. Ok (founds_of (top_of race d) (all_raws (format_of d) lists)))

-- what the ops are; no ops where the lists aren't arrays
abbrev pub founds_in : FoundOrFault (List (FoundOrFault Op)) → List (FoundOrFault Op)
founds_in (Ok founds) = founds
founds_in (Err fault) = []

-- the fault at a place: 0 is the object with its fields, and the ops have the places 1, 2 and so on
abbrev pub fault_by : FoundOrFault Top → FoundOrFault (List (FoundOrFault Op)) → ℕ → Option Fault
fault_by top founds zero = fault_of (read_both top founds)
fault_by top founds (suc i) = fault_in (founds_in founds) i

-- the place has a shape fault
abbrev pub HasShapeFault : Bool → Data → ℕ → Type 0
HasShapeFault race d place = fault_by (top_of race d) (op_founds race d) place ≡ Some Shape

-- the place has a range fault
abbrev pub HasRangeFault : Bool → Data → ℕ → Type 0
HasRangeFault race d place = fault_by (top_of race d) (op_founds race d) place ≡ Some Range

-- how many callers' lists there are; none where the lists aren't arrays
abbrev pub caller_list_count : FoundOrFault OpValues → ℕ
caller_list_count (Ok lists) = list_count lists.race
caller_list_count (Err fault) = 0

-- how many turns there are; none where place 0 has a fault
abbrev pub turns_in : FoundOrFault Top → ℕ
turns_in (Ok top) = top.turns
turns_in (Err fault) = 0

-- a value has more than 100,000 ops in all lists together, more than 16 callers' lists, or more than 10,000
-- turns
abbrev pub IsTooMuch : Bool → Data → Type 0
IsTooMuch race d = (MOST_OPS < length (founds_in (op_founds race d))) ⊎ ((MOST_LISTS < caller_list_count (lists_found race d)) ⊎ (MOST_TURNS < turns_in (top_of race d)))

-- the place has it, and no lesser place has
pub record IsLeast (Has : ℕ → Type 0) (place : ℕ) : Type 0 where
  pub here : Has place
  pub least : (lesser : ℕ) → lesser < place → Has lesser → ⊥

-- no place has it
abbrev pub IsNowhere : (ℕ → Type 0) → Type 0
IsNowhere Has = (place : ℕ) → Has place → ⊥

-- what the op at this index is, before it is tested
abbrev pub raw_at : List (FoundOrFault Op) → ℕ → Option (FoundOrFault Op)
raw_at [] i = None
raw_at (raw ∷ rest) zero = Some raw
raw_at (raw ∷ rest) (suc i) = raw_at rest i

-- the settings that stand at place 0, for one caller
abbrev pub settings_in : FoundOrFault Top → FoundOrFault Settings
settings_in top = found_map (λ t. t.settings) top

-- a value gives these settings, and the ops of all its lists are these before they are tested
pub record GivesRawOps (race : Bool) (d : Data) (g : Settings) (raws : List (FoundOrFault Op)) : Type 0 where
  pub opens : settings_in (top_of race d) ≡ Ok g
  pub ops : (lists_found race d >>= (λ lists. Ok (all_raws (format_of d) lists))) ≡ Ok raws

-- the op at this index is a start with this label
pub record IsStartAt (raws : List (FoundOrFault Op)) (i label : ℕ) : Type 0 where
  pub op : Op
  pub here : raw_at raws i ≡ Some (Ok op)
  pub has : started_label op ≡ Some label
