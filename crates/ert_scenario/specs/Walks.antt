-- The ops one after another: the first places with a fault, and the ops.

use Rattle.std.specs.Prelude.{ℕ, ◌+◌, List, [], ◌∷◌, ◌++◌, map, Option, Some, None, Ok, Err}
use Rattle.serde_json.specs.Data.{Data}
use Rattle.ert_ops.specs.declared.op.Op.{Op}
use Rattle.ert_scenario.specs.{Kinds.{FoundOrFault, items_in}, Labels.tested, Lists.{RaceValues, OpValues}, Rows.op_of, declared.fault.Fault.TheVariants.{Shape, Range}, declared.doer.ListDoer.ListDoer}
use Rattle.ert_scenario.specs.{declared.doer.ListDoer.TheVariants.{Everyone, Keeper, Caller}, declared.fields.Top.Top, declared.format.Format.Format}

-- what each of the values is as an op of the format, in the list of this doer
abbrev pub raws_of : Format → ListDoer → List Data → List (FoundOrFault Op)
raws_of format doer items = map (op_of format doer) items

-- the same of callers' lists, one list after the other
abbrev pub caller_raws : Format → List Data → List (FoundOrFault Op)
caller_raws format [] = []
caller_raws format (list ∷ lists) = raws_of format Caller (items_in list) ++ caller_raws format lists

-- of a race: the list of the clock's thread comes first
abbrev pub race_raws : Format → Option RaceValues → List (FoundOrFault Op)
race_raws format None = []
race_raws format (Some race) = raws_of format Keeper race.keeper ++ caller_raws format race.callers

-- of all lists, in the order of their places: the field `ops` comes before the race
abbrev pub all_raws : Format → OpValues → List (FoundOrFault Op)
all_raws format lists = raws_of format Everyone lists.ops ++ race_raws format lists.race

-- the same, tested where a service can be opened with the settings; where it can't, only shapes count
abbrev pub founds_of : FoundOrFault Top → List (FoundOrFault Op) → List (FoundOrFault Op)
founds_of (Ok top) raws = tested top.settings [] raws
founds_of (Err fault) raws = raws

-- the least place with a shape fault, where the list begins at place k
abbrev pub first_shape : ℕ → List (FoundOrFault Op) → Option ℕ
first_shape k [] = None
first_shape k (Ok op ∷ rest) = first_shape (k + 1) rest
first_shape k (Err Shape ∷ rest) = Some k
first_shape k (Err Range ∷ rest) = first_shape (k + 1) rest

-- the least place with a range fault, where there is no shape fault and the list begins at place k
abbrev pub first_range : ℕ → List (FoundOrFault Op) → Option ℕ
first_range k [] = None
first_range k (Ok op ∷ rest) = first_range (k + 1) rest
first_range k (Err fault ∷ rest) = Some k

-- the ops
abbrev pub ops_of : List (FoundOrFault Op) → List Op
ops_of [] = []
ops_of (Ok op ∷ rest) = op ∷ ops_of rest
ops_of (Err fault ∷ rest) = ops_of rest
