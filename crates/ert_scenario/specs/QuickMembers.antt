-- What one pass over the members of an object finds.

use Rattle.std.specs.Prelude.{◌≡◌, ℕ, suc, List, [], false, codes, Option, Some, None, Ok}
use Rattle.std.specs.Str.{bytes_eq}
use Rattle.json.specs.{Json.value, Token.Token}
use Rattle.serde_json.specs.{Data.{Data, array, object, Members, put}, Find.get_member, Read.{of_json, converted}, View.{items_of, members_view}}
use Rattle.ert_defs.specs.declared.settings.Settings.{Settings}
use Rattle.ert_ops.specs.declared.op.Op.{Op}
use Rattle.ert_scenario.specs.{Fields.{is_field, are_named}, Labels.tested, Lists.OpValues, Scenarios.{Plan, with_callers, judged, verdict_of}, Walked.without_fault, Walks.{raws_of, all_raws}, declared.doer.ListDoer.TheVariants.Everyone}
use Rattle.ert_scenario.specs.{declared.fields.Top.Top, declared.format.Format.Format, declared.quick.members.Seen.Seen}

-- the values of ops, without a race
abbrev pub without_race : List Data → OpValues
without_race values = record { ops = values; race = None }

-- once the ops were read, the value of the field is an array of them
abbrev pub IsOpsField : Option Format → List Op → Option Data → Type 0
IsOpsField None ops found = Unit {0}
IsOpsField (Some format) ops found = (values : List Data) × (found ≡ Some (array (items_of values))) × (raws_of format Everyone values ≡ without_fault ops)

-- of all members, these were seen as they are, and the field `ops` as these ops
pub record HasSeenMembers (format : Option Format) (ops : List Op) (seen all : Members) : Type 0 where
  pub others : (k : List ℕ) → bytes_eq k (codes "ops") ≡ false → get_member k all ≡ get_member k seen
  pub named : are_named (is_field false) all ≡ are_named (is_field false) seen
  pub listed : IsOpsField format ops (get_member (codes "ops") all)

-- of all members these were seen, by what a pass keeps of them
abbrev pub IsSeenAs : Seen → Members → Type 0
IsSeenAs s all = HasSeenMembers s.format s.ops.items (members_view s.fields.entries) all

-- of the tokens `old` the first are the value of a member of this name, which is put to those seen before
pub record ReadsMember (name : List ℕ) (old new : List Token) (was is : Seen) : Type 0 where
  pub value_is : Data
  pub reads : (depth : ℕ) → converted of_json (value (suc (suc depth)) old) ≡ Some (value_is, new)
  pub sees : (all : Members) → IsSeenAs was all → IsSeenAs is (put name value_is all)

-- the verdict on the object of these members is this plan
abbrev pub IsPlanOf : Seen → Plan → Type 0
IsPlanOf seen plan = (all : Members) → IsSeenAs seen all → verdict_of false (object all) ≡ Ok plan

-- the verdict is this plan on each list of values that are these ops
abbrev pub IsPlanWith : Top → List Op → Plan → Type 0
IsPlanWith top ops plan =
    (format : Format) (values : List Data) → all_raws format (without_race values) ≡ without_fault ops
    → judged format (without_race values) (Ok top) (tested top.settings [] (all_raws format (without_race values))) ≡ Ok plan

-- the plan of these settings and ops, for one caller
abbrev pub plan_for_one : Settings → List Op → Plan
plan_for_one g ops = record { settings = with_callers 1 g; ops = ops; race = None }
