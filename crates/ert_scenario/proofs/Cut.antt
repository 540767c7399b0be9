-- The ops of all lists, where none has a fault, and the lists that are cut out of them.

use Rattle.std.proofs.Common.{◌≡◌, ◌+◌, ℕ, List, [], ◌∷◌, ◌++◌, map, length, take, drop, Option, Some, None, option_map, Ok, Err, sym, subst, ap, ◌∙◌, refl}
use Rattle.std.proofs.lemmas.List.{length-map}
use Rattle.serde_json.specs.Data.{Data}
use Rattle.ert_ops.specs.{Races.{Race, lists_of as race_parts, ops_in}, declared.op.Op.Op}
use Rattle.ert_scenario.specs.{Cuts.{cut_callers, cut_race, cut_plan}, Kinds.{FoundOrFault, items_in}, Lists.{RaceValues, OpValues, list_count}, Rows.op_of, Scenarios.{Plan, with_callers, planned_race, planned}, Walked.without_fault}
use Rattle.ert_scenario.specs.{Walks.{raws_of, caller_raws, race_raws, all_raws, ops_of}, declared.doer.ListDoer.ListDoer, declared.doer.ListDoer.TheVariants.{Everyone, Keeper, Caller}, declared.fields.Top.Top}
use Rattle.ert_scenario.specs.{declared.format.Format.Format}

-- ---- a list of two parts

pub record Splits (xs ys : List (FoundOrFault Op)) (ops : List Op) : Type 0 where
  pub first : xs ≡ without_fault (take (length xs) ops)
  pub front : ops_of xs ≡ take (length xs) ops
  pub back : ys ≡ without_fault (drop (length xs) ops)

pub splits : (xs ys : List (FoundOrFault Op)) (ops : List Op) → xs ++ ys ≡ without_fault ops → Splits xs ys ops
splits [] ys ops h = record { first = refl; front = refl; back = h }
splits (Ok op ∷ xs) ys [] h = absurd (cc)
splits (Err fault ∷ xs) ys [] h = absurd (cc)
splits (Err fault ∷ xs) ys (other ∷ ops) h = absurd (cc)
splits (Ok op ∷ xs) ys (other ∷ ops) h =
    let same : op ≡ other = cc in
    let rest : xs ++ ys ≡ without_fault ops = cc in
    let s = splits xs ys ops rest in
    let front : ops_of xs ≡ take (length xs) ops = s.front in
    let first : xs ≡ without_fault (take (length xs) ops) = s.first in
    record { first = cc; front = cc; back = s.back }

length-raws : (format : Format) (doer : ListDoer) (items : List Data) → length (raws_of format doer items) ≡ length items
length-raws format doer items = length-map items (op_of format doer)

-- of the raw ops of a list, and others after them
record SplitsList (format : Format) (doer : ListDoer) (items : List Data) (ys : List (FoundOrFault Op)) (ops : List Op) : Type 0 where
  pub front : take (length items) ops ≡ ops_of (raws_of format doer items)
  pub back : ys ≡ without_fault (drop (length items) ops)

splits_list : (format : Format) (doer : ListDoer) (items : List Data) (ys : List (FoundOrFault Op)) (ops : List Op) → raws_of format doer items ++ ys ≡ without_fault ops
    → SplitsList format doer items ys ops
splits_list format doer items ys ops h =
    let s = splits (raws_of format doer items) ys ops h in
    let n = length-raws format doer items in
    record {
      front = sym (subst (λ k. ops_of (raws_of format doer items) ≡ take k ops) n s.front);
      back = subst (λ k. ys ≡ without_fault (drop k ops)) n s.back;
    }

-- ---- what is cut is what is planned

abbrev pub callers_ops : Format → List Data → List (List Op)
callers_ops format lists = map (λ list. ops_of (raws_of format Caller (items_in list))) lists

cut_callers_same : (format : Format) (lists : List Data) (ops : List Op) → caller_raws format lists ≡ without_fault ops → cut_callers lists ops ≡ callers_ops format lists
cut_callers_same format [] ops h = refl
cut_callers_same format (list ∷ lists) ops h =
    let s = splits_list format Caller (items_in list) (caller_raws format lists) ops h in
    let later = cut_callers_same format lists (drop (length (items_in list)) ops) s.back in
    ap (λ (xs : List Op). xs ∷ cut_callers lists (drop (length (items_in list)) ops)) s.front
    ∙ ap (λ (rest : List (List Op)). ops_of (raws_of format Caller (items_in list)) ∷ rest) later

cut_race_same : (format : Format) (turns : ℕ) (race : RaceValues) (ops : List Op) → race_raws format (Some race) ≡ without_fault ops
    → cut_race turns race ops ≡ planned_race format turns race
cut_race_same format turns race ops h =
    let s = splits_list format Keeper race.keeper (caller_raws format race.callers) ops h in
    let later = cut_callers_same format race.callers (drop (length race.keeper) ops) s.back in
    let make : List Op → List (List Op) → Race = λ keeper callers. record { turns = turns; keeper = keeper; callers = callers } in
    ap (λ (keeper : List Op). make keeper (cut_callers race.callers (drop (length race.keeper) ops))) s.front
    ∙ ap (make (ops_of (raws_of format Keeper race.keeper))) later

plan_from : Top → Option RaceValues → List Op → Option Race → Plan
plan_from top lists ops race = record { settings = with_callers (1 + list_count lists) top.settings; ops = ops; race = race }

cut_option : (format : Format) (turns : ℕ) (race : Option RaceValues) (ops : List Op) → race_raws format race ≡ without_fault ops
    → option_map (λ r. cut_race turns r ops) race ≡ option_map (planned_race format turns) race
cut_option format turns None ops h = refl
cut_option format turns (Some race) ops h = ap Some (cut_race_same format turns race ops h)

-- where the ops of all lists have no fault, the scenario that is cut out of them is the one that is planned
pub cut_plan_same : (format : Format) (lists : OpValues) (top : Top) (ops : List Op) → all_raws format lists ≡ without_fault ops
    → cut_plan top lists ops ≡ planned format lists top
unfolding plan_from
cut_plan_same format lists top ops h =
    let s = splits_list format Everyone lists.ops (race_raws format lists.race) ops h in
    let later = cut_option format top.turns lists.race (drop (length lists.ops) ops) s.back in
    ap (λ (xs : List Op). plan_from top lists.race xs (option_map (λ r. cut_race top.turns r (drop (length lists.ops) ops)) lists.race)) s.front
    ∙ ap (plan_from top lists.race (ops_of (raws_of format Everyone lists.ops))) later

-- ---- ops one list after the other

pub ops_of-append : (xs ys : List (FoundOrFault Op)) → ops_of (xs ++ ys) ≡ ops_of xs ++ ops_of ys
ops_of-append [] ys = refl
ops_of-append (Ok op ∷ xs) ys = ap (λ (ops : List Op). op ∷ ops) (ops_of-append xs ys)
ops_of-append (Err fault ∷ xs) ys = ops_of-append xs ys

-- the ops of a race, one list after the other
abbrev pub race_ops : Option Race → List Op
race_ops None = []
race_ops (Some race) = ops_in (race_parts race)

callers_flat : (format : Format) (lists : List Data) → ops_of (caller_raws format lists) ≡ ops_in (callers_ops format lists)
callers_flat format [] = refl
callers_flat format (list ∷ lists) =
    ops_of-append (raws_of format Caller (items_in list)) (caller_raws format lists)
    ∙ ap (λ (rest : List Op). ops_of (raws_of format Caller (items_in list)) ++ rest) (callers_flat format lists)

race_flat : (format : Format) (turns : ℕ) (race : Option RaceValues) → ops_of (race_raws format race) ≡ race_ops (option_map (planned_race format turns) race)
race_flat format turns None = refl
race_flat format turns (Some race) =
    ops_of-append (raws_of format Keeper race.keeper) (caller_raws format race.callers)
    ∙ ap (λ (rest : List Op). ops_of (raws_of format Keeper race.keeper) ++ rest) (callers_flat format race.callers)

-- the ops of all lists are those of the plan
pub all_flat : (format : Format) (lists : OpValues) (top : Top) → ops_of (all_raws format lists) ≡ (planned format lists top).ops ++ race_ops (planned format lists top).race
all_flat format lists top =
    ops_of-append (raws_of format Everyone lists.ops) (race_raws format lists.race)
    ∙ ap (λ (rest : List Op). ops_of (raws_of format Everyone lists.ops) ++ rest) (race_flat format top.turns lists.race)

pub ops_of-without : (ops : List Op) → ops_of (without_fault ops) ≡ ops
ops_of-without [] = refl
ops_of-without (op ∷ ops) = ap (λ (rest : List Op). op ∷ rest) (ops_of-without ops)
