-- The settings of a scenario are checked, its ops are in range, and no two starts have one label.

use Rattle.std.proofs.Common.{◌≡◌, ◌+◌, ◌≤◌, ℕ, List, [], ◌∷◌, ◌++◌, length, All, Bool, true, false, ◌&&◌, Option, Some, None, is_some, IfSome, option_map, Ok, Err, codes, sym, subst, ap, ◌∙◌, arith, refl}
use Rattle.std.proofs.lemmas.List.{length-map, Elements.{All-nil, All-cons, All-head, All-tail}}
use Rattle.serde_json.specs.Data.{Data}
use Rattle.ert_defs.specs.{Settings.IsChecked, declared.settings.Settings.Settings, declared.settings.TheConstants.SCENARIO_LOOKS}
use Rattle.ert_ops.specs.{Labels.AreOps, Races.{Race, IsRace, MayDo, MayDoAll, IsCallersOp, lists_of as race_parts, ops_in}, Ranges.AreOpsInRange, declared.op.Op.Op}
use Rattle.ert_scenario.specs.{Doers.{IsKeepersOp, IsCallersAlone, AreCallersAlone}, Fields.{head_of, settings_with, settings_from, race_turns, field, top_of, format_of}, Kinds.{FoundOrFault, read_both, if_in_range, listed, items_in}}
use Rattle.ert_scenario.specs.{Labels.{started_label, is_new, with_label, tested}, Ranges.{is_checked, is_op}, Lists.{RaceValues, OpValues, race_lists, lists_found, list_count}, Scenarios.{Plan, with_callers, planned_race, planned}}
use Rattle.ert_scenario.specs.{Scenarios.verdict_of, Walked.without_fault, Walks.{raws_of, all_raws, founds_of, first_range, ops_of}, declared.doer.ListDoer.TheVariants.{Keeper, Caller}, declared.fields.Top.Top}
use Rattle.ert_scenario.specs.{declared.format.Format.Format}
use Rattle.ert_scenario.proofs.{Accepted.{AreFew, accepts_all}, Checked.Decides-checked, Cut.{callers_ops, race_ops, all_flat, ops_of-without}, Done.{all_done, keepers_are_callers, callers_are_callers}, Founds.{follows, in_range_parts}}
use Rattle.ert_scenario.proofs.{Founds.both_ok, InRange.{ops_in_range, length-ops_of, still_in_range, all_in_range, range_front, range_back}, NewLabels.{all_new, ops_front}}

-- ---- where there is no fault

whole_step : (fits : Bool) (op : Op) (raws rest : List (FoundOrFault Op)) (k : ℕ) → first_range k (if_in_range fits op ∷ rest) ≡ None
    → (first_range (k + 1) rest ≡ None → raws ≡ without_fault (ops_of rest)) → Ok op ∷ raws ≡ without_fault (ops_of (if_in_range fits op ∷ rest))
unfolding if_in_range
whole_step true op raws rest k h later = ap (λ (xs : List (FoundOrFault Op)). Ok op ∷ xs) (later h)
whole_step false op raws rest k h later = absurd (cc)

-- where no test fails, the raw ops have no fault
pub whole : (g : Settings) (labels : List ℕ) (raws : List (FoundOrFault Op)) (k : ℕ) → first_range k (tested g labels raws) ≡ None → raws ≡ without_fault (ops_of (tested g labels raws))
whole g labels [] k h = refl
whole g labels (Ok op ∷ raws) k h =
    whole_step (is_op g op && is_new labels (started_label op)) op raws (tested g (with_label labels (started_label op)) raws) k h (whole g (with_label labels (started_label op)) raws (k + 1))
whole g labels (Err fault ∷ raws) k h = absurd (cc)

-- ---- the settings

-- a service can be opened with settings, and a start looks at as many slots as one of a scenario does
abbrev FitsScenarios : Settings → Type 0
FitsScenarios g = IsChecked g × (g.looks ≡ SCENARIO_LOOKS)

valid_settings : (race : Bool) (d : Data) (g : Settings) → settings_from race d ≡ Ok g → FitsScenarios g
unfolding settings_from
valid_settings race d g h =
    let f = follows (head_of race d) _ g h in
    let fits = in_range_parts (is_checked (settings_with f.read)) (settings_with f.read) g f.then in
    subst FitsScenarios fits.1 (((Decides-checked (settings_with f.read)).0 fits.0).0, refl)

valid_top : (race : Bool) (d : Data) (top : Top) → top_of race d ≡ Ok top → FitsScenarios top.settings
unfolding top_of
valid_top false d top h =
    let f = follows (settings_from false d) _ top h in
    let made : Ok (record { settings = f.read; turns = 0 }) ≡ Ok top = f.then in
    let same : record { settings = f.read; turns = 0 } ≡ top = cc in
    subst FitsScenarios (ap (λ (t : Top). t.settings) same) (valid_settings false d f.read f.was)
valid_top true d top h =
    let f = follows (read_both (settings_from true d) (field (codes "race") race_turns d)) _ top h in
    let parts = both_ok (settings_from true d) (field (codes "race") race_turns d) f.read f.was in
    let made : Ok (record { settings = f.read.0; turns = f.read.1 }) ≡ Ok top = f.then in
    let same : record { settings = f.read.0; turns = f.read.1 } ≡ top = cc in
    subst FitsScenarios (ap (λ (t : Top). t.settings) same) (valid_settings true d f.read.0 parts.first)

pub with_more : (g : Settings) (lists : ℕ) → lists ≤ 16 → IsChecked g → IsChecked (with_callers (1 + lists) g)
with_more g lists few h = record {
  start = h.start;
  first = h.first;
  counts = record {
    schedulers_low = h.counts.schedulers_low;
    schedulers_high = h.counts.schedulers_high;
    processes_low = h.counts.processes_low;
    processes_high = h.counts.processes_high;
    chains_in_all = h.counts.chains_in_all;
    slots_low = h.counts.slots_low;
    slots_high = h.counts.slots_high;
    slots_in_all = h.counts.slots_in_all;
    looks_low = h.counts.looks_low;
    callers_low = omega arith;
    callers_high = omega arith;
  };
}

-- ---- a race

may_do : (g : Settings) (n : ℕ) (ops : List Op) → AreOpsInRange g ops → All IsCallersOp ops → MayDo (with_callers n g) ops
may_do g n [] fits own = tt
may_do g n (op ∷ ops) fits own =
    (All-head IsCallersOp op ops own, still_in_range g n op fits.0, may_do g n ops fits.1 (All-tail IsCallersOp op ops own))

callers_do : (g : Settings) (n : ℕ) (format : Format) (lists : List Data) → AreOpsInRange g (ops_in (callers_ops format lists)) → MayDoAll (with_callers n g) (callers_ops format lists)
callers_do g n format [] fits = tt
callers_do g n format (list ∷ lists) fits =
    let ours = ops_of (raws_of format Caller (items_in list)) in
    let others = ops_in (callers_ops format lists) in (
      may_do g n ours (range_front g ours others fits) (callers_are_callers ours (all_done format Caller (items_in list))),
      callers_do g n format lists (range_back g ours others fits),
    )

callers_alone : (format : Format) (lists : List Data) → AreCallersAlone (callers_ops format lists)
callers_alone format [] = All-nil (λ (ops : List Op). All IsCallersAlone ops)
callers_alone format (list ∷ lists) =
    All-cons (λ (ops : List Op). All IsCallersAlone ops) (ops_of (raws_of format Caller (items_in list))) (callers_ops format lists)
    (all_done format Caller (items_in list)) (callers_alone format lists)

-- what holds of a race
pub record IsValidRace (g : Settings) (ops : List Op) (race : Race) : Type 0 where
  pub is : IsRace g ops race
  pub keeper : All IsKeepersOp race.keeper
  pub callers : AreCallersAlone race.callers

race_valid : (g : Settings) (ops : List Op) (format : Format) (turns : ℕ) (race : RaceValues) → turns ≤ 10000
    → AreOpsInRange g (ops_in (race_parts (planned_race format turns race))) → AreOps (ops ++ ops_in (race_parts (planned_race format turns race)))
    → IsValidRace (with_callers (1 + length race.callers) g) ops (planned_race format turns race)
race_valid g ops format turns race few fits labels =
    let keeper = ops_of (raws_of format Keeper race.keeper) in
    let others = ops_in (callers_ops format race.callers) in
    let n : length (callers_ops format race.callers) ≡ length race.callers = length-map race.callers _ in
    record {
      is = record {
        callers = omega (arith, n);
        turns = few;
        threads = (
          may_do g (1 + length race.callers) keeper (range_front g keeper others fits) (keepers_are_callers keeper (all_done format Keeper race.keeper)),
          callers_do g (1 + length race.callers) format race.callers (range_back g keeper others fits),
        );
        labels = labels;
      };
      keeper = all_done format Keeper race.keeper;
      callers = callers_alone format race.callers;
    }

maybe_race : (g : Settings) (ops : List Op) (format : Format) (turns : ℕ) (race : Option RaceValues) → turns ≤ 10000
    → AreOpsInRange g (race_ops (option_map (planned_race format turns) race)) → AreOps (ops ++ race_ops (option_map (planned_race format turns) race))
    → IfSome (option_map (planned_race format turns) race) (IsValidRace (with_callers (1 + list_count race) g) ops)
maybe_race g ops format turns None few fits labels = tt
maybe_race g ops format turns (Some race) few fits labels = race_valid g ops format turns race few fits labels

-- ---- the scenario

-- what holds of settings, ops and race
pub record IsValidPlan (plan : Plan) : Type 0 where
  pub settings : IsChecked plan.settings
  pub looks : plan.settings.looks ≡ SCENARIO_LOOKS
  pub ops : AreOpsInRange plan.settings plan.ops
  pub labels : AreOps plan.ops
  pub race : IfSome plan.race (IsValidRace plan.settings plan.ops)

-- a value that is a scenario has these lists and this at place 0, and no test of its ops fails
pub record IsTested (race : Bool) (d : Data) (plan : Plan) : Type 0 where
  pub lists : OpValues
  pub listed : lists_found race d ≡ Ok lists
  pub top : Top
  pub opens : top_of race d ≡ Ok top
  pub made : plan ≡ planned (format_of d) lists top
  pub range : first_range 1 (tested top.settings [] (all_raws (format_of d) lists)) ≡ None
  pub few : AreFew (length (tested top.settings [] (all_raws (format_of d) lists))) (list_count lists.race) top.turns

pub tested_plan : (race : Bool) (d : Data) (plan : Plan) → verdict_of race d ≡ Ok plan → IsTested race d plan
unfolding verdict_of
tested_plan race d plan h =
    let all = accepts_all (format_of d) (lists_found race d) (top_of race d) plan h in
    let a = all.accepted in
    let raws = all_raws (format_of d) all.lists in
    let opened : founds_of (top_of race d) raws ≡ tested a.top.settings [] raws = ap (λ (t : FoundOrFault Top). founds_of t raws) a.opens in
    record {
      lists = all.lists;
      listed = all.listed;
      top = a.top;
      opens = a.opens;
      made = a.made;
      range = ap (first_range 1) (sym opened) ∙ a.range;
      few = subst (λ (xs : List (FoundOrFault Op)). AreFew (length xs) (list_count all.lists.race) a.top.turns) opened a.few;
    }

valid_parts : (g : Settings) (format : Format) (lists : OpValues) (top : Top) (flat : List Op) → FitsScenarios top.settings → list_count lists.race ≤ 16 → top.turns ≤ 10000
    → flat ≡ (planned format lists top).ops ++ race_ops (planned format lists top).race → AreOpsInRange top.settings flat → AreOps flat
    → IsValidPlan (planned format lists top)
valid_parts g format lists top flat opens few turns is fits labels =
    let ops = (planned format lists top).ops in
    let race = race_ops (planned format lists top).race in
    let in_all : AreOpsInRange top.settings (ops ++ race) = subst (AreOpsInRange top.settings) is fits in
    let labels_in_all : AreOps (ops ++ race) = subst AreOps is labels in
    record {
      settings = with_more top.settings (list_count lists.race) few opens.0;
      looks = opens.1;
      ops = all_in_range top.settings (1 + list_count lists.race) ops (range_front top.settings ops race in_all);
      labels = ops_front ops race labels_in_all;
      race = maybe_race top.settings ops format top.turns lists.race turns (range_back top.settings ops race in_all) labels_in_all;
    }

pub valid : (race : Bool) (d : Data) (plan : Plan) → verdict_of race d ≡ Ok plan → IsValidPlan plan
valid race d plan h =
    let t = tested_plan race d plan h in
    let raws = all_raws (format_of d) t.lists in
    let founds = tested t.top.settings [] raws in
    let flat = ops_of founds in
    let few : length flat ≤ 100000 = omega (arith, length-ops_of founds, t.few.few_ops) in
    let is : flat ≡ (planned (format_of d) t.lists t.top).ops ++ race_ops (planned (format_of d) t.lists t.top).race =
    sym (ops_of-without flat) ∙ ap ops_of (sym (whole t.top.settings [] raws 1 t.range)) ∙ all_flat (format_of d) t.lists t.top in
    subst IsValidPlan (sym t.made)
    (valid_parts t.top.settings (format_of d) t.lists t.top flat (valid_top race d t.top t.opens) t.few.few_lists t.few.few_turns is
    (ops_in_range t.top.settings [] raws) (record { apart = (all_new t.top.settings [] raws).apart; few = few }))

-- ---- where a race is wanted

has_race : (race : Bool) (d : Data) (lists : OpValues) → lists_found race d ≡ Ok lists → is_some lists.race ≡ race
unfolding lists_found
has_race false d lists h =
    let f = follows (field (codes "ops") listed d) _ lists h in
    let made : Ok (record { ops = f.read; race = None }) ≡ Ok lists = f.then in
    let same : record { ops = f.read; race = None } ≡ lists = cc in
    ap (λ (l : OpValues). is_some l.race) (sym same)
has_race true d lists h =
    let f = follows (read_both (field (codes "ops") listed d) (field (codes "race") race_lists d)) _ lists h in
    let made : Ok (record { ops = f.read.0; race = Some f.read.1 }) ≡ Ok lists = f.then in
    let same : record { ops = f.read.0; race = Some f.read.1 } ≡ lists = cc in
    ap (λ (l : OpValues). is_some l.race) (sym same)

some_map : {A B : Type 0} (f : A → B) (o : Option A) → is_some (option_map f o) ≡ is_some o
some_map f None = refl
some_map f (Some a) = refl

pub wanted : (race : Bool) (d : Data) (plan : Plan) → verdict_of race d ≡ Ok plan → is_some plan.race ≡ race
wanted race d plan h =
    let t = tested_plan race d plan h in
    ap (λ (p : Plan). is_some p.race) t.made ∙ some_map (planned_race (format_of d) t.top.turns) t.lists.race ∙ has_race race d t.lists t.listed

one_of : (race : Option RaceValues) → is_some race ≡ false → 1 + list_count race ≡ 1
one_of None h = refl
one_of (Some race) h = absurd (cc)

pub alone : (d : Data) (plan : Plan) → verdict_of false d ≡ Ok plan → plan.settings.callers ≡ 1
alone d plan h =
    let t = tested_plan false d plan h in
    ap (λ (p : Plan). p.settings.callers) t.made ∙ one_of t.lists.race (has_race false d t.lists t.listed)
