-- A scenario with a race is one whose value is accepted.

use Rattle.std.proofs.Common.{◌≡◌, ◌+◌, ◌≤◌, ℕ, suc, List, [], ◌∷◌, ◌++◌, length, Bool, true, false, ◌&&◌, Option, Some, None, is_some, IfSome, option_map, Ok, Err, ltb, cond, if◌then◌else◌, codes, sym, subst, ap, ◌∙◌, arith, refl}
use Rattle.std.specs.List.{list_all}
use Rattle.std.proofs.lemmas.{Bool.and_parts, Bool.Decides.nat_tests, List.{length-map, map-append}}
use Rattle.serde_json.specs.{Data.{Data, Items}, Find.{get, as_array}}
use Rattle.ert_defs.specs.declared.settings.Settings.{Settings}
use Rattle.ert_ops.specs.{Races.{Race, lists_of, ops_in}, declared.op.Op.Op, declared.op.Op.TheVariants.Tick}
use Rattle.ert_scenario.specs.{Acceptance.{HasSettings, AreCallersLists, IsAcceptedRace, plan_with}, Fields.{only_named, is_among, race_fields, race_turns, settings_from, field, top_of, format_of}, Labels.tested, Lists.RaceValues}
use Rattle.ert_scenario.specs.{Lists.{OpValues, lists_in, race_lists, lists_found, list_count}, Ranges.is_op, Scenarios.{Plan, with_callers, is_over, planned_race, planned, judged, judged_all, verdict_of}, Walked.without_fault}
use Rattle.ert_scenario.specs.{Walks.{raws_of, caller_raws, race_raws, all_raws, first_range, ops_of}, declared.doer.ListDoer.TheVariants.{Everyone, Keeper, Caller}, declared.fault.Fault.TheVariants.Shape, declared.fields.Top.Top}
use Rattle.ert_scenario.specs.{declared.format.Format.Format}
use Rattle.ert_scenario.specs.Kinds.{FoundOrFault, ◌>>=◌, of_kind, read_both, listed, list_of, or_empty, items_in, is_array, arrays, non_negative}
use Rattle.ert_scenario.proofs.{Acceptance.{all_fit, tested_same, no_shape, no_range, judged_as, not_over, or_none}, Cut.{splits, callers_ops, all_flat, ops_of-without}, Founds.{follows, both_ok}, SettingsRead.{both_are, nothing_else}}
use Rattle.ert_scenario.proofs.{SettingsRead.{has_settings, settings_are, for_callers, few_callers}, Valid.{IsValidRace, tested_plan, valid, whole}}

-- ---- arrays

kind_is : {X : Type 0} (o : Option X) (x : X) → of_kind o ≡ Ok x → o ≡ Some x
unfolding of_kind
kind_is None x h = absurd (cc)
kind_is (Some y) x h = let same : y ≡ x = cc in ap Some same

array_of : (o : Option Items) → is_some o ≡ true → of_kind (option_map list_of o) ≡ Ok (or_empty (of_kind (option_map list_of o)))
unfolding of_kind
array_of None h = absurd (cc)
array_of (Some items) h = refl

is_listed : (d : Data) → is_array d ≡ true → listed (Some d) ≡ Ok (items_in d)
unfolding listed
is_listed d h = array_of (as_array d) h

has_array : (o : Option Items) (ds : List Data) → of_kind (option_map list_of o) ≡ Ok ds → is_some o ≡ true
unfolding of_kind
has_array None ds h = absurd (cc)
has_array (Some items) ds h = refl

of_array : (d : Data) (ds : List Data) → listed (Some d) ≡ Ok ds → is_array d ≡ true
unfolding listed
of_array d ds h = has_array (as_array d) ds h

items_are : (d : Data) (ds : List Data) → listed (Some d) ≡ Ok ds → items_in d ≡ ds
items_are d ds h = ap or_empty h

if_all : (all : Bool) (lists ds : List Data) → cond {A = FoundOrFault (List Data)} all (Ok lists) (Err Shape) ≡ Ok ds → (all ≡ true) × (lists ≡ ds)
if_all true lists ds h = (refl, cc)
if_all false lists ds h = absurd (cc)

-- ---- ops without a fault

faultless : (xs ys : List (FoundOrFault Op)) (ops : List Op) → xs ++ ys ≡ without_fault ops → (xs ≡ without_fault (ops_of xs)) × (ys ≡ without_fault (ops_of ys))
faultless xs ys ops h =
    let s = splits xs ys ops h in
    let back : ops_of ys ≡ _ = ap ops_of s.back ∙ ops_of-without _ in
    (s.first ∙ ap without_fault (sym s.front), s.back ∙ ap without_fault (sym back))

callers_listed : (format : Format) (lists : List Data) (ops : List Op) → list_all is_array lists ≡ true → caller_raws format lists ≡ without_fault ops
    → AreCallersLists format lists (callers_ops format lists)
callers_listed format [] ops are h = tt
callers_listed format (list ∷ lists) ops are h =
    let parts = and_parts (is_array list) (list_all is_array lists) are in
    let s = faultless (raws_of format Caller (items_in list)) (caller_raws format lists) ops h in (
      record { values = items_in list; list = is_listed list parts.0; reads = s.0 },
      callers_listed format lists (ops_of (caller_raws format lists)) parts.1 s.1,
    )

-- the number of callers changes no test
same_test : (g : Settings) (n : ℕ) (op : Op) → is_op (with_callers n g) op ≡ is_op g op
unfolding is_op
same_test g n (Tick mono sys) = refl
same_test g n _ = refl

same_tests : (g : Settings) (n : ℕ) (ops : List Op) → list_all (is_op (with_callers n g)) ops ≡ list_all (is_op g) ops
same_tests g n [] = refl
same_tests g n (op ∷ ops) =
    ap (λ (b : Bool). b && list_all (is_op (with_callers n g)) ops) (same_test g n op)
    ∙ ap (λ (b : Bool). is_op g op && b) (same_tests g n ops)

-- ---- what was read of a race

record IsRaceValue (d : Data) (race : RaceValues) (turns : ℕ) : Type 0 where
  value : Data
  has : get (codes "race") d ≡ Some value
  named : only_named (is_among race_fields) value ≡ Ok tt
  turns_are : field (codes "turns") non_negative value ≡ Ok turns
  keeper : field (codes "keeper") listed value ≡ Ok race.keeper
  callers : field (codes "callers") listed value ≡ Ok race.callers
  are_arrays : list_all is_array race.callers ≡ true

record AreLists (value : Data) (race : RaceValues) : Type 0 where
  keeper : field (codes "keeper") listed value ≡ Ok race.keeper
  callers : field (codes "callers") listed value ≡ Ok race.callers
  are_arrays : list_all is_array race.callers ≡ true

are_arrays_in : (o : Option Data) (ds : List Data) → arrays o ≡ Ok ds → (listed o ≡ Ok ds) × (list_all is_array ds ≡ true)
unfolding arrays
are_arrays_in o ds h =
    let f = follows (listed o) _ ds h in
    let parts = if_all (list_all is_array f.read) f.read ds f.then in
    (f.was ∙ ap Ok parts.1, subst (λ (k : List Data). list_all is_array k ≡ true) parts.1 parts.0)

are_lists : (value : Data) (race : RaceValues) → lists_in value ≡ Ok race → AreLists value race
are_lists value race h =
    let f = follows (read_both (field (codes "keeper") listed value) (field (codes "callers") arrays value)) _ race h in
    let both = both_ok (field (codes "keeper") listed value) (field (codes "callers") arrays value) f.read f.was in
    let made : Ok (record { keeper = f.read.0; callers = f.read.1 }) ≡ Ok race = f.then in
    let same : record { keeper = f.read.0; callers = f.read.1 } ≡ race = cc in
    let callers = are_arrays_in (get (codes "callers") value) f.read.1 both.second in
    subst (AreLists value) same (record { keeper = both.first; callers = callers.0; are_arrays = callers.1 })

record AreTurns (value : Data) (turns : ℕ) : Type 0 where
  named : only_named (is_among race_fields) value ≡ Ok tt
  turns_are : field (codes "turns") non_negative value ≡ Ok turns

are_turns : (value : Data) (turns : ℕ)
    → (read_both (only_named (is_among race_fields) value) (field (codes "turns") non_negative value) >>= (λ p. Ok p.1)) ≡ Ok turns → AreTurns value turns
are_turns value turns h =
    let f = follows (read_both (only_named (is_among race_fields) value) (field (codes "turns") non_negative value)) _ turns h in
    let both = both_ok (only_named (is_among race_fields) value) (field (codes "turns") non_negative value) f.read f.was in
    let made : Ok f.read.1 ≡ Ok turns = f.then in
    let same : f.read.1 ≡ turns = cc in
    record { named = nothing_else _ f.read.0 both.first; turns_are = both.second ∙ ap Ok same }

race_value : (d : Data) (race : RaceValues) (turns : ℕ) → field (codes "race") race_lists d ≡ Ok race → field (codes "race") race_turns d ≡ Ok turns → IsRaceValue d race turns
unfolding race_lists race_turns
race_value d race turns lists times =
    let f = follows (of_kind (get (codes "race") d)) lists_in race lists in
    let t = follows (of_kind (get (codes "race") d)) _ turns times in
    let one : get (codes "race") d ≡ Some f.read = kind_is (get (codes "race") d) f.read f.was in
    let first = t.was in
    let second = f.was in
    let same : t.read ≡ f.read = cc in
    let l = are_lists f.read race f.then in
    let k = subst (λ (v : Data). AreTurns v turns) same (are_turns t.read turns t.then) in
    record { value = f.read; has = one; named = k.named; turns_are = k.turns_are; keeper = l.keeper; callers = l.callers; are_arrays = l.are_arrays }

-- what stands at place 0, and the lists
record IsReadRace (d : Data) (lists : OpValues) (top : Top) : Type 0 where
  race : RaceValues
  with_race : lists ≡ record { ops = lists.ops; race = Some race }
  list : field (codes "ops") listed d ≡ Ok lists.ops
  settings : settings_from true d ≡ Ok top.settings
  is : IsRaceValue d race top.turns

read_race : (d : Data) (lists : OpValues) (top : Top) → lists_found true d ≡ Ok lists → top_of true d ≡ Ok top → IsReadRace d lists top
unfolding lists_found top_of
read_race d lists top found opens =
    let f = follows (read_both (field (codes "ops") listed d) (field (codes "race") race_lists d)) _ lists found in
    let both = both_ok (field (codes "ops") listed d) (field (codes "race") race_lists d) f.read f.was in
    let made : Ok (record { ops = f.read.0; race = Some f.read.1 }) ≡ Ok lists = f.then in
    let same : record { ops = f.read.0; race = Some f.read.1 } ≡ lists = cc in
    let t = follows (read_both (settings_from true d) (field (codes "race") race_turns d)) _ top opens in
    let two = both_ok (settings_from true d) (field (codes "race") race_turns d) t.read t.was in
    let topped : Ok (record { settings = t.read.0; turns = t.read.1 }) ≡ Ok top = t.then in
    let same_top : record { settings = t.read.0; turns = t.read.1 } ≡ top = cc in
    subst (λ (k : OpValues). IsReadRace d k top) same
    (subst (λ (k : Top). IsReadRace d (record { ops = f.read.0; race = Some f.read.1 }) k) same_top
    (record {
      race = f.read.1;
      with_race = refl;
      list = both.first;
      settings = two.first;
      is = race_value d f.read.1 t.read.1 both.second two.second;
    }))

-- ---- a scenario is accepted

-- a plan has a race, and this value is accepted for it
pub record HasAcceptedRace (d : Data) (plan : Plan) : Type 0 where
  pub race : Race
  pub has : plan.race ≡ Some race
  pub accepted : IsAcceptedRace d plan.settings plan.ops race

pub accepted_race : (d : Data) (plan : Plan) → verdict_of true d ≡ Ok plan → HasAcceptedRace d plan
accepted_race d plan h =
    let t = tested_plan true d plan h in
    let v = valid true d plan h in
    let r = read_race d t.lists t.top t.listed t.opens in
    let format : Format = format_of d in
    let one : OpValues = record { ops = t.lists.ops; race = Some r.race } in
    let n : ℕ = length r.race.callers in
    let g : Settings = t.top.settings in
    let race : Race = planned_race format t.top.turns r.race in
    let p : Plan = planned format one t.top in
    let made : plan ≡ p = subst (λ (k : OpValues). plan ≡ planned format k t.top) r.with_race t.made in
    let raws : List (FoundOrFault Op) = all_raws format one in
    let range : first_range 1 (tested g [] raws) ≡ None =
    subst (λ (k : OpValues). first_range 1 (tested g [] (all_raws format k)) ≡ None) r.with_race t.range in
    let flat : List Op = ops_of (tested g [] raws) in
    let all : raws ≡ without_fault flat = whole g [] raws 1 range in
    let flat_is : flat ≡ p.ops ++ ops_in (lists_of race) = sym (ops_of-without flat) ∙ ap ops_of (sym all) ∙ all_flat format one t.top in
    let fit : list_all (is_op g) (p.ops ++ ops_in (lists_of race)) ≡ true =
    subst (λ (k : List Op). list_all (is_op g) k ≡ true) flat_is (all_fit g [] raws 1 range) in
    let first = faultless (raws_of format Everyone t.lists.ops) (race_raws format (Some r.race)) flat all in
    let second = faultless (raws_of format Keeper r.race.keeper) (caller_raws format r.race.callers) (ops_of (race_raws format (Some r.race))) first.1 in
    let few : n ≤ 16 = subst (λ (k : OpValues). list_count k.race ≤ 16) r.with_race t.few.few_lists in
    let opened : HasSettings true d (suc n) p.settings = for_callers true d 1 n g few (has_settings true d g r.settings) in
    let is : IsValidRace p.settings p.ops race = subst (λ (p : Plan). IfSome p.race (IsValidRace p.settings p.ops)) made v.race in
    subst (HasAcceptedRace d) (sym made)
    (record {
      race = race;
      has = refl;
      accepted = record {
        settings = subst (λ (k : ℕ). HasSettings true d (suc k) p.settings) (sym (length-map r.race.callers (λ list. ops_of (raws_of format Caller (items_in list))))) opened;
        list = record { values = t.lists.ops; list = r.list; reads = first.0 };
        value = r.is.value;
        has = r.is.has;
        named = r.is.named;
        turns = r.is.turns_are;
        keeper = record { values = r.race.keeper; list = r.is.keeper; reads = second.0 };
        values = r.race.callers;
        lists = r.is.callers;
        callers = callers_listed format r.race.callers (ops_of (caller_raws format r.race.callers)) r.is.are_arrays second.1;
        in_range = same_tests g (1 + n) (p.ops ++ ops_in (lists_of race)) ∙ fit;
        labels = is.is.labels;
        few = is.is.turns;
      };
    })

-- ---- what is accepted is a scenario

record AreCallersRead (format : Format) (values : List Data) (lists : List (List Op)) : Type 0 where
  raws : caller_raws format values ≡ without_fault (ops_in lists)
  ops : callers_ops format values ≡ lists
  many : length values ≡ length lists
  are_arrays : list_all is_array values ≡ true

callers_read : (format : Format) (values : List Data) (lists : List (List Op)) → AreCallersLists format values lists → AreCallersRead format values lists
callers_read format [] [] h = record { raws = refl; ops = refl; many = refl; are_arrays = refl }
callers_read format [] (ops ∷ lists) h = absurd h
callers_read format (value ∷ values) [] h = absurd h
callers_read format (value ∷ values) (ops ∷ lists) h =
    let rest = callers_read format values lists h.1 in
    let own : raws_of format Caller (items_in value) ≡ without_fault ops = ap (raws_of format Caller) (items_are value h.0.values h.0.list) ∙ h.0.reads in
    record {
      raws = ap (λ (xs : List (FoundOrFault Op)). xs ++ caller_raws format values) own ∙ ap (λ (ys : List (FoundOrFault Op)). without_fault ops ++ ys) rest.raws
          ∙ sym (map-append Ok ops (ops_in lists));
      ops = ap (λ (xs : List (FoundOrFault Op)). ops_of xs ∷ callers_ops format values) own
          ∙ ap (λ (xs : List Op). xs ∷ callers_ops format values) (ops_of-without ops) ∙ ap (λ (others : List (List Op)). ops ∷ others) rest.ops;
      many = ap suc rest.many;
      are_arrays = ap (λ (b : Bool). b && list_all is_array values) (of_array value h.0.values h.0.list) ∙ rest.are_arrays;
    }

arrays_are : (o : Option Data) (ds : List Data) → listed o ≡ Ok ds → list_all is_array ds ≡ true → arrays o ≡ Ok ds
unfolding arrays
arrays_are o ds h all =
    ap (λ (r : FoundOrFault (List Data)). r >>= (λ lists. if list_all is_array lists then Ok lists else Err Shape)) h
    ∙ ap (λ (b : Bool). if b then Ok ds else Err Shape) all

low : (most n : ℕ) → n ≤ most → ltb most n ≡ false
low most n h = grind (arith, nat_tests)

not_too_much : (ops lists turns : ℕ) → ops ≤ 100000 → lists ≤ 16 → turns ≤ 10000 → is_over ops lists turns ≡ false
not_too_much ops lists turns few_ops few_lists few_turns =
    or_none (ltb 100000 ops) _ (low 100000 ops few_ops) (or_none (ltb 16 lists) (ltb 10000 turns) (low 16 lists few_lists) (low 10000 turns few_turns))

read_lists : (value : Data) (race : RaceValues) → field (codes "keeper") listed value ≡ Ok race.keeper → field (codes "callers") arrays value ≡ Ok race.callers
    → lists_in value ≡ Ok race
read_lists value race keeper callers =
    ap (λ (r : FoundOrFault (List Data × List Data)). r >>= (λ p. Ok (record { keeper = p.0; callers = p.1 })))
    (both_are _ _ race.keeper race.callers keeper callers)

read_turns : (value : Data) (turns : ℕ) → only_named (is_among race_fields) value ≡ Ok tt → field (codes "turns") non_negative value ≡ Ok turns
    → race_turns (Some value) ≡ Ok turns
unfolding race_turns of_kind
read_turns value turns named are =
    ap (λ (r : FoundOrFault (Unit {0} × ℕ)). r >>= (λ p. Ok p.1)) (both_are _ _ tt turns named are)

some_race : (value : Data) (race : RaceValues) → lists_in value ≡ Ok race → race_lists (Some value) ≡ Ok race
unfolding race_lists of_kind
some_race value race h = h

found_race : (d : Data) (ops : List Data) (race : RaceValues) → field (codes "ops") listed d ≡ Ok ops → field (codes "race") race_lists d ≡ Ok race
    → lists_found true d ≡ Ok (record { ops = ops; race = Some race })
unfolding lists_found
found_race d ops race list lists =
    ap (λ (r : FoundOrFault (List Data × RaceValues)). r >>= (λ p. Ok (record { ops = p.0; race = Some p.1 }))) (both_are _ _ ops race list lists)

top_race : (d : Data) (g : Settings) (turns : ℕ) → settings_from true d ≡ Ok g → field (codes "race") race_turns d ≡ Ok turns
    → top_of true d ≡ Ok (record { settings = g; turns = turns })
unfolding top_of
top_race d g turns settings are =
    ap (λ (r : FoundOrFault (Settings × ℕ)). r >>= (λ p. Ok (record { settings = p.0; turns = p.1 }))) (both_are _ _ g turns settings are)

planned_is : (format : Format) (g : Settings) (ops : List Op) (race : Race) (list keeper values : List Data)
    → (1 + length values) ≡ g.callers → raws_of format Everyone list ≡ without_fault ops → raws_of format Keeper keeper ≡ without_fault race.keeper
    → callers_ops format values ≡ race.callers
    → planned format (record { ops = list; race = Some (record { keeper = keeper; callers = values }) }) (record { settings = with_callers 1 g; turns = race.turns }) ≡ plan_with g ops race
planned_is format g ops race list keeper values count first second third =
    let made : List Op → List (List Op) → Race = λ k c. record { turns = race.turns; keeper = k; callers = c } in
    let same_race : planned_race format race.turns (record { keeper = keeper; callers = values }) ≡ race =
    ap (λ (k : List Op). made k (callers_ops format values)) (ap ops_of second ∙ ops_of-without race.keeper) ∙ ap (made race.keeper) third in
    let raced : Race = planned_race format race.turns (record { keeper = keeper; callers = values }) in
    ap (λ (n : ℕ). plan_with (with_callers n g) (ops_of (raws_of format Everyone list)) raced) count
    ∙ ap (λ (k : List Op). plan_with g k raced) (ap ops_of first ∙ ops_of-without ops)
    ∙ ap (plan_with g ops) same_race

-- the plan of what is accepted
pub is_raced : (d : Data) (g : Settings) (ops : List Op) (race : Race) → IsAcceptedRace d g ops race → verdict_of true d ≡ Ok (plan_with g ops race)
unfolding verdict_of
is_raced d g ops race a =
    let format : Format = format_of d in
    let values : RaceValues = record { keeper = a.keeper.values; callers = a.values } in
    let lists : OpValues = record { ops = a.list.values; race = Some values } in
    let one : Settings = with_callers 1 g in
    let top : Top = record { settings = one; turns = race.turns } in
    let c = callers_read format a.values race.callers a.callers in
    let few_lists : length race.callers ≤ 16 = few_callers g (length race.callers) a.settings.in_range a.settings.for_callers in
    let opened : settings_from true d ≡ Ok one = settings_are true d one (for_callers true d (suc (length race.callers)) 0 g (omega arith) a.settings) in
    let turns : field (codes "race") race_turns d ≡ Ok race.turns = ap race_turns a.has ∙ read_turns a.value race.turns a.named a.turns in
    let arrays : field (codes "callers") arrays a.value ≡ Ok a.values = arrays_are (get (codes "callers") a.value) a.values a.lists c.are_arrays in
    let raced : field (codes "race") race_lists d ≡ Ok values = ap race_lists a.has ∙ some_race a.value values (read_lists a.value values a.keeper.list arrays) in
    let found : lists_found true d ≡ Ok lists = found_race d a.list.values values a.list.list raced in
    let opens : top_of true d ≡ Ok top = top_race d one race.turns opened turns in
    let all : List Op = ops ++ ops_in (lists_of race) in
    let behind : race_raws format (Some values) ≡ without_fault (ops_in (lists_of race)) =
    ap (λ (xs : List (FoundOrFault Op)). xs ++ caller_raws format a.values) a.keeper.reads
    ∙ ap (λ (ys : List (FoundOrFault Op)). without_fault race.keeper ++ ys) c.raws ∙ sym (map-append Ok race.keeper (ops_in race.callers)) in
    let raws : all_raws format lists ≡ without_fault all =
    ap (λ (xs : List (FoundOrFault Op)). xs ++ race_raws format (Some values)) a.list.reads
    ∙ ap (λ (ys : List (FoundOrFault Op)). without_fault ops ++ ys) behind ∙ sym (map-append Ok ops (ops_in (lists_of race))) in
    let founds : tested one [] (all_raws format lists) ≡ without_fault all =
    ap (tested one []) raws
    ∙ tested_same one [] all (same_tests g 1 all ∙ a.in_range) (record { apart = a.labels.apart; new = λ i d below. refl }) in
    let many : length (without_fault all) ≡ length all = length-map all Ok in
    let few : is_over (length (without_fault all)) (length a.values) race.turns ≡ false =
    not_too_much (length (without_fault all)) (length a.values) race.turns (omega (arith, many, a.labels.few)) (omega (arith, c.many, few_lists)) a.few in
    let verdict : judged format lists (Ok top) (without_fault all) ≡ Ok (planned format lists top) =
    judged_as format lists top (without_fault all) (no_shape all 1) (no_range all 1) (not_over (is_over (length (without_fault all)) (length a.values) race.turns) few) in
    ap (λ (r : FoundOrFault OpValues). judged_all format r (top_of true d)) found
    ∙ ap (λ (r : FoundOrFault Top). judged_all format (Ok lists) r) opens
    ∙ ap (λ (k : List (FoundOrFault Op)). judged format lists (Ok top) k) founds
    ∙ verdict
    ∙ ap Ok (planned_is format g ops race a.list.values a.keeper.values a.values (omega (arith, c.many, a.settings.for_callers)) a.list.reads a.keeper.reads c.ops)
