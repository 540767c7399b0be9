-- The places of a verdict are the least ones.

use Rattle.std.proofs.Common.{◌≡◌, ◌+◌, ◌<◌, ◌≤◌, ◌⊎◌, inl, inr, ℕ, zero, suc, List, length, Bool, true, false, ◌||◌, Option, Some, None, Ok, Err, cond, ltb, sym, subst, ap, ◌∙◌, arith, refl}
use Rattle.std.proofs.lemmas.Bool.Decides.{nat_tests}
use Rattle.serde_json.specs.Data.{Data}
use Rattle.ert_scenario.specs.{Fields.{top_of, format_of}, Lists.{OpValues, lists_in, race_lists, lists_found, list_count}, Places.{fault_in, founds_in, op_founds, fault_by, HasShapeFault, caller_list_count, turns_in, IsLeast, IsNowhere}}
use Rattle.ert_scenario.specs.{Scenarios.{Plan, Verdict, IsValue, IsValueWith, IsScenario, HasRefusal, refused, is_over, over, planned, judged, judged_all, verdict_of}, Walks.{first_shape, first_range, all_raws, founds_of}}
use Rattle.ert_scenario.specs.{declared.fault.Fault.Fault, declared.fields.Top.Top, declared.format.Format.Format, declared.scenario.ScenarioErr.ScenarioErr, declared.scenario.ScenarioErr.TheVariants.{Shape, Range, Limit}}
use Rattle.ert_scenario.specs.Kinds.{FoundOrFault, ◌>>=◌, read_both, of_kind, listed, arrays}
use Rattle.ert_scenario.specs.declared.fault.Fault.TheVariants as faults
use Rattle.ert_ops.specs.declared.op.Op.{Op}
use Rattle.ert_scenario.proofs.{Accepted.{AreFew, accepts}, Founds.both_err, LeastFrom.{LeastFrom, Lacks, shape_from, lacks_shape, range_from, lacks_range}}

-- ---- the places of a value

abbrev pub Has : FoundOrFault Top → FoundOrFault (List (FoundOrFault Op)) → Fault → ℕ → Type 0
Has settings items fault place = fault_by settings items place ≡ Some fault

from_ops : (settings : FoundOrFault Top) (values : List (FoundOrFault Op)) (fault : Fault) (place : ℕ) → (Has settings (Ok values) fault 0 → ⊥)
    → LeastFrom 1 place fault values → IsLeast (Has settings (Ok values) fault) place
from_ops settings values fault place not h =
    let at : suc h.index ≡ place = let e : place ≡ 1 + h.index = h.at in omega arith in
    subst (IsLeast (Has settings (Ok values) fault)) at (record {
      here = h.here;
      least = below settings values fault h.index not h.least;
    })
  where
    below : (settings : FoundOrFault Top) (values : List (FoundOrFault Op)) (fault : Fault) (index : ℕ) → (Has settings (Ok values) fault 0 → ⊥)
        → ((i : ℕ) → i < index → fault_in values i ≡ Some fault → ⊥)
        → (lesser : ℕ) → lesser < suc index → Has settings (Ok values) fault lesser → ⊥
    below settings values fault index not others zero low h = not h
    below settings values fault index not others (suc i) low h = others i (omega arith) h

nowhere : (settings : FoundOrFault Top) (values : List (FoundOrFault Op)) (fault : Fault) → (Has settings (Ok values) fault 0 → ⊥)
    → Lacks fault values → IsNowhere (Has settings (Ok values) fault)
nowhere settings values fault not lacks zero h = not h
nowhere settings values fault not lacks (suc i) h = lacks i h

at_zero : (settings : FoundOrFault Top) (items : FoundOrFault (List (FoundOrFault Op))) (fault : Fault) (place : ℕ) → Has settings items fault 0 → 0 ≡ place
    → IsLeast (Has settings items fault) place
at_zero settings items fault place h e =
    subst (IsLeast (Has settings items fault)) e (record { here = h; least = λ lesser low h. absurd (omega arith) })

-- ---- the verdicts

-- not refused for this reason
not_for : (why : ℕ → ScenarioErr) (found : Option ℕ) (otherwise verdict : Verdict) → ((place : ℕ) → Err (why place) ≡ verdict → ⊥)
    → refused why found otherwise ≡ verdict → (found ≡ None) × (otherwise ≡ verdict)
not_for why None otherwise verdict not h = (refl, h)
not_for why (Some place) otherwise verdict not h = absurd (not place h)

abbrev refusal : ScenarioErr → Verdict
refusal e = Err e

abbrev accepted : Format → OpValues → Top → Verdict
accepted format lists s = Ok (planned format lists s)

-- refused for this reason, at this place
found_at : (why : ℕ → ScenarioErr) (found : Option ℕ) (otherwise : Verdict) (place : ℕ)
    → ((other : ℕ) → refusal (why other) ≡ refusal (why place) → other ≡ place) → (otherwise ≡ Err (why place) → ⊥)
    → refused why found otherwise ≡ Err (why place) → found ≡ Some place
found_at why None otherwise place same not h = absurd (not h)
found_at why (Some other) otherwise place same not h = ap Some (same other h)

-- where settings are accepted, the ops alone can have faults
clean_at_zero : (s : Top) (values : List (FoundOrFault Op)) (fault : Fault) → Has (Ok s) (Ok values) fault 0 → ⊥
unfolding read_both
clean_at_zero s values fault h = cc

ranged_at_zero : (values : List (FoundOrFault Op)) → Has (Err faults.Range) (Ok values) faults.Shape 0 → ⊥
unfolding read_both
ranged_at_zero values h = cc

range_at_zero : (values : List (FoundOrFault Op)) → Has (Err faults.Range) (Ok values) faults.Range 0
unfolding read_both
range_at_zero values = refl

shape_at_zero : (items : FoundOrFault (List (FoundOrFault Op))) → Has (Err faults.Shape) items faults.Shape 0
unfolding read_both
shape_at_zero items = refl

items_at_zero : (settings : FoundOrFault Top) → Has settings (Err faults.Shape) faults.Shape 0
unfolding read_both
items_at_zero (Ok s) = refl
items_at_zero (Err faults.Shape) = refl
items_at_zero (Err faults.Range) = refl

shape_places : (format : Format) (lists : OpValues) (settings : FoundOrFault Top) (values : List (FoundOrFault Op)) (place : ℕ)
    → judged format lists settings values ≡ Err (Shape place) → IsLeast (Has settings (Ok values) faults.Shape) place
shape_places format lists (Err faults.Shape) values place h = at_zero _ _ _ place (shape_at_zero (Ok values)) (cc)
shape_places format lists (Err faults.Range) values place h =
    from_ops _ values faults.Shape place (ranged_at_zero values) (shape_from 1 place values
    (found_at Shape (first_shape 1 values) _ place (λ other e. cc) (λ e. cc) h))
shape_places format lists (Ok s) values place h =
    from_ops _ values faults.Shape place (clean_at_zero s values faults.Shape) (shape_from 1 place values
    (found_at Shape (first_shape 1 values) _ place (λ other e. cc) (not_shape format lists s values place) h))
  where
    not_shape : (format : Format) (lists : OpValues) (s : Top) (values : List (FoundOrFault Op)) (place : ℕ)
        → refused Range (first_range 1 values) (refused Limit (over s lists.race values) (accepted format lists s)) ≡ Err (Shape place) → ⊥
    not_shape format lists s values place e =
        let range = not_for Range (first_range 1 values) _ _ (λ other e. cc) e in
        let limit = not_for Limit (over s lists.race values) _ _ (λ other e. cc) range.1 in
        let last : accepted format lists s ≡ refusal (Shape place) = limit.1 in
        cc

-- no place has a shape fault, and this is the least with a range fault
pub record RangeAt (settings : FoundOrFault Top) (items : FoundOrFault (List (FoundOrFault Op))) (place : ℕ) : Type 0 where
  pub shape : IsNowhere (Has settings items faults.Shape)
  pub range : IsLeast (Has settings items faults.Range) place

range_places : (format : Format) (lists : OpValues) (settings : FoundOrFault Top) (values : List (FoundOrFault Op)) (place : ℕ)
    → judged format lists settings values ≡ Err (Range place) → RangeAt settings (Ok values) place
range_places format lists (Err faults.Shape) values place h = absurd (cc)
range_places format lists (Err faults.Range) values place h =
    let shape = not_for Shape (first_shape 1 values) _ _ (λ other e. cc) h in
    let last : refusal (Range 0) ≡ refusal (Range place) = shape.1 in
    record {
      shape = nowhere _ values faults.Shape (ranged_at_zero values) (lacks_shape 1 values shape.0);
      range = at_zero _ _ _ place (range_at_zero values) (cc);
    }
range_places format lists (Ok s) values place h =
    let shape = not_for Shape (first_shape 1 values) _ _ (λ other e. cc) h in
    let lacks = lacks_shape 1 values shape.0 in
    let found = found_at Range (first_range 1 values) _ place (λ other e. cc) (not_range format lists s values place) shape.1 in
    record {
      shape = nowhere _ values faults.Shape (clean_at_zero s values faults.Shape) lacks;
      range = from_ops _ values faults.Range place (clean_at_zero s values faults.Range) (range_from 1 place values lacks found);
    }
  where
    not_range : (format : Format) (lists : OpValues) (s : Top) (values : List (FoundOrFault Op)) (place : ℕ)
        → refused Limit (over s lists.race values) (accepted format lists s) ≡ Err (Range place) → ⊥
    not_range format lists s values place e =
        let limit = not_for Limit (over s lists.race values) _ _ (λ other e. cc) e in
        let last : accepted format lists s ≡ refusal (Range place) = limit.1 in
        cc

-- no place has a fault
pub record IsFaultless (settings : FoundOrFault Top) (items : FoundOrFault (List (FoundOrFault Op))) : Type 0 where
  pub shape : IsNowhere (Has settings items faults.Shape)
  pub range : IsNowhere (Has settings items faults.Range)

faultless : (s : Top) (values : List (FoundOrFault Op)) → first_shape 1 values ≡ None → first_range 1 values ≡ None → IsFaultless (Ok s) (Ok values)
faultless s values shape range = record {
  shape = nowhere _ values faults.Shape (clean_at_zero s values faults.Shape) (lacks_shape 1 values shape);
  range = nowhere _ values faults.Range (clean_at_zero s values faults.Range) (lacks_range 1 values range);
}

-- more ops, lists or turns than there may be
abbrev pub Exceeds : ℕ → ℕ → ℕ → Type 0
Exceeds ops lists turns = (100000 < ops) ⊎ ((16 < lists) ⊎ (10000 < turns))

-- the same of a value without a fault
pub record TooMany (settings : FoundOrFault Top) (items : FoundOrFault (List (FoundOrFault Op))) (lists place : ℕ) : Type 0 where
  pub at : place ≡ 0
  pub faultless : IsFaultless settings items
  pub many : Exceeds (length (founds_in items)) lists (turns_in settings)

over_at : (ops lists turns place : ℕ) → cond {A = Option ℕ} (is_over ops lists turns) (Some 0) None ≡ Some place → (place ≡ 0) × Exceeds ops lists turns
over_at ops lists turns place h =
    let first = chosen (is_over ops lists turns) place h in
    (first.0, exceeds ops lists turns (either (ltb 100000 ops) _ first.1))
  where
    chosen : (is : Bool) (place : ℕ) → cond {A = Option ℕ} is (Some 0) None ≡ Some place → (place ≡ 0) × (is ≡ true)
    chosen true place h = (cc, refl)
    chosen false place h = absurd (cc)

    either : (a b : Bool) → (a || b) ≡ true → (a ≡ true) ⊎ (b ≡ true)
    either true b h = inl refl
    either false b h = inr h

    above : (most n : ℕ) → ltb most n ≡ true → most < n
    above most n h = grind (arith, nat_tests)

    exceeds_later : (lists turns : ℕ) → (ltb 16 lists ≡ true) ⊎ (ltb 10000 turns ≡ true) → (16 < lists) ⊎ (10000 < turns)
    exceeds_later lists turns (inl h) = inl (above 16 lists h)
    exceeds_later lists turns (inr h) = inr (above 10000 turns h)

    exceeds : (ops lists turns : ℕ) → (ltb 100000 ops ≡ true) ⊎ ((ltb 16 lists || ltb 10000 turns) ≡ true) → Exceeds ops lists turns
    exceeds ops lists turns (inl h) = inl (above 100000 ops h)
    exceeds ops lists turns (inr h) = inr (exceeds_later lists turns (either (ltb 16 lists) (ltb 10000 turns) h))

limit_places : (format : Format) (lists : OpValues) (settings : FoundOrFault Top) (values : List (FoundOrFault Op)) (place : ℕ)
    → judged format lists settings values ≡ Err (Limit place) → TooMany settings (Ok values) (list_count lists.race) place
limit_places format lists (Err faults.Shape) values place h = absurd (cc)
limit_places format lists (Err faults.Range) values place h =
    let shape = not_for Shape (first_shape 1 values) _ _ (λ other e. cc) h in
    let last : refusal (Range 0) ≡ refusal (Limit place) = shape.1 in
    absurd (cc)
limit_places format lists (Ok s) values place h =
    let shape = not_for Shape (first_shape 1 values) _ _ (λ other e. cc) h in
    let range = not_for Range (first_range 1 values) _ _ (λ other e. cc) shape.1 in
    let found = found_at Limit (over s lists.race values) (accepted format lists s) place (λ other e. cc) (λ e. cc) range.1 in
    let many = over_at (length values) (list_count lists.race) s.turns place found in
    record { at = many.0; faultless = faultless s values shape.0 range.0; many = many.1 }

-- not too much of anything
few_exceed : (ops lists turns : ℕ) → AreFew ops lists turns → Exceeds ops lists turns → ⊥
few_exceed ops lists turns few (inl h) = let most : ops ≤ 100000 = few.few_ops in omega arith
few_exceed ops lists turns few (inr (inl h)) = let most : lists ≤ 16 = few.few_lists in omega arith
few_exceed ops lists turns few (inr (inr h)) = let most : turns ≤ 10000 = few.few_turns in omega arith

-- no place has a fault, and there is not too much of anything
pub record IsClean (settings : FoundOrFault Top) (items : FoundOrFault (List (FoundOrFault Op))) (lists : ℕ) : Type 0 where
  pub faultless : IsFaultless settings items
  pub few : Exceeds (length (founds_in items)) lists (turns_in settings) → ⊥

accepted_places : (format : Format) (lists : OpValues) (settings : FoundOrFault Top) (values : List (FoundOrFault Op)) (plan : Plan)
    → judged format lists settings values ≡ Ok plan → IsClean settings (Ok values) (list_count lists.race)
accepted_places format lists settings values plan h =
    let a = accepts format lists settings values plan h in
    subst (λ (found : FoundOrFault Top). IsClean found (Ok values) (list_count lists.race)) (sym a.opens) (record {
      faultless = faultless a.top values a.shape a.range;
      few = few_exceed (length values) (list_count lists.race) a.top.turns a.few;
    })

-- ---- the lists

-- what the ops of lists are, with what stands at place 0
abbrev items_by : Format → FoundOrFault OpValues → FoundOrFault Top → FoundOrFault (List (FoundOrFault Op))
items_by format found top = found >>= (λ lists. Ok (founds_of top (all_raws format lists)))

shape_all : (format : Format) (found : FoundOrFault OpValues) (top : FoundOrFault Top) (place : ℕ) → (found ≡ Err faults.Range → ⊥)
    → judged_all format found top ≡ Err (Shape place) → IsLeast (Has top (items_by format found top) faults.Shape) place
shape_all format (Ok lists) top place not h = shape_places format lists top (founds_of top (all_raws format lists)) place h
shape_all format (Err faults.Shape) top place not h = at_zero top _ _ place (items_at_zero top) (cc)
shape_all format (Err faults.Range) top place not h = absurd (not refl)

range_all : (format : Format) (found : FoundOrFault OpValues) (top : FoundOrFault Top) (place : ℕ) → judged_all format found top ≡ Err (Range place)
    → RangeAt top (items_by format found top) place
range_all format (Ok lists) top place h = range_places format lists top (founds_of top (all_raws format lists)) place h
range_all format (Err fault) top place h = absurd (cc)

limit_all : (format : Format) (found : FoundOrFault OpValues) (top : FoundOrFault Top) (place : ℕ) → judged_all format found top ≡ Err (Limit place)
    → TooMany top (items_by format found top) (caller_list_count found) place
limit_all format (Ok lists) top place h = limit_places format lists top (founds_of top (all_raws format lists)) place h
limit_all format (Err fault) top place h = absurd (cc)

accepted_all : (format : Format) (found : FoundOrFault OpValues) (top : FoundOrFault Top) (plan : Plan) → judged_all format found top ≡ Ok plan
    → IsClean top (items_by format found top) (caller_list_count found)
accepted_all format (Ok lists) top plan h = accepted_places format lists top (founds_of top (all_raws format lists)) plan h
accepted_all format (Err fault) top plan h = absurd (cc)

kind_not_range : {X : Type 0} (found : Option X) → of_kind found ≡ Err faults.Range → ⊥
unfolding of_kind
kind_not_range None h = cc
kind_not_range (Some x) h = cc

next_not_range : {A B : Type 0} (found : FoundOrFault A) (next : A → FoundOrFault B) → (found ≡ Err faults.Range → ⊥) → ((a : A) → next a ≡ Err faults.Range → ⊥)
    → (found >>= next) ≡ Err faults.Range → ⊥
next_not_range (Ok a) next not later h = later a h
next_not_range (Err faults.Shape) next not later h = cc
next_not_range (Err faults.Range) next not later h = not refl

listed_not_range : (value : Option Data) → listed value ≡ Err faults.Range → ⊥
unfolding listed
listed_not_range value h = kind_not_range _ h

if_not_range : {X : Type 0} (is : Bool) (x : X) → cond is (Ok x) (Err faults.Shape) ≡ Err faults.Range → ⊥
if_not_range true x h = cc
if_not_range false x h = cc

arrays_not_range : (value : Option Data) → arrays value ≡ Err faults.Range → ⊥
unfolding arrays
arrays_not_range value h = next_not_range (listed value) _ (listed_not_range value) (λ lists. if_not_range _ lists) h

race_not_range : (value : Option Data) → race_lists value ≡ Err faults.Range → ⊥
unfolding race_lists
race_not_range value h =
    next_not_range (of_kind value) lists_in (kind_not_range value)
    (λ race. next_not_range (read_both _ _) _ (both_err _ _ (listed_not_range _) (arrays_not_range _)) (λ p e. cc)) h

lists_not_range : (race : Bool) (d : Data) → lists_found race d ≡ Err faults.Range → ⊥
unfolding lists_found
lists_not_range false d h = next_not_range (listed _) _ (listed_not_range _) (λ ops e. cc) h
lists_not_range true d h = next_not_range (read_both _ _) _ (both_err _ _ (listed_not_range _) (race_not_range _)) (λ p e. cc) h

-- ---- the bytes

same_value : (bytes : List ℕ) (d other : Data) → IsValue bytes d → IsValue bytes other → d ≡ other
same_value bytes d other v w = let e : Some d ≡ Some other = sym v.reads ∙ w.reads in cc

pub verdict_at : (race : Bool) (bytes : List ℕ) (d : Data) (verdict : Verdict) → IsValue bytes d → IsValueWith race bytes verdict → verdict_of race d ≡ verdict
verdict_at race bytes d verdict v judges = ap (verdict_of race) (same_value bytes d judges.0 v judges.1) ∙ judges.2

pub least_shape : (race : Bool) (bytes : List ℕ) (d : Data) (place : ℕ) → IsValue bytes d → HasRefusal race bytes (Shape place) → IsLeast (HasShapeFault race d) place
unfolding verdict_of
least_shape race bytes d place v h = shape_all (format_of d) (lists_found race d) (top_of race d) place (lists_not_range race d) (verdict_at race bytes d _ v h)

pub least_range : (race : Bool) (bytes : List ℕ) (d : Data) (place : ℕ) → IsValue bytes d → HasRefusal race bytes (Range place)
    → RangeAt (top_of race d) (op_founds race d) place
unfolding verdict_of
least_range race bytes d place v h = range_all (format_of d) (lists_found race d) (top_of race d) place (verdict_at race bytes d _ v h)

pub no_place_limit : (race : Bool) (bytes : List ℕ) (d : Data) (place : ℕ) → IsValue bytes d → HasRefusal race bytes (Limit place)
    → TooMany (top_of race d) (op_founds race d) (caller_list_count (lists_found race d)) place
unfolding verdict_of
no_place_limit race bytes d place v h = limit_all (format_of d) (lists_found race d) (top_of race d) place (verdict_at race bytes d _ v h)

pub no_place_scenario : (race : Bool) (bytes : List ℕ) (d : Data) (plan : Plan) → IsValue bytes d → IsScenario race bytes plan
    → IsClean (top_of race d) (op_founds race d) (caller_list_count (lists_found race d))
unfolding verdict_of
no_place_scenario race bytes d plan v h = accepted_all (format_of d) (lists_found race d) (top_of race d) plan (verdict_at race bytes d _ v h)
