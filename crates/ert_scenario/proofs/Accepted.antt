-- What a verdict that accepts says of what was found.

use Rattle.std.proofs.Common.{◌≡◌, ◌≤◌, ℕ, List, length, Bool, true, false, ◌||◌, Option, Some, None, Ok, Err, cond, ltb, sym, arith, refl}
use Rattle.std.proofs.lemmas.Bool.Decides.{nat_tests}
use Rattle.ert_scenario.specs.{Kinds.FoundOrFault, Lists.{OpValues, list_count}, Scenarios.{Plan, Verdict, refused, is_over, over, planned, judged, judged_all}, Walks.{all_raws, founds_of, first_shape, first_range}, declared.fields.Top.Top}
use Rattle.ert_scenario.specs.{declared.format.Format.Format, declared.scenario.ScenarioErr.ScenarioErr, declared.scenario.ScenarioErr.TheVariants.{Shape, Range, Limit}}
use Rattle.ert_scenario.specs.declared.fault.Fault.TheVariants as faults
use Rattle.ert_ops.specs.declared.op.Op.{Op}

-- not too much of anything
pub record AreFew (n lists turns : ℕ) : Type 0 where
  pub few_ops : n ≤ 100000
  pub few_lists : lists ≤ 16
  pub few_turns : turns ≤ 10000

-- the findings have no fault, and make this plan
pub record Accepts (format : Format) (lists : OpValues) (found : FoundOrFault Top) (founds : List (FoundOrFault Op)) (plan : Plan) : Type 0 where
  pub top : Top
  pub opens : found ≡ Ok top
  pub shape : first_shape 1 founds ≡ None
  pub range : first_range 1 founds ≡ None
  pub few : AreFew (length founds) (list_count lists.race) top.turns
  pub made : plan ≡ planned format lists top

pub passes : (why : ℕ → ScenarioErr) (found : Option ℕ) (otherwise : Verdict) (plan : Plan)
    → refused why found otherwise ≡ Ok plan → (found ≡ None) × (otherwise ≡ Ok plan)
passes why None otherwise plan h = (refl, h)
passes why (Some place) otherwise plan h = absurd (cc)

pub few_from : (ops lists turns : ℕ) → is_over ops lists turns ≡ false → AreFew ops lists turns
few_from ops lists turns h =
    let first = neither (ltb 100000 ops) _ h in
    let then = neither (ltb 16 lists) (ltb 10000 turns) first.1 in
    record { few_ops = at_most 100000 ops first.0; few_lists = at_most 16 lists then.0; few_turns = at_most 10000 turns then.1 }
  where
    neither : (a b : Bool) → (a || b) ≡ false → (a ≡ false) × (b ≡ false)
    neither true b h = absurd (cc)
    neither false b h = (refl, h)

    at_most : (most n : ℕ) → ltb most n ≡ false → n ≤ most
    at_most most n h = grind (arith, nat_tests)

not_over : (is : Bool) → cond {A = Option ℕ} is (Some 0) None ≡ None → is ≡ false
not_over true h = absurd (cc)
not_over false h = refl

pub few_of : (ops lists turns : ℕ) → cond {A = Option ℕ} (is_over ops lists turns) (Some 0) None ≡ None → AreFew ops lists turns
few_of ops lists turns h = few_from ops lists turns (not_over (is_over ops lists turns) h)

pub accepts : (format : Format) (lists : OpValues) (found : FoundOrFault Top) (founds : List (FoundOrFault Op)) (plan : Plan) → judged format lists found founds ≡ Ok plan
    → Accepts format lists found founds plan
accepts format lists (Err faults.Shape) founds plan h = absurd (cc)
accepts format lists (Err faults.Range) founds plan h =
    let later : Err (Range 0) ≡ Ok plan = (passes Shape (first_shape 1 founds) _ plan h).1 in
    absurd (cc)
accepts format lists (Ok top) founds plan h =
    let shape = passes Shape (first_shape 1 founds) _ plan h in
    let range = passes Range (first_range 1 founds) _ plan shape.1 in
    let limit = passes Limit (over top lists.race founds) _ plan range.1 in
    let same : planned format lists top ≡ plan = cc in
    record {
      top = top;
      opens = refl;
      shape = shape.0;
      range = range.0;
      few = few_of (length founds) (list_count lists.race) top.turns limit.0;
      made = sym same;
    }

-- the lists were arrays
pub record AcceptsAll (format : Format) (found_lists : FoundOrFault OpValues) (found : FoundOrFault Top) (plan : Plan) : Type 0 where
  pub lists : OpValues
  pub listed : found_lists ≡ Ok lists
  pub accepted : Accepts format lists found (founds_of found (all_raws format lists)) plan

pub accepts_all : (format : Format) (found_lists : FoundOrFault OpValues) (found : FoundOrFault Top) (plan : Plan) → judged_all format found_lists found ≡ Ok plan
    → AcceptsAll format found_lists found plan
accepts_all format (Ok lists) found plan h = record { lists = lists; listed = refl; accepted = accepts format lists found (founds_of found (all_raws format lists)) plan h }
accepts_all format (Err fault) found plan h = absurd (cc)
