-- The verdict on what the walk found.

use Rattle.std.proofs.Common.{◌≡◌, ◌≢◌, ℕ, List, [], length, true, false, Option, Some, None, Ok, Err, cond, sym, ap, ◌∙◌, refl}
use Rattle.std.proofs.lemmas.List.{length-map}
use Rattle.ert_ops.specs.declared.op.Op.{Op}
use Rattle.ert_scenario.specs.{Kinds.FoundOrFault, Labels.tested, Lists.{OpValues, list_count}, Scenarios.{Plan, is_over, over, planned, judged}, Walks.{first_shape, first_range}, Walked.{IsOver, IsShapeAt}, declared.fields.Top.Top}
use Rattle.ert_scenario.specs.{declared.format.Format.Format, declared.scenario.ScenarioErr.ScenarioErr, declared.scenario.ScenarioErr.TheVariants.{Json, Shape, Range, Limit, NoMemory}}
use Rattle.ert_scenario.proofs.Tested.{first_shape-tested, length-tested, whole_walk}

-- what ends the walk is the verdict
pub ends_walk : (format : Format) (lists : OpValues) (top : Top) (raws : List (FoundOrFault Op)) (e : ScenarioErr) → IsShapeAt e (first_shape 1 raws) → e ≢ NoMemory
    → judged format lists (Ok top) (tested top.settings [] raws) ≡ Err e
ends_walk format lists top raws Json h other = absurd h
ends_walk format lists top raws (Shape place) h other =
    let same : first_shape 1 (tested top.settings [] raws) ≡ Some place = first_shape-tested top.settings [] raws 1 ∙ h in
    rw same refl
ends_walk format lists top raws (Range place) h other = absurd h
ends_walk format lists top raws (Limit place) h other = absurd h
ends_walk format lists top raws NoMemory h other = absurd (other refl)

-- a range fault of an op
pub judged_range : (format : Format) (lists : OpValues) (top : Top) (raws : List (FoundOrFault Op)) (place : ℕ) → first_shape 1 raws ≡ None
    → Some place ≡ first_range 1 (tested top.settings [] raws) → judged format lists (Ok top) (tested top.settings [] raws) ≡ Err (Range place)
judged_range format lists top raws place shape range =
    let same : first_shape 1 (tested top.settings [] raws) ≡ None = first_shape-tested top.settings [] raws 1 ∙ shape in
    let found : first_range 1 (tested top.settings [] raws) ≡ Some place = sym range in
    rw (same, found) refl

-- as many ops as the walk kept, where there is no range fault
length_kept : (top : Top) (ops : List Op) (range : Option ℕ) (raws : List (FoundOrFault Op)) → IsOver ops range raws → first_range 1 (tested top.settings [] raws) ≡ None
    → length (tested top.settings [] raws) ≡ length ops
length_kept top ops range raws walk none =
    length-tested top.settings [] raws ∙ ap length (whole_walk top.settings ops range raws walk none) ∙ length-map ops Ok

over_at : (top : Top) (lists : OpValues) (ops : List Op) (founds : List (FoundOrFault Op)) → length founds ≡ length ops
    → over top lists.race founds ≡ cond (is_over (length ops) (list_count lists.race) top.turns) (Some 0) None
over_at top lists ops founds n = ap (λ k. cond (is_over k (list_count lists.race) top.turns) (Some 0) None) n

-- too much of something
pub judged_limit : (format : Format) (lists : OpValues) (top : Top) (ops : List Op) (range : Option ℕ) (raws : List (FoundOrFault Op)) → IsOver ops range raws
    → first_range 1 (tested top.settings [] raws) ≡ None → is_over (length ops) (list_count lists.race) top.turns ≡ true
    → judged format lists (Ok top) (tested top.settings [] raws) ≡ Err (Limit 0)
judged_limit format lists top ops range raws walk none many =
    let same : first_shape 1 (tested top.settings [] raws) ≡ None = first_shape-tested top.settings [] raws 1 ∙ walk.shape in
    let limit : over top lists.race (tested top.settings [] raws) ≡ Some 0 =
    over_at top lists ops (tested top.settings [] raws) (length_kept top ops range raws walk none) ∙ ap (λ b. cond b (Some 0) None) many in
    rw (same, none, limit) refl

-- a scenario
pub judged_ok : (format : Format) (lists : OpValues) (top : Top) (ops : List Op) (range : Option ℕ) (raws : List (FoundOrFault Op)) (plan : Plan) → IsOver ops range raws
    → first_range 1 (tested top.settings [] raws) ≡ None → is_over (length ops) (list_count lists.race) top.turns ≡ false → plan ≡ planned format lists top
    → judged format lists (Ok top) (tested top.settings [] raws) ≡ Ok plan
judged_ok format lists top ops range raws plan walk none few made =
    let same : first_shape 1 (tested top.settings [] raws) ≡ None = first_shape-tested top.settings [] raws 1 ∙ walk.shape in
    let limit : over top lists.race (tested top.settings [] raws) ≡ None =
    over_at top lists ops (tested top.settings [] raws) (length_kept top ops range raws walk none) ∙ ap (λ b. cond b (Some 0) None) few in
    rw (same, none, limit) (ap Ok (sym made))
