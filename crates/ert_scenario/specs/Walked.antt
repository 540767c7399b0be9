-- What is known of the walk over the ops of a value.

use Rattle.std.specs.Prelude.{◌≡◌, ◌+◌, ℕ, List, ◌∷◌, ◌++◌, map, length, Option, Some, None, Ok, Err}
use Rattle.ert_ops.specs.declared.op.Op.{Op}
use Rattle.ert_scenario.specs.{Kinds.FoundOrFault, Walks.first_shape, declared.scenario.ScenarioErr.ScenarioErr, declared.scenario.ScenarioErr.TheVariants.{Json, Shape, Range, Limit, NoMemory}, declared.walk.Walk.Walk}
use Rattle.ert_scenario.specs.declared.fault.Fault.TheVariants as faults

-- the ops, as they are found without a fault
abbrev pub without_fault : List Op → List (FoundOrFault Op)
without_fault ops = map Ok ops

-- all begins with these ops, and then has a range fault at this place
abbrev pub IsRangeFaultAfter : List Op → ℕ → List (FoundOrFault Op) → Type 0
IsRangeFaultAfter ops place all = (later : List (FoundOrFault Op)) × (all ≡ without_fault ops ++ Err faults.Range ∷ later) × (place ≡ 1 + length ops)

-- of all, the rest begins at place k; the ops before it are these, or those before a range fault
pub record IsWalkedTo (ops : List Op) (range : Option ℕ) (k : ℕ) (rest all : List (FoundOrFault Op)) : Type 0 where
  pub shape : first_shape 1 all ≡ first_shape k rest
  pub faulty : (place : ℕ) → range ≡ Some place → IsRangeFaultAfter ops place all
  pub faultless : range ≡ None → (all ≡ without_fault ops ++ rest) × (k ≡ 1 + length ops)

-- the same of a walk
abbrev pub WalkIsAt : Walk → List (FoundOrFault Op) → List (FoundOrFault Op) → Type 0
WalkIsAt walk rest all = IsWalkedTo walk.ops.items walk.range walk.place rest all

-- a walk is over: no place has a shape fault
pub record IsOver (ops : List Op) (range : Option ℕ) (all : List (FoundOrFault Op)) : Type 0 where
  pub shape : first_shape 1 all ≡ None
  pub faulty : (place : ℕ) → range ≡ Some place → IsRangeFaultAfter ops place all
  pub faultless : range ≡ None → all ≡ without_fault ops

-- the error is that of a shape fault at this place, or of memory
abbrev pub IsShapeAt : ScenarioErr → Option ℕ → Type 0
IsShapeAt Json found = ⊥
IsShapeAt (Shape place) found = found ≡ Some place
IsShapeAt (Range place) found = ⊥
IsShapeAt (Limit place) found = ⊥
IsShapeAt NoMemory found = Unit {0}
