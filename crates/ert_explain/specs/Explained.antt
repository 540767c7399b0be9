-- When an explanation is true of bytes.

use Rattle.std.specs.Prelude.{◌≡◌, ◌≢◌, ◌⊎◌, ◌+◌, ◌-◌, ◌==◌, ℕ, ℤ, pos, List, length, take, drop, min, Bool, Option, Some, None, option_and_then, if◌then◌else◌}
use Rattle.std.specs.Ordering.{int_eq}
use Rattle.serde_json.specs.Data.{Data}
use Rattle.ert_scenario.specs.{Scenarios.IsValue, declared.scenario.ScenarioErr.ScenarioErr}
use Rattle.ert_scenario.specs.declared.scenario.ScenarioErr.TheVariants as refusals
use Rattle.ert_explain.specs.{Excesses.excess_of, FieldRanges.{fields_range, field_number, counts_given}, FieldShapes.fields_shape, Labels.{IsSameLabel, IsNewLabel}, OpRanges.op_range, OpShapes.op_shape, OwnTexts.IsOwnText, Places.OpSeen}
use Rattle.ert_explain.specs.{Places.op_at, Positions.IsPosition, declared.cause.Cause.Cause, declared.cause.Cause.TheVariants.{Json, Fields, FieldRange, Op, Argument, Label, Excess, Other}, declared.expected.Expected.Expected}
use Rattle.ert_explain.specs.{declared.explanation.Explanation.Explanation, declared.field.Field.TheVariants.Format, declared.field_range.FieldRange.FieldRange as RangeOfField, declared.field_shape.FieldShape.FieldShape}
use Rattle.ert_explain.specs.{declared.op_range.OutOfRange.OutOfRange}

-- whether the format is 1
abbrev pub is_one : Data → Bool
is_one d = int_eq (field_number Format (pos 0) d) (pos 1)

-- the cause that is a fault of the fields' shape, where there is one
abbrev pub of_shape : Option FieldShape → Cause
of_shape None = Other
of_shape (Some shape) = Fields shape

-- the cause that is a field out of its range, where there is one
abbrev pub of_range : Option RangeOfField → Cause
of_range None = Other
of_range (Some range) = FieldRange range

-- the cause that is the shape of an op, where there is one
abbrev pub of_op : Bool → Option OpSeen → Cause
of_op one None = Other
of_op one (Some p) = Op (op_shape one p.list p.op)

-- what is wrong with the shape of the op of this number, from 0
abbrev pub shape_cause : Bool → Data → ℕ → Cause
shape_cause race d number = of_op (is_one d) (op_at race d number)

-- the first argument of the op of this number that is out of its range
abbrev pub argument_out : Bool → Data → ℕ → Option OutOfRange
argument_out race d number = option_and_then (λ p. op_range (is_one d) (counts_given d) p.op) (op_at race d number)

-- the cause is an earlier start with the label of the op of this number; another cause only where there is none
abbrev pub IsLabelCause : Bool → Data → ℕ → Cause → Type 0
IsLabelCause race d number (Label place) = IsSameLabel race d place number
IsLabelCause race d number Other = IsNewLabel race d number
IsLabelCause race d number _ = ⊥

-- the cause is the first argument that is out of its range, where there is one, and else the label
abbrev pub IsArgumentCause : Option OutOfRange → Bool → Data → ℕ → Cause → Type 0
IsArgumentCause None race d number cause = IsLabelCause race d number cause
IsArgumentCause (Some out) race d number cause = cause ≡ Argument out

-- the same of the op of this number
abbrev pub IsRangeCause : Bool → Data → ℕ → Cause → Type 0
IsRangeCause race d number cause = IsArgumentCause (argument_out race d number) race d number cause

-- a value that has a shape fault at this place, and no lesser one, has this cause for it
pub record IsShapeCause (race : Bool) (d : Data) (place : ℕ) (cause : Cause) : Type 0 where
  pub field : place ≡ 0 → cause ≡ of_shape (fields_shape race d)
  pub op : place ≢ 0 → cause ≡ shape_cause race d (place - 1)

-- the same of a range fault
pub record IsRangeCauseAt (race : Bool) (d : Data) (place : ℕ) (cause : Cause) : Type 0 where
  pub field : place ≡ 0 → cause ≡ of_range (fields_range race d)
  pub op : place ≢ 0 → IsRangeCause race d (place - 1) cause

-- the cause is that of the refusal of a value
abbrev pub IsCauseIn : Bool → Data → ScenarioErr → Cause → Type 0
IsCauseIn race d refusals.Json cause = ⊥
IsCauseIn race d (refusals.Shape place) cause = IsShapeCause race d place cause
IsCauseIn race d (refusals.Range place) cause = IsRangeCauseAt race d place cause
IsCauseIn race d (refusals.Limit place) cause = cause ≡ Excess (excess_of race d)
IsCauseIn race d refusals.NoMemory cause = cause ≡ Other

-- the cause is that of bytes which are no JSON
abbrev pub IsJsonCause : Cause → Type 0
IsJsonCause (Json expected) = Unit {0}
IsJsonCause _ = ⊥

-- the cause is that of the refusal of bytes
abbrev pub IsCause : Bool → List ℕ → ScenarioErr → Cause → Type 0
IsCause race bytes refusals.Json cause = IsJsonCause cause
IsCause race bytes refusal cause = (d : Data) × IsValue bytes d × IsCauseIn race d refusal cause

-- so many bytes from an offset on; fewer where the bytes end before
abbrev pub part_at : List ℕ → ℕ → ℕ → List ℕ
part_at bytes offset n =
    let rest = drop (min offset (length bytes)) bytes in
    take (min n (length rest)) rest

-- the bytes that an explanation shows
abbrev pub shown_bytes : List ℕ → Explanation → List ℕ
shown_bytes bytes e = part_at bytes e.position.offset e.length

-- what an explanation shows is the own text of what the cause is about, or nothing
abbrev pub IsShownOf : Bool → Data → ScenarioErr → Cause → ℕ → List ℕ → Type 0
IsShownOf race d refusal cause n part = (n ≡ 0) ⊎ IsOwnText race d refusal cause part

-- the same of bytes that have the refusal; of bytes that are no JSON nothing is shown
abbrev pub IsShown : Bool → List ℕ → ScenarioErr → Cause → ℕ → List ℕ → Type 0
IsShown race bytes refusals.Json cause n part = n ≡ 0
IsShown race bytes refusal cause n part = (d : Data) × IsValue bytes d × IsShownOf race d refusal cause n part

-- an explanation names the refusal, a true cause of it, and a position in the bytes, and shows what the cause is about
pub record IsExplained (race : Bool) (bytes : List ℕ) (refusal : ScenarioErr) (e : Explanation) : Type 0 where
  pub same : e.refusal ≡ refusal
  pub cause : IsCause race bytes refusal e.cause
  pub position : IsPosition bytes e.position
  pub shown : IsShown race bytes refusal e.cause e.length (shown_bytes bytes e)

-- the same, of bytes that are this value
pub record IsExplainedBy (race : Bool) (d : Data) (bytes : List ℕ) (refusal : ScenarioErr) (e : Explanation) : Type 0 where
  pub same : e.refusal ≡ refusal
  pub cause : IsCauseIn race d refusal e.cause
  pub position : IsPosition bytes e.position
  pub shown : IsShownOf race d refusal e.cause e.length (shown_bytes bytes e)
