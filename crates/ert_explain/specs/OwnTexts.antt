-- Which bytes are the text of what a refusal is about.

use Rattle.std.specs.Prelude.{◌≡◌, ◌⊎◌, ◌-◌, ℕ, List, [], ◌∷◌, codes, length, slice_index, nat_lt, Bool, true, false, ◌&&◌, Option, Some, None, is_some, option_and_then}
use Rattle.std.specs.Float.Ieee.{eq}
use Rattle.serde_json.specs.{Data.{Num, Data, null, boolean, number, string, array, object}, Find.{get, as_integer, to_float}}
use Rattle.ert_scenario.specs.{Fields.{is_field, is_among, race_fields}, Scenarios.IsValue, declared.scenario.ScenarioErr.ScenarioErr}
use Rattle.ert_explain.specs.{Refused.refused_value, declared.cause.Cause.Cause, declared.cause.Cause.TheVariants.Fields, declared.field_shape.FieldShape.TheVariants.{OtherField, OtherRaceField}}

-- whether there are bytes, of which neither the first nor the last is a blank
abbrev pub is_trimmed : List ℕ → Bool
is_trimmed part = nat_lt 0 (length part) && (nat_lt 32 (slice_index part 0) && nat_lt 32 (slice_index part (length part - 1)))

-- two numbers are the same: both are integers, or neither is
pub record IsSameNumber (m n : Num) : Type 0 where
  pub integer : as_integer m ≡ as_integer n
  pub value : eq (to_float m) (to_float n) ≡ true

-- two values that are neither arrays nor objects are the same
abbrev pub IsSameScalar : Data → Data → Type 0
IsSameScalar null null = Unit {0}
IsSameScalar (boolean b) (boolean c) = b ≡ c
IsSameScalar (number m) (number n) = IsSameNumber m n
IsSameScalar (string s) (string t) = s ≡ t
IsSameScalar c d = ⊥

-- the bytes are the bracket or the brace that opens the value
abbrev pub OpensValue : List ℕ → Data → Type 0
OpensValue part (array _) = part ≡ codes "["
OpensValue part (object _) = part ≡ codes "{"
OpensValue part d = ⊥

-- the bytes are the text of a value: of one that is neither an array nor an object
abbrev pub IsScalarText : List ℕ → Data → Type 0
IsScalarText part d = (read : Data) × IsValue part read × IsSameScalar read d

-- the bytes are the text of this value, or open it where it is an array or an object
abbrev pub IsTextOf : List ℕ → Option Data → Type 0
IsTextOf part None = ⊥
IsTextOf part (Some d) = OpensValue part d ⊎ IsScalarText part d

-- whether it is the name of a field of a scenario, or of a race
abbrev pub is_known : Bool → List ℕ → Bool
is_known false name = is_field true name
is_known true name = is_among race_fields name

-- there is an object that has a member of this name, and no field of a scenario, or of a race, has it
pub record IsOtherName (of_race : Bool) (holder : Option Data) (name : List ℕ) : Type 0 where
  pub there : is_some (option_and_then (get name) holder) ≡ true
  pub unknown : is_known of_race name ≡ false

-- the bytes are the text of such a name
abbrev pub IsTextOfOther : Bool → Option Data → List ℕ → Type 0
IsTextOfOther of_race holder part = (name : List ℕ) × IsValue part (string name) × IsOtherName of_race holder name

-- the bytes are the text of the name that a cause is about
abbrev pub IsTextOfName : Data → Cause → List ℕ → Type 0
IsTextOfName d (Fields OtherField) part = IsTextOfOther false (Some d) part
IsTextOfName d (Fields OtherRaceField) part = IsTextOfOther true (get (codes "race") d) part
IsTextOfName d cause part = ⊥

-- the bytes are the text of the value or of the name that a cause is about, without blanks around it
pub record IsOwnText (race : Bool) (d : Data) (refusal : ScenarioErr) (cause : Cause) (part : List ℕ) : Type 0 where
  pub bare : is_trimmed part ≡ true
  pub text : IsTextOf part (refused_value race d refusal cause) ⊎ IsTextOfName d cause part
