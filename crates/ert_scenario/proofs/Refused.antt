-- A verdict that refuses is a refusal of the bytes.

use Rattle.std.proofs.Common.{◌≡◌, ◌≢◌, ℕ, List, Option, Some, None, Result, Ok, Err, IfErr, Bool, true, false, ◌⊎◌, inl, inr, sym, ◌∙◌, refl, subst}
use Rattle.std.proofs.lemmas.Str.{IsUtf8-from_is_utf8, is_utf8-from_IsUtf8}
use Rattle.std.specs.Str.{IsUtf8, is_utf8}
use Rattle.serde_json.specs.{Data.Data, Read.read}
use Rattle.ert_scenario.specs.{Fields.{top_of, format_of}, Kinds.FoundOrFault, Lists.{OpValues, lists_found}, Scenarios.{Plan, Verdict, IsValue, IsScenario, HasRefusal, refused, over, judged, judged_all, verdict_of}, Walks.all_raws}
use Rattle.ert_scenario.specs.{Walks.{founds_of, first_shape, first_range}, declared.fields.Top.Top, declared.format.Format.Format, declared.scenario.Scenario.Scenario, declared.scenario.ScenarioErr.ScenarioErr}
use Rattle.ert_scenario.specs.{declared.scenario.ScenarioErr.TheVariants.{Json, Shape, Range, Limit, NoMemory}}
use Rattle.ert_scenario.specs.declared.fault.Fault.TheVariants as faults
use Rattle.ert_ops.specs.declared.op.Op.{Op}

-- the refusal names a place
abbrev HasPlace : ScenarioErr → Type 0
HasPlace Json = ⊥
HasPlace (Shape place) = Unit {0}
HasPlace (Range place) = Unit {0}
HasPlace (Limit place) = Unit {0}
HasPlace NoMemory = ⊥

-- a verdict that refuses names a place
abbrev NamesPlace : Verdict → Type 0
NamesPlace verdict = IfErr verdict HasPlace

NamesPlace-refused : (why : ℕ → ScenarioErr) (found : Option ℕ) (otherwise : Verdict)
    → ((place : ℕ) → HasPlace (why place)) → NamesPlace otherwise → NamesPlace (refused why found otherwise)
NamesPlace-refused why None otherwise names h = h
NamesPlace-refused why (Some place) otherwise names h = names place

NamesPlace-judged : (format : Format) (lists : OpValues) (found : FoundOrFault Top) (founds : List (FoundOrFault Op)) → NamesPlace (judged format lists found founds)
NamesPlace-judged format lists (Err faults.Shape) founds = tt
NamesPlace-judged format lists (Err faults.Range) founds = NamesPlace-refused Shape (first_shape 1 founds) _ (λ _. tt) tt
NamesPlace-judged format lists (Ok top) founds =
    NamesPlace-refused Shape (first_shape 1 founds) _ (λ _. tt)
    (NamesPlace-refused Range (first_range 1 founds) _ (λ _. tt)
    (NamesPlace-refused Limit (over top lists.race founds) _ (λ _. tt) tt))

NamesPlace-judged_all : (format : Format) (lists : FoundOrFault OpValues) (found : FoundOrFault Top) → NamesPlace (judged_all format lists found)
NamesPlace-judged_all format (Ok lists) found = NamesPlace-judged format lists found (founds_of found (all_raws format lists))
NamesPlace-judged_all format (Err fault) found = tt

names_place : (race : Bool) (d : Data) (e : ScenarioErr) → verdict_of race d ≡ Err e → HasPlace e
unfolding verdict_of
names_place race d e is = let P : Verdict → Type 0 = NamesPlace in subst P is (NamesPlace-judged_all (format_of d) (lists_found race d) (top_of race d))

HasRefusal-value : (race : Bool) (bytes : List ℕ) (d : Data) (e : ScenarioErr) → IsValue bytes d → HasPlace e → verdict_of race d ≡ Err e → HasRefusal race bytes e
HasRefusal-value race bytes d Json value named is = absurd named
HasRefusal-value race bytes d (Shape place) value named is = (d, value, is)
HasRefusal-value race bytes d (Range place) value named is = (d, value, is)
HasRefusal-value race bytes d (Limit place) value named is = (d, value, is)
HasRefusal-value race bytes d NoMemory value named is = absurd named

-- what refuses the value refuses the bytes
pub refused_bytes : (race : Bool) (bytes : List ℕ) (d : Data) (answer : Result Scenario ScenarioErr) → IsValue bytes d
    → IfErr answer (λ e. e ≢ NoMemory → verdict_of race d ≡ Err e) → IfErr answer (λ e. e ≢ NoMemory → HasRefusal race bytes e)
refused_bytes race bytes d (Ok s) value h = tt
refused_bytes race bytes d (Err e) value h = λ other. HasRefusal-value race bytes d e value (names_place race d e (h other)) (h other)

-- all bytes have a verdict
record Decided (race : Bool) (bytes : List ℕ) : Type 0 where
  pub verdict : ((plan : Plan) × IsScenario race bytes plan) ⊎ ((e : ScenarioErr) × HasRefusal race bytes e)

by_verdict : (race : Bool) (bytes : List ℕ) (d : Data) (verdict : Verdict) → IsValue bytes d → verdict_of race d ≡ verdict → Decided race bytes
by_verdict race bytes d (Ok plan) value is = record { verdict = inl (plan, (d, value, is)) }
by_verdict race bytes d (Err e) value is = record { verdict = inr (e, HasRefusal-value race bytes d e value (names_place race d e is) is) }

by_value : (race : Bool) (bytes : List ℕ) (found : Option Data) → IsUtf8 bytes → read bytes ≡ found → Decided race bytes
by_value race bytes (Some d) text is = by_verdict race bytes d (verdict_of race d) (record { utf8 = text; reads = is }) refl
by_value race bytes None text is =
    record { verdict = inr (Json, λ d value. let other : Some d ≡ None = sym value.reads ∙ is in absurd (cc)) }

by_text : (race : Bool) (bytes : List ℕ) (is : Bool) → is_utf8 bytes ≡ is → Decided race bytes
by_text race bytes true is = by_value race bytes (read bytes) (IsUtf8-from_is_utf8 bytes is) refl
by_text race bytes false is =
    record { verdict = inr (Json, λ d value. let other : true ≡ false = sym (is_utf8-from_IsUtf8 bytes value.utf8) ∙ is in absurd (cc)) }

pub decided : (race : Bool) (bytes : List ℕ) → ((plan : Plan) × IsScenario race bytes plan) ⊎ ((e : ScenarioErr) × HasRefusal race bytes e)
decided race bytes = (by_text race bytes (is_utf8 bytes) refl).verdict
