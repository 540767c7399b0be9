-- Which bytes are a scenario, and which refusal other bytes have.

use Rattle.std.specs.Prelude.{◌≡◌, ◌+◌, ℕ, List, map, length, Bool, ◌||◌, Option, Some, None, option_map, Result, Ok, Err, nat_lt, if◌then◌else◌}
use Rattle.std.specs.Str.{IsUtf8}
use Rattle.serde_json.specs.{Data.Data, Read.read}
use Rattle.ert_defs.specs.declared.settings.Settings.{Settings}
use Rattle.ert_ops.specs.{Races.{Race, race_of}, declared.op.Op.Op}
use Rattle.ert_scenario.specs.{Fields.{top_of, format_of}, Kinds.{FoundOrFault, items_in}, Lists.{RaceValues, OpValues, lists_found, list_count}, Walks.{raws_of, all_raws, founds_of, first_shape, first_range, ops_of}}
use Rattle.ert_scenario.specs.{declared.doer.ListDoer.TheVariants.{Everyone, Keeper, Caller}, declared.fields.Top.Top, declared.format.Format.Format, declared.limits.TheConstants.{MOST_LISTS, MOST_TURNS, MOST_OPS}}
use Rattle.ert_scenario.specs.{declared.scenario.Scenario.Scenario, declared.scenario.ScenarioErr.ScenarioErr, declared.scenario.ScenarioErr.TheVariants.{Json, Shape, Range, Limit, NoMemory}}
use Rattle.ert_scenario.specs.declared.fault.Fault.TheVariants as faults

-- a scenario without where it lies in memory
pub record Plan : Type 0 where
  pub settings : Settings
  pub ops : List Op
  pub race : Option Race

-- the plan of a scenario
abbrev pub plan_of : Scenario → Plan
plan_of s = record { settings = s.settings; ops = s.ops.items; race = option_map race_of s.race }

-- a plan, or why there is none
abbrev pub Verdict : Type 0
Verdict = Result Plan ScenarioErr

-- refused at the place, where there is one
abbrev pub refused : (ℕ → ScenarioErr) → Option ℕ → Verdict → Verdict
refused why None otherwise = otherwise
refused why (Some place) otherwise = Err (why place)

-- whether there are more than so many ops, callers' lists or turns
abbrev pub is_over : ℕ → ℕ → ℕ → Bool
is_over ops lists turns = nat_lt MOST_OPS ops || (nat_lt MOST_LISTS lists || nat_lt MOST_TURNS turns)

-- place 0, where there are too many of something
abbrev pub over : Top → Option RaceValues → List (FoundOrFault Op) → Option ℕ
over top race founds = if is_over (length founds) (list_count race) top.turns then Some 0 else None

-- the settings for so many callers
abbrev pub with_callers : ℕ → Settings → Settings
with_callers callers g = record g { callers = callers }

-- the ops of a race whose ops have no fault
abbrev pub planned_race : Format → ℕ → RaceValues → Race
planned_race format turns race = record {
  turns = turns;
  keeper = ops_of (raws_of format Keeper race.keeper);
  callers = map (λ list. ops_of (raws_of format Caller (items_in list))) race.callers;
}

-- the plan of lists whose ops have no fault: there is a caller for each list of callers, and one more
abbrev pub planned : Format → OpValues → Top → Plan
planned format lists top = record {
  settings = with_callers (1 + list_count lists.race) top.settings;
  ops = ops_of (raws_of format Everyone lists.ops);
  race = option_map (planned_race format top.turns) lists.race;
}

-- the verdict on what was found at place 0 and at the ops of these lists
abbrev pub judged : Format → OpValues → FoundOrFault Top → List (FoundOrFault Op) → Verdict
judged format lists (Err faults.Shape) founds = Err (Shape 0)
judged format lists (Err faults.Range) founds = refused Shape (first_shape 1 founds) (Err (Range 0))
judged format lists (Ok top) founds =
    refused Shape (first_shape 1 founds)
    (refused Range (first_range 1 founds)
    (refused Limit (over top lists.race founds)
    (Ok (planned format lists top))))

-- the same, where the lists are arrays
abbrev pub judged_all : Format → FoundOrFault OpValues → FoundOrFault Top → Verdict
judged_all format (Ok lists) top = judged format lists top (founds_of top (all_raws format lists))
judged_all format (Err fault) top = Err (Shape 0)

-- the verdict on a value, where a race is wanted or not
unfoldable pub verdict_of : Bool → Data → Verdict
verdict_of race d = judged_all (format_of d) (lists_found race d) (top_of race d)

-- the bytes are one JSON value, and this one
pub record IsValue (bytes : List ℕ) (d : Data) : Type 0 where
  pub utf8 : IsUtf8 bytes
  pub reads : read bytes ≡ Some d

-- the bytes are a value with this verdict
abbrev pub IsValueWith : Bool → List ℕ → Verdict → Type 0
IsValueWith race bytes verdict = (d : Data) × IsValue bytes d × (verdict_of race d ≡ verdict)

-- the bytes are this scenario, which has a race where one is wanted, and else none
abbrev pub IsScenario : Bool → List ℕ → Plan → Type 0
IsScenario race bytes plan = IsValueWith race bytes (Ok plan)

-- the bytes are refused for this reason; out of memory is never one
abbrev pub HasRefusal : Bool → List ℕ → ScenarioErr → Type 0
HasRefusal race bytes Json = (d : Data) → IsValue bytes d → ⊥
HasRefusal race bytes (Shape place) = IsValueWith race bytes (Err (Shape place))
HasRefusal race bytes (Range place) = IsValueWith race bytes (Err (Range place))
HasRefusal race bytes (Limit place) = IsValueWith race bytes (Err (Limit place))
HasRefusal race bytes NoMemory = ⊥
