-- Which bytes are a scenario, and what it asks for: apart from how faults are told.

use Rattle.std.specs.Prelude.{◌≡◌, ℕ, suc, ◌≤◌, Bool, true, false, List, [], ◌∷◌, ◌++◌, map, length, Option, None, Some, Ok, codes}
use Rattle.std.specs.List.{list_all}
use Rattle.serde_json.specs.{Data.Data, Find.get}
use Rattle.ert_defs.specs.declared.settings.{Settings.Settings, TheConstants.SCENARIO_LOOKS}
use Rattle.ert_ops.specs.{Labels.AreOps, Races.{Race, lists_of, ops_in}, declared.op.Op.Op}
use Rattle.ert_scenario.specs.{Fields.{is_field, only_named, is_among, race_fields, one_or_two, start_time, time_warp_mode, time_correction, count, field, format_of}, Kinds.{listed, listed_reading, non_negative}, Ranges.{is_checked, is_op}}
use Rattle.ert_scenario.specs.{Rows.op_of, Scenarios.{IsValue, Plan}, declared.doer.ListDoer.ListDoer, declared.doer.ListDoer.TheVariants.{Everyone, Keeper, Caller}, declared.format.Format.Format}

-- the fields of a value give these settings, for so many callers, and a service can be opened with them. It has no field
-- with another name
pub record HasSettings (race : Bool) (d : Data) (callers : ℕ) (g : Settings) : Type 0 where
  pub named : only_named (is_field race) d ≡ Ok tt
  pub format : field (codes "format") one_or_two d ≡ Ok tt
  pub start : field (codes "start") start_time d ≡ Ok g.start
  pub first : field (codes "first") listed_reading d ≡ Ok g.first
  pub mode : field (codes "mode") time_warp_mode d ≡ Ok g.mode
  pub correction : field (codes "correction") time_correction d ≡ Ok g.correction
  pub schedulers : field (codes "schedulers") (count 1) d ≡ Ok g.schedulers
  pub processes : field (codes "processes") (count 1) d ≡ Ok g.processes
  pub slots : field (codes "slots") (count 1024) d ≡ Ok g.slots
  pub looks : g.looks ≡ SCENARIO_LOOKS
  pub for_callers : g.callers ≡ callers
  pub in_range : is_checked g ≡ true

-- a value is an array of these ops, in the list of this doer
pub record IsListOf (format : Format) (doer : ListDoer) (value : Option Data) (ops : List Op) : Type 0 where
  pub values : List Data
  pub list : listed value ≡ Ok values
  pub reads : map (op_of format doer) values ≡ map Ok ops

-- values are arrays of these ops, in the lists of callers
abbrev pub AreCallersLists : Format → List Data → List (List Op) → Type 0
AreCallersLists format [] [] = Unit {0}
AreCallersLists format (value ∷ values) (ops ∷ lists) = IsListOf format Caller (Some value) ops × AreCallersLists format values lists
AreCallersLists format _ _ = ⊥

-- a value is a scenario without a race: its fields give these settings, and its list these ops, each in range; no two
-- starts have one label, and there are not too many
pub record IsAccepted (d : Data) (g : Settings) (ops : List Op) : Type 0 where
  pub settings : HasSettings false d 1 g
  pub list : IsListOf (format_of d) Everyone (get (codes "ops") d) ops
  pub in_range : list_all (is_op g) ops ≡ true
  pub labels : AreOps ops

-- a value is a scenario with a race: its fields give these settings, for a caller for each list of callers and one more,
-- and its lists these ops, each in range. No two starts of all lists have one label, and there are not too many ops and turns
pub record IsAcceptedRace (d : Data) (g : Settings) (ops : List Op) (race : Race) : Type 0 where
  pub settings : HasSettings true d (suc (length race.callers)) g
  pub list : IsListOf (format_of d) Everyone (get (codes "ops") d) ops
  pub value : Data
  pub has : get (codes "race") d ≡ Some value
  pub named : only_named (is_among race_fields) value ≡ Ok tt
  pub turns : field (codes "turns") non_negative value ≡ Ok race.turns
  pub keeper : IsListOf (format_of d) Keeper (get (codes "keeper") value) race.keeper
  pub values : List Data
  pub lists : field (codes "callers") listed value ≡ Ok values
  pub callers : AreCallersLists (format_of d) values race.callers
  pub in_range : list_all (is_op g) (ops ++ ops_in (lists_of race)) ≡ true
  pub labels : AreOps (ops ++ ops_in (lists_of race))
  pub few : race.turns ≤ 10000

-- the bytes are a value without a race
pub record IsRunnable (bytes : List ℕ) (g : Settings) (ops : List Op) : Type 0 where
  pub value : Data
  pub is : IsValue bytes value
  pub accepted : IsAccepted value g ops

-- the bytes are a value with a race
pub record IsRaceable (bytes : List ℕ) (g : Settings) (ops : List Op) (race : Race) : Type 0 where
  pub value : Data
  pub is : IsValue bytes value
  pub accepted : IsAcceptedRace value g ops race

-- the plan of a scenario without a race
abbrev pub plan_alone : Settings → List Op → Plan
plan_alone g ops = record { settings = g; ops = ops; race = None }

-- the plan of a scenario with a race
abbrev pub plan_with : Settings → List Op → Race → Plan
plan_with g ops race = record { settings = g; ops = ops; race = Some race }
