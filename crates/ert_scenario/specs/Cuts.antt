-- A scenario, made of the ops of all lists.

use Rattle.std.specs.Prelude.{ℕ, ◌+◌, List, [], ◌∷◌, length, take, drop, option_map}
use Rattle.serde_json.specs.Data.{Data}
use Rattle.ert_ops.specs.{Races.Race, declared.op.Op.Op}
use Rattle.ert_scenario.specs.{Kinds.items_in, Lists.{RaceValues, OpValues, list_count}, Scenarios.{Plan, with_callers}, declared.fields.Top.Top}

-- for each caller's list as many ops as it has items
abbrev pub cut_callers : List Data → List Op → List (List Op)
cut_callers [] ops = []
cut_callers (list ∷ lists) ops = take (length (items_in list)) ops ∷ cut_callers lists (drop (length (items_in list)) ops)

-- the same of the clock's thread, and then of the callers
abbrev pub cut_race : ℕ → RaceValues → List Op → Race
cut_race turns race ops = record {
  turns = turns;
  keeper = take (length race.keeper) ops;
  callers = cut_callers race.callers (drop (length race.keeper) ops);
}

-- the same of all lists
abbrev pub cut_plan : Top → OpValues → List Op → Plan
cut_plan top lists ops = record {
  settings = with_callers (1 + list_count lists.race) top.settings;
  ops = take (length lists.ops) ops;
  race = option_map (λ race. cut_race top.turns race (drop (length lists.ops) ops)) lists.race;
}
