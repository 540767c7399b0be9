-- The race of a plan, as what the command does with the plan.

use Rattle.std.proofs.Common.{◌≡◌, ℕ, true, List, Some, sym, subst, ◌∙◌}
use Rattle.std.specs.Prelude.{Result, Ok, Err, IfOk, OnErr}
use Rattle.ert_io.specs.{Reads.Input, Told.{SinkTold, TakesFront}}
use Rattle.ert_defs.specs.declared.settings.Settings.{Settings}
use Rattle.ert_ops.specs.{Races.Race, declared.op.Op.Op}
use Rattle.ert_program.specs.{Written.{Returned, MayWrite, RacesOn, StopsRace}, Inputs.{WritesAll, WritesSomeOf}, OnDesks.{HasRead, RanOn}, Races.{OfRace, IsReport, OfPlan, RaceWrites, RaceOf}}
use Rattle.ert_scenario.specs.{Acceptance.{IsRaceable, plan_with}, Scenarios.{Plan, IsScenario}}
use Rattle.ert_script.specs.declared.output.RunErr.{RunErr}
use Rattle.ert_program.proofs.Ends.{IsOfScenario}

-- it was run
pub raced : (plan : Plan) (race : Race) (old new : SinkTold) (ran : Result Returned RunErr) → plan.race ≡ Some race
    → IfOk ran (RacesOn plan.settings plan.ops race old new) → IfOk ran (RanOn RaceOf plan old new)
raced plan race old new (Ok r) has on = record {
  history = on.history;
  text = on.text;
  is = record { race = race; has = has; is = on.is };
  writes = on.writes;
  desk = on.desk;
}
raced plan race old new (Err e) has on = tt

-- the first part of what it may write was written
pub race_stops : (plan : Plan) (race : Race) (old new : SinkTold) (ran : Result Returned RunErr) → plan.race ≡ Some race
    → OnErr ran (StopsRace plan.settings plan.ops race old new) → OnErr ran ((text : List ℕ) × OfPlan MayWrite plan text × TakesFront old new text)
race_stops plan race old new (Ok r) has on = tt
race_stops plan race old new (Err e) has on = (on.text, record { race = race; has = has; is = on.may }, on.writes)

-- the plan of what is read is one that `race` accepts
abbrev pub AcceptsRaces : Type 0
AcceptsRaces = (bytes : List ℕ) (plan : Plan) → IsScenario true bytes plan → (race : Race) × (plan.race ≡ Some race) × IsRaceable bytes plan.settings plan.ops race

-- what `race` may write of a plan that was read
race_writes : (may : OfRace) (bytes text : List ℕ) (plan : Plan) → AcceptsRaces → IsScenario true bytes plan → OfPlan may plan text → RaceWrites may bytes text
race_writes may bytes text plan accepts is of =
    let a = accepts bytes plan is in
    let known : Some of.race ≡ Some a.0 = sym of.has ∙ a.1 in
    let same : of.race ≡ a.0 = cc in
    (plan.settings, plan.ops, a.0, a.2, subst (λ (r : Race). may plan.settings plan.ops r text) same of.is)

-- the whole report was written
pub reported : (i j : Input) (plan : Plan) (old new : SinkTold) (ran : Result Returned RunErr) → AcceptsRaces → HasRead true i j plan → IfOk ran (RanOn RaceOf plan old new)
    → IfOk ran (λ r. WritesAll (RaceWrites IsReport) i j old new)
reported i j plan old new (Ok r) accepts read ran = record {
  bytes = read.bytes;
  takes = read.takes;
  text = ran.text;
  is = race_writes IsReport read.bytes ran.text plan accepts read.is (record { race = ran.is.race; has = ran.is.has; is = (ran.history, ran.is.is) });
  writes = ran.writes;
}
reported i j plan old new (Err e) accepts read ran = tt

-- the first part of it was
pub reported_some : (i j : Input) (plan : Plan) (old new : SinkTold) (ran : Result Returned RunErr) → AcceptsRaces → HasRead true i j plan
    → OnErr ran ((text : List ℕ) × OfPlan MayWrite plan text × TakesFront old new text) → OnErr ran (WritesSomeOf (RaceWrites MayWrite) i j old new)
reported_some i j plan old new (Ok r) accepts read part = tt
reported_some i j plan old new (Err e) accepts read part = record {
  bytes = read.bytes;
  takes = read.takes;
  text = part.0;
  is = race_writes MayWrite read.bytes part.0 plan accepts read.is part.1;
  writes = part.2;
}

-- bytes of which `race` writes a text are a scenario
pub race_is_of : (may : OfRace) → ((bytes : List ℕ) (g : Settings) (ops : List Op) (race : Race) → IsRaceable bytes g ops race → IsScenario true bytes (plan_with g ops race))
    → IsOfScenario true (RaceWrites may)
race_is_of may back bytes text is = (plan_with is.0 is.1 is.2, back bytes is.0 is.1 is.2 is.3)
