use Rattle.std.proofs.Common.{All}
use Rattle.std.proofs.lemmas.Option.{IfSome_then}
use Rattle.ert_ops.specs.Races.{IsRace}
use Rattle.ert_scenario.specs.Doers.{IsKeepersOp, AreCallersAlone}
use Rattle.ert_scenario.proofs.Valid.{IsValidRace, valid, wanted, alone}
use Rattle.ert_scenario.proofs.laws.scenarios_are_valid.Goals as goal

pub returns-clause-settings : goal.returns-clause-settings
returns-clause-settings c race bytes plan h = (valid race h.0 plan h.2).settings

pub returns-clause-looks : goal.returns-clause-looks
returns-clause-looks c race bytes plan h = (valid race h.0 plan h.2).looks

pub returns-clause-ops : goal.returns-clause-ops
returns-clause-ops c race bytes plan h = (valid race h.0 plan h.2).ops

pub returns-clause-labels : goal.returns-clause-labels
returns-clause-labels c race bytes plan h = (valid race h.0 plan h.2).labels

pub returns-clause-wanted : goal.returns-clause-wanted
returns-clause-wanted c race bytes plan h = wanted race h.0 plan h.2

pub returns-clause-race : goal.returns-clause-race
returns-clause-race c race bytes plan h =
    IfSome_then plan.race {P = IsValidRace plan.settings plan.ops} {Q = λ r. IsRace plan.settings plan.ops r} (valid race h.0 plan h.2).race (λ r v. v.is)

pub returns-clause-keeper : goal.returns-clause-keeper
returns-clause-keeper c race bytes plan h =
    IfSome_then plan.race {P = IsValidRace plan.settings plan.ops} {Q = λ r. All IsKeepersOp r.keeper} (valid race h.0 plan h.2).race (λ r v. v.keeper)

pub returns-clause-callers : goal.returns-clause-callers
returns-clause-callers c race bytes plan h =
    IfSome_then plan.race {P = IsValidRace plan.settings plan.ops} {Q = λ r. AreCallersAlone r.callers} (valid race h.0 plan h.2).race (λ r v. v.callers)

pub returns-clause-one_caller : goal.returns-clause-one_caller
returns-clause-one_caller c bytes plan h = alone h.0 plan h.2
