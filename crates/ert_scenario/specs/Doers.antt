-- Which ops may stand in a list, by the thread that does it.

use Rattle.std.specs.Prelude.{List, All}
use Rattle.ert_ops.specs.{Races.IsCallersOp, declared.op.Op.Op, declared.op.Op.TheVariants.{Tick, Check, Finalize, Notify}}
use Rattle.ert_scenario.specs.declared.doer.ListDoer.{ListDoer, TheVariants.{Everyone, Keeper, Caller}}

-- an op of the clock's thread: one that hands the clock a reading, or tells a process of the time offset
abbrev pub IsKeepersOp : Op → Type 0
IsKeepersOp (Tick mono sys) = Unit {0}
IsKeepersOp (Check mono sys) = Unit {0}
IsKeepersOp (Finalize mono sys) = Unit {0}
IsKeepersOp (Notify process) = Unit {0}
IsKeepersOp _ = ⊥

-- an op that hands the clock no reading
abbrev pub GivesNoReading : Op → Type 0
GivesNoReading (Tick mono sys) = ⊥
GivesNoReading (Check mono sys) = ⊥
GivesNoReading (Finalize mono sys) = ⊥
GivesNoReading _ = Unit {0}

-- an op of a caller alone: neither the clock's thread nor a scheduler has to do it
abbrev pub IsCallersAlone : Op → Type 0
IsCallersAlone op = IsCallersOp op × GivesNoReading op

-- an op that may stand in the list
abbrev pub IsDoneBy : ListDoer → Op → Type 0
IsDoneBy Everyone op = Unit {0}
IsDoneBy Keeper op = IsKeepersOp op
IsDoneBy Caller op = IsCallersAlone op

-- all of these callers' lists have callers' ops alone
abbrev pub AreCallersAlone : List (List Op) → Type 0
AreCallersAlone lists = All (λ (ops : List Op). All IsCallersAlone ops) lists
