-- How the reading of a scenario ends where there is none: what both `run` and `race` leave then.

use Rattle.std.specs.Prelude.{◌≡◌, ◌≢◌, ◌≤◌, ℕ, Bool, List, Some, None, length, IsSomeAnd}
use Rattle.ert_io.specs.{Faults.Rose, Known.HandsUpTo, Reads.{Input, ReadsMore}}
use Rattle.ert_scenario.specs.Scenarios.{Plan, IsScenario}
use Rattle.ert_program.specs.{RefusedInputs.{RefusesInput, PartRefused}, Streams.Output, declared.ending.Ended.Ended, declared.ending.EndStatus.TheVariants.{Done, Usage, Refused, ReadFault, WriteFault, ClockFault, NoMemory, TooLong}}

-- it ended with no scenario: the input failed or was too long, or it was refused, or memory ran out
pub record EndsUnread (race : Bool) (i j : Input) (o p : Output) (e : Ended) : Type 0 where
  pub not_done : e.status ≢ Done
  pub refused : e.status ≡ Refused → IsSomeAnd e.refusal (RefusesInput race i j o.told p.told)
  pub read_fault : e.status ≡ ReadFault → Rose i.faults j.faults × HandsUpTo 16777216 i.told j.told × (p ≡ o)
  pub too_long : e.status ≡ TooLong → ReadsMore i j × (p ≡ o)
  pub write_fault : e.status ≡ WriteFault → Rose o.faults p.faults × PartRefused race i j o.told p.told
  pub no_memory : e.status ≡ NoMemory → HandsUpTo 16777217 i.told j.told × (p ≡ o)
  pub others : (e.status ≢ Usage) × (e.status ≢ ClockFault)
  pub no_desk : e.desk ≡ None
  pub no_refusal : e.status ≢ Refused → e.refusal ≡ None
  pub complete : (Rose i.faults j.faults → ⊥) → (Rose o.faults p.faults → ⊥)
      → (bytes : List ℕ) (plan : Plan) → i.told.left ≡ Some bytes → length bytes ≤ 16777216 → IsScenario race bytes plan → e.status ≡ NoMemory
