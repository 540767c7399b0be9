-- What `stress` leaves.

use Rattle.std.specs.Prelude.{◌≡◌, ◌≢◌, ◌⊎◌, ℕ, ℤ, List, None, IsSomeAnd}
use Rattle.ert_defs.specs.{States.state, declared.entry.Entry.Entry}
use Rattle.ert_program.specs.{Generated.generated, OnDesks.RanOn, Runs.RunOf, Streams.Output, declared.ending.Ended.Ended, declared.ending.EndStatus.TheVariants.{Done, WriteFault, NoMemory}}
use Rattle.ert_io.specs.{Faults.Rose, Told.{SinkTold, TakesFront}}
use Rattle.ert_laws.specs.Counts.{Counts, counts_of}
use Rattle.ert_scenario.specs.Scenarios.{Plan}
use Rattle.ert_world.specs.Worlds.{Seen, StandsFor}
use Rattle.ert_ops.specs.Counts.{settled_line}
use Rattle.ert_ops.specs.Texts.{◌⋅◌, end_line}

-- how many timers have which status, and when that is
unfoldable pub summary_of : Counts → ℤ → List ℕ
summary_of counts now = settled_line counts ⋅ end_line now

-- a text is the summary of a run of a plan: it counts the timers that the history leaves
pub record SummaryOf (plan : Plan) (h : List Entry) (text : List ℕ) : Type 0 where
  pub transcript : List ℕ
  pub is : RunOf plan h transcript
  pub reads : text ≡ summary_of (counts_of plan.settings (state plan.settings h)) (state plan.settings h).clock.now

-- the first part of the summary of a run was written
pub record StopsSummary (plan : Plan) (old new : SinkTold) : Type 0 where
  pub history : List Entry
  pub text : List ℕ
  pub is : SummaryOf plan history text
  pub writes : TakesFront old new text

-- `stress` with a seed and so many ops came to an end, between two moments of the output
pub record StressEnds (seed n : ℕ) (o p : Output) (e : Ended) : Type 0 where
  pub done : e.status ≡ Done → IsSomeAnd e.desk (RanOn SummaryOf (generated seed n) o.told p.told)
  pub no_desk : e.status ≢ Done → e.desk ≡ None
  pub write_fault : e.status ≡ WriteFault → Rose o.faults p.faults × StopsSummary (generated seed n) o.told p.told
  pub no_memory : e.status ≡ NoMemory → p ≡ o
  pub only : (e.status ≡ Done) ⊎ (e.status ≡ WriteFault) ⊎ (e.status ≡ NoMemory)

-- a world did all ops of a plan, one script run of them, and gave out no seat
pub record HasRun (plan : Plan) (w : Seen) : Type 0 where
  pub history : List Entry
  pub transcript : List ℕ
  pub is : RunOf plan history transcript
  pub stands : StandsFor plan.settings history w
  pub next : w.next ≡ 1
