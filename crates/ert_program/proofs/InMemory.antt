-- What a run leaves whose whole input is known.

use Rattle.std.proofs.Common.{◌≡◌, ◌≤◌, ◌⊎◌, ℕ, Bool, false, List, ◌++◌, length, Option, None, Some, inl, inr, ap, subst, arith}
use Rattle.std.specs.Prelude.{IsSomeAnd}
use Rattle.ert_io.specs.{Faults.Rose, Reads.Input, Told.SinkTold}
use Rattle.ert_ops.specs.{Plain.plain_text, Scripts.IsTranscript}
use Rattle.ert_program.specs.{Written.Returned, OnDesks.HasRead, Runs.{RunEnds, RunOn}, Streams.Output, declared.ending.Ended.Ended, declared.ending.EndStatus.TheVariants.{Done, NoMemory}}
use Rattle.ert_scenario.specs.{Acceptance.IsRunnable, Scenarios.{Plan, IsScenario}}
use Rattle.ert_program.proofs.{Ends.all_taken, Transcripts.run_writes}

-- no bytes are two scenarios
abbrev pub OneScenario : Type 0
OneScenario = (race : Bool) (bytes : List ℕ) (plan other : Plan) → IsScenario race bytes plan → IsScenario race bytes other → plan ≡ other

-- what was read of a known text is that text
pub read_whole : (race : Bool) (i j : Input) (text : List ℕ) (plan : Plan) → i.told.left ≡ Some text → HasRead race i j plan → IsScenario race text plan
read_whole race i j text plan told read = subst (λ (b : List ℕ). IsScenario race b plan) (all_taken i j text read.bytes told read.takes) read.is

pub never_rose : Rose 0 0 → ⊥
never_rose rose = omega (arith, rose)

-- what was done on a desk of a known text is a transcript of its plan
on_desk : (i j : Input) (old new : SinkTold) (left : List ℕ) (plan : Plan) (r : Option Returned) → OneScenario → i.told.left ≡ Some left → IsScenario false left plan
    → IsSomeAnd r (RunOn i j old new) → (text : List ℕ) × IsTranscript plan.settings plan.ops text × (new.taken ≡ old.taken ++ text)
on_desk i j old new left plan None one told is did = absurd did
on_desk i j old new left plan (Some r) one told is did =
    let same : did.plan ≡ plan = one false left did.plan plan (read_whole false i j left did.plan told did.read) is in
    let bytes : new.taken ≡ old.taken ++ did.ran.text = ap (λ (t : SinkTold). t.taken) did.ran.writes in
    (did.ran.text, subst (λ (p : Plan). IsTranscript p.settings p.ops did.ran.text) same did.ran.is.is, bytes)

-- where nothing can fail a scenario is run, or memory runs out
pub ends_in_memory : (i j : Input) (o p : Output) (left : List ℕ) (e : Ended) (plan : Plan) → OneScenario
    → ((bytes : List ℕ) (plan : Plan) → IsScenario false bytes plan → IsRunnable bytes plan.settings plan.ops) → RunEnds i j o p e.status
    → (e.status ≡ Done → IsSomeAnd e.desk (RunOn i j o.told p.told))
    → i.told.left ≡ Some left → (Rose i.faults j.faults → ⊥) → (Rose o.faults p.faults → ⊥) → length left ≤ 16777216 → IsScenario false left plan
    → ((e.status ≡ Done) × ((text : List ℕ) × IsTranscript plan.settings plan.ops text × (p.told.taken ≡ o.told.taken ++ text))) ⊎ (e.status ≡ NoMemory)
ends_in_memory i j o p left e plan one accepts ends desk told read wrote short is =
    elim (ends.complete read wrote left (plain_text plan.settings plan.ops) told short (run_writes left plan (accepts left plan is))) [
      | inl how ↦ inl (how, on_desk i j o.told p.told left plan e.desk one told is (desk how))
      | inr failed ↦ inr failed
    ]
