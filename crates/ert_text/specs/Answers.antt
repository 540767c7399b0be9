-- What the commands over texts answer.

use Rattle.std.specs.Prelude.{◌≡◌, ◌⊎◌, ℕ, false, List, []}
use Rattle.ert_audit.specs.{Audits.status_telling as audit_status, Explained.IsMessage, Verdicts.{HasVerdict, verdict_line}, declared.verdict.Verdict.Verdict}
use Rattle.ert_audit.specs.declared.verdict.Verdict.TheVariants as verdicts
use Rattle.ert_explain.specs.Telling.{IsMessageOn}
use Rattle.ert_program.specs.{Refusals.refusal_line, declared.ending.Refusal.Refusal}
use Rattle.ert_scenario.specs.{Scenarios.{Plan, IsScenario, HasRefusal}, declared.scenario.ScenarioErr.ScenarioErr}
use Rattle.ert_ops.specs.Scripts.{IsTranscript}
use Rattle.ert_text.specs.declared.answer.TextStatus.{TextStatus, TheVariants.{Done, Illegal, Refused, NoMemory, TooLong}}

-- the number of a status
abbrev pub text_code : TextStatus → ℕ
text_code Done = 0
text_code Illegal = 1
text_code Refused = 3
text_code NoMemory = 7
text_code TooLong = 8

-- the bytes are a scenario, and a text is its transcript
pub record RunsTo (bytes text : List ℕ) : Type 0 where
  pub plan : Plan
  pub is : IsScenario false bytes plan
  pub transcript : IsTranscript plan.settings plan.ops text

-- the bytes are refused: so it was told, and a text is the line of it
pub record IsRefusedWith (bytes line : List ℕ) (refusal : Refusal) : Type 0 where
  pub wanted : refusal.race ≡ false
  pub all : refusal.bytes.items ≡ bytes
  pub is : HasRefusal false bytes refusal.why
  pub says : line ≡ refusal_line refusal.why

-- the bytes are refused: a text is the line of the refusal, and the message that of a true explanation of it
pub record RefusesTo (bytes line message : List ℕ) : Type 0 where
  pub why : ScenarioErr
  pub is : HasRefusal false bytes why
  pub says : line ≡ refusal_line why
  pub explains : IsMessageOn false bytes why message

-- what a run of the bytes answers
pub record RunAnswers (bytes : List ℕ) (status : TextStatus) (output errors : List ℕ) : Type 0 where
  pub done : status ≡ Done → RunsTo bytes output × (errors ≡ [])
  pub refused : status ≡ Refused → RefusesTo bytes output errors
  pub nothing : (status ≡ NoMemory) ⊎ (status ≡ TooLong) → (output ≡ []) × (errors ≡ [])
  pub others : status ≡ Illegal → ⊥

-- the status that tells a verdict
abbrev pub text_status : Verdict → TextStatus
text_status (verdicts.Legal count) = Done
text_status (verdicts.Illegal line) = Illegal
text_status (verdicts.Refused line) = Refused

-- a message tells why a text has its verdict: of a legal one nothing is told
abbrev pub TellsReason : List ℕ → Verdict → List ℕ → Type 0
TellsReason bytes (verdicts.Legal count) message = message ≡ []
TellsReason bytes verdict message = IsMessage (audit_status verdict) bytes message

-- the bytes have a verdict, which the status tells: a text is its line, and the message tells why
pub record JudgesTo (bytes : List ℕ) (status : TextStatus) (line message : List ℕ) : Type 0 where
  pub verdict : Verdict
  pub is : HasVerdict bytes verdict
  pub tells : status ≡ text_status verdict
  pub says : line ≡ verdict_line verdict
  pub why : TellsReason bytes verdict message

-- what a judgement of the bytes answers
pub record JudgeAnswers (bytes : List ℕ) (status : TextStatus) (output errors : List ℕ) : Type 0 where
  pub judged : (status ≡ Done) ⊎ (status ≡ Illegal) ⊎ (status ≡ Refused) → JudgesTo bytes status output errors
  pub nothing : (status ≡ NoMemory) ⊎ (status ≡ TooLong) → (output ≡ []) × (errors ≡ [])
