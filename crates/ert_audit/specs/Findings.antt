-- What is found of a text: its verdict, and why it isn't legal.

use Rattle.std.specs.Prelude.{◌≡◌, ℕ, ◌+◌, List, slice_get, take, Some}
use Rattle.ert_defs.specs.{States.state, declared.entry.Entry.Entry}
use Rattle.ert_judge.specs.{Reasons.IsFirstReason, Verdicts.IsFirstIllegal, declared.reasons.Reason.Reason}
use Rattle.ert_audit.specs.{Spelling.MisspelledAt, Verdicts.{IsHistory, IsLegalText}, declared.verdict.Finding.Finding, declared.verdict.Finding.TheVariants.{Legal, Illegal, Refused}, declared.verdict.Verdict.Verdict}
use Rattle.ert_audit.specs.declared.verdict.Verdict.TheVariants as verdicts

-- the entry at a line, where the settings have line 1, is the first that isn't legal, by a reason that holds of it
pub record IsIllegalBy (text : List ℕ) (line : ℕ) (reason : Reason) : Type 0 where
  pub history : IsHistory text
  pub place : ℕ
  pub first : IsFirstIllegal history.settings history.entries place
  pub entry : Entry
  pub stands : slice_get history.entries place ≡ Some entry
  pub holds : IsFirstReason history.settings (state history.settings (take place history.entries)) entry reason
  pub at : line ≡ place + 2

-- it is so of a text
abbrev pub IsFound : List ℕ → Finding → Type 0
IsFound text (Legal count) = IsLegalText text count
IsFound text (Illegal line why) = IsIllegalBy text line why
IsFound text (Refused line) = MisspelledAt text line

-- the verdict on the text
abbrev pub finding_verdict : Finding → Verdict
finding_verdict (Legal count) = verdicts.Legal count
finding_verdict (Illegal line why) = verdicts.Illegal line
finding_verdict (Refused line) = verdicts.Refused line
