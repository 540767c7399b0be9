-- What is said of a text, and the line that says it.

use Rattle.std.specs.Prelude.{◌≡◌, ℕ, ◌+◌, List, ◌++◌, length, codes}
use Rattle.std.specs.Fmt.{decimal}
use Rattle.ert_defs.specs.{Legal.Legal, Settings.IsChecked, declared.entry.Entry.Entry, declared.settings.Settings.Settings}
use Rattle.ert_judge.specs.Verdicts.{IsFirstIllegal}
use Rattle.ert_audit.specs.{Spelling.{Spells, MisspelledAt}, declared.verdict.Verdict.Verdict}
use Rattle.ert_audit.specs.declared.verdict.Verdict.TheVariants as verdicts

-- a text spells a history of settings that a service can be opened with
pub record IsHistory (text : List ℕ) : Type 0 where
  pub settings : Settings
  pub entries : List Entry
  pub spelled : Spells settings entries text
  pub checked : IsChecked settings

-- the history is legal, and has so many entries
pub record IsLegalText (text : List ℕ) (count : ℕ) : Type 0 where
  pub history : IsHistory text
  pub legal : Legal history.settings history.entries
  pub all : count ≡ length history.entries

-- the entry at a line, where the settings have line 1, is the first that isn't legal
pub record IsIllegalText (text : List ℕ) (line : ℕ) : Type 0 where
  pub history : IsHistory text
  pub place : ℕ
  pub first : IsFirstIllegal history.settings history.entries place
  pub at : line ≡ place + 2

-- what a verdict says of a text
abbrev pub HasVerdict : List ℕ → Verdict → Type 0
HasVerdict text (verdicts.Legal count) = IsLegalText text count
HasVerdict text (verdicts.Illegal line) = IsIllegalText text line
HasVerdict text (verdicts.Refused line) = MisspelledAt text line

-- the line that tells a verdict
abbrev pub verdict_line : Verdict → List ℕ
verdict_line (verdicts.Legal count) = codes "legal " ++ decimal count ++ codes "\n"
verdict_line (verdicts.Illegal line) = codes "illegal " ++ decimal line ++ codes "\n"
verdict_line (verdicts.Refused line) = codes "refused " ++ decimal line ++ codes "\n"
