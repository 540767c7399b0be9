-- How an audit ends, and what it has then read and written.

use Rattle.std.specs.Prelude.{◌≡◌, ℕ, List, ◌++◌}
use Rattle.ert_io.specs.{Reads.{Input, ReadsAll}, Writing.WritesFront}
use Rattle.ert_audit.specs.{Verdicts.{HasVerdict, verdict_line}, declared.status.AuditStatus.AuditStatus, declared.status.AuditStatus.TheVariants.{Legal, Illegal, Refused, ReadFault, WriteFault, NoMemory, TooLong}}
use Rattle.ert_audit.specs.{declared.verdict.Verdict.Verdict}
use Rattle.ert_audit.specs.declared.verdict.Verdict.TheVariants as verdicts

-- the number of a status
abbrev pub exit_code : AuditStatus → ℕ
exit_code Legal = 0
exit_code Illegal = 1
exit_code Refused = 3
exit_code ReadFault = 4
exit_code WriteFault = 5
exit_code NoMemory = 7
exit_code TooLong = 8

-- the status that tells a verdict
abbrev pub status_telling : Verdict → AuditStatus
status_telling (verdicts.Legal count) = Legal
status_telling (verdicts.Illegal line) = Illegal
status_telling (verdicts.Refused line) = Refused

-- whether a status tells a verdict
abbrev pub IsVerdict : AuditStatus → Type 0
IsVerdict Legal = Unit {0}
IsVerdict Illegal = Unit {0}
IsVerdict Refused = Unit {0}
IsVerdict _ = ⊥

-- how an audit ended, and of which text
pub record AuditEnd : Type 0 where
  pub status : AuditStatus
  pub text : List ℕ

-- all bytes were read, and they have this verdict
pub record HasAll (text : List ℕ) (i j : Input) (verdict : Verdict) : Type 0 where
  pub takes : ReadsAll i j text
  pub is : HasVerdict text verdict

-- all bytes were read, and the line of their verdict was written, which is that of the status
pub record Judges (status : AuditStatus) (text : List ℕ) (i j : Input) (taken taken_new : List ℕ) : Type 0 where
  pub verdict : Verdict
  pub has : HasAll text i j verdict
  pub tells : status ≡ status_telling verdict
  pub writes : taken_new ≡ taken ++ verdict_line verdict

-- all bytes were read, and the first part of the line of their verdict was written
pub record StopsInLine (i j : Input) (taken taken_new : List ℕ) : Type 0 where
  pub text : List ℕ
  pub verdict : Verdict
  pub has : HasAll text i j verdict
  pub writes : WritesFront taken taken_new (verdict_line verdict)
