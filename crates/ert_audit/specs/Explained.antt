-- What was written of a message.

use Rattle.std.specs.Prelude.{ℕ, List}
use Rattle.ert_io.specs.Writing.{WritesFront}
use Rattle.ert_audit.specs.{Messages.IsIllegalMessage, Refusals.IsRefusalMessage, declared.status.AuditStatus.AuditStatus, declared.status.AuditStatus.TheVariants.{Illegal, Refused}}

-- what a message on a text says at a status: at another there is none
abbrev pub IsMessage : AuditStatus → List ℕ → List ℕ → Type 0
IsMessage Illegal text message = IsIllegalMessage text message
IsMessage Refused text message = IsRefusalMessage text message
IsMessage _ text message = ⊥

-- the first part of the message on a text was written
pub record TellsPart (status : AuditStatus) (text : List ℕ) (taken taken_new : List ℕ) : Type 0 where
  pub message : List ℕ
  pub is : IsMessage status text message
  pub writes : WritesFront taken taken_new message
