-- What `run` leaves.

use Rattle.std.specs.Prelude.{◌≡◌, ℕ, false, List, Option, length}
use Rattle.ert_defs.specs.declared.{entry.Entry.Entry, settings.Settings.Settings}
use Rattle.ert_io.specs.{Known.HasRoomFor, Reads.Input, Told.SinkTold}
use Rattle.ert_ops.specs.{declared.op.Op.Op, Plain.plain_text, Scripts.IsTranscript}
use Rattle.ert_program.specs.{Written.Returned, Inputs.{IsPossibleInput, InputEnds}, OnDesks.DidOn, RefusedInputs.RefusalFits, Streams.Output, declared.ending.EndStatus.EndStatus}
use Rattle.ert_scenario.specs.{Acceptance.IsRunnable, Scenarios.Plan}

-- what `run` writes of bytes: they are a scenario, and the text is what the plain service prints of its ops
pub record RunWrites (bytes text : List ℕ) : Type 0 where
  pub settings : Settings
  pub ops : List Op
  pub is : IsRunnable bytes settings ops
  pub prints : text ≡ plain_text settings ops

-- `run` came to an end, between two moments of the input and of the output
abbrev pub RunEnds : Input → Input → Output → Output → EndStatus → Type 0
RunEnds = InputEnds RunWrites RunWrites

-- where the output tells its room, what `run` writes of the input fits it
abbrev pub RunFits : Option (List ℕ) → Option ℕ → Type 0
RunFits left room = (bytes text : List ℕ) → IsPossibleInput left bytes → RunWrites bytes text → HasRoomFor room (length text)

-- a text is a transcript of a plan, and the history is that of its script run
pub record RunOf (plan : Plan) (h : List Entry) (text : List ℕ) : Type 0 where
  pub is : IsTranscript plan.settings plan.ops text
  pub history : is.entries ≡ h

-- `run` was done, and returned this desk
abbrev pub RunOn : Input → Input → SinkTold → SinkTold → Returned → Type 0
RunOn = DidOn false RunOf

-- where the output tells its room, all fits that `run` may write
pub record InputFits (left : Option (List ℕ)) (room : Option ℕ) : Type 0 where
  pub done : RunFits left room
  pub refused : RefusalFits false left room
