-- What the exported calls tell of an answer.

use Rattle.std.specs.Prelude.{◌≡◌, ℕ, List, [], ◌++◌, length, take, drop}
use Rattle.ert_text.specs.{Answers.{RunsTo, RefusesTo, JudgesTo, text_code}, declared.answer.TextStatus.TextStatus, declared.exports.ErtTold.ErtTold}

-- a text is copied into a buffer: its whole length is told, as much of it as fits stands at the front, and behind it
-- the buffer is as it was
pub record CopiesOver (text : List ℕ) (told : ℕ) (old new : List ℕ) : Type 0 where
  pub size : told ≡ length text
  pub bytes : new ≡ take (length old) text ++ drop (length text) old

-- both texts of an answer are copied, each into its buffer
pub record TellsBoth (text message : List ℕ) (told : ErtTold) (out out_new err err_new : List ℕ) : Type 0 where
  pub output : CopiesOver text told.output out out_new
  pub errors : CopiesOver message told.errors err err_new

-- the transcript of the scenario that the bytes are, and no message
pub record TellsRun (bytes : List ℕ) (told : ErtTold) (out out_new err err_new : List ℕ) : Type 0 where
  pub transcript : List ℕ
  pub is : RunsTo bytes transcript
  pub tells : TellsBoth transcript [] told out out_new err err_new

-- the line of the refusal that the bytes have, and the message that explains it
pub record TellsRefusal (bytes : List ℕ) (told : ErtTold) (out out_new err err_new : List ℕ) : Type 0 where
  pub line : List ℕ
  pub message : List ℕ
  pub is : RefusesTo bytes line message
  pub tells : TellsBoth line message told out out_new err err_new

-- the line of the verdict that the bytes have, by the number of its status, and the message that tells why
pub record TellsJudged (bytes : List ℕ) (number : ℕ) (told : ErtTold) (out out_new err err_new : List ℕ) : Type 0 where
  pub status : TextStatus
  pub line : List ℕ
  pub message : List ℕ
  pub is : JudgesTo bytes status line message
  pub tells_status : number ≡ text_code status
  pub tells : TellsBoth line message told out out_new err err_new

-- nothing was told, and the buffers are as they were
abbrev pub TellsNothing : ErtTold → List ℕ → List ℕ → List ℕ → List ℕ → Type 0
TellsNothing told out out_new err err_new =
    (told ≡ record { output = 0; errors = 0 }) × (out_new ≡ out) × (err_new ≡ err)
