-- What an error of `write_all` tells, and what was written of a text.

use Rattle.std.specs.Prelude.{◌≡◌, ℕ, List, ◌++◌}
use Rattle.ert_io.specs.declared.writing.WriteErr.{WriteErr, TheVariants.WriteFault}

-- how many bytes were appended before the fault
abbrev pub written_of : WriteErr → ℕ
written_of (WriteFault written) = written

-- the first part of a text was written
pub record WritesFront (old new text : List ℕ) : Type 0 where
  pub front : List ℕ
  pub others : List ℕ
  pub taken : new ≡ old ++ front
  pub whole : front ++ others ≡ text
