-- Bytes cut at one that separates.

use Rattle.std.specs.Prelude.{◌≡◌, ◌==◌, ℕ, false, List, [], ◌∷◌, ◌++◌, All, Option, Some, None}
use Rattle.std.specs.{List.slice_split, Borrow.Bor}
use Rattle.ert_audit.specs.Parts.{Word}

-- a separator stands nowhere in the bytes
abbrev pub IsNowhereIn : ℕ → List ℕ → Type 0
IsNowhereIn separator bytes = All (λ b. (b == separator) ≡ false) bytes

-- the bytes up to the first separator, and those after it
pub record IsCutAt (separator : ℕ) (bytes front rest : List ℕ) : Type 0 where
  pub parts : bytes ≡ front ++ separator ∷ rest
  pub first : IsNowhereIn separator front

-- the words of a line
abbrev pub words_in : List ℕ → List Word
words_in line = slice_split (λ b. b == 32) line

-- the words that are still to be read: those of a text, or none
abbrev pub words_of : Option (Bor (List ℕ)) → List Word
words_of None = []
words_of (Some text) = words_in text.now
