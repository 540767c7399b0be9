-- The spelling of a history, and the line at which other bytes are misspelled.

use Rattle.std.specs.Prelude.{◌≡◌, ◌≢◌, ℕ, ◌+◌, List, [], ◌∷◌, ◌++◌, length}
use Rattle.std.specs.List.{AllByRecursion, flat_map, join_with_byte}
use Rattle.ert_defs.specs.{Settings.IsChecked, declared.entry.Entry.Entry, declared.settings.Settings.Settings}
use Rattle.ert_audit.specs.{Entries.{entry_words, settings_words}, Fits.{FitsEntry, FitsSettings}, Parts.Word}

-- a line: the words with a blank between each two, and a newline
abbrev pub line_of_words : List Word → List ℕ
line_of_words words = join_with_byte 32 words ++ 10 ∷ []

-- the line of an entry
abbrev pub entry_line : Entry → List ℕ
entry_line e = line_of_words (entry_words e)

-- the spelling of a history: the line of its settings, and a line for each entry
abbrev pub spelling : Settings → List Entry → List ℕ
spelling g h = line_of_words (settings_words g) ++ flat_map entry_line h

-- the bytes spell a history whose numbers fit their types
pub record Spells (g : Settings) (h : List Entry) (bytes : List ℕ) : Type 0 where
  pub settings : FitsSettings g
  pub entries : AllByRecursion FitsEntry h
  pub text : bytes ≡ spelling g h

-- the bytes are the line of settings that a service can be opened with, and a rest
pub record IsSettingsLine (bytes : List ℕ) (g : Settings) (rest : List ℕ) : Type 0 where
  pub checked : IsChecked g
  pub fits : FitsSettings g
  pub text : bytes ≡ line_of_words (settings_words g) ++ rest

-- bytes that begin with the line of settings that a service can be opened with
pub record BeginsWithSettings (bytes : List ℕ) : Type 0 where
  pub settings : Settings
  pub rest : List ℕ
  pub line : IsSettingsLine bytes settings rest

-- the bytes are the line of an entry, and a rest
pub record IsEntryLine (bytes : List ℕ) (e : Entry) (rest : List ℕ) : Type 0 where
  pub fits : FitsEntry e
  pub text : bytes ≡ entry_line e ++ rest

-- bytes that begin with the line of an entry
pub record BeginsWithEntry (bytes : List ℕ) : Type 0 where
  pub entry : Entry
  pub rest : List ℕ
  pub line : IsEntryLine bytes entry rest

-- the bytes are the lines of entries, and a rest
pub record AreEntryLines (bytes : List ℕ) (es : List Entry) (rest : List ℕ) : Type 0 where
  pub fit : AllByRecursion FitsEntry es
  pub text : bytes ≡ flat_map entry_line es ++ rest

-- bytes that are to be lines of entries, of which the first has the number 2: line k is the first that is
-- spelled otherwise. Before it stand the lines of k - 2 entries, and from it on there is something, which
-- doesn't begin with the line of an entry
pub record MisspelledIn (bytes : List ℕ) (k : ℕ) : Type 0 where
  pub before : List Entry
  pub rest : List ℕ
  pub lines : AreEntryLines bytes before rest
  pub place : k ≡ length before + 2
  pub more : rest ≢ []
  pub otherwise : BeginsWithEntry rest → ⊥

-- line k, from 1 on, is the first that is spelled otherwise: it is line 1 where the bytes don't begin with
-- the line of settings that a service can be opened with, and else a later one
pub data MisspelledAt (bytes : List ℕ) (k : ℕ) : Type 0 where
  in_settings : k ≡ 1 → (BeginsWithSettings bytes → ⊥) → MisspelledAt bytes k
  in_entries : (g : Settings) (lines : List ℕ) → IsSettingsLine bytes g lines → MisspelledIn lines k
      → MisspelledAt bytes k
