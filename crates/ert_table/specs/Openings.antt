-- The words of a desk at its opening.

use Rattle.std.specs.Prelude.{ℕ, List, replicate, slice_set}
use Rattle.ert_defs.specs.{Lines.{first_offset, first_state}, Words.{offset_word, is_final, word_count}, declared.settings.Settings.Settings}

-- each word is 0, but for the offset
abbrev pub first_words : Settings → List ℕ
first_words g = slice_set (replicate (word_count g) 0) 16 (offset_word (first_offset g) (is_final (first_state g.mode)))
