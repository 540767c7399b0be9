-- Words, texts and letters, as the code finds them in a line.

use Rattle.std.proofs.Common.{◌≡◌, ℕ, Bool, true, false, cond, eqb, List, [], ◌∷◌, Option, Some, None, refl, ap, ◌∙◌}
use Rattle.std.specs.{List.onto_first, Str.{IsUtf8, is_utf8}}
use Rattle.std.proofs.lemmas.{Bool.false_from_ne_true, List.Splits.{slice_split_at, slice_split_none}, Str.{IsUtf8-from_is_utf8, is_utf8-from_IsUtf8}}
use Rattle.ert_audit.specs.{Cuts.{IsNowhereIn, IsCutAt, words_in}, Parts.Word, Readers.{read_text, all_read}, Reading.lettered}

-- the words of a line that has a blank
pub cut_words : (line front rest : List ℕ) → IsCutAt 32 line front rest → words_in line ≡ front ∷ words_in rest
cut_words line front rest h =
    ap words_in h.parts ∙ slice_split_at (λ b. eqb b 32) front 32 rest h.first refl

-- the one word of a line that has none
pub free_words : (line : List ℕ) → IsNowhereIn 32 line → words_in line ≡ line ∷ []
free_words line h = slice_split_none (λ b. eqb b 32) line h

-- a word that is text
pub text : (word : Word) (words : List Word) → IsUtf8 word → read_text (word ∷ words) ≡ Some (word, words)
unfolding read_text
text word words h = rw (is_utf8-from_IsUtf8 word h) refl

-- a word that is none
pub no_text : (word : Word) (words : List Word) → (IsUtf8 word → ⊥) → read_text (word ∷ words) ≡ None
unfolding read_text
no_text word words h = rw (false_from_ne_true (is_utf8 word) (λ e. h (IsUtf8-from_is_utf8 word e))) refl

onto_some : {A : Type 0} (a : A) (b : ℕ) (words : List Word) → all_read (a, onto_first b words) ≡ None
onto_some a b [] = refl
onto_some a b (word ∷ words) = refl

split_some : {A : Type 0} (a : A) (b : ℕ) (separates : Bool) (words : List Word) → all_read (a, cond separates ([] ∷ words) (onto_first b words)) ≡ None
split_some a b true words = refl
split_some a b false words = onto_some a b words

-- a text has a word, if one with no bytes
pub something_left : {A : Type 0} (a : A) (line : List ℕ) → all_read (a, words_in line) ≡ None
something_left a [] = refl
something_left a (b ∷ bs) = split_some a b (eqb b 32) (words_in bs)

nothing : {A : Type 0} (b : Bool) (o : Option A) → o ≡ None → cond b None o ≡ None
nothing true o e = refl
nothing false o e = e

-- a letter that has no number names no actor
pub no_number : (letter : ℕ) → lettered letter None ≡ None
no_number letter =
    nothing (eqb letter 119) _ (nothing (eqb letter 105) _ (nothing (eqb letter 115) _ (nothing (eqb letter 109) _
    (nothing (eqb letter 99) None refl))))
