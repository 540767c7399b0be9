-- Lines of words, and what they are cut into.

use Rattle.std.proofs.Common.{◌≡◌, ◌≢◌, ℕ, ◌<◌, true, false, eqb, ltb, List, [], ◌∷◌, ◌++◌, length, length-append, All, Some, None, refl, sym, ap, ◌∙◌, subst, append_assoc, arith}
use Rattle.std.specs.Prelude.{◌&&◌}
use Rattle.std.specs.List.{slice_split, join_with_byte}
use Rattle.std.proofs.lemmas.{Bool.{and_parts, ltb-true, ne_eqb}, List.drop_at, List.Elements.{All-nil, All-cons, All-head, All-drop, All-append, All-same}, List.Splits.{slice_split_at, slice_split_none, join_with_byte-slice_split}}
use Rattle.std.proofs.lemmas.{Option.{none-some, same_Some}}
use Rattle.ert_audit.specs.{Cuts.{IsNowhereIn, IsCutAt, words_in}, Parts.Word, Readers.{Reader, whole}, Spelling.line_of_words}
use Rattle.ert_audit.proofs.Formats.{is_ink, AreInk, IsFormat, written_ink, whole-again, whole-takes}

-- ink has no blank and no newline
ink_free : (c : ℕ) → c < 33 → (word : Word) → is_ink word ≡ true → IsNowhereIn c word
ink_free c low [] ink = All-nil (λ b. eqb b c ≡ false)
ink_free c low (b ∷ bs) ink =
    let p = and_parts (ltb 32 b && ltb b 128) (is_ink bs) ink in
    let q = and_parts (ltb 32 b) (ltb b 128) p.0 in
    let above : 32 < b = ltb-true 32 b q.0 in
    All-cons (λ b. eqb b c ≡ false) b bs (ne_eqb b c (λ same. omega arith)) (ink_free c low bs p.1)

-- words of ink, joined with blanks, are found again
words-join : (w : Word) (ws : List Word) → AreInk (w ∷ ws) → words_in (join_with_byte 32 (w ∷ ws)) ≡ w ∷ ws
words-join w [] ink = slice_split_none (λ b. eqb b 32) w (ink_free 32 (omega arith) w ink.0)
words-join w (v ∷ ws) ink =
    slice_split_at (λ b. eqb b 32) w 32 (join_with_byte 32 (v ∷ ws)) (ink_free 32 (omega arith) w ink.0) refl
    ∙ ap (λ (vs : List Word). w ∷ vs) (words-join v ws ink.1)

-- and have no newline
join_free : (ws : List Word) → AreInk ws → IsNowhereIn 10 (join_with_byte 32 ws)
join_free [] ink = All-nil (λ b. eqb b 10 ≡ false)
join_free (w ∷ []) ink = ink_free 10 (omega arith) w ink.0
join_free (w ∷ v ∷ ws) ink =
    All-append (λ b. eqb b 10 ≡ false) w (32 ∷ join_with_byte 32 (v ∷ ws)) (ink_free 10 (omega arith) w ink.0)
    (All-cons (λ b. eqb b 10 ≡ false) 32 (join_with_byte 32 (v ∷ ws)) refl (join_free (v ∷ ws) ink.1))

abbrev lines_in : List ℕ → List (List ℕ)
lines_in text = slice_split (λ b. eqb b 10) text

lines-line : (ws : List Word) (rest : List ℕ) → AreInk ws → lines_in (line_of_words ws ++ rest) ≡ join_with_byte 32 ws ∷ lines_in rest
lines-line ws rest ink =
    ap lines_in (append_assoc (join_with_byte 32 ws) (10 ∷ []) rest)
    ∙ slice_split_at (λ b. eqb b 10) (join_with_byte 32 ws) 10 rest (join_free ws ink) refl

lines-cut : (text line rest : List ℕ) → IsCutAt 10 text line rest → lines_in text ≡ line ∷ lines_in rest
lines-cut text line rest h = ap lines_in h.parts ∙ slice_split_at (λ b. eqb b 10) line 10 rest h.first refl

same_text : (r s : List ℕ) → lines_in r ≡ lines_in s → r ≡ s
same_text r s e = sym (join_with_byte-slice_split 10 r) ∙ ap (join_with_byte 10) e ∙ join_with_byte-slice_split 10 s

head_is : {A : Type 0} (x y : A) (xs ys : List A) → x ∷ xs ≡ y ∷ ys → x ≡ y
head_is x y xs ys e = cc

tail_is : {A : Type 0} (x y : A) (xs ys : List A) → x ∷ xs ≡ y ∷ ys → xs ≡ ys
tail_is x y xs ys e = cc

-- two lines that begin the same bytes are one
pub front_line : (w : Word) (ws : List Word) (v : Word) (vs : List Word) (r s : List ℕ) → AreInk (w ∷ ws) → AreInk (v ∷ vs)
    → line_of_words (w ∷ ws) ++ r ≡ line_of_words (v ∷ vs) ++ s → (w ∷ ws ≡ v ∷ vs) × (r ≡ s)
front_line w ws v vs r s ink_w ink_v e =
    let cut : join_with_byte 32 (w ∷ ws) ∷ lines_in r ≡ join_with_byte 32 (v ∷ vs) ∷ lines_in s =
    sym (lines-line (w ∷ ws) r ink_w) ∙ ap lines_in e ∙ lines-line (v ∷ vs) s ink_v in
    let joined = head_is (join_with_byte 32 (w ∷ ws)) (join_with_byte 32 (v ∷ vs)) (lines_in r) (lines_in s) cut in (
      sym (words-join w ws ink_w) ∙ ap words_in joined ∙ words-join v vs ink_v,
      same_text r s (tail_is (join_with_byte 32 (w ∷ ws)) (join_with_byte 32 (v ∷ vs)) (lines_in r) (lines_in s) cut),
    )

-- a line ends in a newline, so that it isn't empty
pub line_some : (ws : List Word) (rest : List ℕ) → line_of_words ws ++ rest ≢ []
line_some ws rest e =
    let long : length (line_of_words ws ++ rest) ≡ 0 = ap length e in
    omega (arith, length-append (line_of_words ws) rest, length-append (join_with_byte 32 ws) (10 ∷ []))

-- bytes with no newline begin with no line
pub free_line : (text : List ℕ) (ws : List Word) (rest : List ℕ) → IsNowhereIn 10 text → text ≡ line_of_words ws ++ rest → ⊥
free_line text ws rest free e =
    let P : ℕ → Type 0 = λ b. eqb b 10 ≡ false in
    let joined : List ℕ = join_with_byte 32 ws in
    let parts : joined ++ 10 ∷ rest ≡ text = sym (e ∙ append_assoc joined (10 ∷ []) rest) in
    let back = All-drop P (length joined) (joined ++ 10 ∷ rest) (All-same P (joined ++ 10 ∷ rest) text parts free) in
    let there : List ℕ → Type 0 = λ bs. All P bs in
    let first : true ≡ false = All-head P 10 rest (subst there (drop_at joined (10 ∷ rest) (length joined) refl) back) in
    absurd cc

-- the first line of bytes, as a reader of all of its words reads it
pub line_read : {A : Type 0} {write : A → List Word} {Fits : A → Type 0} {read : Reader A} → IsFormat write Fits read
    → (text line rest : List ℕ) (a : A) → IsCutAt 10 text line rest → whole read (words_in line) ≡ Some a
    → (text ≡ line_of_words (write a) ++ rest) × Fits a
line_read {write = write} format text line rest a cut e =
    let t = whole-takes format (words_in line) a e in
    let joined : line ≡ join_with_byte 32 (write a) = sym (join_with_byte-slice_split 32 line) ∙ ap (join_with_byte 32) t.0 in
    (cut.parts ∙ ap (λ (l : List ℕ). l ++ 10 ∷ rest) joined ∙ sym (append_assoc (join_with_byte 32 (write a)) (10 ∷ []) rest), t.1)

-- each value is written with a word
abbrev pub HasWords : {A : Type 0} → (A → List Word) → Type 0
HasWords {A} write = (a : A) → (w : Word) × (ws : List Word) × (write a ≡ w ∷ ws)

-- where it reads nothing, the bytes begin with no line of a value
pub line_none : {A : Type 0} {write : A → List Word} {Fits : A → Type 0} {read : Reader A} → IsFormat write Fits read → HasWords write
    → (text line rest : List ℕ) → IsCutAt 10 text line rest → whole read (words_in line) ≡ None
    → (a : A) (after : List ℕ) → Fits a → text ≡ line_of_words (write a) ++ after → ⊥
line_none {A} {write} {Fits} {read} format some text line rest cut e a after fits begins =
    let ink = written_ink format a fits in
    let s = some a in
    let there : List Word → Type 0 = AreInk in
    let ink_s : AreInk (s.0 ∷ s.1) = subst there s.2 ink in
    let found : line ≡ join_with_byte 32 (write a) =
    head_is line (join_with_byte 32 (write a)) (lines_in rest) (lines_in after) (sym (lines-cut text line rest cut) ∙ ap lines_in begins ∙ lines-line (write a) after ink) in
    let words : words_in line ≡ write a =
    ap words_in (found ∙ ap (join_with_byte 32) s.2) ∙ words-join s.0 s.1 ink_s ∙ sym s.2 in
    none-some a (sym e ∙ ap (whole read) words ∙ whole-again format a fits)

-- bytes begin with the line of one value at most
pub front_line_of : {A : Type 0} {write : A → List Word} {Fits : A → Type 0} {read : Reader A} → IsFormat write Fits read → HasWords write
    → (a b : A) (r s : List ℕ) → Fits a → Fits b → line_of_words (write a) ++ r ≡ line_of_words (write b) ++ s → (a ≡ b) × (r ≡ s)
front_line_of {A} {write} {Fits} {read} format some a b r s fits_a fits_b e =
    let x = some a in
    let y = some b in
    let there : List Word → Type 0 = AreInk in
    let lines : line_of_words (x.0 ∷ x.1) ++ r ≡ line_of_words (y.0 ∷ y.1) ++ s =
    ap (λ (ws : List Word). line_of_words ws ++ r) (sym x.2) ∙ e ∙ ap (λ (ws : List Word). line_of_words ws ++ s) y.2 in
    let f = front_line x.0 x.1 y.0 y.1 r s (subst there x.2 (written_ink format a fits_a)) (subst there y.2 (written_ink format b fits_b)) lines in
    let words : write a ≡ write b = x.2 ∙ f.0 ∙ sym y.2 in
    (same_Some a b (sym (whole-again format a fits_a) ∙ ap (whole read) words ∙ whole-again format b fits_b), f.1)
