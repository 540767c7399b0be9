-- The words of a line from a place on.

use Rattle.std.proofs.Common.{◌≡◌, ◌≤◌, ◌<◌, ◌+◌, ◌-◌, ℕ, arith, refl, sym, ap, ◌∙◌, List, [], ◌∷◌, length, take, drop, get_or, length-append, length-drop}
use Rattle.std.proofs.{lemmas.Bool.{le-leb, lt-leb}, lemmas.List.drop-drop, Math.Seq.{drop-append-add, take-length}}
use Rattle.ert_audit.specs.{Cuts.{IsNowhereIn, IsCutAt, words_in}, Faults.{word_in, words_from}, Parts.Word}
use Rattle.ert_audit.proofs.Splits.{cut_words, free_words}

-- the first word of bytes that have a blank, and the one word of others
pub cut_word : (bytes front rest : List ℕ) → IsCutAt 32 bytes front rest → front ≡ word_in bytes
cut_word bytes front rest h = ap (λ (ws : List Word). get_or ws 0 []) (sym (cut_words bytes front rest h))

pub free_word : (bytes : List ℕ) → IsNowhereIn 32 bytes → bytes ≡ word_in bytes
free_word bytes h = ap (λ (ws : List Word). get_or ws 0 []) (sym (free_words bytes h))

-- in the line there are words, and behind it none
pub words_within : (line : List ℕ) (at : ℕ) → at ≤ length line → words_from line at ≡ words_in (drop at line)
words_within line at h = rw (le-leb at (length line) h) refl

pub words_behind : (line : List ℕ) (at : ℕ) → length line < at → words_from line at ≡ []
words_behind line at h = rw (lt-leb at (length line) h) refl

-- a slice from a place on
pub all_from : {A : Type 0} (line : List A) (at : ℕ) → take (length line - at) (drop at line) ≡ drop at line
all_from line at = ap (λ n. take n (drop at line)) (sym (length-drop at line)) ∙ take-length (drop at line)

-- behind a word and its blank stand the others
pub cut_more : (line : List ℕ) (at : ℕ) (front rest : List ℕ) → at ≤ length line → IsCutAt 32 (drop at line) front rest
    → words_from line at ≡ front ∷ words_from line (at + length front + 1)
cut_more line at front rest within h =
    let behind : drop (at + (length front + 1)) line ≡ rest =
    sym (drop-drop (length front + 1) at line) ∙ (ap (drop (length front + 1)) h.parts ∙ drop-append-add front (32 ∷ rest) 1) in
    let size : length (drop at line) ≡ length front + (length rest + 1) =
    ap length h.parts ∙ (length-append front (32 ∷ rest) ∙ omega arith) in
    let low : at + length front + 1 ≤ length line = omega (arith, length-drop at line) in
    let same : at + length front + 1 ≡ at + (length front + 1) = omega arith in
    words_within line at within ∙ cut_words (drop at line) front rest h
    ∙ ap (λ (ws : List Word). front ∷ ws)
    (sym (words_within line (at + length front + 1) low ∙ ap words_in (ap (λ n. drop n line) same ∙ behind)))

pub free_more : (line : List ℕ) (at : ℕ) → at ≤ length line → IsNowhereIn 32 (drop at line)
    → words_from line at ≡ drop at line ∷ words_from line (at + length (drop at line) + 1)
free_more line at within h =
    let high : length line < at + length (drop at line) + 1 = omega (arith, length-drop at line) in
    words_within line at within ∙ free_words (drop at line) h
    ∙ ap (λ (ws : List Word). drop at line ∷ ws) (sym (words_behind line (at + length (drop at line) + 1) high))
