-- No text has two verdicts.

use Rattle.std.proofs.Common.{◌≡◌, ◌<◌, ◌+◌, inl, inr, ℕ, arith, sym, ap, ◌∙◌, subst, List, length, take, drop}
use Rattle.std.proofs.lemmas.{Bool.cases_lt, List.{take-append-drop, take-take}}
use Rattle.ert_defs.specs.{Legal.Legal, Settings.IsChecked, declared.entry.Entry.Entry, declared.settings.Settings.Settings, States.opening}
use Rattle.ert_defs.proofs.Runs.{legal_first}
use Rattle.ert_judge.specs.Verdicts.{IsFirstIllegal}
use Rattle.ert_audit.specs.{Spelling.{Spells, MisspelledAt}, Verdicts.{IsHistory, IsLegalText, IsIllegalText, HasVerdict}, declared.verdict.Verdict.Verdict}
use Rattle.ert_audit.specs.declared.verdict.Verdict.TheVariants as verdicts

-- what the laws of spelling say
pub record OneSpelling : Type 0 where
  pub unique : (g other : Settings) (h others : List Entry) (text : List ℕ)
      → Spells g h text → Spells other others text → (g ≡ other) × (h ≡ others)
  pub never_both : (g : Settings) (h : List Entry) (text : List ℕ) (k : ℕ)
      → Spells g h text → IsChecked g → MisspelledAt text k → ⊥
  pub one_line : (text : List ℕ) (j k : ℕ) → MisspelledAt text j → MisspelledAt text k → j ≡ k

-- a beginning of a legal history is legal
begins : (g : Settings) (h : List Entry) (n : ℕ) → Legal g h → Legal g (take n h)
begins g h n legal =
    legal_first g (opening g) (take n h) (drop n h) (subst (λ (x : List Entry). Legal g x) (sym (take-append-drop n h)) legal)

-- a legal history has no entry that isn't legal
not_both : (g : Settings) (h : List Entry) (place : ℕ) → Legal g h → IsFirstIllegal g h place → ⊥
not_both g h place legal first = first.illegal (begins g h (place + 1) legal)

-- the first of two such places is no earlier than the other
no_earlier : (g : Settings) (h : List Entry) (j k : ℕ) → IsFirstIllegal g h j → IsFirstIllegal g h k → j < k → ⊥
no_earlier g h j k first other before =
    let shorter : Legal g (take (j + 1) (take k h)) = begins g (take k h) (j + 1) other.legal in
    first.illegal (subst (λ (x : List Entry). Legal g x) (take-take (j + 1) k h (omega arith)) shorter)

-- so there is one
one_place : (g : Settings) (h : List Entry) (j k : ℕ) → IsFirstIllegal g h j → IsFirstIllegal g h k → j ≡ k
one_place g h j k first other = elim (cases_lt j k) [
  | inl before ↦ absurd (no_earlier g h j k first other before)
  | inr after ↦ elim (cases_lt k j) [
    | inl later ↦ absurd (no_earlier g h k j other first later)
    | inr same ↦ omega arith
  ]
]

-- the same of another history that is this one
moved : (g other : Settings) (h others : List Entry) (k : ℕ) → g ≡ other → h ≡ others → IsFirstIllegal other others k → IsFirstIllegal g h k
moved g other h others k e f first =
    subst (λ (x : Settings). IsFirstIllegal x h k) (sym e) (subst (λ (x : List Entry). IsFirstIllegal other x k) (sym f) first)

-- two histories of a text are one
same_history : OneSpelling → (text : List ℕ) (a b : IsHistory text) → (a.settings ≡ b.settings) × (a.entries ≡ b.entries)
same_history one text a b = one.unique a.settings b.settings a.entries b.entries text a.spelled b.spelled

-- a text isn't both legal and not
legal_or_not : OneSpelling → (text : List ℕ) (n k : ℕ) → IsLegalText text n → IsIllegalText text k → ⊥
legal_or_not one text n k is not_so =
    let same = same_history one text is.history not_so.history in
    not_both is.history.settings is.history.entries not_so.place is.legal
    (moved is.history.settings not_so.history.settings is.history.entries not_so.history.entries not_so.place same.0 same.1 not_so.first)

-- nor is it misspelled where it spells a history
never_misspelled : OneSpelling → (text : List ℕ) (k : ℕ) → IsHistory text → MisspelledAt text k → ⊥
never_misspelled one text k h wrong = one.never_both h.settings h.entries text k h.spelled h.checked wrong

same_count : OneSpelling → (text : List ℕ) (m n : ℕ) → IsLegalText text m → IsLegalText text n → m ≡ n
same_count one text m n a b = a.all ∙ ap length (same_history one text a.history b.history).1 ∙ sym b.all

same_line : OneSpelling → (text : List ℕ) (j k : ℕ) → IsIllegalText text j → IsIllegalText text k → j ≡ k
same_line one text j k a b =
    let same = same_history one text a.history b.history in
    let place : a.place ≡ b.place = one_place a.history.settings a.history.entries a.place b.place a.first
    (moved a.history.settings b.history.settings a.history.entries b.history.entries b.place same.0 same.1 b.first) in
    a.at ∙ ap (λ n. n + 2) place ∙ sym b.at

pub verdict_is_one : OneSpelling → (text : List ℕ) (v w : Verdict) → HasVerdict text v → HasVerdict text w → v ≡ w
verdict_is_one one text (verdicts.Legal m) (verdicts.Legal n) a b = ap (λ k. verdicts.Legal k) (same_count one text m n a b)
verdict_is_one one text (verdicts.Legal m) (verdicts.Illegal k) a b = absurd (legal_or_not one text m k a b)
verdict_is_one one text (verdicts.Legal m) (verdicts.Refused k) a b = absurd (never_misspelled one text k a.history b)
verdict_is_one one text (verdicts.Illegal j) (verdicts.Legal n) a b = absurd (legal_or_not one text n j b a)
verdict_is_one one text (verdicts.Illegal j) (verdicts.Illegal k) a b = ap (λ n. verdicts.Illegal n) (same_line one text j k a b)
verdict_is_one one text (verdicts.Illegal j) (verdicts.Refused k) a b = absurd (never_misspelled one text k a.history b)
verdict_is_one one text (verdicts.Refused j) (verdicts.Legal n) a b = absurd (never_misspelled one text j b.history a)
verdict_is_one one text (verdicts.Refused j) (verdicts.Illegal k) a b = absurd (never_misspelled one text j b.history a)
verdict_is_one one text (verdicts.Refused j) (verdicts.Refused k) a b = ap (λ n. verdicts.Refused n) (one.one_line text j k a b)
