-- Lists that are gone over, with one more item.

use Rattle.std.proofs.Common.{◌≡◌, ℕ, suc, zero, ◌+◌, ◌<◌, List, [], ◌∷◌, ◌++◌, length, take, slice_index_or, refl, sym, ap, ◌∙◌, arith, append-nil, append_assoc}
use Rattle.std.proofs.lemmas.List.{take_more}
use Rattle.ert_program.specs.{Reports.{Did, all_labels, lines_by, heading, lists_text}, Lists.{did_of, dids_of}, declared.races.list.ListDone.ListDone}
use Rattle.ert_ops.specs.{Labels.{Labels, label_of}, Lines.line_of, declared.reply.Reply.Reply}

-- the labels of one list more
labels_last : (labels : Labels) (dids : List Did) (d : Did) → all_labels labels (dids ++ d ∷ []) ≡ all_labels labels dids ++ d.own
labels_last labels [] d = refl
labels_last labels (first ∷ dids) d = labels_last (labels ++ first.own) dids d

dids_last : (lists : List ListDone) (d : ListDone) → dids_of (lists ++ d ∷ []) ≡ dids_of lists ++ did_of d ∷ []
dids_last [] d = refl
dids_last (first ∷ lists) d = ap (λ l. did_of first ∷ l) (dids_last lists d)

dids_more : (lists : List ListDone) (i : ℕ) (d : ListDone) → i < length lists
    → dids_of (take (i + 1) lists) ≡ dids_of (take i lists) ++ did_of (slice_index_or lists i d) ∷ []
dids_more lists i d low =
    ap (λ l. dids_of l) (take_more lists i d low) ∙ dids_last (take i lists) (slice_index_or lists i d)

pub labels_more : (labels : Labels) (lists : List ListDone) (i : ℕ) (d : ListDone) → i < length lists
    → all_labels labels (dids_of (take i lists)) ++ (slice_index_or lists i d).own ≡ all_labels labels (dids_of (take (i + 1) lists))
labels_more labels lists i d low =
    sym (ap (λ l. all_labels labels l) (dids_more lists i d low)
    ∙ labels_last labels (dids_of (take i lists)) (did_of (slice_index_or lists i d)))

-- one line more
lines_last : (labels : Labels) (rs : List Reply) (r : Reply) → lines_by labels (rs ++ r ∷ []) ≡ lines_by labels rs ++ line_of (label_of labels) r
lines_last labels [] r = append-nil (line_of (label_of labels) r)
lines_last labels (first ∷ rs) r =
    ap (λ l. line_of (label_of labels) first ++ l) (lines_last labels rs r)
    ∙ sym (append_assoc (line_of (label_of labels) first) (lines_by labels rs) (line_of (label_of labels) r))

pub lines_more : (page now new : List ℕ) (labels : Labels) (rs : List Reply) (i : ℕ) (d : Reply) → i < length rs
    → now ≡ page ++ lines_by labels (take i rs) → new ≡ now ++ line_of (label_of labels) (slice_index_or rs i d)
    → new ≡ page ++ lines_by labels (take (i + 1) rs)
lines_more page now new labels rs i d low before line =
    line ∙ (ap (λ l. l ++ line_of (label_of labels) (slice_index_or rs i d)) before
    ∙ (append_assoc page (lines_by labels (take i rs)) (line_of (label_of labels) (slice_index_or rs i d))
    ∙ ap (λ l. page ++ l) (sym (ap (λ l. lines_by labels l) (take_more rs i d low) ∙ lines_last labels (take i rs) (slice_index_or rs i d)))))

-- the text of one list more
after_first : (k n : ℕ) → suc k + n ≡ k + suc n
after_first k n = omega arith

text_last : (labels : Labels) (k : ℕ) (dids : List Did) (d : Did)
    → lists_text labels k (dids ++ d ∷ []) ≡ lists_text labels k dids ++ (heading (k + length dids) ++ lines_by labels d.replies)
text_last labels k [] d =
    ap (λ l. heading k ++ l) (append-nil (lines_by labels d.replies)) ∙ ap (λ n. heading n ++ lines_by labels d.replies) (at_none k)
  where
    at_none : (n : ℕ) → n ≡ n + 0
    at_none n = omega arith
text_last labels k (first ∷ dids) d =
    let more : List ℕ = heading (suc k + length dids) ++ lines_by labels d.replies in
    ap (λ l. heading k ++ (lines_by labels first.replies ++ l)) (text_last labels (suc k) dids d)
    ∙ (ap (λ l. heading k ++ l) (sym (append_assoc (lines_by labels first.replies) (lists_text labels (suc k) dids) more))
    ∙ (sym (append_assoc (heading k) (lines_by labels first.replies ++ lists_text labels (suc k) dids) more)
    ∙ ap (λ n. lists_text labels k (first ∷ dids) ++ (heading n ++ lines_by labels d.replies)) (after_first k (length dids))))

take_few : (lists : List ListDone) (i : ℕ) → i < length lists → length (dids_of (take i lists)) ≡ i
take_few [] i low = absurd (omega arith)
take_few (first ∷ lists) zero low = refl
take_few (first ∷ lists) (suc i) low = ap (λ n. suc n) (take_few lists i (omega (arith, low)))

pub text_more : (page now head new : List ℕ) (labels : Labels) (lists : List ListDone) (i : ℕ) (d : ListDone) → i < length lists
    → now ≡ page ++ lists_text labels 0 (dids_of (take i lists)) → head ≡ now ++ heading i
    → new ≡ head ++ lines_by labels (slice_index_or lists i d).replies.items
    → new ≡ page ++ lists_text labels 0 (dids_of (take (i + 1) lists))
text_more page now head new labels lists i d low before titled lined =
    let lines : List ℕ = lines_by labels (slice_index_or lists i d).replies.items in
    let text : List ℕ = lists_text labels 0 (dids_of (take i lists)) in
    let whole : lists_text labels 0 (dids_of (take (i + 1) lists)) ≡ text ++ (heading i ++ lines) =
    ap (λ l. lists_text labels 0 l) (dids_more lists i d low)
    ∙ (text_last labels 0 (dids_of (take i lists)) (did_of (slice_index_or lists i d))
    ∙ ap (λ n. text ++ (heading n ++ lines)) (from_zero (length (dids_of (take i lists))) i (take_few lists i low))) in
    lined ∙ (ap (λ l. l ++ lines) (titled ∙ ap (λ l. l ++ heading i) before)
    ∙ (append_assoc (page ++ text) (heading i) lines
    ∙ (append_assoc page text (heading i ++ lines)
    ∙ ap (λ l. page ++ l) (sym whole))))
  where
    from_zero : (n i : ℕ) → n ≡ i → 0 + n ≡ i
    from_zero n i is = omega (arith, is)

-- the parts of a page, one after the other
pub page_of : (first second third page lists settled end : List ℕ) → first ≡ [] → second ≡ first ++ lists → third ≡ second ++ settled → page ≡ third ++ end
    → page ≡ lists ++ (settled ++ end)
page_of first second third page lists settled end none one two three =
    three ∙ (ap (λ l. l ++ end) (two ∙ ap (λ l. l ++ settled) (one ∙ ap (λ l. l ++ lists) none)) ∙ append_assoc lists settled end)
