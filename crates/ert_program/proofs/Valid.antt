-- The arguments of generated ops are in range, and the labels of their starts rise.

use Rattle.std.proofs.Common.{◌≡◌, ◌≢◌, ℕ, zero, suc, ◌+◌, ◌<◌, ◌≤◌, ◌⊎◌, inl, inr, List, [], ◌∷◌, length, get_or, AllPairs, refl, sym, subst, arith}
use Rattle.std.proofs.lemmas.Int.{ints}
use Rattle.ert_defs.specs.Readings.{IsValid}
use Rattle.ert_ops.specs.{Labels.{labels_in, AreOps}, Ranges.{IsOpInRange, AreOpsInRange}, declared.op.Op.Op}
use Rattle.ert_program.specs.{Draws.{after, draw}, Generated.generated_settings, Steps.{Made, IsBounded, first, made_tick, next_op, next_ops}, declared.generator.Generator.Generator}
use Rattle.ert_program.proofs.{Draws.draw_low, Within.{IsWithin, room, drawn_within, ticked_within, first_within, next_within, by_choice}}

-- ---- the ranges

valid : (m : Generator) → IsBounded m → IsValid (record { mono = m.mono; sys = m.sys })
valid m h = record { mono_low = h.mono_low; mono_high = omega (arith, ints); sys_low = omega (arith, ints); sys_high = omega (arith, ints) }

label_low : (m : Generator) (k x : ℕ) → k ≤ 100000 → IsWithin k m → draw (m.next + 1) x ≤ 999999
label_low m k x few h = let low : draw (m.next + 1) x < m.next + 1 = draw_low (m.next + 1) x (omega arith) in omega arith

next_in_range : (k : ℕ) (m : Generator) → k < 100000 → IsWithin k m → IsOpInRange generated_settings (next_op m).op
unfolding next_op
next_in_range k m few h =
    let g : Generator = record m { x = after m.x } in
    let w : IsWithin k g = drawn_within k (after m.x) m h in
    by_choice (λ made. IsOpInRange generated_settings made.op) (draw 8 m.x) g
    (valid (made_tick g).later (room (k + 1) (made_tick g).later (omega arith) (ticked_within k g w)))
    (omega arith, draw_low 4 g.x (omega arith), draw_low 8 (after (after g.x)) (omega arith))
    (label_low g k g.x (omega arith) w)
    (label_low g k g.x (omega arith) w)
    (draw_low 4 g.x (omega arith))
    (draw_low 8 g.x (omega arith))

in_range_from : (n k : ℕ) (m : Generator) → k + n ≤ 100000 → IsWithin k m → AreOpsInRange generated_settings (next_ops n m)
in_range_from zero k m few h = tt
in_range_from (suc n) k m few h =
    (next_in_range k m (omega arith) h, in_range_from n (k + 1) (next_op m).later (omega arith) (next_within k m h))

pub ops_in_range : (seed n : ℕ) → n ≤ 100000 → AreOpsInRange generated_settings (next_ops n (first seed))
ops_in_range seed n few = in_range_from n 0 (first seed) (omega arith) (first_within seed)

-- ---- how many

pub as_many : (n : ℕ) (m : Generator) → length (next_ops n m) ≡ n
as_many zero m = refl
as_many (suc n) m = let others = as_many n (next_op m).later in omega arith

-- ---- the labels

-- each label is at least this low, and greater than the one before it
abbrev Rising : ℕ → List ℕ → Type 0
Rising low [] = Unit {0}
Rising low (l ∷ labels) = (low ≤ l) × Rising (l + 1) labels

-- the op is no start
record Keeps (m : Generator) (made : Made) : Type 0 where
  labels : (rest : List Op) → labels_in (made.op ∷ rest) ≡ labels_in rest
  next : made.later.next ≡ m.next

-- the op is a start with the next label
record Adds (m : Generator) (made : Made) : Type 0 where
  labels : (rest : List Op) → labels_in (made.op ∷ rest) ≡ m.next ∷ labels_in rest
  next : made.later.next ≡ m.next + 1

next_label : (m : Generator) → Keeps m (next_op m) ⊎ Adds m (next_op m)
unfolding next_op
next_label m =
    let g : Generator = record m { x = after m.x } in
    by_choice (λ made. Keeps m made ⊎ Adds m made) (draw 8 m.x) g
    (inl (record { labels = λ rest. refl; next = refl }))
    (inr (record { labels = λ rest. refl; next = refl }))
    (inl (record { labels = λ rest. refl; next = refl }))
    (inl (record { labels = λ rest. refl; next = refl }))
    (inl (record { labels = λ rest. refl; next = refl }))
    (inl (record { labels = λ rest. refl; next = refl }))

with_next : (m : Generator) (made : Made) (rest : List Op) → Keeps m made ⊎ Adds m made → Rising made.later.next (labels_in rest)
    → Rising m.next (labels_in (made.op ∷ rest))
with_next m made rest (inl keeps) h =
    subst (Rising m.next) (sym (keeps.labels rest)) (subst (λ low. Rising low (labels_in rest)) keeps.next h)
with_next m made rest (inr adds) h =
    subst (Rising m.next) (sym (adds.labels rest)) (omega arith, subst (λ low. Rising low (labels_in rest)) adds.next h)

labels_rise : (n : ℕ) (m : Generator) → Rising m.next (labels_in (next_ops n m))
labels_rise zero m = tt
labels_rise (suc n) m = with_next m (next_op m) (next_ops n (next_op m).later) (next_label m) (labels_rise n (next_op m).later)

above : (low : ℕ) (labels : List ℕ) → Rising low labels → (i d : ℕ) → i < length labels → low ≤ get_or labels i d
above low [] h i d lt = absurd (omega arith)
above low (l ∷ labels) h zero d lt = h.0
above low (l ∷ labels) h (suc i) d lt = let higher = above (l + 1) labels h.1 i d (omega arith) in omega arith

pairs_cons : (l : ℕ) (labels : List ℕ) → ((i d : ℕ) → i < length labels → l ≢ get_or labels i d) → AllPairs (λ (a : ℕ) b. a ≢ b) labels
    → AllPairs (λ (a : ℕ) b. a ≢ b) (l ∷ labels)
pairs_cons l labels first others i zero d lt le = absurd (omega arith)
pairs_cons l labels first others zero (suc j) d lt le = first j d (omega arith)
pairs_cons l labels first others (suc i) (suc j) d lt le = others i j d (omega arith) (omega arith)

apart : (low : ℕ) (labels : List ℕ) → Rising low labels → AllPairs (λ (a : ℕ) b. a ≢ b) labels
apart low [] h = λ i j d lt le. absurd (omega arith)
apart low (l ∷ labels) h =
    pairs_cons l labels (λ i d lt same. let higher = above (l + 1) labels h.1 i d lt in omega arith) (apart (l + 1) labels h.1)

pub are_ops : (seed n : ℕ) → n ≤ 100000 → AreOps (next_ops n (first seed))
are_ops seed n few = record {
  apart = apart 0 (labels_in (next_ops n (first seed))) (labels_rise n (first seed));
  few = subst (λ count. count ≤ 100000) (sym (as_many n (first seed))) few;
}
