-- What an index finds, and what it finds when a label was bound.

use Rattle.std.proofs.Common.{◌≡◌, ℕ, Bool, true, false, cond, nat_eq, [], ◌∷◌, Option, Some, None, refl, sym, ap, ◌∙◌}
use Rattle.std.specs.{Cmp.{unsigned_ties, both_tied}, Option.{unwrap_or, option_or}, Ordering.{nat_cmp, eq_by_cmp}}
use Rattle.ert_defs.specs.{Timers.{same_timer, timer_at}, declared.timer.TimerRef.TimerRef}
use Rattle.ert_script.specs.{LabelMaps.{AreFound, first_ref, first_label}, Keys.{key_of_timer, key_cmp}}
use Rattle.ert_ops.specs.Labels.{Labels, bind, ref_of, label_in, label_of}

-- the first of a list, or what stands for none
first_or : {T : Type 0} (b : Bool) (x y d : T) (o : Option T) → y ≡ unwrap_or o d → cond b x y ≡ unwrap_or (cond b (Some x) o) d
first_or true x y d o e = refl
first_or false x y d o e = e

-- one more at the end counts where there is none before
last_counts : {T : Type 0} (b : Bool) (x : T) (o p z : Option T) → p ≡ option_or o z → cond b (Some x) p ≡ option_or (cond b (Some x) o) z
last_counts true x o p z e = refl
last_counts false x o p z e = e

ref_first : (ls : Labels) (l : ℕ) → ref_of ls l ≡ unwrap_or (first_ref ls l) (timer_at 0 l 0)
ref_first [] l = refl
ref_first (p ∷ ps) l = first_or (nat_eq p.0 l) p.1 (ref_of ps l) (timer_at 0 l 0) (first_ref ps l) (ref_first ps l)

label_first : (ls : Labels) (r : TimerRef) → label_in ls r ≡ unwrap_or (first_label ls r) r.slot
label_first [] r = refl
label_first (p ∷ ps) r = first_or (same_timer p.1 r) p.0 (label_in ps r) r.slot (first_label ps r) (label_first ps r)

ref_bound : (ls : Labels) (l : ℕ) (t : TimerRef) (q : ℕ) → first_ref (bind ls l t) q ≡ option_or (first_ref ls q) (cond (nat_eq l q) (Some t) None)
ref_bound [] l t q = refl
ref_bound (p ∷ ps) l t q =
    last_counts (nat_eq p.0 q) p.1 (first_ref ps q) (first_ref (bind ps l t) q) (cond (nat_eq l q) (Some t) None) (ref_bound ps l t q)

label_bound : (ls : Labels) (l : ℕ) (t : TimerRef) (r : TimerRef)
    → first_label (bind ls l t) r ≡ option_or (first_label ls r) (cond (same_timer t r) (Some l) None)
label_bound [] l t r = refl
label_bound (p ∷ ps) l t r =
    last_counts (same_timer p.1 r) p.0 (first_label ps r) (first_label (bind ps l t) r) (cond (same_timer t r) (Some l) None) (label_bound ps l t r)

-- the timer of a label, as it is found
pub found_ref : (ls now : Labels) (refs : ℕ → Option TimerRef) (labels : ℕ × ℕ × ℕ → Option ℕ) (l : ℕ) (o : Option TimerRef) → AreFound ls refs labels → ls ≡ now
    → o ≡ refs l → unwrap_or o (timer_at 0 l 0) ≡ ref_of now l
found_ref ls now refs labels l o found seen is =
    ap (λ (x : Option TimerRef). unwrap_or x (timer_at 0 l 0)) (is ∙ found.of_label l) ∙ sym (ref_first ls l) ∙ ap (λ (x : Labels). ref_of x l) seen

-- the label of a timer, as it is found
pub found_label : (ls now : Labels) (refs : ℕ → Option TimerRef) (labels : ℕ × ℕ × ℕ → Option ℕ) (r : TimerRef) (o : Option ℕ) → AreFound ls refs labels → ls ≡ now
    → nat_eq r.generation 0 ≡ false → o ≡ labels (key_of_timer r) → unwrap_or o r.slot ≡ label_of now r
found_label ls now refs labels r o found seen named is =
    ap (λ (x : Option ℕ). unwrap_or x r.slot) (is ∙ found.of_timer r) ∙ sym (label_first ls r) ∙ ap (λ (x : Labels). label_in x r) seen
    ∙ ap (λ (b : Bool). cond b r.slot (label_in now r)) (sym named)

-- equal keys are those of one reference
key_ties : (t r : TimerRef) → same_timer t r ≡ eq_by_cmp key_cmp (key_of_timer t) (key_of_timer r)
key_ties t r =
    both_tied _ _ _ _ (both_tied _ _ _ _ (unsigned_ties t.wheel r.wheel) (unsigned_ties t.slot r.slot)) (unsigned_ties t.generation r.generation)

-- a label was put into both maps
pub found_bound : (ls : Labels) (refs refs_new : ℕ → Option TimerRef) (labels labels_new : ℕ × ℕ × ℕ → Option ℕ) (l : ℕ) (t : TimerRef)
    → ((q : ℕ) → refs_new q ≡ option_or (refs q) (cond (eq_by_cmp nat_cmp l q) (Some t) None))
    → ((q : ℕ × ℕ × ℕ) → labels_new q ≡ option_or (labels q) (cond (eq_by_cmp key_cmp (key_of_timer t) q) (Some l) None))
    → AreFound ls refs labels → AreFound (bind ls l t) refs_new labels_new
found_bound ls refs refs_new labels labels_new l t put_ref put_label found = record {
  of_label = λ q. put_ref q
      ∙ (λ j. option_or (found.of_label q j) (cond (sym (unsigned_ties l q) j) (Some t) None))
      ∙ sym (ref_bound ls l t q);
  of_timer = λ r. put_label (key_of_timer r)
      ∙ (λ j. option_or (found.of_timer r j) (cond (sym (key_ties t r) j) (Some l) None))
      ∙ sym (label_bound ls l t r);
}
