-- The rule holds at the opening.

use Rattle.std.proofs.Common.{◌≡◌, ◌≢◌, ⊎_elim, ℕ, ℤ, pos, zero, suc, ◌<◌, ◌-ℤ◌, [], ◌∷◌, replicate, slice_index, refl, sym, ap, subst, ◌∙◌, arith, length-set, get_or-set_same, get_or-set_other}
use Rattle.std.proofs.{Math.ListN.{length-replicate, get_or-replicate}, lemmas.Bool.cases_eq, lemmas.Int.ints}
use mathlib.Core.Option.{some, some-injective, some-ne-none}
use lib.ListN.{get_elem?}
use Rattle.ert_defs.specs.{Milliseconds.natural, States.opening, Words.{word_of, word_count, time_word}, declared.settings.Settings.Settings}
use Rattle.ert_table.specs.{Openings.first_words, Rule.{Fits, Holds}, Views.first_view, Places.{slot_place, process_place}, declared.view.View.View}
use Rattle.ert_table.proofs.WordPlaces.{Use, for_time, for_offset, for_slot, for_process, for_gap, use_of, word_of-slot, word_of-process}

no_time : (start : ℤ) → time_word start start ≡ 0
no_time start =
    let none : start -ℤ start ≡ pos 0 = omega (arith, ints) in
    ap natural none

-- each word of the opening but the offset is 0
opening_idle : (g : Settings) (i : ℕ) → i ≢ 16 → word_of g (opening g) i ≡ 0
opening_idle g i not = at (use_of g i)
  where
    here : (j : ℕ) → i ≡ j → word_of g (opening g) j ≡ 0 → word_of g (opening g) i ≡ 0
    here j is idle = ap (λ x. word_of g (opening g) x) is ∙ idle

    at : Use g i → word_of g (opening g) i ≡ 0
    at (for_time is) = here 8 is (no_time g.start)
    at (for_offset is) = absurd (not is)
    at (for_slot w k low lt is) = here (slot_place g w k) is (word_of-slot g (opening g) w k low lt)
    at (for_process p lt is) = here (process_place g p) is (word_of-process g (opening g) p lt)
    at (for_gap idle) = idle (opening g)

-- the words of the opening
first_shown : (g : Settings) (i : ℕ) → i < word_count g → slice_index (first_words g) i ≡ word_of g (opening g) i
first_shown g i lt =
    ⊎_elim
    (λ (is : i ≡ 16). subst (λ j. slice_index (first_words g) j ≡ word_of g (opening g) j) (sym is)
    (get_or-set_same (replicate (word_count g) 0) 16 _ 0 (omega (arith, length-replicate {A = ℕ} (word_count g) 0))))
    (λ (not : i ≢ 16). get_or-set_other (replicate (word_count g) 0) 16 i _ 0 not
    ∙ (get_or-replicate (word_count g) i 0 0 lt ∙ sym (opening_idle g i not)))
    (cases_eq i 16)

-- the first pass fits the empty history
first_fits : (g : Settings) → Fits g [] (first_view g)
first_fits g = record { later = []; begins = refl; own = λ a held. refl; named = refl; met = tt }

one_view : (x : View) (k : ℕ) (v : View) → get_elem? (x ∷ []) k ≡ some v → (k ≡ 0) × (x ≡ v)
one_view x zero v is = (refl, some-injective x v is)
one_view x (suc k) v is = absurd (some-ne-none v (sym is))

pub opens : (g : Settings) → Holds g (first_words g) (first_view g ∷ [])
opens g = record {
  history = [];
  legal = tt;
  counted = length-set (replicate (word_count g) 0) 16 _ ∙ length-replicate (word_count g) 0;
  shown = first_shown g;
  fits = λ k v is. subst (Fits g []) (one_view (first_view g) k v is).1 (first_fits g);
  apart = λ j k v w a at_v at_w held_v held_w. (one_view (first_view g) j v at_v).0 ∙ sym (one_view (first_view g) k w at_w).0;
}
