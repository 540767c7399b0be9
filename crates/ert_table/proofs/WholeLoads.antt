-- A load by a pass that holds every actor, which makes no entry.

use Rattle.std.proofs.Common.{◌≡◌, ⊎_elim, ℕ, ◌<◌, List, [], length, set, slice_index, refl, sym, ap, subst, ◌∙◌, length-set, get_or-set_same, get_or-set_other}
use Rattle.std.proofs.lemmas.Bool.{cases_eq}
use Rattle.atomic_table.specs.Table.{Step, keeps, Allows}
use Rattle.atomic_table.proofs.Lists.{set_again}
use Rattle.ert_defs.specs.{Legal.Legal, States.state, Words.{word_of, word_count}, declared.settings.Settings.Settings}
use Rattle.ert_table.specs.{Acts.{Sitter, Sees}, Held.IsWhole, Rule.Holds, declared.view.View.View}
use Rattle.ert_table.proofs.{Closings.whole_front, OneStep.Ruled}

-- a word is written as it was
same_word : (words : List ℕ) (i j : ℕ) → i < length words → slice_index (set words i (slice_index words i)) j ≡ slice_index words j
same_word words i j lt = ⊎_elim
    (λ (is : j ≡ i). subst (λ k. slice_index (set words i (slice_index words i)) k ≡ slice_index words k) (sym is)
    (get_or-set_same words i (slice_index words i) 0 lt))
    (λ not. get_or-set_other words i j (slice_index words i) 0 not)
    (cases_eq j i)

-- the load changes nothing, and finds a word of the state that the pass knows
pub sees : (g : Settings) (slots id : ℕ) (v : View) (step : Step (Unit {0})) → IsWhole g v.actors → step.word < word_count g
    → Allows (Ruled g) slots id (v, []) step.word (λ n. n) (λ n now. Sees g step (v, []) n now)
sees g slots id v step whole low s kept homes at fits =
    let i : ℕ = step.word in
    let n : ℕ = slice_index s.words i in
    let wide : i < length s.words = subst (λ x. i < x) (sym kept.counted) low in
    let front : kept.history ≡ v.front = whole_front g kept.history v kept.legal (kept.fits id v at) whole in
    let ruled : Holds g (set s.words i n) s.views = record {
      history = kept.history;
      legal = kept.legal;
      counted = length-set s.words i n ∙ kept.counted;
      shown = λ j lt. same_word s.words i j wide ∙ kept.shown j lt;
      fits = kept.fits;
      apart = kept.apart;
    } in
    let word : word_of g (state g v.front) i ≡ n = sym (kept.shown i low ∙ ap (λ h. word_of g (state g h) i) front) in
    (v, keeps, tt, subst (Holds g (set s.words i n)) (sym (set_again s.views id v at)) ruled, (refl, subst (Legal g) front kept.legal, word))

-- the same at the table, with its own settings
pub sees_at : (key g : Settings) (slots id : ℕ) (me : Sitter) (step : Step (Unit {0})) → key ≡ g → me.1 ≡ [] → IsWhole key me.0.actors → step.word < word_count key
    → Allows (Ruled key) slots id me step.word (λ n. n) (λ n now. Sees g step me n now)
sees_at key g slots id me step same bare whole low =
    let P : List (ℕ × Unit {0}) → Type 0 = λ l. Allows (Ruled key) slots id (me.0, l) step.word (λ n. n) (λ n now. Sees key step (me.0, l) n now) in
    subst (λ x. Allows (Ruled key) slots id me step.word (λ n. n) (λ n now. Sees x step me n now)) same
    (subst P (sym bare) (sees key slots id me.0 step whole low))
