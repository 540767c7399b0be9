-- What is so of each pass, over changes.

use Rattle.std.proofs.Common.{◌≡◌, ◌≢◌, ℕ, suc, ◌≤◌, ⊎_elim, arith, List, [], ◌∷◌, ◌++◌, set, All, subst}
use mathlib.Core.Option.{some}
use lib.ListN.{get_elem?}
use Rattle.atomic_table.specs.Table.{State}
use Rattle.atomic_table.proofs.Lists.{at_set, at_snoc}
use Rattle.ert_unique.specs.{Rule.{DrawsFit, AreUniqueDraws}, declared.view.View.View}

-- the rule, of a table for so many passes
abbrev pub Ruled : ℕ → State (Unit {0}) View → Type 0
Ruled passes s = AreUniqueDraws passes s.words s.views

-- each pass fits
abbrev pub AllFit : ℕ → ℕ → List View → Type 0
AllFit passes word views = (k : ℕ) (v : View) → get_elem? views k ≡ some v → DrawsFit passes word v

-- each pass but the first fits
pub fits_rest : (passes word : ℕ) (v : View) (views : List View) → AllFit passes word (v ∷ views) → AllFit passes word views
fits_rest passes word v views fits k u at = fits (suc k) u at

-- numbers that are at most one are at most a greater one
pub all_at_most : (xs : List ℕ) (a b : ℕ) → a ≤ b → All (λ n. n ≤ a) xs → All (λ n. n ≤ b) xs
all_at_most xs a b le all k d lt = omega (arith, all k d lt)

-- a pass fits after others drew
pub fits_on : (passes a b : ℕ) (v : View) → a ≤ b → DrawsFit passes a v → DrawsFit passes b v
fits_on passes a b v le fit = record {
  short = fit.short;
  seen = omega (arith, fit.seen);
  greatest = fit.greatest;
  opened = fit.opened;
}

pub fits_set : (passes word : ℕ) (views : List View) (id : ℕ) (w : View) → AllFit passes word views → DrawsFit passes word w
    → AllFit passes word (set views id w)
fits_set passes word views id w fits fit k u at =
    ⊎_elim (λ (here : (k ≡ id) × (w ≡ u)). subst (DrawsFit passes word) here.1 fit)
    (λ (there : (k ≢ id) × (get_elem? views k ≡ some u)). fits k u there.1)
    (at_set views id k w u at)

pub fits_last : (passes word : ℕ) (views : List View) (w : View) → AllFit passes word views → DrawsFit passes word w
    → AllFit passes word (views ++ w ∷ [])
fits_last passes word views w fits fit k u at =
    ⊎_elim (λ (there : get_elem? views k ≡ some u). fits k u there)
    (λ (here : w ≡ u). subst (DrawsFit passes word) here fit)
    (at_snoc views w u k at)
