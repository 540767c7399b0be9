-- Passes that are divided and put together keep the rule.

use Rattle.std.proofs.Common.{◌≡◌, inl, inr, ℕ, ◌+◌, ◌*◌, ◌^◌, ◌≤◌, max, arith, List, [], ◌∷◌, ◌++◌, length, length-append, set, refl, sym, ◌∙◌}
use Rattle.std.proofs.lemmas.List.Elements.{All-append, All-nil}
use mathlib.Core.Option.{some}
use lib.ListN.{get_elem?}
use Rattle.atomic_table.specs.Table.{Splits, Joins}
use Rattle.atomic_table.proofs.Lists.{set_else}
use Rattle.ert_unique.specs.{Rule.{all_draws, DrawsFit}, Views.{keeping, part_of, taking_in, emptied}, declared.view.View.View}
use Rattle.ert_unique.proofs.{Passing.{Ruled, all_at_most, fits_set, fits_last}, Totals.{Adds, total_set, total_last, drawn_total, one_to_same}}

-- a division moves no draw
divided_draws : (m : List ℕ → ℕ) → Adds m → (views : List View) (id : ℕ) (v : View) (share moved : ℕ) → get_elem? views id ≡ some v
    → m (all_draws (set views id (keeping v share) ++ part_of v moved ∷ [])) ≡ m (all_draws views)
divided_draws m adds views id v share moved at =
    let now : List View = set views id (keeping v share) in
    omega (
      arith,
      drawn_total m adds views,
      drawn_total m adds (now ++ part_of v moved ∷ []),
      total_last (λ u. m u.draws) now (part_of v moved),
      total_set (λ u. m u.draws) views id v (keeping v share) at,
      adds.none,
    )

-- a pass may give a new one a part of its share, if its draws are within the rest
pub divides : (passes id : ℕ) (v : View) (share moved : ℕ) → v.passes ≡ passes → share + moved ≡ v.share
    → length v.draws ≤ 2 ^ 40 * share → Splits (Ruled passes) id v (keeping v share) (part_of v moved)
divides passes id v share moved opened parts short s kept at =
    let now : List View = set s.views id (keeping v share) in
    let fit = kept.fits id v at in
    record {
      word = kept.word;
      alone = kept.alone;
      numbers = one_to_same kept.word (all_draws s.views) (all_draws (now ++ part_of v moved ∷ [])) kept.numbers
          (λ m adds. divided_draws m adds s.views id v share moved at);
      shares = omega (arith, total_last (λ u. u.share) now (part_of v moved), total_set (λ u. u.share) s.views id v (keeping v share) at, kept.shares);
      fits = fits_last passes kept.word now (part_of v moved)
          (fits_set passes kept.word s.views id (keeping v share) kept.fits
          (record { short = short; seen = fit.seen; greatest = fit.greatest; opened = inl opened }))
          (record { short = omega arith; seen = fit.seen; greatest = All-nil (λ n. n ≤ v.seen); opened = inl opened });
    }

-- a union moves the draws of the other pass
united_draws : (m : List ℕ → ℕ) → Adds m → (views : List View) (id other : ℕ) (v w : View) → get_elem? views id ≡ some v
    → get_elem? (set views id (taking_in v w)) other ≡ some w → m (all_draws (set (set views id (taking_in v w)) other emptied)) ≡ m (all_draws views)
united_draws m adds views id other v w at there =
    let now : List View = set views id (taking_in v w) in
    omega (
      arith,
      drawn_total m adds views,
      drawn_total m adds (set now other emptied),
      total_set (λ u. m u.draws) views id v (taking_in v w) at,
      total_set (λ u. m u.draws) now other w emptied there,
      adds.none,
      adds.parts v.draws w.draws,
    )

united_fits : (passes word : ℕ) (v w : View) → DrawsFit passes word v → DrawsFit passes word w → v.passes ≡ passes → DrawsFit passes word (taking_in v w)
united_fits passes word v w fit other opened = record {
  short = omega (arith, length-append v.draws w.draws, fit.short, other.short);
  seen = omega (arith, fit.seen, other.seen);
  greatest = All-append (λ n. n ≤ max v.seen w.seen) v.draws w.draws
      (all_at_most v.draws v.seen (max v.seen w.seen) (omega arith) fit.greatest)
      (all_at_most w.draws w.seen (max v.seen w.seen) (omega arith) other.greatest);
  opened = inl opened;
}

spent_fits : (passes word : ℕ) → DrawsFit passes word emptied
spent_fits passes word = record { short = omega arith; seen = omega arith; greatest = All-nil (λ n. n ≤ 0); opened = inr refl }

-- a pass may take in another
pub unites : (passes id : ℕ) (v : View) (other : ℕ) (w : View) → v.passes ≡ passes → Joins (Ruled passes) id v other w (taking_in v w) emptied
unites passes id v other w opened s kept at not there =
    let now : List View = set s.views id (taking_in v w) in
    let with : get_elem? s.views other ≡ some w = sym (set_else s.views id other (taking_in v w) not) ∙ there in
    record {
      word = kept.word;
      alone = kept.alone;
      numbers = one_to_same kept.word (all_draws s.views) (all_draws (set now other emptied)) kept.numbers
          (λ m adds. united_draws m adds s.views id other v w at there);
      shares = omega (arith, total_set (λ u. u.share) s.views id v (taking_in v w) at, total_set (λ u. u.share) now other w emptied there, kept.shares);
      fits = fits_set passes kept.word now other emptied
          (fits_set passes kept.word s.views id (taking_in v w) kept.fits
          (united_fits passes kept.word v w (kept.fits id v at) (kept.fits other w with) opened))
          (spent_fits passes kept.word);
    }
