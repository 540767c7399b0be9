-- A draw keeps the rule, and tells that the number is new.

use Rattle.std.proofs.Common.{◌≡◌, ℕ, zero, suc, ◌+◌, ◌*◌, ◌%◌, ◌^◌, ◌<◌, ◌≤◌, ⊎_elim, arith, inl, List, [], ◌∷◌, length, set, sum_by, slice_index, refl, sym, ap, subst}
use Rattle.std.proofs.{Math.Nat.mod-eq_of_lt, lemmas.List.Sums.sum_by-cons, lemmas.List.Elements.{All-append, All-cons, All-nil}}
use mathlib.Core.Option.{some, some-injective, some-ne-none}
use lib.ListN.{get_elem?}
use Rattle.atomic_table.specs.Table.{Act, keeps, Allows, Valid, stepped, carried_after}
use Rattle.ert_unique.specs.{Rule.{all_draws, DrawsFit, AreUniqueDraws}, Steps.{Draws, UniqueSitter, DrawsNext}, Views.{drew, emptied}, declared.view.View.View}
use Rattle.ert_unique.proofs.{Passing.{Ruled, AllFit, all_at_most, fits_on, fits_rest, fits_set}, Totals.{Adds, length_adds, total_set, drawn_total, one_to_more}}

-- the lists are no longer than the shares allow
shares_bound : (passes word : ℕ) (views : List View) → AllFit passes word views
    → sum_by (λ v. length v.draws) views ≤ 2 ^ 40 * sum_by (λ v. v.share) views
shares_bound passes word [] fits = omega arith
shares_bound passes word (v ∷ views) fits =
    omega (
      arith,
      (fits 0 v refl).short,
      sum_by-cons (λ (u : View). length u.draws) v views,
      sum_by-cons (λ (u : View). u.share) v views,
      shares_bound passes word views (fits_rest passes word v views fits),
    )

-- while a pass has room, it is less than that
room_bound : (passes word : ℕ) (views : List View) (id : ℕ) (v : View) → AllFit passes word views → get_elem? views id ≡ some v
    → length v.draws < 2 ^ 40 * v.share → sum_by (λ u. length u.draws) views < 2 ^ 40 * sum_by (λ u. u.share) views
room_bound passes word [] id v fits at room = absurd (some-ne-none v (sym at))
room_bound passes word (u ∷ views) zero v fits at room =
    omega (
      arith,
      room,
      ap (λ (x : View). x.share) (some-injective u v at),
      ap (λ (x : View). length x.draws) (some-injective u v at),
      sum_by-cons (λ (u : View). length u.draws) u views,
      sum_by-cons (λ (u : View). u.share) u views,
      shares_bound passes word views (fits_rest passes word u views fits),
    )
room_bound passes word (u ∷ views) (suc id) v fits at room =
    omega (
      arith,
      (fits 0 u refl).short,
      sum_by-cons (λ (u : View). length u.draws) u views,
      sum_by-cons (λ (u : View). u.share) u views,
      room_bound passes word views id v (fits_rest passes word u views fits) at room,
    )

-- so the word is less than the draws of all passes
word_bound : (passes : ℕ) (words : List ℕ) (views : List View) (id : ℕ) (v : View) (kept : AreUniqueDraws passes words views) → get_elem? views id ≡ some v
    → length v.draws < 2 ^ 40 * v.share → kept.word < 2 ^ 40 * passes
word_bound passes words views id v kept at room =
    omega (arith, kept.numbers.count, drawn_total (λ l. length l) length_adds views, room_bound passes kept.word views id v kept.fits at room, kept.shares)

-- the passes drew one number more
drew_more : (m : List ℕ → ℕ) → Adds m → (views : List View) (id : ℕ) (v : View) (n : ℕ) → get_elem? views id ≡ some v
    → m (all_draws (set views id (drew v n))) ≡ m (all_draws views) + m (n ∷ [])
drew_more m adds views id v n at =
    omega (
      arith,
      total_set (λ u. m u.draws) views id v (drew v n) at,
      drawn_total m adds views,
      drawn_total m adds (set views id (drew v n)),
      adds.parts v.draws (n ∷ []),
    )

drew_fits : (passes word : ℕ) (v : View) → DrawsFit passes word v → length v.draws < 2 ^ 40 * v.share → DrawsFit passes (word + 1) (drew v (word + 1))
drew_fits passes word v fit room = record {
  short = omega (arith, length_adds.parts v.draws ((word + 1) ∷ []));
  seen = omega arith;
  greatest = All-append (λ n. n ≤ word + 1) v.draws ((word + 1) ∷ []) (all_at_most v.draws v.seen (word + 1) (omega (arith, fit.seen)) fit.greatest)
      (All-cons (λ n. n ≤ word + 1) (word + 1) [] (omega arith) (All-nil (λ n. n ≤ word + 1)));
  opened = ⊎_elim (λ (same : v.passes ≡ passes). inl same) (λ (gone : v ≡ emptied). absurd (omega (arith, ap (λ (u : View). u.share) gone))) fit.opened;
}

-- the rule after a draw
drew_holds : (passes : ℕ) (words : List ℕ) (views : List View) (id : ℕ) (v : View) (kept : AreUniqueDraws passes words views) → passes ≤ 1024
    → get_elem? views id ≡ some v → length v.draws < 2 ^ 40 * v.share
    → AreUniqueDraws passes ((kept.word + 1) % 2 ^ 64 ∷ []) (set views id (drew v (kept.word + 1)))
drew_holds passes words views id v kept few at room =
    let n : ℕ = kept.word in
    let small : n + 1 < 2 ^ 64 = omega (arith, word_bound passes words views id v kept at room) in
    record {
      word = n + 1;
      alone = ap (λ x. x ∷ []) (mod-eq_of_lt small);
      numbers = one_to_more n (all_draws views) (all_draws (set views id (drew v (n + 1)))) kept.numbers (λ m adds. drew_more m adds views id v (n + 1) at);
      shares = omega (arith, total_set (λ u. u.share) views id v (drew v (n + 1)) at, kept.shares);
      fits = fits_set passes (n + 1) views id (drew v (n + 1)) (λ k u there. fits_on passes n (n + 1) u (omega arith) (kept.fits k u there))
          (drew_fits passes n v (kept.fits id v at) room);
    }

-- a pass may draw that has room
pub draws : (passes slots id : ℕ) (me : UniqueSitter) → me.1 ≡ [] → me.0.passes ≡ passes → passes ≤ 1024 → length me.0.draws < 2 ^ 40 * me.0.share
    → Allows (Ruled passes) slots id me 0 (λ n. (n + 1) % 2 ^ 64) (λ n now. DrawsNext me n now)
draws passes slots id me bare opened few room s kept homes at fits =
    let n : ℕ = kept.word in
    let v : View = me.0 in
    let Goal : List ℕ → Type 0 = λ words. (w : View) × (a : Act (Unit {0})) × Valid s.homes me.1 a
    × Ruled passes (stepped (record { words = words; homes = s.homes; views = s.views }) 0 ((slice_index words 0 + 1) % 2 ^ 64) id me.1 w a)
    × DrawsNext me (slice_index words 0) (w, carried_after me.1 a) in
    let ruled = drew_holds passes s.words s.views id v kept few at room in
    let told : Draws v (n + 1) (drew v (n + 1)) = record {
      now = refl;
      rises = omega (arith, (kept.fits id v at).seen);
      range = omega (arith, opened, word_bound passes s.words s.views id v kept at room);
    } in
    subst Goal (sym kept.alone) (drew v (n + 1), keeps, tt, ruled, (bare, told))
