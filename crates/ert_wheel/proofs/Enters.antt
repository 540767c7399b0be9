-- A newest row comes to the least level on which it may stand, or takes the place of the row that its slot had.

use Rattle.std.proofs.Common.{◌≡◌, ℕ, ◌+◌, ◌<◌, ◌≤◌, ◌^◌, max, List, Option, Some, None, IfSome, length, set, subst, ap, inl, inr, arith, get_or-set_same, get_or-set_other}
use Rattle.std.proofs.lemmas.Bool.{cases_lt}
use Rattle.ert_wheel.proofs.{Falls.{HasWith, either, given, given_here, given_there, stands_least, levelled_with, chained_with}, Renumber.AreNumbered, Views.place_is}
use Rattle.ert_wheel.specs.{Levels.{bucket_on, IsLeastLevel}, Ordering.ranked, Rings.{Rings, Place, AreChains, with_place}, Rows.key_in, Wheels.{stand_on, places, AreOrderedChains}, declared.ordered.Ordered.Ordered, declared.row.Key.Key}

-- a key whose order is above all
pub record IsNewest (keys : List (Option Key)) (slot : ℕ) (key : Key) : Type 0 where
  pub low : slot < length keys
  pub newest : (j : ℕ) → IfSome (key_in keys j) (λ k. k.order < key.order)
  pub order : key.order < 2 ^ 64

-- all others are older
pub older : {slot : ℕ} {keys : List (Option Key)} {key : Key} → IsNewest keys slot key → (j : ℕ) (k : Key)
    → key_in keys j ≡ Some k → k.order < key.order
older {key = key} e j k has = subst (λ (o : Option Key). IfSome o (λ x. x.order < key.order)) has (e.newest j)

-- the keys with it
pub newest_with : {slot : ℕ} {keys : List (Option Key)} {key : Key} → IsNewest keys slot key → HasWith keys (set keys slot (Some key)) slot key
newest_with {slot} {keys} {key} e = record {
  has = get_or-set_same keys slot (Some key) None e.low;
  there = λ j ne. get_or-set_other keys slot j (Some key) None ne;
  apart = λ j k ne is same. omega (arith, older e j k is, same);
}

-- its rank is above all that are numbered
pub numbers_below : {chains : Rings} {keys : List (Option Key)} {spot : Key → Place} (n : AreNumbered chains keys spot) → (j : ℕ) (p : Place)
    → places (ranked spot n.rank) keys j ≡ Some p → p.order < chains.slots + 1
numbers_below {keys = keys} {spot = spot} n j p is =
    let k = place_is (ranked spot n.rank) (key_in keys j) p is in
    omega (arith, n.few j k.0 k.1, ap (λ (q : Place). q.order) k.2)

-- numbers that rise are those of ranks that rise
up_again : {chains : Rings} {keys : List (Option Key)} {spot : Key → Place} (n : AreNumbered chains keys spot) (i j : ℕ) (x y : Key)
    → key_in keys i ≡ Some x → key_in keys j ≡ Some y → n.rank x ≤ n.rank y → (spot x).order ≤ (spot y).order
up_again {spot = spot} n i j x y has has' up =
    elim (cases_lt (spot y).order (spot x).order) [
      | inl less ↦ absurd (omega (arith, up, n.less j i y x has' has less))
      | inr more ↦ more
    ]

-- the chains with it
pub entered : {next : ℕ} {ordered : Ordered} {l slot home : ℕ} {chains new : Rings} {keys : List (Option Key)} {key : Key} (a : AreOrderedChains next ordered chains keys)
    → (n : AreNumbered chains keys (stand_on next a.level a.time a.rank)) → IsNewest keys slot key → IsLeastLevel next l (max key.deadline next)
    → home ≡ bucket_on l (max key.deadline next)
    → AreChains new (with_place (places (stand_on next a.level a.time n.rank) keys) slot (Some (record { home = home; order = chains.slots + 1 })))
    → AreOrderedChains next ordered new (set keys slot (Some key))
entered {next} {ordered} {l} {slot} {home} {chains} {new} {keys} {key} a n e least is are = record {
  level = given a.level key.order l;
  time = given a.time key.order key.deadline;
  rank = given n.rank key.order (chains.slots + 1);
  levelled = levelled_with a.levelled (newest_with e) (stands_least next 1 l key e.order least);
  are = chained_with next l key.deadline (chains.slots + 1) a.level a.time n.rank (newest_with e)
      (subst (λ (h : ℕ). AreChains new (with_place (places (stand_on next a.level a.time n.rank) keys) slot (Some (record { home = h; order = chains.slots + 1 }))))
      is are);
  in_order = λ due all i j x y has has' x_due y_due less. elim (either i x (newest_with e) has) [
    | inl (at, x_is) ↦ elim (either j y (newest_with e) has') [
      | inl (at', y_is) ↦ absurd (omega (arith, less, ap (λ (k : Key). k.order) x_is, ap (λ (k : Key). k.order) y_is))
      | inr (ne', was', apart') ↦ absurd (omega (arith, less, ap (λ (k : Key). k.order) x_is, older e j y was'))
    ]
    | inr (ne, was, apart) ↦ elim (either j y (newest_with e) has') [
      | inl (at', y_is) ↦
          omega (
            arith,
            given_there n.rank key.order (chains.slots + 1) x apart,
            given_here n.rank key.order (chains.slots + 1) y (ap (λ (k : Key). k.order) y_is),
            n.few i x was,
          )
      | inr (ne', was', apart') ↦
          omega (
            arith,
            given_there n.rank key.order (chains.slots + 1) x apart,
            given_there n.rank key.order (chains.slots + 1) y apart',
            n.less i j x y was was' (a.in_order due all i j x y was was' x_due y_due less),
          )
    ]
  ];
  rises = λ is first has_first first_due i j x y has has' x_due y_due up up' less. elim (either i x (newest_with e) has) [
    | inl (at, x_is) ↦ elim (either j y (newest_with e) has') [
      | inl (at', y_is) ↦ absurd (omega (arith, less, ap (λ (k : Key). k.order) x_is, ap (λ (k : Key). k.order) y_is))
      | inr (ne', was', apart') ↦ absurd (omega (arith, less, ap (λ (k : Key). k.order) x_is, older e j y was'))
    ]
    | inr (ne, was, apart) ↦
        let x_rank = given_there n.rank key.order (chains.slots + 1) x apart in
        elim (either j y (newest_with e) has') [
          | inl (at', y_is) ↦ omega (arith, x_rank, given_here n.rank key.order (chains.slots + 1) y (ap (λ (k : Key). k.order) y_is), n.few i x was)
          | inr (ne', was', apart') ↦
              let y_rank = given_there n.rank key.order (chains.slots + 1) y apart' in
              elim (either ordered.rising first (newest_with e) has_first) [
                | inl (at'', first_is) ↦
                    absurd (omega (arith, up, x_rank, given_here n.rank key.order (chains.slots + 1) first (ap (λ (k : Key). k.order) first_is), n.few i x was))
                | inr (ne'', was'', apart'') ↦
                    let first_rank = given_there n.rank key.order (chains.slots + 1) first apart'' in
                    omega (
                      arith,
                      x_rank,
                      y_rank,
                      n.less i j x y was was' (a.rises is first was'' first_due i j x y was was' x_due y_due
                          (up_again n ordered.rising i first x was'' was (omega (arith, up, first_rank, x_rank)))
                          (up_again n ordered.rising j first y was'' was' (omega (arith, up', first_rank, y_rank))) less),
                    )
              ]
        ]
  ];
}
