-- A row that stays where it is, when another takes its place.

use Rattle.std.proofs.Common.{◌≡◌, ℕ, ◌+◌, ◌-◌, ◌*◌, ◌/◌, ◌%◌, ◌^◌, ◌<◌, ◌≤◌, max, List, Option, Some, set, sym, subst, ◌∙◌, ap, inl, inr, arith}
use Rattle.std.proofs.lemmas.Bool.{cases_eq}
use Rattle.ert_wheel.proofs.{Enters.{IsNewest, newest_with}, Falls.{StandsAnew, either, given, given_there, place_at, levelled_with, chained_with}, Parts.{with_place_here, with_place_there}, Standing.{not_late, window_later}}
use Rattle.ert_wheel.proofs.{Times.one_above}
use Rattle.ert_wheel.specs.{Levels.{MayStand, StaysPut}, Rings.{Rings, Place, AreChains, with_place}, Rows.key_in, Wheels.{stand_on, place_of, places, AreOrderedChains}, declared.ordered.Ordered.Ordered, declared.row.Key.Key}

-- a row of a slot with an order above all, which is due in no earlier window than the one before it
pub record KeepsSpot (next : ℕ) (keys : List (Option Key)) (slot : ℕ) (old key : Key) : Type 0 where
  pub new : IsNewest keys slot key
  pub has : key_in keys slot ≡ Some old
  pub put : StaysPut next old.deadline (max key.deadline next)

module _ {next : ℕ} {ordered : Ordered} {slot : ℕ} {chains : Rings} {keys : List (Option Key)} {old key : Key} (s : KeepsSpot next keys slot old key)
    (a : AreOrderedChains next ordered chains keys) where
  abbrev l : ℕ
  l = a.level old

  abbrev was : ℕ
  was = max (a.time old) next

  -- the time at which the new row stands: the begin of the window of 512 milliseconds in which the old one does
  abbrev t : ℕ
  t = a.time old / 512 * 512

  old_fits : MayStand next 1 l was
  old_fits = a.levelled.fit slot old s.has

  -- the old row stands above the lowest level
  above : 1 ≤ l
  above =
      elim (cases_eq l 0) [
        | inr ne ↦ omega (arith, ne)
        | inl lowest ↦
            let near : was / 512 ^ 0 / 512 ≤ next / 512 ^ 0 / 512 + 1 = subst (λ (n : ℕ). was / 512 ^ n / 512 ≤ next / 512 ^ n / 512 + 1) lowest old_fits.near in
            absurd (omega (arith, near, a.levelled.exact slot old s.has lowest, s.put.far))
      ]

  is_time : was ≡ a.time old
  is_time = not_late next l (a.time old) above old_fits

  later_window : next / 512 < a.time old / 512
  later_window =
      let less : next / 512 ^ 1 < was / 512 ^ 1 = window_later next 1 l was above above old_fits in
      omega (arith, less, is_time)

  -- both times are in one window of each level above the lowest
  one_time : max t next / 512 ^ l ≡ was / 512 ^ l
  one_time =
      let e : l - 1 + 1 ≡ l = omega (arith, above) in
      let low : max t next / 512 ^ 1 ≡ was / 512 ^ 1 = omega (arith, is_time, later_window) in
      subst (λ (n : ℕ). max t next / 512 ^ n ≡ was / 512 ^ n) e (one_above 1 (l - 1) (max t next) was low)

  stands : StandsAnew next 1 l t key
  stands = record {
    fits = record {
      highest = old_fits.highest;
      near = omega (arith, old_fits.near, ap (λ n. n / 512) one_time);
      ahead = λ some up. omega (arith, old_fits.ahead some up, one_time);
    };
    early = omega (arith, a.levelled.early slot old s.has, s.put.later, s.put.far);
    exact = λ lowest. absurd (omega (arith, above, lowest));
    order = s.new.order;
  }

  not_due : next < key.deadline
  not_due = omega (arith, s.put.later, s.put.far)

  -- its place is the same
  same_spot : place_at next l t (a.rank old) ≡ stand_on next a.level a.time a.rank old
  same_spot = ap (λ w. record { home = l * 1024 + w % 1024; order = a.rank old }) one_time

  same_places : (j : ℕ) → places (stand_on next a.level a.time a.rank) keys j
      ≡ with_place (places (stand_on next a.level a.time a.rank) keys) slot (Some (place_at next l t (a.rank old))) j
  same_places j =
      let P : ℕ → Option Place = places (stand_on next a.level a.time a.rank) keys in
      let here : Option Place = Some (place_at next l t (a.rank old)) in
      elim (cases_eq j slot) [
        | inl e ↦
            ap P e ∙ (ap (place_of (stand_on next a.level a.time a.rank)) s.has
            ∙ (ap (λ (p : Place). Some p) (sym same_spot)
            ∙ (sym (with_place_here P slot here) ∙ ap (with_place P slot here) (sym e))))
        | inr ne ↦ sym (with_place_there P slot here j ne)
      ]

  pub stays_put : AreOrderedChains next ordered chains (set keys slot (Some key))
  stays_put = record {
    level = given a.level key.order l;
    time = given a.time key.order t;
    rank = given a.rank key.order (a.rank old);
    levelled = levelled_with a.levelled (newest_with s.new) stands;
    are = chained_with next l t (a.rank old) a.level a.time a.rank (newest_with s.new)
        (subst (λ (p : ℕ → Option Place). AreChains chains p) (λ i j. same_places j i) a.are);
    in_order = λ is all i j x y has has' x_due y_due less. elim (either i x (newest_with s.new) has) [
      | inl (at, x_is) ↦ absurd (omega (arith, x_due, not_due, ap (λ (k : Key). k.deadline) x_is))
      | inr (ne, was, apart) ↦ elim (either j y (newest_with s.new) has') [
        | inl (at', y_is) ↦ absurd (omega (arith, y_due, not_due, ap (λ (k : Key). k.deadline) y_is))
        | inr (ne', was', apart') ↦
            omega (
              arith,
              given_there a.rank key.order (a.rank old) x apart,
              given_there a.rank key.order (a.rank old) y apart',
              a.in_order is all i j x y was was' x_due y_due less,
            )
      ]
    ];
    rises = λ is first has_first due i j x y has has' x_due y_due up up' less. elim (either ordered.rising first (newest_with s.new) has_first) [
      | inl (at, first_is) ↦ absurd (omega (arith, due, not_due, ap (λ (k : Key). k.deadline) first_is))
      | inr (ne'', was'', apart'') ↦ elim (either i x (newest_with s.new) has) [
        | inl (at, x_is) ↦ absurd (omega (arith, x_due, not_due, ap (λ (k : Key). k.deadline) x_is))
        | inr (ne, was, apart) ↦ elim (either j y (newest_with s.new) has') [
          | inl (at', y_is) ↦ absurd (omega (arith, y_due, not_due, ap (λ (k : Key). k.deadline) y_is))
          | inr (ne', was', apart') ↦
              let f = given_there a.rank key.order (a.rank old) first apart'' in
              let g = given_there a.rank key.order (a.rank old) x apart in
              let h = given_there a.rank key.order (a.rank old) y apart' in
              omega (arith, g, h, a.rises is first was'' due i j x y was was' x_due y_due (omega (arith, up, f, g)) (omega (arith, up', f, h)) less)
        ]
      ]
    ];
  }
