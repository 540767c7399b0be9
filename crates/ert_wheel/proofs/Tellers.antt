-- The row of a slot tells when the next one is due.

use Rattle.std.proofs.Common.{◌≡◌, ◌↔◌, ◌≢◌, ◌⊎◌, ℕ, max, ◌*◌, ◌/◌, ◌^◌, ◌<◌, ◌≤◌, true, nat_eq, List, Option, Some, None, IfNone, IfSome, option_map, sym, ◌∙◌, ap, inl, inr, refl, arith}
use Rattle.std.proofs.{Math.Nat.{div-lt_iff_lt-mul, mul-div_cancel}, lemmas.Bool.{eq-eqb, eqb-true, false≢true}}
use Rattle.std.specs.{Bool.IsTrue, Option.is_some}
use Rattle.ert_wheel.proofs.{Homes.{home_of_key, home_of_slot}, Looking.key_low, Standing.{end_of, window_low}, Times.{later, one_bucket, one_window, some_wide}, Views.place_is}
use Rattle.ert_wheel.specs.{Levels.bucket_of_window, NextDue.{NoneBefore, NoneBeginsOn, IsDueOf, IsInWindow, IsNextDue, TellsNext}, Rings.{Rings, Place, StandsIn, Finds}, Rows.{key_in, told_at}, Standing.{homes_of, bucket_in}}
use Rattle.ert_wheel.specs.{Walks.StandOnLevels, Wheels.{stand_on, place_of, places}, declared.row.HeldRow.HeldRow, declared.row.Key.Key, declared.row.TheConstants.NEVER}

from_begin : (next w m : ℕ) → 0 < m → next < w * m → next / m < w
from_begin next w m wide less = (div-lt_iff_lt-mul {k = m} {x = next} {y = w} wide).1 less

whole : (w m : ℕ) → 0 < m → w * m / m ≡ w
whole w m wide = mul-div_cancel w wide

one_begin : (v w m : ℕ) → 0 < m → v * m ≡ w * m → v ≡ w
one_begin v w m wide same = sym (whole v m wide) ∙ (ap (λ n. n / m) same ∙ whole w m wide)

-- where no row is due before a time, and one tells it, the next one is due then
pub next_by : (keys : List (Option Key)) (stands : List (Option ℕ)) (passed time slot : ℕ) → NoneBefore keys time → TellsNext keys stands passed time slot
    → IsNextDue keys stands passed time
next_by keys stands passed time slot none tells = record {
  some = record { slot = slot; key = tells.key; has = tells.has };
  none_before = none;
  near =
      elim tells.told [
        | inl at ↦ inl (record { slot = slot; key = tells.key; has = tells.has; at = at })
        | inr b ↦ inr (record { slot = slot; key = tells.key; has = tells.has; in_window = b })
      ];
}

-- where one is known that does
pub next_some : (keys : List (Option Key)) (stands : List (Option ℕ)) (passed time : ℕ) (found : Option ℕ) → NoneBefore keys time
    → IfSome found (TellsNext keys stands passed time) → is_some found ≡ true → IsNextDue keys stands passed time
next_some keys stands passed time None none tells some = absurd (false≢true some)
next_some keys stands passed time (Some slot) none tells some = next_by keys stands passed time slot none tells

-- the row of a slot that is due at a time tells it
pub due_tells : (keys : List (Option Key)) (stands : List (Option ℕ)) (passed time slot : ℕ) → IsDueOf keys slot time → TellsNext keys stands passed time slot
due_tells keys stands passed time slot due = record { key = due.key; has = due.has; told = inl due.at }

-- whether it is, as the row is read
pub due_row : (keys : List (Option Key)) (time slot : ℕ) (row : HeldRow) → Some row ≡ option_map (told_at slot) (key_in keys slot)
    → IsTrue (nat_eq row.deadline time) ↔ IsDueOf keys slot time
due_row keys time slot row is = at (key_in keys slot) refl is
  where
    at : (o : Option Key) → key_in keys slot ≡ o → Some row ≡ option_map (told_at slot) o → IsTrue (nat_eq row.deadline time) ↔ IsDueOf keys slot time
    at None has bad = absurd cc
    at (Some key) has is =
        let same : row ≡ told_at slot key = cc in
        let deadline : row.deadline ≡ key.deadline = ap (λ (r : HeldRow). r.deadline) same in (
          (λ yes. record { key = key; has = has; at = sym deadline ∙ eqb-true row.deadline time yes }),
          (λ due.
              let one : Some due.key ≡ Some key = sym due.has ∙ has in
              let that : due.key ≡ key = cc in
              eq-eqb row.deadline time (deadline ∙ ap (λ (k : Key). k.deadline) (sym that) ∙ due.at)),
        )

module _ {next : ℕ} {keys : List (Option Key)} {chains : Rings} {levels : Key → ℕ} (stand : StandOnLevels next chains keys levels) where
  abbrev spot : Key → Place
  spot = stand_on next levels stand.time stand.rank

  -- the window in which a row stands
  its_window : (time slot : ℕ) (key : Key) → key_in keys slot ≡ Some key → (b : IsInWindow (homes_of chains) next time slot)
      → b.window < end_of b.level next
  its_window time slot key has b =
      let t : ℕ = max (stand.time key) next in
      let fit = stand.levelled.fit slot key has in
      let some : Some (spot key).home ≡ Some (bucket_of_window b.level b.window) = sym (home_of_key chains spot keys slot key stand.slots stand.are has) ∙ b.there.at in
      let same : (spot key).home ≡ bucket_of_window b.level b.window = cc in
      let one = one_bucket (levels key) b.level (t / 512 ^ levels key) b.window same in
      let e : t / 512 ^ levels key ≡ t / 512 ^ b.level = ap (λ l. t / 512 ^ l) one.level in
      let n : next / 512 ^ levels key ≡ next / 512 ^ b.level = ap (λ l. next / 512 ^ l) one.level in
      let up : next / 512 ^ b.level ≤ b.window = omega (arith, from_begin next b.window (512 ^ b.level) (some_wide b.level) (omega (arith, b.later, b.begin))) in
      let window : t / 512 ^ b.level ≡ b.window =
      one_window (next / 512 ^ b.level) (t / 512 ^ b.level) b.window (later b.level next t (omega arith)) up
      (omega (arith, fit.near, e, n)) b.there.near (omega (arith, one.place, e)) in
      let low : t < NEVER = omega (arith, stand.low slot key has, stand.levelled.early slot key has, stand.fits) in
      omega (arith, b.there.near, window, window_low b.level t b.highest low)

  -- the newest row of the bucket of a window that begins at a time
  module _ (level window time : ℕ) (above : 1 ≤ level) (highest : level ≤ 4) (later : next < time) (begin : time ≡ window * 512 ^ level)
      (near : window < end_of level next) where
    newest_tells : (slot : ℕ) → Finds chains (places spot keys) (bucket_of_window level window) (2 ^ 64) (Some slot)
        → TellsNext keys (homes_of chains) next time slot
    newest_tells slot f =
        let there : StandsIn (places spot keys) (bucket_of_window level window) slot = f.stands.1 in
        let k = place_is spot (key_in keys slot) there.place there.has in
        record {
          key = k.0;
          has = k.1;
          told = inr (record {
            later = later;
            level = level;
            above = above;
            highest = highest;
            window = window;
            begin = begin;
            there = record {
              near = omega (arith, near);
              at = home_of_slot chains (places spot keys) slot (bucket_of_window level window) stand.are f.stands.0 there;
            };
          });
        }

    pub found_tells : (found : Option ℕ) → Finds chains (places spot keys) (bucket_of_window level window) (2 ^ 64) found
        → IfSome found (TellsNext keys (homes_of chains) next time)
    found_tells None f = tt
    found_tells (Some slot) f = newest_tells slot f

    pub found_none : (found : Option ℕ) → Finds chains (places spot keys) (bucket_of_window level window) (2 ^ 64) found
        → IfNone found (NoneBeginsOn keys (homes_of chains) next level time)
    found_none (Some slot) f = tt
    found_none None f = λ w on.
        let b = w.in_window in
        let one : b.window ≡ window = one_begin b.window window (512 ^ level) (some_wide level)
        (ap (λ l. b.window * 512 ^ l) (sym on) ∙ sym b.begin ∙ begin) in
        let at : bucket_in (homes_of chains) w.slot ≡ Some (bucket_of_window level window) =
        b.there.at ∙ (ap (λ l. Some (bucket_of_window l b.window)) on ∙ ap (λ v. Some (bucket_of_window level v)) one) in
        let some : Some (spot w.key).home ≡ Some (bucket_of_window level window) = sym (home_of_key chains spot keys w.slot w.key stand.slots stand.are w.has) ∙ at in
        let home : (spot w.key).home ≡ bucket_of_window level window = cc in
        let p : Place = spot w.key in
        let there : places spot keys w.slot ≡ Some p = ap (place_of spot) w.has in
        absurd (omega (arith, f.greatest w.slot p (omega (arith, stand.slots, key_low keys w.slot w.key w.has)) there home (stand.are.orders w.slot p there)))

  -- none where the time isn't the begin of a window that the level shows
  pub none_begins : (level time : ℕ) → (time / 512 ^ level * 512 ^ level ≢ time) ⊎ (end_of level next ≤ time / 512 ^ level)
      → NoneBeginsOn keys (homes_of chains) next level time
  none_begins level time not = λ w on.
      let b = w.in_window in
      let begin : time ≡ b.window * 512 ^ level = b.begin ∙ ap (λ l. b.window * 512 ^ l) on in
      let is : time / 512 ^ level ≡ b.window = ap (λ t. t / 512 ^ level) begin ∙ whole b.window (512 ^ level) (some_wide level) in
      elim not [
        | inl apart ↦ apart (ap (λ v. v * 512 ^ level) is ∙ sym begin)
        | inr past ↦ absurd (omega (arith, past, is, its_window time w.slot w.key w.has b, ap (λ l. end_of l next) on))
      ]

-- and none at a time that isn't later
pub none_early : {keys : List (Option Key)} {stands : List (Option ℕ)} (passed level time : ℕ) → time ≤ passed → NoneBeginsOn keys stands passed level time
none_early passed level time early = λ w on. absurd (omega (arith, early, w.in_window.later))
