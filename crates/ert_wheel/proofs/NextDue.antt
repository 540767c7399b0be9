-- How early a row of a level above the lowest may be due: the windows that have rows are looked at, from the first on.

use Rattle.std.proofs.Common.{◌≡◌, ℕ, ◌+◌, ◌*◌, ◌/◌, ◌<◌, ◌≤◌, ◌^◌, max, min, List, Option, Some, sym, subst, ◌∙◌, ap, inl, inr, arith}
use Rattle.std.proofs.lemmas.Bool.{cases_eq, cases_lt}
use Rattle.ert_wheel.proofs.{Homes.home_of_slot, Least.at_place, Looking.key_low, Near.stands_at_time, Standing.{end_of, begins, window_before_end, window_later}, Times.{before_window, some_wide}, Views.place_is}
use Rattle.ert_wheel.specs.{Falling.HasRowIn, Levels.bucket_of_window, Marks.FirstWindow, NextDue.{IsLeastIn, IsEarlyOrNever, NoneOn, NoneBefore}, Rings.{Rings, Place}, Rows.key_in, Standing.homes_of, Walks.StandOnLevels, Wheels.home_on}
use Rattle.ert_wheel.specs.{Wheels.{stand_on, places}, declared.row.Key.Key, declared.row.TheConstants.NEVER}

-- no row that stands on a level before a window is due before a time
abbrev pub NoneUpTo : List (Option Key) → (Key → ℕ) → (Key → ℕ) → ℕ → ℕ → ℕ → ℕ → Type 0
NoneUpTo keys levels times next level window time = (slot : ℕ) (key : Key) → key_in keys slot ≡ Some key → levels key ≡ level
    → max (times key) next / 512 ^ level < window → time ≤ key.deadline

module _ {next level : ℕ} {keys : List (Option Key)} {chains : Rings} {levels : Key → ℕ} (stand : StandOnLevels next chains keys levels)
    (above : 1 ≤ level) (highest : level ≤ 4) where
  -- a row of the level stands no later than it is due
  up_to : (slot : ℕ) (key : Key) → key_in keys slot ≡ Some key → levels key ≡ level → max (stand.time key) next ≤ key.deadline
  up_to slot key has on = stands_at_time stand slot key has (omega (arith, on, above))

  -- at first there are none: each is in a later window than the next time
  pub none_first : (window time : ℕ) → window ≡ next / 512 ^ level + 1 → NoneUpTo keys levels stand.time next level window time
  none_first window time is = λ slot key has on less.
      let t : ℕ = max (stand.time key) next in
      let fit = stand.levelled.fit slot key has in
      let after : next / 512 ^ levels key < t / 512 ^ levels key = fit.ahead (omega (arith, on, above)) (omega (arith, on, above)) in
      absurd (omega (arith, is, less, after, ap (λ l. next / 512 ^ l) on, ap (λ l. t / 512 ^ l) on))

  -- windows without a row are passed over
  pub none_skip : (window end found time : ℕ) → found ≤ end → next / 512 ^ level < window
      → FirstWindow chains (places (stand_on next levels stand.time stand.rank) keys) level window end found
      → NoneUpTo keys levels stand.time next level window time → NoneUpTo keys levels stand.time next level found time
  none_skip window end found time low up first none = λ slot key has on less.
      let t : ℕ = max (stand.time key) next in
      elim (cases_lt (t / 512 ^ level) window) [
        | inl before ↦ none slot key has on before
        | inr after ↦
            let home : home_on next levels stand.time key ≡ bucket_of_window level (t / 512 ^ level) =
            ap (λ l. bucket_of_window l (t / 512 ^ l)) on in
            absurd (omega (
              arith,
              less,
              first.none_below (t / 512 ^ level) slot (stand_on next levels stand.time stand.rank key)
                  (omega (arith, stand.slots, key_low keys slot key has)) (at_place keys (stand_on next levels stand.time stand.rank) slot key has)
                  after (omega (arith, less, low)) home,
            ))
      ]

  -- the rows of a window were looked at
  pub none_looked : (window time least bucket : ℕ) → bucket ≡ bucket_of_window level window
      → IsLeastIn keys (stand_on next levels stand.time stand.rank) bucket NEVER least
      → NoneUpTo keys levels stand.time next level window time → NoneUpTo keys levels stand.time next level (window + 1) (min time least)
  none_looked window time least bucket is looks none = λ slot key has on less.
      let t : ℕ = max (stand.time key) next in
      elim (cases_eq (t / 512 ^ level) window) [
        | inl e ↦
            let home : home_on next levels stand.time key ≡ bucket =
            ap (λ l. bucket_of_window l (t / 512 ^ l)) on ∙ (ap (bucket_of_window level) e ∙ sym is) in
            omega (arith, looks.below slot key has home)
        | inr ne ↦ omega (arith, none slot key has on (omega (arith, less, ne)))
      ]

  -- a row that is left is due no earlier than its window begins
  pub none_left : (window time sooner : ℕ) → sooner ≤ time → sooner ≤ window * 512 ^ level → NoneUpTo keys levels stand.time next level window time
      → NoneOn keys levels level sooner
  none_left window time sooner early begin none = λ slot key has on.
      let t : ℕ = max (stand.time key) next in
      elim (cases_lt (t / 512 ^ level) window) [
        | inl before ↦ omega (arith, early, none slot key has on before)
        | inr after ↦ omega (arith, begin, up_to slot key has on, begins level window t after)
      ]

  -- none is left at the end
  pub none_at_end : (window time : ℕ) → end_of level next ≤ window → NoneUpTo keys levels stand.time next level window time → NoneOn keys levels level time
  none_at_end window time past none = λ slot key has on.
      let t : ℕ = max (stand.time key) next in
      let low = window_before_end next (levels key) t (omega (arith, stand.low slot key has, stand.levelled.early slot key has, stand.fits)) (stand.levelled.fit slot key has) in
      none slot key has on (omega (arith, past, low, ap (λ l. end_of l next) on, ap (λ l. t / 512 ^ l) on))

  -- where a window has a row, one stands there
  pub has_there : (window end found : ℕ) → found < end
      → FirstWindow chains (places (stand_on next levels stand.time stand.rank) keys) level window end found → HasRowIn keys (homes_of chains) level found
  has_there window end found low first =
      let spot : Key → Place = stand_on next levels stand.time stand.rank in
      let h = first.has_slot low in
      let k = place_is spot (key_in keys h.slot) h.stands.place h.stands.has in
      record {
        slot = h.slot;
        key = k.0;
        has = k.1;
        at = home_of_slot chains (places spot keys) h.slot (bucket_of_window level found) stand.are h.low h.stands;
      }

-- the begin of a window of a level above the lowest in which a row stands
pub begins_there : {keys : List (Option Key)} {stands : List (Option ℕ)} (next level window time : ℕ) → 1 ≤ level → level ≤ 4 → next / 512 ^ level < window
    → window < end_of level next → time ≡ window * 512 ^ level → HasRowIn keys stands level window → IsEarlyOrNever keys stands next time
begins_there next level window time above highest later near is row =
    inl (inr (record {
      slot = row.slot;
      key = row.key;
      has = row.has;
      in_window = record {
        later = omega (arith, is, before_window next window (512 ^ level) (some_wide level) later);
        level = level;
        above = above;
        highest = highest;
        window = window;
        begin = is;
        there = record { near = omega (arith, near); at = row.at };
      };
    }))

-- the least deadline that a look found
pub early_looked : {keys : List (Option Key)} {stands : List (Option ℕ)} {spot : Key → Place} {bucket least : ℕ} (next : ℕ) → IsLeastIn keys spot bucket NEVER least
    → IsEarlyOrNever keys stands next least
early_looked next looks =
    elim looks.near [
      | inl due ↦ inl (inl (record { slot = due.slot; key = due.key; has = due.has; at = due.at }))
      | inr e ↦ inr e
    ]

-- the earlier of two
pub earlier_is : (keys : List (Option Key)) (stands : List (Option ℕ)) (next a b : ℕ) → IsEarlyOrNever keys stands next a → IsEarlyOrNever keys stands next b
    → IsEarlyOrNever keys stands next (min a b)
earlier_is keys stands next a b first second =
    elim (cases_lt a b) [
      | inl less ↦ let e : a ≡ min a b = omega arith in subst (λ n. IsEarlyOrNever keys stands next n) e first
      | inr more ↦ let e : b ≡ min a b = omega arith in subst (λ n. IsEarlyOrNever keys stands next n) e second
    ]

-- no row that stands below a level is due before a time
abbrev pub NoneBelow : List (Option Key) → (Key → ℕ) → ℕ → ℕ → Type 0
NoneBelow keys levels level time = (slot : ℕ) (key : Key) → key_in keys slot ≡ Some key → levels key < level → time ≤ key.deadline

-- one more level
pub none_more : (keys : List (Option Key)) (levels : Key → ℕ) (level time sooner : ℕ) → sooner ≤ time → NoneBelow keys levels level time
    → NoneOn keys levels level sooner → NoneBelow keys levels (level + 1) sooner
none_more keys levels level time sooner up below on = λ slot key has low.
    elim (cases_eq (levels key) level) [
      | inl e ↦ on slot key has e
      | inr ne ↦ omega (arith, up, below slot key has (omega (arith, low, ne)))
    ]

-- all are below the end of the levels, or below one whose windows after that of the next time are no earlier
pub none_above : {next : ℕ} {chains : Rings} {keys : List (Option Key)} {levels : Key → ℕ} (level time : ℕ) → StandOnLevels next chains keys levels
    → 1 ≤ level → time ≤ (next / 512 ^ level + 1) * 512 ^ level → NoneBelow keys levels level time → NoneBefore keys time
none_above {next = next} {levels = levels} level time stand some early below = λ slot key has.
    elim (cases_lt (levels key) level) [
      | inl low ↦ below slot key has low
      | inr high ↦
          let t : ℕ = max (stand.time key) next in
          let fit = stand.levelled.fit slot key has in
          let up : t ≤ key.deadline = stands_at_time stand slot key has (omega (arith, some, high)) in
          let later : next / 512 ^ level < t / 512 ^ level = window_later next level (levels key) t (omega (arith, some, high)) high fit in
          omega (arith, early, up, begins level (next / 512 ^ level + 1) t (omega (arith, later)))
    ]

pub none_at_all : {next : ℕ} {chains : Rings} {keys : List (Option Key)} {levels : Key → ℕ} (level time : ℕ) → StandOnLevels next chains keys levels
    → 4 < level → NoneBelow keys levels level time → NoneBefore keys time
none_at_all level time stand high below = λ slot key has.
    below slot key has (omega (arith, high, (stand.levelled.fit slot key has).highest))
