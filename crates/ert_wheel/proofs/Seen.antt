-- The due rows of a level are collected, window by window.

use Rattle.std.proofs.Common.{◌≡◌, ℕ, ◌+◌, ◌/◌, ◌^◌, ◌<◌, ◌≤◌, Bool, true, false, ◌&&◌, ◌||◌, cond, nat_eq, nat_le, nat_lt, max, min, List, Option, Some, None, sym, ◌∙◌, ap, inl, inr, refl, arith}
use Rattle.std.proofs.lemmas.Bool.{and_right, cases_eq, cases_lt, eq-eqb, ne_eqb, lt-ltb, le-ltb, le-leb, lt-leb, true≢false, Decides.leb_tells}
use Rattle.ert_wheel.proofs.{Collect.passing_same, Least.at_place, Looking.key_low, Standing.{StandsForTime, end_of, stands_at, window_before_end}, Times.later}
use Rattle.ert_wheel.specs.{Levels.bucket_of_window, Marks.FirstWindow, Rings.Rings, Rows.{key_in, rows_told, times, passing}, Walks.{AreRows, is_due_in, is_due_from, StandOnLevels, AreCollected, MayCollect, Collects}, Wheels.home_on}
use Rattle.ert_wheel.specs.{Wheels.{stand_on, places}, declared.row.HeldRow.HeldRow, declared.row.Key.Key, declared.row.TheConstants.LAST}

-- at the first window: the test is that of the levels above
met_first : (due : Bool) (k l v from : ℕ) → (l ≡ k → from ≤ v)
    → (due && nat_le (k + 1) l) ≡ (due && (nat_lt k l || (nat_eq k l && nat_lt v from)))
met_first false k l v from up = refl
met_first true k l v from up =
    elim (cases_lt k l) [
      | inl less ↦ le-leb (k + 1) l (omega (arith, less)) ∙ sym (ap (λ b. b || (nat_eq k l && nat_lt v from)) (lt-ltb k l less))
      | inr more ↦
          lt-leb (k + 1) l (omega (arith, more))
          ∙ sym (ap (λ b. b || (nat_eq k l && nat_lt v from)) (le-ltb k l more) ∙ none)
    ]
  where
    none : (nat_eq k l && nat_lt v from) ≡ false
    none = elim (cases_eq l k) [
      | inl e ↦ and_right (nat_eq k l) (nat_lt v from) (le-ltb v from (up e))
      | inr ne ↦ ap (λ b. b && nat_lt v from) (ne_eqb k l (λ e. ne (sym e)))
    ]

-- past the last window: that of the levels from it on
met_last : (due : Bool) (k l v end : ℕ) → (due ≡ true → l ≡ k → v < end)
    → (due && (nat_lt k l || (nat_eq k l && nat_lt v end))) ≡ (due && nat_le k l)
met_last false k l v end low = refl
met_last true k l v end low =
    elim (cases_lt k l) [
      | inl less ↦ ap (λ b. b || (nat_eq k l && nat_lt v end)) (lt-ltb k l less) ∙ sym (le-leb k l (omega (arith, less)))
      | inr more ↦
          ap (λ b. b || (nat_eq k l && nat_lt v end)) (le-ltb k l more)
          ∙ elim (cases_eq l k) [
            | inl e ↦
                ap (λ b. b && nat_lt v end) (eq-eqb k l (sym e)) ∙ lt-ltb v end (low refl e) ∙ sym (le-leb k l (omega (arith, e)))
            | inr ne ↦ ap (λ b. b && nat_lt v end) (ne_eqb k l (λ e. ne (sym e))) ∙ sym (lt-leb k l (omega (arith, more, ne)))
          ]
    ]

-- windows without a row of the level are passed over
met_skip : (due : Bool) (k l v w found : ℕ) → w ≤ found → (l ≡ k → w ≤ v → found ≤ v)
    → (due && (nat_lt k l || (nat_eq k l && nat_lt v w))) ≡ (due && (nat_lt k l || (nat_eq k l && nat_lt v found)))
met_skip due k l v w found up none =
    ap (λ b. due && (nat_lt k l || b))
    (elim (cases_eq l k) [
      | inl e ↦
          ap (λ b. nat_eq k l && b)
          (elim (cases_lt v w) [
            | inl less ↦ lt-ltb v w less ∙ sym (lt-ltb v found (omega (arith, less, up)))
            | inr more ↦ le-ltb v w more ∙ sym (le-ltb v found (none e more))
          ])
      | inr ne ↦ ap (λ b. b && nat_lt v w) (ne_eqb k l (λ e. ne (sym e))) ∙ sym (ap (λ b. b && nat_lt v found) (ne_eqb k l (λ e. ne (sym e))))
    ])

-- a window more: its bucket's keys are those of the level in it
met_more : (due : Bool) (k l v w h b : ℕ) → (h ≡ b → StandsForTime l k v w) → (l ≡ k → v ≡ w → h ≡ b)
    → cond (due && (nat_lt k l || (nat_eq k l && nat_lt v w))) 1 0 + cond (due && nat_eq h b) 1 0
    ≡ cond (due && (nat_lt k l || (nat_eq k l && nat_lt v (w + 1)))) 1 0
met_more false k l v w h b is there = refl
met_more true k l v w h b is there =
    elim (cases_eq h b) [
      | inl e ↦
          let s = is e in
          let lt : nat_lt k l ≡ false = le-ltb k l (omega (arith, s.level_is)) in
          let eq : nat_eq k l ≡ true = eq-eqb k l (sym s.level_is) in
          let x : ◌≡◌ {A = ℕ} (cond (nat_lt k l || (nat_eq k l && nat_lt v w)) 1 0) 0 =
          ap (λ c. cond (c || (nat_eq k l && nat_lt v w)) 1 0) lt ∙ ap (λ c. cond c 1 0) (and_right (nat_eq k l) (nat_lt v w) (le-ltb v w (omega (arith, s.window_is)))) in
          let y : ◌≡◌ {A = ℕ} (cond (nat_lt k l || (nat_eq k l && nat_lt v (w + 1))) 1 0) 1 =
          ap (λ c. cond (c || (nat_eq k l && nat_lt v (w + 1))) 1 0) lt
          ∙ (ap (λ c. cond (c && nat_lt v (w + 1)) 1 0) eq ∙ ap (λ c. cond c 1 0) (lt-ltb v (w + 1) (omega (arith, s.window_is)))) in
          let z : ◌≡◌ {A = ℕ} (cond (nat_eq h b) 1 0) 1 = ap (λ c. cond c 1 0) (eq-eqb h b e) in
          omega (arith, x, y, z)
      | inr ne ↦
          let z : ◌≡◌ {A = ℕ} (cond (nat_eq h b) 1 0) 0 = ap (λ c. cond c 1 0) (ne_eqb h b ne) in
          let same : (nat_eq k l && nat_lt v w) ≡ (nat_eq k l && nat_lt v (w + 1)) =
          elim (cases_eq l k) [
            | inl e ↦
                ap (λ c. nat_eq k l && c)
                (elim (cases_lt v w) [
                  | inl less ↦ lt-ltb v w less ∙ sym (lt-ltb v (w + 1) (omega (arith, less)))
                  | inr more ↦
                      elim (cases_eq v w) [
                        | inl here ↦ absurd (ne (there e here))
                        | inr other ↦ le-ltb v w more ∙ sym (le-ltb v (w + 1) (omega (arith, more, other)))
                      ]
                ])
            | inr other ↦ ap (λ c. c && nat_lt v w) (ne_eqb k l (λ e. other (sym e))) ∙ sym (ap (λ c. c && nat_lt v (w + 1)) (ne_eqb k l (λ e. other (sym e))))
          ] in
          omega (arith, z, ap {B = ℕ} (λ c. cond (nat_lt k l || c) 1 0) same)
    ]

-- a test passes at most once
pub passing_low : (test : Key → Bool) (o : Option Key) → passing test o ≤ 1
passing_low test None = omega arith
passing_low test (Some key) =
    elim (test key) as (λ b. cond b 1 0 ≤ 1) [ true ↦ omega arith | false ↦ omega arith ]

-- two tests that together are a third, where there is a key
passing_sum : (p q r : Key → Bool) (o : Option Key) → ((key : Key) → o ≡ Some key → cond (p key) 1 0 + cond (q key) 1 0 ≡ cond (r key) 1 0)
    → passing p o + passing q o ≡ passing r o
passing_sum p q r None sum = refl
passing_sum p q r (Some key) sum = sum key refl

-- the time of a key's window: a late one has the next time
abbrev pub time_of : ℕ → (Key → ℕ) → Key → ℕ
time_of next times key = max (times key) next

-- the due keys of the levels above one, and on it of the windows before one
abbrev pub is_due_met : ℕ → (Key → ℕ) → (Key → ℕ) → ℕ → ℕ → ℕ → Key → Bool
is_due_met next levels times level window to key =
    nat_le key.deadline to && (nat_lt level (levels key) || (nat_eq level (levels key) && nat_lt (max (times key) next / 512 ^ level) window))

-- the due rows of those windows are there once, and no others
pub record IsSeen (next : ℕ) (keys : List (Option Key)) (levels at : Key → ℕ) (level window to : ℕ) (rows : List HeldRow) : Type 0 where
  pub each : (j : ℕ) → times j (rows_told keys rows) ≡ passing (is_due_met next levels at level window to) (key_in keys j)
  pub are_rows : AreRows keys (rows_told keys rows)

-- the level may be walked, from one window on
module _ {next level to : ℕ} {keys : List (Option Key)} {chains : Rings} {levels : Key → ℕ} (stand : StandOnLevels next chains keys levels) where
  -- the rows of the levels above are there at first
  pub seen_start : (from : ℕ) (rows : List HeldRow) → from ≡ next / 512 ^ level + min level 1 → AreCollected keys levels (level + 1) to rows → IsSeen next keys levels stand.time level from to rows
  seen_start from rows is so_far = record {
    each = λ j. so_far.each j
        ∙ passing_same (is_due_from levels (level + 1) to) (is_due_met next levels stand.time level from to) (key_in keys j) (λ key has.
        met_first (nat_le key.deadline to) level (levels key) (time_of next stand.time key / 512 ^ level) from (λ on. first key j has on));
    are_rows = so_far.are_rows;
  }
    where
      first : (key : Key) (j : ℕ) → key_in keys j ≡ Some key → levels key ≡ level → from ≤ time_of next stand.time key / 512 ^ level
      first key j has on =
          elim (cases_eq level 0) [
            | inl e ↦ omega (arith, is, e, later level next (time_of next stand.time key) (omega arith))
            | inr ne ↦
                let fit = stand.levelled.fit j key has in
                let after = fit.ahead (omega (arith, on, ne)) (omega (arith, on, ne)) in
                omega (arith, is, after, ap (λ l. next / 512 ^ l) on, ap (λ l. time_of next stand.time key / 512 ^ l) on)
          ]

  -- windows without a row are passed over
  pub seen_skip : (window end found : ℕ) (rows : List HeldRow) → window ≤ found → found ≤ end → end ≤ end_of level next
      → FirstWindow chains (places (stand_on next levels stand.time stand.rank) keys) level window end found
      → IsSeen next keys levels stand.time level window to rows → IsSeen next keys levels stand.time level found to rows
  seen_skip window end found rows up low few first seen = record {
    each = λ j. seen.each j
        ∙ passing_same (is_due_met next levels stand.time level window to) (is_due_met next levels stand.time level found to) (key_in keys j) (λ key has.
        met_skip (nat_le key.deadline to) level (levels key) (time_of next stand.time key / 512 ^ level) window found up (λ on high.
        elim (cases_lt (time_of next stand.time key / 512 ^ level) end) [
          | inl before ↦
              first.none_below (time_of next stand.time key / 512 ^ level) j (stand_on next levels stand.time stand.rank key)
              (omega (arith, stand.slots, key_low keys j key has)) (at_place keys (stand_on next levels stand.time stand.rank) j key has) high before
              (ap (λ l. bucket_of_window l (time_of next stand.time key / 512 ^ l)) on)
          | inr after ↦ omega (arith, low, after)
        ]));
    are_rows = seen.are_rows;
  }

  -- a window more
  module _ (window : ℕ) (rows : List HeldRow) (from : next / 512 ^ level ≤ window) (low : window < end_of level next)
      (seen : IsSeen next keys levels stand.time level window to rows) where
    here : (key : Key) (j : ℕ) → key_in keys j ≡ Some key → home_on next levels stand.time key ≡ bucket_of_window level window
        → StandsForTime (levels key) level (time_of next stand.time key / 512 ^ level) window
    here key j has at = stands_at next (levels key) level (time_of next stand.time key) window (omega arith) (stand.levelled.fit j key has) from low at

    one_more : (j : ℕ)
        → passing (is_due_met next levels stand.time level window to) (key_in keys j) + passing (is_due_in (stand_on next levels stand.time stand.rank) (bucket_of_window level window) to) (key_in keys j)
        ≡ passing (is_due_met next levels stand.time level (window + 1) to) (key_in keys j)
    one_more j =
        passing_sum (is_due_met next levels stand.time level window to) (is_due_in (stand_on next levels stand.time stand.rank) (bucket_of_window level window) to)
        (is_due_met next levels stand.time level (window + 1) to) (key_in keys j) (λ key has.
        met_more (nat_le key.deadline to) level (levels key) (time_of next stand.time key / 512 ^ level) window (home_on next levels stand.time key) (bucket_of_window level window)
        (here key j has)
        (λ on at. ap (λ l. bucket_of_window l (time_of next stand.time key / 512 ^ l)) on ∙ ap (bucket_of_window level) at))

    pub may_collect : MayCollect chains keys (stand_on next levels stand.time stand.rank) (bucket_of_window level window) to rows
    may_collect = record {
      slots = stand.slots;
      are = stand.are;
      once = λ j. omega (
        arith,
        seen.each j,
        one_more j,
        passing_low (is_due_met next levels stand.time level (window + 1) to) (key_in keys j),
      );
      are_rows = seen.are_rows;
    }

    pub seen_more : (new : List HeldRow) → Collects keys (stand_on next levels stand.time stand.rank) (bucket_of_window level window) to rows new
        → IsSeen next keys levels stand.time level (window + 1) to new
    seen_more new c = record {
      each = λ j. omega (arith, c.each j, seen.each j, one_more j);
      are_rows = c.are_rows;
    }

  -- at the end all due rows of the level are there
  pub seen_end : (window last : ℕ) (rows : List HeldRow) → last ≡ max (min to LAST) next / 512 ^ level → min (last + 1) (end_of level next) ≤ window
      → IsSeen next keys levels stand.time level window to rows → AreCollected keys levels level to rows
  seen_end window last rows is high seen = record {
    each = λ j. seen.each j
        ∙ passing_same (is_due_met next levels stand.time level window to) (is_due_from levels level to) (key_in keys j) (λ key has.
        met_last (nat_le key.deadline to) level (levels key) (time_of next stand.time key / 512 ^ level) window (λ due on. before key j has due on));
    are_rows = seen.are_rows;
  }
    where
      before : (key : Key) (j : ℕ) → key_in keys j ≡ Some key → nat_le key.deadline to ≡ true → levels key ≡ level → time_of next stand.time key / 512 ^ level < window
      before key j has due on =
          let early : key.deadline ≤ to =
          elim (leb_tells key.deadline to) [ inl (t, e) ↦ e | inr (f, e) ↦ absurd (true≢false (sym due ∙ f)) ] in
          let down : time_of next stand.time key ≤ max (min to LAST) next = omega (arith, early, stand.low j key has, stand.levelled.early j key has) in
          let few = window_before_end next (levels key) (time_of next stand.time key) (omega (arith, stand.low j key has, stand.levelled.early j key has, stand.fits)) (stand.levelled.fit j key has) in
          omega (
            arith,
            is,
            high,
            few,
            later level (time_of next stand.time key) (max (min to LAST) next) down,
            ap (λ l. time_of next stand.time key / 512 ^ l) on,
            ap (λ l. end_of l next) on,
          )
