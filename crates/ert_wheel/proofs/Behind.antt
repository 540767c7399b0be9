-- Rows that are left in the window before which time stands.

use Rattle.std.proofs.Common.{◌≡◌, ◌≢◌, ℕ, suc, ◌+◌, ◌-◌, ◌*◌, ◌/◌, ◌^◌, ◌<◌, ◌≤◌, Bool, true, false, List, Option, Some, None, IfSome, sym, subst, ◌∙◌, ap, inl, inr, refl, arith}
use Rattle.std.proofs.{Math.Nat.{pow-succ', suc-mul, mul-le-mul_right, div-mul-le_self, div-lt_iff_lt-mul}, lemmas.Bool.cases_lt, lemmas.Nat.div_below}
use Rattle.std.specs.{Bool.OnTrue, Option.is_some}
use Rattle.ert_wheel.proofs.{Homes.home_of_slot, Times.{later, some_wide}, Views.place_is, Writes.{Sees, unordered, ordered_never}}
use Rattle.ert_wheel.specs.{Falling.{HasRowIn, MayFall}, FirstDue.HasToMove, Levels.bucket_of_window, Rings.{Rings, Place, AreChains, StandsIn, Finds}, NextDue.NoneBefore, Rows.key_in, Standing.homes_of, Wheels.{held_keys, stand_on}}
use Rattle.ert_wheel.specs.{Wheels.{places, AreLevelChains}, declared.ordered.Ordered.Ordered, declared.row.Key.Key}

-- the newest row that stands in the window after that of the next time
row_left : (next level slot : ℕ) (chains : Rings) (stored : List Key) → MayFall next 1 chains (held_keys chains stored)
    → ((places : ℕ → Option Place) → AreChains chains places
    → Finds chains places (bucket_of_window level (next / 512 ^ level + 1)) (2 ^ 64) (Some slot))
    → HasRowIn (held_keys chains stored) (homes_of chains) level (next / 512 ^ level + 1)
row_left next level slot chains stored may finds =
    let keys : List (Option Key) = held_keys chains stored in
    let spot : Key → Place = stand_on next may.are.level may.are.time may.are.rank in
    let f = finds (places spot keys) may.are.are in
    let there : StandsIn (places spot keys) (bucket_of_window level (next / 512 ^ level + 1)) slot = f.stands.1 in
    let k = place_is spot (key_in keys slot) there.place there.has in
    record {
      slot = slot;
      key = k.0;
      has = k.1;
      at = home_of_slot chains (places spot keys) slot (bucket_of_window level (next / 512 ^ level + 1)) may.are.are f.stands.0 there;
    }

-- whether there is one
pub rows_left : (next level window bucket : ℕ) (chains : Rings) (stored : List Key) (found : Option ℕ) (told : Bool) → told ≡ is_some found
    → MayFall next 1 chains (held_keys chains stored) → window ≡ next / 512 ^ level + 1 → bucket ≡ bucket_of_window level window
    → ((places : ℕ → Option Place) → AreChains chains places → Finds chains places bucket (2 ^ 64) found)
    → OnTrue told (HasRowIn (held_keys chains stored) (homes_of chains) level (next / 512 ^ level + 1))
rows_left next level window bucket chains stored None told is may at there finds =
    subst (λ (b : Bool). OnTrue b (HasRowIn (held_keys chains stored) (homes_of chains) level (next / 512 ^ level + 1))) (sym is) tt
rows_left next level window bucket chains stored (Some slot) told is may at there finds =
    let e : bucket ≡ bucket_of_window level (next / 512 ^ level + 1) = there ∙ ap (bucket_of_window level) at in
    subst (λ (b : Bool). OnTrue b (HasRowIn (held_keys chains stored) (homes_of chains) level (next / 512 ^ level + 1))) (sym is)
    (row_left next level slot chains stored may
    (subst (λ (b : ℕ). (places : ℕ → Option Place) → AreChains chains places → Finds chains places b (2 ^ 64) (Some slot)) e finds))

-- a later time is in a later window of a level: where that begins
pub record BeginsAfter (next time level : ℕ) : Type 0 where
  pub wide : 512 ≤ time / 512 ^ level * 512 ^ level
  pub after : next < time / 512 ^ level * 512 ^ level
  pub by : time / 512 ^ level * 512 ^ level ≤ time
  pub last : (time / 512 ^ level * 512 ^ level - 1) / 512 ^ level + 1 ≡ time / 512 ^ level

-- the windows of a level above the lowest are no smaller than those of the next
at_least_512 : (level : ℕ) → 1 ≤ level → 512 ≤ 512 ^ level
at_least_512 level some =
    let l : ℕ = level - 1 in
    let p : ◌≡◌ {A = ℕ} (512 ^ suc l) (512 * 512 ^ l) = pow-succ' 512 l in
    let e : suc l ≡ level = omega (arith, some) in
    omega (arith, p, some_wide l, ap (λ n. 512 ^ n) e)

-- the last time before a window is in the window before it
last_before : (window m : ℕ) → 1 ≤ window → 0 < m → (window * m - 1) / m + 1 ≡ window
last_before window m some wide =
    let e : window ≡ suc (window - 1) = omega (arith, some) in
    let wider : window * m ≡ (window - 1) * m + m = ap (λ w. w * m) e ∙ suc-mul (window - 1) m in
    let low : (window * m - 1) / m < window = div_below (window * m - 1) m window wide (omega (arith, wider, wide)) in
    elim (cases_lt ((window * m - 1) / m) (window - 1)) [
      | inl less ↦ absurd (omega (arith, (div-lt_iff_lt-mul {k = m} {x = window * m - 1} {y = window - 1} wide).0 less, wider, wide))
      | inr more ↦ omega (arith, low, more)
    ]

pub begins_after : (next time level : ℕ) → 1 ≤ level → next < time → time / 512 ^ level ≢ next / 512 ^ level → BeginsAfter next time level
begins_after next time level some less apart =
    let m : ℕ = 512 ^ level in
    let wide : 0 < m = some_wide level in
    let later_window : next / m < time / m = omega (arith, later level next time (omega (arith, less)), apart) in
    record {
      wide = omega (arith, at_least_512 level some, mul-le-mul_right m (let one : 1 ≤ time / m = omega (arith, later_window) in one));
      after = (div-lt_iff_lt-mul {k = m} {x = next} {y = time / m} wide).0 later_window;
      by = div-mul-le_self time m;
      last = last_before (time / m) m (omega (arith, later_window)) wide;
    }

-- where rows are left, time stands before the begin of their window
behind : (keys : List (Option Key)) (there : List (Option ℕ)) (next time level passed : ℕ) → 1 ≤ level → level ≤ 4 → BeginsAfter next time level
    → passed ≡ time / 512 ^ level * 512 ^ level - 1 → HasRowIn keys there level (passed / 512 ^ level + 1) → HasToMove keys there passed (time - 1)
behind keys there next time level passed some most b stands row = record {
  on = omega (arith, stands, b.by, b.wide);
  begins = record {
    time = time / 512 ^ level * 512 ^ level;
    by = omega (arith, b.by, b.wide);
    begins = record {
      slot = row.slot;
      key = row.key;
      has = row.has;
      in_window = record {
        later = omega (arith, stands, b.wide);
        level = level;
        above = some;
        highest = most;
        window = time / 512 ^ level;
        begin = refl;
        there = record { near = omega (arith, window); at = row.at ∙ ap (λ w. Some (bucket_of_window level w)) window };
      };
    };
  };
}
  where
    window : passed / 512 ^ level + 1 ≡ time / 512 ^ level
    window = ap (λ t. t / 512 ^ level + 1) stands ∙ b.last

pub left_behind : (keys : List (Option Key)) (there : List (Option ℕ)) (next time level passed : ℕ) (left : Bool) → 1 ≤ level → level ≤ 4 → BeginsAfter next time level
    → passed ≡ time / 512 ^ level * 512 ^ level - 1 → OnTrue left (HasRowIn keys there level (passed / 512 ^ level + 1))
    → OnTrue left (HasToMove keys there passed (time - 1))
left_behind keys there next time level passed false some most b stands row = tt
left_behind keys there next time level passed true some most b stands row = behind keys there next time level passed some most b stands row

-- none is due by a time before that of which that is known
if_some : (key : Option Key) (to : ℕ) → ((k : Key) → key ≡ Some k → to < k.deadline) → IfSome key (λ k. to < k.deadline)
if_some None to later = tt
if_some (Some k) to later = later k refl

pub none_by : (keys : List (Option Key)) (time to : ℕ) → NoneBefore keys time → to < time
    → (slot : ℕ) → IfSome (key_in keys slot) (λ k. to < k.deadline)
none_by keys time to none less slot = if_some (key_in keys slot) to (λ k has. omega (arith, less, none slot k has))

-- the wheel after rows fell, where time stands
pub fell : {next count : ℕ} {ordered : Ordered} {floor : ℕ} {stored : List Key} {seen : List (Option Key)} {chains new : Rings} (rising : ℕ)
    → Sees next count ordered floor stored seen chains → new.slots ≡ chains.slots → new.homes ≡ chains.homes
    → AreLevelChains next 1 new seen → Sees next count (unordered rising) floor stored seen new
fell rising s slots homes are = record {
  are_stored = s.are_stored;
  above = s.above;
  wheel = record {
    slots = s.wheel.slots ∙ sym slots;
    few = s.wheel.few;
    homes = homes ∙ s.wheel.homes;
    time = s.wheel.time;
    counts = s.wheel.counts;
    low = s.wheel.low;
    are = ordered_never s.wheel.time are;
  };
}
