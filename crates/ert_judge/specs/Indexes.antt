-- What finds the timers of a wheel: the place of each by its slot and generation, the uses of each slot,
-- and the armed ones by deadline and then by place.

use Rattle.std.specs.Prelude.{◌≡◌, ℕ, ◌+◌, unwrap_or, slice_get, Bool, true, false, cond, ◌&&◌, nat_eq, nat_le, nat_lt, List, take, drop, Option, Some, None}
use Rattle.std.specs.{BTreeMap.{BTreeMap, get, is_at}, BTreeSet.{BTreeSet, contains}, Ordering.{nat_cmp, ordering_then}, declared.cmp.Ordering.Ordering}
use Rattle.ert_defs.specs.{Laws.is_armed, declared.timer.Status.TheVariants.Armed, declared.timer.TimerRef.TimerRef}
use Rattle.ert_judge.specs.{Uses.{uses_of, none_kept, uses_in}, Wheels.{timer_in, is_settled}, declared.state.uses.Uses.Uses as KeptUses, declared.state.wheels.Timer.Timer}

-- the order of pairs of numbers: by the first, then by the second
abbrev pub pair_cmp : ℕ × ℕ → ℕ × ℕ → Ordering
pair_cmp x y = ordering_then (nat_cmp x.0 y.0) (nat_cmp x.1 y.1)

-- whether a timer is armed with this deadline
abbrev pub is_armed_for : Option Timer → ℕ → Bool
is_armed_for None d = false
is_armed_for (Some t) d = is_armed (Some t.status) && nat_eq t.row.deadline d

-- a map has a place at a slot and a generation, and all else as another has it
abbrev pub PutsPlace : BTreeMap (ℕ × ℕ) ℕ → BTreeMap (ℕ × ℕ) ℕ → ℕ → ℕ → ℕ → Type 0
PutsPlace m n k g p =
    (q : ℕ × ℕ) → get pair_cmp n q ≡ cond (is_at (pair_cmp (k, g)) q) (Some p) (get pair_cmp m q)

-- a set has a deadline and a place or not, and all else as another has it
abbrev pub Sets : BTreeSet (ℕ × ℕ) → BTreeSet (ℕ × ℕ) → ℕ → ℕ → Bool → Type 0
Sets s n d p has = (q : ℕ × ℕ) → contains pair_cmp n q ≡ cond (is_at (pair_cmp (d, p)) q) has (contains pair_cmp s q)

-- what is kept of a slot's uses
abbrev pub kept_at : BTreeMap ℕ KeptUses → ℕ → KeptUses
kept_at slots k = unwrap_or (get nat_cmp slots k) none_kept

-- what finds the timers of a wheel fits them: the place of each, the uses of each slot, and which are armed
pub record IsIndexed (ts : List Timer) (places : BTreeMap (ℕ × ℕ) ℕ) (slots : BTreeMap ℕ KeptUses) (armed : BTreeSet (ℕ × ℕ)) : Type 0 where
  pub placed : (p : ℕ) (t : Timer) → slice_get ts p ≡ Some t
      → get pair_cmp places (t.row.timer.slot, t.row.timer.generation) ≡ Some p
  pub uses : (k : ℕ) → uses_of (kept_at slots k) ≡ uses_in ts k
  pub waits : (d p : ℕ) → contains pair_cmp armed (d, p) ≡ is_armed_for (slice_get ts p) d

-- no timer has a reference
abbrev pub IsUnknown : List Timer → TimerRef → Type 0
IsUnknown ts r = (p : ℕ) (t : Timer) → slice_get ts p ≡ Some t → t.row.timer ≡ r → ⊥

-- the timer of a reference stands at a place, and at no other
pub record StandsAt (ts : List Timer) (r : TimerRef) (p : ℕ) (t : Timer) : Type 0 where
  pub stands : slice_get ts p ≡ Some t
  pub named : t.row.timer ≡ r
  pub alone : (q : ℕ) (u : Timer) → slice_get ts q ≡ Some u → u.row.timer ≡ r → q ≡ p

-- no armed timer comes before that at a place with a deadline, by deadline and then by arming
pub record HasNoneBefore (ts : List Timer) (p d : ℕ) : Type 0 where
  pub before : is_settled (λ e. nat_le e d) (take p ts) ≡ true
  pub behind : is_settled (λ e. nat_lt e d) (drop (p + 1) ts) ≡ true

-- a timer is the first of the armed ones of a wheel, by deadline and then by arming, and the one of its reference
pub record IsFirstArmed (ts : List Timer) (t : Timer) : Type 0 where
  pub place : ℕ
  pub stands : slice_get ts place ≡ Some t
  pub named : timer_in ts t.row.timer ≡ Some t
  pub armed : t.status ≡ Armed
  pub first : HasNoneBefore ts place t.row.deadline
  pub least : is_settled (λ d. nat_lt d t.row.deadline) ts ≡ true
