-- How the rows of a part go, and of what it holds rows or none.

use Rattle.std.specs.Prelude.{◌≡◌, ◌≢◌, ◌⊎◌, ℕ, ◌<◌, ◌≤◌, List, [], ◌∷◌, Some, Result, Ok}
use Rattle.ert_defs.specs.declared.timer.TimerRef.{TimerRef}
use Rattle.ert_effects.specs.WheelCalls.{Try}
use Rattle.ert_timers.specs.{Freeing.IsHeld, Frees.KeepsFree, Parts.{Part, last_timer}}
use Rattle.ert_wheel.specs.{Rows.key_in, declared.row.Key.Key, Standing.StayOrFall}

-- each row that is held is due later than a time, and the wheel has passed that
pub record HasPassed (p : Part) (to : ℕ) : Type 0 where
  pub left : (k : ℕ) (key : Key) → key_in p.keys k ≡ Some key → to < key.deadline
  pub on : to < p.passed

-- some rows have gone, none has come, and time went on if it moved
pub record HasFewerRows (p q : Part) : Type 0 where
  pub number : q.number ≡ p.number
  pub slots : q.slots ≡ p.slots
  pub left : (k : ℕ) (key : Key) → key_in q.keys k ≡ Some key → key_in p.keys k ≡ Some key
  pub time : p.passed ≤ q.passed

-- the same, each slot that was held free is so still, and each row that is left stands where it stood or in the bucket of its own
-- deadline on some level
pub record LosesRows (p q : Part) : Type 0 where
  pub number : q.number ≡ p.number
  pub slots : q.slots ≡ p.slots
  pub left : (k : ℕ) (key : Key) → key_in q.keys k ≡ Some key → key_in p.keys k ≡ Some key
  pub time : p.passed ≤ q.passed
  pub frees : KeepsFree p q
  pub stands : StayOrFall q.keys q.passed p.stands q.stands

-- a row of a slot was held before, and is of the same timer
abbrev pub WasHeld : Part → Part → ℕ → Key → Type 0
WasHeld p q k key = (key_in p.keys k ≡ Some key) × (last_timer q.number q.slots k ≡ last_timer p.number p.slots k)

-- some rows may have gone in a start, or a restart, and none has come but that of the timer that it started
abbrev pub GainsOne : {E : Type 0} → Part → Part → Result TimerRef E → Type 0
GainsOne p q answer = (k : ℕ) (key : Key) → key_in q.keys k ≡ Some key → WasHeld p q k key ⊎ (answer ≡ Ok (last_timer q.number q.slots k))

-- no row is held of the timers of these tries
abbrev pub HoldsNone : Part → List Try → Type 0
HoldsNone p [] = Unit {0}
HoldsNone p (t ∷ tries) = ((k : ℕ) (key : Key) → key_in p.keys k ≡ Some key → last_timer p.number p.slots k ≢ t.timer) × HoldsNone p tries

-- the row of each of these tries' timers is held
abbrev pub HoldsEach : Part → List Try → Type 0
HoldsEach p [] = Unit {0}
HoldsEach p (t ∷ tries) = IsHeld p t.timer × HoldsEach p tries
