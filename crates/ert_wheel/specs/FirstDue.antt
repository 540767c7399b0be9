-- The first of the rows that are due.

use Rattle.std.specs.Prelude.{◌≡◌, ◌⊎◌, ⊤, ℕ, ◌+◌, ◌<◌, ◌≤◌, false, List, Option, Some, max}
use Rattle.ert_wheel.specs.{NextDue.{NoneBefore, IsNextDue, WindowBegins}, Rings.Place, Rows.{key_in, key_of, row_at, row_told, comes_before}, declared.row.FirstDue.FirstDue, declared.row.FirstDue.TheVariants.{Row as First, Nothing}}
use Rattle.ert_wheel.specs.{declared.row.FirstDue.TheVariants.Moving, declared.row.Key.Key, declared.row.Row.Row}

-- no row is due by a time
abbrev pub NoRowDue : List (Option Key) → ℕ → Type 0
NoRowDue keys to = (slot : ℕ) (key : Key) → key_in keys slot ≡ Some key → to < key.deadline

-- a row is held and due by a time, and no row comes before it
pub record IsFirstRowDue (keys : List (Option Key)) (to : ℕ) (row : Row) : Type 0 where
  pub held : key_in keys row.slot ≡ Some (key_of row)
  pub due : row.deadline ≤ to
  pub first : (slot : ℕ) (key : Key) → key_in keys slot ≡ Some key → comes_before (row_at slot key) row ≡ false

-- some row is due by a time
pub record SomeRowDue (keys : List (Option Key)) (to : ℕ) : Type 0 where
  pub slot : ℕ
  pub key : Key
  pub has : key_in keys slot ≡ Some key
  pub by : key.deadline ≤ to

-- a window of a level above the lowest in which a row stands begins by a time
pub record BeginsBy (keys : List (Option Key)) (stands : List (Option ℕ)) (passed to : ℕ) : Type 0 where
  pub time : ℕ
  pub by : time ≤ to
  pub begins : WindowBegins keys stands passed time

-- A row may be due by a time: one is due by then or by the next time, or stands in a window that begins by then.
abbrev pub MayBeDue : List (Option Key) → List (Option ℕ) → ℕ → ℕ → Type 0
MayBeDue keys stands passed to = SomeRowDue keys (max to passed) ⊎ BeginsBy keys stands passed to

-- no row is due by a time, and that was passed
pub record IsPast (keys : List (Option Key)) (passed to : ℕ) : Type 0 where
  pub none : NoRowDue keys to
  pub on : to < passed

-- A time wasn't passed: a row stands in a window of a level above the lowest that begins by the millisecond after it.
pub record HasToMove (keys : List (Option Key)) (stands : List (Option ℕ)) (passed to : ℕ) : Type 0 where
  pub on : passed ≤ to
  pub begins : BeginsBy keys stands passed (to + 1)

-- More has to be done first: time hasn't come to a time, or a row is due by then, and rows of its millisecond are to be put in order of
-- start.
abbrev pub HasMore : List (Option Key) → List (Option ℕ) → ℕ → ℕ → Type 0
HasMore keys stands passed to = HasToMove keys stands passed to ⊎ SomeRowDue keys to

-- what is told of the first row that is due by a time
abbrev pub IsFirstTold : List (Option Key) → List (Option ℕ) → ℕ → ℕ → FirstDue → Type 0
IsFirstTold keys stands passed to (First row) = IsFirstRowDue keys to (row_told keys row)
IsFirstTold keys stands passed to Nothing = IsPast keys passed to
IsFirstTold keys stands passed to Moving = HasMore keys stands passed to

-- and of the first row that is due at a time before which none is, where time has come to that
abbrev pub IsFirstDueAt : List (Option Key) → ℕ → ℕ → FirstDue → Type 0
IsFirstDueAt keys passed time (First row) = IsFirstRowDue keys time (row_told keys row)
IsFirstDueAt keys passed time Nothing = time ≤ passed → NoRowDue keys time
IsFirstDueAt keys passed time Moving = ⊤

-- where time may come to next: no row is due before that, and it is when the next one is, or just past the time
pub record IsNextStop (keys : List (Option Key)) (stands : List (Option ℕ)) (passed to stop : ℕ) : Type 0 where
  pub none_before : NoneBefore keys stop
  pub near : stop ≤ to + 1
  pub due : stop ≤ to → IsNextDue keys stands passed stop

-- time has come there
pub record IsReached (keys : List (Option Key)) (stands : List (Option ℕ)) (passed to stop : ℕ) : Type 0 where
  pub next : IsNextStop keys stands passed to stop
  pub on : stop ≤ passed

-- no row of a bucket is due by a time
abbrev pub NoneDueIn : List (Option Key) → (Key → Place) → ℕ → ℕ → Type 0
NoneDueIn keys spot bucket to = (slot : ℕ) (key : Key) → key_in keys slot ≡ Some key → (spot key).home ≡ bucket → to < key.deadline

-- of the rows of a bucket that are due by a time this one has the least order
pub record IsOldestDue (keys : List (Option Key)) (spot : Key → Place) (bucket to : ℕ) (row : Row) : Type 0 where
  pub held : key_in keys row.slot ≡ Some (key_of row)
  pub at_home : (spot (key_of row)).home ≡ bucket
  pub due : row.deadline ≤ to
  pub oldest : (slot : ℕ) (key : Key) → key_in keys slot ≡ Some key → (spot key).home ≡ bucket → key.deadline ≤ to
      → (spot (key_of row)).order ≤ (spot key).order
