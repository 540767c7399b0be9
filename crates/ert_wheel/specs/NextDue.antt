-- When the next row of a wheel is due, or when a window begins before which none is.

use Rattle.std.specs.Prelude.{◌≡◌, ◌≢◌, ℕ, ◌+◌, ◌*◌, ◌/◌, ◌<◌, ◌≤◌, ◌^◌, ◌⊎◌, List, Option, Some, None, length, max}
use Rattle.ert_wheel.specs.{Rings.{Rings, Place, AreChains}, Rows.key_in, Standing.{homes_of, StandsForTime, StandsInWindow}, Walks.StandOnLevels, Wheels.places, declared.row.Key.Key, declared.row.TheConstants.NEVER}

-- there is no row
abbrev pub NoRow : List (Option Key) → Type 0
NoRow keys = (slot : ℕ) → key_in keys slot ≡ None

-- there is a row
pub record HasSomeRow (keys : List (Option Key)) : Type 0 where
  pub slot : ℕ
  pub key : Key
  pub has : key_in keys slot ≡ Some key

-- no row is due before a time
abbrev pub NoneBefore : List (Option Key) → ℕ → Type 0
NoneBefore keys time = (slot : ℕ) (key : Key) → key_in keys slot ≡ Some key → time ≤ key.deadline

-- some row is due at a time
pub record IsDueAt (keys : List (Option Key)) (time : ℕ) : Type 0 where
  pub slot : ℕ
  pub key : Key
  pub has : key_in keys slot ≡ Some key
  pub at : key.deadline ≡ time

-- the row of a slot is due at a time
pub record IsDueOf (keys : List (Option Key)) (slot time : ℕ) : Type 0 where
  pub key : Key
  pub has : key_in keys slot ≡ Some key
  pub at : key.deadline ≡ time

-- The row of a slot stands in a window of a level above the lowest that begins at a time, which comes after the first that wasn't
-- passed. A window of level l is 512 ^ l milliseconds wide, and begins at a multiple of that.
pub record IsInWindow (stands : List (Option ℕ)) (passed time slot : ℕ) : Type 0 where
  pub later : passed < time
  pub level : ℕ
  pub above : 1 ≤ level
  pub highest : level ≤ 4
  pub window : ℕ
  pub begin : time ≡ window * 512 ^ level
  pub there : StandsInWindow stands passed level window slot

-- a window in which some row stands begins at a time
pub record WindowBegins (keys : List (Option Key)) (stands : List (Option ℕ)) (passed time : ℕ) : Type 0 where
  pub slot : ℕ
  pub key : Key
  pub has : key_in keys slot ≡ Some key
  pub in_window : IsInWindow stands passed time slot

-- there are rows, none is due before a time, and either one is due at it, or one stands in a window that begins there
pub record IsNextDue (keys : List (Option Key)) (stands : List (Option ℕ)) (passed time : ℕ) : Type 0 where
  pub some : HasSomeRow keys
  pub none_before : NoneBefore keys time
  pub near : IsDueAt keys time ⊎ WindowBegins keys stands passed time

-- the row of a slot tells a time: it is due at it, or stands in a window that begins there
pub record TellsNext (keys : List (Option Key)) (stands : List (Option ℕ)) (passed time slot : ℕ) : Type 0 where
  pub key : Key
  pub has : key_in keys slot ≡ Some key
  pub told : (key.deadline ≡ time) ⊎ IsInWindow stands passed time slot

-- no row stands in a window of a level that begins at a time
abbrev pub NoneBeginsOn : List (Option Key) → List (Option ℕ) → ℕ → ℕ → ℕ → Type 0
NoneBeginsOn keys stands passed level time = (b : WindowBegins keys stands passed time) → b.in_window.level ≢ level

-- the least deadline of the rows
pub record IsLeastDeadline (keys : List (Option Key)) (least : ℕ) : Type 0 where
  pub due : IsDueAt keys least
  pub none_before : NoneBefore keys least

-- An answer in the window of 512 milliseconds of the first time that wasn't passed, or before it, is exact: no window
-- begins there after that time.
abbrev pub LawOfNearAnswers : Type 0
LawOfNearAnswers = (keys : List (Option Key)) (stands : List (Option ℕ)) (passed time least : ℕ) → IsNextDue keys stands passed time
    → IsLeastDeadline keys least → least / 512 ≤ passed / 512 → time ≡ least

-- Answers that are no deadlines are rare: a caller that gets the begin of a window, lets time pass up to it and asks again gets a
-- deadline, or a time that is 512 milliseconds later at least.
abbrev pub LawOfRareAnswers : Type 0
LawOfRareAnswers = (was keys : List (Option Key)) (stood stands : List (Option ℕ)) (earlier passed first second : ℕ)
    → WindowBegins was stood earlier first → WindowBegins keys stands passed second → first ≤ passed → first + 512 ≤ second

-- Answers go on: where a time was passed and no row is left that was due by it, the answer is later.
abbrev pub LawOfLaterDue : Type 0
LawOfLaterDue = (keys : List (Option Key)) (stands : List (Option ℕ)) (passed time to : ℕ) → IsNextDue keys stands passed time
    → ((slot : ℕ) (key : Key) → key_in keys slot ≡ Some key → to < key.deadline) → to < passed → to < time

-- no row stands too early: each stands in the bucket of its deadline, and a late one in that of the first time that wasn't passed
abbrev pub NoneTooEarly : List (Option Key) → List (Option ℕ) → ℕ → Type 0
NoneTooEarly keys stands passed = (slot : ℕ) (key : Key) → key_in keys slot ≡ Some key → StandsForTime stands passed slot (max key.deadline passed)

-- some row is due in a window of a level above the lowest that begins at a time
pub record IsDueWithin (keys : List (Option Key)) (time : ℕ) : Type 0 where
  pub slot : ℕ
  pub key : Key
  pub has : key_in keys slot ≡ Some key
  pub level : ℕ
  pub above : 1 ≤ level
  pub highest : level ≤ 4
  pub begin : time ≡ key.deadline / 512 ^ level * 512 ^ level

-- Where no row stands too early, an answer that is no deadline is the begin of a window in which a row is due.
abbrev pub LawOfTrueWindows : Type 0
LawOfTrueWindows = (keys : List (Option Key)) (stands : List (Option ℕ)) (passed time : ℕ) → IsNextDue keys stands passed time
    → NoneTooEarly keys stands passed → IsDueAt keys time ⊎ IsDueWithin keys time

-- the chains are those of the keys, by some homes
pub record MayWalk (chains : Rings) (keys : List (Option Key)) : Type 0 where
  pub slots : length keys ≡ chains.slots
  pub spot : Key → Place
  pub are : AreChains chains (places spot keys)

-- some row of a bucket is due at a time
pub record IsDueIn (keys : List (Option Key)) (spot : Key → Place) (bucket time : ℕ) : Type 0 where
  pub slot : ℕ
  pub key : Key
  pub has : key_in keys slot ≡ Some key
  pub at_home : (spot key).home ≡ bucket
  pub at : key.deadline ≡ time

-- the least deadline of a bucket's rows and a bound
pub record IsLeastIn (keys : List (Option Key)) (spot : Key → Place) (bucket bound least : ℕ) : Type 0 where
  pub low : least ≤ bound
  pub below : (slot : ℕ) (key : Key) → key_in keys slot ≡ Some key → (spot key).home ≡ bucket → least ≤ key.deadline
  pub near : IsDueIn keys spot bucket least ⊎ (least ≡ bound)

-- some row is due at a time, or stands in a window that begins there, or it is the end of all times
abbrev pub IsEarlyOrNever : List (Option Key) → List (Option ℕ) → ℕ → ℕ → Type 0
IsEarlyOrNever keys stands passed time = (IsDueAt keys time ⊎ WindowBegins keys stands passed time) ⊎ (time ≡ NEVER)

-- no row that stands on a level is due before a time
abbrev pub NoneOn : List (Option Key) → (Key → ℕ) → ℕ → ℕ → Type 0
NoneOn keys level on time = (slot : ℕ) (key : Key) → key_in keys slot ≡ Some key → level key ≡ on → time ≤ key.deadline

-- the rows stand on some levels, and of those on the lowest none is due before a time, at which one may be
pub record MayLookAbove (next : ℕ) (chains : Rings) (keys : List (Option Key)) (near : ℕ) : Type 0 where
  pub level : Key → ℕ
  pub stand : StandOnLevels next chains keys level
  pub none : NoneOn keys level 0 near
  pub early : IsEarlyOrNever keys (homes_of chains) next near
