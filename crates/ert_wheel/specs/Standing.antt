-- Where rows stand: by slot the bucket in whose chain it is.

use Rattle.std.specs.Prelude.{◌≡◌, ◌⊎◌, ℕ, zero, suc, ◌+◌, ◌-◌, ◌/◌, ◌≤◌, ◌^◌, List, Option, Some, None, cond, map, nat_lt, slice_index_or, slice_set}
use Rattle.std.specs.List.{range_with_len}
use Rattle.ert_wheel.specs.{Levels.{bucket_of_window, bucket_on, StaysPut}, Links.next_at, Rings.Rings, Rows.key_in, declared.row.Key.Key}

-- more steps than a chain has
unfoldable pub far : ℕ
far = 2 ^ 64 + 2

-- the home to whose head the links lead from a node, in so many steps
unfoldable pub home_from : ℕ → Rings → ℕ → Option ℕ
home_from zero r x = None
home_from (suc n) r x = cond (nat_lt x r.slots) (home_from n r (next_at r.links x)) (Some (x - r.slots))

-- by slot the home in whose chain it is; None where it is in none
abbrev pub homes_of : Rings → List (Option ℕ)
homes_of r = map (home_from far r) (range_with_len 0 r.slots)

-- the bucket in which the row of a slot stands; None where it has no row
abbrev pub bucket_in : List (Option ℕ) → ℕ → Option ℕ
bucket_in stands slot = slice_index_or stands slot None

-- The row of a slot stands in a window of a level. Seen from the first time that wasn't passed a level shows 512 windows, among
-- which is that time's own, and the 512 after these: so its bucket tells the window.
pub record StandsInWindow (stands : List (Option ℕ)) (passed level window slot : ℕ) : Type 0 where
  pub near : window / 512 ≤ passed / 512 ^ level / 512 + 1
  pub at : bucket_in stands slot ≡ Some (bucket_of_window level window)

-- the row of a slot stands in the bucket of a time on some level that shows the time
pub record StandsForTime (stands : List (Option ℕ)) (passed slot time : ℕ) : Type 0 where
  pub level : ℕ
  pub highest : level ≤ 4
  pub in_window : StandsInWindow stands passed level (time / 512 ^ level) slot

-- The row of a slot stands in the bucket of its deadline on some level that shows it. A late one may stand in that of a time on the
-- lowest level, which was the first that wasn't passed.
pub record StandsDue (stands : List (Option ℕ)) (passed slot deadline : ℕ) : Type 0 where
  pub level : ℕ
  pub highest : level ≤ 4
  pub time : ℕ
  pub in_window : StandsInWindow stands passed level (time / 512 ^ level) slot
  pub due : (time ≡ deadline) ⊎ ((level ≡ 0) × (deadline ≤ time) × (time ≤ passed))

-- The row of a slot comes to the bucket of a time on some level that shows the time: the lowest one, where that is the first that
-- wasn't passed. No other row moves.
pub record ComesTo (old new : List (Option ℕ)) (passed slot time : ℕ) : Type 0 where
  pub level : ℕ
  pub highest : level ≤ 4
  pub near : time / 512 ^ level / 512 ≤ passed / 512 ^ level / 512 + 1
  pub lowest : time ≡ passed → level ≡ 0
  pub is : new ≡ slice_set old slot (Some (bucket_on level time))

-- no row moves, where the row of a slot may stay for a later deadline
pub record StaysThere (keys : List (Option Key)) (old new : List (Option ℕ)) (passed slot time : ℕ) : Type 0 where
  pub key : Key
  pub has : key_in keys slot ≡ Some key
  pub put : StaysPut passed key.deadline time
  pub same : new ≡ old

-- the row of a slot gets another deadline: it comes to the bucket of that, or stays where it may
abbrev pub ComesOrStays : List (Option Key) → List (Option ℕ) → List (Option ℕ) → ℕ → ℕ → ℕ → Type 0
ComesOrStays keys old new passed slot time = StaysThere keys old new passed slot time ⊎ ComesTo old new passed slot time

-- each row stands where its slot stood, or in the bucket of its own deadline on some level
pub record StayOrFall (keys : List (Option Key)) (passed : ℕ) (old new : List (Option ℕ)) : Type 0 where
  pub each : (slot : ℕ) (key : Key) → key_in keys slot ≡ Some key
      → (bucket_in new slot ≡ bucket_in old slot) ⊎ StandsDue new passed slot key.deadline
