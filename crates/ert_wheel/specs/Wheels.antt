-- What a wheel keeps: keys by slot, and a chain of the rows of each bucket.

use Rattle.std.specs.Prelude.{◌≡◌, ℕ, ◌<◌, ◌≤◌, ◌^◌, List, Option, Some, None, cond, nat_eq, map, max, length, count_by, option_map}
use Rattle.std.specs.{List.{range_with_len, slice_get}, Option.is_some}
use Rattle.ert_wheel.specs.{Kept.{KeptSlots, AreAlike}, Levels.{bucket_on, MayStand}, Links.next_at, Rings.{Rings, Place, AreChains}, Rows.key_in, declared.links.Link.Link, declared.ordered.TheConstants.ALL}
use Rattle.ert_wheel.specs.{declared.ordered.Ordered.Ordered, declared.row.TheConstants.{NEVER, BUCKETS}, declared.row.Key.Key}

-- what is read past the end of the keys
abbrev pub no_key : Key
no_key = record { deadline = 0; order = 0 }

-- the key of a slot: none where the slot is alone in the ring of its bucket, and else the one that is stored
abbrev pub held_key : List Link → List Key → ℕ → Option Key
held_key links stored slot = cond (nat_eq (next_at links slot) slot) None (slice_get stored slot)

-- the keys that are held
abbrev pub held_keys : Rings → List Key → List (Option Key)
held_keys chains stored = map (held_key chains.links stored) (range_with_len 0 chains.slots)

-- the bucket of a key, by the level and the time at which it stands: a late row has the time of the next time
abbrev pub home_on : ℕ → (Key → ℕ) → (Key → ℕ) → Key → ℕ
home_on next level time key = bucket_on (level key) (max (time key) next)

-- and its place there, by its rank in the chain
abbrev pub stand_on : ℕ → (Key → ℕ) → (Key → ℕ) → (Key → ℕ) → Key → Place
stand_on next level time rank key = record { home = home_on next level time key; order = rank key }

-- where a key stands
abbrev pub place_of : (Key → Place) → Option Key → Option Place
place_of spot = option_map spot

-- where the slots stand, by their keys
abbrev pub places : (Key → Place) → List (Option Key) → ℕ → Option Place
places spot keys slot = place_of spot (key_in keys slot)

-- Each key stands on a level on which it may, at a time that is no later than it is due: on the lowest level when it is due.
-- No two have one order.
pub record AreLevelled (next high : ℕ) (keys : List (Option Key)) (level time : Key → ℕ) : Type 0 where
  pub fit : (slot : ℕ) (key : Key) → key_in keys slot ≡ Some key → MayStand next high (level key) (max (time key) next)
  pub early : (slot : ℕ) (key : Key) → key_in keys slot ≡ Some key → time key ≤ key.deadline
  pub exact : (slot : ℕ) (key : Key) → key_in keys slot ≡ Some key → level key ≡ 0 → time key ≡ key.deadline
  pub once : (i j : ℕ) (x y : Key) → key_in keys i ≡ Some x → key_in keys j ≡ Some y → x.order ≡ y.order → i ≡ j
  pub bounded : (slot : ℕ) (key : Key) → key_in keys slot ≡ Some key → key.order < 2 ^ 64

-- the chains are those of the buckets, by some levels, times and ranks of the keys
pub record AreLevelChains (next high : ℕ) (chains : Rings) (keys : List (Option Key)) : Type 0 where
  pub level : Key → ℕ
  pub time : Key → ℕ
  pub rank : Key → ℕ
  pub levelled : AreLevelled next high keys level time
  pub are : AreChains chains (places (stand_on next level time rank) keys)

-- of the rows that are due by the next time the older ones have the lower ranks
abbrev pub InOrder : ℕ → List (Option Key) → (Key → ℕ) → Type 0
InOrder next keys rank = (i j : ℕ) (x y : Key) → key_in keys i ≡ Some x → key_in keys j ≡ Some y
    → x.deadline ≤ next → y.deadline ≤ next → x.order < y.order → rank x < rank y

-- and so of those whose ranks are no less than that of a slot's row, where that one is due by then
abbrev pub RisesFrom : ℕ → List (Option Key) → (Key → ℕ) → ℕ → Type 0
RisesFrom next keys rank slot = (first : Key) → key_in keys slot ≡ Some first → first.deadline ≤ next
    → (i j : ℕ) (x y : Key) → key_in keys i ≡ Some x → key_in keys j ≡ Some y
    → x.deadline ≤ next → y.deadline ≤ next → rank first ≤ rank x → rank first ≤ rank y → x.order < y.order → rank x < rank y

-- the same, and the bucket of the next time is in order as far as is known
pub record AreOrderedChains (next : ℕ) (ordered : Ordered) (chains : Rings) (keys : List (Option Key)) : Type 0 where
  pub level : Key → ℕ
  pub time : Key → ℕ
  pub rank : Key → ℕ
  pub levelled : AreLevelled next 1 keys level time
  pub are : AreChains chains (places (stand_on next level time rank) keys)
  pub in_order : ordered.time ≡ next → ordered.rising ≡ ALL → InOrder next keys rank
  pub rises : ordered.time ≡ next → RisesFrom next keys rank ordered.rising

-- the chains are those of the buckets, and the count is that of the rows
pub record IsWheel (next_time count : ℕ) (ordered : Ordered) (keys : List (Option Key)) (chains : Rings) : Type 0 where
  pub slots : length keys ≡ chains.slots
  pub few : length keys < 2 ^ 32
  pub homes : chains.homes ≡ BUCKETS
  pub time : next_time < NEVER
  pub counts : count ≡ count_by is_some keys
  pub low : (slot : ℕ) (key : Key) → key_in keys slot ≡ Some key → key.deadline < NEVER
  pub are : AreOrderedChains next_time ordered chains keys

-- and no row is due before a floor
pub record IsWheelKept (next_time count : ℕ) (ordered : Ordered) (floor : ℕ) (keys : List (Option Key)) (chains : Rings) : Type 0 where
  pub wheel : IsWheel next_time count ordered keys chains
  pub above : (slot : ℕ) (key : Key) → key_in keys slot ≡ Some key → floor ≤ key.deadline

-- and each slot that is written is so everywhere
pub record IsWheelAlike {T : Type 0} (next_time count : ℕ) (ordered : Ordered) (floor : ℕ) (kept : KeptSlots T) (buckets owners : Rings) : Type 0 where
  pub rows : IsWheelKept next_time count ordered floor (held_keys buckets kept.keys) buckets
  pub alike : AreAlike kept buckets owners
