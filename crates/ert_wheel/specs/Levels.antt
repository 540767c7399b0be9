-- Levels of buckets: on which of them a time may stand, seen from the next time, which is the first that wasn't passed.

use Rattle.std.specs.Prelude.{◌≡◌, ◌⊎◌, ℕ, ◌+◌, ◌*◌, ◌/◌, ◌%◌, ◌<◌, ◌≤◌, ◌^◌}

-- the bucket of a window on a level: a level has 1,024 buckets, which its windows take in turn
abbrev pub bucket_of_window : ℕ → ℕ → ℕ
bucket_of_window level window = level * 1024 + window % 1024

-- the bucket of a time on a level, where the windows of level l are 512 ^ l milliseconds wide
abbrev pub bucket_on : ℕ → ℕ → ℕ
bucket_on level time = bucket_of_window level (time / 512 ^ level)

-- A time may stand on a level where 512 of the level's windows, in which the next time is, and the 512 after these have it.
-- From the level `high` on, its own window is later than that of the next time, but on the lowest level.
pub record MayStand (next high level time : ℕ) : Type 0 where
  pub highest : level ≤ 4
  pub near : time / 512 ^ level / 512 ≤ next / 512 ^ level / 512 + 1
  pub ahead : 1 ≤ level → high ≤ level → next / 512 ^ level < time / 512 ^ level

-- the least level on which a time may stand: it is too far for the level below
pub record IsLeastLevel (next level time : ℕ) : Type 0 where
  pub highest : level ≤ 4
  pub near : time / 512 ^ level / 512 ≤ next / 512 ^ level / 512 + 1
  pub beyond : 1 ≤ level → next / 512 ^ level + 1 < time / 512 ^ level

-- a bucket is that of a time on the least level on which it may stand
pub record IsLeastBucket (next time bucket : ℕ) : Type 0 where
  pub level : ℕ
  pub least : IsLeastLevel next level time
  pub is : bucket ≡ bucket_on level time

-- a level is the next one below another, and a time after the next one is in a window of that one
pub record IsNextBelow (next from window level time : ℕ) : Type 0 where
  pub later : next < time
  pub below : level + 1 ≡ from
  pub within : time / 512 ^ from ≡ window

-- where a time comes from a window of a level: to the level below, where it is in that window, or to the least level on which it may stand
abbrev pub IsLevelBelow : ℕ → ℕ → ℕ → ℕ → ℕ → Type 0
IsLevelBelow next from window level time = IsNextBelow next from window level time ⊎ IsLeastLevel next level time

-- a bucket is that of a time there
pub record IsBucketBelow (next from window time bucket : ℕ) : Type 0 where
  pub level : ℕ
  pub below : IsLevelBelow next from window level time
  pub is : bucket ≡ bucket_on level time

-- A row that was due at a time may be due at another one without a move: that is in no earlier window of 512 milliseconds, and
-- the window of the first comes after the next one.
pub record StaysPut (next was time : ℕ) : Type 0 where
  pub later : was / 512 ≤ time / 512
  pub far : next / 512 + 1 < was / 512
