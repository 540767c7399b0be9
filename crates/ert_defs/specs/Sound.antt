-- The bounds that a clock keeps. They say how far its time and its sums can come, and hold after each
-- legal history.

use Rattle.std.specs.Prelude.{◌≡◌, ℤ, pos, negsuc, ◌+ℤ◌, ◌-ℤ◌, ◌*ℤ◌, ◌≤ℤ◌, ◌<ℤ◌, Bool, true, false, Option, Some, None}
use Rattle.ert_defs.specs.{Lines.{Face, Due, IsOffset, line_time}, declared.settings.Settings.Settings}

-- a rate in parts per million: at most one percent
pub record IsRate (r : ℤ) : Type 0 where
  pub low : negsuc 9999 ≤ℤ r
  pub high : r ≤ℤ pos 10000

-- with correction: the time is that of the line, and the time of its base, alone and with the offset, is
-- at most what one percent above OS monotonic time makes of the start
pub record OnLine (g : Settings) (f : Face) : Type 0 where
  pub here : f.time ≡ line_time f.base f.mono
  pub far : (pos 100 *ℤ f.base.time)
      ≤ℤ ((pos 100 *ℤ g.start) +ℤ (pos 101 *ℤ (f.base.mono -ℤ g.first.mono)))
  pub sum : ((pos 100 *ℤ f.base.time) +ℤ (pos 100 *ℤ f.offset))
      ≤ℤ (pos 230584300921369395100 +ℤ (pos 101 *ℤ (f.base.mono -ℤ g.first.mono)))

-- without correction: time and offset together are at most the greatest OS system time
pub record OffLine (g : Settings) (f : Face) : Type 0 where
  pub sum : (f.time +ℤ f.offset) ≤ℤ pos 2305843009213693951

-- how far a clock can have come
abbrev pub Reaches : Bool → Settings → Face → Type 0
Reaches true g f = OnLine g f
Reaches false g f = OffLine g f

-- all bounds of a clock: those of its base, its OS monotonic time, its time and its offset
pub record Sound (g : Settings) (f : Face) : Type 0 where
  pub rate : IsRate f.base.rate
  pub start : g.start ≤ℤ f.base.time
  pub first : g.first.mono ≤ℤ f.base.mono
  pub mono : f.base.mono ≤ℤ f.mono
  pub mono_high : f.mono <ℤ pos 4611686018427387904
  pub now : f.base.time ≤ℤ f.time
  pub offset : IsOffset f.offset
  pub reach : Reaches g.correction g f

-- the bounds of a shift that is due: the tick before was a base, the offset is within its limits, and
-- with it the time is at most the greatest OS system time
pub record DueFits (f : Face) (d : Due) : Type 0 where
  pub base : f.base.time ≡ f.time
  pub offset : IsOffset d.0
  pub sum : (d.0 +ℤ f.time) ≤ℤ pos 2305843009213693951

-- the shift that is due keeps the bounds, where there is one
abbrev pub MayShift : Face → Option Due → Type 0
MayShift f None = Unit {0}
MayShift f (Some d) = DueFits f d
