-- Readings of the clocks of the operating system.

use Rattle.std.specs.Prelude.{pos, negsuc, ◌≤ℤ◌, ◌<ℤ◌}
use Rattle.ert_defs.specs.declared.settings.Reading.{Reading}

-- a valid reading (profile): `mono` is from 0 to below 2^62, and `sys` between -2^61 and 2^61
pub record IsValid (r : Reading) : Type 0 where
  pub mono_low : pos 0 ≤ℤ r.mono
  pub mono_high : r.mono <ℤ pos 4611686018427387904
  pub sys_low : negsuc 2305843009213693951 <ℤ r.sys
  pub sys_high : r.sys <ℤ pos 2305843009213693952
