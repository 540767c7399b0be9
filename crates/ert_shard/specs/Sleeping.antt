-- How the rows of settled timers go from the wheel of a shard.

use Rattle.std.specs.Prelude.{◌≡◌, ℕ, List, Some}
use Rattle.ert_effects.specs.Sleeping.{Probed, DropsSettled, FindsArmed}
use Rattle.ert_shard.specs.Shards.{Owned, ShardBy, ShardSteps}
use Rattle.ert_timers.specs.Sleeping.{HasLost}
use Rattle.ert_wheel.specs.{Rows.key_in, declared.row.Key.Key}

-- `drop_settled`: so many rows of the wheel have gone, and each that is left is of a timer that its probe found armed
pub record ShardDropsSettled (old new : Owned) (count : ℕ) : Type 0 where
  pub probes : List Probed
  pub steps : ShardSteps old (ShardBy old (λ g. DropsSettled g old.share.number count probes)) new
  pub fewer : HasLost count old.wheel new.wheel
  pub armed : (k : ℕ) (key : Key) → key_in new.wheel.keys k ≡ Some key → FindsArmed k probes
