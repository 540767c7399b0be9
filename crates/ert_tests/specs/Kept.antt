-- Which desk a shard and its hub are of.

use Rattle.std.specs.Prelude.{◌≡◌}
use Rattle.ert_shard.specs.{Hubs.Rest, Shards.Owned}

-- a shard is of the same desk as a hub
abbrev pub IsOfHub : Rest → Owned → Type 0
IsOfHub r o = (o.table ≡ r.table) × (o.settings ≡ r.settings)

-- a shard is of the same desk, with the same share
pub record IsSameShard (old new : Owned) : Type 0 where
  pub table : new.table ≡ old.table
  pub settings : new.settings ≡ old.settings
  pub share : new.share ≡ old.share

-- a hub stays of the same desk, and so is the shard that was cut from it
pub record IsCut (old new : Rest) (shard : Owned) : Type 0 where
  pub ours : IsOfHub new shard
  pub table : old.table ≡ new.table
  pub settings : old.settings ≡ new.settings
