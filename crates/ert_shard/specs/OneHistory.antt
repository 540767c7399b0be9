-- What two handles of one service know: a world and a seat, a hub and a shard, each with another.

use Rattle.std.specs.Prelude.{◌≡◌, List, Option, Some}
use Rattle.atomic_table.specs.Seated.{TableId}
use Rattle.ert_defs.specs.declared.{entry.Entry.Entry, settings.Settings.Settings}
use Rattle.ert_shard.specs.{Hubs.Rest, Shards.Owned}
use Rattle.ert_table.specs.Order.{AreOfOne}
use Rattle.ert_world.specs.{Seats.Seated, Worlds.Seen}

-- what stands behind a handle: on which desk, with its settings, and the beginning of the history that it knows
pub record Knower : Type 0 where
  pub table : TableId
  pub settings : Settings
  pub history : List Entry

abbrev pub world_knower : Seen → Knower
world_knower w = record { table = w.table; settings = w.settings; history = w.history }

abbrev pub seat_knower : Seated → Knower
seat_knower s = record { table = s.table; settings = s.settings; history = s.history }

abbrev pub hub_knower : Rest → Knower
hub_knower r = record { table = r.table; settings = r.settings; history = r.history }

abbrev pub shard_knower : Owned → Knower
shard_knower o = record { table = o.table; settings = o.settings; history = o.history }

-- two handles, where both are open, are of one service. So are those of a service and of its seats, and those of a hub and
-- of all that it gave: what opens a handle puts it on the desk of the one that gives (`table`), and each call leaves it there
abbrev pub AreOfOneService : {V W : Type 0} → (V → Knower) → (W → Knower) → Option V → Option W → Type 0
AreOfOneService {V} {W} of_one of_other one other = (v : V) (w : W) → one ≡ Some v → other ≡ Some w
    → ((of_one v).table ≡ (of_other w).table) × ((of_one v).settings ≡ (of_other w).settings)

-- then what they know are beginnings of one legal history
abbrev pub KnowOneHistory : {V W : Type 0} → (V → Knower) → (W → Knower) → Option V → Option W → Type 0
KnowOneHistory {V} {W} of_one of_other one other = (v : V) (w : W) → one ≡ Some v → other ≡ Some w
    → AreOfOne (of_one v).settings (of_one v).history (of_other w).history
