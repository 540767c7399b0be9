-- The timers of a service by their status.

use Rattle.ert_laws.specs.Counts.{Counts as Numbers}
use Rattle.ert_world.specs.declared.counts.Counts.{Counts}

-- the numbers that are told
abbrev pub numbers_of : Counts → Numbers
numbers_of n = record {
  armed = n.armed;
  expired = n.expired;
  delivered = n.delivered;
  dropped = n.dropped;
  cancelled = n.cancelled;
  orphaned = n.orphaned;
}
