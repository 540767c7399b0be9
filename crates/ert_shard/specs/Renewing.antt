-- What a shard holds of a timer that was given a new deadline.

use Rattle.std.specs.Prelude.{Result, Ok, Err}
use Rattle.ert_defs.specs.declared.timer.TimerRef.{TimerRef}
use Rattle.ert_effects.specs.declared.answers.RestartErr.{RestartErr}
use Rattle.ert_shard.specs.Shards.{Owned, ShardHasForgotten}

-- the wheel of a shard holds no row of the timer that was restarted, where another was started
abbrev pub LetsGo : TimerRef → Result TimerRef RestartErr → Owned → Type 0
LetsGo timer (Ok next) o = ShardHasForgotten o timer
LetsGo timer (Err e) o = Unit {0}
