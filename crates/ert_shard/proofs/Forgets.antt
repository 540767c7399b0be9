-- A start of a shard names a timer that was never named before, so no row comes of one that was.

use Rattle.std.proofs.Common.{⊎_elim, ◌+◌, Result, ap, subst, ◌∙◌}
use Rattle.ert_defs.specs.{Legal.Legal, declared.settings.Settings.Settings, declared.timer.Start.Start, declared.timer.TimerRef.TimerRef}
use Rattle.ert_effects.specs.{TimerCalls.Starts, declared.answers.StartErr.StartErr}
use Rattle.ert_shard.specs.Shards.{Owned, Share, ShardBy, ShardGoes, ShardStayForgotten, is_of}
use Rattle.ert_timers.specs.{Parts.PartStands as WheelStands, Passed.GainsOne}
use Rattle.ert_world.proofs.Started.{name_is_new, row_from}

pub shard_forgotten : (a c : Owned) (start : Start) (answer : Result TimerRef StartErr) → Legal a.settings a.history
    → WheelStands a.settings a.history a.wheel → GainsOne a.wheel c.wheel answer
    → ShardGoes a (ShardBy a (λ g. Starts g (a.share.number + 1) a.share.number start answer)) c → ShardStayForgotten a c
shard_forgotten a c start answer legal stands gains goes timer some gone here held =
    ⊎_elim (λ was. gone (here ∙ ap (λ (s : Share). s.number) goes.share) was)
    (λ named. (let it = subst (λ r. ShardGoes a (ShardBy a (λ g. Starts g (a.share.number + 1) a.share.number start r)) c) named goes in
    name_is_new a.settings (is_of a.share) a.history c.history it.grows.piece (a.share.number + 1) a.share.number start timer legal
    (subst (λ (x : Settings). Legal x c.history) it.settings it.legal) it.grows.grown it.grows.made some))
    (row_from a.settings a.history a.wheel c.wheel answer timer stands gains held)
