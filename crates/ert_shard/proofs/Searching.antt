-- A start that was refused for want of a slot searched the shard's wheel.

use Rattle.std.proofs.Common.{◌≡◌, ◌∙◌, ℕ, ◌+◌, ◌<◌, Err, ap, sym, subst}
use Rattle.ert_defs.specs.declared.{settings.Settings.Settings, timer.Start.Start}
use Rattle.ert_effects.specs.declared.answers.StartErr.TheVariants.{NoMemory}
use Rattle.ert_shard.proofs.{Called.wheel_stepped, Home.starts_home}
use Rattle.ert_shard.specs.Shards.{AreShardPartsFit, IsHome, Owned, Share, ShardBy, ShardGoes, ShardParts, owned}
use Rattle.ert_table.specs.{Calls.IsMade, Desks.{settings_of, view_of, front_of, Belongs}, declared.desk.Desk.Desk, declared.desk.Pass.Pass}
use Rattle.ert_timers.proofs.{LawsHold.starts_only, Searching.searches_probe}
use Rattle.ert_timers.specs.{Parts.{Part, PartStands as WheelStands}, Searching.Searches}

abbrev numbered : Part → ℕ → Part
numbered p n = record p { number = n }

pub shard_searched : (before : Owned) (d e : Desk) (p q : Pass) (s : Share) (old : ShardParts) (new : Part) (start : Start) → d ≡ e
    → owned e p s old.wheel old.list ≡ before → AreShardPartsFit e p s old → Belongs d q → new.number ≡ old.wheel.number → WheelStands (settings_of d) (front_of q) new
    → (old.wheel.arms < 9007199254740992 → IsMade (settings_of d) (view_of p) (Searches (settings_of d) (s.number + 1) old.wheel new) (view_of q))
    → IsHome before.share start.dest → before.wheel.arms < 9007199254740992
    → ShardGoes before (ShardBy before (λ g. Searches g (before.share.number + 1) before.wheel new)) (owned e q s new old.list)
shard_searched before d e p q s old new start same is fit belongs named stands searched home few =
    let g : Settings = settings_of d in
    let there : Part = numbered old.wheel before.share.number in
    let one : there ≡ before.wheel =
    ap (λ (o : Owned). numbered old.wheel o.share.number) (sym is) ∙ (ap (numbered old.wheel) (sym fit.stand.wheel_is) ∙ ap (λ (o : Owned). o.wheel) is) in
    subst (λ (w : Part). ShardGoes before (ShardBy before (λ h. Searches h (before.share.number + 1) w new)) (owned e q s new old.list)) one
    (wheel_stepped before d e p q s old new (λ m n h. Searches h (m + 1) (numbered old.wheel n) new) same is fit belongs named stands
    (searched (subst (λ (o : Owned). o.wheel.arms < 9007199254740992) (sym is) few))
    (λ n st es made. starts_only g (s.number + 1) n start (Err NoMemory) st es (searches_probe g (s.number + 1) (numbered old.wheel n) new start st es made))
    (λ n st es made. starts_home s g (s.number + 1) n start (Err NoMemory) (subst (λ (o : Owned). IsHome o.share start.dest) (sym is) home) st es
    (searches_probe g (s.number + 1) (numbered old.wheel n) new start st es made))).goes
