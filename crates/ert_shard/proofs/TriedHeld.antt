-- An advance of a shard tries only timers whose rows its wheel held.

use Rattle.std.proofs.Common.{◌≡◌, ℕ, List, [], ◌∷◌, ◌++◌, sym, ap, subst, ◌∙◌}
use Rattle.ert_defs.specs.{States.State, declared.entry.Actor.TheVariants.{Sched, Wheel}, declared.entry.Entry.Entry, declared.settings.Settings.Settings}
use Rattle.ert_effects.specs.WheelCalls.{hits}
use Rattle.ert_shard.proofs.{Advancing.AreOfTurn, Called.{Has, did_at, has_at}, Home.advance_home, Turned.{Had, advanced, had}}
use Rattle.ert_shard.specs.Shards.{AreShardPartsFit, Owned, Share, ShardGoes, ShardParts, owned}
use Rattle.ert_table.specs.{Calls.{AreOnlyOf, IsMade}, Desks.{settings_of, view_of, front_of, Belongs}, declared.desk.Desk.Desk, declared.desk.Pass.Pass}
use Rattle.ert_timers.specs.{Expiring.{HasExpired, TriesHeld}, Parts.{Part, PartStands as WheelStands}, Passed.LosesRows, Trying.expired_after, declared.sched_part.SchedPart.SchedPart}
use Rattle.ert_world.proofs.TriedHeld.{held_are, held_is}

are_of : (s : Share) (p : Part) (to : ℕ) (st : State) (es : List Entry) → p.number ≡ s.number → TriesHeld p to st es → AreOfTurn s es
are_of s p to st es one held =
    let are = held_are p to st es held in
    record {
      only = subst (λ n. AreOnlyOf (Sched n ∷ (Wheel n ∷ [])) es) one are.only;
      leave = are.leave;
      home = advance_home s p.number (to, hits held.tries) es (held_is p to st es held);
    }

pub shard_tries_held : (before : Owned) (d e : Desk) (p q : Pass) (s : Share) (to : ℕ) (parts : ShardParts) (new : Part) (x : SchedPart) → d ≡ e
    → owned e p s parts.wheel parts.list ≡ before → AreShardPartsFit e p s parts → Belongs d q → new.number ≡ parts.wheel.number
    → WheelStands (settings_of d) (front_of q) new → LosesRows parts.wheel new
    → HasExpired (settings_of d) (view_of p) parts.wheel.number to parts.sched.expired x.expired (view_of q)
    → x.wheel ≡ parts.sched.wheel → x.hand ≡ parts.sched.hand → IsMade (settings_of d) (view_of p) (TriesHeld parts.wheel to) (view_of q)
    → ShardGoes before (λ way. way (Wheel before.share.number ∷ []) (TriesHeld before.wheel to)) (owned e q s new parts.list)
shard_tries_held before d e p q s to parts new x same is fit belongs named stands loses expired wheel hand made =
    let g : Settings = settings_of d in
    let has : Has before d p s parts = has_at same is fit in
    let one : parts.wheel.number ≡ s.number = has.fit.stand.wheel_is in
    let had_it : Had d p s parts.sched = had has in
    subst (λ (o : Owned). ShardGoes before (λ way. way (Wheel before.share.number ∷ []) (TriesHeld o.wheel to)) (owned e q s new parts.list)) is
    (did_at same (advanced before d p q s parts new x (λ h n. TriesHeld parts.wheel to) has belongs named stands loses
    (λ st es held. are_of s parts.wheel to st es one held) made wheel hand
    (expired.expired ∙ (ap (λ l. l ++ expired.gained) (had_it.expired ∙ ap (λ n. expired_after g (front_of p) n) (sym one)) ∙ sym expired.waits)))).steps.goes
