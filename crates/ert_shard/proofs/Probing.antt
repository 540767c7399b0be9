-- A shard's scheduler probes slots of its wheel: what it has is the same.

use Rattle.std.proofs.Common.{◌≡◌, ℕ, ◌<◌, true, List, [], ◌∷◌, Option, refl, sym, ap, subst, ◌∙◌}
use Rattle.ert_defs.specs.{Mails.SchedState, States.{State, state}, declared.entry.Actor.TheVariants.{Wheel, Sched}, declared.entry.Entry.Entry, declared.settings.Settings.Settings}
use Rattle.ert_effects.specs.Sleeping.{Probed, DropsSettled, ProbesForNext, probed_entries}
use Rattle.ert_world.specs.Stepping.{turns_same}
use Rattle.ert_shard.proofs.{Called.{Did, Has, did_at, finish, has_at, losing, makes}, Home.home_on, Kept.self_own, Turned.{Had, had}}
use Rattle.ert_shard.specs.Shards.{AreHome, AreShardPartsFit, Owned, Share, ShardBy, ShardParts, owned}
use Rattle.ert_table.specs.{Calls.IsMade, Desks.{settings_of, view_of, front_of, actors_of, Belongs}, Held.is_held, Takes.TakesPlace, declared.desk.Desk.Desk, declared.desk.Pass.Pass}
use Rattle.ert_timers.proofs.LawsHold.{probed_only}
use Rattle.ert_timers.specs.{NextDue.NoneArmedBefore, Parts.{Part, PartStands as WheelStands}, Passed.LosesRows, Sleeping.ProbesRows, SchedParts.SchedStands}
use Rattle.ert_world.proofs.{Probing.sched_same, SchedCalls.sched_stands}

-- probes start no timer
probed_home : (s : Share) (w : ℕ) (probes : List Probed) → AreHome s (probed_entries w probes)
probed_home s w [] = tt
probed_home s w (p ∷ probes) = (tt, probed_home s w probes)

-- the slots of the wheel were probed, and rows of it have gone
probed : (before : Owned) (d : Desk) (p q : Pass) (s : Share) (parts : ShardParts) (new : Part) (probes : List Probed)
    (allows : ℕ → Settings → State → List Entry → Type 0) → Has before d p s parts → Belongs d q → new.number ≡ parts.wheel.number
    → WheelStands (settings_of d) (front_of q) new → LosesRows parts.wheel new
    → TakesPlace (settings_of d) (view_of p) (probed_entries parts.wheel.number probes) (view_of q)
    → allows parts.wheel.number (settings_of d) (state (settings_of d) (front_of p)) (probed_entries parts.wheel.number probes)
    → Did before d q s (record parts { wheel = new }) (λ o. ShardBy o (allows o.share.number))
probed before d p q s parts new probes allows has belongs named stands loses call_w allowed_w =
    let g : Settings = settings_of d in
    let i : ℕ = s.number in
    let st : State = state g (front_of p) in
    let one : parts.wheel.number ≡ i = has.fit.stand.wheel_is in
    let es : List Entry = probed_entries i probes in
    let call : TakesPlace g (view_of p) es (view_of q) = subst (λ n. TakesPlace g (view_of p) (probed_entries n probes) (view_of q)) one call_w in
    let allowed : allows i g st es = subst (λ n. allows n g st (probed_entries n probes)) one allowed_w in
    let was : Had d p s parts.sched = had has in
    let held : is_held (actors_of p) (Sched i) ≡ true = has.fit.holds.own (Sched i) has.fit.holds.low ∙ self_own i in
    let kept = sched_same g (view_of p) (view_of q) i probes held call in
    let below : parts.sched.wheel < g.schedulers = rw was.wheel has.fit.holds.low in
    let now : SchedStands g (front_of q) parts.sched =
    sched_stands g (front_of q) parts.sched ((state g (front_of q)).scheds i) below (ap (λ n. (state g (front_of q)).scheds n) was.wheel)
    (was.hand ∙ sym (ap (λ (t : SchedState). t.hand) kept)) (was.expired ∙ sym (ap (λ (t : SchedState). t.expired) kept)) in
    losing has loses (finish before d p q s parts (record parts { wheel = new }) es (Sched i ∷ (Wheel i ∷ []))
    (λ o. ShardBy o (allows o.share.number)) has (turns_same parts.list) belongs call (probed_only i probes) (self_own i, (self_own i, tt))
    (home_on g (view_of p) es (view_of q) s call has.fit.holds has.fit.home (probed_home s i probes))
    (λ stand. record {
      legal = stand.legal;
      wheel_is = named ∙ one;
      wheel = λ apart. stands;
      inbox_is = stand.inbox_is;
      inbox = λ apart. stand.inbox refl;
      sched_is = stand.sched_is;
      sched = λ apart. now;
      mails = record { counted = stand.mails.counted; named = stand.mails.named; stand = λ j d low apart. stand.mails.stand j d low refl };
      listed = stand.listed;
    })
    (makes d p q s parts es allows allowed))

-- until a timer was armed
pub asked : (before : Owned) (d e : Desk) (p q : Pass) (s : Share) (parts : ShardParts) (new : Part) → d ≡ e → owned e p s parts.wheel parts.list ≡ before
    → AreShardPartsFit e p s parts → Belongs d q → new.number ≡ parts.wheel.number → WheelStands (settings_of d) (front_of q) new
    → LosesRows parts.wheel new → IsMade (settings_of d) (view_of p) (ProbesForNext (settings_of d) parts.wheel.number) (view_of q)
    → Did before e q s (record parts { wheel = new }) (λ o. ShardBy o (λ g. ProbesForNext g o.share.number))
asked before d e p q s parts new same is fit belongs named stands loses made =
    did_at same (probed before d p q s parts new made.allowed.probes (λ n g. ProbesForNext g n) (has_at same is fit) belongs named stands loses
    (subst (λ es. TakesPlace (settings_of d) (view_of p) es (view_of q)) made.allowed.entries made.call)
    (subst (ProbesForNext (settings_of d) parts.wheel.number (state (settings_of d) (front_of p))) made.allowed.entries made.allowed))

-- each that has a row
pub all_probed : (before : Owned) (d e : Desk) (p q : Pass) (s : Share) (n : ℕ) (parts : ShardParts) (new : Part) → d ≡ e → owned e p s parts.wheel parts.list ≡ before
    → AreShardPartsFit e p s parts → Belongs d q → new.number ≡ parts.wheel.number → WheelStands (settings_of d) (front_of q) new
    → LosesRows parts.wheel new → (all : ProbesRows (settings_of d) (view_of p) parts.wheel new n (view_of q))
    → Did before e q s (record parts { wheel = new }) (λ o. ShardBy o (λ g. DropsSettled g o.share.number n all.probes))
all_probed before d e p q s n parts new same is fit belongs named stands loses all =
    did_at same (probed before d p q s parts new all.probes (λ m g. DropsSettled g m n all.probes) (has_at same is fit) belongs named stands loses all.call
    (record { order = all.order; settled = all.settled; entries = refl }))

-- the shard's number is its wheel's
pub armed_in : (d : Desk) (p : Pass) (s : Share) (parts : ShardParts) (new : Part) (st : State) (answer : Option ℕ) → AreShardPartsFit d p s parts
    → new.number ≡ parts.wheel.number → NoneArmedBefore st new.number answer → NoneArmedBefore st s.number answer
armed_in d p s parts new st answer fit named = subst (λ n. NoneArmedBefore st n answer) (named ∙ fit.stand.wheel_is)
