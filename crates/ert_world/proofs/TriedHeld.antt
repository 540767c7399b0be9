-- An advance of a world tries only timers whose rows its wheel held.

use Rattle.std.proofs.Common.{◌≡◌, ℕ, ◌<◌, List, [], ◌∷◌, ◌++◌, slice_index_or, refl, sym, ap, subst, ◌∙◌}
use Rattle.std.specs.Prelude.{slice_set}
use Rattle.ert_defs.specs.{States.State, declared.entry.Actor.TheVariants.Wheel, declared.entry.Entry.Entry, declared.settings.Settings.Settings}
use Rattle.ert_effects.proofs.Advanced.{IsAdvance}
use Rattle.ert_effects.specs.WheelCalls.{hits}
use Rattle.ert_table.specs.{Calls.IsMade, Desks.{settings_of, view_of, front_of, Belongs}, declared.desk.Desk.Desk, declared.desk.Pass.Pass}
use Rattle.ert_timers.proofs.{LawsHold.advance_only, SchedParts.advance_leaves}
use Rattle.ert_timers.specs.{Expiring.{HasExpired, TriesHeld}, Parts.{Part, PartStands as WheelStands}, Passed.LosesRows, Trying.expired_after, declared.sched_part.SchedPart.SchedPart}
use Rattle.ert_world.proofs.{Advances.{AreOfAdvance, advanced}, Calls.{Has, does_at, has_at, parts_in, schedulers_at, seen_at}, Replaced.replaced_by, SchedCalls.{Had, had}, WheelCalls.{advance_calm, wheel_named}}
use Rattle.ert_world.specs.{Worlds.{AreSound, Goes, Seen, seen}, declared.world.World.TheInside.Inside}

pub held_is : (p : Part) (to : ℕ) (s : State) (es : List Entry) (held : TriesHeld p to s es) → IsAdvance p.number (to, hits held.tries) es
held_is p to s es held = record { now = held.now; tries = held.tries; expired = refl; entries = held.entries }

pub held_are : (p : Part) (to : ℕ) (s : State) (es : List Entry) → TriesHeld p to s es → AreOfAdvance p.number es
held_are p to s es held =
    let is = held_is p to s es held in
    let answer : ℕ × ℕ = (to, hits held.tries) in
    record { only = advance_only p.number answer es is; calm = advance_calm p.number answer es is; leave = advance_leaves p.number answer es is }

pub tries_held_at : (before : Seen) (b : Inside) (d e : Desk) (q : Pass) (i to : ℕ) (old new : Part) (part x : SchedPart) → d ≡ e → seen_at e b ≡ before
    → AreSound e b.pass b.next (parts_in b) → Belongs d q → i < before.settings.schedulers → old ≡ slice_index_or b.wheels.items i old
    → part ≡ slice_index_or b.scheds.items i part → new.number ≡ old.number → WheelStands (settings_of d) (front_of q) new → LosesRows old new
    → HasExpired (settings_of d) (view_of b.pass) old.number to part.expired x.expired (view_of q) → x.wheel ≡ part.wheel → x.hand ≡ part.hand
    → IsMade (settings_of d) (view_of b.pass) (TriesHeld old to) (view_of q)
    → (y : Part) → Goes before (λ way. way (Wheel i ∷ []) (TriesHeld (slice_index_or before.wheels i y) to))
    (seen e q b.next (parts_in b).keeper (slice_set b.wheels.items i new) (parts_in b).turns)
tries_held_at before b d e q i to old new part x same is fit belongs low lent lent_part named stands loses expired wheel hand made =
    let g : Settings = settings_of d in
    let has : Has before b d = has_at same is fit in
    let one : old.number ≡ i = wheel_named g (front_of b.pass) [] (parts_in b) i old has.fit.stand (schedulers_at has i low) lent in
    let had_it : Had b d i part = had before b d i part has low lent_part in
    replaced_by (λ (p r : Part). Goes before (λ way. way (Wheel i ∷ []) (TriesHeld p to))
    (seen e q b.next (parts_in b).keeper (slice_set b.wheels.items i new) (parts_in b).turns))
    before b d i old new has low lent
    (does_at same (advanced before b d q i old new part x (λ h n. TriesHeld old to) has belongs low lent lent_part named stands loses
    (λ s es held. subst (λ n. AreOfAdvance n es) one (held_are old to s es held)) made wheel hand
    (expired.expired ∙ (ap (λ l. l ++ expired.gained) (had_it.expired ∙ ap (λ n. expired_after g (front_of b.pass) n) (sym one)) ∙ sym expired.waits)))).goes
