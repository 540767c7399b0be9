-- A scheduler probes slots of its wheel: the wheel comes back, and what the scheduler has is the same.

use Rattle.std.proofs.Common.{◌≡◌, ℕ, ◌<◌, Bool, true, false, cond, List, [], ◌∷◌, length, slice_index_or, None, refl, sym, ap, subst, ◌∙◌}
use Rattle.std.proofs.lemmas.List.{get_or_default, set-get_or}
use Rattle.std.specs.Prelude.{slice_set}
use Rattle.ert_defs.specs.{Actors.has_actor, Entries.probe_entry, Mails.SchedState, States.{State, next, run, state}, declared.entry.Actor.TheVariants.{Wheel, Sched}, declared.entry.Entry.Entry, declared.settings.Settings.Settings}
use Rattle.ert_effects.specs.Sleeping.{Probed, probed_entries}
use Rattle.ert_table.proofs.Parts.{own_after, sched_own, AreByThemselves}
use Rattle.ert_table.specs.{Desks.{settings_of, view_of, front_of, Belongs}, Held.is_held, Takes.TakesPlace, declared.desk.Desk.Desk, declared.desk.Pass.Pass, declared.view.View.View}
use Rattle.ert_timers.proofs.LawsHold.{probed_only}
use Rattle.ert_timers.specs.{Parts.{Part, PartStands as WheelStands}, Passed.LosesRows, SchedParts.SchedStands, declared.sched_part.SchedPart.SchedPart}
use Rattle.ert_world.proofs.{Armed.AreCalm, Calls.{Has, Does, parts_in, finish, makes, schedulers_at}, Returned.{wheel_back, sched_back}, SchedCalls.{Had, had, now_stands}, WheelCalls.wheel_named, Tidying.{lost_hold, one_holds}}
use Rattle.ert_world.specs.{Parts.AllParts, Worlds.{Seen, By}, declared.world.World.TheInside.Inside}

pub cond_id : (b : Bool) (s : SchedState) → cond b s s ≡ s
cond_id true s = refl
cond_id false s = refl

-- probes cancel nothing
pub probed_calm : (w : ℕ) (probes : List Probed) → AreCalm (probed_entries w probes)
probed_calm w [] = tt
probed_calm w (p ∷ probes) = (refl, probed_calm w probes)

-- and leave what the scheduler has
probed_by : (g : Settings) (w : ℕ) (probes : List Probed) → AreByThemselves g (λ (s : State). s.scheds w) (probed_entries w probes)
probed_by g w [] = tt
probed_by g w (p ∷ probes) =
    let e : Entry = probe_entry (Sched w) w p.slot p.found in (
      (λ s t same. cond_id (has_actor e (Sched w)) (s.scheds w) ∙ (same ∙ sym (cond_id (has_actor e (Sched w)) (t.scheds w)))),
      probed_by g w probes,
    )

probed_run : (g : Settings) (w : ℕ) (probes : List Probed) (s : State) → (run g s (probed_entries w probes)).scheds w ≡ s.scheds w
probed_run g w [] s = refl
probed_run g w (p ∷ probes) s =
    let e : Entry = probe_entry (Sched w) w p.slot p.found in
    probed_run g w probes (next g s e) ∙ cond_id (has_actor e (Sched w)) (s.scheds w)

pub sched_same : (g : Settings) (v u : View) (w : ℕ) (probes : List Probed) → is_held v.actors (Sched w) ≡ true
    → TakesPlace g v (probed_entries w probes) u → (state g u.front).scheds w ≡ (state g v.front).scheds w
sched_same g v u w probes held call =
    own_after g v (probed_entries w probes) u (λ (s : State). s.scheds w) (λ s e not. sched_own g v.actors w held s e not) call (probed_by g w probes)
    ∙ probed_run g w probes (state g v.front)

-- what stands at a place is put there
same_set : {X : Type 0} (xs : List X) (i : ℕ) (x : X) → x ≡ slice_index_or xs i x → slice_set xs i x ≡ xs
same_set xs i x is = ap (slice_set xs i) is ∙ set-get_or xs i x

-- what no scheduler has
no_part : SchedPart
no_part = record { wheel = 0; hand = None; expired = record { rows = []; room = 0 } }

-- the slots of a wheel were probed, and rows of it have gone
pub probed : (before : Seen) (b : Inside) (d : Desk) (q : Pass) (i : ℕ) (old new : Part) (probes : List Probed)
    (allows : ℕ → Settings → State → List Entry → Type 0) → Has before b d → Belongs d q
    → i < before.settings.schedulers → old ≡ slice_index_or b.wheels.items i old → new.number ≡ old.number → WheelStands (settings_of d) (front_of q) new
    → LosesRows old new → TakesPlace (settings_of d) (view_of b.pass) (probed_entries old.number probes) (view_of q)
    → allows old.number (settings_of d) (state (settings_of d) (front_of b.pass)) (probed_entries old.number probes)
    → Does before d q b.next (record (parts_in b) { wheels = slice_set b.wheels.items i new }) (λ w. By w (allows i))
probed before b d q i old new probes allows has belongs low lent named stands loses call_w allowed_w =
    let g : Settings = settings_of d in
    let below : i < g.schedulers = schedulers_at has i low in
    let one : old.number ≡ i = wheel_named g (front_of b.pass) [] (parts_in b) i old has.fit.stand below lent in
    let es : List Entry = probed_entries i probes in
    let call : TakesPlace g (view_of b.pass) es (view_of q) = subst (λ n. TakesPlace g (view_of b.pass) (probed_entries n probes) (view_of q)) one call_w in
    let allowed : allows i g (state g (front_of b.pass)) es = subst (λ n. allows n g (state g (front_of b.pass)) (probed_entries n probes)) one allowed_w in
    let ss : List SchedPart = b.scheds.items in
    let x : SchedPart = slice_index_or ss i no_part in
    let within : i < length ss = rw has.fit.stand.scheds.counted below in
    let mine : x ≡ slice_index_or ss i x = get_or_default ss i no_part x within in
    let was : Had b d i x = had before b d i x has low mine in
    let kept = sched_same g (view_of b.pass) (view_of q) i probes (has.fit.holds.rest (Sched i) below tt) call in
    let now : SchedStands g (front_of q) x =
    now_stands before b d q i x ((state g (front_of q)).scheds i) has low was.wheel refl
    (was.hand ∙ sym (ap (λ (t : SchedState). t.hand) kept)) (was.expired ∙ sym (ap (λ (t : SchedState). t.expired) kept)) in
    let back : AllParts = record (parts_in b) { wheels = slice_set b.wheels.items i new } in
    subst (λ (l : List SchedPart). Does before d q b.next (record back { scheds = l }) (λ w. By w (allows i))) (same_set ss i x mine)
    (finish before b d q (record back { scheds = slice_set ss i x }) es (Sched i ∷ (Wheel i ∷ [])) (λ w. By w (allows i)) has refl belongs call
    (probed_only i probes) (probed_calm i probes) (refl, (refl, tt))
    (λ stand. wheel_back g (front_of q) [] (record (parts_in b) { scheds = slice_set ss i x }) i new below (named ∙ one) stands
    (sched_back g (front_of q) (Wheel i ∷ []) (parts_in b) i x below was.wheel now stand))
    (makes b d q es (allows i) allowed)
    (λ alone. one_holds (state g (front_of q)) b.wheels.items i old new (rw has.fit.stand.wheels.counted below) lent (lost_hold (state g (front_of q)) old new loses)) refl)
