-- The calls that start timers, let them expire, or cancel them for an exit.

use Rattle.std.proofs.Common.{◌≡◌, ℕ, ◌<◌, Bool, true, false, List, [], ◌∷◌, ◌++◌, slice_index_or, Option, Some, None, Result, Ok, Err, inl, inr, refl, sym, ap, subst, ◌∙◌, length}
use Rattle.std.specs.Prelude.{slice_set}
use Rattle.ert_effects.proofs.{Advanced.{IsAdvance, advance_is}, Told.round_probes}
use Rattle.ert_effects.specs.{TimerCalls.{Starts, Closes, AreProbes}, Chains.SweepsWheel, WheelCalls.{Advances, Sweeps, IsSwept, Try, expires_by, expiry_entries, orphans_by, orphan_entries}, Ways.{Growth, Way}}
use Rattle.ert_effects.specs.{declared.answers.StartErr.StartErr, declared.answers.StartErr.TheVariants.{BadArg, Full, NoMemory}}
use Rattle.std.proofs.lemmas.List.{get_or_default}
use Rattle.ert_defs.specs.{States.{State, state}, declared.entry.Actor.Actor, declared.entry.Actor.TheVariants.{Wheel, Caller}, declared.entry.Entry.Entry, declared.memory.NoMemory.NoMemory as OutOfMemory}
use Rattle.ert_defs.specs.{declared.settings.Settings.Settings, declared.timer.Start.Start, declared.timer.Status.Status, declared.timer.TimerRef.TimerRef}
use Rattle.ert_table.specs.{Calls.{AreOnlyOf, IsMade}, Desks.{settings_of, view_of, front_of, Belongs}, Takes.TakesPlace, declared.desk.Desk.Desk, declared.desk.Pass.Pass}
use Rattle.ert_timers.proofs.{LawsHold.sweeps_only, Passing.loses_none}
use Rattle.ert_timers.specs.{Passed.{GainsOne, HasPassed, LosesRows}, Parts.{Part, PartStands as WheelStands}}
use Rattle.ert_world.proofs.{Armed.{is_cancel, AreCalm}, Calm.calm_as, Calls.{Has, Does, Makes, parts_in, seen_at, has_at, does_at, exact, after, finish, makes, schedulers_at}, Returned.{at_place, wheel_back, caller_back}, Tidying.HoldsOn}
use Rattle.ert_world.proofs.{Tidying.{lost_hold, one_holds, start_holds}}
use Rattle.ert_world.specs.{Parts.{AllParts, Stand}, Worlds.{Seen, AreSound, By}, declared.world.World.TheInside.Inside}

pub calm_append : (es fs : List Entry) → AreCalm es → AreCalm fs → AreCalm (es ++ fs)
calm_append [] fs one other = other
calm_append (e ∷ es) fs one other = (one.0, calm_append es fs one.1 other)

pub probes_calm : (by : Actor) (w : ℕ) (es : List Entry) → AreProbes by w es → AreCalm es
probes_calm by w [] are = tt
probes_calm by w (e ∷ es) are = (ap (λ (x : Entry). is_cancel x.event) are.2, probes_calm by w es are.3)

pub closing_calm : (was : Bool) (by : ℕ) (timer : TimerRef) (es : List Entry) → Closes was by timer es → AreCalm es
closing_calm false by timer es closes = calm_as es [] closes tt
closing_calm true by timer es (inl hit) = calm_as es _ hit (refl, tt)
closing_calm true by timer es (inr miss) = calm_as es _ miss.entries (refl, tt)

pub starts_calm : (g : Settings) (by w : ℕ) (start : Start) (answer : Result TimerRef StartErr) (s : State) (es : List Entry)
    → Starts g by w start answer s es → AreCalm es
starts_calm g by w start (Ok timer) s es starts =
    calm_as es _ starts.entries (
      refl,
      calm_append starts.probes _ (probes_calm (Caller by) w starts.probes starts.are_probes)
          (refl, (refl, closing_calm starts.was by timer starts.closing starts.closes)),
    )
starts_calm g by w start (Err BadArg) s es starts = calm_as es _ starts.entries (refl, tt)
starts_calm g by w start (Err Full) s es starts =
    calm_as es _ starts.entries (
      refl,
      elim starts.are_taken [
        | inl found ↦ probes_calm (Caller by) w starts.probes (round_probes by w _ s found.0 starts.probes found.1)
        | inr many ↦ calm_as starts.probes [] many.1 tt
      ],
    )
starts_calm g by w start (Err NoMemory) s es (inl none) = calm_as es [] none tt
starts_calm g by w start (Err NoMemory) s es (inr probed) =
    calm_as es _ probed.entries (refl, probes_calm (Caller by) w probed.probes probed.are_probes)

tries_calm : (w : ℕ) (tries : List Try) → AreCalm (expiry_entries w tries)
tries_calm w [] = tt
tries_calm w (t ∷ tries) = (by_case t.missed, tries_calm w tries)
  where
    by_case : (missed : Option (Option Status)) → is_cancel (expires_by w t.timer missed).event ≡ false
    by_case None = refl
    by_case (Some found) = refl

pub advance_calm : (w : ℕ) (answer : ℕ × ℕ) (es : List Entry) → IsAdvance w answer es → AreCalm es
advance_calm w answer es advance =
    calm_as es _ advance.entries (refl, calm_append (expiry_entries w advance.tries) _ (tries_calm w advance.tries) (refl, tt))

pub advances_calm : (g : Settings) (w : ℕ) (answer : Result (ℕ × ℕ) OutOfMemory) (s : State) (es : List Entry) → Advances g w answer s es → AreCalm es
advances_calm g w (Ok answer) s es advances = advance_calm w answer es (advance_is w answer es advances)
advances_calm g w (Err e) s es (inl none) = calm_as es [] none tt
advances_calm g w (Err e) s es (inr looked) = calm_as es _ looked.1 (refl, tt)

orphans_calm : (by w : ℕ) (tries : List Try) → AreCalm (orphan_entries by w tries)
orphans_calm by w [] = tt
orphans_calm by w (t ∷ tries) = (by_case t.missed, orphans_calm by w tries)
  where
    by_case : (missed : Option (Option Status)) → is_cancel (orphans_by by w t.timer missed).event ≡ false
    by_case None = refl
    by_case (Some found) = refl

pub sweeps_calm : (g : Settings) (by w process : ℕ) (s : State) (es : List Entry) → Sweeps g by w process s es → AreCalm es
sweeps_calm g by w process s es sweeps = calm_as es _ sweeps.entries (orphans_calm by w sweeps.tries)

-- the number of the wheel at a place
pub wheel_named : (g : Settings) (h : List Entry) (lent : List Actor) (parts : AllParts) (i : ℕ) (x : Part) → Stand g h lent parts → i < g.schedulers
    → x ≡ slice_index_or parts.wheels i x → x.number ≡ i
wheel_named g h lent parts i x stand low is = ap (λ (p : Part). p.number) is ∙ stand.wheels.named i x low

-- a call on a wheel, by caller 0
pub wheel_called : (before : Seen) (b : Inside) (d : Desk) (q : Pass) (i : ℕ) (old new : Part) (es : List Entry) (call : ℕ → Seen → Way → Growth)
    → Has before b d → Belongs d q → i < before.settings.schedulers → old ≡ slice_index_or b.wheels.items i old → new.number ≡ old.number
    → WheelStands (settings_of d) (front_of q) new → TakesPlace (settings_of d) (view_of b.pass) es (view_of q)
    → AreOnlyOf (Caller 0 ∷ (Wheel old.number ∷ [])) es → AreCalm es → (b.next ≡ 1 → HoldsOn (state (settings_of d) (front_of q)) old new)
    → Makes b d q es (call old.number)
    → Does before d q b.next (record (parts_in b) { wheels = slice_set b.wheels.items i new }) (call i)
wheel_called before b d q i old new es call has belongs low lent named stands takes only calm holds allowed =
    let g : Settings = settings_of d in
    let n : ℕ = old.number in
    let below : i < g.schedulers = schedulers_at has i low in
    let one : n ≡ i = wheel_named g (front_of b.pass) [] (parts_in b) i old has.fit.stand below lent in
    let mine : old ≡ slice_index_or b.wheels.items n old = subst (λ k. old ≡ slice_index_or b.wheels.items k old) (sym one) lent in
    subst (λ n. Does before d q b.next (record (parts_in b) { wheels = slice_set b.wheels.items n new }) (call n)) one
    (finish before b d q (record (parts_in b) { wheels = slice_set b.wheels.items n new }) es (Caller 0 ∷ (Wheel n ∷ [])) (call n) has refl belongs takes only calm (refl, (refl, tt))
    (λ stand. wheel_back g (front_of q) [] (parts_in b) n new (rw one below) named stands (caller_back g (front_of q) (Wheel n ∷ []) (parts_in b) 0 stand)) allowed
    (λ alone. one_holds (state g (front_of q)) b.wheels.items n old new (rw (has.fit.stand.wheels.counted, one) below) mine (holds alone)) refl)

-- one that makes a single step
pub wheel_stepped : (before : Seen) (b : Inside) (d e : Desk) (q : Pass) (i : ℕ) (old new : Part) (allows : ℕ → Settings → State → List Entry → Type 0)
    → d ≡ e → seen_at e b ≡ before → AreSound e b.pass b.next (parts_in b) → Belongs d q → i < before.settings.schedulers
    → old ≡ slice_index_or b.wheels.items i old → new.number ≡ old.number → WheelStands (settings_of d) (front_of q) new
    → (made : IsMade (settings_of d) (view_of b.pass) (allows old.number (settings_of d)) (view_of q))
    → ((s : State) (es : List Entry) → allows old.number (settings_of d) s es → AreOnlyOf (Caller 0 ∷ (Wheel old.number ∷ [])) es)
    → ((s : State) (es : List Entry) → allows old.number (settings_of d) s es → AreCalm es) → (b.next ≡ 1 → HoldsOn (state (settings_of d) (front_of q)) old new)
    → Does before e q b.next (record (parts_in b) { wheels = slice_set b.wheels.items i new }) (λ w. By w (allows i))
wheel_stepped before b d e q i old new allows same is fit belongs low lent named stands made only calm holds =
    let s : State = state (settings_of d) (front_of b.pass) in
    does_at same (wheel_called before b d q i old new made.entries (λ n w. By w (allows n)) (has_at same is fit) belongs low lent named stands made.call
    (only s made.entries made.allowed) (calm s made.entries made.allowed) holds (makes b d q made.entries (allows old.number) made.allowed))

-- the rows of a wheel on which a timer was started
pub started_hold : {before : Seen} (b : Inside) (d : Desk) (q : Pass) (w : ℕ) (start : Start) (answer : Result TimerRef StartErr) (old new : Part)
    → Has before b d → IsMade (settings_of d) (view_of b.pass) (Starts (settings_of d) 0 w start answer) (view_of q) → GainsOne old new answer
    → b.next ≡ 1 → HoldsOn (state (settings_of d) (front_of q)) old new
started_hold b d q w start answer old new has made gains alone =
    let g : Settings = settings_of d in
    let s : State = state g (front_of b.pass) in
    subst (λ (t : State). HoldsOn t old new) (sym (after d b.pass q made.entries (exact b d q made.entries has made.call alone)))
    (start_holds g 0 w start answer s made.entries old new made.allowed (starts_calm g 0 w start answer s made.entries made.allowed) gains)

-- caller 0 swept a wheel
pub sweep_called : (before : Seen) (b : Inside) (d : Desk) (q : Pass) (i process : ℕ) (old new : Part) → Has before b d → Belongs d q
    → i < before.settings.schedulers → old ≡ slice_index_or b.wheels.items i old → new.number ≡ old.number → WheelStands (settings_of d) (front_of q) new
    → IsMade (settings_of d) (view_of b.pass) (Sweeps (settings_of d) 0 old.number process) (view_of q)
    → IsSwept (state (settings_of d) (front_of q)) old.number process → LosesRows old new
    → Does before d q b.next (record (parts_in b) { wheels = slice_set b.wheels.items i new }) (λ w way. SweepsWheel w.settings way 0 process i)
sweep_called before b d q i process old new has belongs low lent named stands made swept loses =
    let g : Settings = settings_of d in
    let s : State = state g (front_of b.pass) in
    wheel_called before b d q i old new made.entries (λ n w way. SweepsWheel w.settings way 0 process n) has belongs low lent named stands made.call
    (sweeps_only g 0 old.number process s made.entries made.allowed) (sweeps_calm g 0 old.number process s made.entries made.allowed)
    (λ alone. lost_hold (state g (front_of q)) old new loses)
    (λ m grown own. record {
      steps = subst (Sweeps g 0 old.number process s) (sym own) made.allowed;
      swept = subst (λ h. IsSwept (state g h) old.number process) grown swept;
    })

-- where one part lost rows, no row has come
pub rows_set : (ws : List Part) (i : ℕ) (old new : Part) → i < length ws → old ≡ slice_index_or ws i old → LosesRows old new
    → (j : ℕ) (x : Part) → LosesRows (slice_index_or ws j x) (slice_index_or (slice_set ws i new) j x)
rows_set ws i old new wide lent loses j x =
    at_place (λ (y : Part). LosesRows (slice_index_or ws j x) y) ws i j new x wide
    (λ one. subst (λ (y : Part). LosesRows y new)
    (lent ∙ (get_or_default ws i old x wide ∙ ap (λ n. slice_index_or ws n x) (sym one))) loses)
    (λ other. loses_none (slice_index_or ws j x))

pub lost_rows : (before : Seen) (b : Inside) (d : Desk) (i : ℕ) (old new : Part) → Has before b d → i < before.settings.schedulers
    → old ≡ slice_index_or b.wheels.items i old → LosesRows old new
    → (j : ℕ) (x : Part) → LosesRows (slice_index_or before.wheels j x) (slice_index_or (slice_set b.wheels.items i new) j x)
lost_rows before b d i old new has low lent loses j x =
    let ws : List Part = b.wheels.items in
    subst (λ (w : Seen). LosesRows (slice_index_or w.wheels j x) (slice_index_or (slice_set ws i new) j x)) has.is
    (rows_set ws i old new (rw has.fit.stand.wheels.counted (schedulers_at has i low)) lent loses j x)

-- a wheel that was replaced by one without due rows has none
pub replaced_passed : {before : Seen} (b : Inside) (d : Desk) (i to : ℕ) (new : Part) → Has before b d → i < before.settings.schedulers → HasPassed new to
    → (x : Part) → HasPassed (slice_index_or (slice_set b.wheels.items i new) i x) to
replaced_passed b d i to new has low passed x =
    at_place (λ (y : Part). HasPassed y to) b.wheels.items i i new x (rw has.fit.stand.wheels.counted (schedulers_at has i low)) (λ one. passed) (λ other. absurd (other refl))
