-- The time and the offset that a world answers are those of its clock: nobody else moves that.

use Rattle.std.proofs.Common.{◌≡◌, ℕ, ℤ, ◌+ℤ◌, Bool, true, false, List, [], ◌∷◌, filter, None, Err, refl, sym, ap, subst, ◌∙◌}
use Rattle.ert_effects.specs.{ClockCalls.{TellsTime, TellsOffset, TellsSystemTime}, TimerCalls.Starts, declared.answers.StartErr.TheVariants.BadArg}
use Rattle.ert_defs.proofs.Runs.{clock_stays, free_first, free_rest, legal_then}
use Rattle.ert_defs.specs.{Actors.IsFree, Clocks.{Clock, face}, Entries.is_ours, Legal.{Found, Legal, LegalFrom}, Lines.Face, Milliseconds.deadline_of, States.{State, opening, next, state}, declared.entry.Actor.Actor}
use Rattle.ert_defs.specs.{declared.entry.Actor.TheVariants.{Keeper, Caller}, declared.entry.Entry.Entry, declared.entry.Event.Event, declared.entry.Event.TheVariants.{Look, Off}, declared.settings.OffsetState.OffsetState}
use Rattle.ert_defs.specs.{declared.settings.Settings.Settings, declared.timer.Start.Start}
use Rattle.ert_world.proofs.{Calm.{time_quiet, offset_quiet, system_quiet}, Calls.Has, Standing.free_kept}
use Rattle.ert_table.proofs.Holders.{free_one}
use Rattle.ert_table.specs.{Calls.{AreOnlyOf, IsMade}, Desks.{settings_of, view_of, front_of}, declared.desk.Desk.Desk, declared.desk.Pass.Pass, declared.view.View.View}
use Rattle.ert_world.specs.{Restarts.HasNoDeadline, Worlds.Seen, declared.world.World.TheInside.Inside}

-- what an event shows of a clock is what that shows
abbrev Sees : Face → Event → Type 0
Sees f (Look now) = now ≡ f.time
Sees f (Off offset offset_state) = (offset ≡ f.offset) × (offset_state ≡ f.state)
Sees f _ = Unit {0}

abbrev AllSee : Face → List Entry → Type 0
AllSee f [] = Unit {0}
AllSee f (e ∷ es) = Sees f e.event × AllSee f es

found_seen : (g : Settings) (s : State) (by : Actor) (event : Event) → Found g s by event → Sees (face g s.clock) event
found_seen g s by (Look now) found = found
found_seen g s by (Off offset offset_state) found = found
found_seen g s by _ found = tt

-- so it is at each entry of these actors, where the clock's part has none
all_seen : (g : Settings) (actors : List Actor) (s : State) (m : List Entry) → LegalFrom g s m → IsFree m Keeper
    → AllSee (face g s.clock) (filter (is_ours actors) m)
all_seen g actors s [] legal free = tt
all_seen g actors s (e ∷ m) legal free =
    let still : (next g s e).clock ≡ s.clock = clock_stays g s (e ∷ []) (free_one e Keeper (free_first Keeper e m free)) in
    at (is_ours actors e) refl (subst (λ (c : Clock). AllSee (face g c) (filter (is_ours actors) m)) still
    (all_seen g actors (next g s e) m legal.1 (free_rest Keeper e m free)))
  where
    at : (b : Bool) → is_ours actors e ≡ b → AllSee (face g s.clock) (filter (is_ours actors) m) → AllSee (face g s.clock) (filter (is_ours actors) (e ∷ m))
    at true is more = rw is (found_seen g s e.by e.event legal.0.found, more)
    at false is more = rw is more

-- so it is at the entries of a call
seen_at : (g : Settings) (v : View) (allows : State → List Entry → Type 0) (w : View) (f : Face) → face g (state g v.front).clock ≡ f
    → (made : IsMade g v allows w) → IsFree made.call.later Keeper → AllSee f made.entries
seen_at g v allows w f shows made free =
    let legal = legal_then g (opening g) v.front made.call.later (subst (Legal g) made.call.grown made.call.legal) in
    subst (λ x. AllSee x made.entries) shows
    (subst (λ l. AllSee (face g (state g v.front).clock) l) made.call.ours (all_seen g v.actors (state g v.front) made.call.later legal free))

-- what a call tells beside which the clock's part has no entry
pub time_seen : (g : Settings) (v : View) (by : Actor) (now : ℤ) (w : View) (f : Face) → face g (state g v.front).clock ≡ f
    → (made : IsMade g v (TellsTime g by now) w) → IsFree made.call.later Keeper → now ≡ f.time
time_seen g v by now w f shows made free = (subst (λ l. AllSee f l) made.allowed (seen_at g v (TellsTime g by now) w f shows made free)).0

pub offset_seen : (g : Settings) (v : View) (by : Actor) (answer : ℤ × OffsetState) (w : View) (f : Face) → face g (state g v.front).clock ≡ f
    → (made : IsMade g v (TellsOffset g by answer) w) → IsFree made.call.later Keeper → (answer.0 ≡ f.offset) × (answer.1 ≡ f.state)
offset_seen g v by answer w f shows made free = (subst (λ l. AllSee f l) made.allowed (seen_at g v (TellsOffset g by answer) w f shows made free)).0

pub system_seen : (g : Settings) (v : View) (by : Actor) (answer : ℤ) (w : View) (f : Face) → face g (state g v.front).clock ≡ f
    → (made : IsMade g v (TellsSystemTime g by answer) w) → IsFree made.call.later Keeper → answer ≡ (f.time +ℤ f.offset)
system_seen g v by answer w f shows made free =
    let told = subst (λ l. AllSee f l) made.allowed.entries (seen_at g v (TellsSystemTime g by answer) w f shows made free) in
    made.allowed.sum ∙ ap (λ (x : ℤ). x +ℤ made.allowed.offset) told.0 ∙ ap (λ (x : ℤ). f.time +ℤ x) told.1.0.0

-- a world's clock shows what its part shows, which has no entry beside a call of caller 0
shows : (before : Seen) (b : Inside) (d : Desk) → Has before b d → face (settings_of d) (state (settings_of d) (front_of b.pass)).clock ≡ before.clock.face
shows before b d has = sym (has.fit.stand.keeper refl).face ∙ ap (λ (w : Seen). w.clock.face) has.is

keeper_free : (before : Seen) (b : Inside) (d : Desk) (q : Pass) (allows : State → List Entry → Type 0) → Has before b d
    → (made : IsMade (settings_of d) (view_of b.pass) allows (view_of q)) → AreOnlyOf (Caller 0 ∷ []) made.entries → IsFree made.call.later Keeper
keeper_free before b d q allows has made only =
    free_kept (settings_of d) (view_of b.pass) made.entries (view_of q) (Caller 0 ∷ []) Keeper made.call only (has.fit.holds.rest Keeper tt tt) refl

pub time_value : (before : Seen) (b : Inside) (d : Desk) (q : Pass) (now : ℤ) → Has before b d
    → IsMade (settings_of d) (view_of b.pass) (TellsTime (settings_of d) (Caller 0) now) (view_of q) → now ≡ before.clock.face.time
time_value before b d q now has made =
    let g : Settings = settings_of d in
    time_seen g (view_of b.pass) (Caller 0) now (view_of q) before.clock.face (shows before b d has) made
    (keeper_free before b d q (TellsTime g (Caller 0) now) has made (time_quiet g (Caller 0) now (state g (front_of b.pass)) made.entries made.allowed).only)

pub offset_value : (before : Seen) (b : Inside) (d : Desk) (q : Pass) (answer : ℤ × OffsetState) → Has before b d
    → IsMade (settings_of d) (view_of b.pass) (TellsOffset (settings_of d) (Caller 0) answer) (view_of q)
    → (answer.0 ≡ before.clock.face.offset) × (answer.1 ≡ before.clock.face.state)
offset_value before b d q answer has made =
    let g : Settings = settings_of d in
    offset_seen g (view_of b.pass) (Caller 0) answer (view_of q) before.clock.face (shows before b d has) made
    (keeper_free before b d q (TellsOffset g (Caller 0) answer) has made (offset_quiet g (Caller 0) answer (state g (front_of b.pass)) made.entries made.allowed).only)

pub system_value : (before : Seen) (b : Inside) (d : Desk) (q : Pass) (answer : ℤ) → Has before b d
    → IsMade (settings_of d) (view_of b.pass) (TellsSystemTime (settings_of d) (Caller 0) answer) (view_of q)
    → answer ≡ (before.clock.face.time +ℤ before.clock.face.offset)
system_value before b d q answer has made =
    let g : Settings = settings_of d in
    system_seen g (view_of b.pass) (Caller 0) answer (view_of q) before.clock.face (shows before b d has) made
    (keeper_free before b d q (TellsSystemTime g (Caller 0) answer) has made (system_quiet g (Caller 0) answer (state g (front_of b.pass)) made.entries made.allowed).only)

-- a start that is refused for its deadline has none at the time that the clock shows
pub refused_value : (before : Seen) (b : Inside) (d : Desk) (q : Pass) (w : ℕ) (start : Start) → Has before b d
    → IsMade (settings_of d) (view_of b.pass) (Starts (settings_of d) 0 w start (Err BadArg)) (view_of q) → HasNoDeadline before start
refused_value before b d q w start has made =
    let g : Settings = settings_of d in
    let s : State = state g (front_of b.pass) in
    let only = (time_quiet g (Caller 0) made.allowed.now s made.entries made.allowed.entries).only in
    let all = seen_at g (view_of b.pass) (Starts g 0 w start (Err BadArg)) (view_of q) before.clock.face (shows before b d has) made
    (keeper_free before b d q (Starts g 0 w start (Err BadArg)) has made only) in
    let told = (subst (λ l. AllSee before.clock.face l) made.allowed.entries all).0 in
    subst (λ x. deadline_of before.settings start x ≡ None) told
    (subst (λ (w : Seen). deadline_of w.settings start made.allowed.now ≡ None) has.is made.allowed.refused)
