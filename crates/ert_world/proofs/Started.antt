-- A start names a timer that was never named before, so no row comes of one that was.

use Rattle.std.proofs.Common.{◌≡◌, ◌≢◌, ◌⊎◌, ⊎_elim, ℕ, ◌<◌, Bool, true, false, cond, ◌&&◌, List, [], ◌∷◌, ◌++◌, filter, length, slice_index_or, Option, Some, None, Result, Ok, inl, inr, refl, sym, ap, subst, ◌∙◌, eq-eqb, arith}
use Rattle.std.specs.Prelude.{slice_set, nat_eq}
use Rattle.ert_defs.proofs.{Runs.legal_then, Slots.{IsOrdered, can_use, next_is_new, ordered, ordered_next}}
use Rattle.ert_defs.specs.{Entries.arm_entry, Legal.{Can, Legal, LegalFrom}, Milliseconds.deadline_of, States.{State, opening, next, state, uses_at}, Timers.{same_timer, settled_as, handed_as, status_after, timer_at}}
use Rattle.ert_defs.specs.{declared.entry.Actor.TheVariants.{Wheel, Caller}, declared.entry.Entry.Entry, declared.entry.Event.Event, declared.entry.Event.TheVariants.{Arm, Cancel, Expire, Orphan, Deliver, Drop}}
use Rattle.ert_defs.specs.{declared.settings.Settings.Settings, declared.timer.Start.Start, declared.timer.Status.Status, declared.timer.Status.TheVariants.{Armed, Expired, Delivered, Cancelled, Orphaned, Dropped}}
use Rattle.ert_defs.specs.{declared.timer.TimerRef.TimerRef, Actors.has_actor}
use Rattle.ert_effects.specs.{TimerCalls.Starts, declared.answers.StartErr.StartErr}
use Rattle.ert_table.specs.{Desks.{settings_of, front_of}, declared.desk.Desk.Desk}
use Rattle.ert_timers.proofs.Settled.{HasOne}
use Rattle.ert_timers.specs.{Freeing.IsHeld, Parts.{Part, PartStands as WheelStands}, Passed.{GainsOne, WasHeld}}
use Rattle.ert_wheel.proofs.Looking.{key_low}
use Rattle.ert_wheel.specs.{Rows.key_in, declared.row.Key.Key}
use Rattle.ert_world.proofs.{Calls.{Has, schedulers_at}, NextDue.part_at, Returned.at_place}
use Rattle.ert_world.specs.{Ways.is_unseated, Worlds.{Seen, Goes, By, HasForgotten}, declared.world.World.TheInside.Inside}

-- settling and handing over leave a status
settled_some : (to : Status) (x : Option Status) → x ≢ None → settled_as to x ≢ None
settled_some to None some = absurd (some refl)
settled_some to (Some Armed) some = λ is. cc
settled_some to (Some Expired) some = some
settled_some to (Some Delivered) some = some
settled_some to (Some Cancelled) some = some
settled_some to (Some Orphaned) some = some
settled_some to (Some Dropped) some = some

handed_some : (to : Status) (x : Option Status) → x ≢ None → handed_as to x ≢ None
handed_some to None some = absurd (some refl)
handed_some to (Some Armed) some = some
handed_some to (Some Expired) some = λ is. cc
handed_some to (Some Delivered) some = some
handed_some to (Some Cancelled) some = some
handed_some to (Some Orphaned) some = some
handed_some to (Some Dropped) some = some

cond_some : (b : Bool) (x y : Option Status) → x ≢ None → y ≢ None → cond b x y ≢ None
cond_some true x y one other = one
cond_some false x y one other = other

-- so no event takes it
status_some : (r : TimerRef) (b : Bool) (x : Option Status) (event : Event) → x ≢ None → status_after r b x event ≢ None
status_some r b x (Arm timer start) some = cond_some (b && same_timer timer r) (Some Armed) x (λ is. cc) some
status_some r b x (Cancel timer left) some = cond_some (same_timer timer r) (settled_as Cancelled x) x (settled_some Cancelled x some) some
status_some r b x (Expire timer) some = cond_some (same_timer timer r) (settled_as Expired x) x (settled_some Expired x some) some
status_some r b x (Orphan timer) some = cond_some (same_timer timer r) (settled_as Orphaned x) x (settled_some Orphaned x some) some
status_some r b x (Deliver timer) some = cond_some (same_timer timer r) (handed_as Delivered x) x (handed_some Delivered x some) some
status_some r b x (Drop timer) some = cond_some (same_timer timer r) (handed_as Dropped x) x (handed_some Dropped x some) some
status_some r b x _ some = some

some_next : (g : Settings) (s : State) (e : Entry) (timer : TimerRef) → s.status timer ≢ None → (next g s e).status timer ≢ None
some_next g s e timer some = status_some timer (has_actor e (Wheel timer.wheel)) (s.status timer) e.event some

-- of the entries that pass a test the first is such, or a later one
one_in : (D : Entry → Type 0) (test : Entry → Bool) (e : Entry) (m : List Entry) (P : Type 0) → (D e → P) → (HasOne D (filter test m) → P)
    → HasOne D (filter test (e ∷ m)) → P
one_in D test e m P here more has = at (test e) refl
  where
    at : (b : Bool) → test e ≡ b → P
    at true is =
        let mine : filter test (e ∷ m) ≡ e ∷ filter test m = rw is refl in
        ⊎_elim here more (subst (HasOne D) mine has)
    at false is =
        let theirs : filter test (e ∷ m) ≡ filter test m = rw is refl in
        more (subst (HasOne D) theirs has)

-- the arming of a timer
abbrev pub IsArm : TimerRef → Entry → Type 0
IsArm timer e = (by : ℕ) × (start : Start) × (e ≡ arm_entry by timer start)

-- it had no status before
armed_new : (g : Settings) (s : State) (by : ℕ) (timer : TimerRef) (start : Start) → IsOrdered s → Can g s (arm_entry by timer start) → s.status timer ≡ None
armed_new g s by timer start order can =
    let here : (nat_eq timer.wheel timer.wheel && nat_eq timer.slot timer.slot) ≡ true = rw (eq-eqb timer.wheel timer.wheel refl, eq-eqb timer.slot timer.slot refl) refl in
    let may = can_use g s (Caller by) timer (deadline_of g start (s.looked (Caller by))) timer.wheel timer.slot can.known here in
    next_is_new (λ n. s.status (timer_at timer.wheel timer.slot n)) (uses_at s timer.wheel timer.slot)
    (record { now = may.now; wanted = may.wanted; generation = timer.generation }) (order timer.wheel timer.slot) may.can

-- so a timer with a status isn't armed again
never_again : (g : Settings) (test : Entry → Bool) (timer : TimerRef) (s : State) (m : List Entry) → IsOrdered s → s.status timer ≢ None → LegalFrom g s m
    → HasOne (IsArm timer) (filter test m) → ⊥
never_again g test timer s [] order some legal has = has
never_again g test timer s (e ∷ m) order some legal has =
    one_in (IsArm timer) test e m ⊥ (λ arm. some (armed_new g s arm.0 timer arm.1 order (subst (Can g s) arm.2 legal.0)))
    (λ more. never_again g test timer (next g s e) m (ordered_next g s e order legal.0) (some_next g s e timer some) legal.1 more) has

has_later : (D : Entry → Type 0) (es fs : List Entry) → HasOne D fs → HasOne D (es ++ fs)
has_later D [] fs has = has
has_later D (e ∷ es) fs has = inr (has_later D es fs has)

-- a start that gave a timer armed it
starts_arm : (g : Settings) (by w : ℕ) (start : Start) (timer : TimerRef) (s : State) (es : List Entry) → Starts g by w start (Ok timer) s es → HasOne (IsArm timer) es
starts_arm g by w start timer s es starts =
    subst (HasOne (IsArm timer)) (sym starts.entries) (inr (has_later (IsArm timer) starts.probes _ (inl (by, start, refl))))

-- so it gives no name that was given before, whichever entries of others stand beside its own
pub name_is_new : (g : Settings) (test : Entry → Bool) (h new piece : List Entry) (by w : ℕ) (start : Start) (timer : TimerRef) → Legal g h → Legal g new
    → new ≡ h ++ piece → Starts g by w start (Ok timer) (state g h) (filter test piece) → (state g h).status timer ≢ None → ⊥
name_is_new g test h new piece by w start timer legal after grown starts some =
    never_again g test timer (state g h) piece (ordered g h legal) some (legal_then g (opening g) h piece (subst (Legal g) grown after))
    (starts_arm g by w start timer (state g h) (filter test piece) starts)

-- a start of a world gives no name that was given before
new_name : (a c : Seen) (w : ℕ) (start : Start) (timer : TimerRef) → Legal a.settings a.history → Goes a (By a (λ g. Starts g 0 w start (Ok timer))) c
    → (state a.settings a.history).status timer ≢ None → ⊥
new_name a c w start timer legal goes some =
    name_is_new a.settings (is_unseated a.next) a.history c.history goes.grows.piece 0 w start timer legal
    (subst (λ (x : Settings). Legal x c.history) goes.settings goes.legal) goes.grows.grown goes.grows.made some

-- a row that is held after a start was held before, or is of the timer that was started
pub row_from : (g : Settings) (h : List Entry) (old new : Part) (answer : Result TimerRef StartErr) (timer : TimerRef) → WheelStands g h old → GainsOne old new answer
    → IsHeld new timer → IsHeld old timer ⊎ (answer ≡ Ok timer)
row_from g h old new answer timer stands gains held = at (key_in new.keys timer.slot) refl
  where
    at : (o : Option Key) → key_in new.keys timer.slot ≡ o → IsHeld old timer ⊎ (answer ≡ Ok timer)
    at None is = absurd (held.row is)
    at (Some key) is = ⊎_elim (λ (was : WasHeld old new timer.slot key). inl (record {
      low = (let low : timer.slot < length old.keys = key_low old.keys timer.slot key was.0 in omega (arith, low, stands.holds.wide, stands.holds.many));
      named = held.named ∙ was.1;
      row = λ none. (let clash : None ≡ Some key = sym none ∙ was.0 in cc);
    })) (λ one. inr (one ∙ ap (λ t. Ok t) (sym held.named))) (gains timer.slot key is)

-- so the wheels forget on
pub forgotten_start : (before : Seen) (b : Inside) (d : Desk) (c : Seen) (i : ℕ) (start : Start) (answer : Result TimerRef StartErr) (old new : Part)
    → Has before b d → i < before.settings.schedulers → old ≡ slice_index_or b.wheels.items i old → GainsOne old new answer
    → Goes before (By before (λ g. Starts g 0 i start answer)) c
    → (timer : TimerRef) → (state before.settings before.history).status timer ≢ None → HasForgotten before timer
    → (x : Part) → IsHeld (slice_index_or (slice_set b.wheels.items i new) timer.wheel x) timer → ⊥
forgotten_start before b d c i start answer old new has low lent gains goes timer some gone x =
    let g : Settings = settings_of d in
    let below : i < g.schedulers = schedulers_at has i low in
    let stands : WheelStands g (front_of b.pass) old = subst (WheelStands g (front_of b.pass)) (sym lent) (has.fit.stand.wheels.stand i old below refl) in
    let legal : Legal before.settings before.history = subst (λ (w : Seen). Legal w.settings w.history) has.is has.fit.stand.legal in
    let gone_there : IsHeld (slice_index_or b.wheels.items timer.wheel x) timer → ⊥ =
    subst (λ (w : Seen). IsHeld (slice_index_or w.wheels timer.wheel x) timer → ⊥) (sym has.is) (gone x) in
    at_place (λ (y : Part). IsHeld y timer → ⊥) b.wheels.items i timer.wheel new x (rw has.fit.stand.wheels.counted below)
    (λ one held. ⊎_elim
    (λ was. gone_there (subst (λ n. IsHeld (slice_index_or b.wheels.items n x) timer) (sym one)
    (subst (λ (y : Part). IsHeld y timer) (part_at before b d i old has low lent x) was)))
    (λ named. new_name before c i start timer legal (subst (λ r. Goes before (By before (λ g. Starts g 0 i start r)) c) named goes) some)
    (row_from g (front_of b.pass) old new answer timer stands gains held))
    (λ other. gone_there)
