-- What stays of the timers of a wheel while none of them is armed.

use Rattle.std.proofs.Common.{◌≡◌, ◌≢◌, ℕ, ◌+◌, Bool, true, false, cond, ◌&&◌, ◌||◌, List, [], ◌∷◌, ◌++◌, Option, Some, None, refl, sym, ap, subst, ◌∙◌, arith, eq-eqb}
use Rattle.std.proofs.lemmas.List.Sums.{sum_by-append}
use Rattle.ert_defs.specs.{Actors.{same_actor, is_with, has_actor, IsFree}, Legal.{Keeps, LegalFrom, Legal}, States.{State, uses_at, opening, next, run, state}, Timers.{Row, Uses, rows_after, last_after, since_after, above_after}}
use Rattle.ert_defs.specs.{Timers.{status_after, settled_as, handed_as, same_timer, is_taken}, declared.entry.Actor.Actor, declared.entry.Actor.TheVariants.Wheel, declared.entry.Entry.Entry, declared.entry.Event.Event}
use Rattle.ert_defs.specs.{declared.entry.Event.TheVariants.{Arm, Cancel, Expire, Orphan, Deliver, Drop}, declared.settings.Settings.Settings, declared.timer.Status.Status, declared.timer.Status.TheVariants.{Armed, Expired, Delivered}}
use Rattle.ert_defs.specs.{declared.timer.Status.TheVariants.{Cancelled, Orphaned, Dropped}, declared.timer.TimerRef.TimerRef}
use Rattle.ert_defs.proofs.{Runs.{free_first, free_rest, legal_first, legal_then, rows_stay, last_stays, uses_stay, state-append}, Slots.same_timer-true, Statuses.{Forward, arms, forward_after, forward_not_armed, forward_free}}
use Rattle.ert_defs.proofs.{Statuses.{forward_stays, free_stays}}
use Rattle.ert_table.specs.{Held.is_held, Takes.Appends, declared.view.View.View}
use Rattle.ert_table.proofs.Parts.{stepped}
use Rattle.ert_laws.specs.Counts.{entries_of, is_arm}
use Rattle.ert_timers.specs.Parts.{IsLive}

-- a later state in which no timer of a wheel was armed since
pub record IsLater (w : ℕ) (s t : State) : Type 0 where
  pub rows : t.rows w ≡ s.rows w
  pub last : (k : ℕ) → t.last w k ≡ s.last w k
  pub uses : (k : ℕ) → uses_at t w k ≡ uses_at s w k
  pub armed : (r : TimerRef) → r.wheel ≡ w → t.status r ≡ Some Armed → s.status r ≡ Some Armed
  pub free : (r : TimerRef) → r.wheel ≡ w → is_taken (s.status r) ≡ false → is_taken (t.status r) ≡ false

-- a condition that doesn't change a value
cond_is : {X : Type 0} (b : Bool) (x y : X) → y ≡ x → cond b y x ≡ x
cond_is true x y e = e
cond_is false x y e = refl

and_none : (b c : Bool) → c ≡ false → (b && c) ≡ false
and_none true c unmet = unmet
and_none false c unmet = refl

arms_none : (event : Event) (r : TimerRef) → is_arm event ≡ false → arms event r ≡ false
arms_none (Arm timer start) r unmet = absurd cc
arms_none _ r unmet = refl

rows_unarmed : (g : Settings) (look : _) (w : ℕ) (rows : List Row) (event : Event) → is_arm event ≡ false → rows_after g look w rows event ≡ rows
rows_unarmed g look w rows (Arm timer start) unmet = absurd cc
rows_unarmed g look w rows _ unmet = refl

last_unarmed : (w k last : ℕ) (event : Event) → is_arm event ≡ false → last_after w k last event ≡ last
last_unarmed w k last (Arm timer start) unmet = absurd cc
last_unarmed w k last _ unmet = refl

-- the uses of a slot after an event of its wheel, or not
uses_unarmed : (g : Settings) (look : _) (w k : ℕ) (u : Uses) (b : Bool) (event : Event) → is_arm event ≡ false
    → (let v : Uses = record {
      last = cond b (last_after w k u.last event) u.last;
      since = cond b (since_after w k u event) u.since;
      above = cond b (above_after g look w k u.above event) u.above;
    } in v) ≡ u
uses_unarmed g look w k u false event unmet = refl
uses_unarmed g look w k u true (Arm timer start) unmet = absurd cc
uses_unarmed g look w k u true _ unmet = refl

-- only an armed timer stays armed
pub was_armed : (x y : Option Status) → Forward x y → y ≡ Some Armed → x ≡ Some Armed
was_armed None y h is = absurd (forward_not_armed None y h (λ is. cc) is)
was_armed (Some Armed) y h is = refl
was_armed (Some Expired) y h is = absurd (forward_not_armed (Some Expired) y h (λ is. cc) is)
was_armed (Some Delivered) y h is = absurd (forward_not_armed (Some Delivered) y h (λ is. cc) is)
was_armed (Some Cancelled) y h is = absurd (forward_not_armed (Some Cancelled) y h (λ is. cc) is)
was_armed (Some Orphaned) y h is = absurd (forward_not_armed (Some Orphaned) y h (λ is. cc) is)
was_armed (Some Dropped) y h is = absurd (forward_not_armed (Some Dropped) y h (λ is. cc) is)

-- after an entry that arms nothing
pub later_entry : (g : Settings) (w : ℕ) (s : State) (e : Entry) → is_arm e.event ≡ false → IsLater w s (next g s e)
later_entry g w s e unmet =
    let moved : (r : TimerRef) → Forward (s.status r) ((next g s e).status r) =
    λ r. forward_after r (has_actor e (Wheel r.wheel)) (s.status r) e.event
    (and_none (has_actor e (Wheel r.wheel)) (arms e.event r) (arms_none e.event r unmet)) in
    record {
      rows = cond_is (has_actor e (Wheel w)) (s.rows w) (rows_after g (s.looked e.by) w (s.rows w) e.event)
          (rows_unarmed g (s.looked e.by) w (s.rows w) e.event unmet);
      last = λ k. cond_is (has_actor e (Wheel w)) (s.last w k) (last_after w k (s.last w k) e.event) (last_unarmed w k (s.last w k) e.event unmet);
      uses = λ k. uses_unarmed g (s.looked e.by) w k (uses_at s w k) (has_actor e (Wheel w)) e.event unmet;
      armed = λ r on is. was_armed (s.status r) ((next g s e).status r) (moved r) is;
      free = λ r on free. forward_free (s.status r) ((next g s e).status r) (moved r) free;
    }

-- after entries of others
pub later_free : (g : Settings) (w : ℕ) (s : State) (m : List Entry) → IsFree m (Wheel w) → IsLater w s (run g s m)
later_free g w s m free = record {
  rows = rows_stay g w s m free;
  last = λ k. last_stays g w k s m free;
  uses = λ k. uses_stay g w k s m free;
  armed = λ r on is.
      forward_stays (λ x. x ≡ Some Armed → s.status r ≡ Some Armed) (λ x y moved was is. was (was_armed x y moved is)) g r s m
      (subst (λ n. IsFree m (Wheel n)) (sym on) free) (λ is. is) is;
  free = λ r on none. free_stays g r s m (subst (λ n. IsFree m (Wheel n)) (sym on) free) none;
}

pub later_then : (w : ℕ) (s t u : State) → IsLater w s t → IsLater w t u → IsLater w s u
later_then w s t u a b = record {
  rows = b.rows ∙ a.rows;
  last = λ k. b.last k ∙ a.last k;
  uses = λ k. b.uses k ∙ a.uses k;
  armed = λ r on is. a.armed r on (b.armed r on is);
  free = λ r on none. b.free r on (a.free r on none);
}

-- what others left of the timers of a wheel at a step of a pass that holds it
pub later_before : (g : Settings) (v : View) (e : Entry) (u : View) (w : ℕ) (step : Appends g v e u) → is_held v.actors (Wheel w) ≡ true
    → IsLater w (state g v.front) (state g (v.front ++ step.between))
later_before g v e u w step held =
    subst (λ t. IsLater w (state g v.front) t) (sym (state-append g v.front step.between))
    (later_free g w (state g v.front) step.between (step.others (Wheel w) held))

-- after a step that arms nothing
pub later_step : (g : Settings) (v : View) (e : Entry) (u : View) (w : ℕ) → Appends g v e u → is_held v.actors (Wheel w) ≡ true
    → is_arm e.event ≡ false → IsLater w (state g v.front) (state g u.front)
later_step g v e u w step held unmet =
    let s : State = state g (v.front ++ step.between) in
    later_then w (state g v.front) s (state g u.front) (later_before g v e u w step held)
    (subst (λ t. IsLater w s t) (sym (stepped g v e u step)) (later_entry g w s e unmet))

-- whether an event lets a timer expire
abbrev pub expires : Event → TimerRef → Bool
expires (Expire timer) r = same_timer timer r
expires _ r = false

cond_not : {X : Type 0} (b : Bool) (x y z : X) → y ≢ z → x ≢ z → cond b y x ≢ z
cond_not true x y z h k = h
cond_not false x y z h k = k

settled_not : (to : Status) → Some to ≢ Some Expired → (x : Option Status) → x ≢ Some Expired → settled_as to x ≢ Some Expired
settled_not to not (Some Armed) h = not
settled_not to not None h = h
settled_not to not (Some Expired) h = h
settled_not to not (Some Delivered) h = h
settled_not to not (Some Cancelled) h = h
settled_not to not (Some Orphaned) h = h
settled_not to not (Some Dropped) h = h

handed_not : (to : Status) (x : Option Status) → x ≢ Some Expired → handed_as to x ≢ Some Expired
handed_not to (Some Expired) h = absurd (h refl)
handed_not to None h = h
handed_not to (Some Armed) h = h
handed_not to (Some Delivered) h = h
handed_not to (Some Cancelled) h = h
handed_not to (Some Orphaned) h = h
handed_not to (Some Dropped) h = h

-- no other event does
unexpired_event : (r : TimerRef) (b : Bool) (x : Option Status) (event : Event) → expires event r ≡ false → x ≢ Some Expired
    → status_after r b x event ≢ Some Expired
unexpired_event r b x (Arm timer start) unmet h = cond_not (b && same_timer timer r) x (Some Armed) (Some Expired) (λ is. cc) h
unexpired_event r b x (Cancel timer left) unmet h =
    cond_not (same_timer timer r) x (settled_as Cancelled x) (Some Expired) (settled_not Cancelled (λ is. cc) x h) h
unexpired_event r b x (Expire timer) unmet h = rw unmet h
unexpired_event r b x (Orphan timer) unmet h =
    cond_not (same_timer timer r) x (settled_as Orphaned x) (Some Expired) (settled_not Orphaned (λ is. cc) x h) h
unexpired_event r b x (Deliver timer) unmet h = cond_not (same_timer timer r) x (handed_as Delivered x) (Some Expired) (handed_not Delivered x h) h
unexpired_event r b x (Drop timer) unmet h = cond_not (same_timer timer r) x (handed_as Dropped x) (Some Expired) (handed_not Dropped x h) h
unexpired_event r b x _ unmet h = h

-- whether an event lets a timer expire, or cancels it for an exit
abbrev pub ends : Event → TimerRef → Bool
ends (Expire timer) r = same_timer timer r
ends (Orphan timer) r = same_timer timer r
ends _ r = false

cond_live : (b : Bool) (x y : Option Status) → IsLive y → IsLive x → IsLive (cond b y x)
cond_live true x y h k = h
cond_live false x y h k = k

cancelled_live : (x : Option Status) → IsLive x → IsLive (settled_as Cancelled x)
cancelled_live (Some Armed) h = tt
cancelled_live (Some Cancelled) h = tt
cancelled_live None h = absurd h
cancelled_live (Some Expired) h = absurd h
cancelled_live (Some Delivered) h = absurd h
cancelled_live (Some Orphaned) h = absurd h
cancelled_live (Some Dropped) h = absurd h

handed_live : (to : Status) (x : Option Status) → IsLive x → IsLive (handed_as to x)
handed_live to (Some Armed) h = tt
handed_live to (Some Cancelled) h = tt
handed_live to None h = absurd h
handed_live to (Some Expired) h = absurd h
handed_live to (Some Delivered) h = absurd h
handed_live to (Some Orphaned) h = absurd h
handed_live to (Some Dropped) h = absurd h

-- no other event ends a timer that is armed or was cancelled
live_event : (r : TimerRef) (b : Bool) (x : Option Status) (event : Event) → ends event r ≡ false → IsLive x → IsLive (status_after r b x event)
live_event r b x (Arm timer start) unmet h = cond_live (b && same_timer timer r) x (Some Armed) tt h
live_event r b x (Cancel timer left) unmet h = cond_live (same_timer timer r) x (settled_as Cancelled x) (cancelled_live x h) h
live_event r b x (Expire timer) unmet h = rw unmet h
live_event r b x (Orphan timer) unmet h = rw unmet h
live_event r b x (Deliver timer) unmet h = cond_live (same_timer timer r) x (handed_as Delivered x) (handed_live Delivered x h) h
live_event r b x (Drop timer) unmet h = cond_live (same_timer timer r) x (handed_as Dropped x) (handed_live Dropped x h) h
live_event r b x _ unmet h = h

-- such a timer hasn't expired
pub live_unexpired : (x : Option Status) → IsLive x → x ≢ Some Expired
live_unexpired x live is = subst IsLive is live

or_second : (x y : Bool) → (x || y) ≡ false → y ≡ false
or_second true y h = absurd cc
or_second false y h = h

-- and such an event is made with the wheel of the timer
with_other : (by : Actor) (with : Option Actor) (timer r : TimerRef) → with ≡ Some (Wheel timer.wheel)
    → (same_actor by (Wheel r.wheel) || is_with with (Wheel r.wheel)) ≡ false → same_timer timer r ≡ false
with_other by with timer r is free = at (same_timer timer r) refl
  where
    at : (b : Bool) → same_timer timer r ≡ b → same_timer timer r ≡ false
    at true same_is =
        let same : timer ≡ r = same_timer-true timer r same_is in
        let own : is_with with (Wheel r.wheel) ≡ true =
        ap (λ x. is_with x (Wheel r.wheel)) is ∙ eq-eqb timer.wheel r.wheel (ap (λ (t : TimerRef). t.wheel) same) in
        let none : is_with with (Wheel r.wheel) ≡ false = or_second (same_actor by (Wheel r.wheel)) _ free in
        absurd cc
    at false other = other

ends_not : (g : Settings) (by : Actor) (with : Option Actor) (event : Event) (r : TimerRef) → Keeps g by with event
    → (same_actor by (Wheel r.wheel) || is_with with (Wheel r.wheel)) ≡ false → ends event r ≡ false
ends_not g by with (Expire timer) r keeps free = with_other by with timer r keeps.1 free
ends_not g by with (Orphan timer) r keeps free = with_other by with timer r keeps.1 free
ends_not g by with _ r keeps free = refl

pub live_free : (g : Settings) (r : TimerRef) (s : State) (m : List Entry) → LegalFrom g s m → IsFree m (Wheel r.wheel)
    → IsLive (s.status r) → IsLive ((run g s m).status r)
live_free g r s [] legal free h = h
live_free g r s (e ∷ m) legal free h =
    live_free g r (next g s e) m legal.1 (free_rest (Wheel r.wheel) e m free)
    (live_event r (has_actor e (Wheel r.wheel)) (s.status r) e.event
    (ends_not g e.by e.with e.event r legal.0.keeps (free_first (Wheel r.wheel) e m free)) h)

-- so a timer of a wheel that a pass holds is armed or cancelled at its step if it was so before
pub live_before : (g : Settings) (v : View) (e : Entry) (u : View) (r : TimerRef) (step : Appends g v e u)
    → is_held v.actors (Wheel r.wheel) ≡ true → IsLive ((state g v.front).status r)
    → IsLive ((state g (v.front ++ step.between)).status r)
live_before g v e u r step held h =
    let legal : Legal g (v.front ++ step.between) =
    legal_first g (opening g) (v.front ++ step.between) (e ∷ []) (subst (Legal g) step.grown step.legal) in
    subst (λ (t : State). IsLive (t.status r)) (sym (state-append g v.front step.between))
    (live_free g r (state g v.front) step.between (legal_then g (opening g) v.front step.between legal)
    (step.others (Wheel r.wheel) held) h)

-- and after it
pub live_step : (g : Settings) (v : View) (e : Entry) (u : View) (r : TimerRef) → Appends g v e u → is_held v.actors (Wheel r.wheel) ≡ true
    → ends e.event r ≡ false → IsLive ((state g v.front).status r) → IsLive ((state g u.front).status r)
live_step g v e u r step held unmet h =
    subst (λ (t : State). IsLive (t.status r)) (sym (stepped g v e u step))
    (live_event r (has_actor e (Wheel r.wheel)) ((state g (v.front ++ step.between)).status r) e.event unmet
    (live_before g v e u r step held h))

-- where it was cancelled for an exit it hasn't expired after it either
pub unexpired_step : (g : Settings) (v : View) (e : Entry) (u : View) (r : TimerRef) → Appends g v e u → is_held v.actors (Wheel r.wheel) ≡ true
    → expires e.event r ≡ false → IsLive ((state g v.front).status r) → (state g u.front).status r ≢ Some Expired
unexpired_step g v e u r step held unmet h =
    let s : State = state g (v.front ++ step.between) in
    subst (λ (t : State). t.status r ≢ Some Expired) (sym (stepped g v e u step))
    (unexpired_event r (has_actor e (Wheel r.wheel)) (s.status r) e.event unmet (live_unexpired (s.status r) (live_before g v e u r step held h)))

pub none_counted : (test : Event → Bool) (w : ℕ) (m : List Entry) → IsFree m (Wheel w) → entries_of test w m ≡ 0
none_counted test w [] free = refl
none_counted test w (e ∷ m) free =
    let none : has_actor e (Wheel w) ≡ false = free_first (Wheel w) e m free in
    rw none (none_counted test w m (free_rest (Wheel w) e m free))

-- a count of the entries of a wheel goes on by the step alone
pub count_step : (g : Settings) (v : View) (e : Entry) (u : View) (w : ℕ) (test : Event → Bool) → Appends g v e u
    → is_held v.actors (Wheel w) ≡ true
    → entries_of test w u.front ≡ entries_of test w v.front + cond (has_actor e (Wheel w) && test e.event) 1 0
count_step g v e u w test step held =
    let one : Entry → ℕ = λ e. cond (has_actor e (Wheel w) && test e.event) 1 0 in
    let grown : entries_of test w u.front ≡ entries_of test w ((v.front ++ step.between) ++ e ∷ []) = ap (entries_of test w) step.grown in
    let outer = sum_by-append one (v.front ++ step.between) (e ∷ []) in
    let inner = sum_by-append one v.front step.between in
    let none = none_counted test w step.between (step.others (Wheel w) held) in
    omega (arith, grown, outer, inner, none)
