-- The entries of a timer's life move its status, and no others do.

use Rattle.std.proofs.Common.{◌≡◌, ◌≢◌, ℕ, ℤ, Bool, true, false, cond, ◌&&◌, List, [], ◌∷◌, ◌++◌, Option, Some, None, refl, sym, ap, subst, ◌∙◌, append-nil, eq-eqb}
use Rattle.std.proofs.{Math.Bool.{and-false, or-true}, lemmas.List.Elements.filter_map-append}
use Rattle.std.specs.List.{filter_map}
use Rattle.ert_defs.specs.{Actors.{has_actor, is_with, same_actor}, Legal.{Can, Legal, left_by}, States.{State, next, state}, Timers.{Row, Stands, row_of, same_timer, settled_as, handed_as, status_after}, declared.entry.Actor.Actor}
use Rattle.ert_defs.specs.{declared.entry.Actor.TheVariants.Wheel, declared.entry.Entry.Entry, declared.entry.Event.Event, declared.entry.Event.TheVariants.{Arm, Cancel, Expire, Orphan, Deliver, Drop}, declared.settings.Settings.Settings}
use Rattle.ert_defs.specs.{declared.timer.Status.Status, declared.timer.Status.TheVariants.{Armed, Expired, Delivered, Cancelled, Orphaned, Dropped}, declared.timer.TimerRef.TimerRef}
use Rattle.ert_defs.proofs.{ExpiredLists.{IsKept, first_has_expired, made, kept_after}, Runs.{carry, legal_one_more}, Settlings.armed_first, Slots.same_timer-true, Standing.{AllStand, all_stand}}
use Rattle.ert_laws.specs.Lives.{status_given, life, life_to, status_before, Moved, LawOfLives, LawOfMovers}
use Rattle.ert_laws.proofs.Histories.{by_entries, state-more}

-- a start arms a timer that was never armed
moved_arm : (b t : Bool) (x : Option Status) → (t ≡ true → b ≡ true) → (t ≡ true → x ≡ None)
    → Moved (cond t (Some Armed) None) x (cond (b && t) (Some Armed) x)
moved_arm b true x wheel first = rw (wheel refl) (first refl, refl)
moved_arm b false x wheel first = rw (and-false b) refl

moved_settled : (to : Status) (t : Bool) (x : Option Status) → status_before to ≡ Some Armed → (t ≡ true → x ≡ Some Armed)
    → Moved (cond t (Some to) None) x (cond t (settled_as to x) x)
moved_settled to true x before armed = (armed refl ∙ sym before, rw (armed refl) refl)
moved_settled to false x before armed = refl

moved_handed : (to : Status) (t : Bool) (x : Option Status) → status_before to ≡ Some Expired → (t ≡ true → x ≡ Some Expired)
    → Moved (cond t (Some to) None) x (cond t (handed_as to x) x)
moved_handed to true x before expired = (expired refl ∙ sym before, rw (expired refl) refl)
moved_handed to false x before expired = refl

-- a cancel that tells a number found the timer armed
left_armed : (g : Settings) (look : ℤ) (x : Option Status) (row : Option Row) (n : ℕ) → Some n ≡ left_by g look x row → x ≡ Some Armed
left_armed g look None row n is = absurd cc
left_armed g look (Some Armed) row n is = refl
left_armed g look (Some _) row n is = absurd cc

-- one that tells none found it settled, or never armed
none_left : (g : Settings) (look : ℤ) (x : Option Status) (rows : List Row) (r : TimerRef) → (x ≢ None → Stands rows r)
    → None ≡ left_by g look x (row_of rows r) → settled_as Cancelled x ≡ x
none_left g look None rows r stand is = refl
none_left g look (Some Armed) rows r stand is =
    let stands = stand (λ none. cc) in
    absurd (cc (rw stands.is at is))
none_left g look (Some _) rows r stand is = refl

not_cancelled : (t : Bool) (x : Option Status) → (t ≡ true → settled_as Cancelled x ≡ x) → cond t (settled_as Cancelled x) x ≡ x
not_cancelled true x same = same refl
not_cancelled false x same = refl

-- what is so of a timer is so of a reference that passes the test with it
at_same : (P : TimerRef → Type 0) (timer r : TimerRef) → P timer → same_timer timer r ≡ true → P r
at_same P timer r h is = subst P (same_timer-true timer r is) h

-- a start is made with the wheel of its timer
with_wheel : (e : Entry) (timer r : TimerRef) → e.with ≡ Some (Wheel timer.wheel) → same_timer timer r ≡ true → has_actor e (Wheel r.wheel) ≡ true
with_wheel e timer r with is =
    let same : timer.wheel ≡ r.wheel = ap (λ (t : TimerRef). t.wheel) (same_timer-true timer r is) in
    let has : is_with e.with (Wheel r.wheel) ≡ true =
    carry (λ (with : Option Actor). is_with with (Wheel r.wheel) ≡ true) with (eq-eqb timer.wheel r.wheel same) in
    rw has (or-true (same_actor e.by (Wheel r.wheel)))

moved_event : (g : Settings) (s : State) (by : Actor) (with : Option Actor) (event : Event) (r : TimerRef) → IsKept s → AllStand s
    → Can g s (made by with event)
    → Moved (status_given r event) (s.status r) (status_after r (has_actor (made by with event) (Wheel r.wheel)) (s.status r) event)
moved_event g s by with (Arm timer start) r kept stand can =
    moved_arm (has_actor (made by with (Arm timer start)) (Wheel r.wheel)) (same_timer timer r) (s.status r)
    (with_wheel (made by with (Arm timer start)) timer r can.keeps.1)
    (armed_first g s by timer r _ kept.ordered can.known)
moved_event g s by with (Cancel timer (Some n)) r kept stand can =
    moved_settled Cancelled (same_timer timer r) (s.status r) refl
    (at_same (λ t. s.status t ≡ Some Armed) timer r (left_armed g (s.looked by) (s.status timer) (row_of (s.rows timer.wheel) timer) n can.found))
moved_event g s by with (Cancel timer None) r kept stand can =
    not_cancelled (same_timer timer r) (s.status r)
    (at_same (λ t. settled_as Cancelled (s.status t) ≡ s.status t) timer r
    (none_left g (s.looked by) (s.status timer) (s.rows timer.wheel) timer (stand timer) can.found))
moved_event g s by with (Expire timer) r kept stand can =
    moved_settled Expired (same_timer timer r) (s.status r) refl (at_same (λ t. s.status t ≡ Some Armed) timer r can.found)
moved_event g s by with (Orphan timer) r kept stand can =
    moved_settled Orphaned (same_timer timer r) (s.status r) refl (at_same (λ t. s.status t ≡ Some Armed) timer r can.found)
moved_event g s by with (Deliver timer) r kept stand can =
    moved_handed Delivered (same_timer timer r) (s.status r) refl
    (at_same (λ t. s.status t ≡ Some Expired) timer r (first_has_expired s timer.wheel timer (kept.expired timer.wheel) can.known.0))
moved_event g s by with (Drop timer) r kept stand can =
    moved_handed Dropped (same_timer timer r) (s.status r) refl
    (at_same (λ t. s.status t ≡ Some Expired) timer r (first_has_expired s timer.wheel timer (kept.expired timer.wheel) can.known.0))
moved_event g s by with event r kept stand can = refl

pub moved_next : (g : Settings) (s : State) (e : Entry) (r : TimerRef) → IsKept s → AllStand s → Can g s e
    → Moved (status_given r e.event) (s.status r) ((next g s e).status r)
moved_next g s e r kept stand can = moved_event g s e.by e.with e.event r kept stand can

-- one more entry moves a status as it may
moved_more : (g : Settings) (h : List Entry) (e : Entry) (r : TimerRef) → Legal g h → Can g (state g h) e
    → Moved (status_given r e.event) ((state g h).status r) ((state g (h ++ e ∷ [])).status r)
moved_more g h e r legal can =
    carry (λ (s : State). Moved (status_given r e.event) ((state g h).status r) (s.status r)) (state-more g h e)
    (moved_next g (state g h) e r (kept_after g h legal) (all_stand g h legal) can)

pub entries_move : LawOfMovers
entries_move g h e r legal =
    let parts = (legal_one_more g h e).0 legal in
    moved_more g h e r parts.0 parts.1

-- the life of a status is that of the one before, and the status
life_more : (to : Status) → life_to (status_before to) ++ to ∷ [] ≡ life_to (Some to)
life_more Armed = refl
life_more Cancelled = refl
life_more Orphaned = refl
life_more Expired = refl
life_more Delivered = refl
life_more Dropped = refl

life_moved : (given before after : Option Status) (l : List Status) → Moved given before after → l ≡ life_to before
    → l ++ filter_map (λ (x : Option Status). x) (given ∷ []) ≡ life_to after
life_moved None before after l moved is = append-nil l ∙ (is ∙ ap life_to (sym moved))
life_moved (Some to) before after l moved is =
    ap (λ x. x ++ to ∷ []) (is ∙ ap life_to moved.0) ∙ (life_more to ∙ ap life_to (sym moved.1))

pub lives : LawOfLives
lives g h r legal =
    by_entries g (λ h. life r h ≡ life_to ((state g h).status r))
    (λ h e legal can is.
    filter_map-append (λ (e : Entry). status_given r e.event) h (e ∷ [])
    ∙ life_moved (status_given r e.event) ((state g h).status r) ((state g (h ++ e ∷ [])).status r) (life r h) (moved_more g h e r legal can) is)
    refl h legal
