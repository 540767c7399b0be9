-- Each expired timer waits at the scheduler of its wheel.

use Rattle.std.proofs.Common.{◌≡◌, ◌≢◌, ℕ, Bool, true, false, cond, ◌&&◌, List, [], ◌∷◌, ◌++◌, Option, Some, None, refl, sym, ap, ◌∙◌, ◌⊎◌, inl, inr, subst}
use Rattle.std.proofs.{Math.Bool.or-true, lemmas.List.Folds.{list_any-append, Any-from_list_any}}
use Rattle.std.specs.List.{list_any}
use Rattle.ert_defs.specs.{Actors.{has_actor, is_with}, Legal.{Can, IsFirst, IsNext, IsWithMail, Legal}, Mails.{others_of, first_of, sched_after, with_row}, States.{State, opening, next, state}, Timers.{Row, row_of, same_timer}}
use Rattle.ert_defs.specs.{Timers.{status_after, settled_as, handed_as}, declared.entry.Actor.Actor, declared.entry.Actor.TheVariants.{Wheel, Sched, MailOf}, declared.entry.Entry.Entry, declared.entry.Event.Event}
use Rattle.ert_defs.specs.{declared.entry.Event.TheVariants.{Arm, Cancel, Expire, Orphan, Deliver, Drop}, declared.settings.Settings.Settings, declared.timer.Status.Status, declared.timer.Status.TheVariants.{Armed, Expired, Delivered}}
use Rattle.ert_defs.specs.{declared.timer.Status.TheVariants.{Cancelled, Orphaned, Dropped}, declared.timer.TimerRef.TimerRef}
use Rattle.ert_defs.proofs.{ExpiredLists.{made, has_sched, sched_of}, ExpiredTimers.{row_named, same_timer_self}, Runs.{carry, kept_from}, Slots.same_timer-true}
use Rattle.ert_laws.specs.Lives.{LawOfWaiting}

-- whether a timer stands in a list of rows
abbrev pub waits_in : TimerRef → List Row → Bool
waits_in r rows = list_any (λ row. same_timer row.timer r) rows

-- each expired timer waits at the scheduler of its wheel
abbrev pub AllWait : State → Type 0
AllWait s = (r : TimerRef) → s.status r ≡ Some Expired → waits_in r (s.scheds r.wheel).expired ≡ true

-- whether an event lets a timer expire
abbrev pub expires : Event → TimerRef → Bool
expires (Expire timer) r = same_timer timer r
expires _ r = false

armed_not_expired : (b : Bool) (x : Option Status) → cond b (Some Armed) x ≡ Some Expired → x ≡ Some Expired
armed_not_expired true x h = absurd cc
armed_not_expired false x h = h

settled_not_expired : (to : Status) (b : Bool) (x : Option Status) → to ≢ Expired → cond b (settled_as to x) x ≡ Some Expired → x ≡ Some Expired
settled_not_expired to false x not h = h
settled_not_expired to true None not h = h
settled_not_expired to true (Some Armed) not h = let is : to ≡ Expired = cc in absurd (not is)
settled_not_expired to true (Some _) not h = h

handed_not_expired : (to : Status) (b : Bool) (x : Option Status) → to ≢ Expired → cond b (handed_as to x) x ≡ Some Expired
    → (x ≡ Some Expired) × (b ≡ false)
handed_not_expired to false x not h = (h, refl)
handed_not_expired to true None not h = absurd cc
handed_not_expired to true (Some Expired) not h = let is : to ≡ Expired = cc in absurd (not is)
handed_not_expired to true (Some _) not h = absurd cc

expired_here : (b : Bool) (x y : Option Status) → cond b y x ≡ Some Expired → (x ≡ Some Expired) ⊎ (b ≡ true)
expired_here true x y h = inr refl
expired_here false x y h = inl h

-- what is expired after an event was so before, unless the event let it expire
pub was_expired : (r : TimerRef) (b : Bool) (x : Option Status) (event : Event) → status_after r b x event ≡ Some Expired
    → (x ≡ Some Expired) ⊎ (expires event r ≡ true)
was_expired r b x (Arm timer start) h = inl (armed_not_expired (b && same_timer timer r) x h)
was_expired r b x (Cancel timer left) h = inl (settled_not_expired Cancelled (same_timer timer r) x (λ is. cc) h)
was_expired r b x (Expire timer) h = expired_here (same_timer timer r) x (settled_as Expired x) h
was_expired r b x (Orphan timer) h = inl (settled_not_expired Orphaned (same_timer timer r) x (λ is. cc) h)
was_expired r b x (Deliver timer) h = inl (handed_not_expired Delivered (same_timer timer r) x (λ is. cc) h).0
was_expired r b x (Drop timer) h = inl (handed_not_expired Dropped (same_timer timer r) x (λ is. cc) h).0
was_expired r b x _ h = inl h

pub waits-append : (r : TimerRef) (rows more : List Row) → waits_in r rows ≡ true → waits_in r (rows ++ more) ≡ true
waits-append r rows more h = list_any-append (λ (row : Row). same_timer row.timer r) rows more ∙ rw h refl

waits_with : (r : TimerRef) (expired : List Row) (o : Option Row) → waits_in r expired ≡ true → waits_in r (with_row expired o) ≡ true
waits_with r expired None h = h
waits_with r expired (Some row) h = waits-append r expired (row ∷ []) h

-- a row that stands is found
row_found_at : (b : Bool) (row : Row) (o : Option Row) → ((x : Row) × (o ≡ Some x)) → (x : Row) × (cond b (Some row) o ≡ Some x)
row_found_at true row o found = (row, refl)
row_found_at false row o found = found

row_found : (before : List Row) (row : Row) (behind : List Row) → (x : Row) × (row_of (before ++ (row ∷ behind)) row.timer ≡ Some x)
row_found [] row behind = (row, rw (same_timer_self row.timer) refl)
row_found (r ∷ before) row behind =
    row_found_at (same_timer r.timer row.timer) r (row_of (before ++ (row ∷ behind)) row.timer) (row_found before row behind)

-- a timer that expires has a row
pub next_has_row : (g : Settings) (s : State) (by : Actor) (timer : TimerRef) → IsNext g s by timer → (x : Row) × (row_of (s.rows timer.wheel) timer ≡ Some x)
next_has_row g s by timer known =
    let P : List Row → TimerRef → Type 0 = λ rows t. (x : Row) × (row_of rows t ≡ Some x) in
    carry (λ rows. P rows timer) known.stands
    (subst (P (known.before ++ (known.row ∷ known.behind))) known.named (row_found known.before known.row known.behind))

-- and stands in the list behind the others
expired_waits : (rows expired : List Row) (timer : TimerRef) → ((x : Row) × (row_of rows timer ≡ Some x))
    → waits_in timer (with_row expired (row_of rows timer)) ≡ true
expired_waits rows expired timer found =
    let named : found.0.timer ≡ timer = row_named rows found.0 timer found.1 in
    let own : same_timer found.0.timer timer ≡ true = carry (λ t. same_timer t timer ≡ true) named (same_timer_self timer) in
    rw found.1
    (list_any-append (λ (row : Row). same_timer row.timer timer) expired (found.0 ∷ [])
    ∙ rw own (or-true (waits_in timer expired)))

-- what isn't the first of a list stands behind that
others_wait : (expired : List Row) (row : Row) (r : TimerRef) → first_of expired ≡ Some row → same_timer row.timer r ≡ false
    → waits_in r expired ≡ true → waits_in r (others_of expired) ≡ true
others_wait [] row r first not h = h
others_wait (x ∷ expired) row r first not h =
    let same : x ≡ row = cc in
    let other : same_timer x.timer r ≡ false = carry (λ (y : Row). same_timer y.timer r ≡ false) same not in
    rw other at h

mail_no_sched : (g : Settings) (with : Option Actor) (w : ℕ) → IsWithMail g with → is_with with (Sched w) ≡ false
mail_no_sched g (Some (MailOf p)) w mail = refl
mail_no_sched g _ w mail = absurd mail

-- the list of a scheduler, without the first of it
handed_waits : (s : State) (e : Entry) (timer r : TimerRef) → e.by ≡ Sched timer.wheel → is_with e.with (Sched r.wheel) ≡ false
    → IsFirst (s.scheds timer.wheel).expired timer → same_timer timer r ≡ false → has_actor e (Sched r.wheel) ≡ true
    → waits_in r (s.scheds r.wheel).expired ≡ true → waits_in r (others_of (s.scheds r.wheel).expired) ≡ true
handed_waits s e timer r by with first not has h =
    let same : timer.wheel ≡ r.wheel = sched_of e timer.wheel r.wheel by with has in
    let here : first_of (s.scheds r.wheel).expired ≡ Some first.row = subst (λ v. first_of (s.scheds v).expired ≡ Some first.row) same first.first in
    others_wait (s.scheds r.wheel).expired first.row r here (carry (λ t. same_timer t r ≡ false) first.named not) h

-- what was expired and is so still waits on
waits_on : (g : Settings) (s : State) (by : Actor) (with : Option Actor) (event : Event) (r : TimerRef) (has_wheel : Bool) → Can g s (made by with event)
    → status_after r has_wheel (s.status r) event ≡ Some Expired → waits_in r (s.scheds r.wheel).expired ≡ true
    → (b : Bool) → has_actor (made by with event) (Sched r.wheel) ≡ b
    → waits_in r (cond b (sched_after s.rows (s.scheds r.wheel) event) (s.scheds r.wheel)).expired ≡ true
waits_on g s by with event r has_wheel can now h false is = h
waits_on g s by with (Expire timer) r has_wheel can now h true is =
    waits_with r (s.scheds r.wheel).expired (row_of (s.rows timer.wheel) timer) h
waits_on g s by with (Deliver timer) r has_wheel can now h true is =
    handed_waits s (made by with (Deliver timer)) timer r can.keeps.0 (mail_no_sched g with r.wheel can.keeps.1) can.known.0
    (handed_not_expired Delivered (same_timer timer r) (s.status r) (λ is. cc) now).1 is h
waits_on g s by with (Drop timer) r has_wheel can now h true is =
    handed_waits s (made by with (Drop timer)) timer r can.keeps.0 (rw can.keeps.1 refl) can.known.0
    (handed_not_expired Dropped (same_timer timer r) (s.status r) (λ is. cc) now).1 is h
waits_on g s by with _ r has_wheel can now h true is = h

-- what expires waits from then on
starts_waiting : (g : Settings) (s : State) (by : Actor) (with : Option Actor) (event : Event) (r : TimerRef) → Can g s (made by with event)
    → expires event r ≡ true → (b : Bool) → has_actor (made by with event) (Sched r.wheel) ≡ b
    → waits_in r (cond b (sched_after s.rows (s.scheds r.wheel) event) (s.scheds r.wheel)).expired ≡ true
starts_waiting g s by with (Expire timer) r can expires b is =
    let same : timer ≡ r = same_timer-true timer r expires in
    let has : has_actor (made by with (Expire timer)) (Sched r.wheel) ≡ true =
    has_sched (made by with (Expire timer)) r.wheel (can.keeps.0 ∙ ap (λ (t : TimerRef). Sched t.wheel) same) in
    let here : b ≡ true = sym is ∙ has in
    let waits : waits_in timer (with_row (s.scheds timer.wheel).expired (row_of (s.rows timer.wheel) timer)) ≡ true =
    expired_waits (s.rows timer.wheel) (s.scheds timer.wheel).expired timer (next_has_row g s by timer can.known) in
    rw here
    (subst (λ (t : TimerRef). waits_in t (with_row (s.scheds t.wheel).expired (row_of (s.rows timer.wheel) timer)) ≡ true) same waits)
starts_waiting g s by with _ r can expires b is = absurd cc

waiting_next : (g : Settings) (s : State) (e : Entry) → AllWait s → Can g s e → AllWait (next g s e)
waiting_next g s e wait can r now =
    elim (was_expired r (has_actor e (Wheel r.wheel)) (s.status r) e.event now) [
      | inl was ↦ waits_on g s e.by e.with e.event r (has_actor e (Wheel r.wheel)) can now (wait r was) (has_actor e (Sched r.wheel)) refl
      | inr expires ↦ starts_waiting g s e.by e.with e.event r can expires (has_actor e (Sched r.wheel)) refl
    ]

pub all_wait : (g : Settings) (h : List Entry) → Legal g h → AllWait (state g h)
all_wait g h legal = kept_from g AllWait (waiting_next g) (opening g) h (λ r is. absurd cc) legal

pub expired_timers_wait : LawOfWaiting
expired_timers_wait g h r legal is =
    let rows : List Row = ((state g h).scheds r.wheel).expired in
    let found = Any-from_list_any (λ (row : Row). same_timer row.timer r) rows (all_wait g h legal r is) in
    (found.0, found.1, found.2, found.3, same_timer-true found.1.timer r found.4)
