-- As many timers wait at a scheduler as are expired on its wheel.

use Rattle.std.proofs.Common.{◌≡◌, ℕ, ◌+◌, Bool, true, false, cond, nat_eq, List, [], ◌∷◌, ◌++◌, length, Option, Some, None, refl, sym, ap, subst, ◌∙◌, arith, eqb-true}
use Rattle.std.proofs.{Math.Bool.or-false, lemmas.List.length-append}
use Rattle.ert_defs.proofs.{ExpiredLists.made, Runs.carry, Standing.all_stand}
use Rattle.ert_defs.specs.{Actors.{has_actor, is_with}, Legal.{Can, IsFirst, IsWithMail, Legal}, Mails.{SchedState, first_of, others_of, sched_after, with_row}, States.{State, next, state}, Timers.{Row, Stands, row_of}}
use Rattle.ert_defs.specs.{declared.entry.Actor.Actor, declared.entry.Actor.TheVariants.{Sched, MailOf}, declared.entry.Entry.Entry, declared.entry.Event.Event, declared.entry.Event.TheVariants.{Cancel, Expire, Deliver, Drop}}
use Rattle.ert_defs.specs.{declared.settings.Settings.Settings, declared.timer.Status.TheVariants.{Armed, Expired}, declared.timer.TimerRef.TimerRef}
use Rattle.ert_laws.proofs.{Counted.one_if, CountSteps.{come, gone, counted, count_step}, Histories.{by_entries, state-more}}
use Rattle.ert_laws.specs.Counts.{has_status, LawOfWaits}

-- an event by one scheduler, with no other, has that alone
has_sched_alone : (by : Actor) (with : Option Actor) (event : Event) (v w : ℕ) → by ≡ Sched v → is_with with (Sched w) ≡ false
    → has_actor (made by with event) (Sched w) ≡ nat_eq v w
has_sched_alone by with event v w is not = rw (is, not) (or-false (nat_eq v w))

mail_no_sched : (g : Settings) (with : Option Actor) (w : ℕ) → IsWithMail g with → is_with with (Sched w) ≡ false
mail_no_sched g (Some (MailOf p)) w mail = refl
mail_no_sched g _ w mail = absurd mail

-- a timer that expires waits behind the others
one_more : (b : Bool) (s : SchedState) (row : Row) (o : Option Row) → o ≡ Some row
    → length (cond b (record { hand = s.hand; result = s.result; expired = with_row s.expired o }) s).expired + 0 ≡ length s.expired + one_if b
one_more true s row o is = rw is (omega (arith, length-append s.expired (row ∷ [])))
one_more false s row o is = omega arith

-- the first waits no more once it is handed over
others_length : (rows : List Row) (row : Row) → first_of rows ≡ Some row → length (others_of rows) + 1 ≡ length rows
others_length [] row first = absurd cc
others_length (r ∷ rows) row first = omega arith

one_less : (b : Bool) (s : SchedState) (row : Row) → (b ≡ true → first_of s.expired ≡ Some row)
    → length (cond b (record { hand = s.hand; result = s.result; expired = others_of s.expired }) s).expired + one_if b ≡ length s.expired + 0
one_less true s row first = omega (arith, others_length s.expired row (first refl))
one_less false s row first = omega arith

-- how many wait at a scheduler after an event
abbrev waits_after : State → ℕ → Event → Bool → ℕ
waits_after s w event has = length (cond has (sched_after s.rows (s.scheds w) event) (s.scheds w)).expired

-- it grows and shrinks with the number of those that are expired
abbrev Follows : State → ℕ → Event → Bool → Type 0
Follows s w event has =
    waits_after s w event has + gone (has_status Expired) w event ≡ length (s.scheds w).expired + come (has_status Expired) w event

expire_follows : (g : Settings) (h : List Entry) (by : Actor) (with : Option Actor) (timer : TimerRef) (w : ℕ) → Legal g h
    → Can g (state g h) (made by with (Expire timer)) → Follows (state g h) w (Expire timer) (has_actor (made by with (Expire timer)) (Sched w))
expire_follows g h by with timer w legal can =
    let s : State = state g h in
    let stands : Stands (s.rows timer.wheel) timer =
    all_stand g h legal timer (λ none. let no : Some Armed ≡ None = sym can.found ∙ none in cc) in
    carry (Follows s w (Expire timer)) (has_sched_alone by with (Expire timer) timer.wheel w can.keeps.0 (rw can.keeps.1 refl))
    (one_more (nat_eq timer.wheel w) (s.scheds w) stands.row (row_of (s.rows timer.wheel) timer) stands.is)

first_here : (s : State) (timer : TimerRef) (w : ℕ) (first : IsFirst (s.scheds timer.wheel).expired timer) → nat_eq timer.wheel w ≡ true
    → first_of (s.scheds w).expired ≡ Some first.row
first_here s timer w first own = subst (λ v. first_of (s.scheds v).expired ≡ Some first.row) (eqb-true timer.wheel w own) first.first

deliver_follows : (g : Settings) (s : State) (by : Actor) (with : Option Actor) (timer : TimerRef) (w : ℕ)
    → Can g s (made by with (Deliver timer)) → Follows s w (Deliver timer) (has_actor (made by with (Deliver timer)) (Sched w))
deliver_follows g s by with timer w can =
    carry (Follows s w (Deliver timer)) (has_sched_alone by with (Deliver timer) timer.wheel w can.keeps.0 (mail_no_sched g with w can.keeps.1))
    (one_less (nat_eq timer.wheel w) (s.scheds w) can.known.0.row (first_here s timer w can.known.0))

drop_follows : (g : Settings) (s : State) (by : Actor) (with : Option Actor) (timer : TimerRef) (w : ℕ)
    → Can g s (made by with (Drop timer)) → Follows s w (Drop timer) (has_actor (made by with (Drop timer)) (Sched w))
drop_follows g s by with timer w can =
    carry (Follows s w (Drop timer)) (has_sched_alone by with (Drop timer) timer.wheel w can.keeps.0 (rw can.keeps.1 refl))
    (one_less (nat_eq timer.wheel w) (s.scheds w) can.known.0.row (first_here s timer w can.known.0))

-- no other event moves an expired timer
quiet_follows : (s : State) (w : ℕ) (has : Bool) (after : SchedState) → after.expired ≡ (s.scheds w).expired
    → length (cond has after (s.scheds w)).expired + 0 ≡ length (s.scheds w).expired + 0
quiet_follows s w true after same = omega (arith, ap length same)
quiet_follows s w false after same = refl

event_follows : (g : Settings) (h : List Entry) (by : Actor) (with : Option Actor) (event : Event) (w : ℕ) → Legal g h
    → Can g (state g h) (made by with event) → Follows (state g h) w event (has_actor (made by with event) (Sched w))
event_follows g h by with (Expire timer) w legal can = expire_follows g h by with timer w legal can
event_follows g h by with (Deliver timer) w legal can = deliver_follows g (state g h) by with timer w can
event_follows g h by with (Drop timer) w legal can = drop_follows g (state g h) by with timer w can
event_follows g h by with (Cancel timer (Some left)) w legal can =
    quiet_follows (state g h) w (has_actor (made by with (Cancel timer (Some left))) (Sched w))
    (sched_after (state g h).rows ((state g h).scheds w) (Cancel timer (Some left))) refl
event_follows g h by with event w legal can =
    quiet_follows (state g h) w (has_actor (made by with event) (Sched w)) (sched_after (state g h).rows ((state g h).scheds w) event) refl

pub expired_wait : LawOfWaits
expired_wait g h w legal = by_entries g (λ h. length ((state g h).scheds w).expired ≡ counted (has_status Expired) w (state g h)) more refl h legal
  where
    more : (h : List Entry) (e : Entry) → Legal g h → Can g (state g h) e
        → length ((state g h).scheds w).expired ≡ counted (has_status Expired) w (state g h)
        → length ((state g (h ++ e ∷ [])).scheds w).expired ≡ counted (has_status Expired) w (state g (h ++ e ∷ []))
    more h e legal can is =
        let step = count_step g h e.by e.with e.event w (has_status Expired) legal can in
        let follows : Follows (state g h) w e.event (has_actor e (Sched w)) = event_follows g h e.by e.with e.event w legal can in
        carry (λ (s : State). length (s.scheds w).expired ≡ counted (has_status Expired) w s) (state-more g h e)
        (let same : waits_after (state g h) w e.event (has_actor e (Sched w)) ≡ counted (has_status Expired) w (next g (state g h) e) = omega arith in same)
