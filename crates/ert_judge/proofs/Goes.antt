-- A judge that stands for a history goes on to stand for it with one more entry.

use Rattle.std.proofs.Common.{◌≡◌, ◌<◌, ◌++◌, ◌∷◌, [], ℕ, refl, sym, ap, ◌∙◌, subst, cond, List, length, Option, Some}
use Rattle.std.specs.Prelude.{ℤ}
use Rattle.ert_defs.specs.{Actors.{is_with, IsMaker, IsUser}, Clocks.Clock, Legal.{Can, Keeps}, States.{State, next, state}, Timers.{rows_after, status_after}, declared.entry.Actor.Actor, declared.entry.Actor.TheVariants.{Wheel, Inbox}}
use Rattle.ert_defs.specs.{declared.entry.Actor.TheVariants.{Sched, MailOf}, declared.entry.Entry.Entry, declared.entry.Event.Event, declared.entry.Event.TheVariants.Look, declared.settings.Settings.Settings}
use Rattle.ert_defs.specs.{declared.timer.TimerRef.TimerRef}
use Rattle.ert_defs.proofs.{Runs.{state-append, legal_more}, Slots.uses_after}
use Rattle.ert_judge.specs.{Parts.{LastLooks, looks_in, look_of, rows_in, status_at, inbox_at, sched_at}, Shown.{shown, ClockIs, ClockFollows, Follows, HasFollowed}, Uses.uses_in, Wheels.{timers_at, IsOwn}, declared.judge.Judge.Judge}
use Rattle.ert_judge.specs.{declared.state.wheels.Timer.Timer}
use Rattle.ert_judge.proofs.{CellLaws.{inboxes_follow, length-inboxes_after, scheds_follow, length-scheds_after, looks_follow, length-callers_after, length-schedulers_after}, Makers.{IsMade, IsPartner, made, looker, not_by_wheel}}
use Rattle.ert_judge.proofs.{Makers.{not_by_inbox, not_by_mail, not_with_sched}, Stands.{same_states, by_other, with_other, clock_stands}}

-- the timers have gone on by an event that is made with an actor
pub record TimersGo (g : Settings) (look : ℤ) (with : Option Actor) (event : Event) (old new : List (List Timer)) : Type 0 where
  pub rows : (w : ℕ) → rows_in new w ≡ cond (is_with with (Wheel w)) (rows_after g look w (rows_in old w) event) (rows_in old w)
  pub uses : (w k : ℕ) → uses_in (timers_at new w) k ≡ uses_after g look (is_with with (Wheel w)) w k (uses_in (timers_at old w) k) event
  pub status : (r : TimerRef) → status_at new r ≡ status_after r (is_with with (Wheel r.wheel)) (status_at old r) event
  pub own : (w : ℕ) → IsOwn w (timers_at new w)
  pub wheels : length new ≡ length old

-- the number that an actor in range names is below its count
inbox_below : (g : Settings) (with : Option Actor) (n w : ℕ) → IsPartner g with → n ≡ g.schedulers → with ≡ Some (Inbox w) → w < n
inbox_below g with n w partner count is =
    subst (λ (x : ℕ). w < x) (sym count) (subst (IsPartner g) is partner)

sched_below : (g : Settings) (by : Actor) (n w : ℕ) → IsMaker g by → n ≡ g.schedulers → by ≡ Sched w → w < n
sched_below g by n w maker count is =
    subst (λ (x : ℕ). w < x) (sym count) (subst (IsMaker g) is maker)

look_by : (g : Settings) (by : Actor) (with : Option Actor) (event : Event) (now : ℤ) → Keeps g by with event → event ≡ Look now → IsUser g by
look_by g by with event now keeps is = looker g by with now (subst (λ (x : Event). Keeps g by with x) is keeps)

-- the state that a judge keeps moves as the model's
goes : (g : Settings) (c : Clock) (old new : Judge) (e : Entry) → Keeps g e.by e.with e.event
    → length (looks_in old.looks).callers ≡ g.callers → length (looks_in old.looks).schedulers ≡ g.schedulers
    → length old.inboxes ≡ g.schedulers → length old.schedulers ≡ g.schedulers
    → TimersGo g (look_of (looks_in old.looks) e.by) e.with e.event old.timers new.timers
    → Follows old e new
    → next g (shown c old) e ≡ shown (next g (shown c old) e).clock new
goes g c old new e keeps callers lookers inboxes schedulers timers follows =
    let m : IsMade g e.by e.with = made g e.by e.with e.event keeps in
    same_states (next g (shown c old) e) (shown (next g (shown c old) e).clock new)
    refl
    (λ a. sym (ap (λ l. look_of l a) follows.looks
    ∙ looks_follow g e.by e.event (looks_in old.looks) (λ now. look_by g e.by e.with e.event now keeps) callers lookers a))
    (λ w. rw (by_other e.by (Wheel w) e.with (not_by_wheel g e.by w m.maker)) (sym (timers.rows w)))
    (λ w k. rw (by_other e.by (Wheel w) e.with (not_by_wheel g e.by w m.maker)) (sym (timers.uses w k)))
    (λ r. rw (by_other e.by (Wheel r.wheel) e.with (not_by_wheel g e.by r.wheel m.maker)) (sym (timers.status r)))
    (λ p. sym (follows.exits p))
    (λ p. rw (by_other e.by (MailOf p) e.with (not_by_mail g e.by p m.maker)) (sym (follows.mailboxes p)))
    (λ w. rw (by_other e.by (Inbox w) e.with (not_by_inbox g e.by w m.maker)) (sym (ap (λ xs. inbox_at xs w) follows.inboxes
    ∙ inboxes_follow e.with e.event old.inboxes
    (λ v. inbox_below g e.with (length old.inboxes) v m.partner inboxes) w)))
    (λ w. rw (with_other e.by (Sched w) e.with (not_with_sched g e.with w m.partner)) (sym (ap (λ xs. sched_at xs w) follows.schedulers
    ∙ scheds_follow (rows_in old.timers) e.by e.event old.schedulers
    (λ v. sched_below g e.by (length old.schedulers) v m.maker schedulers) w)))

-- so a judge stands for the history with one more entry
pub stands_on : (g : Settings) (h : List Entry) (old new : Judge) (e : Entry) → HasFollowed g h old → Can g (state g h) e
    → TimersGo g (look_of (looks_in old.looks) e.by) e.with e.event old.timers new.timers
    → Follows old e new → HasFollowed g (h ++ e ∷ []) new
stands_on g h old new e stands can timers follows =
    let c : Clock = (state g h).clock in
    let P : State → Type 0 = λ s. s ≡ shown s.clock new in
    let to : next g (state g h) e ≡ state g (h ++ e ∷ []) = sym (state-append g h (e ∷ [])) in
    let from : next g (shown c old) e ≡ next g (state g h) e = ap (λ s. next g s e) (sym stands.kept) in
    let kept : P (next g (shown c old) e) = goes g c old new e can.keeps stands.callers stands.lookers stands.inboxes stands.schedulers timers follows in
    let clock : ClockIs g (next g (state g h) e).clock new.clock =
    clock_stands g c e.by e.with e.event old.clock new.clock can.keeps stands.clock
    (subst (λ (x : Settings). ClockFollows x old.clock e.event new.clock) stands.settings follows.clock) in
    record {
      settings = follows.settings ∙ stands.settings;
      legal = legal_more g h e stands.legal can;
      clock = subst (λ (s : State). ClockIs g s.clock new.clock) to clock;
      kept = subst P to (subst P from kept);
      own = timers.own;
      callers = ap (λ (l : LastLooks). length l.callers) follows.looks ∙ length-callers_after e.by e.event (looks_in old.looks) ∙ stands.callers;
      lookers = ap (λ (l : LastLooks). length l.schedulers) follows.looks ∙ length-schedulers_after e.by e.event (looks_in old.looks) ∙ stands.lookers;
      wheels = timers.wheels ∙ stands.wheels;
      inboxes = ap length follows.inboxes ∙ length-inboxes_after e.with e.event old.inboxes ∙ stands.inboxes;
      schedulers = ap length follows.schedulers ∙ length-scheds_after (rows_in old.timers) e.by e.event old.schedulers ∙ stands.schedulers;
    }
