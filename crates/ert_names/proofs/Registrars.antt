-- What the registrar has after a legal history that fits some rows: messages of these rows alone, and few.

use Rattle.std.proofs.Common.{◌≡◌, ℕ, ◌<◌, Bool, true, false, ◌&&◌, nat_eq, List, [], ◌∷◌, ◌++◌, All, Option, Some, None, refl, sym, ap, subst, ◌∙◌, append-nil, eqb-true}
use Rattle.std.proofs.lemmas.{Bool.cond_both, List.Elements.{All-nil, All-cons, All-push, All-append, All-head, All-tail}}
use Rattle.ert_defs.proofs.Standing.{of_row}
use Rattle.ert_defs.specs.{Actors.has_actor, Legal.{Can, Keeps, Known, LegalFrom}, Mails.{MailState, SchedState, first_of, others_of, message_by, message_of, message_in, mail_after, inbox_after, sched_after, with_row}}
use Rattle.ert_defs.specs.{Milliseconds.deadline_of, States.{State, opening, next, run, exited_after}, Timers.{Row, deadline_told, row_from, row_of, rows_after}, declared.entry.Actor.Actor, declared.entry.Actor.TheVariants.{Wheel, Inbox}}
use Rattle.ert_defs.specs.{declared.entry.Actor.TheVariants.{Sched, MailOf}, declared.entry.Entry.Entry, declared.entry.Event.Event, declared.entry.Event.TheVariants.{Arm, Expire, Deliver, Drop, Mark, Ask, Pick, Answer, Take, Tell}}
use Rattle.ert_defs.specs.{declared.mail.Request.Request, declared.settings.Settings.Settings, declared.timer.Kind.Kind, declared.timer.Kind.TheVariants.Wrapped, declared.timer.Start.Start, declared.timer.TimerRef.TimerRef}
use Rattle.ert_names.specs.{Fits.{EventFits, AllFit}, Promised.{IsForName, IsNamed}}

-- what a state has whose history fits so many rows
pub record IsKept (n : ℕ) (s : State) : Type 0 where
  pub lives : s.exited 0 ≡ false
  pub inboxes : (w : ℕ) → s.inboxes w ≡ []
  pub hands : (w : ℕ) → (s.scheds w).hand ≡ None
  pub rows : (w : ℕ) → All (IsForName n) (s.rows w)
  pub expired : (w : ℕ) → All (IsForName n) (s.scheds w).expired
  pub queue : All (IsNamed n) (s.mails 0).queue

others_all : {X : Type 0} (P : X → Type 0) (xs : List X) → All P xs → All P (others_of xs)
others_all P [] h = h
others_all P (x ∷ xs) h = All-tail P x xs h

pub lives_event : (n q : ℕ) (event : Event) (was : Bool) → EventFits n q event → was ≡ false → exited_after q was event ≡ false
lives_event n q (Mark process exits seen) was fits lives = rw lives (at (nat_eq process q) refl)
  where
    at : (b : Bool) → nat_eq process q ≡ b → (b && exits) ≡ false
    at true is = fits (eqb-true process q is)
    at false is = refl
lives_event n q _ was fits lives = lives

inbox_event : (n : ℕ) (event : Event) (qs : List Request) → EventFits n 0 event → qs ≡ [] → inbox_after qs event ≡ []
inbox_event n (Ask wheel request) qs fits none = absurd fits
inbox_event n (Pick wheel got) qs fits none = rw none refl
inbox_event n _ qs fits none = none

hand_event : (g : Settings) (n : ℕ) (s : State) (by : Actor) (with : Option Actor) (event : Event) (x : SchedState) → IsKept n s → Known g s by with event
    → x.hand ≡ None → (sched_after s.rows x event).hand ≡ None
hand_event g n s by with (Pick wheel got) x kept known none = known.1 ∙ ap first_of (kept.inboxes wheel)
hand_event g n s by with (Answer wheel left) x kept known none = refl
hand_event g n s by with _ x kept known none = none

rows_armed : (n : ℕ) (rows : List Row) (timer : TimerRef) (start : Start) (deadline : Option ℕ)
    → (start.dest ≡ 0 → (start.kind ≡ Wrapped) × (start.msg < n)) → All (IsForName n) rows → All (IsForName n) (rows ++ row_from timer start deadline)
rows_armed n rows timer start None fits h = rw append-nil h
rows_armed n rows timer start (Some d) fits h =
    let row : Row = record { timer = timer; deadline = deadline_told timer.generation d; dest = start.dest; msg = start.msg; kind = start.kind } in
    All-push (IsForName n) rows row h fits

wheel_event : (g : Settings) (n : ℕ) (s : State) (by : Actor) (w : ℕ) (event : Event) (rows : List Row) → EventFits n 0 event → All (IsForName n) rows
    → All (IsForName n) (rows_after g (s.looked by) w rows event)
wheel_event g n s by w (Arm timer start) rows fits h =
    cond_both (nat_eq timer.wheel w) (rows ++ row_from timer start (deadline_of g start (s.looked by))) rows (All (IsForName n))
    (λ is. rows_armed n rows timer start (deadline_of g start (s.looked by)) fits h) (λ not. h)
wheel_event g n s by w _ rows fits h = h

with_all : (n : ℕ) (expired rows : List Row) (timer : TimerRef) (o : Option Row) → row_of rows timer ≡ o → All (IsForName n) rows → All (IsForName n) expired
    → All (IsForName n) (with_row expired o)
with_all n expired rows timer None is all h = h
with_all n expired rows timer (Some row) is all h = All-push (IsForName n) expired row h (of_row (IsForName n) rows timer row all is)

expired_event : (n : ℕ) (s : State) (event : Event) (x : SchedState) → IsKept n s → All (IsForName n) x.expired
    → All (IsForName n) (sched_after s.rows x event).expired
expired_event n s (Expire timer) x kept h =
    with_all n x.expired (s.rows timer.wheel) timer (row_of (s.rows timer.wheel) timer) refl (kept.rows timer.wheel) h
expired_event n s (Deliver timer) x kept h = others_all (IsForName n) x.expired h
expired_event n s (Drop timer) x kept h = others_all (IsForName n) x.expired h
expired_event n s _ x kept h = h

-- the message of the first expired timer, where that is for the registrar
message_named : (n : ℕ) (row : Row) → IsForName n row → row.dest ≡ 0 → IsNamed n (message_of row)
message_named n row named dest =
    let is = named dest in
    subst (λ (k : Kind). IsNamed n (message_by k row.timer row.msg)) (sym is.0) is.1

message_all : (n : ℕ) (expired : List Row) (row : Row) → first_of expired ≡ Some row → row.dest ≡ 0 → All (IsForName n) expired
    → All (IsNamed n) (message_in expired)
message_all n [] row first dest all = All-nil (IsNamed n)
message_all n (x ∷ xs) row first dest all =
    let same : x ≡ row = cc in
    let here : x.dest ≡ 0 = ap (λ (r : Row). r.dest) same ∙ dest in
    All-cons (IsNamed n) (message_of x) [] (message_named n x (All-head (IsForName n) x xs all) here) (All-nil (IsNamed n))

-- whose mailbox a message goes to that is delivered
goes_to : (by : Actor) (with : Option Actor) (event : Event) (wheel dest : ℕ) → by ≡ Sched wheel → with ≡ Some (MailOf dest)
    → has_actor (record { by = by; with = with; event = event }) (MailOf 0) ≡ true → dest ≡ 0
goes_to by with event wheel dest sched mail has =
    let in_all : has_actor (record { by = Sched wheel; with = Some (MailOf dest); event = event }) (MailOf 0) ≡ true = rw (sched, mail) at has in
    eqb-true dest 0 in_all

queue_event : (g : Settings) (n : ℕ) (s : State) (by : Actor) (with : Option Actor) (event : Event) (x : MailState) → IsKept n s → Keeps g by with event
    → Known g s by with event → EventFits n 0 event → has_actor (record { by = by; with = with; event = event }) (MailOf 0) ≡ true
    → All (IsNamed n) x.queue → All (IsNamed n) (mail_after s.scheds x event).queue
queue_event g n s by with (Deliver timer) x kept keeps known fits has h =
    All-append (IsNamed n) x.queue (message_in (s.scheds timer.wheel).expired) h
    (message_all n (s.scheds timer.wheel).expired known.0.row known.0.first
    (goes_to by with (Deliver timer) timer.wheel known.0.row.dest keeps.0 known.1 has) (kept.expired timer.wheel))
queue_event g n s by with (Answer wheel left) x kept keeps known fits has h =
    rw (kept.hands wheel, append-nil) h
queue_event g n s by with (Take process got) x kept keeps known fits has h = others_all (IsNamed n) x.queue h
queue_event g n s by with (Tell process offset) x kept keeps known fits has h = absurd fits
queue_event g n s by with _ x kept keeps known fits has h = h

pub kept_next : (g : Settings) (n : ℕ) (s : State) (e : Entry) → IsKept n s → Can g s e → EventFits n 0 e.event → IsKept n (next g s e)
kept_next g n s e kept can fits = record {
  lives = lives_event n 0 e.event (s.exited 0) fits kept.lives;
  inboxes = λ w. cond_both (has_actor e (Inbox w)) (inbox_after (s.inboxes w) e.event) (s.inboxes w) (λ qs. qs ≡ [])
      (λ is. inbox_event n e.event (s.inboxes w) fits (kept.inboxes w)) (λ not. kept.inboxes w);
  hands = λ w. cond_both (has_actor e (Sched w)) (sched_after s.rows (s.scheds w) e.event) (s.scheds w) (λ (x : SchedState). x.hand ≡ None)
      (λ is. hand_event g n s e.by e.with e.event (s.scheds w) kept can.known (kept.hands w)) (λ not. kept.hands w);
  rows = λ w. cond_both (has_actor e (Wheel w)) (rows_after g (s.looked e.by) w (s.rows w) e.event) (s.rows w) (All (IsForName n))
      (λ is. wheel_event g n s e.by w e.event (s.rows w) fits (kept.rows w)) (λ not. kept.rows w);
  expired = λ w. cond_both (has_actor e (Sched w)) (sched_after s.rows (s.scheds w) e.event) (s.scheds w) (λ (x : SchedState). All (IsForName n) x.expired)
      (λ is. expired_event n s e.event (s.scheds w) kept (kept.expired w)) (λ not. kept.expired w);
  queue = cond_both (has_actor e (MailOf 0)) (mail_after s.scheds (s.mails 0) e.event) (s.mails 0) (λ (x : MailState). All (IsNamed n) x.queue)
      (λ is. queue_event g n s e.by e.with e.event (s.mails 0) kept can.keeps can.known fits is kept.queue) (λ not. kept.queue);
}

pub kept_opening : (g : Settings) (n : ℕ) → IsKept n (opening g)
kept_opening g n = record {
  lives = refl;
  inboxes = λ w. refl;
  hands = λ w. refl;
  rows = λ w. All-nil (IsForName n);
  expired = λ w. All-nil (IsForName n);
  queue = All-nil (IsNamed n);
}

pub kept_run : (g : Settings) (n : ℕ) (s : State) (es : List Entry) → IsKept n s → LegalFrom g s es → AllFit n 0 es → IsKept n (run g s es)
kept_run g n s [] kept legal fit = kept
kept_run g n s (e ∷ es) kept legal fit = kept_run g n (next g s e) es (kept_next g n s e kept legal.0 fit.0) legal.1 fit.1
