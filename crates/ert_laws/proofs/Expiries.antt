-- A scheduler hands its timers over in order of expiry, and so puts their messages into mailboxes.

use Rattle.std.proofs.Common.{◌≡◌, ℕ, Bool, true, false, cond, ◌||◌, ◌&&◌, nat_eq, List, [], ◌∷◌, ◌++◌, All, filter, map, get_or, Option, Some, None, refl, sym, ap, subst, ◌∙◌, append-nil, eqb-true}
use Rattle.std.proofs.{Math.Bool.or-false, lemmas.List.Elements.{All-nil, filter-append}}
use Rattle.std.specs.Option.{option_to_list}
use Rattle.ert_defs.specs.{Actors.{has_actor, is_with, same_actor}, Legal.{Can, IsFirst, Legal}, Mails.{SchedState, first_of, others_of, answer_in, changes_of, sched_after, with_row}, States.{State, next, state}, Timers.{Row, row_of}}
use Rattle.ert_defs.specs.{declared.entry.Actor.Actor, declared.entry.Actor.TheVariants.{Sched, MailOf}, declared.entry.Entry.Entry, declared.entry.Event.Event, declared.entry.Event.TheVariants.{Expire, Deliver, Drop, Answer, Tell}}
use Rattle.ert_defs.specs.{declared.mail.Mail.Mail, declared.settings.Settings.Settings, declared.timer.Status.TheVariants.{Expired, Delivered, Dropped}, declared.timer.TimerRef.TimerRef}
use Rattle.ert_defs.proofs.{ExpiredLists.{IsKept, first_has_expired, made, kept_after}, ExpiredTimers.same_timer_self, Runs.carry}
use Rattle.ert_laws.specs.MailOrder.{Sent, sent_by_row, sent_by_none, sent_at, sent_to, expired_in, expired_of, is_delivered, is_handed_over, is_from, is_delivered_to, LawOfExpiryOrder, LawOfOrder}
use Rattle.ert_laws.proofs.{Histories.{by_entries, state-more, gathered-more}, Mailboxes.{mail_has, first_row}, Handing.{HandsOver, none_pass, none_handed, one_handed}}

-- an entry by a scheduler, with another actor or none, has just that scheduler
pub sched_has : (e : Entry) (v w : ℕ) → e.by ≡ Sched v → is_with e.with (Sched w) ≡ false → has_actor e (Sched w) ≡ nat_eq v w
sched_has e v w by with =
    carry (λ a. (same_actor a (Sched w) || is_with e.with (Sched w)) ≡ nat_eq v w) by (rw with (or-false (nat_eq v w)))

-- what no timer sent is of no wheel
none_sent : (w : ℕ) (mails : List Mail) → filter (is_from w) (map sent_by_none mails) ≡ []
none_sent w [] = refl
none_sent w (x ∷ mails) = none_sent w mails

none_if : (w : ℕ) (b : Bool) (new : List Sent) → filter (is_from w) new ≡ [] → filter (is_from w) (cond b new []) ≡ []
none_if w true new none = none
none_if w false new none = refl

-- a scheduler whose list an event leaves
expired_if : (b : Bool) (x y : SchedState) → x.expired ≡ y.expired → (cond b x y).expired ≡ y.expired ++ []
expired_if true x y same = same ∙ sym (append-nil y.expired)
expired_if false x y same = sym (append-nil y.expired)

expired_not : (b : Bool) (x y : SchedState) → b ≡ false → (cond b x y).expired ≡ y.expired ++ []
expired_not b x y is = rw is (sym (append-nil y.expired))

with_row_last : (expired : List Row) (o : Option Row) → with_row expired o ≡ expired ++ option_to_list o
with_row_last expired None = sym (append-nil expired)
with_row_last expired (Some row) = refl

-- a timer that expires waits behind the others
expires_behind : (s : State) (v w : ℕ) (timer : TimerRef) (b : Bool) (x : SchedState) → nat_eq v w ≡ b
    → (cond b (record { hand = x.hand; result = x.result; expired = with_row x.expired (row_of (s.rows v) timer) }) x).expired
    ≡ x.expired ++ cond (nat_eq v w) (option_to_list (row_of (s.rows w) timer)) []
expires_behind s v w timer true x is =
    ap (with_row x.expired) (ap (λ u. row_of (s.rows u) timer) (eqb-true v w is))
    ∙ (with_row_last x.expired (row_of (s.rows w) timer)
    ∙ ap (λ b. x.expired ++ cond b (option_to_list (row_of (s.rows w) timer)) []) (sym is))
expires_behind s v w timer false x is = rw is (sym (append-nil x.expired))

-- what a delivery puts into a mailbox
delivery_sent : (g : Settings) (s : State) (by : Actor) (with : Option Actor) (timer : TimerRef) (p : ℕ) → IsKept s
    → (can : Can g s (made by with (Deliver timer)))
    → sent_at p s (made by with (Deliver timer)) ≡ cond (nat_eq can.known.0.row.dest p) (sent_by_row can.known.0.row ∷ []) []
delivery_sent g s by with timer p kept can =
    let e : Entry = made by with (Deliver timer) in
    let row : Row = can.known.0.row in
    let has : has_actor e (MailOf p) ≡ nat_eq row.dest p =
    mail_has e row.dest p (carry (λ a. same_actor a (MailOf p) ≡ false) can.keeps.0 refl) can.known.1 in
    ap (λ b. cond b (map sent_by_row (option_to_list (row_of (s.rows timer.wheel) timer))) []) has
    ∙ ap (λ o. cond (nat_eq row.dest p) (map sent_by_row (option_to_list o)) []) (first_row s timer kept can.known.0)

-- of a delivered timer the message is put into the mailbox of its destination alone
one_sent : (s : State) (w p : ℕ) (row : Row) (c : Bool) → nat_eq row.timer.wheel w ≡ true → s.status row.timer ≡ Some Delivered
    → nat_eq row.dest p ≡ c
    → filter (is_from w) (cond (nat_eq row.dest p) (sent_by_row row ∷ []) []) ≡ map sent_by_row (filter (is_delivered_to s p) (row ∷ []))
one_sent s w p row true wheel status is = rw (status, is, wheel) refl
one_sent s w p row false wheel status is = rw (status, is) refl

other_sent : (w : ℕ) (row : Row) → nat_eq row.timer.wheel w ≡ false → filter (is_from w) (sent_by_row row ∷ []) ≡ []
other_sent w row wheel = rw wheel refl

-- the timer of the first row is of the scheduler's wheel
first_wheel : (expired : List Row) (timer : TimerRef) (w : ℕ) (b : Bool) → (first : IsFirst expired timer) → nat_eq timer.wheel w ≡ b
    → nat_eq first.row.timer.wheel w ≡ b
first_wheel expired timer w b first is = carry (λ (t : TimerRef). nat_eq t.wheel w ≡ b) first.named is

-- the first of the scheduler of a timer is that of this scheduler
first_here : (s : State) (timer : TimerRef) (w : ℕ) → (first : IsFirst (s.scheds timer.wheel).expired timer) → nat_eq timer.wheel w ≡ true
    → first_of (s.scheds w).expired ≡ Some first.row
first_here s timer w first is = subst (λ v. first_of (s.scheds v).expired ≡ Some first.row) (eqb-true timer.wheel w is) first.first

-- a scheduler that hands its first timer over has the others
others_if : (b : Bool) (x : SchedState) → b ≡ true
    → (cond b (record { hand = x.hand; result = x.result; expired = others_of x.expired }) x).expired ≡ others_of x.expired
others_if b x is = rw is refl

delivered_at : (g : Settings) (s : State) (by : Actor) (with : Option Actor) (timer : TimerRef) (w p : ℕ) → IsKept s
    → (can : Can g s (made by with (Deliver timer))) → (b : Bool) → nat_eq timer.wheel w ≡ b
    → (sent : List Sent) (expired : List Row) → HandsOver s w p sent expired
    → HandsOver (next g s (made by with (Deliver timer))) w p (sent ++ sent_at p s (made by with (Deliver timer))) (expired ++ [])
delivered_at g s by with timer w p kept can true is sent expired h =
    let e : Entry = made by with (Deliver timer) in
    let first = can.known.0 in
    let has : has_actor e (Sched w) ≡ true =
    sched_has e timer.wheel w can.keeps.0 (carry (λ x. is_with x (Sched w) ≡ false) can.known.1 refl) ∙ is in
    let before : s.status timer ≡ Some Expired = first_has_expired s timer.wheel timer (kept.expired timer.wheel) first in
    let now : (next g s e).status first.row.timer ≡ Some Delivered =
    carry (λ t. (next g s e).status t ≡ Some Delivered) first.named (rw (same_timer_self timer, before) refl) in
    one_handed g s e w p sent (sent_at p s e) expired first.row kept can (first_here s timer w first is)
    (others_if (has_actor e (Sched w)) (s.scheds w) has)
    (carry (λ x. is_handed_over x ≡ true) now refl)
    (ap (filter (is_from w)) (delivery_sent g s by with timer p kept can)
    ∙ one_sent (next g s e) w p first.row (nat_eq first.row.dest p) (first_wheel (s.scheds timer.wheel).expired timer w true first is) now refl)
    h
delivered_at g s by with timer w p kept can false is sent expired h =
    let e : Entry = made by with (Deliver timer) in
    let first = can.known.0 in
    let has : has_actor e (Sched w) ≡ false =
    sched_has e timer.wheel w can.keeps.0 (carry (λ x. is_with x (Sched w) ≡ false) can.known.1 refl) ∙ is in
    none_handed g s e w p sent (sent_at p s e) expired [] kept can
    (expired_not (has_actor e (Sched w)) (sched_after s.rows (s.scheds w) (Deliver timer)) (s.scheds w) has)
    (ap (filter (is_from w)) (delivery_sent g s by with timer p kept can)
    ∙ none_if w (nat_eq first.row.dest p) (sent_by_row first.row ∷ [])
    (other_sent w first.row (first_wheel (s.scheds timer.wheel).expired timer w false first is)))
    h

dropped_at : (g : Settings) (s : State) (by : Actor) (with : Option Actor) (timer : TimerRef) (w p : ℕ) → IsKept s
    → (can : Can g s (made by with (Drop timer))) → (b : Bool) → nat_eq timer.wheel w ≡ b
    → (sent : List Sent) (expired : List Row) → HandsOver s w p sent expired
    → HandsOver (next g s (made by with (Drop timer))) w p (sent ++ sent_at p s (made by with (Drop timer))) (expired ++ [])
dropped_at g s by with timer w p kept can true is sent expired h =
    let e : Entry = made by with (Drop timer) in
    let first = can.known.0 in
    let has : has_actor e (Sched w) ≡ true =
    sched_has e timer.wheel w can.keeps.0 (carry (λ x. is_with x (Sched w) ≡ false) can.keeps.1 refl) ∙ is in
    let before : s.status timer ≡ Some Expired = first_has_expired s timer.wheel timer (kept.expired timer.wheel) first in
    let now : (next g s e).status first.row.timer ≡ Some Dropped =
    carry (λ t. (next g s e).status t ≡ Some Dropped) first.named (rw (same_timer_self timer, before) refl) in
    one_handed g s e w p sent (sent_at p s e) expired first.row kept can (first_here s timer w first is)
    (others_if (has_actor e (Sched w)) (s.scheds w) has)
    (carry (λ x. is_handed_over x ≡ true) now refl)
    (none_if w (has_actor e (MailOf p)) [] refl ∙ sym (not_sent (next g s e) p first.row now))
    h
  where
    not_sent : (s : State) (p : ℕ) (row : Row) → s.status row.timer ≡ Some Dropped → map sent_by_row (filter (is_delivered_to s p) (row ∷ [])) ≡ []
    not_sent s p row status = rw status refl
dropped_at g s by with timer w p kept can false is sent expired h =
    let e : Entry = made by with (Drop timer) in
    let has : has_actor e (Sched w) ≡ false =
    sched_has e timer.wheel w can.keeps.0 (carry (λ x. is_with x (Sched w) ≡ false) can.keeps.1 refl) ∙ is in
    none_handed g s e w p sent (sent_at p s e) expired [] kept can
    (expired_not (has_actor e (Sched w)) (sched_after s.rows (s.scheds w) (Drop timer)) (s.scheds w) has)
    (none_if w (has_actor e (MailOf p)) [] refl) h

handing_event : (g : Settings) (s : State) (by : Actor) (with : Option Actor) (event : Event) (w p : ℕ) → IsKept s → Can g s (made by with event)
    → (sent : List Sent) (expired : List Row) → HandsOver s w p sent expired
    → HandsOver (next g s (made by with event)) w p (sent ++ sent_at p s (made by with event)) (expired ++ expired_in w s event)
handing_event g s by with (Expire timer) w p kept can sent expired h =
    let e : Entry = made by with (Expire timer) in
    let has : has_actor e (Sched w) ≡ nat_eq timer.wheel w =
    sched_has e timer.wheel w can.keeps.0 (carry (λ x. is_with x (Sched w) ≡ false) can.keeps.1 refl) in
    none_handed g s e w p sent (sent_at p s e) expired (expired_in w s (Expire timer)) kept can
    (expires_behind s timer.wheel w timer (has_actor e (Sched w)) (s.scheds w) (sym has))
    (none_if w (has_actor e (MailOf p)) [] refl) h
handing_event g s by with (Deliver timer) w p kept can sent expired h =
    delivered_at g s by with timer w p kept can (nat_eq timer.wheel w) refl sent expired h
handing_event g s by with (Drop timer) w p kept can sent expired h =
    dropped_at g s by with timer w p kept can (nat_eq timer.wheel w) refl sent expired h
handing_event g s by with (Answer wheel left) w p kept can sent expired h =
    let e : Entry = made by with (Answer wheel left) in
    none_handed g s e w p sent (sent_at p s e) expired [] kept can
    (expired_if (has_actor e (Sched w)) (sched_after s.rows (s.scheds w) (Answer wheel left)) (s.scheds w) refl)
    (none_if w (has_actor e (MailOf p)) (map sent_by_none (answer_in (s.scheds wheel).hand left)) (none_sent w (answer_in (s.scheds wheel).hand left))) h
handing_event g s by with (Tell process offset) w p kept can sent expired h =
    let e : Entry = made by with (Tell process offset) in
    none_handed g s e w p sent (sent_at p s e) expired [] kept can
    (expired_if (has_actor e (Sched w)) (sched_after s.rows (s.scheds w) (Tell process offset)) (s.scheds w) refl)
    (none_if w (has_actor e (MailOf p)) (map sent_by_none (changes_of offset (s.mails p).monitors)) (none_sent w (changes_of offset (s.mails p).monitors))) h
handing_event g s by with event w p kept can sent expired h =
    let e : Entry = made by with event in
    none_handed g s e w p sent (sent_at p s e) expired [] kept can
    (expired_if (has_actor e (Sched w)) (sched_after s.rows (s.scheds w) event) (s.scheds w) refl)
    (none_if w (has_actor e (MailOf p)) [] refl) h

pub hands_over : (g : Settings) (h : List Entry) (w p : ℕ) → Legal g h → HandsOver (state g h) w p (sent_to g p h) (expired_of g w h)
hands_over g h w p legal =
    by_entries g (λ h. HandsOver (state g h) w p (sent_to g p h) (expired_of g w h))
    (λ h e legal can over.
    let more = handing_event g (state g h) e.by e.with e.event w p (kept_after g h legal) can (sent_to g p h) (expired_of g w h) over in
    carry (λ s. HandsOver s w p (sent_to g p (h ++ e ∷ [])) (expired_of g w (h ++ e ∷ []))) (state-more g h e)
    (carry (λ x. HandsOver (next g (state g h) e) w p x (expired_of g w (h ++ e ∷ []))) (gathered-more g (sent_at p) h e)
    (carry (λ x. HandsOver (next g (state g h) e) w p (sent_to g p h ++ sent_at p (state g h) e) x)
    (gathered-more g (λ s (e : Entry). expired_in w s e.event) h e) more)))
    (record { handed = []; all = refl; over = All-nil (λ row. is_handed_over None ≡ true); order = refl }) h legal

pub in_turn : LawOfExpiryOrder
in_turn g h w legal =
    let over = hands_over g h w 0 legal in
    record { handed = over.handed; all = over.all; over = over.over }

-- none of those that wait is delivered
pub in_order : LawOfOrder
in_order g h w p legal =
    let over = hands_over g h w p legal in
    let waiting : List Row = ((state g h).scheds w).expired in
    let wait : All (λ row. is_delivered_to (state g h) p row ≡ false) waiting = λ k d lt.
    carry (λ x. (is_delivered x && nat_eq (get_or waiting k d).dest p) ≡ false)
    (((kept_after g h legal).expired w).each k d lt).expired refl in
    over.order
    ∙ ap (map sent_by_row)
    (sym (ap (filter (is_delivered_to (state g h) p)) over.all
    ∙ (filter-append (is_delivered_to (state g h) p) over.handed waiting
    ∙ (ap (λ x. filter (is_delivered_to (state g h) p) over.handed ++ x) (none_pass (is_delivered_to (state g h) p) waiting wait)
    ∙ append-nil (filter (is_delivered_to (state g h) p) over.handed)))))
