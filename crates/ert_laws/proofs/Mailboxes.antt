-- What was put into a mailbox is what was taken from it, and then what stands in it.

use Rattle.std.proofs.Common.{◌≡◌, ℕ, Bool, true, false, cond, ◌||◌, nat_eq, List, [], ◌∷◌, ◌++◌, map, Option, Some, refl, sym, ap, subst, ◌∙◌, append-nil, append_assoc, eqb-true}
use Rattle.std.proofs.lemmas.List.{map-append, Elements.filter_map-append}
use Rattle.std.specs.{List.filter_map, Option.option_to_list}
use Rattle.ert_defs.specs.{Actors.{IsCaller, has_actor, is_with, same_actor}, Legal.{Can, IsFirst}, Mails.{first_of, others_of, message_in, message_of, mail_after, answer_in, changes_of}, States.{State, next, state}, Timers.{Row, row_of}}
use Rattle.ert_defs.specs.{declared.entry.Actor.Actor, declared.entry.Actor.TheVariants.{MailOf, Caller}, declared.entry.Entry.Entry, declared.entry.Event.Event, declared.entry.Event.TheVariants.{Deliver, Answer, Take, Tell}}
use Rattle.ert_defs.specs.{declared.mail.Mail.Mail, declared.settings.Settings.Settings, declared.timer.TimerRef.TimerRef}
use Rattle.ert_defs.proofs.{ExpiredLists.{IsKept, first_is_expired, made, kept_after}, Runs.carry}
use Rattle.ert_laws.specs.MailOrder.{Sent, sent_by_row, sent_by_none, sent_in, sent_at, sent_to, taken_in, taken_from, LawOfMailboxes}
use Rattle.ert_laws.proofs.Histories.{by_entries, state-more, gathered-more}

abbrev pub mail_in : Sent → Mail
mail_in x = x.mail

-- an entry with the mailbox of a process, by another actor, has just that mailbox
pub mail_has : (e : Entry) (q p : ℕ) → same_actor e.by (MailOf p) ≡ false → e.with ≡ Some (MailOf q) → has_actor e (MailOf p) ≡ nat_eq q p
mail_has e q p by with = carry (λ x. (same_actor e.by (MailOf p) || is_with x (MailOf p)) ≡ nat_eq q p) with (rw by refl)

pub caller_no_mail : (g : Settings) (a : Actor) (p : ℕ) → IsCaller g a → same_actor a (MailOf p) ≡ false
caller_no_mail g (Caller n) p caller = refl
caller_no_mail g _ p caller = absurd caller

-- the row of the first of a scheduler's expired timers is that of the timer
pub first_row : (s : State) (timer : TimerRef) → IsKept s → (first : IsFirst (s.scheds timer.wheel).expired timer)
    → row_of (s.rows timer.wheel) timer ≡ Some first.row
first_row s timer kept first =
    subst (λ t. row_of (s.rows timer.wheel) t ≡ Some first.row) first.named
    (first_is_expired s timer.wheel timer (kept.expired timer.wheel) first).stands

first_message : (expired : List Row) (row : Row) → first_of expired ≡ Some row → message_in expired ≡ message_of row ∷ []
first_message [] row is = absurd cc
first_message (r ∷ rows) row is = let same : r ≡ row = cc in ap (λ x. message_of x ∷ []) same

mails_of_none : (mails : List Mail) → map mail_in (map sent_by_none mails) ≡ mails
mails_of_none [] = refl
mails_of_none (x ∷ mails) = ap (λ xs. x ∷ xs) (mails_of_none mails)

-- messages are put behind those that stand
grown : (sent new : List Sent) (taken queue more : List Mail) → map mail_in new ≡ more → map mail_in sent ≡ taken ++ queue
    → map mail_in (sent ++ new) ≡ (taken ++ []) ++ (queue ++ more)
grown sent new taken queue more same h =
    map-append mail_in sent new
    ∙ (ap (λ x. x ++ map mail_in new) h
    ∙ (append_assoc taken queue (map mail_in new)
    ∙ (ap (λ x. taken ++ (queue ++ x)) same ∙ ap (λ x. x ++ (queue ++ more)) (sym (append-nil taken)))))

still : (sent : List Sent) (taken queue : List Mail) → map mail_in sent ≡ taken ++ queue
    → map mail_in (sent ++ []) ≡ (taken ++ []) ++ queue
still sent taken queue h =
    ap (map mail_in) (append-nil sent) ∙ (h ∙ ap (λ x. x ++ queue) (sym (append-nil taken)))

-- the first of those that stand is taken
first_taken : (sent : List Sent) (taken queue : List Mail) (got : Option Mail) → got ≡ first_of queue → map mail_in sent ≡ taken ++ queue
    → map mail_in (sent ++ []) ≡ (taken ++ filter_map (λ (x : Option Mail). x) (got ∷ [])) ++ others_of queue
first_taken sent taken [] got is h = rw is (still sent taken [] h)
first_taken sent taken (x ∷ queue) got is h =
    rw is (ap (map mail_in) (append-nil sent) ∙ (h ∙ sym (append_assoc taken (x ∷ []) queue)))

-- a take of a process that is this one takes the first of its messages
take_at : (s : State) (process p : ℕ) (got : Option Mail) (b : Bool) (sent : List Sent) (taken : List Mail) → nat_eq process p ≡ b
    → got ≡ first_of (s.mails process).queue → map mail_in sent ≡ taken ++ (s.mails p).queue
    → map mail_in (sent ++ cond b [] []) ≡ (taken ++ filter_map (λ (e : Event). taken_in p e) (Take process got ∷ []))
    ++ (cond b (mail_after s.scheds (s.mails p) (Take process got)) (s.mails p)).queue
take_at s process p got true sent taken is first h =
    rw is (first_taken sent taken (s.mails p).queue got (subst (λ q. got ≡ first_of (s.mails q).queue) (eqb-true process p is) first) h)
take_at s process p got false sent taken is first h = rw is (still sent taken (s.mails p).queue h)

-- an entry keeps what was put into a mailbox together
mailbox_event : (g : Settings) (s : State) (by : Actor) (with : Option Actor) (event : Event) (p : ℕ) → IsKept s → Can g s (made by with event)
    → (b : Bool) → has_actor (made by with event) (MailOf p) ≡ b → (sent : List Sent) (taken : List Mail)
    → map mail_in sent ≡ taken ++ (s.mails p).queue
    → map mail_in (sent ++ cond b (sent_in s (s.mails p) event) [])
    ≡ (taken ++ filter_map (λ (e : Event). taken_in p e) (event ∷ [])) ++ (cond b (mail_after s.scheds (s.mails p) event) (s.mails p)).queue
mailbox_event g s by with (Take process got) p kept can b is sent taken h =
    let here : nat_eq process p ≡ b =
    sym (mail_has (made by with (Take process got)) process p (caller_no_mail g by p can.keeps.0) can.keeps.1) ∙ is in
    take_at s process p got b sent taken here can.known h
mailbox_event g s by with (Deliver timer) p kept can true is sent taken h =
    grown sent (map sent_by_row (option_to_list (row_of (s.rows timer.wheel) timer))) taken (s.mails p).queue (message_in (s.scheds timer.wheel).expired)
    (rw (first_row s timer kept can.known.0) (sym (first_message (s.scheds timer.wheel).expired can.known.0.row can.known.0.first))) h
mailbox_event g s by with (Answer wheel left) p kept can true is sent taken h =
    grown sent (map sent_by_none (answer_in (s.scheds wheel).hand left)) taken (s.mails p).queue (answer_in (s.scheds wheel).hand left)
    (mails_of_none (answer_in (s.scheds wheel).hand left)) h
mailbox_event g s by with (Tell process offset) p kept can true is sent taken h =
    grown sent (map sent_by_none (changes_of offset (s.mails p).monitors)) taken (s.mails p).queue (changes_of offset (s.mails p).monitors)
    (mails_of_none (changes_of offset (s.mails p).monitors)) h
mailbox_event g s by with event p kept can true is sent taken h = still sent taken (s.mails p).queue h
mailbox_event g s by with event p kept can false is sent taken h = still sent taken (s.mails p).queue h

mailbox_next : (g : Settings) (s : State) (e : Entry) (p : ℕ) → IsKept s → Can g s e → (sent : List Sent) (taken : List Mail)
    → map mail_in sent ≡ taken ++ (s.mails p).queue
    → map mail_in (sent ++ sent_at p s e) ≡ (taken ++ filter_map (λ (e : Entry). taken_in p e.event) (e ∷ [])) ++ ((next g s e).mails p).queue
mailbox_next g s e p kept can = mailbox_event g s e.by e.with e.event p kept can (has_actor e (MailOf p)) refl

pub mailboxes : LawOfMailboxes
mailboxes g h p legal =
    by_entries g (λ h. map mail_in (sent_to g p h) ≡ taken_from p h ++ ((state g h).mails p).queue)
    (λ h e legal can is.
    ap (map mail_in) (gathered-more g (sent_at p) h e)
    ∙ (mailbox_next g (state g h) e p (kept_after g h legal) can (sent_to g p h) (taken_from p h) is
    ∙ (ap (λ x. x ++ ((next g (state g h) e).mails p).queue) (sym (filter_map-append (λ (e : Entry). taken_in p e.event) h (e ∷ [])))
    ∙ ap (λ (s : State). taken_from p (h ++ e ∷ []) ++ (s.mails p).queue) (sym (state-more g h e)))))
    refl h legal
