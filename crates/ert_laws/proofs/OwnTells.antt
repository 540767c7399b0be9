-- Each message of a change comes from a Tell of its own.

use Rattle.std.proofs.Common.{◌≡◌, ℕ, ℤ, true, List, [], ◌∷◌, ◌++◌, All, filter, map, get_or, Option, Some, None, refl, sym, ap, subst, ◌∙◌, append_assoc, eqb-true}
use Rattle.std.proofs.lemmas.{Bool.cond_both, Bool.Decides.{Decides-int_eq, Decides-not}, List.Elements.{All-nil, All-append, All-cons, All-filter, All-map, All-weaker, filter_passes}}
use Rattle.std.specs.{Option.option_to_list, Ordering.int_eq}
use Rattle.ert_defs.specs.{Actors.has_actor, Legal.{Can, Legal}, Mails.{answer_by, answer_in, changes_of, is_news, message_by}, States.state, Timers.{Row, row_of}, declared.entry.Actor.Actor, declared.entry.Actor.TheVariants.MailOf}
use Rattle.ert_defs.specs.{declared.entry.Entry.Entry, declared.entry.Event.Event, declared.entry.Event.TheVariants.{Deliver, Answer, Tell}, declared.mail.Mail.Mail, declared.mail.Mail.TheVariants.Change, declared.mail.Monitor.Monitor}
use Rattle.ert_defs.specs.{declared.mail.Request.Request, declared.mail.RequestKind.RequestKind, declared.mail.RequestKind.TheVariants.{Cancel as ToCancel, Read as ToRead}, declared.settings.Settings.Settings, declared.timer.Kind.Kind}
use Rattle.ert_defs.specs.{declared.timer.Kind.TheVariants.{Wrapped, Bare}, declared.timer.TimerRef.TimerRef}
use Rattle.ert_defs.proofs.{ExpiredLists.made, Runs.{carry, legal_more, legal_one_more}}
use Rattle.ert_laws.specs.{Changes.{LastTold, TellsTruly, IsTold, LawOfChanges, LawOfChangesTold}, MailOrder.{Sent, sent_by_row, sent_by_none, sent_in, sent_at, sent_to}}
use Rattle.ert_laws.proofs.{Histories.{by_entries, gathered-more}, Mailboxes.{mail_has, caller_no_mail, mail_in, mailboxes}, Told.monitors_told}

-- a message of a timer is no Change
timer_message : (g : Settings) (h : List Entry) (e : Entry) (p : ℕ) (kind : Kind) (timer : TimerRef) (msg : ℕ)
    → TellsTruly g h e p (message_by kind timer msg)
timer_message g h e p Wrapped timer msg = tt
timer_message g h e p Bare timer msg = tt

-- nor is an answer
answer_message : (g : Settings) (h : List Entry) (e : Entry) (p : ℕ) (kind : RequestKind) (timer : TimerRef) (left : Option ℕ)
    → TellsTruly g h e p (answer_by kind timer left)
answer_message g h e p ToCancel timer left = tt
answer_message g h e p ToRead timer left = tt

-- all of these messages tell what is so
abbrev AllTrue : Settings → List Entry → Entry → ℕ → List Sent → Type 0
AllTrue g h e p sent = All (λ (x : Sent). TellsTruly g h e p x.mail) sent

deliver_true : (g : Settings) (h : List Entry) (e : Entry) (p : ℕ) (row : Option Row) → AllTrue g h e p (map sent_by_row (option_to_list row))
deliver_true g h e p None = All-nil (λ (x : Sent). TellsTruly g h e p x.mail)
deliver_true g h e p (Some row) =
    All-cons (λ (x : Sent). TellsTruly g h e p x.mail) (sent_by_row row) [] (timer_message g h e p row.kind row.timer row.msg)
    (All-nil (λ (x : Sent). TellsTruly g h e p x.mail))

answer_true : (g : Settings) (h : List Entry) (e : Entry) (p : ℕ) (hand : Option Request) (left : Option ℕ)
    → AllTrue g h e p (map sent_by_none (answer_in hand left))
answer_true g h e p None left = All-nil (λ (x : Sent). TellsTruly g h e p x.mail)
answer_true g h e p (Some q) left =
    cond_both q.info (answer_by q.kind q.timer left ∷ []) [] (λ (mails : List Mail). AllTrue g h e p (map sent_by_none mails))
    (λ is. All-cons (λ (x : Sent). TellsTruly g h e p x.mail) (sent_by_none (answer_by q.kind q.timer left)) []
    (answer_message g h e p q.kind q.timer left) (All-nil (λ (x : Sent). TellsTruly g h e p x.mail)))
    (λ not. All-nil (λ (x : Sent). TellsTruly g h e p x.mail))

tell_true : (g : Settings) (h : List Entry) (by : Actor) (with : Option Actor) (p : ℕ) (offset : ℤ)
    → Can g (state g h) (made by with (Tell p offset)) → (monitors : List Monitor)
    → All (λ (m : Monitor). LastTold g h p m.number m.told) monitors
    → AllTrue g h (made by with (Tell p offset)) p (map sent_by_none (changes_of offset monitors))
tell_true g h by with p offset can monitors told =
    let e : Entry = made by with (Tell p offset) in
    let said : Monitor → Mail = λ m. Change m.number offset in
    All-map (λ (x : Sent). TellsTruly g h e p x.mail) sent_by_none (changes_of offset monitors)
    (All-map (TellsTruly g h e p) said (filter (is_news offset) monitors)
    (λ k d lt.
    let m : Monitor = get_or (filter (is_news offset) monitors) k d in
    record {
      tell = refl;
      own = can.found;
      told = m.told;
      last = All-filter (is_news offset) (λ (m : Monitor). LastTold g h p m.number m.told) monitors told k d lt;
      differs = (Decides-not (int_eq m.told offset) (Decides-int_eq m.told offset)).0 (filter_passes (is_news offset) monitors k d lt);
    }))

true_event : (g : Settings) (h : List Entry) (by : Actor) (with : Option Actor) (event : Event) (p : ℕ) → Legal g h
    → Can g (state g h) (made by with event) → has_actor (made by with event) (MailOf p) ≡ true
    → AllTrue g h (made by with event) p (sent_in (state g h) ((state g h).mails p) event)
true_event g h by with (Deliver timer) p legal can has =
    deliver_true g h (made by with (Deliver timer)) p (row_of ((state g h).rows timer.wheel) timer)
true_event g h by with (Answer wheel left) p legal can has =
    answer_true g h (made by with (Answer wheel left)) p ((state g h).scheds wheel).hand left
true_event g h by with (Tell process offset) p legal can has =
    let e : Entry = made by with (Tell process offset) in
    let same : process ≡ p = eqb-true process p (sym (mail_has e process p (caller_no_mail g by p can.keeps.0) can.keeps.1) ∙ has) in
    let P : ℕ → Type 0 = λ q. AllTrue g h (made by with (Tell process offset)) q (map sent_by_none (changes_of offset ((state g h).mails q).monitors)) in
    subst P same (tell_true g h by with process offset can ((state g h).mails process).monitors (monitors_told g h process legal).told)
true_event g h by with event p legal can has = All-nil (λ (x : Sent). TellsTruly g h (made by with event) p x.mail)

pub changes_are_told : LawOfChanges
changes_are_told g h e p legal =
    let parts = (legal_one_more g h e).0 legal in
    cond_both (has_actor e (MailOf p)) (sent_in (state g h) ((state g h).mails p) e.event) [] (AllTrue g h e p)
    (λ has. true_event g h e.by e.with e.event p parts.0 parts.1 has)
    (λ not. All-nil (λ (x : Sent). TellsTruly g h e p x.mail))

-- what comes from a Tell of a history does so of a longer one
told_longer : (g : Settings) (h : List Entry) (e : Entry) (p : ℕ) (mail : Mail) → IsTold g h p mail → IsTold g (h ++ e ∷ []) p mail
told_longer g h e p (Change n offset) has = record {
  before = has.before;
  entry = has.entry;
  behind = has.behind ++ e ∷ [];
  stands = ap (λ x. x ++ e ∷ []) has.stands ∙ append_assoc has.before (has.entry ∷ has.behind) (e ∷ []);
  own = has.own;
}
told_longer g h e p _ has = tt

told_here : (g : Settings) (h : List Entry) (e : Entry) (p : ℕ) (mail : Mail) → TellsTruly g h e p mail → IsTold g (h ++ e ∷ []) p mail
told_here g h e p (Change n offset) own = record { before = h; entry = e; behind = []; stands = refl; own = own }
told_here g h e p _ own = tt

sent_are_told : (g : Settings) (h : List Entry) (p : ℕ) → Legal g h → All (λ (x : Sent). IsTold g h p x.mail) (sent_to g p h)
sent_are_told g h p legal =
    by_entries g (λ h. All (λ (x : Sent). IsTold g h p x.mail) (sent_to g p h))
    (λ h e legal can told.
    let longer : List Entry = h ++ e ∷ [] in
    let P : Sent → Type 0 = λ x. IsTold g longer p x.mail in
    carry (All P) (gathered-more g (sent_at p) h e)
    (All-append P (sent_to g p h) (sent_at p (state g h) e)
    (All-weaker (λ (x : Sent). IsTold g h p x.mail) P (λ x was. told_longer g h e p x.mail was) (sent_to g p h) told)
    (All-weaker (λ (x : Sent). TellsTruly g h e p x.mail) P (λ x own. told_here g h e p x.mail own) (sent_at p (state g h) e)
    (changes_are_told g h e p (legal_more g h e legal can)))))
    (All-nil (λ (x : Sent). IsTold g [] p x.mail)) h legal

pub messages_are_told : LawOfChangesTold
messages_are_told g h p legal =
    subst (All (IsTold g h p)) (mailboxes g h p legal)
    (All-map (IsTold g h p) mail_in (sent_to g p h) (sent_are_told g h p legal))
