-- Mailboxes and inboxes stand on without entries of their own, and each call makes entries of its actors alone.

use Rattle.std.proofs.Common.{◌≡◌, ℕ, false, List, [], ◌∷◌, ◌++◌, length, filter, Option, Ok, Err, inl, inr, refl, sym, ap, subst, ◌∙◌, append-nil}
use Rattle.std.proofs.lemmas.List.Elements.{filter-append}
use Rattle.ert_defs.specs.{Actors.IsFree, States.{State, state}, declared.entry.Actor.Actor, declared.entry.Actor.TheVariants.{Sched, MailOf, Inbox, Caller}, declared.entry.Entry.Entry, declared.settings.Settings.Settings}
use Rattle.ert_defs.specs.{declared.timer.TimerRef.TimerRef}
use Rattle.ert_defs.proofs.Runs.{state-append, inbox_stays, mail_stays, free_first, free_rest}
use Rattle.ert_effects.specs.declared.answers.{Handed.TheVariants.{Put, Dropped}, MonitorErr.TheVariants.{Full, NoMemory}, Taken.TheVariants.{Mail, Empty, Exited}}
use Rattle.ert_table.specs.Calls.{AreOnlyOf}
use Rattle.ert_table.proofs.Parts.{free_later, of_one, of_both}
use Rattle.ert_mail.specs.Laws.{AreWithMail, LawOfStandingMailboxes, LawOfStandingInboxes, LawOfTakes, LawOfMonitorEntries, LawOfDemonitorEntries, LawOfTells, LawOfHandingOver, LawOfAnswerEntries, LawOfAsks, LawOfPickEntries}
use Rattle.ert_laws.specs.Counts.{delivers_to, deliveries}
use Rattle.ert_mail.proofs.{AnswerSteps.{AreAsked, asked}, Standing.undelivered}

none_delivered : (p : ℕ) (m : List Entry) → IsFree m (MailOf p) → filter (delivers_to p) m ≡ []
none_delivered p [] free = refl
none_delivered p (e ∷ m) free =
    let none : delivers_to p e ≡ false = undelivered p e (free_first (MailOf p) e m free) in
    rw none (none_delivered p m (free_rest (MailOf p) e m free))

pub mail_on : LawOfStandingMailboxes
mail_on g f h m longer same stands =
    let p = m.process in
    let free : IsFree longer.later (MailOf p) = free_later (MailOf p) f h longer same in
    let mails : (state g h).mails p ≡ (state g f).mails p =
    ap (λ h. (state g h).mails p) longer.grown
    ∙ (ap (λ (s : State). s.mails p) (state-append g f longer.later) ∙ mail_stays g p (state g f) longer.later free) in
    let count : deliveries p h ≡ deliveries p f =
    ap (deliveries p) longer.grown
    ∙ ap length (filter-append (delivers_to p) f longer.later
    ∙ (ap (λ l. filter (delivers_to p) f ++ l) (none_delivered p longer.later free) ∙ append-nil (filter (delivers_to p) f))) in
    record { in_range = stands.in_range; held = stands.held ∙ sym mails; delivered = stands.delivered ∙ sym count }

pub inbox_on : LawOfStandingInboxes
inbox_on g f h q longer same stands =
    let w = q.wheel in
    let requests : (state g h).inboxes w ≡ (state g f).inboxes w =
    ap (λ h. (state g h).inboxes w) longer.grown
    ∙ (ap (λ (s : State). s.inboxes w) (state-append g f longer.later)
    ∙ inbox_stays g w (state g f) longer.later (free_later (Inbox w) f h longer same)) in
    record { in_range = stands.in_range; requests = stands.requests ∙ sym requests }

-- entries that are these
same_only : (by : Actor) (p : ℕ) (es fs : List Entry) → es ≡ fs → AreWithMail by p fs → AreWithMail by p es
same_only by p es fs same only = subst (AreWithMail by p) (sym same) only

pub takes_only : LawOfTakes
takes_only g by p Exited s es takes = same_only (Caller by) p es _ takes (of_one (Caller by) (MailOf p ∷ []), tt)
takes_only g by p Empty s es takes = same_only (Caller by) p es _ takes (of_one (Caller by) (MailOf p ∷ []), (of_both (Caller by) (MailOf p), tt))
takes_only g by p (Mail mail) s es takes = same_only (Caller by) p es _ takes (of_one (Caller by) (MailOf p ∷ []), (of_both (Caller by) (MailOf p), tt))

pub monitors_only : LawOfMonitorEntries
monitors_only g by p (Ok number) s es monitors = same_only (Caller by) p es _ monitors.entries (of_both (Caller by) (MailOf p), tt)
monitors_only g by p (Err Full) s es monitors = same_only (Caller by) p es _ monitors.entries (of_one (Caller by) (MailOf p ∷ []), tt)
monitors_only g by p (Err NoMemory) s es monitors = same_only (Caller by) p es _ monitors tt

pub demonitors_only : LawOfDemonitorEntries
demonitors_only g by p monitor answer s es demonitors = same_only (Caller by) p es _ demonitors (of_both (Caller by) (MailOf p), tt)

pub notifies_only : LawOfTells
notifies_only g by p (Ok put) s es tells = same_only (Caller by) p es _ tells.entries (of_both (Caller by) (MailOf p), tt)
notifies_only g by p (Err e) s es tells = same_only (Caller by) p es _ tells tt

pub handing_only : LawOfHandingOver
handing_only g w expired (Ok Put) s es hands =
    same_only (Sched w) expired.dest es _ hands (of_one (Sched w) (MailOf expired.dest ∷ []), (of_both (Sched w) (MailOf expired.dest), tt))
handing_only g w expired (Ok Dropped) s es hands =
    same_only (Sched w) expired.dest es _ hands (of_one (Sched w) (MailOf expired.dest ∷ []), (of_one (Sched w) (MailOf expired.dest ∷ []), tt))
handing_only g w expired (Err e) s es hands = same_only (Sched w) expired.dest es _ hands tt

only-append : (actors : List Actor) (es fs : List Entry) → AreOnlyOf actors es → AreOnlyOf actors fs → AreOnlyOf actors (es ++ fs)
only-append actors [] fs one other = other
only-append actors (e ∷ es) fs one other = (one.0, only-append actors es fs one.1 other)

asked_only : (g : Settings) (n p : ℕ) (timer : TimerRef) (left : Option ℕ) (es : List Entry) → AreAsked g n timer left es → AreWithMail (Sched n) p es
asked_only g n p timer left es (inl are) = same_only (Sched n) p es _ are.3 (of_one (Sched n) (MailOf p ∷ []), tt)
asked_only g n p timer left es (inr (inl are)) =
    let mine = of_one (Sched n) (MailOf p ∷ []) in
    same_only (Sched n) p es _ are.2 (mine, (mine, tt))
asked_only g n p timer left es (inr (inr are)) =
    let mine = of_one (Sched n) (MailOf p ∷ []) in
    same_only (Sched n) p es _ are.3 (mine, (mine, (mine, tt)))

pub answers_only : LawOfAnswerEntries
answers_only g w q (Ok left) s es answers =
    same_only (Sched w) q.reply_to es _ answers.entries
    (only-append (Sched w ∷ (MailOf q.reply_to ∷ [])) answers.steps _
    (asked_only g w q.reply_to q.timer left answers.steps (asked g w q.kind q.timer left s answers.steps answers.done))
    (of_both (Sched w) (MailOf q.reply_to), tt))
answers_only g w q (Err e) s es answers = same_only (Sched w) q.reply_to es _ answers tt

pub asks_only : LawOfAsks
asks_only g by w request (Ok done) s es asks =
    subst (AreOnlyOf (Caller by ∷ (Inbox w ∷ []))) (sym asks) (of_both (Caller by) (Inbox w), tt)
asks_only g by w request (Err e) s es asks = subst (AreOnlyOf (Caller by ∷ (Inbox w ∷ []))) (sym asks) tt

pub picks_only : LawOfPickEntries
picks_only g w got s es picks = subst (AreOnlyOf (Sched w ∷ (Inbox w ∷ []))) (sym picks) (of_both (Sched w) (Inbox w), tt)
