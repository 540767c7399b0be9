-- Laws of mailboxes and inboxes. The functions of src/laws.rt carry them as contracts, so that they are proved.

use Rattle.std.specs.Prelude.{◌≡◌, ℕ, Bool, List, [], ◌∷◌, Option, Result}
use Rattle.ert_defs.specs.{Actors.of, States.State, Timers.Row, declared.entry.Actor.Actor, declared.entry.Actor.TheVariants.{Sched, MailOf, Inbox, Caller}, declared.entry.Entry.Entry, declared.mail.Request.Request}
use Rattle.ert_defs.specs.{declared.memory.NoMemory.NoMemory, declared.settings.Settings.Settings}
use Rattle.ert_effects.specs.{MailCalls.{HandsOver, Takes, Monitors, Demonitors, Notifies}, RequestCalls.{Answers, Asks, Picks}, declared.answers.Handed.Handed, declared.answers.MonitorErr.MonitorErr, declared.answers.Taken.Taken}
use Rattle.ert_table.specs.{Calls.AreOnlyOf, Views.Begins}
use Rattle.ert_mail.specs.{Inboxes.{Waiting, InboxStands}, Mailboxes.{Mailbox, MailboxStands}}

-- a mailbox that stands for a history stands for each longer one that has no more entries of the mailbox:
-- where others have made theirs, and where a pass that holds it was joined to another
abbrev pub LawOfStandingMailboxes : Type 0
LawOfStandingMailboxes = (g : Settings) (f h : List Entry) (m : Mailbox) → Begins f h → of h (MailOf m.process) ≡ of f (MailOf m.process)
    → MailboxStands g f m → MailboxStands g h m

-- and so does an inbox
abbrev pub LawOfStandingInboxes : Type 0
LawOfStandingInboxes = (g : Settings) (f h : List Entry) (q : Waiting) → Begins f h → of h (Inbox q.wheel) ≡ of f (Inbox q.wheel)
    → InboxStands g f q → InboxStands g h q

-- these entries are of an actor and of the mailbox of a process alone
abbrev pub AreWithMail : Actor → ℕ → List Entry → Type 0
AreWithMail by process es = AreOnlyOf (by ∷ (MailOf process ∷ [])) es

-- the entries of a take are of its caller and of the mailbox alone
abbrev pub LawOfTakes : Type 0
LawOfTakes = (g : Settings) (by process : ℕ) (answer : Taken) (s : State) (es : List Entry) → Takes g by process answer s es
    → AreWithMail (Caller by) process es

-- so are those of the making of a monitor
abbrev pub LawOfMonitorEntries : Type 0
LawOfMonitorEntries = (g : Settings) (by process : ℕ) (answer : Result ℕ MonitorErr) (s : State) (es : List Entry) → Monitors g by process answer s es
    → AreWithMail (Caller by) process es

-- so are those of the removal of a monitor
abbrev pub LawOfDemonitorEntries : Type 0
LawOfDemonitorEntries = (g : Settings) (by process monitor : ℕ) (answer : Bool) (s : State) (es : List Entry) → Demonitors g by process monitor answer s es
    → AreWithMail (Caller by) process es

-- so are those by which monitors are told the offset
abbrev pub LawOfTells : Type 0
LawOfTells = (g : Settings) (by process : ℕ) (answer : Result ℕ NoMemory) (s : State) (es : List Entry) → Notifies g by process answer s es
    → AreWithMail (Caller by) process es

-- those by which an expired timer is handed over are of the scheduler and the destination's mailbox alone
abbrev pub LawOfHandingOver : Type 0
LawOfHandingOver = (g : Settings) (w : ℕ) (expired : Row) (answer : Result Handed NoMemory) (s : State) (es : List Entry)
    → HandsOver g w expired answer s es → AreWithMail (Sched w) expired.dest es

-- those by which a request is answered are of the scheduler and the asker's mailbox alone
abbrev pub LawOfAnswerEntries : Type 0
LawOfAnswerEntries = (g : Settings) (w : ℕ) (request : Request) (answer : Result (Option ℕ) NoMemory) (s : State) (es : List Entry)
    → Answers g w request answer s es → AreWithMail (Sched w) request.reply_to es

-- the entries of a request that is put are of its caller and of the inbox alone
abbrev pub LawOfAsks : Type 0
LawOfAsks = (g : Settings) (by w : ℕ) (request : Request) (answer : Result (Unit {0}) NoMemory) (s : State) (es : List Entry)
    → Asks g by w request answer s es → AreOnlyOf (Caller by ∷ (Inbox w ∷ [])) es

-- those of a request that is taken are of the scheduler and of its inbox alone
abbrev pub LawOfPickEntries : Type 0
LawOfPickEntries = (g : Settings) (w : ℕ) (got : Option Request) (s : State) (es : List Entry) → Picks g w got s es
    → AreOnlyOf (Sched w ∷ (Inbox w ∷ [])) es
