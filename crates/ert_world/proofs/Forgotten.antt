-- The entries of a cancel, and of an answer to a request, cancel no timer but one.

use Rattle.std.proofs.Common.{ℕ, ℤ, Bool, true, false, List, [], ◌∷◌, ◌++◌, Option, Some, None, Ok, sym, subst}
use Rattle.ert_defs.specs.{Entries.{look_entry, answer_entry}, Legal.names_timer, States.State, declared.entry.Actor.Actor, declared.entry.Actor.TheVariants.Sched, declared.entry.Entry.Entry, declared.mail.Request.Request}
use Rattle.ert_defs.specs.{declared.mail.RequestKind.RequestKind, declared.mail.RequestKind.TheVariants.{Cancel as ToCancel, Read as ToRead}, declared.settings.Settings.Settings, declared.timer.TimerRef.TimerRef}
use Rattle.ert_effects.specs.{RequestCalls.{DoesAsked, Answers}, TimerCalls.{Cancels, cancel_entries, read_entries}}
use Rattle.ert_world.proofs.Sparing.{CancelOnly}
use Rattle.ert_world.specs.Worlds.{left_for}

cancel_at : (by : Actor) (timer : TimerRef) (now : ℤ) (names : Bool) (found answer : Option ℕ)
    → CancelOnly timer answer (look_entry by now ∷ cancel_entries names by timer found answer)
cancel_at by timer now false found answer = (λ t n is. cc, tt)
cancel_at by timer now true None answer = (λ t n is. cc, (λ t n is. cc, tt))
cancel_at by timer now true (Some found) answer = (λ t n is. cc, (λ t n is. cc, (λ t n is. (cc, cc), tt)))

pub cancel_cancels : (g : Settings) (by : Actor) (timer : TimerRef) (answer : Option ℕ) (s : State) (es : List Entry) → Cancels g by timer answer s es
    → CancelOnly timer answer es
cancel_cancels g by timer answer s es cancels =
    subst (CancelOnly timer answer) (sym cancels.entries) (cancel_at by timer cancels.now (names_timer g timer) cancels.found answer)

read_at : (by : Actor) (timer : TimerRef) (now : ℤ) (names : Bool) (answer : Option ℕ)
    → CancelOnly timer None (look_entry by now ∷ read_entries names by timer answer)
read_at by timer now false answer = (λ t n is. cc, tt)
read_at by timer now true answer = (λ t n is. cc, (λ t n is. cc, tt))

asked_cancels : (kind : RequestKind) (g : Settings) (w : ℕ) (timer : TimerRef) (left : Option ℕ) (s : State) (es : List Entry)
    → DoesAsked kind g w timer left s es → CancelOnly timer (left_for kind left) es
asked_cancels ToCancel g w timer left s es does = cancel_cancels g (Sched w) timer left s es does
asked_cancels ToRead g w timer left s es does =
    subst (CancelOnly timer None) (sym does.entries) (read_at (Sched w) timer does.now (names_timer g timer) left)

then_answer : (w process : ℕ) (left : Option ℕ) (timer : TimerRef) (x : Option ℕ) (es : List Entry) → CancelOnly timer x es
    → CancelOnly timer x (es ++ answer_entry w process left ∷ [])
then_answer w process left timer x [] only = (λ t n is. cc, tt)
then_answer w process left timer x (e ∷ es) only = (only.0, then_answer w process left timer x es only.1)

pub answer_cancels : (g : Settings) (w : ℕ) (request : Request) (left : Option ℕ) (s : State) (es : List Entry) → Answers g w request (Ok left) s es
    → CancelOnly request.timer (left_for request.kind left) es
answer_cancels g w request left s es answers =
    subst (CancelOnly request.timer (left_for request.kind left)) (sym answers.entries)
    (then_answer w request.reply_to left request.timer (left_for request.kind left) answers.steps
    (asked_cancels request.kind g w request.timer left s answers.steps answers.done))
