-- A cancel settles no timer but its own.

use Rattle.std.proofs.Common.{◌≡◌, ◌≢◌, ℕ, ℤ, Bool, true, false, cond, List, [], ◌∷◌, ◌++◌, Option, Some, None, Result, Ok, Err, refl, sym, ap, subst, ◌∙◌}
use Rattle.ert_effects.specs.{RequestCalls.{DoesAsked, Answers}, TimerCalls.{Cancels, read_entries, cancel_entries}}
use Rattle.ert_defs.specs.{Entries.{look_entry, peek_entry, cancel_entry, answer_entry}, Actors.{same_actor, has_actor}, Legal.{names_timer, left_of, left_by as left_by_look, LegalFrom}, States.{State, next, run}, Timers.{Row, row_of}}
use Rattle.ert_defs.specs.{declared.entry.Actor.Actor, declared.entry.Actor.TheVariants.{Wheel, Sched}, declared.entry.Entry.Entry, declared.mail.Request.Request, declared.mail.RequestKind.RequestKind}
use Rattle.ert_defs.specs.{declared.mail.RequestKind.TheVariants.{Cancel as ToCancel, Read as ToRead}, declared.memory.NoMemory.NoMemory, declared.settings.Settings.Settings, declared.timer.Status.TheVariants.Armed}
use Rattle.ert_defs.specs.{declared.timer.TimerRef.TimerRef}
use Rattle.ert_defs.proofs.{ExpiredTimers.same_timer-false, Runs.{run-append, legal_first}}
use Rattle.ert_table.proofs.Parts.{of_one}
use Rattle.ert_table.specs.Calls.{AreOnlyOf}
use Rattle.ert_world.specs.Worlds.{left_for, cancelled_by}

-- a timer that a cancel spares: any, where nothing was cancelled, and else any other
abbrev pub Spared : Option ℕ → TimerRef → TimerRef → Type 0
Spared None timer r = Unit {0}
Spared (Some left) timer r = r ≢ timer

-- these entries settle no timer but one, if this much was left of it
abbrev pub Settles : Settings → State → List Entry → TimerRef → Option ℕ → Type 0
Settles g s es timer left = (r : TimerRef) → s.status r ≡ Some Armed → Spared left timer r → (run g s es).status r ≡ Some Armed

-- a cancel that hit
hit_settles : (g : Settings) (s : State) (by : Actor) (timer : TimerRef) (now : ℤ) (found : Option ℕ) (left : ℕ)
    → Settles g s (look_entry by now ∷ (peek_entry by timer found ∷ (cancel_entry by timer (Some left) ∷ []))) timer (Some left)
hit_settles g s by timer now found left r armed apart = rw (same_timer-false timer r (λ same. apart (sym same))) armed

cond_same : {X : Type 0} (b : Bool) (x : X) → cond b x x ≡ x
cond_same true x = refl
cond_same false x = refl

-- a read leaves what is left
pub left_peeked : (g : Settings) (s : State) (by : Actor) (timer : TimerRef) (found : Option ℕ)
    → left_of g (next g s (peek_entry by timer found)) by timer ≡ left_of g s by timer
left_peeked g s by timer found =
    let e : Entry = peek_entry by timer found in
    ap (λ look. left_by_look g look (s.status timer) (row_of ((next g s e).rows timer.wheel) timer)) (cond_same (same_actor by by) (s.looked by))
    ∙ ap (λ (rows : List Row). left_by_look g (s.looked by) (s.status timer) (row_of rows timer)) (cond_same (has_actor e (Wheel timer.wheel)) (s.rows timer.wheel))

-- a cancel that found less than the look before it
missed : (g : Settings) (s : State) (by : Actor) (timer : TimerRef) (now : ℤ) (found : ℕ)
    → LegalFrom g s (look_entry by now ∷ (peek_entry by timer (Some found) ∷ (cancel_entry by timer None ∷ []))) → ⊥
missed g s by timer now found legal =
    let seen : Some found ≡ left_of g (next g s (look_entry by now)) by timer = legal.1.0.found in
    let none : None ≡ left_of g (next g (next g s (look_entry by now)) (peek_entry by timer (Some found))) by timer = legal.1.1.0.found in
    let clash : Some found ≡ None = seen ∙ (sym (left_peeked g (next g s (look_entry by now)) by timer (Some found)) ∙ sym none) in
    cc

cancel_at : (g : Settings) (s : State) (by : Actor) (timer : TimerRef) (now : ℤ) (names : Bool) (found answer : Option ℕ)
    → names_timer g timer ≡ names → (found ≡ None → answer ≡ None)
    → LegalFrom g s (look_entry by now ∷ cancel_entries names by timer found answer) → (names ≡ false → found ≡ None)
    → Settles g s (look_entry by now ∷ cancel_entries names by timer found answer) timer answer
cancel_at g s by timer now false found answer is quiet legal unread =
    subst (λ a. Settles g s (look_entry by now ∷ []) timer a) (sym (quiet (unread refl)))
    (λ r armed apart. armed)
cancel_at g s by timer now true None answer is quiet legal unread =
    subst (λ a. Settles g s (look_entry by now ∷ (peek_entry by timer None ∷ [])) timer a) (sym (quiet refl))
    (λ r armed apart. armed)
cancel_at g s by timer now true (Some found) None is quiet legal unread = absurd (missed g s by timer now found legal)
cancel_at g s by timer now true (Some found) (Some left) is quiet legal unread = hit_settles g s by timer now (Some found) left

pub cancel_settles : (g : Settings) (by : Actor) (timer : TimerRef) (answer : Option ℕ) (s : State) (es : List Entry) → Cancels g by timer answer s es
    → LegalFrom g s es → Settles g s es timer answer
cancel_settles g by timer answer s es cancels legal =
    subst (λ l. Settles g s l timer answer) (sym cancels.entries)
    (cancel_at g s by timer cancels.now (names_timer g timer) cancels.found answer refl cancels.quiet
    (subst (LegalFrom g s) cancels.entries legal) cancels.unread)

read_at : (g : Settings) (s : State) (by : Actor) (timer : TimerRef) (now : ℤ) (names : Bool) (answer : Option ℕ)
    → Settles g s (look_entry by now ∷ read_entries names by timer answer) timer None
read_at g s by timer now false answer r armed apart = armed
read_at g s by timer now true answer r armed apart = armed

asked_settles : (kind : RequestKind) (g : Settings) (w : ℕ) (timer : TimerRef) (left : Option ℕ) (s : State) (es : List Entry)
    → DoesAsked kind g w timer left s es → LegalFrom g s es → Settles g s es timer (left_for kind left)
asked_settles ToCancel g w timer left s es does legal = cancel_settles g (Sched w) timer left s es does legal
asked_settles ToRead g w timer left s es does legal =
    subst (λ l. Settles g s l timer None) (sym does.entries) (read_at g s (Sched w) timer does.now (names_timer g timer) left)

-- the record of an answer settles nothing
pub answer_settles : (g : Settings) (w : ℕ) (request : Request) (answer : Result (Option ℕ) NoMemory) (s : State) (es : List Entry)
    → Answers g w request answer s es → LegalFrom g s es → Settles g s es request.timer (cancelled_by request answer)
answer_settles g w request (Ok left) s es answers legal =
    let last : List Entry = answer_entry w request.reply_to left ∷ [] in
    let steps : Settles g s answers.steps request.timer (left_for request.kind left) =
    asked_settles request.kind g w request.timer left s answers.steps answers.done
    (legal_first g s answers.steps last (subst (LegalFrom g s) answers.entries legal)) in
    let whole : run g s (answers.steps ++ last) ≡ run g (run g s answers.steps) last = run-append g s answers.steps last in
    subst (λ l. Settles g s l request.timer (left_for request.kind left)) (sym answers.entries)
    (λ r armed apart. subst (λ (t : State). t.status r ≡ Some Armed) (sym whole) (steps r armed apart))
answer_settles g w request (Err e) s es answers legal =
    subst (λ l. Settles g s l request.timer None) (sym answers) (λ r armed apart. armed)

-- a cancel is of its actor alone
cancel_only_at : (by : Actor) (timer : TimerRef) (now : ℤ) (names : Bool) (found answer : Option ℕ)
    → AreOnlyOf (by ∷ []) (look_entry by now ∷ cancel_entries names by timer found answer)
cancel_only_at by timer now false found answer = (of_one by [], tt)
cancel_only_at by timer now true None answer = (of_one by [], (of_one by [], tt))
cancel_only_at by timer now true (Some found) answer = (of_one by [], (of_one by [], (of_one by [], tt)))

pub cancel_only : (g : Settings) (by : Actor) (timer : TimerRef) (answer : Option ℕ) (s : State) (es : List Entry) → Cancels g by timer answer s es
    → AreOnlyOf (by ∷ []) es
cancel_only g by timer answer s es cancels =
    subst (AreOnlyOf (by ∷ [])) (sym cancels.entries) (cancel_only_at by timer cancels.now (names_timer g timer) cancels.found answer)
