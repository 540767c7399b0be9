-- The state after a history that grows at its end, and what stays of it while an actor makes no entry.

use Rattle.std.proofs.Common.{◌≡◌, ℕ, Bool, true, false, ◌||◌, List, [], ◌∷◌, ◌++◌, filter, refl, sym, subst, ◌∙◌, ◌↔◌}
use Rattle.ert_defs.specs.{Actors.{same_actor, has_actor, IsFree}, Legal.{Can, LegalFrom, Legal}, States.{State, uses_at, opening, next, run, state, exited_after}, declared.entry.Actor.Actor, declared.entry.Actor.TheVariants.Keeper}
use Rattle.ert_defs.specs.{declared.entry.Actor.TheVariants.{Wheel, Inbox, Sched, MailOf}, declared.entry.Entry.Entry, declared.entry.Event.Event, declared.entry.Event.TheVariants.Mark, declared.settings.Settings.Settings}

-- a fact of one value is a fact of an equal one
pub carry : {X : Type 0} (P : X → Type 0) {x y : X} → y ≡ x → P x → P y
carry P e p = subst P (sym e) p

pub run-append : (g : Settings) (s : State) (f m : List Entry) → run g s (f ++ m) ≡ run g (run g s f) m
run-append g s [] m = refl
run-append g s (e ∷ f) m = run-append g (next g s e) f m

pub state-append : (g : Settings) (f m : List Entry) → state g (f ++ m) ≡ run g (state g f) m
state-append g f m = run-append g (opening g) f m

pub legal-append : (g : Settings) (s : State) (f m : List Entry) → LegalFrom g s f → LegalFrom g (run g s f) m → LegalFrom g s (f ++ m)
legal-append g s [] m h k = k
legal-append g s (e ∷ f) m h k = (h.0, legal-append g (next g s e) f m h.1 k)

-- the first part of entries that are legal
pub legal_first : (g : Settings) (s : State) (f m : List Entry) → LegalFrom g s (f ++ m) → LegalFrom g s f
legal_first g s [] m h = tt
legal_first g s (e ∷ f) m h = (h.0, legal_first g (next g s e) f m h.1)

-- the second part of them
pub legal_then : (g : Settings) (s : State) (f m : List Entry) → LegalFrom g s (f ++ m) → LegalFrom g (run g s f) m
legal_then g s [] m h = h
legal_then g s (e ∷ f) m h = legal_then g (next g s e) f m h.1

-- a history is legal where its beginning is and what follows is, after that
pub legal_parts : (g : Settings) (f m : List Entry) → Legal g (f ++ m) ↔ (Legal g f × LegalFrom g (state g f) m)
legal_parts g f m = (
  λ h. (legal_first g (opening g) f m h, legal_then g (opening g) f m h),
  λ h. legal-append g (opening g) f m h.0 h.1,
)

-- an entry that is legal after a history makes a longer legal one
pub legal_more : (g : Settings) (h : List Entry) (e : Entry) → Legal g h → Can g (state g h) e → Legal g (h ++ e ∷ [])
legal_more g h e legal can = legal-append g (opening g) h (e ∷ []) legal (can, tt)

pub legal_one_more : (g : Settings) (h : List Entry) (e : Entry) → Legal g (h ++ e ∷ []) ↔ (Legal g h × Can g (state g h) e)
legal_one_more g h e = (
  λ legal. (legal_first g (opening g) h (e ∷ []) legal, (legal_then g (opening g) h (e ∷ []) legal).0),
  λ parts. legal_more g h e parts.0 parts.1,
)

-- what holds at the opening, and after each legal entry where it held before, holds after each legal history
pub kept_from : (g : Settings) (P : State → Type 0) → ((s : State) (e : Entry) → P s → Can g s e → P (next g s e))
    → (s : State) (es : List Entry) → P s → LegalFrom g s es → P (run g s es)
kept_from g P step s [] p h = p
kept_from g P step s (e ∷ es) p h = kept_from g P step (next g s e) es (step s e p h.0) h.1

-- of a list of which nothing passes the test, the first doesn't
first_fails : {X : Type 0} (test : X → Bool) (x : X) (xs : List X) (b : Bool) → test x ≡ b → filter test (x ∷ xs) ≡ [] → test x ≡ false
first_fails test x xs true is h =
    let e : x ∷ filter test xs ≡ [] = rw is at h in cc
first_fails test x xs false is h = is

pub free_first : (a : Actor) (e : Entry) (m : List Entry) → IsFree (e ∷ m) a → has_actor e a ≡ false
free_first a e m free = first_fails (λ e. has_actor e a) e m (has_actor e a) refl free

pub free_rest : (a : Actor) (e : Entry) (m : List Entry) → IsFree (e ∷ m) a → IsFree m a
free_rest a e m free = rw (free_first a e m free) at free

-- what only entries with an actor change stays while it makes none
pub own_stays : {X : Type 0} (g : Settings) (a : Actor) (part : State → X)
    → ((s : State) (e : Entry) → has_actor e a ≡ false → part (next g s e) ≡ part s)
    → (s : State) (m : List Entry) → IsFree m a → part (run g s m) ≡ part s
own_stays g a part step s [] free = refl
own_stays g a part step s (e ∷ m) free =
    own_stays g a part step (next g s e) m (free_rest a e m free) ∙ step s e (free_first a e m free)

pub clock_stays : (g : Settings) (s : State) (m : List Entry) → IsFree m Keeper → (run g s m).clock ≡ s.clock
clock_stays g s m = own_stays g Keeper (λ (s : State). s.clock) (λ s e none. rw none refl) s m

pub rows_stay : (g : Settings) (w : ℕ) (s : State) (m : List Entry) → IsFree m (Wheel w) → (run g s m).rows w ≡ s.rows w
rows_stay g w s m = own_stays g (Wheel w) (λ (s : State). s.rows w) (λ s e none. rw none refl) s m

pub last_stays : (g : Settings) (w k : ℕ) (s : State) (m : List Entry) → IsFree m (Wheel w) → (run g s m).last w k ≡ s.last w k
last_stays g w k s m = own_stays g (Wheel w) (λ (s : State). s.last w k) (λ s e none. rw none refl) s m

pub mail_stays : (g : Settings) (p : ℕ) (s : State) (m : List Entry) → IsFree m (MailOf p) → (run g s m).mails p ≡ s.mails p
mail_stays g p s m = own_stays g (MailOf p) (λ (s : State). s.mails p) (λ s e none. rw none refl) s m

pub inbox_stays : (g : Settings) (w : ℕ) (s : State) (m : List Entry) → IsFree m (Inbox w) → (run g s m).inboxes w ≡ s.inboxes w
inbox_stays g w s m = own_stays g (Inbox w) (λ (s : State). s.inboxes w) (λ s e none. rw none refl) s m

pub sched_stays : (g : Settings) (w : ℕ) (s : State) (m : List Entry) → IsFree m (Sched w) → (run g s m).scheds w ≡ s.scheds w
sched_stays g w s m = own_stays g (Sched w) (λ (s : State). s.scheds w) (λ s e none. rw none refl) s m

or_first : (x y : Bool) → (x || y) ≡ false → x ≡ false
or_first true y h = h
or_first false y h = refl

-- a look is made by the looker alone
pub look_stays : (g : Settings) (a : Actor) (s : State) (m : List Entry) → IsFree m a → (run g s m).looked a ≡ s.looked a
look_stays g a s m = own_stays g a (λ (s : State). s.looked a) (λ s e none. rw (or_first (same_actor e.by a) _ none) refl) s m

-- a process that has exited stays so after any event
exit_stays_at : (p : ℕ) (event : Event) → exited_after p true event ≡ true
exit_stays_at p (Mark process exits was) = refl
exit_stays_at p _ = refl

-- an exit is for ever
pub exit_stays : (g : Settings) (p : ℕ) (s : State) (m : List Entry) → s.exited p ≡ true → (run g s m).exited p ≡ true
exit_stays g p s [] h = h
exit_stays g p s (e ∷ m) h =
    exit_stays g p (next g s e) m (rw h (exit_stays_at p e.event))

pub uses_stay : (g : Settings) (w k : ℕ) (s : State) (m : List Entry) → IsFree m (Wheel w) → uses_at (run g s m) w k ≡ uses_at s w k
uses_stay g w k s m = own_stays g (Wheel w) (λ (s : State). uses_at s w k) (λ s e none. rw none refl) s m
