-- What a pass knows of a part of the state that others don't change: it is that of the front at the pass's
-- next step, and after a call it is what the call's own entries make of it.

use Rattle.std.proofs.Common.{◌≡◌, ℕ, Bool, true, false, cond, ◌||◌, List, [], ◌∷◌, ◌++◌, length, filter, drop, option_to_list, Option, Some, None, refl, sym, ap, subst, ◌∙◌, append-nil, arith}
use Rattle.std.proofs.lemmas.List.{append_cancel_left, Elements.filter-append}
use Rattle.ert_defs.specs.{Actors.{same_actor, is_with, has_actor, of, IsFree}, Mails.{first_of, others_of}, States.{State, next, run, state}, declared.entry.Actor.Actor, declared.entry.Actor.TheVariants.{Sched, MailOf}}
use Rattle.ert_defs.specs.{declared.entry.Entry.Entry, declared.settings.Settings.Settings, Entries.is_ours}
use Rattle.ert_defs.proofs.Runs.{state-append, own_stays}
use Rattle.ert_table.specs.{Calls.AreOnlyOf, Held.{is_held, IsOurs}, Takes.{Appends, TakesPlace}, Views.Begins, declared.view.View.View}
use Rattle.ert_table.proofs.{Calls.{step_takes_place, takes_place_then}, Holders.{or_false, or_left, or_right, same_actor-true, same_actor_self}}

-- an entry that isn't of these actors has none of them
pub not_of : (actors : List Actor) (e : Entry) (a : Actor) → is_ours actors e ≡ false → is_held actors a ≡ true → has_actor e a ≡ false
not_of [] e a not held = absurd cc
not_of (b ∷ actors) e a not held = at (same_actor b a) refl (not_of actors e a) (or_false (has_actor e b) (is_ours actors e) not)
  where
    at : (t : Bool) → same_actor b a ≡ t → (is_ours actors e ≡ false → is_held actors a ≡ true → has_actor e a ≡ false)
        → ((has_actor e b ≡ false) × (is_ours actors e ≡ false)) → has_actor e a ≡ false
    at true is more parts = subst (λ c. has_actor e c ≡ false) (same_actor-true b a is) parts.0
    at false is more parts = more parts.1 (rw is at held)

-- an entry without an actor of these leaves this part of the state
abbrev pub IsOwnBy : {X : Type 0} → Settings → List Actor → (State → X) → Type 0
IsOwnBy g actors part = (s : State) (e : Entry) → is_ours actors e ≡ false → part (next g s e) ≡ part s

pub mail_own : (g : Settings) (actors : List Actor) (p : ℕ) → is_held actors (MailOf p) ≡ true → IsOwnBy g actors (λ (s : State). s.mails p)
mail_own g actors p held s e not = rw (not_of actors e (MailOf p) not held) refl

pub sched_own : (g : Settings) (actors : List Actor) (w : ℕ) → is_held actors (Sched w) ≡ true → IsOwnBy g actors (λ (s : State). s.scheds w)
sched_own g actors w held s e not = rw (not_of actors e (Sched w) not held) refl

-- what these entries make of the part depends on the part alone
abbrev pub AreByThemselves : {X : Type 0} → Settings → (State → X) → List Entry → Type 0
AreByThemselves g part [] = Unit {0}
AreByThemselves g part (e ∷ es) = ((s t : State) → part s ≡ part t → part (next g s e) ≡ part (next g t e)) × AreByThemselves g part es

own_run : {X : Type 0} (g : Settings) (actors : List Actor) (part : State → X) → IsOwnBy g actors part → (s t : State) (m : List Entry)
    → part s ≡ part t → AreByThemselves g part (filter (is_ours actors) m) → part (run g s m) ≡ part (run g t (filter (is_ours actors) m))
own_run g actors part own s t [] same by = same
own_run g actors part own s t (e ∷ m) same by = at (is_ours actors e) refl (λ s t. own_run g actors part own s t m)
  where
    at : (b : Bool) → is_ours actors e ≡ b
        → ((s t : State) → part s ≡ part t → AreByThemselves g part (filter (is_ours actors) m)
        → part (run g s m) ≡ part (run g t (filter (is_ours actors) m)))
        → part (run g (next g s e) m) ≡ part (run g t (filter (is_ours actors) (e ∷ m)))
    at true is more =
        let mine : filter (is_ours actors) (e ∷ m) ≡ e ∷ filter (is_ours actors) m = rw is refl in
        let each = subst (AreByThemselves g part) mine by in
        rw mine (more (next g s e) (next g t e) (each.0 s t same) each.1)
    at false is more =
        let theirs : filter (is_ours actors) (e ∷ m) ≡ filter (is_ours actors) m = rw is refl in
        rw theirs (more (next g s e) t (own s e is ∙ same) (subst (AreByThemselves g part) theirs by))

-- after a call the part is what the call's entries make of it
pub own_after : {X : Type 0} (g : Settings) (v : View) (es : List Entry) (w : View) (part : State → X) → IsOwnBy g v.actors part
    → TakesPlace g v es w → AreByThemselves g part es → part (state g w.front) ≡ part (run g (state g v.front) es)
own_after g v es w part own call by =
    let after = own_run g v.actors part own (state g v.front) (state g v.front) call.later refl (subst (AreByThemselves g part) (sym call.ours) by) in
    ap (λ h. part (state g h)) call.grown
    ∙ (ap part (state-append g v.front call.later)
    ∙ (after ∙ ap (λ l. part (run g (state g v.front) l)) call.ours))

-- at a step of a pass the part is that of the front
pub part_before : {X : Type 0} (g : Settings) (v : View) (e : Entry) (w : View) (a : Actor) (part : State → X)
    → ((s : State) (e : Entry) → has_actor e a ≡ false → part (next g s e) ≡ part s) → is_held v.actors a ≡ true
    → (step : Appends g v e w) → part (state g (v.front ++ step.between)) ≡ part (state g v.front)
part_before g v e w a part own held step =
    ap part (state-append g v.front step.between) ∙ own_stays g a part own (state g v.front) step.between (step.others a held)

-- the state after a step is that at the step, with the entry
pub stepped : (g : Settings) (v : View) (e : Entry) (w : View) (step : Appends g v e w)
    → state g w.front ≡ next g (state g (v.front ++ step.between)) e
stepped g v e w step = ap (state g) step.grown ∙ state-append g (v.front ++ step.between) (e ∷ [])

own_entries : (test : Entry → Bool) (actors : List Actor) (m : List Entry) → ((e : Entry) → is_ours actors e ≡ false → test e ≡ false)
    → filter test m ≡ filter test (filter (is_ours actors) m)
own_entries test actors [] own = refl
own_entries test actors (e ∷ m) own = at (is_ours actors e) refl (own_entries test actors m own)
  where
    at : (b : Bool) → is_ours actors e ≡ b → filter test m ≡ filter test (filter (is_ours actors) m)
        → filter test (e ∷ m) ≡ filter test (filter (is_ours actors) (e ∷ m))
    at true is more = rw is (ap (λ l. cond (test e) (e ∷ l) l) more)
    at false is more =
        let none : test e ≡ false = own e is in
        rw is (rw none more)

-- of entries that have one of its actors, a pass knows after a call those before and those of the call
pub entries_after : (g : Settings) (v : View) (es : List Entry) (w : View) (test : Entry → Bool)
    → ((e : Entry) → is_ours v.actors e ≡ false → test e ≡ false) → TakesPlace g v es w
    → filter test w.front ≡ filter test v.front ++ filter test es
entries_after g v es w test own call =
    ap (filter test) call.grown
    ∙ (filter-append test v.front call.later
    ∙ ap (λ l. filter test v.front ++ l) (own_entries test v.actors call.later own ∙ ap (filter test) call.ours))

-- one of these actors is no other actor
another : (actors : List Actor) (a b : Actor) → is_held actors a ≡ false → is_held actors b ≡ true → same_actor b a ≡ false
another actors a b not held = at (same_actor b a) refl
  where
    at : (t : Bool) → same_actor b a ≡ t → same_actor b a ≡ false
    at true is =
        let here : is_held actors a ≡ true = subst (λ c. is_held actors c ≡ true) (same_actor-true b a is) held in
        absurd cc
    at false is = is

without_another : (actors : List Actor) (a by : Actor) (with : Option Actor) → is_held actors a ≡ false → IsOurs actors by with
    → (same_actor by a || is_with with a) ≡ false
without_another actors a by None not ours = rw (another actors a by not ours) refl
without_another actors a by (Some b) not ours = rw (another actors a by not ours.0) (another actors a b not ours.1)

-- entries of these actors alone have no other actor
pub free_of_others : (actors : List Actor) (a : Actor) (es : List Entry) → is_held actors a ≡ false → AreOnlyOf actors es → IsFree es a
free_of_others actors a [] not only = refl
free_of_others actors a (e ∷ es) not only =
    let none : has_actor e a ≡ false = without_another actors a e.by e.with not only.0 in
    rw none (free_of_others actors a es not only.1)

-- a longer history in which an actor has no more entries has none of its own behind
pub free_later : (a : Actor) (f h : List Entry) (longer : Begins f h) → of h a ≡ of f a → IsFree longer.later a
free_later a f h longer same =
    append_cancel_left (of f a) (of longer.later a) []
    (sym (filter-append (λ e. has_actor e a) f longer.later) ∙ (sym (ap (λ l. of l a) longer.grown) ∙ (same ∙ sym (append-nil (of f a)))))

-- two steps are a call with their entries
pub two_steps : (g : Settings) (v : View) (d : Entry) (u : View) (e : Entry) (w : View) → Appends g v d u → Appends g u e w
    → TakesPlace g v (d ∷ (e ∷ [])) w
two_steps g v d u e w one other =
    takes_place_then g v u w (d ∷ []) (e ∷ []) (step_takes_place g v d u one) (step_takes_place g u e w other)

-- a pass holds after a step what it held
pub held_on : (g : Settings) (v : View) (e : Entry) (w : View) (a : Actor) → Appends g v e w → is_held v.actors a ≡ true → is_held w.actors a ≡ true
held_on g v e w a step held = subst (λ actors. is_held actors a ≡ true) (sym step.actors) held

-- what is taken off a queue is the first, and the others stay
pub popped : {X : Type 0} (old new : List X) (got : Option X) → old ≡ option_to_list got ++ new → new ≡ drop 1 old
    → (got ≡ first_of old) × (new ≡ others_of old)
popped old new (Some x) items rest = rw items (refl, refl)
popped [] new None items rest = (refl, rest)
popped (x ∷ old) new None items rest = absurd (omega (arith, ap length items, ap length rest))

-- the entries of an actor alone, or with another, are of these
pub of_one : (a : Actor) (others : List Actor) → IsOurs (a ∷ others) a None
of_one a others = or_left (same_actor a a) (is_held others a) (same_actor_self a)

pub of_both : (a b : Actor) → IsOurs (a ∷ (b ∷ [])) a (Some b)
of_both a b = (of_one a (b ∷ []), or_right (same_actor a b) (is_held (b ∷ []) b) (of_one b []))
