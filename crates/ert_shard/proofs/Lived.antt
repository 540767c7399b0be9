-- A timer that was cancelled has come to a status, and isn't started again.

use Rattle.std.proofs.Common.{◌≡◌, ◌≢◌, ◌⊎◌, ℕ, List, [], ◌∷◌, ◌++◌, filter, Option, Some, None, Ok, inl, inr, refl, sym, ap, subst, ◌∙◌}
use Rattle.std.proofs.lemmas.List.Elements.{filter_map-append}
use Rattle.ert_defs.proofs.ExpiredTimers.{same_timer_self}
use Rattle.ert_defs.specs.{Entries.is_ours, Legal.Legal, States.{State, state}, declared.entry.Actor.Actor, declared.entry.Entry.Entry, declared.settings.Settings.Settings, declared.timer.Start.Start, declared.timer.Status.Status}
use Rattle.ert_defs.specs.{declared.timer.Status.TheVariants.{Armed, Expired, Delivered, Cancelled, Orphaned, Dropped}, declared.timer.TimerRef.TimerRef}
use Rattle.ert_effects.specs.TimerCalls.{Starts}
use Rattle.ert_laws.proofs.TimerLives.{lives}
use Rattle.ert_laws.specs.Lives.{status_given, life, life_to}
use Rattle.ert_table.specs.{Takes.TakesPlace, declared.view.View.View}
use Rattle.ert_timers.proofs.Settled.{HasOne, IsHit, one_of}
use Rattle.ert_world.proofs.Started.{IsArm}

-- a status is among these
abbrev Comes : Status → List Status → Type 0
Comes to [] = ⊥
Comes to (s ∷ ss) = (s ≡ to) ⊎ Comes to ss

comes_later : (to : Status) (xs ys : List Status) → Comes to ys → Comes to (xs ++ ys)
comes_later to [] ys has = has
comes_later to (x ∷ xs) ys has = inr (comes_later to xs ys has)

-- an entry that gives a timer a status brings it into its life
comes_in : (r : TimerRef) (to : Status) (D : Entry → Type 0) → ((e : Entry) → D e → status_given r e.event ≡ Some to) → (actors : List Actor) (m : List Entry)
    → HasOne D (filter (is_ours actors) m) → Comes to (life r m)
comes_in r to D gives actors [] has = absurd has
comes_in r to D gives actors (e ∷ m) has =
    one_of D actors e m (Comes to (life r (e ∷ m))) (λ one. here (gives e one)) (λ more. there (status_given r e.event) refl (comes_in r to D gives actors m more)) has
  where
    here : status_given r e.event ≡ Some to → Comes to (life r (e ∷ m))
    here is = rw is (inl refl)

    there : (given : Option Status) → status_given r e.event ≡ given → Comes to (life r m) → Comes to (life r (e ∷ m))
    there None is more = rw is more
    there (Some s) is more = rw is (inr more)

-- so it is in the life of the timer after the call
come_to : (g : Settings) (v : View) (es : List Entry) (w : View) (r : TimerRef) (to : Status) (D : Entry → Type 0)
    → ((e : Entry) → D e → status_given r e.event ≡ Some to) → (takes : TakesPlace g v es w) → HasOne D es → Comes to (life r takes.later)
come_to g v es w r to D gives takes has = comes_in r to D gives v.actors takes.later (subst (HasOne D) (sym takes.ours) has)

life_grown : (g : Settings) (v : View) (es : List Entry) (w : View) (r : TimerRef) → (takes : TakesPlace g v es w)
    → life r w.front ≡ life r v.front ++ life r takes.later
life_grown g v es w r takes = ap (life r) takes.grown ∙ filter_map-append (λ e. status_given r e.event) v.front takes.later

hit_gives : (r : TimerRef) (e : Entry) → IsHit r e → status_given r e.event ≡ Some Cancelled
hit_gives r e hit = subst (λ (x : Entry). status_given r x.event ≡ Some Cancelled) (sym hit.2) (rw (same_timer_self r) refl)

arm_gives : (r : TimerRef) (e : Entry) → IsArm r e → status_given r e.event ≡ Some Armed
arm_gives r e arm = subst (λ (x : Entry). status_given r x.event ≡ Some Armed) (sym arm.2) (rw (same_timer_self r) refl)

-- a timer that was cancelled has a status after that
pub known : (g : Settings) (v : View) (es : List Entry) (w : View) (timer : TimerRef) → TakesPlace g v es w → HasOne (IsHit timer) es
    → (state g w.front).status timer ≢ None
known g v es w timer takes hit none =
    let came : Comes Cancelled (life timer w.front) =
    subst (Comes Cancelled) (sym (life_grown g v es w timer takes))
    (comes_later Cancelled (life timer v.front) (life timer takes.later) (come_to g v es w timer Cancelled (IsHit timer) (hit_gives timer) takes hit)) in
    subst (Comes Cancelled) (lives g w.front timer takes.legal ∙ ap life_to none) came

-- the life of a timer that has a status begins with its arming
record Begun (l : List Status) : Type 0 where
  rest : List Status
  is : l ≡ Armed ∷ rest

begun : (x : Option Status) → x ≢ None → Begun (life_to x)
begun None some = absurd (some refl)
begun (Some Armed) some = record { rest = []; is = refl }
begun (Some Cancelled) some = record { rest = Cancelled ∷ []; is = refl }
begun (Some Orphaned) some = record { rest = Orphaned ∷ []; is = refl }
begun (Some Expired) some = record { rest = Expired ∷ []; is = refl }
begun (Some Delivered) some = record { rest = Expired ∷ (Delivered ∷ []); is = refl }
begun (Some Dropped) some = record { rest = Expired ∷ (Dropped ∷ []); is = refl }

-- and has no other
armed_once : (x : Option Status) (rest : List Status) → life_to x ≡ Armed ∷ rest → Comes Armed rest → ⊥
armed_once x rest is comes = none x (subst (Comes Armed) (sym (ap tail is)) comes)
  where
    tail : List Status → List Status
    tail [] = []
    tail (s ∷ ss) = ss

    none : (x : Option Status) → Comes Armed (tail (life_to x)) → ⊥
    none None comes = comes
    none (Some Armed) comes = comes
    none (Some Cancelled) comes = elim comes [ inl is ↦ cc | inr left ↦ left ]
    none (Some Orphaned) comes = elim comes [ inl is ↦ cc | inr left ↦ left ]
    none (Some Expired) comes = elim comes [ inl is ↦ cc | inr left ↦ left ]
    none (Some Delivered) comes = elim comes [ inl is ↦ cc | inr later ↦ elim later [ inl is ↦ cc | inr left ↦ left ] ]
    none (Some Dropped) comes = elim comes [ inl is ↦ cc | inr later ↦ elim later [ inl is ↦ cc | inr left ↦ left ] ]

later_one : (D : Entry → Type 0) (es fs : List Entry) → HasOne D fs → HasOne D (es ++ fs)
later_one D [] fs has = has
later_one D (e ∷ es) fs has = inr (later_one D es fs has)

start_arms : (g : Settings) (by w : ℕ) (start : Start) (timer : TimerRef) (s : State) (es : List Entry) → Starts g by w start (Ok timer) s es → HasOne (IsArm timer) es
start_arms g by w start timer s es starts =
    subst (HasOne (IsArm timer)) (sym starts.entries) (inr (later_one (IsArm timer) starts.probes _ (inl (by, start, refl))))

-- a start gives no name that was given before
pub not_again : (g : Settings) (v : View) (es : List Entry) (w : View) (by n : ℕ) (start : Start) (timer : TimerRef) → Legal g v.front → TakesPlace g v es w
    → Starts g by n start (Ok timer) (state g v.front) es → (state g v.front).status timer ≢ None → ⊥
not_again g v es w by n start timer legal takes starts some =
    let first : Begun (life_to ((state g v.front).status timer)) = begun ((state g v.front).status timer) some in
    let armed : Comes Armed (life timer takes.later) =
    come_to g v es w timer Armed (IsArm timer) (arm_gives timer) takes (start_arms g by n start timer (state g v.front) es starts) in
    let whole : life_to ((state g w.front).status timer) ≡ Armed ∷ (first.rest ++ life timer takes.later) =
    sym (lives g w.front timer takes.legal) ∙ (life_grown g v es w timer takes
    ∙ ap (λ l. l ++ life timer takes.later) (lives g v.front timer legal ∙ first.is)) in
    armed_once ((state g w.front).status timer) (first.rest ++ life timer takes.later) whole
    (comes_later Armed first.rest (life timer takes.later) armed)
