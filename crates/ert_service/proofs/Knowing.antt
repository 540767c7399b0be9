-- What a caller knows of a timer that was started.

use Rattle.std.proofs.Common.{◌≡◌, ◌⊎◌, inl, inr, ℕ, Bool, true, false, List, [], ◌∷◌, ◌++◌, Option, Some, None, Result, Ok, Err, refl, sym, subst, ◌∙◌}
use Rattle.std.specs.Prelude.{IfOk}
use Rattle.std.proofs.lemmas.Bool.{true_from_ne_false}
use Rattle.ert_defs.specs.{Laws.has_settled, Legal.Legal, States.state, declared.entry.Actor.Actor, declared.entry.Actor.TheVariants.Wheel, declared.entry.Entry.Entry, declared.settings.Settings.Settings, declared.timer.Start.Start}
use Rattle.ert_defs.specs.{declared.timer.TimerRef.TimerRef}
use Rattle.ert_effects.specs.{TimerCalls.{Starts, Reads, Cancels}, Ways.{Grows, beside}, declared.answers.StartErr.StartErr}
use Rattle.ert_service.proofs.Settling.{refute_by}
use Rattle.ert_service.specs.{Fronts.StepsAlone, Settled.WasSettled}
use Rattle.ert_table.specs.{Desks.front_of, declared.desk.Pass.Pass}
use Rattle.ert_world.proofs.Known.{known_starts, none_settled}
use Rattle.ert_world.specs.Known.{WasStarted}

-- the timer that a start answers
pub started_in : (g : Settings) (a : Actor) (by wheel : ℕ) (start : Start) (answer : Result TimerRef StartErr) (f : List Entry) (p : Pass) → p.seat.me.0.settings ≡ Some g
    → Grows (beside g a (Wheel wheel ∷ []) (Starts g by wheel start answer)) f (front_of p) → IfOk answer (λ timer. WasStarted (state g (front_of p)) timer)
started_in g a by wheel start (Ok timer) f p named call = λ none.
    refute_by g p named (λ legal.
    subst (λ (l : List Entry). WasStarted (state g l) timer) (sym call.grown)
    ((known_starts g).1 a by wheel (Wheel wheel ∷ []) start timer f call.piece (subst (Legal g) call.grown legal) call.made) none)
started_in g a by wheel start (Err e) f p named call = tt

-- a cancel or a read of it that tells nothing
none_in : (g : Settings) (a : Actor) (timer : TimerRef) (f m : List Entry) (p : Pass) → p.seat.me.0.settings ≡ Some g → front_of p ≡ f ++ m → WasStarted (state g f) timer
    → beside g a [] (Cancels g a timer None) f m ⊎ beside g a [] (Reads g a timer None) f m → WasSettled (state g (front_of p)) timer
none_in g a timer f m p named grown some made =
    true_from_ne_false (has_settled ((state g (front_of p)).status timer)) (λ isnt.
    refute_by g p named (λ legal.
    let settled = (none_settled g).1 a a [] timer f m (subst (Legal g) grown legal) some made in
    let here : WasSettled (state g (front_of p)) timer = subst (λ (l : List Entry). WasSettled (state g l) timer) (sym grown) settled in
    let clash : true ≡ false = sym here ∙ isnt in
    absurd cc))

pub none_cancelled : (g : Settings) (a : Actor) (timer : TimerRef) (answer : Option ℕ) (p q : Pass) → q.seat.me.0.settings ≡ Some g
    → StepsAlone g a (Cancels g a timer answer) p q → WasStarted (state g (front_of p)) timer → answer ≡ None → WasSettled (state g (front_of q)) timer
none_cancelled g a timer answer p q named call some none =
    let steps = subst (λ (x : Option ℕ). StepsAlone g a (Cancels g a timer x) p q) none call in
    none_in g a timer (front_of p) steps.piece q named steps.grown some (inl steps.made)

pub none_read : (g : Settings) (a : Actor) (timer : TimerRef) (answer : Option ℕ) (p q : Pass) → q.seat.me.0.settings ≡ Some g
    → StepsAlone g a (Reads g a timer answer) p q → WasStarted (state g (front_of p)) timer → answer ≡ None → WasSettled (state g (front_of q)) timer
none_read g a timer answer p q named call some none =
    let steps = subst (λ (x : Option ℕ). StepsAlone g a (Reads g a timer x) p q) none call in
    none_in g a timer (front_of p) steps.piece q named steps.grown some (inr steps.made)
