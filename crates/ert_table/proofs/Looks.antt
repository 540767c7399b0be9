-- The steps that a caller or a scheduler may always make, and what is known of its last look.

use Rattle.std.proofs.Common.{◌≡◌, ℤ, Bool, true, false, not, cond, List, [], ◌∷◌, ◌++◌, refl, sym, ap, subst, ◌∙◌, append_assoc}
use Rattle.std.specs.Prelude.{◌+ℤ◌, FitsSigned}
use Rattle.std.specs.Int.{w64}
use Rattle.ert_defs.specs.{Actors.IsUser, Entries.off_entry, Legal.{Can, Legal}, Settings.IsChecked, States.{State, look_after, opening, next, state}, declared.entry.Actor.Actor, declared.entry.Actor.TheVariants.{Sched, Caller}}
use Rattle.ert_defs.specs.{declared.entry.Entry.Entry, declared.settings.OffsetState.OffsetState, declared.settings.Settings.Settings}
use Rattle.ert_defs.proofs.{Runs.{state-append, legal_then, look_stays}, Times.state_sum_fits}
use Rattle.ert_table.specs.{Entries.offset_entry, Held.is_held, Takes.Appends, declared.carry.OffsetCarry.TheVariants.Off as ToOff, declared.view.View.View}
use Rattle.ert_table.proofs.Holders.{same_actor_self}

-- a caller or a scheduler reads the offset alone
pub off_alone : (g : Settings) (actors : List Actor) (by : Actor) (offset : ℤ) (offset_state : OffsetState) → IsUser g by
    → offset_entry g actors by ToOff offset offset_state ≡ off_entry by offset offset_state
off_alone g actors (Caller n) offset offset_state user = refl
off_alone g actors (Sched n) offset offset_state user = refl
off_alone g actors _ offset offset_state user = absurd user

-- a step's entry is legal in the state that it found
pub can_step : (g : Settings) (v : View) (e : Entry) (w : View) (step : Appends g v e w)
    → Can g (state g (v.front ++ step.between)) e
can_step g v e w step =
    (legal_then g (opening g) (v.front ++ step.between) (e ∷ []) (subst (Legal g) step.grown step.legal)).0

-- when a step is made, the last look of an actor of the pass is that at the front
pub look_before : (g : Settings) (v : View) (e : Entry) (w : View) (a : Actor) (step : Appends g v e w) → is_held v.actors a ≡ true
    → (state g (v.front ++ step.between)).looked a ≡ (state g v.front).looked a
look_before g v e w a step held =
    ap (λ (s : State). s.looked a) (state-append g v.front step.between)
    ∙ look_stays g a (state g v.front) step.between (step.others a held)

-- the state after a step is that before it, moved by its entry
pub state_stepped : (g : Settings) (v : View) (e : Entry) (w : View) (step : Appends g v e w)
    → state g w.front ≡ next g (state g (v.front ++ step.between)) e
state_stepped g v e w step = ap (state g) step.grown ∙ state-append g (v.front ++ step.between) (e ∷ [])

-- after a step of its own the last look of an actor is the old one, moved by the event
pub look_stepped : (g : Settings) (v : View) (e : Entry) (w : View) (step : Appends g v e w) → is_held v.actors e.by ≡ true
    → (state g w.front).looked e.by ≡ look_after ((state g v.front).looked e.by) e.event
look_stepped g v e w step held =
    let s : State = state g (v.front ++ step.between) in
    ap (λ (s : State). s.looked e.by) (state_stepped g v e w step)
    ∙ (ap (λ b. cond b (look_after (s.looked e.by) e.event) (s.looked e.by)) (same_actor_self e.by)
    ∙ ap (λ x. look_after x e.event) (look_before g v e w e.by step held))

-- the time that was read at a front and the offset that is read at a later one have a sum that fits
pub read_sum_fits : (g : Settings) (v : View) (e : Entry) (w : View) (step : Appends g v e w) → IsChecked g
    → FitsSigned w64 ((state g v.front).clock.now +ℤ (state g w.front).clock.offset)
read_sum_fits g v e w step checked =
    let grown : w.front ≡ v.front ++ (step.between ++ e ∷ []) = step.grown ∙ append_assoc v.front step.between (e ∷ []) in
    subst (λ (h : List Entry). FitsSigned w64 ((state g v.front).clock.now +ℤ (state g h).clock.offset)) (sym grown)
    (state_sum_fits g v.front (step.between ++ e ∷ []) checked (subst (Legal g) grown step.legal))

pub not-not : (b : Bool) → b ≡ not (not b)
not-not true = refl
not-not false = refl
