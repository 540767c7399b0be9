-- Calls of one step and of none, with entries that they may make.

use Rattle.std.proofs.Common.{◌≡◌, List, [], ◌∷◌, ◌++◌, None, Result, Ok, Err, refl, sym, ap, subst, ◌∙◌, append_assoc, append-nil}
use Rattle.ert_defs.specs.{Legal.Legal, States.{State, opening, state}, declared.entry.Entry.Entry, declared.settings.Settings.Settings}
use Rattle.ert_defs.proofs.Runs.{legal_first}
use Rattle.ert_table.specs.{Calls.{AppendsAll, IsMade, IsMadeIfOk}, Takes.{Appends, TakesPlace}, declared.view.View.View}
use Rattle.ert_table.proofs.Calls.{step_takes_place}

-- a step that a call may make alone
pub step_made : (g : Settings) (v : View) (e : Entry) (w : View) (allows : State → List Entry → Type 0) → allows (state g v.front) (e ∷ [])
    → Appends g v e w → IsMade g v allows w
step_made g v e w allows allowed step = record { entries = e ∷ []; allowed = allowed; call = step_takes_place g v e w step }

-- no step
takes_none : (g : Settings) (v : View) → Legal g v.front → TakesPlace g v [] v
takes_none g v legal = record { actors = refl; legal = legal; later = []; grown = sym (append-nil v.front); ours = refl }

pub none_made : (g : Settings) (v w : View) (allows : State → List Entry → Type 0) → Legal g v.front → allows (state g v.front) []
    → w ≡ v → IsMade g v allows w
none_made g v w allows legal allowed same =
    subst (λ x. IsMade g v allows x) (sym same) (record { entries = []; allowed = allowed; call = takes_none g v legal })

-- a call that answers an error takes no step
pub if_ok_made : {A E : Type 0} (g : Settings) (v : View) (allows : Result A E → State → List Entry → Type 0) (answer : Result A E) (w : View)
    → Legal g v.front → IsMadeIfOk g v allows answer w → IsMade g v (allows answer) w
if_ok_made g v allows (Ok answer) w legal made = made
if_ok_made g v allows (Err e) w legal omitted = none_made g v w (allows (Err e)) legal omitted.allowed omitted.same

-- a step with two entries is as two steps, between which nothing stands
pub record IsTwice (g : Settings) (v : View) (e f : Entry) (w : View) : Type 0 where
  pub mid : View
  pub one : Appends g v e mid
  pub other : Appends g mid f w

pub two_steps : (g : Settings) (v : View) (e f : Entry) (w : View) → AppendsAll g v (e ∷ (f ∷ [])) w → IsTwice g v e f w
two_steps g v e f w step =
    let front : List Entry = (v.front ++ step.between) ++ e ∷ [] in
    let grown : w.front ≡ front ++ f ∷ [] = step.grown ∙ sym (append_assoc (v.front ++ step.between) (e ∷ []) (f ∷ [])) in
    record {
      mid = record { front = front; actors = v.actors; settings = v.settings; met = None };
      one = record {
        actors = refl;
        legal = legal_first g (opening g) front (f ∷ []) (subst (Legal g) grown step.legal);
        between = step.between;
        grown = refl;
        others = step.others;
        ours = step.ours.0;
      };
      other = record {
        actors = step.actors;
        legal = step.legal;
        between = [];
        grown = grown ∙ ap (λ x. x ++ f ∷ []) (sym (append-nil front));
        others = λ a held. refl;
        ours = step.ours.1.0;
      };
    }
