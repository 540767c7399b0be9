-- Calls of one step and of several.

use Rattle.std.proofs.Common.{◌≡◌, Bool, true, false, List, [], ◌∷◌, ◌++◌, filter, refl, sym, ap, subst, ◌∙◌, append_assoc}
use Rattle.std.proofs.lemmas.List.Elements.{filter-append}
use Rattle.ert_defs.specs.{Actors.{same_actor, has_actor, IsFree}, Legal.{LegalFrom, Legal}, States.{State, opening, next, state}, declared.entry.Actor.Actor, declared.entry.Entry.Entry, declared.settings.Settings.Settings, Entries.is_ours}
use Rattle.ert_defs.proofs.Runs.{free_first, free_rest, legal_then}
use Rattle.ert_table.specs.{Held.{is_held, IsWhole}, Laws.{LawOfSteps, LawOfCalls, LawOfWholePasses}, Takes.Appends, declared.view.View.View}
use Rattle.ert_table.proofs.{Closings.maker_in_range, Holders.{held_maker, or_left, or_right, same_actor-true, same_actor_self}}

-- an entry with none of these actors isn't theirs
not_ours : (actors : List Actor) (e : Entry) → ((a : Actor) → is_held actors a ≡ true → has_actor e a ≡ false) → is_ours actors e ≡ false
not_ours [] e none = refl
not_ours (a ∷ actors) e none =
    let here : has_actor e a ≡ false = none a (or_left (same_actor a a) (is_held actors a) (same_actor_self a)) in
    rw here (not_ours actors e (λ b held. none b (or_right (same_actor a b) (is_held actors b) held)))

-- nor are such entries
pub none_ours : (actors : List Actor) (m : List Entry) → ((a : Actor) → is_held actors a ≡ true → IsFree m a) → filter (is_ours actors) m ≡ []
none_ours actors [] free = refl
none_ours actors (e ∷ m) free =
    let none : is_ours actors e ≡ false = not_ours actors e (λ a held. free_first a e m (free a held)) in
    rw none (none_ours actors m (λ a held. free_rest a e m (free a held)))

-- an entry whose maker is among these is theirs
pub made_ours : (actors : List Actor) (e : Entry) → is_held actors e.by ≡ true → is_ours actors e ≡ true
made_ours [] e held = absurd cc
made_ours (a ∷ actors) e held = at (same_actor a e.by) refl (made_ours actors e)
  where
    at : (b : Bool) → same_actor a e.by ≡ b → (is_held actors e.by ≡ true → is_ours actors e ≡ true) → is_ours (a ∷ actors) e ≡ true
    at true is more =
        let same : a ≡ e.by = same_actor-true a e.by is in
        let own : has_actor e a ≡ true = subst (λ b. has_actor e b ≡ true) (sym same) (or_left (same_actor e.by e.by) _ (same_actor_self e.by)) in
        or_left (has_actor e a) (is_ours actors e) own
    at false is more =
        let rest : is_held actors e.by ≡ true = rw is at held in
        or_right (has_actor e a) (is_ours actors e) (more rest)

pub step_takes_place : LawOfSteps
step_takes_place g v e w step =
    let mine : is_ours v.actors e ≡ true = made_ours v.actors e (held_maker v.actors e.by e.with step.ours) in
    let one : filter (is_ours v.actors) (e ∷ []) ≡ e ∷ [] = rw mine refl in
    record {
      actors = step.actors;
      legal = step.legal;
      later = step.between ++ e ∷ [];
      grown = step.grown ∙ append_assoc v.front step.between (e ∷ []);
      ours = filter-append (is_ours v.actors) step.between (e ∷ [])
          ∙ (ap (λ x. x ++ filter (is_ours v.actors) (e ∷ [])) (none_ours v.actors step.between step.others) ∙ one);
    }

pub takes_place_then : LawOfCalls
takes_place_then g v w x es fs first second = record {
  actors = second.actors ∙ first.actors;
  legal = second.legal;
  later = first.later ++ second.later;
  grown = second.grown ∙ (ap (λ f. f ++ second.later) first.grown ∙ append_assoc v.front first.later second.later);
  ours = filter-append (is_ours v.actors) first.later second.later
      ∙ (ap (λ l. l ++ filter (is_ours v.actors) second.later) first.ours
      ∙ ap (λ l. es ++ l) (ap (λ actors. filter (is_ours actors) second.later) (sym first.actors) ∙ second.ours));
}

-- every legal entry is of one of all actors
all_ours : (g : Settings) (actors : List Actor) (s : State) (m : List Entry) → IsWhole g actors → LegalFrom g s m → filter (is_ours actors) m ≡ m
all_ours g actors s [] whole legal = refl
all_ours g actors s (e ∷ m) whole legal =
    let mine : is_ours actors e ≡ true = made_ours actors e (whole e.by (maker_in_range g e.by e.with e.event legal.0.keeps)) in
    rw mine (ap (λ l. e ∷ l) (all_ours g actors (next g s e) m whole legal.1))

pub whole_exact : LawOfWholePasses
whole_exact g v w es whole call =
    let legal : Legal g (v.front ++ call.later) = subst (Legal g) call.grown call.legal in
    let all = all_ours g v.actors (state g v.front) call.later whole (legal_then g (opening g) v.front call.later legal) in
    call.grown ∙ ap (λ l. v.front ++ l) (sym all ∙ call.ours)

-- a step of a pass that holds every actor makes its whole history longer by the entry
pub whole_step : (g : Settings) (v w : View) (h : List Entry) (e : Entry) → IsWhole g v.actors → v.front ≡ h → Appends g v e w
    → (w.front ≡ h ++ e ∷ []) × IsWhole g w.actors
whole_step g v w h e whole front step = (
  whole_exact g v w (e ∷ []) whole (step_takes_place g v e w step) ∙ ap (λ x. x ++ e ∷ []) front,
  subst (IsWhole g) (sym step.actors) whole,
)
