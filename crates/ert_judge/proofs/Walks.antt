-- The walk over the entries, one step on and where it stops.

use Rattle.std.proofs.Common.{◌≡◌, ◌<◌, ◌+◌, ◌++◌, ◌∷◌, [], ℕ, sym, subst, List, length, take, Option, None}
use Rattle.std.specs.Prelude.{get_or, ◌↔◌}
use Rattle.std.proofs.lemmas.{Option.slice_get-get_or, List.take_more}
use Rattle.ert_defs.specs.{Legal.{Can, Legal}, States.state, declared.entry.Entry.Entry, declared.settings.Settings.Settings}
use Rattle.ert_defs.proofs.Runs.{legal_one_more}
use Rattle.ert_judge.specs.{Shown.{HasFollowed, Follows}, Reasons.IsFirstReason, Verdicts.StopsAtIllegal, declared.reasons.Reason.Reason, declared.judge.Judge.Judge, Parts.ArmsNew}
use Rattle.ert_judge.proofs.{EventsExclude.excludes, Goes.stands_on, NewTimers.arms_next, TimerLaws.new_of_next, TimersGo.timers_go}

-- a judge told whether there is a reason against an entry
abbrev pub Tells : Judge → Entry → Option Reason → Type 0
Tells j e o = (g : Settings) (h : List Entry) → HasFollowed g h j → (o ≡ None) ↔ Can g (state g h) e

-- it goes on by a legal one
pub walk_on : (g : Settings) (es : List Entry) (i : ℕ) (d : Entry) (old new : Judge) (o : Option Reason) → i < length es
    → HasFollowed g (take i es) old → Tells old (get_or es i d) o → o ≡ None → Follows old (get_or es i d) new
    → HasFollowed g (take (i + 1) es) new
walk_on g es i d old new o within stands tells is follows =
    let e : Entry = get_or es i d in
    let can : Can g (state g (take i es)) e = (tells g (take i es) stands).0 is in
    let on : HasFollowed g (take i es ++ e ∷ []) new = stands_on g (take i es) old new e stands can
    (timers_go g (take i es) old new e stands can follows) follows in
    subst (λ (h : List Entry). HasFollowed g h new) (sym (take_more es i d within)) on

-- and stops at one that isn't
pub walk_stops : (g : Settings) (es : List Entry) (i : ℕ) (d : Entry) (j : Judge) (r : Reason) → i < length es
    → HasFollowed g (take i es) j → IsFirstReason g (state g (take i es)) (get_or es i d) r
    → StopsAtIllegal g es (record { place = i; why = r })
walk_stops g es i d j r within stands holds = record {
  first = record {
    within = within;
    legal = stands.legal;
    illegal = λ legal.
        let more : Legal g (take i es ++ get_or es i d ∷ []) =
        subst (λ (h : List Entry). Legal g h) (take_more es i d within) legal in
        excludes g (state g (take i es)) (get_or es i d) r holds ((legal_one_more g (take i es) (get_or es i d)).0 more).1;
  };
  entry = get_or es i d;
  stands = slice_get-get_or es i d within;
  holds = holds;
}

-- a legal entry arms no timer but a new one
pub arms_new : (g : Settings) (h : List Entry) (j : Judge) (e : Entry) (o : Option Reason) → HasFollowed g h j → Tells j e o → o ≡ None
    → ArmsNew e.event j.timers
arms_new g h j e o stands tells is =
    let can : Can g (state g h) e = (tells g h stands).0 is in
    new_of_next j.timers g ((state g h).looked e.by) e.event (arms_next g h j e stands can)
