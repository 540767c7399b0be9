-- The timers of a judge go on as those of the model.

use Rattle.std.proofs.Common.{◌≡◌, sym, ap, ◌∙◌, subst, List}
use Rattle.std.specs.Prelude.{ℤ}
use Rattle.ert_defs.specs.{Legal.Can, States.{State, state}, declared.entry.Entry.Entry, declared.settings.Settings.Settings}
use Rattle.ert_judge.specs.{Parts.{looks_in, look_of, timers_after}, Shown.{HasFollowed, Follows, deadline_by}, declared.judge.Judge.Judge, declared.state.wheels.Timer.Timer}
use Rattle.ert_judge.proofs.{Goes.TimersGo, NewTimers.arms_next, TimerLaws.{ArmsNext, rows_follow, uses_follow, status_follows, own_follows, length_follows}}

-- a judge that stands for a history has gone on so by a legal entry
pub timers_go : (g : Settings) (h : List Entry) (old new : Judge) (e : Entry) → HasFollowed g h old → Can g (state g h) e
    → Follows old e new → TimersGo g (look_of (looks_in old.looks) e.by) e.with e.event old.timers new.timers
timers_go g h old new e stands can follows =
    let look : ℤ = look_of (looks_in old.looks) e.by in
    let ws : List (List Timer) = old.timers in
    let looked : (state g h).looked e.by ≡ look = ap (λ (s : State). s.looked e.by) stands.kept in
    let arms : ArmsNext ws g look e.event =
    subst (λ (x : ℤ). ArmsNext ws g x e.event) looked
    (arms_next g h old e stands can) in
    let go : TimersGo g look e.with e.event ws (timers_after (deadline_by g look e.event) e.event ws) = record {
      rows = rows_follow ws g look e.by e.with e.event can.keeps stands.wheels;
      uses = uses_follow ws g look e.by e.with e.event can.keeps stands.wheels arms;
      status = status_follows ws g look e.by e.with e.event can.keeps stands.wheels arms;
      own = own_follows ws g look e.by e.with e.event can.keeps stands.wheels arms stands.own;
      wheels = length_follows (deadline_by g look e.event) e.event ws;
    } in
    let is : timers_after (deadline_by g look e.event) e.event ws ≡ new.timers =
    ap (λ (x : Settings). timers_after (deadline_by x look e.event) e.event ws) (sym stands.settings) ∙ sym follows.timers in
    subst (TimersGo g look e.with e.event ws) is go
