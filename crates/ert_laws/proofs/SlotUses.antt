-- A wheel has at most 2^53 timers.

use Rattle.std.proofs.Common.{ℕ, ◌<◌, ◌≤◌, Bool, true, false, cond, nat_eq, List, ◌++◌, length, length-append, append-nil, Option, Some, None, refl, subst, eqb-true, ◌≡◌, arith}
use Rattle.ert_defs.proofs.Runs.{kept_from}
use Rattle.ert_defs.specs.{Actors.has_actor, Legal.Known, Milliseconds.deadline_of, States.{State, opening, state}, Timers.{Row, row_from, rows_after}, declared.entry.Actor.Actor, declared.entry.Actor.TheVariants.Wheel}
use Rattle.ert_defs.specs.{declared.entry.Event.Event, declared.entry.Event.TheVariants.Arm, declared.settings.Settings.Settings, declared.timer.Start.Start, declared.timer.TimerRef.TimerRef}
use Rattle.ert_laws.proofs.Totals.{total_most}
use Rattle.ert_laws.specs.Counts.{LawOfMany, LawOfAll}

abbrev AreFew : State → Type 0
AreFew s = (w : ℕ) → length (s.rows w) ≤ 9007199254740992

few_from : (rows : List Row) (timer : TimerRef) (start : Start) (deadline : Option ℕ) → length rows < 9007199254740992
    → length (rows ++ row_from timer start deadline) ≤ 9007199254740992
few_from rows timer start None few = rw append-nil (omega (arith, few))
few_from rows timer start (Some d) few = rw length-append (omega (arith, few))

few_arm : (s : State) (w : ℕ) (timer : TimerRef) (start : Start) (deadline : Option ℕ) → length (s.rows timer.wheel) < 9007199254740992
    → AreFew s → (own : Bool) → nat_eq timer.wheel w ≡ own → length (cond own (s.rows w ++ row_from timer start deadline) (s.rows w)) ≤ 9007199254740992
few_arm s w timer start deadline room few true is =
    few_from (s.rows w) timer start deadline (subst (λ v. length (s.rows v) < 9007199254740992) (eqb-true timer.wheel w is) room)
few_arm s w timer start deadline room few false is = few w

few_event : (g : Settings) (s : State) (by : Actor) (with : Option Actor) (event : Event) (w : ℕ) (b : Bool) → Known g s by with event → AreFew s
    → length (cond b (rows_after g (s.looked by) w (s.rows w) event) (s.rows w)) ≤ 9007199254740992
few_event g s by with event w false known few = few w
few_event g s by with (Arm timer start) w true known few =
    few_arm s w timer start (deadline_of g start (s.looked by)) known.few few (nat_eq timer.wheel w) refl
few_event g s by with _ w true known few = few w

pub timers_few : LawOfMany
timers_few g h w legal =
    kept_from g AreFew (λ s e few can v. few_event g s e.by e.with e.event v (has_actor e (Wheel v)) can.known few) (opening g) h (λ v. omega arith) legal w

pub all_few : LawOfAll
all_few g h n legal = total_most (λ w. length ((state g h).rows w)) 9007199254740992 n (λ w. timers_few g h w legal)
