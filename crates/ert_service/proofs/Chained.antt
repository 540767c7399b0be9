-- What is known after the steps of a service, and at a seat.

use Rattle.std.proofs.Common.{◌≡◌, ℕ, ◌<◌, ◌≤◌, Bool, true, ◌&&◌, List, [], ◌∷◌, ◌++◌, length, Some, Result, Ok, Err, refl, sym, ap, subst, ◌∙◌, arith, append_assoc, eq-eqb}
use Rattle.std.specs.Prelude.{nat_eq, not, OnOk}
use Rattle.ert_effects.specs.{Chains.{Delivers, Turns}, WheelCalls.MarksExit, Ways.{Growth, Way, Grows, beside}, declared.answers.Turned.Turned}
use Rattle.ert_defs.proofs.Runs.{state-append, exit_stays}
use Rattle.ert_defs.specs.{Entries.{mark_entry, is_ours}, Mails.first_of, States.{State, next, state}, Timers.Row, declared.entry.Actor.Actor, declared.entry.Entry.Entry, declared.mail.Request.Request, declared.memory.NoMemory.NoMemory}
use Rattle.ert_defs.specs.{declared.settings.Settings.Settings, declared.settings.TheConstants.MOST_SLOTS}
use Rattle.ert_laws.proofs.{Few.expired_few, Requests.held_have_askers, RowRanges.first_placed}
use Rattle.ert_service.proofs.Settling.{turns_leave_none}
use Rattle.ert_world.proofs.Places.{place}
use Rattle.ert_service.specs.Settled.{NoneWaits}
use Rattle.ert_timers.specs.{SchedParts.SchedStands, declared.sched_part.SchedPart.SchedPart}
use Rattle.ert_table.proofs.{Holders.or_right, OneStep.legal_by}
use Rattle.ert_table.specs.{Calls.IsMade, Desks.front_of, declared.desk.Pass.Pass, declared.view.View.View}
use native.Mathlib.Bridge.{le_prop}

-- after a turn no expired timer waits, nor after all were handed over
pub turn_ends : (g : Settings) (a : Actor) (wheel : ℕ) (answer : Result Turned NoMemory) (f h : List Entry) → Grows (Turns g (beside g a) wheel answer) f h
    → OnOk answer (NoneWaits (state g h) wheel)
turn_ends g a wheel (Ok t) f h call = turns_leave_none g a wheel t f h call
turn_ends g a wheel (Err e) f h call = tt

pub deliver_ends : (g : Settings) (way : Way) (wheel : ℕ) (answer : Result (ℕ × ℕ) NoMemory) (f h : List Entry) → Grows (Delivers g way wheel answer) f h
    → OnOk answer (NoneWaits (state g h) wheel)
deliver_ends g way wheel (Ok counts) f h call = subst (λ l. NoneWaits (state g l) wheel) (sym call.grown) call.made.done
deliver_ends g way wheel (Err e) f h call = tt

-- a process that has exited stays so
pub still_exited : (g : Settings) (call : Growth) (p : ℕ) (f h : List Entry) → Grows call f h → (state g f).exited p ≡ true → (state g h).exited p ≡ true
still_exited g call p f h grows was =
    subst (λ (s : State). s.exited p ≡ true) (sym (ap (state g) grows.grown ∙ state-append g f grows.piece)) (exit_stays g p (state g f) grows.piece was)

-- after a mark among other entries the process has exited
pub marked : (g : Settings) (by : Actor) (p : ℕ) (answer : Bool) (v w : View) → IsMade g v (MarksExit g by p answer) w → (state g w.front).exited p ≡ true
marked g by p answer v w made =
    let mark : Entry = mark_entry by p true (not answer) in
    let spot = place (is_ours v.actors) made.call.later [] mark [] (made.call.ours ∙ made.allowed) in
    let q : List Entry = v.front ++ spot.first in
    let at : w.front ≡ q ++ (mark ∷ spot.last) =
    made.call.grown ∙ (ap (λ l. v.front ++ l) spot.parted ∙ sym (append_assoc v.front spot.first (mark ∷ spot.last))) in
    subst (λ (s : State). s.exited p ≡ true) (sym (ap (state g) at ∙ state-append g q (mark ∷ spot.last)))
    (exit_stays g p (next g (state g q) mark) spot.last (or_right ((state g q).exited p) (nat_eq p p && true) (rw (eq-eqb p p refl) refl)))

-- who is to get an answer is in range, and so is who is to get a message
pub asker_low : (g : Settings) (p : Pass) (part : SchedPart) (q : Request) → p.seat.me.0.settings ≡ Some g → SchedStands g (front_of p) part → part.hand ≡ Some q
    → q.reply_to < g.processes
asker_low g p part q named stands hand =
    legal_by g p.seat.me.0.settings (front_of p) le_prop named p.legal
    (λ legal. held_have_askers g (front_of p) part.wheel q legal (sym stands.hand ∙ hand))

pub dest_low : (g : Settings) (p : Pass) (part : SchedPart) (row : Row) → p.seat.me.0.settings ≡ Some g → SchedStands g (front_of p) part
    → first_of part.expired.rows ≡ Some row → row.dest < g.processes
dest_low g p part row named stands first =
    legal_by g p.seat.me.0.settings (front_of p) le_prop named p.legal
    (λ legal. (first_placed g (front_of p) part.wheel row legal (ap (λ (l : List Row). first_of l) (sym stands.expired) ∙ first)).dest)

-- a list has few rows
pub rows_few : (g : Settings) (p : Pass) (part : SchedPart) → g.slots ≤ MOST_SLOTS → p.seat.me.0.settings ≡ Some g → SchedStands g (front_of p) part
    → length part.expired.rows ≤ MOST_SLOTS
rows_few g p part high named stands =
    legal_by g p.seat.me.0.settings (front_of p) le_prop named p.legal
    (λ legal.
    let low : length ((state g (front_of p)).scheds part.wheel).expired ≤ g.slots = expired_few g (front_of p) part.wheel legal in
    let same : length part.expired.rows ≡ length ((state g (front_of p)).scheds part.wheel).expired = ap (λ (l : List Row). length l) stands.expired in
    omega (arith, low, same, high))
