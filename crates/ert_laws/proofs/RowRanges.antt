-- The rows of each wheel and the expired timers of each scheduler after a legal history are in range.

use Rattle.std.proofs.Common.{◌≡◌, ℕ, ℤ, ◌<◌, nat_eq, List, ◌++◌, All, Option, Some, None, append-nil, eqb-true}
use Rattle.std.proofs.lemmas.{Bool.cond_both, List.Elements.{All-nil, All-push, All-weaker}}
use Rattle.ert_defs.specs.{Actors.has_actor, Laws.IsExpired, Legal.{Can, IsSlot, Keeps}, Milliseconds.deadline_of, States.{State, opening, next, state}, Timers.{Row, deadline_told, row_from, rows_after}, declared.entry.Actor.Actor}
use Rattle.ert_defs.specs.{declared.entry.Actor.TheVariants.Wheel, declared.entry.Entry.Entry, declared.entry.Event.Event, declared.entry.Event.TheVariants.Arm, declared.settings.Settings.Settings, declared.timer.Start.Start}
use Rattle.ert_defs.specs.{declared.timer.TimerRef.TimerRef}
use Rattle.ert_defs.proofs.{ExpiredLists.{first_at, expired_timers}, Runs.kept_from, Standing.of_row}
use Rattle.ert_laws.specs.Ranges.{IsPlaced, LawOfRowRanges, LawOfExpiredRanges, LawOfFirstRanges}

-- all rows are in range
abbrev pub AllPlaced : Settings → State → Type 0
AllPlaced g s = (w : ℕ) → All (IsPlaced g w) (s.rows w)

-- the row of a start in range is
placed_armed : (g : Settings) (w : ℕ) (rows : List Row) (timer : TimerRef) (start : Start) (deadline : Option ℕ) → timer.wheel ≡ w
    → IsSlot g timer.wheel timer.slot → start.dest < g.processes
    → All (IsPlaced g w) rows → All (IsPlaced g w) (rows ++ row_from timer start deadline)
placed_armed g w rows timer start None wheel place dest h = rw append-nil h
placed_armed g w rows timer start (Some d) wheel place dest h =
    let row : Row = record { timer = timer; deadline = deadline_told timer.generation d; dest = start.dest; msg = start.msg; kind = start.kind } in
    All-push (IsPlaced g w) rows row h (record { wheel = wheel; place = place; dest = dest })

placed_event : (g : Settings) (look : ℤ) (w : ℕ) (by : Actor) (with : Option Actor) (event : Event) (rows : List Row) → Keeps g by with event
    → All (IsPlaced g w) rows → All (IsPlaced g w) (rows_after g look w rows event)
placed_event g look w by with (Arm timer start) rows keeps h =
    cond_both (nat_eq timer.wheel w) (rows ++ row_from timer start (deadline_of g start look)) rows (All (IsPlaced g w))
    (λ is. placed_armed g w rows timer start (deadline_of g start look) (eqb-true timer.wheel w is) keeps.2 keeps.3 h)
    (λ not. h)
placed_event g look w by with _ rows keeps h = h

pub placed_next : (g : Settings) (s : State) (e : Entry) → AllPlaced g s → Can g s e → AllPlaced g (next g s e)
placed_next g s e h can w =
    cond_both (has_actor e (Wheel w)) (rows_after g (s.looked e.by) w (s.rows w) e.event) (s.rows w) (All (IsPlaced g w))
    (λ is. placed_event g (s.looked e.by) w e.by e.with e.event (s.rows w) can.keeps (h w)) (λ not. h w)

pub rows_placed : LawOfRowRanges
rows_placed g h w legal = kept_from g (AllPlaced g) (placed_next g) (opening g) h (λ v. All-nil (IsPlaced g v)) legal w

pub expired_placed : LawOfExpiredRanges
expired_placed g h w legal =
    All-weaker (IsExpired (state g h) w) (IsPlaced g w)
    (λ row is. of_row (IsPlaced g w) ((state g h).rows w) row.timer row (rows_placed g h w legal) is.stands)
    ((state g h).scheds w).expired (expired_timers g h w legal).each

pub first_placed : LawOfFirstRanges
first_placed g h w row legal first = first_at (IsPlaced g w) ((state g h).scheds w).expired row first (expired_placed g h w legal)
