-- What a stop leaves.

use Rattle.std.proofs.Common.{◌≡◌, ◌≢◌, ◌↔◌, ℕ, ℤ, true, false, List, [], ◌∷◌, Option, Some, None, refl, sym, ap, subst, ◌∙◌}
use Rattle.ert_effects.specs.TimerCalls.{Cancels, cancel_entries}
use Rattle.ert_defs.specs.{Entries.{look_entry, peek_entry, cancel_entry}, Legal.{Legal, LegalFrom}, States.{State, state, run}, Timers.{Row, row_of, settled_as}, declared.entry.Actor.TheVariants.Caller, declared.entry.Entry.Entry}
use Rattle.ert_defs.specs.{declared.settings.Settings.Settings, declared.timer.Status.Status, declared.timer.Status.TheVariants.{Armed, Expired, Delivered, Cancelled, Orphaned, Dropped}, declared.timer.TimerRef.TimerRef}
use Rattle.ert_defs.specs.{declared.entry.Event.Event, declared.entry.Event.TheVariants.{Look, Peek, Cancel}}
use Rattle.ert_defs.proofs.ExpiredTimers.{same_timer_self, same_timer-false}
use Rattle.ert_interval.specs.{Intervals.{IsIntervalOf, IsOpen, row_for}, declared.interval.Interval.Interval, declared.interval.IntervalState.IntervalState, declared.interval.IntervalState.TheVariants.{Running, Waiting, Stopped, Ended}}
use Rattle.ert_interval.specs.{Calls.{StopsOpen, StopsIn}, Spared.{CancelsOnly, CancelOnly}}
use Rattle.ert_interval.proofs.{Steps.{spares, AllSpare, asks, NoneAsks}, Growing.{with_state, kept_with}, Reading.{grown_legal, piece_legal, left_armed}}
use Rattle.ert_world.specs.Worlds.{Seen, Goes, By}

settled_other : (x : Option Status) → settled_as Cancelled x ≢ Some Armed
settled_other None = λ is. absurd cc
settled_other (Some Armed) = λ is. absurd cc
settled_other (Some Expired) = λ is. absurd cc
settled_other (Some Delivered) = λ is. absurd cc
settled_other (Some Dropped) = λ is. absurd cc
settled_other (Some Cancelled) = λ is. absurd cc
settled_other (Some Orphaned) = λ is. absurd cc

-- what a cancel of a timer that has a row answers and leaves
pub record IsCancelled (g : Settings) (s : State) (timer : TimerRef) (left : Option ℕ) (es : List Entry) : Type 0 where
  pub none : (left ≡ None) ↔ (s.status timer ≢ Some Armed)
  pub after : (run g s es).status timer ≢ Some Armed

cancels_at : (g : Settings) (s : State) (timer : TimerRef) (row : Row) (now : ℤ) (found left : Option ℕ) (es : List Entry)
    → es ≡ look_entry (Caller 0) now ∷ cancel_entries true (Caller 0) timer found left → (found ≡ None → left ≡ None) → LegalFrom g s es
    → row_of (s.rows timer.wheel) timer ≡ Some row → IsCancelled g s timer left es
cancels_at g s timer row now None left es is quiet legal stands =
    let fs : List Entry = look_entry (Caller 0) now ∷ (peek_entry (Caller 0) timer None ∷ []) in
    let legal_f : LegalFrom g s fs = subst (LegalFrom g s) is legal in
    let both = left_armed g now (s.status timer) (row_of (s.rows timer.wheel) timer) row stands in
    let other : s.status timer ≢ Some Armed = both.0 (sym legal_f.1.0.found) in
    record {
      none = (λ _. other, λ _. quiet refl);
      after = subst (λ l. (run g s l).status timer ≢ Some Armed) (sym is) other;
    }
cancels_at g s timer row now (Some n) left es is quiet legal stands =
    let fs : List Entry = look_entry (Caller 0) now ∷ (peek_entry (Caller 0) timer (Some n) ∷ (cancel_entry (Caller 0) timer left ∷ [])) in
    let legal_f : LegalFrom g s fs = subst (LegalFrom g s) is legal in
    let both = left_armed g now (s.status timer) (row_of (s.rows timer.wheel) timer) row stands in
    let found = legal_f.1.1.0.found in
    let left_none : (run g s fs).status timer ≢ Some Armed = rw (same_timer_self timer) (settled_other (s.status timer)) in
    record {
      none = (λ none. both.0 (sym found ∙ none), λ other. found ∙ both.1 other);
      after = subst (λ l. (run g s l).status timer ≢ Some Armed) (sym is) left_none;
    }

pub cancelled : (a b : Seen) (i : Interval) (left : Option ℕ) → Legal b.settings b.history → IsIntervalOf a.settings a.history i
    → (goes : Goes a (By a (λ g. Cancels g (Caller 0) i.last left)) b) (lone : a.next ≡ 1)
    → IsCancelled a.settings (state a.settings a.history) i.last left (goes.lone lone).piece
cancelled a b i left legal kept goes lone =
    let grows = goes.lone lone in
    let c = grows.made in
    cancels_at a.settings (state a.settings a.history) i.last (row_for i i.last i.deadline) c.now c.found left grows.piece
    (c.entries ∙ ap (λ x. look_entry (Caller 0) c.now ∷ cancel_entries x (Caller 0) i.last c.found left) kept.named) c.quiet
    (piece_legal a b grows.piece goes.settings grows.grown legal) kept.row

pub stopped_kept : (a b : Seen) (i : Interval) (left : Option ℕ) → Legal b.settings b.history → IsIntervalOf a.settings a.history i
    → Goes a (By a (λ g. Cancels g (Caller 0) i.last left)) b → a.next ≡ 1 → IsIntervalOf b.settings b.history (with_state i Stopped)
stopped_kept a b i left legal kept goes lone =
    let grows = goes.lone lone in
    subst (λ x. IsIntervalOf x b.history (with_state i Stopped)) (sym goes.settings)
    (subst (λ l. IsIntervalOf a.settings l (with_state i Stopped)) (sym grows.grown)
    (kept_with a.settings a.history grows.piece i Stopped (grown_legal a b grows.piece goes.settings grows.grown legal) kept
    (cancelled a b i left legal kept goes lone).after))

pub stops_open : (old : Seen) (i : Interval) (left : Option ℕ) (new : Seen) (j : Interval) (st : IntervalState) → IsOpen st → StopsOpen old i left new j
    → StopsIn st old i left new j
stops_open old i left new j Running is_open stops = stops
stops_open old i left new j Waiting is_open stops = stops
stops_open old i left new j Stopped is_open stops = absurd is_open
stops_open old i left new j Ended is_open stops = absurd is_open

-- entries that cancel only one timer spare another
pub cancel_spares : (timer r : TimerRef) (es : List Entry) → CancelOnly timer es → timer ≢ r → AllSpare r es
cancel_spares timer r [] only other = tt
cancel_spares timer r (e ∷ es) only other = (at e.event only.0, cancel_spares timer r es only.1 other)
  where
    at : (event : Event) → CancelsOnly timer event → spares r event
    at (Look now) only = tt
    at (Peek t left) only = tt
    at (Cancel t left) only = same_timer-false t r (λ same. other (sym only ∙ same))
    at _ only = absurd only

pub cancel_asks : (timer : TimerRef) (es : List Entry) → CancelOnly timer es → NoneAsks es
cancel_asks timer [] only = tt
cancel_asks timer (e ∷ es) only = (at e.event only.0, cancel_asks timer es only.1)
  where
    at : (event : Event) → CancelsOnly timer event → asks event ≡ false
    at (Look now) only = refl
    at (Peek t left) only = refl
    at (Cancel t left) only = refl
    at _ only = absurd only
