-- How an interval goes on while the world's history grows.

use Rattle.std.proofs.Common.{◌≡◌, ◌≢◌, ℕ, ◌≤◌, ℤ, false, List, [], ◌++◌, Some, None, sym, ap, subst, ◌∙◌, append_assoc, append-nil}
use Rattle.ert_defs.specs.{Legal.{Legal, LegalFrom}, Milliseconds.deadline_of, States.{State, state, run}, declared.entry.Entry.Entry, declared.settings.Settings.Settings, declared.timer.Status.TheVariants.Armed}
use Rattle.ert_defs.specs.{declared.timer.TimerRef.TimerRef}
use Rattle.ert_defs.proofs.Slots.{IsOrdered, ordered}
use Rattle.ert_interval.specs.{Calls.{Still, AreStill, EndsAs}, Deadlines.{base, start_at, time_of_deadline}, Intervals.{IsOpen, IsGoing, IsInState, CannotGoOn, IsIntervalOf}, declared.interval.Interval.Interval}
use Rattle.ert_interval.specs.{declared.interval.IntervalState.IntervalState, declared.interval.IntervalState.TheVariants.{Running, Waiting, Stopped, Ended}}
use Rattle.ert_interval.proofs.{Deadlines.deadline_back, Growing.{with_state, with_timers, kept_with, kept_moved, kept_grows, at_end_stays}, Plain.{plain_spares, still_plain}, Reading.{grown_legal, piece_legal, piece_state}, Steps.AllSpare}
use Rattle.ert_interval.proofs.{Steps.{done_stays, used_stays, none_from}, Still.{still_armed, still_lives, still_full, still_append}}
use Rattle.ert_world.specs.Worlds.{Seen}

-- one growth and then another
pub still_then : (a b c : Seen) → Still a b → Still b c → Still a c
still_then a b c one other = record {
  piece = one.piece ++ other.piece;
  grown = other.grown ∙ (ap (λ l. l ++ other.piece) one.grown ∙ append_assoc a.history one.piece other.piece);
  still = still_append one.piece other.piece one.still other.still;
  settings = other.settings ∙ one.settings;
  next = other.next ∙ one.next;
}

-- an interval stays in order over entries that don't cancel its last timer
pub spare_kept : (a b : Seen) (piece : List Entry) (i : Interval) → b.settings ≡ a.settings → b.history ≡ a.history ++ piece → AllSpare i.last piece
    → Legal b.settings b.history → IsIntervalOf a.settings a.history i → IsIntervalOf b.settings b.history i
spare_kept a b piece i settings grown spare legal kept =
    subst (λ x. IsIntervalOf x b.history i) (sym settings)
    (subst (λ l. IsIntervalOf a.settings l i) (sym grown) (kept_grows a.settings a.history piece i (grown_legal a b piece settings grown legal) spare kept))

pub still_kept : (a b : Seen) (i : Interval) → Still a b → Legal b.settings b.history → IsIntervalOf a.settings a.history i → IsIntervalOf b.settings b.history i
still_kept a b i still legal kept =
    spare_kept a b still.piece i still.settings still.grown (plain_spares i.last still.piece (still_plain still.piece still.still)) legal kept

-- and takes another state that fits
pub in_other : (g : Settings) (h : List Entry) (i : Interval) (st : IntervalState) → Legal g h → IsIntervalOf g h i → IsInState (state g h) i st
    → IsIntervalOf g h (with_state i st)
in_other g h i st legal kept is_in =
    subst (λ l. IsIntervalOf g l (with_state i st)) (append-nil h)
    (kept_with g h [] i st (subst (Legal g) (sym (append-nil h)) legal) kept is_in)

-- an open interval goes on
pub open_going : (s : State) (i : Interval) (st : IntervalState) → IsOpen st → IsInState s i st → IsGoing (s.status i.last) (s.exited i.dest)
open_going s i Running is_open is_in = is_in
open_going s i Waiting is_open is_in = is_in.0
open_going s i Stopped is_open is_in = absurd is_open
open_going s i Ended is_open is_in = absurd is_open

-- an open interval whose last timer is armed runs
pub armed_runs : (g : Settings) (s : State) (i : Interval) (st : IntervalState) → IsOpen st → IsInState s i st → s.status i.last ≡ Some Armed → EndsAs g s i st
armed_runs g s i Running is_open is_in armed = armed
armed_runs g s i Waiting is_open is_in armed = absurd (is_in.1 armed)
armed_runs g s i Stopped is_open is_in armed = absurd is_open
armed_runs g s i Ended is_open is_in armed = absurd is_open

-- what is so of the state of an interval stays so
pub ends_stay : (a b : Seen) (i : Interval) (st : IntervalState) → Still a b → Legal a.settings a.history → Legal b.settings b.history
    → (state a.settings a.history).status i.last ≢ None
    → EndsAs a.settings (state a.settings a.history) i st → EndsAs b.settings (state b.settings b.history) i st
ends_stay a b i st still legal_a legal used ends =
    let g : Settings = a.settings in
    subst (λ (x : Settings). EndsAs x (state b.settings b.history) i st) (sym still.settings)
    (subst (λ t. EndsAs g t i st) (sym (piece_state a b still.piece still.settings still.grown))
    (over g (state g a.history) still.piece (ordered g a.history legal_a) (piece_legal a b still.piece still.settings still.grown legal) still.still used st ends))
  where
    over : (g : Settings) (s : State) (m : List Entry) → IsOrdered s → LegalFrom g s m → AreStill m → s.status i.last ≢ None → (st : IntervalState)
        → EndsAs g s i st → EndsAs g (run g s m) i st
    over g s m order legal still used Running ends = still_armed g s m i.last still ends
    over g s m order legal still used Waiting ends =
        (still_full g s m i.wheel legal still ends.0, still_lives g s m i.dest still ends.1, ends.2)
    over g s m order legal still used Stopped ends = ends
    over g s m order legal still used Ended ends = ((done_stays g s m i.last order legal (used, ends.0)).1, at_end_stays g s m i ends.1)

-- a deadline within its limits is that of a start at its time
pub due_at : (g : Settings) (d dest msg : ℕ) → d ≤ 8796093022207 → (look : ℤ) → deadline_of g (start_at (time_of_deadline g d) dest msg) look ≡ Some d
due_at g d dest msg low look = deadline_back d (base g) low

pub lives_still : (a b : Seen) (p : ℕ) → Still a b → (state a.settings a.history).exited p ≡ false → (state b.settings b.history).exited p ≡ false
lives_still a b p still lives =
    subst (λ (t : State). t.exited p ≡ false) (sym (piece_state a b still.piece still.settings still.grown))
    (still_lives a.settings (state a.settings a.history) still.piece p still.still lives)

-- an interval that isn't armed waits
pub waits : (a b : Seen) (i k : Interval) → Still a b → Legal a.settings a.history → Legal b.settings b.history → IsIntervalOf a.settings a.history i
    → IsOpen i.state → (state a.settings a.history).status i.last ≢ Some Armed → k.firings.items ≡ i.firings.items
    → IsIntervalOf b.settings b.history (with_timers i k Waiting)
waits a b i k still legal_a legal kept is_open other same =
    let g : Settings = a.settings in
    let before : IsIntervalOf g a.history (with_state i Waiting) =
    in_other g a.history i Waiting legal_a kept (open_going (state g a.history) i i.state is_open kept.is_in, other) in
    kept_moved b.settings b.history (with_state i Waiting) k same (still_kept a b (with_state i Waiting) still legal before)

-- a timer that was never armed was never armed before
pub new_before : (a b : Seen) (r : TimerRef) → Still a b → Legal a.settings a.history → Legal b.settings b.history
    → (state b.settings b.history).status r ≡ None → (state a.settings a.history).status r ≡ None
new_before a b r still legal_a legal none =
    let g : Settings = a.settings in
    none_from ((state g a.history).status r) (λ some.
    used_stays g (state g a.history) still.piece r (ordered g a.history legal_a) (piece_legal a b still.piece still.settings still.grown legal) some
    (sym (ap (λ (t : State). t.status r) (piece_state a b still.piece still.settings still.grown)) ∙ none))

-- an interval ends
pub ended : (a b : Seen) (i : Interval) → Still a b → Legal b.settings b.history → IsIntervalOf a.settings a.history i
    → (state b.settings b.history).status i.last ≢ Some Armed → CannotGoOn (state b.settings b.history) i → IsIntervalOf b.settings b.history (with_state i Ended)
ended a b i still legal kept other at_end =
    in_other b.settings b.history i Ended legal (still_kept a b i still legal kept) (other, at_end)

-- a timer that isn't armed isn't armed later
pub other_later : (a b : Seen) (i : Interval) → Still a b → Legal a.settings a.history → Legal b.settings b.history → IsIntervalOf a.settings a.history i
    → (state a.settings a.history).status i.last ≢ Some Armed → (state b.settings b.history).status i.last ≢ Some Armed
other_later a b i still legal_a legal kept other =
    let g : Settings = a.settings in
    subst (λ (t : State). t.status i.last ≢ Some Armed) (sym (piece_state a b still.piece still.settings still.grown))
    (done_stays g (state g a.history) still.piece i.last (ordered g a.history legal_a) (piece_legal a b still.piece still.settings still.grown legal)
    (kept.used, other)).1
