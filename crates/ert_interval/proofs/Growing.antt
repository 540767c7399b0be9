-- Intervals stay in order while the history grows.

use Rattle.std.proofs.Common.{◌≡◌, ◌≢◌, ℕ, suc, ◌<◌, List, ◌∷◌, ◌++◌, length, slice_index_or, Some, None, sym, ap, subst, ◌∙◌, inl, inr, append_assoc}
use Rattle.ert_defs.specs.{Entries.arm_entry, Legal.{Legal, LegalFrom}, States.{State, state, run}, Timers.row_of, declared.entry.Entry.Entry, declared.settings.Settings.Settings, declared.timer.TimerRef.TimerRef}
use Rattle.ert_defs.proofs.{Runs.{legal_first, legal_then, state-append, exit_stays}, Slots.{IsOrdered, ordered}}
use Rattle.ert_interval.specs.{Intervals.{IsFiring, HasToldDeadline, IsAfter, AreFirings, IsPastExpiry, CannotGoOn, IsInState, IsIntervalOf, row_for}, declared.interval.Interval.Interval, declared.interval.IntervalState.IntervalState}
use Rattle.ert_interval.specs.{declared.interval.IntervalState.TheVariants.{Running, Waiting, Stopped, Ended}}
use Rattle.ert_interval.proofs.Steps.{AllSpare, row_stays, expired_stays, used_stays, done_stays, going_stays}

-- the same interval, in another state
abbrev pub with_state : Interval → IntervalState → Interval
with_state i st = record i { state = st }

-- and with the timers of `k`
abbrev pub with_timers : Interval → Interval → IntervalState → Interval
with_timers i k st = record i { state = st; firings = k.firings }

in_timers : (s : State) (i k : Interval) (st : IntervalState) → IsInState s i st → IsInState s (with_timers i k st) st
in_timers s i k Running is = is
in_timers s i k Waiting is = is
in_timers s i k Stopped is = is
in_timers s i k Ended is = is

-- the start of a timer stays
told_grows : (g : Settings) (h m : List Entry) (r : TimerRef) (wanted : ℕ) → HasToldDeadline g h r wanted → HasToldDeadline g (h ++ m) r wanted
told_grows g h m r wanted one = record {
  before = one.before;
  start = one.start;
  behind = one.behind ++ m;
  parted = ap (λ l. l ++ m) one.parted ∙ append_assoc one.before (arm_entry 0 r one.start ∷ one.behind) m;
  told = one.told;
}

pub firings_grow : (g : Settings) (h m : List Entry) (i : Interval) (st : IntervalState) → Legal g (h ++ m) → AreFirings g h i → AreFirings g (h ++ m) (with_state i st)
firings_grow g h m i st legal f =
    let s : State = state g h in
    let legal_h = legal_first g _ h m legal in
    let legal_m = legal_then g _ h m legal in
    let grown = sym (state-append g h m) in
    record {
      each = λ j d low.
          let one = f.each j d low in
          let r : TimerRef = slice_index_or i.firings.items j d in
          record {
            wheel = one.wheel;
            deadline = one.deadline;
            due = one.due;
            row = subst (λ (t : State). row_of (t.rows r.wheel) r ≡ Some (row_for i r one.deadline)) grown
                (row_stays g s m r (row_for i r one.deadline) one.row);
            told = told_grows g h m r one.deadline one.told;
          };
      expired = λ j d low.
          let r : TimerRef = slice_index_or i.firings.items j d in
          subst (λ (t : State). IsPastExpiry (t.status r)) grown (expired_stays g s m r (ordered g h legal_h) legal_m (f.expired j d low));
      after = λ j d low.
          let one = f.after j d low in
          record {
            before = one.before;
            behind = one.behind ++ m;
            parted = ap (λ l. l ++ m) one.parted ∙ append_assoc one.before one.behind m;
            expired = one.expired;
            unarmed = one.unarmed;
          };
    }

-- an interval is in order after more entries, in a state that fits those
pub kept_with : (g : Settings) (h m : List Entry) (i : Interval) (st : IntervalState) → Legal g (h ++ m) → IsIntervalOf g h i
    → IsInState (run g (state g h) m) i st → IsIntervalOf g (h ++ m) (with_state i st)
kept_with g h m i st legal kept is_in =
    let s : State = state g h in
    let legal_h = legal_first g _ h m legal in
    let legal_m = legal_then g _ h m legal in
    let grown = sym (state-append g h m) in
    record {
      wheel = kept.wheel;
      dest = kept.dest;
      before = kept.before;
      ends = kept.ends;
      due = kept.due;
      firings = firings_grow g h m i st legal kept.firings;
      used = subst (λ (t : State). t.status i.last ≢ None) grown (used_stays g s m i.last (ordered g h legal_h) legal_m kept.used);
      named = kept.named;
      on = kept.on;
      row = subst (λ (t : State). row_of (t.rows i.last.wheel) i.last ≡ Some (row_for i i.last i.deadline)) grown
          (row_stays g s m i.last (row_for i i.last i.deadline) kept.row);
      is_in = subst (λ (t : State). IsInState t (with_state i st) st) grown (in_timers (run g s m) i i st is_in);
    }

pub at_end_stays : (g : Settings) (s : State) (m : List Entry) (i : Interval) → CannotGoOn s i → CannotGoOn (run g s m) i
at_end_stays g s m i (inl exited) = inl (exit_stays g i.dest s m exited)
at_end_stays g s m i (inr high) = inr high

-- the last timer stays as the state of its interval says, while it isn't cancelled
pub in_stays : (g : Settings) (s : State) (m : List Entry) (i : Interval) (st : IntervalState) → IsOrdered s → LegalFrom g s m → AllSpare i.last m
    → s.status i.last ≢ None → row_of (s.rows i.last.wheel) i.last ≡ Some (row_for i i.last i.deadline) → IsInState s i st → IsInState (run g s m) i st
in_stays g s m i Running ordered legal spare used row is = going_stays g s m i.last (row_for i i.last i.deadline) legal spare row is
in_stays g s m i Waiting ordered legal spare used row is =
    (going_stays g s m i.last (row_for i i.last i.deadline) legal spare row is.0, (done_stays g s m i.last ordered legal (used, is.1)).1)
in_stays g s m i Stopped ordered legal spare used row is = (done_stays g s m i.last ordered legal (used, is)).1
in_stays g s m i Ended ordered legal spare used row is =
    ((done_stays g s m i.last ordered legal (used, is.0)).1, at_end_stays g s m i is.1)

-- an interval stays in order while its last timer isn't cancelled
pub kept_grows : (g : Settings) (h m : List Entry) (i : Interval) → Legal g (h ++ m) → AllSpare i.last m → IsIntervalOf g h i → IsIntervalOf g (h ++ m) i
kept_grows g h m i legal spare kept =
    kept_with g h m i i.state legal kept
    (in_stays g (state g h) m i i.state (ordered g h (legal_first g _ h m legal)) (legal_then g _ h m legal) spare kept.used kept.row kept.is_in)

-- an interval whose timers were moved to other memory
pub kept_moved : (g : Settings) (h : List Entry) (i k : Interval) → k.firings.items ≡ i.firings.items → IsIntervalOf g h i → IsIntervalOf g h (with_timers i k i.state)
kept_moved g h i k same kept =
    let s : State = state g h in
    let f = kept.firings in
    let at : (j : ℕ) (d : TimerRef) → slice_index_or i.firings.items j d ≡ slice_index_or k.firings.items j d =
    λ j d. ap (λ l. slice_index_or l j d) (sym same) in
    record {
      wheel = kept.wheel;
      dest = kept.dest;
      before = kept.before;
      ends = same ∙ kept.ends;
      due = kept.due;
      firings = record {
        each = λ j d low. subst (IsFiring g h (with_timers i k i.state) j) (at j d) (as_moved (f.each j d (subst (λ l. j < length l) same low)));
        expired = λ j d low. subst (λ r. IsPastExpiry (s.status r)) (at j d) (f.expired j d (subst (λ l. suc j < length l) same low));
        after = λ j d low.
            subst (λ r. IsAfter g h r (slice_index_or k.firings.items (suc j) d)) (at j d)
            (subst (IsAfter g h (slice_index_or i.firings.items j d)) (at (suc j) d) (f.after j d (subst (λ l. suc j < length l) same low)));
      };
      used = kept.used;
      named = kept.named;
      on = kept.on;
      row = kept.row;
      is_in = in_timers s i k i.state kept.is_in;
    }
  where
    as_moved : {j : ℕ} {r : TimerRef} → IsFiring g h i j r → IsFiring g h (with_timers i k i.state) j r
    as_moved one = record { wheel = one.wheel; deadline = one.deadline; due = one.due; row = one.row; told = one.told }
