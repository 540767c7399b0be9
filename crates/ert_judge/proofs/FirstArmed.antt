-- The first of the armed timers of a wheel, as a judge finds it and in the state that it keeps.

use Rattle.std.proofs.Common.{arith, ◌≡◌, ◌<◌, ◌≤◌, ◌≤ℤ◌, ◌∙◌, refl, sym, ap, subst, inl, inr, ℕ, ℤ, pos, true, false, nat_le, nat_lt, List, get_or, Some}
use Rattle.std.specs.Prelude.{option_map}
use Rattle.std.proofs.lemmas.{Bool.{cases_lt, lt-ltb, lt-leb, ltb-false}, Option.{slice_get_within, get_or_from_slice_get}}
use Rattle.ert_defs.specs.{Clocks.Clock, Legal.AllSettled, Milliseconds.down, Timers.row_of, declared.entry.Actor.Actor, declared.timer.Status.TheVariants.Armed, declared.timer.TimerRef.TimerRef}
use Rattle.ert_judge.proofs.{ArmedLaws.{settled_if, settled_each}, WheelLaws.row_of_rows, EventsExclude.settled_row, Knows.shown_all, Seen.never_next, WheelTests.settled_all}
use Rattle.ert_judge.specs.{Indexes.IsFirstArmed, Parts.{looks_in, look_of, status_at}, Wheels.{timers_at, timer_in, rows_of, is_settled, IsFirstDue, IsOwnOf}, declared.state.wheels.Timer.Timer, Breaks.{IsArmedTill, IsEarliestArmed}}
use Rattle.ert_judge.specs.{Breaks.{IsKeptBack, IsLater, IsSecond}, Shown.{shown, OwnTimers}, declared.judge.Judge.Judge}

-- the row and the status of a timer that is found
pub found_row : (c : Clock) (j : Judge) (timer : TimerRef) (t : Timer) → timer_in (timers_at j.timers timer.wheel) timer ≡ Some t
    → row_of ((shown c j).rows timer.wheel) timer ≡ Some t.row
found_row c j timer t found =
    row_of_rows (timers_at j.timers timer.wheel) timer ∙ ap (option_map (λ (u : Timer). u.row)) found

pub found_status : (j : Judge) (timer : TimerRef) (t : Timer) → timer_in (timers_at j.timers timer.wheel) timer ≡ Some t
    → t.status ≡ Armed → status_at j.timers timer ≡ Some Armed
found_status j timer t found armed = ap (option_map (λ (u : Timer). u.status)) found ∙ ap Some armed

-- a timer that is found armed is so in the state
pub found_armed : (c : Clock) (j : Judge) (timer : TimerRef) (t : Timer) → timer_in (timers_at j.timers timer.wheel) timer ≡ Some t
    → t.status ≡ Armed → IsArmedTill (shown c j) timer.wheel timer t.row.deadline
found_armed c j timer t found armed = record {
  row = t.row;
  stands = found_row c j timer t found;
  armed = found_status j timer t found armed;
  till = refl;
}

-- so is the first of those of a wheel
kept_armed : (c : Clock) (j : Judge) (w : ℕ) (t : Timer) → OwnTimers j → IsFirstArmed (timers_at j.timers w) t
    → IsArmedTill (shown c j) w t.row.timer t.row.deadline
kept_armed c j w t own is =
    let ts : List Timer = timers_at j.timers w in
    let one : get_or ts is.place t ≡ t = get_or_from_slice_get ts is.place t t is.stands in
    let mine : IsOwnOf w ts t = subst (IsOwnOf w ts) one (own w is.place t (slice_get_within ts is.place t is.stands)) in
    subst (λ n. IsArmedTill (shown c j) n t.row.timer t.row.deadline) mine.wheel
    (found_armed c j t.row.timer t (ap (λ n. timer_in (timers_at j.timers n) t.row.timer) mine.wheel ∙ is.named) is.armed)

pub first_seen : (c : Clock) (j : Judge) (w : ℕ) (t : Timer) → OwnTimers j → IsFirstArmed (timers_at j.timers w) t
    → IsEarliestArmed (shown c j) w t.row.timer t.row.deadline
first_seen c j w t own is = record {
  till = kept_armed c j w t own is;
  least = (settled_all (status_at j.timers) (λ d. nat_lt d t.row.deadline) (timers_at j.timers w) (shown_all j w own)).0 is.least;
}

-- where none is armed up to a deadline, all are settled
pub none_seen : (j : Judge) (w to : ℕ) → OwnTimers j → is_settled (λ d. true) (timers_at j.timers w) ≡ true
    → AllSettled (status_at j.timers) (λ d. nat_le d to) (rows_of (timers_at j.timers w))
none_seen j w to own none =
    (settled_all (status_at j.timers) (λ d. nat_le d to) (timers_at j.timers w) (shown_all j w own)).0
    (settled_if (λ d. nat_le d to) (timers_at j.timers w) (λ p t stands armed.
    let wrong : true ≡ false = settled_each (λ d. true) (timers_at j.timers w) none p t stands armed in absurd cc))

pub later_seen : (j : Judge) (w to : ℕ) (first : Timer) → OwnTimers j → IsFirstArmed (timers_at j.timers w) first → to < first.row.deadline
    → AllSettled (status_at j.timers) (λ d. nat_le d to) (rows_of (timers_at j.timers w))
later_seen j w to first own is late =
    (settled_all (status_at j.timers) (λ d. nat_le d to) (timers_at j.timers w) (shown_all j w own)).0
    (settled_if (λ d. nat_le d to) (timers_at j.timers w) (λ p t stands armed.
    let high = ltb-false t.row.deadline first.row.deadline
    (settled_each (λ d. nat_lt d first.row.deadline) (timers_at j.timers w) is.least p t stands armed) in
    lt-leb t.row.deadline to (omega arith)))

-- the list of a judge's timers, and the last look of an actor
abbrev looked : Judge → Actor → ℤ
looked j by = down j.settings (look_of (looks_in j.looks) by)

-- a timer that isn't the first that is due is kept back
pub kept_back : (c : Clock) (j : Judge) (by : Actor) (timer : TimerRef) (t : Timer) → OwnTimers j
    → timer_in (timers_at j.timers timer.wheel) timer ≡ Some t → t.status ≡ Armed → pos t.row.deadline ≤ℤ looked j by
    → (IsFirstDue (timers_at j.timers timer.wheel) timer (looked j by) → ⊥)
    → IsKeptBack j.settings (shown c j) by timer t.row.deadline
kept_back c j by timer t own found armed due never = record {
  armed = found_armed c j timer t found armed;
  due = due;
  never = never_next c j by timer own never;
}

-- by one with an earlier deadline
pub later_first : (c : Clock) (j : Judge) (by : Actor) (timer : TimerRef) (t first : Timer) → OwnTimers j
    → IsKeptBack j.settings (shown c j) by timer t.row.deadline
    → IsFirstArmed (timers_at j.timers timer.wheel) first → first.row.deadline < t.row.deadline
    → IsLater j.settings (shown c j) by timer first.row.timer first.row.deadline
later_first c j by timer t first own kept is sooner =
    record { own = t.row.deadline; kept = kept; before = first_seen c j timer.wheel first own is; sooner = sooner }

-- a timer is armed no earlier than the first
no_sooner : (c : Clock) (j : Judge) (timer : TimerRef) (d : ℕ) (first : Timer) → OwnTimers j
    → IsArmedTill (shown c j) timer.wheel timer d → IsFirstArmed (timers_at j.timers timer.wheel) first → first.row.deadline ≤ d
no_sooner c j timer d first own armed is = elim (cases_lt d first.row.deadline) [
  | inl low ↦
      absurd (settled_row (status_at j.timers) (λ e. nat_lt e first.row.deadline) (rows_of (timers_at j.timers timer.wheel)) timer
      armed.row (first_seen c j timer.wheel first own is).least armed.stands
      (lt-ltb armed.row.deadline first.row.deadline (subst (λ n. n < first.row.deadline) armed.till low)) armed.armed)
  | inr high ↦ high
]

-- or by another with the same
pub second_first : (c : Clock) (j : Judge) (by : Actor) (timer : TimerRef) (t first : Timer) → OwnTimers j
    → IsKeptBack j.settings (shown c j) by timer t.row.deadline
    → (IsFirstDue (timers_at j.timers timer.wheel) timer (looked j by) → ⊥)
    → IsFirstArmed (timers_at j.timers timer.wheel) first → t.row.deadline ≤ first.row.deadline
    → IsSecond j.settings (shown c j) by timer
second_first c j by timer t first own kept never is late =
    let low = no_sooner c j timer t.row.deadline first own kept.armed is in
    let same : first.row.deadline ≡ t.row.deadline = omega arith in
    record {
      own = t.row.deadline;
      kept = kept;
      first = first.row.timer;
      before = subst (λ d. IsEarliestArmed (shown c j) timer.wheel first.row.timer d) same (first_seen c j timer.wheel first own is);
      other = λ e. never (record {
        place = is.place;
        within = slice_get_within (timers_at j.timers timer.wheel) is.place first is.stands;
        first = record {
          timer = first;
          stands = is.stands;
          due = record { named = e; due = subst (λ d. pos d ≤ℤ looked j by) (sym same) kept.due };
          before = is.first.before;
          behind = is.first.behind;
        };
      });
    }

-- none is armed where this one is: that can't be
pub none_first : (c : Clock) (j : Judge) (by : Actor) (timer : TimerRef) (t : Timer) → OwnTimers j
    → IsKeptBack j.settings (shown c j) by timer t.row.deadline
    → is_settled (λ d. true) (timers_at j.timers timer.wheel) ≡ true → IsSecond j.settings (shown c j) by timer
none_first c j by timer t own kept none =
    absurd (settled_row (status_at j.timers) (λ e. true) (rows_of (timers_at j.timers timer.wheel)) timer kept.armed.row
    ((settled_all (status_at j.timers) (λ e. true) (timers_at j.timers timer.wheel) (shown_all j timer.wheel own)).0 none)
    kept.armed.stands refl kept.armed.armed)
