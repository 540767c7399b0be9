-- The laws of a move: it changes one timer, which stands at a place.

use Rattle.std.proofs.Common.{◌≡◌, ◌≢◌, ◌∙◌, refl, sym, ap, inl, inr, ℕ, true, false, List, get_or, set}
use Rattle.std.proofs.lemmas.{Bool.{cases_Bool, cases_eq, and_right}, Option.{get_or_from_slice_get, same_Some}}
use Rattle.std.specs.Prelude.{slice_get}
use Rattle.ert_defs.proofs.ExpiredTimers.{same_timer_self, same_timer-false}
use Rattle.ert_defs.specs.{Timers.same_timer, declared.timer.Status.Status, declared.timer.Status.TheVariants.{Armed, Expired, Delivered, Cancelled, Orphaned, Dropped}, declared.timer.TimerRef.TimerRef}
use Rattle.ert_judge.specs.{Wheels.{same_status, moved_one, moved}, Indexes.{IsUnknown, StandsAt}, declared.state.wheels.Timer.Timer}
use Rattle.ert_judge.proofs.PlaceLaws.{map_same, map_at}

-- a timer of another reference doesn't move
other_stays : (r : TimerRef) (from to : Status) (t : Timer) → t.row.timer ≢ r → moved_one r from to t ≡ t
other_stays r from to t other = rw (same_timer-false t.row.timer r other) refl

same_status-true : (s t : Status) → same_status s t ≡ true → s ≡ t
same_status-true Armed Armed e = refl
same_status-true Expired Expired e = refl
same_status-true Delivered Delivered e = refl
same_status-true Cancelled Cancelled e = refl
same_status-true Orphaned Orphaned e = refl
same_status-true Dropped Dropped e = refl
same_status-true _ _ e = absurd cc

same_status-false : (s t : Status) → s ≢ t → same_status s t ≡ false
same_status-false s t other = elim (cases_Bool (same_status s t)) [
  | inl same ↦ absurd (other (same_status-true s t same))
  | inr apart ↦ apart
]

same_status_self : (s : Status) → same_status s s ≡ true
same_status_self Armed = refl
same_status_self Expired = refl
same_status_self Delivered = refl
same_status_self Cancelled = refl
same_status_self Orphaned = refl
same_status_self Dropped = refl

-- a move moves the timer that stands at a place
pub moved_at : (ts : List Timer) (r : TimerRef) (from to : Status) (p : ℕ) (t : Timer) → StandsAt ts r p t
    → t.status ≡ from → moved r from to ts ≡ set ts p (record { row = t.row; status = to })
moved_at ts r from to p t at is =
    let here : moved_one r from to t ≡ record { row = t.row; status = to } =
    rw (at.named, is, same_timer_self r, same_status_self from) refl in
    map_at (moved_one r from to) ts p t at.stands
    (λ q u stands other. other_stays r from to u (λ e. other (at.alone q u stands e)))
    ∙ ap (set ts p) here

-- and none where that has another status
pub moved_other : (ts : List Timer) (r : TimerRef) (from to : Status) (p : ℕ) (t : Timer) → StandsAt ts r p t
    → t.status ≢ from → moved r from to ts ≡ ts
moved_other ts r from to p t at other = map_same (moved_one r from to) ts (λ q u stands. elim (cases_eq q p) [
  | inl e ↦
      let same : u ≡ t = same_Some u t (sym stands ∙ (ap (slice_get ts) e ∙ at.stands)) in
      rw (same, same_status-false t.status from other, and_right (same_timer t.row.timer r) false refl) refl
  | inr apart ↦ other_stays r from to u (λ e. apart (at.alone q u stands e))
])

-- nor where no timer has the reference
pub moved_unknown : (ts : List Timer) (r : TimerRef) (from to : Status) → IsUnknown ts r → moved r from to ts ≡ ts
moved_unknown ts r from to unknown =
    map_same (moved_one r from to) ts (λ q u stands. other_stays r from to u (unknown q u stands))

-- a timer that is read at the place where one stands is that one
pub read_there : (ts now : List Timer) (r : TimerRef) (p : ℕ) (t u : Timer) → ts ≡ now → StandsAt now r p t
    → u ≡ get_or ts p u → u ≡ t
read_there ts now r p t u same at is =
    is ∙ get_or_from_slice_get ts p t u (ap (λ us. slice_get us p) same ∙ at.stands)

-- to put it back with another status is to move it
pub moved_there : (ts now : List Timer) (r : TimerRef) (from to : Status) (p : ℕ) (t u : Timer) → ts ≡ now
    → StandsAt now r p t → u ≡ get_or ts p u → t.status ≡ from
    → set ts p (record { row = u.row; status = to }) ≡ moved r from to now
moved_there ts now r from to p t u same at is was =
    let read = read_there ts now r p t u same at is in
    ap (λ (v : Timer). set ts p (record { row = v.row; status = to })) read
    ∙ (ap (λ us. set us p (record { row = t.row; status = to })) same ∙ sym (moved_at now r from to p t at was))
