-- The tests of a wheel's timers are those of the model.

use Rattle.std.proofs.Common.{◌≡◌, ◌≢◌, ◌↔◌, ◌∙◌, refl, sym, ap, subst, arith, ℕ, ℤ, pos, ◌+◌, ◌<◌, ◌≤ℤ◌, Bool, true, false, not, ◌&&◌, nat_le, nat_lt, List, [], ◌∷◌, ◌++◌, length, take, drop, Option, Some, None}
use Rattle.std.proofs.{lemmas.Bool.{and_parts, and_from, and_right}, lemmas.List.{map-append, take-append-drop, drop_more, take-map, drop-map, take_at, get_or_at, length-map, length-append}, lemmas.List.Elements.{All-head, All-tail}}
use Rattle.std.proofs.{lemmas.List.Elements.{All-take, All-drop}, lemmas.Option.{slice_get-map, slice_get_within, slice_get-get_or, get_or_from_slice_get}, Math.Seq.drop-append-add}
use Rattle.std.specs.Prelude.{option_map, slice_get}
use Rattle.ert_defs.proofs.Runs.{carry}
use Rattle.ert_defs.specs.{Laws.is_armed, Legal.{AllSettled, IsNext}, Milliseconds.down, States.State, Timers.Row, declared.entry.Actor.Actor, declared.settings.Settings.Settings, declared.timer.Status.Status}
use Rattle.ert_defs.specs.{declared.timer.Status.TheVariants.{Armed, Expired, Delivered, Cancelled, Orphaned, Dropped}, declared.timer.TimerRef.TimerRef}
use Rattle.ert_judge.specs.{Wheels.{rows_of, is_settled, IsFirstDue, AreShown}, declared.state.wheels.Timer.Timer}

-- a timer's status by the test of the model
one_settled : (b : Bool) (status : Status) (x : Option Status) → x ≡ Some status
    → (not (is_armed (Some status) && b) ≡ true) ↔ (b ≡ true → x ≢ Some Armed)
one_settled false status x shown = ((λ _ h. absurd cc), (λ _. rw (and_right (is_armed (Some status)) false refl) refl))
one_settled true Armed x shown = ((λ h. absurd cc), (λ h. absurd (h refl shown)))
one_settled true Expired x shown = ((λ _ _ h. cc), (λ _. refl))
one_settled true Delivered x shown = ((λ _ _ h. cc), (λ _. refl))
one_settled true Cancelled x shown = ((λ _ _ h. cc), (λ _. refl))
one_settled true Orphaned x shown = ((λ _ _ h. cc), (λ _. refl))
one_settled true Dropped x shown = ((λ _ _ h. cc), (λ _. refl))

-- none of the timers that pass the test is armed exactly where the model says so of their rows
pub settled_all : (status : TimerRef → Option Status) (test : ℕ → Bool) (ts : List Timer) → AreShown status ts
    → (is_settled test ts ≡ true) ↔ AllSettled status test (rows_of ts)
settled_all status test [] shown = ((λ _. tt), (λ _. refl))
settled_all status test (t ∷ ts) shown =
    let P : Timer → Type 0 = λ u. status u.row.timer ≡ Some u.status in
    let one = one_settled (test t.row.deadline) t.status (status t.row.timer) (All-head P t ts shown) in
    let more = settled_all status test ts (All-tail P t ts shown) in
    let here : Bool = not (is_armed (Some t.status) && test t.row.deadline) in (
      λ h. let parts = and_parts here (is_settled test ts) h in (one.0 parts.0, more.0 parts.1),
      λ h. and_from here (is_settled test ts) (one.1 h.0) (more.1 h.1),
    )

-- the timers are those before a place, the one there, and those behind it
split_at : (ts : List Timer) (i : ℕ) (t : Timer) → slice_get ts i ≡ Some t → take i ts ++ (t ∷ drop (i + 1) ts) ≡ ts
split_at ts i t stands =
    let rest : drop i ts ≡ t ∷ drop (i + 1) ts =
    drop_more ts i t (slice_get_within ts i t stands)
    ∙ ap (λ u. u ∷ drop (i + 1) ts) (get_or_from_slice_get ts i t t stands) in
    ap (λ l. take i ts ++ l) (sym rest) ∙ take-append-drop i ts

-- the timer of a row
record HasTimer (x : Option Timer) (row : Row) : Type 0 where
  timer : Timer
  is : x ≡ Some timer
  same : timer.row ≡ row

has_timer : (x : Option Timer) (row : Row) → option_map (λ t. t.row) x ≡ Some row → HasTimer x row
has_timer None row h = absurd cc
has_timer (Some t) row h = record { timer = t; is = refl; same = cc }

-- where the rows of timers split, so do the timers
record SplitsAs (ts : List Timer) (before : List Row) (row : Row) (behind : List Row) : Type 0 where
  within : length before < length ts
  has : HasTimer (slice_get ts (length before)) row
  front : rows_of (take (length before) ts) ≡ before
  back : rows_of (drop (length before + 1) ts) ≡ behind

splits_as : (ts : List Timer) (before : List Row) (row : Row) (behind : List Row)
    → rows_of ts ≡ before ++ (row ∷ behind) → SplitsAs ts before row behind
splits_as ts before row behind is =
    let i : ℕ = length before in
    let f : Timer → Row = λ t. t.row in
    let count : length ts ≡ length before + length (row ∷ behind) =
    sym (length-map ts f) ∙ (ap length is ∙ length-append before (row ∷ behind)) in
    let inside : i < length (before ++ (row ∷ behind)) = omega (arith, length-append before (row ∷ behind)) in
    let there : slice_get (before ++ (row ∷ behind)) i ≡ Some row =
    slice_get-get_or (before ++ (row ∷ behind)) i row inside ∙ ap Some (get_or_at before row behind row i refl) in
    record {
      within = omega arith;
      has = has_timer (slice_get ts i) row (sym (slice_get-map f ts i) ∙ (ap (λ l. slice_get l i) is ∙ there));
      front = sym (take-map f i ts) ∙ (ap (take i) is ∙ take_at before (row ∷ behind) i refl);
      back = sym (drop-map f (i + 1) ts) ∙ (ap (drop (i + 1)) is ∙ drop-append-add before (row ∷ behind) 1);
    }

-- the first timer that is due is the next of the model
next_of_first : (g : Settings) (s : State) (by : Actor) (timer : TimerRef) (ts : List Timer) (now : ℤ)
    → AreShown s.status ts → s.rows timer.wheel ≡ rows_of ts → now ≡ down g (s.looked by)
    → IsFirstDue ts timer now → IsNext g s by timer
next_of_first g s by timer ts now shown rows look is =
    let i = is.place in
    let t = is.first.timer in
    let P : Timer → Type 0 = λ u. s.status u.row.timer ≡ Some u.status in
    record {
      before = rows_of (take i ts);
      row = t.row;
      behind = rows_of (drop (i + 1) ts);
      stands = rows ∙ (ap rows_of (sym (split_at ts i t is.first.stands))
          ∙ map-append (λ (u : Timer). u.row) (take i ts) (t ∷ drop (i + 1) ts));
      named = is.first.due.named;
      due = subst (λ n. pos t.row.deadline ≤ℤ n) look is.first.due.due;
      first_before = (settled_all s.status (λ d. nat_le d t.row.deadline) (take i ts) (All-take P i ts shown)).0
          is.first.before;
      first_behind = (settled_all s.status (λ d. nat_lt d t.row.deadline) (drop (i + 1) ts)
          (All-drop P (i + 1) ts shown)).0 is.first.behind;
    }

-- the next timer of the model is the first that is due
first_of_next : (g : Settings) (s : State) (by : Actor) (timer : TimerRef) (ts : List Timer) (now : ℤ)
    → AreShown s.status ts → s.rows timer.wheel ≡ rows_of ts → now ≡ down g (s.looked by)
    → IsNext g s by timer → IsFirstDue ts timer now
first_of_next g s by timer ts now shown rows look is =
    let i : ℕ = length is.before in
    let splits = splits_as ts is.before is.row is.behind (sym rows ∙ is.stands) in
    let t : Timer = splits.has.timer in
    let same : is.row ≡ t.row = sym splits.has.same in
    let P : Timer → Type 0 = λ u. s.status u.row.timer ≡ Some u.status in
    record {
      place = i;
      within = splits.within;
      first = record {
        timer = t;
        stands = splits.has.is;
        due = record {
          named = ap (λ (r : Row). r.timer) splits.has.same ∙ is.named;
          due = subst (λ n. pos t.row.deadline ≤ℤ n) (sym look)
              (subst (λ (r : Row). pos r.deadline ≤ℤ down g (s.looked by)) same is.due);
        };
        before = (settled_all s.status (λ d. nat_le d t.row.deadline) (take i ts) (All-take P i ts shown)).1
            (carry (AllSettled s.status (λ d. nat_le d t.row.deadline)) splits.front
            (subst (λ (r : Row). AllSettled s.status (λ d. nat_le d r.deadline) is.before) same is.first_before));
        behind = (settled_all s.status (λ d. nat_lt d t.row.deadline) (drop (i + 1) ts)
            (All-drop P (i + 1) ts shown)).1
            (carry (AllSettled s.status (λ d. nat_lt d t.row.deadline)) splits.back
            (subst (λ (r : Row). AllSettled s.status (λ d. nat_lt d r.deadline) is.behind) same is.first_behind));
      };
    }

-- a timer is the first of its wheel that is due exactly where it is the next of the model
pub first_is_next : (g : Settings) (s : State) (by : Actor) (timer : TimerRef) (ts : List Timer) (now : ℤ)
    → AreShown s.status ts → s.rows timer.wheel ≡ rows_of ts → now ≡ down g (s.looked by)
    → IsFirstDue ts timer now ↔ IsNext g s by timer
first_is_next g s by timer ts now shown rows look =
    (next_of_first g s by timer ts now shown rows look, first_of_next g s by timer ts now shown rows look)
