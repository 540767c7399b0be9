-- Each timer that was ever armed has a row.

use Rattle.std.proofs.Common.{◌≡◌, ◌≢◌, ℕ, ℤ, Bool, true, false, cond, ◌&&◌, List, [], ◌∷◌, ◌++◌, All, Option, Some, None, refl, sym, subst, ◌∙◌, eq-eqb}
use Rattle.std.proofs.lemmas.{Bool.and_parts, List.Elements.{All-head, All-tail}}
use Rattle.ert_defs.specs.{Actors.has_actor, Legal.{Can, Known, Legal}, Milliseconds.deadline_of, States.{State, opening, next, state}, Timers.{Row, Stands, deadline_told, row_from, rows_after, row_of, same_timer, status_after}}
use Rattle.ert_defs.specs.{declared.entry.Actor.Actor, declared.entry.Actor.TheVariants.Wheel, declared.entry.Entry.Entry, declared.entry.Event.Event, declared.entry.Event.TheVariants.Arm, declared.settings.Settings.Settings}
use Rattle.ert_defs.specs.{declared.timer.Start.Start, declared.timer.TimerRef.TimerRef}
use Rattle.ert_defs.proofs.{ExpiredTimers.{row_kept, same_timer_self}, Runs.kept_from, Slots.same_timer-true, Statuses.{Forward, arms, forward_after}}

-- each timer that was ever armed has a row
abbrev pub AllStand : State → Type 0
AllStand s = (r : TimerRef) → s.status r ≢ None → Stands (s.rows r.wheel) r

-- the row of a reference is among rows with one for it at their end
first_or : (b : Bool) (x : Row) (o : Option Row) → ((y : Row) × (o ≡ Some y)) → (y : Row) × (cond b (Some x) o ≡ Some y)
first_or true x o found = (x, refl)
first_or false x o found = found

stands_last : (rows : List Row) (row : Row) → Stands (rows ++ row ∷ []) row.timer
stands_last [] row = record { row = row; is = rw (same_timer_self row.timer) refl }
stands_last (x ∷ rows) row =
    let more = stands_last rows row in
    let found = first_or (same_timer x.timer row.timer) x (row_of (rows ++ row ∷ []) row.timer) (more.row, more.is) in
    record { row = found.0; is = found.1 }

-- a timer that is armed has a row
stands_from : (rows : List Row) (timer : TimerRef) (start : Start) (deadline : Option ℕ) → deadline ≢ None
    → Stands (rows ++ row_from timer start deadline) timer
stands_from rows timer start None some_deadline = absurd (some_deadline refl)
stands_from rows timer start (Some d) some_deadline =
    stands_last rows (record { timer = timer; deadline = deadline_told timer.generation d; dest = start.dest; msg = start.msg; kind = start.kind })

stands_armed : (g : Settings) (look : ℤ) (rows : List Row) (timer : TimerRef) (start : Start) → deadline_of g start look ≢ None
    → Stands (cond true (rows_after g look timer.wheel rows (Arm timer start)) rows) timer
stands_armed g look rows timer start due =
    rw (eq-eqb timer.wheel timer.wheel refl) (stands_from rows timer start (deadline_of g start look) due)

-- one that isn't keeps its row
stands_kept : (g : Settings) (look : ℤ) (rows : List Row) (r : TimerRef) (b : Bool) (event : Event) → Stands rows r
    → Stands (cond b (rows_after g look r.wheel rows event) rows) r
stands_kept g look rows r b event stands = record {
  row = stands.row;
  is = row_kept g look r.wheel rows stands.row r b event stands.is;
}

stands_quiet : (g : Settings) (s : State) (look : ℤ) (r : TimerRef) (b : Bool) (event : Event) → (b && arms event r) ≡ false
    → (s.status r ≢ None → Stands (s.rows r.wheel) r)
    → status_after r b (s.status r) event ≢ None → Stands (cond b (rows_after g look r.wheel (s.rows r.wheel) event) (s.rows r.wheel)) r
stands_quiet g s look r b event none stand used =
    stands_kept g look (s.rows r.wheel) r b event
    (stand (λ is. used (subst (λ x. Forward x (status_after r b (s.status r) event)) is (forward_after r b (s.status r) event none))))

no_and : (b : Bool) → (b && false) ≡ true → ⊥
no_and true h = cc
no_and false h = cc

stands_event : (g : Settings) (s : State) (by : Actor) (with : Option Actor) (r : TimerRef) (b armed : Bool) (event : Event) → Known g s by with event
    → (b && arms event r) ≡ armed → (s.status r ≢ None → Stands (s.rows r.wheel) r)
    → status_after r b (s.status r) event ≢ None
    → Stands (cond b (rows_after g (s.looked by) r.wheel (s.rows r.wheel) event) (s.rows r.wheel)) r
stands_event g s by with r b false event known is stand used = stands_quiet g s (s.looked by) r b event is stand used
stands_event g s by with r b true (Arm timer start) known is stand used =
    let parts = and_parts b (same_timer timer r) is in
    let same : timer ≡ r = same_timer-true timer r parts.1 in
    let own : Stands (cond true (rows_after g (s.looked by) timer.wheel (s.rows timer.wheel) (Arm timer start)) (s.rows timer.wheel)) timer =
    stands_armed g (s.looked by) (s.rows timer.wheel) timer start (λ none. (let no : Some known.wanted ≡ None = sym known.due ∙ none in cc)) in
    let P : TimerRef → Bool → Type 0 = λ t c. Stands (cond c (rows_after g (s.looked by) t.wheel (s.rows t.wheel) (Arm timer start)) (s.rows t.wheel)) t in
    subst (λ c. P r c) (sym parts.0) (subst (λ t. P t true) same own)
stands_event g s by with r b true _ known is stand used = absurd (no_and b is)

pub stands_next : (g : Settings) (s : State) (e : Entry) → AllStand s → Can g s e → AllStand (next g s e)
stands_next g s e stand can r used =
    stands_event g s e.by e.with r (has_actor e (Wheel r.wheel)) (has_actor e (Wheel r.wheel) && arms e.event r) e.event can.known refl (stand r) used

-- and after a legal history
pub all_stand : (g : Settings) (h : List Entry) → Legal g h → AllStand (state g h)
all_stand g h legal = kept_from g AllStand (stands_next g) (opening g) h (λ r used. absurd (used refl)) legal

-- what is so of all rows is so of the row of a reference
pub of_row : (P : Row → Type 0) (rows : List Row) (r : TimerRef) (row : Row) → All P rows → row_of rows r ≡ Some row → P row
of_row P [] r row fits is = absurd cc
of_row P (x ∷ rows) r row fits is = at (same_timer x.timer r) (of_row P rows r row (All-tail P x rows fits)) is
  where
    at : (b : Bool) → (row_of rows r ≡ Some row → P row) → cond b (Some x) (row_of rows r) ≡ Some row → P row
    at true more h = let same : x ≡ row = cc in subst P same (All-head P x rows fits)
    at false more h = more h
