-- What holds of the slots and their timers after each legal history.

use Rattle.std.proofs.Common.{◌≡◌, ◌⊎◌, inl, inr, ◌<◌, ◌%◌, nat_lt, sym, ℕ, ℤ, pos, negsuc, ◌+ℤ◌, ◌-ℤ◌, ◌≤◌, Bool, true, false, cond, nat_eq, nat_le, List, ◌++◌, All, Option, Some, None, refl, subst, arith, append-nil}
use Rattle.std.proofs.{Props.props, lemmas.Bool.Decides.nat_tests, lemmas.List.Elements.{All-nil, All-push}}
use Rattle.std.specs.Int.{int_div_euclid}
use Rattle.ert_defs.specs.{Actors.has_actor, Legal.{Can, Legal}, Milliseconds.{up, deadline_at, deadline_when, deadline_of}, States.{State, uses_at, opening, next, state}, Timers.{Row, Uses, deadline_told, row_from, rows_after, row_of}}
use Rattle.ert_defs.specs.{declared.entry.Actor.TheVariants.Wheel, declared.entry.Entry.Entry, declared.entry.Event.Event, declared.entry.Event.TheVariants.Arm, declared.settings.Settings.Settings, declared.timer.Start.Start}
use Rattle.ert_defs.specs.{declared.timer.TimerRef.TimerRef, declared.timer.When.When, declared.timer.When.TheVariants.{After, At}}
use Rattle.ert_defs.proofs.{ExpiredTimers.row_named, Rows.{IsRow, rows_hold}, Runs.kept_from, Slots.{IsOrdered, ordered}, Standing.{AllStand, all_stand, of_row}, Uses.IsBefore}
use Rattle.ert_table.specs.{Ranges.IsTimer, Rule.IsLegalBy, declared.view.View.View, Settlings.HasRow}
use Rattle.ert_table.proofs.OneStep.{legal_by}

-- a deadline is within its limits
abbrev Bounded : ℕ → Option ℕ → Type 0
Bounded top None = Unit {0}
Bounded top (Some d) = d ≤ top

deadline_at_high : (x : ℤ) → Bounded 8796093022207 (deadline_at x)
deadline_at_high (pos n) = at (nat_le n 8796093022207) refl
  where
    at : (b : Bool) → nat_le n 8796093022207 ≡ b → Bounded 8796093022207 (cond b (Some n) None)
    at true is = grind (arith, nat_tests)
    at false is = tt
deadline_at_high (negsuc n) = tt

deadline_when_high : (g : Settings) (when : When) (look : ℤ) → Bounded 8796093022207 (deadline_when g when look)
deadline_when_high g (After (pos n)) look = deadline_at_high (up g look +ℤ pos n)
deadline_when_high g (After (negsuc n)) look = tt
deadline_when_high g (At v) look = deadline_at_high (v -ℤ int_div_euclid g.start (pos 1000000))

pub deadline_high : (g : Settings) (start : Start) (look : ℤ) (d : ℕ) → deadline_of g start look ≡ Some d → d ≤ 8796093022207
deadline_high g start look d is = subst (Bounded 8796093022207) is (deadline_when_high g start.when look)

-- so are those of all rows, and a generation of a later round tells its timer's
pub record IsSoon (r : Row) : Type 0 where
  pub high : r.deadline ≤ 8796093022207
  pub tells : 8796093022208 ≤ r.timer.generation → r.timer.generation % 8796093022208 ≡ r.deadline

abbrev pub DeadlinesFit : State → Type 0
DeadlinesFit s = (w : ℕ) → All IsSoon (s.rows w)

told_cases : (n d : ℕ) → ((n < 8796093022208) × (deadline_told n d ≡ d)) ⊎ ((8796093022208 ≤ n) × (deadline_told n d ≡ n % 8796093022208))
told_cases n d = at (nat_lt n 8796093022208) refl
  where
    at : (b : Bool) → nat_lt n 8796093022208 ≡ b
        → ((n < 8796093022208) × (cond b d (n % 8796093022208) ≡ d)) ⊎ ((8796093022208 ≤ n) × (cond b d (n % 8796093022208) ≡ n % 8796093022208))
    at true is = inl (grind (arith, nat_tests), refl)
    at false is = inr (grind (arith, nat_tests), refl)

pub told_high : (n d : ℕ) → d ≤ 8796093022207 → deadline_told n d ≤ 8796093022207
told_high n d high = elim (told_cases n d) [ inl low ↦ omega (arith, low.1) | inr later ↦ omega (arith, later.1) ]

row_fits : (rows : List Row) (timer : TimerRef) (start : Start) (deadline : Option ℕ) → Bounded 8796093022207 deadline → All IsSoon rows
    → All IsSoon (rows ++ row_from timer start deadline)
row_fits rows timer start None high fits = rw append-nil fits
row_fits rows timer start (Some d) high fits =
    let n : ℕ = timer.generation in
    let row : Row = record { timer = timer; deadline = deadline_told n d; dest = start.dest; msg = start.msg; kind = start.kind } in
    All-push IsSoon rows row fits (record {
      high = told_high n d high;
      tells = λ later. elim (told_cases n d) [ inl low ↦ absurd (omega (arith, low.0, later)) | inr is ↦ sym is.1 ];
    })

cond_all : (b : Bool) (xs ys : List Row) → All IsSoon xs → All IsSoon ys → All IsSoon (cond b xs ys)
cond_all true xs ys p q = p
cond_all false xs ys p q = q

rows_event : (g : Settings) (look : ℤ) (w : ℕ) (rows : List Row) (event : Event) → All IsSoon rows → All IsSoon (rows_after g look w rows event)
rows_event g look w rows (Arm timer start) fits =
    cond_all (nat_eq timer.wheel w) _ rows
    (row_fits rows timer start (deadline_of g start look) (deadline_when_high g start.when look) fits) fits
rows_event g look w rows _ fits = fits

deadlines_next : (g : Settings) (s : State) (e : Entry) → DeadlinesFit s → Can g s e → DeadlinesFit (next g s e)
deadlines_next g s e fits can w =
    cond_all (has_actor e (Wheel w)) (rows_after g (s.looked e.by) w (s.rows w) e.event) (s.rows w)
    (rows_event g (s.looked e.by) w (s.rows w) e.event (fits w)) (fits w)

-- what is kept of the slots
pub record KeepsSlots (s : State) : Type 0 where
  pub ordered : IsOrdered s
  pub deadlines : DeadlinesFit s
  pub stand : AllStand s

pub slots_kept : (g : Settings) (h : List Entry) → Legal g h → KeepsSlots (state g h)
slots_kept g h legal = record {
  ordered = ordered g h legal;
  deadlines = kept_from g DeadlinesFit (deadlines_next g) (opening g) h (λ w. All-nil IsSoon) legal;
  stand = all_stand g h legal;
}

pub row_soon : (s : State) (r : TimerRef) (row : Row) → KeepsSlots s → row_of (s.rows r.wheel) r ≡ Some row → IsSoon row
row_soon s r row kept is = of_row IsSoon (s.rows r.wheel) r row (kept.deadlines r.wheel) is

-- a generation that was used is in range with the deadline of its row
pub used_in_range : (u : Uses) (row : Row) (timer : TimerRef) → row.timer ≡ timer → IsSoon row → IsBefore u timer.generation
    → IsTimer row.deadline timer.generation
used_in_range u row timer named soon used = record {
  deadline_high = soon.high;
  generation_low = used.low;
  generation_first = used.small;
  generation_tells = subst (λ (t : TimerRef). 8796093022208 ≤ t.generation → t.generation % 8796093022208 ≡ row.deadline) named soon.tells;
  generation_high = used.high;
}

-- a timer with a row is in range
pub row_in_range : (g : Settings) (h : List Entry) (timer : TimerRef) (deadline : ℕ) → Legal g h → HasRow (state g h) timer deadline
    → IsTimer deadline timer.generation
row_in_range g h timer deadline legal has =
    let kept = slots_kept g h legal in
    let s : State = state g h in
    let w : ℕ = timer.wheel in
    let named : has.row.timer ≡ timer = row_named (s.rows w) has.row timer has.stands in
    let is_row : IsRow w (uses_at s w) has.row = of_row (IsRow w (uses_at s w)) (s.rows w) timer has.row (rows_hold g h w legal).each has.stands in
    let used : IsBefore (uses_at s w timer.slot) timer.generation = subst (λ (t : TimerRef). IsBefore (uses_at s w t.slot) t.generation) named is_row.used in
    subst (λ d. IsTimer d timer.generation) has.due (used_in_range (uses_at s w timer.slot) has.row timer named (row_soon s timer has.row kept has.stands) used)

pub timer_is : (g : Settings) (v : View) (timer : TimerRef) (deadline : ℕ) → v.settings ≡ Some g → ∥ IsLegalBy v.settings v.front ∥₁
    → HasRow (state g v.front) timer deadline → IsTimer deadline timer.generation
timer_is g v timer deadline named legal has =
    let prop : IsProp (IsTimer deadline timer.generation) = hlevel props in
    legal_by g v.settings v.front prop named legal (λ h. row_in_range g v.front timer deadline h has)
