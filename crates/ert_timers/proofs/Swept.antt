-- The loop over the timers of a process.

use Rattle.std.proofs.Common.{◌≡◌, ◌≢◌, ℕ, suc, ◌+◌, ◌<◌, true, false, List, [], ◌∷◌, ◌++◌, count_by, Option, Some, None, refl, sym, ap, subst, ◌∙◌, arith, set, append-nil, append_assoc, length}
use Rattle.std.proofs.lemmas.List.{map-append}
use Rattle.std.specs.{List.slice_get, Option.is_some}
use Rattle.ert_defs.specs.{States.{State, next, state}, Timers.{Row, row_of}, declared.entry.Entry.Entry, declared.settings.Settings.Settings, declared.timer.Status.Status, declared.timer.Status.TheVariants.Armed}
use Rattle.ert_defs.specs.{declared.timer.TimerRef.TimerRef, declared.entry.Actor.TheVariants.Wheel}
use Rattle.ert_defs.proofs.Runs.{exit_stays, state-append}
use Rattle.ert_effects.specs.WheelCalls.{AllMaySweep, AreSwept, IsSwept, MaySweep, Sweeps, Try, orphan_entries, orphans_by}
use Rattle.ert_table.specs.{Held.is_held, Calls.IsMade, Takes.{Appends, TakesPlace}, declared.view.View.View}
use Rattle.ert_table.proofs.Calls.{step_takes_place, takes_place_then}
use Rattle.ert_timers.specs.{Changes.NextOf, Parts.{HoldsCaller, Part, PartStands, last_timer, held_row}, Starting.{HoldsTimer, Orphans}, Expiring.is_hit, Freeing.IsHeld, Sweeping.{SweepsHeld, SweepsSome}}
use Rattle.ert_laws.specs.Counts.{is_arm}
use Rattle.ert_timers.proofs.{Freed.{frees_given, frees_none, frees_then, given_keeps}, Later.later_step, Rows.armed_row, Passing.{held_push, loses_none, loses_row, loses_then, none_more, once_more, was_held}, Tried.held_found}
use Rattle.ert_wheel.specs.{Rows.key_of, declared.row.Row.Row as WheelRow}
use Rattle.ert_wheel.proofs.{Looking.key_low, Views.counts_less}

-- none was tried yet
pub sweeps_none : (g : Settings) (v : View) (by process : ℕ) (p : Part) → PartStands g v.front p → (state g v.front).exited process ≡ true
    → SweepsSome g v by process p p v
sweeps_none g v by process p stands exited = record {
  tries = [];
  may = tt;
  once = tt;
  held = tt;
  none = tt;
  loses = loses_none p;
  frees = frees_none p;
  call = record { actors = refl; legal = stands.legal; later = []; grown = sym (append-nil v.front); ours = refl };
  stands = stands;
  number = refl;
  rows = refl;
  exited = exited;
}

may-push : (rows : List Row) (process : ℕ) (tries : List Try) (t : Try) → AllMaySweep rows process tries → MaySweep rows process t.timer t.missed
    → AllMaySweep rows process (tries ++ t ∷ [])
may-push rows process [] t all one = (one, tt)
may-push rows process (x ∷ tries) t all one = (all.0, may-push rows process tries t all.1 one)

unarmed : (by w : ℕ) (timer : TimerRef) (missed : Option (Option Status)) → is_arm (orphans_by by w timer missed).event ≡ false
unarmed by w timer None = refl
unarmed by w timer (Some found) = refl

-- the row of a process is held
pub next_held : (p : Part) (process : ℕ) (row : WheelRow) (timer : Row) → NextOf p process (Some row)
    → timer ≡ held_row p.number p.slots row.slot (key_of row) → HoldsTimer p timer.timer timer.deadline
next_held p process row timer next is =
    subst (λ (t : Row). HoldsTimer p t.timer t.deadline) (sym is)
    (record { order = row.order; low = next.0; held = next.1; named = refl })

-- a part that is the same has tried as many
pub sweeps_same : (g : Settings) (v : View) (by process : ℕ) (p q r : Part) (u : View) → r ≡ q → SweepsSome g v by process p q u
    → SweepsSome g v by process p r u
sweeps_same g v by process p q r u same some = subst (λ (x : Part). SweepsSome g v by process p x u) (sym same) some

-- one more was tried
pub sweeps_more : (g : Settings) (v : View) (by process : ℕ) (p q r : Part) (row : WheelRow) (timer : Row) (u w : View)
    → SweepsSome g v by process p q u → HoldsCaller g u by q.number → NextOf q process (Some row)
    → timer ≡ held_row q.number q.slots row.slot (key_of row) → Orphans g u by q r timer.timer w → SweepsSome g v by process p r w
sweeps_more g v by process p q r row timer u w some holds next is one =
    let t : Try = record { timer = timer.timer; missed = one.missed } in
    let rows : List Row = (state g v.front).rows p.number in
    let e : Entry = orphans_by by p.number t.timer t.missed in
    let step : Appends g u e w = subst (λ n. Appends g u (orphans_by by n t.timer t.missed) w) some.number one.step in
    let found : row_of ((state g u.front).rows q.number) (last_timer q.number q.slots row.slot)
    ≡ Some (held_row q.number q.slots row.slot (key_of row)) = held_found g u.front q row.slot (key_of row) some.stands next.1 in
    let here : row_of rows timer.timer ≡ Some timer =
    subst (λ (x : Row). row_of rows x.timer ≡ Some x) (sym is)
    (ap (λ l. row_of l (last_timer q.number q.slots row.slot)) (sym some.rows ∙ ap (state g u.front).rows (sym some.number)) ∙ found) in
    let named : timer.timer ≡ last_timer q.number q.slots row.slot = ap (λ (x : Row). x.timer) is in
    let low : row.slot < length q.keys = key_low q.keys row.slot (key_of row) next.1 in
    let number : r.number ≡ q.number = ap (λ (x : Part). x.number) one.part in
    let slots : r.slots ≡ q.slots = ap (λ (x : Part). x.slots) one.part in
    let time : r.passed ≡ q.passed = ap (λ (x : Part). x.passed) one.part in
    let keys : r.keys ≡ set q.keys row.slot None =
    ap (λ (x : Part). x.keys) one.part ∙ ap (λ (x : Row). set q.keys x.timer.slot None) is in
    let dest : timer.dest ≡ process = ap (λ (x : Row). x.dest) is ∙ next.2 in
    record {
      tries = some.tries ++ t ∷ [];
      may = may-push rows process some.tries t some.may
          (record { row = timer; stands = here; dest = dest }, one.settled);
      once = once_more q row.slot (key_of row) some.tries t next.1 named some.none some.once;
      held = held_push p some.tries t some.held (subst (IsHeld p) (sym named)
          (was_held p q row.slot (key_of row) some.loses (some.stands.holds.wide ∙ sym some.stands.holds.many) next.1));
      none = none_more q r row.slot some.tries t low named number slots keys time some.none;
      loses = loses_then p q r some.loses (loses_row q r row.slot low number slots keys time
          (ap (λ (x : Part). x.stands) one.part ∙ ap (λ (x : Row). set q.stands x.timer.slot None) is) (given_keeps q r timer.timer.slot (is_hit one.missed) one.part));
      frees = frees_then p q r some.loses (given_keeps q r timer.timer.slot (is_hit one.missed) one.part) some.frees (frees_given q r timer.timer.slot (is_hit one.missed) one.part);
      call = subst (λ es. TakesPlace g v es w) (sym (map-append (λ (x : Try). orphans_by by p.number x.timer x.missed) some.tries (t ∷ [])))
          (takes_place_then g v u w (orphan_entries by p.number some.tries) (e ∷ []) some.call (step_takes_place g u e w step));
      stands = one.stands;
      number = ap (λ (x : Part). x.number) one.part ∙ some.number;
      rows = (later_step g u e w p.number step (subst (λ n. is_held u.actors (Wheel n) ≡ true) some.number holds.wheel) (unarmed by p.number t.timer t.missed)).rows ∙ some.rows;
      exited = ap (λ (s : State). s.exited process) (ap (state g) step.grown ∙ ap (state g) (append_assoc u.front step.between (e ∷ []))
          ∙ state-append g u.front (step.between ++ e ∷ []))
          ∙ exit_stays g process (state g u.front) (step.between ++ e ∷ []) some.exited;
    }

pub swept_rows : (status : TimerRef → Option Status) (process : ℕ) (rows : List Row)
    → ((n : ℕ) (row : Row) → slice_get rows n ≡ Some row → row.dest ≡ process → status row.timer ≢ Some Armed) → AreSwept status process rows
swept_rows status process [] each = tt
swept_rows status process (r ∷ rows) each = (each 0 r refl, swept_rows status process rows (λ n row at. each (n + 1) row (later n row at)))
  where
    later : (n : ℕ) (row : Row) → slice_get rows n ≡ Some row → slice_get (r ∷ rows) (n + 1) ≡ Some row
    later n row at =
        let e : suc n ≡ n + 1 = omega arith in
        subst (λ m. slice_get (r ∷ rows) m ≡ Some row) e at

-- none is left
pub all_swept : (g : Settings) (v : View) (by process w : ℕ) (p q : Part) (next : Option WheelRow) (u : View) → p.number ≡ w
    → SweepsSome g v by process p q u → next ≡ None → NextOf q process next → IsSwept (state g u.front) w process
all_swept g v by process w p q next u number some none left =
    subst (λ n. IsSwept (state g u.front) n process) (some.number ∙ number)
    (swept_rows (state g u.front).status process ((state g u.front).rows q.number) (λ n row at dest armed.
    let held = some.stands.holds.rows.armed n row at armed in
    let is = armed_row (state g u.front) q.number q.slots q.keys n row some.stands.holds.rows at armed in
    subst (NextOf q process) none left row.timer.slot (record { deadline = row.deadline; order = n }) held
    (sym (ap (λ (r : Row). r.dest) is) ∙ dest)))

pub sweeps_all : (g : Settings) (v : View) (by process : ℕ) (p q : Part) (u : View) → SweepsSome g v by process p q u
    → IsMade g v (Sweeps g by p.number process) u
sweeps_all g v by process p q u some = record {
  entries = orphan_entries by p.number some.tries;
  allowed = record { tries = some.tries; may = some.may; once = some.once; entries = refl };
  call = some.call;
}

-- fewer rows are left after each try
pub fewer : (g : Settings) (u : View) (by process : ℕ) (q r : Part) (row : WheelRow) (timer : Row) (w : View) → NextOf q process (Some row)
    → timer ≡ held_row q.number q.slots row.slot (key_of row) → Orphans g u by q r timer.timer w
    → count_by is_some r.keys < count_by is_some q.keys
fewer g u by process q r row timer w next is one =
    let slot : timer.timer.slot ≡ row.slot = ap (λ (x : Row). x.timer.slot) is in
    let keys : r.keys ≡ set q.keys row.slot None = ap (λ (x : Part). x.keys) one.part ∙ ap (λ k. set q.keys k None) slot in
    omega (arith, ap (count_by is_some) keys, counts_less q.keys row.slot (key_of row) (key_low q.keys row.slot (key_of row) next.1) next.1)

pub sweeps_held : (g : Settings) (v : View) (by process : ℕ) (p q : Part) (u : View) → SweepsSome g v by process p q u → IsMade g v (SweepsHeld by p) u
sweeps_held g v by process p q u some = record {
  entries = orphan_entries by p.number some.tries;
  allowed = record { tries = some.tries; held = some.held; entries = refl };
  call = some.call;
}
