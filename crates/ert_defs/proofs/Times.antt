-- The clock over legal histories: its bounds hold after each, and its time never
-- falls.

use Rattle.std.proofs.Common.{sym, arith, cond, Bool, true, false, Option, subst, List, [], ◌∷◌, ◌++◌}
use Rattle.std.proofs.lemmas.Int.{ints}
use Rattle.std.specs.Prelude.{ℤ, ◌+ℤ◌, ◌≤ℤ◌, FitsSigned}
use Rattle.std.specs.Int.{w64}
use Rattle.ert_defs.specs.{Actors.has_actor, Clocks.{Clock, face, first_clock, clock_after}, Legal.{Can, Known, LegalFrom, Legal}, Lines.{IsInRange, time_after, due_after}, Readings.IsValid, Settings.IsChecked, Sound.{Sound, MayShift}}
use Rattle.ert_defs.specs.{States.{State, opening, next, run, state}, declared.entry.Act.Act, declared.entry.Actor.Actor, declared.entry.Actor.TheVariants.Keeper, declared.entry.Entry.Entry, declared.entry.Event.Event}
use Rattle.ert_defs.specs.{declared.entry.Event.TheVariants.{Tick, Shift}, declared.settings.Reading.Reading, declared.settings.Settings.Settings}
use Rattle.ert_defs.proofs.{Bounds.{sound_opening, sound_tick, sound_shift, due_fits, no_fall, IsWithin, in_range, sum_fits}, Runs.{run-append, legal_first, legal_then}}

-- what a clock keeps: its bounds, and those of the shift that is due
pub record KeepsBounds (g : Settings) (c : Clock) : Type 0 where
  pub sound : Sound g (face g c)
  pub due : MayShift (face g c) c.due

-- it has them at the opening
pub kept_opening : (g : Settings) → IsChecked g → KeepsBounds g (first_clock g)
kept_opening g checked = record { sound = sound_opening g checked; due = tt }

-- a tick to the time that the rules give keeps them
pub kept_tick : (g : Settings) (c : Clock) (r : Reading) (act : Act) → KeepsBounds g c → IsValid r
    → IsInRange (due_after g (face g c) r act (time_after g (face g c) r))
    → KeepsBounds g (clock_after g c (Tick r act (time_after g (face g c) r)))
kept_tick g c r act k valid in_range = record {
  sound = sound_tick g (face g c) r act k.sound valid;
  due = due_fits g (face g c) r act valid in_range;
}

-- each event of the clock keeps them
pub kept_event : (g : Settings) (s : State) (by : Actor) (with : Option Actor) (event : Event)
    → KeepsBounds g s.clock → Known g s by with event → KeepsBounds g (clock_after g s.clock event)
kept_event g s by with (Tick reading act now) k known =
    let told = known.1.told in
    let in_range = subst (λ (t : ℤ). IsInRange (due_after g (face g s.clock) reading act t)) told
    known.1.in_range in
    subst (λ (t : ℤ). KeepsBounds g (clock_after g s.clock (Tick reading act t))) (sym told)
    (kept_tick g s.clock reading act k known.1.valid in_range)
kept_event g s by with (Shift offset state) k known = record {
  sound = sound_shift g (face g s.clock) (offset, state) k.sound (subst (MayShift (face g s.clock)) known k.due);
  due = tt;
}
kept_event g s by with _ k known = k

-- so does an entry, by the clock or not
pub kept_when : (b : Bool) (g : Settings) (s : State) (e : Entry) → KeepsBounds g s.clock → Can g s e
    → KeepsBounds g (cond b (clock_after g s.clock e.event) s.clock)
kept_when true g s e k can = kept_event g s e.by e.with e.event k can.known
kept_when false g s e k can = k

-- so does each legal entry
pub kept_next : (g : Settings) (s : State) (e : Entry) → KeepsBounds g s.clock → Can g s e
    → KeepsBounds g (next g s e).clock
kept_next g s e k can = kept_when (has_actor e Keeper) g s e k can

-- and so do legal entries one after the other
pub kept_run : (g : Settings) (s : State) (h : List Entry) → KeepsBounds g s.clock → LegalFrom g s h
    → KeepsBounds g (run g s h).clock
kept_run g s [] k legal = k
kept_run g s (e ∷ h) k legal = kept_run g (next g s e) h (kept_next g s e k legal.0) legal.1

-- the bounds hold after each legal history
pub kept : (g : Settings) (h : List Entry) → IsChecked g → Legal g h → KeepsBounds g (state g h).clock
kept g h checked legal = kept_run g (opening g) h (kept_opening g checked) legal

-- no event of the clock sets the time back
pub time_event : (g : Settings) (s : State) (by : Actor) (with : Option Actor) (event : Event)
    → KeepsBounds g s.clock → Known g s by with event → s.clock.now ≤ℤ (clock_after g s.clock event).now
time_event g s by with (Tick reading act now) k known =
    let up = no_fall g (face g s.clock) reading k.sound in
    let told = known.1.told in
    omega (arith, ints, up, told)
time_event g s by with (Shift offset state) k known = omega (arith, ints)
time_event g s by with _ k known = omega (arith, ints)

-- nor does an entry, by the clock or not
pub time_when : (b : Bool) (g : Settings) (s : State) (e : Entry) → KeepsBounds g s.clock → Can g s e
    → s.clock.now ≤ℤ (cond b (clock_after g s.clock e.event) s.clock).now
time_when true g s e k can = time_event g s e.by e.with e.event k can.known
time_when false g s e k can = omega (arith, ints)

-- nor a legal entry
pub time_next : (g : Settings) (s : State) (e : Entry) → KeepsBounds g s.clock → Can g s e
    → s.clock.now ≤ℤ (next g s e).clock.now
time_next g s e k can = time_when (has_actor e Keeper) g s e k can

-- nor legal entries one after the other
pub time_run : (g : Settings) (s : State) (h : List Entry) → KeepsBounds g s.clock → LegalFrom g s h
    → s.clock.now ≤ℤ (run g s h).clock.now
time_run g s [] k legal = omega (arith, ints)
time_run g s (e ∷ h) k legal =
    let one = time_next g s e k legal.0 in
    let more = time_run g (next g s e) h (kept_next g s e k legal.0) legal.1 in
    omega (arith, ints, one, more)

-- in a legal history time never falls
pub time_rises : (g : Settings) (f m : List Entry) → IsChecked g → Legal g (f ++ m)
    → (state g f).clock.now ≤ℤ (state g (f ++ m)).clock.now
time_rises g f m checked legal =
    let front = legal_first g (opening g) f m legal in
    let behind = legal_then g (opening g) f m legal in
    rw run-append (time_run g (state g f) m (kept g f checked front) behind)

-- the time after a legal history stays between the start and the end
pub state_in_range : (g : Settings) (h : List Entry) → IsChecked g → Legal g h → IsWithin g (face g (state g h).clock)
state_in_range g h checked legal = in_range g (face g (state g h).clock) checked (kept g h checked legal).sound

-- its sum with the offset there, or at a later point, has 64 bits
pub state_sum_fits : (g : Settings) (f m : List Entry) → IsChecked g → Legal g (f ++ m)
    → FitsSigned w64 ((state g f).clock.now +ℤ (state g (f ++ m)).clock.offset)
state_sum_fits g f m checked legal =
    sum_fits g (face g (state g (f ++ m)).clock) (state g f).clock.now checked
    (kept g (f ++ m) checked legal).sound
    (state_in_range g f checked (legal_first g (opening g) f m legal)).low
    (time_rises g f m checked legal)
