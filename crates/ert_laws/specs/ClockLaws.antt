-- Laws on the clock over all legal histories. The functions of src/clock_laws.rt carry them as contracts,
-- so that they are proved.

use Rattle.std.specs.Prelude.{ℕ, ◌≤◌, ◌≡◌, ◌⊎◌, ℤ, pos, ◌+ℤ◌, ◌≤ℤ◌, ◌<ℤ◌, Bool, true, false, List, [], ◌∷◌, ◌++◌, Contains, FitsSigned}
use Rattle.std.specs.Int.{w64}
use Rattle.ert_defs.specs.{Clocks.{Ticked, last_mono, last_base}, Legal.Legal, Lines.{end_time, first_base, is_base, is_due, base_from}, Settings.IsChecked, Milliseconds.{natural, down}, States.state, Timers.Row, declared.entry.Actor.Actor}
use Rattle.ert_defs.specs.{declared.entry.Entry.Entry, declared.entry.Event.TheVariants.Expire, declared.settings.Settings.Settings, declared.timer.TimerRef.TimerRef}
use Rattle.ert_laws.specs.Permitted.{Permitted}

-- monotonic time never falls (ERTS User's Guide, "Erlang Monotonic Time")
abbrev pub LawOfTime : Type 0
LawOfTime = (g : Settings) (f m : List Entry) → IsChecked g → Legal g (f ++ m)
    → (state g f).clock.now ≤ℤ (state g (f ++ m)).clock.now

-- the last look of an actor is of the start time or later
abbrev pub LawOfFirstLooks : Type 0
LawOfFirstLooks = (g : Settings) (h : List Entry) (a : Actor) → IsChecked g → Legal g h
    → g.start ≤ℤ (state g h).looked a

-- and of no time to come
abbrev pub LawOfLastLooks : Type 0
LawOfLastLooks = (g : Settings) (h : List Entry) (a : Actor) → IsChecked g → Legal g h
    → (state g h).looked a ≤ℤ (state g h).clock.now

-- among these rows the timer has one, whose deadline has come at a time
pub record HasDeadlineCome (g : Settings) (rows : List Row) (timer : TimerRef) (now : ℤ) : Type 0 where
  pub row : Row
  pub stands : Contains rows row
  pub named : row.timer ≡ timer
  pub due : pos row.deadline ≤ℤ down g now

-- no timer expires before its deadline (`erlang` module reference, `start_timer`)
abbrev pub LawOfExpiry : Type 0
LawOfExpiry = (g : Settings) (f : List Entry) (e : Entry) (timer : TimerRef) → IsChecked g
    → Legal g (f ++ e ∷ []) → e.event ≡ Expire timer
    → HasDeadlineCome g ((state g f).rows timer.wheel) timer (state g f).clock.now

-- each legal history is permitted
abbrev pub LawOfPermission : Type 0
LawOfPermission = (g : Settings) (h : List Entry) → IsChecked g → Legal g h → Permitted g h

-- the time is never before the start time
abbrev pub LawOfStart : Type 0
LawOfStart = (g : Settings) (h : List Entry) → IsChecked g → Legal g h → g.start ≤ℤ (state g h).clock.now

-- the time never comes to the end time (`erlang` module reference, `system_info`, `end_time`)
abbrev pub LawOfEnd : Type 0
LawOfEnd = (g : Settings) (h : List Entry) → IsChecked g → Legal g h → (state g h).clock.now <ℤ end_time g

-- the time at a point and the offset there or at a later point have a sum of 64 bits
abbrev pub LawOfSums : Type 0
LawOfSums = (g : Settings) (f m : List Entry) → IsChecked g → Legal g (f ++ m)
    → FitsSigned w64 ((state g f).clock.now +ℤ (state g (f ++ m)).clock.offset)

-- whether a tick was the base of a new line, by the ticks before it, newest first
abbrev pub was_base : Settings → Ticked → List Ticked → Bool
was_base g t older = is_base t.act (is_due g (last_base g older) (last_mono g (t ∷ older)) t.reading.sys)

-- none of these ticks was a base, each by those before it and the older ones
abbrev pub NoneWasBase : Settings → List Ticked → List Ticked → Type 0
NoneWasBase g [] older = Unit {0}
NoneWasBase g (t ∷ newer) older = (was_base g t (newer ++ older) ≡ false) × NoneWasBase g newer older

-- a tick of these was a base and none after it, and the line is from that tick
pub record HasBase (g : Settings) (ticks : List Ticked) : Type 0 where
  pub newer : List Ticked
  pub tick : Ticked
  pub older : List Ticked
  pub stands : ticks ≡ newer ++ (tick ∷ older)
  pub none_newer : NoneWasBase g newer (tick ∷ older)
  pub was : was_base g tick older ≡ true
  pub base : last_base g ticks
      ≡ base_from tick.reading tick.act (last_mono g (tick ∷ older)) tick.now tick.offset tick.state

-- no tick was a base, and the line is from the first reading
pub record HasNoBase (g : Settings) (ticks : List Ticked) : Type 0 where
  pub none : NoneWasBase g ticks []
  pub base : last_base g ticks ≡ first_base g

-- the line of a clock is found by looking back to the last tick that was a base (ERTS User's Guide,
-- "Time Correction"), whatever the ticks
abbrev pub LawOfBases : Type 0
LawOfBases = (g : Settings) (ticks : List Ticked) → HasNoBase g ticks ⊎ HasBase g ticks

-- the round of each slot has begun by the time
abbrev pub LawOfRounds : Type 0
LawOfRounds = (g : Settings) (h : List Entry) (w k : ℕ) → IsChecked g → Legal g h
    → (state g h).since w k ≤ natural (down g (state g h).clock.now)
