-- What a clock is permitted to do, as a statement on a history (ERTS User's Guide, "Time Warp Modes").

use Rattle.std.specs.Prelude.{◌≡◌, ◌⊎◌, ℕ, ◌+◌, ◌≤◌, ◌-ℤ◌, ◌≤ℤ◌, Bool, true, false, List, [], ◌∷◌}
use Rattle.ert_defs.specs.{ClockMoves.{GrowsWithinPercent, ShiftIs, OfLastTick}, Clocks.{Clock, last_mono}, States.{State, opening, next}, declared.entry.Entry.Entry, declared.entry.Event.Event, declared.entry.Event.TheVariants.Tick}
use Rattle.ert_defs.specs.{declared.entry.Event.TheVariants.Shift, declared.settings.Mode.TheVariants.Single, declared.settings.Reading.Reading, declared.settings.Settings.Settings}

-- how a tick may move the time, with correction and without
abbrev pub TimeMoves : Bool → Settings → Clock → Clock → Reading → Type 0
TimeMoves true g a b r = GrowsWithinPercent (last_mono g a.ticks) (last_mono g b.ticks) a.now b.now
TimeMoves false g a b r = (b.now ≡ a.now) ⊎ (b.now ≡ (r.sys -ℤ a.offset))

-- how an event may move the clock
abbrev pub Moves : Settings → Clock → Clock → Event → Type 0
Moves g a b (Tick reading act now) =
    (a.now ≤ℤ b.now) × TimeMoves g.correction g a b reading × (b.offset ≡ a.offset) × (b.state ≡ a.state)
Moves g a b (Shift offset state) = (b.now ≡ a.now) × OfLastTick (ShiftIs g.mode g a.offset a.state b.offset b.state) a.ticks
Moves g a b _ = (b.now ≡ a.now) × (b.offset ≡ a.offset) × (b.state ≡ a.state)

-- each entry moves the clock as it may
abbrev pub PermittedFrom : Settings → State → List Entry → Type 0
PermittedFrom g s [] = Unit {0}
PermittedFrom g s (e ∷ es) = Moves g s.clock (next g s e).clock e.event × PermittedFrom g (next g s e) es

-- 1 for a shift, and 0 for any other event
abbrev pub shift_count : Event → ℕ
shift_count (Shift offset state) = 1
shift_count _ = 0

-- the number of shifts in a history
abbrev pub shifts : List Entry → ℕ
shifts [] = 0
shifts (e ∷ es) = shift_count e.event + shifts es

-- a history is permitted
pub record Permitted (g : Settings) (h : List Entry) : Type 0 where
  pub moves : PermittedFrom g (opening g) h
  pub once : g.mode ≡ Single → shifts h ≤ 1
