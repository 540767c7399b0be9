-- How far a clock may move at a tick, and which shift may follow it (ERTS User's Guide, "Time Warp Modes").

use Rattle.std.specs.Prelude.{◌≡◌, ℤ, pos, ◌+◌, ◌*◌, ◌/◌, ◌<◌, ◌+ℤ◌, ◌-ℤ◌, ◌≤ℤ◌, true, unsigned_abs, List, [], ◌∷◌}
use Rattle.ert_defs.specs.{Clocks.{Ticked, last_mono, last_base}, Lines.{is_due, is_check}, declared.entry.Act.TheVariants.Finalize, declared.settings.Mode.Mode, declared.settings.Mode.TheVariants.{No, Single, Multi}}
use Rattle.ert_defs.specs.{declared.settings.OffsetState.OffsetState, declared.settings.OffsetState.TheVariants.{Preliminary, Final, Volatile}, declared.settings.Settings.Settings}

-- while OS monotonic time grew from a to b, time grew from x to y, by 99 to 101 percent of that
pub record GrowsWithinPercent (a b x y : ℤ) : Type 0 where
  pub least : (x +ℤ pos ((99 * unsigned_abs (b -ℤ a)) / 100)) ≤ℤ y
  pub most : y ≤ℤ (x +ℤ pos (((101 * unsigned_abs (b -ℤ a)) + 99) / 100))

-- which shift may follow a tick, in each mode: from an offset and a state to others
abbrev pub ShiftIs : Mode → Settings → ℤ → OffsetState → ℤ → OffsetState → Ticked → List Ticked → Type 0
ShiftIs No g offset state to then t ts = ⊥
ShiftIs Single g offset state to then t ts =
    (state ≡ Preliminary) × (then ≡ Final) × (t.act ≡ Finalize) × (to ≡ (t.reading.sys -ℤ t.now))
ShiftIs Multi g offset state to then t ts =
    (state ≡ Volatile) × (then ≡ Volatile)
    × (is_check t.act (is_due g (last_base g ts) (last_mono g (t ∷ ts)) t.reading.sys) ≡ true)
    × (to ≡ (t.reading.sys -ℤ t.now)) × (1000000 < unsigned_abs (to -ℤ offset))

-- something of the newest tick and those before it
abbrev pub OfLastTick : (Ticked → List Ticked → Type 0) → List Ticked → Type 0
OfLastTick P [] = ⊥
OfLastTick P (t ∷ ts) = P t ts
