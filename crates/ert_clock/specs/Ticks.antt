-- What a tick and a finalization answer, and the entries that they stand for.

use Rattle.std.specs.Prelude.{◌≡◌, ℕ, ◌<◌, ℤ, Bool, true, false, List, [], ◌∷◌, ◌++◌, Option, Some, None, Result, Ok, Err}
use Rattle.ert_defs.specs.{Entries.{tick_entry, shift_entry}, Lines.{Due, IsOffset, IsInRange, time_after, due_after, ticked, shifted}, Readings.IsValid, declared.entry.Act.Act, declared.entry.Act.TheVariants.{Plain, Force, Finalize}}
use Rattle.ert_defs.specs.{declared.entry.Entry.Entry, declared.settings.OffsetState.OffsetState, declared.settings.OffsetState.TheVariants.{Preliminary, Final, Volatile}, declared.settings.Reading.Reading}
use Rattle.ert_defs.specs.{declared.settings.Settings.Settings}
use Rattle.ert_clock.specs.{Shown.{Shown, ClockStands}, declared.clock.ClockErr.ClockErr, declared.clock.ClockErr.TheVariants.{BadReading, OffsetWide}, declared.clock.Moved.Moved}

-- a tick that is forced, or not
abbrev pub act_of : Bool → Act
act_of true = Force
act_of false = Plain

-- the time after a tick
abbrev pub time_of : Shown → Reading → ℤ
time_of v r = time_after v.settings v.face r

-- the shift that is due after a tick
abbrev pub due_of : Shown → Reading → Act → Option Due
due_of v r act = due_after v.settings v.face r act (time_of v r)

-- what the clock shows after a tick and the shift that it made due
abbrev pub shown_after : Shown → Reading → Act → Shown
shown_after v r act =
    record { settings = v.settings; face = shifted (ticked v.settings v.face r act (time_of v r)) (due_of v r act) }

-- the offset of a shift
abbrev pub offset_of : Option Due → Option ℤ
offset_of None = None
offset_of (Some d) = Some d.0

-- this is the offset of the shift, and it is outside the limits
abbrev pub IsWide : Option Due → ℤ → Type 0
IsWide None value = ⊥
IsWide (Some d) value = (value ≡ d.0) × (IsOffset d.0 → ⊥)

-- a shift that is due is let through unless its offset is outside the limits
abbrev pub Limits : Option Due → Result (Option Due) ClockErr → Type 0
Limits due (Ok shift) = IsInRange due × (shift ≡ due)
Limits due (Err BadReading) = ⊥
Limits due (Err (OffsetWide value)) = IsWide due value

-- a tick was done: it answers the time and the offset of the shift, and the clock shows what follows
pub record IsDone (v : Shown) (r : Reading) (act : Act) (m : Moved) (new : Shown) : Type 0 where
  pub valid : IsValid r
  pub in_range : IsInRange (due_of v r act)
  pub told : m.now ≡ time_of v r
  pub shift : m.shift ≡ offset_of (due_of v r act)
  pub shows : new ≡ shown_after v r act

-- the reading isn't valid, and nothing changes
pub record IsBad (v : Shown) (r : Reading) (new : Shown) : Type 0 where
  pub invalid : IsValid r → ⊥
  pub unchanged : new ≡ v

-- the reading is valid, the shift that is due has this offset outside its limits, and nothing changes
pub record IsShiftTooWide (v : Shown) (r : Reading) (act : Act) (value : ℤ) (new : Shown) : Type 0 where
  pub valid : IsValid r
  pub wide : IsWide (due_of v r act) value
  pub unchanged : new ≡ v

-- what a tick answers and leaves, each answer where its case holds
abbrev pub Gives : Shown → Reading → Act → Result Moved ClockErr → Shown → Type 0
Gives v r act (Ok m) new = IsDone v r act m new
Gives v r act (Err BadReading) new = IsBad v r new
Gives v r act (Err (OffsetWide value)) new = IsShiftTooWide v r act value new

-- the state to which a shift sets the offset: final by a finalization, and else volatile
abbrev pub state_by : Act → OffsetState
state_by Finalize = Final
state_by Plain = Volatile
state_by Force = Volatile

-- the entry of the shift, where the tick made one due
abbrev pub shift_entries : ℕ → Act → Option ℤ → List Entry
shift_entries n act None = []
shift_entries n act (Some offset) = shift_entry n offset (state_by act) ∷ []

-- the entries of a tick: its own, and then that of the shift
abbrev pub tick_entries : ℕ → Reading → Act → ℤ → Option ℤ → List Entry
tick_entries n r act now shift = tick_entry n r act now ∷ shift_entries n act shift

-- the clock then stands for the history with the entries of the tick last
abbrev pub TicksFor : Settings → ℕ → List Entry → Reading → Act
    → Result Moved ClockErr → Shown → Type 0
TicksFor g n h r act (Ok m) new = ClockStands g (h ++ tick_entries n r act m.now m.shift) new
TicksFor g n h r act (Err e) new = ClockStands g h new

-- whichever history it stood for
abbrev pub ClockTicks : Shown → Reading → Act → Result Moved ClockErr → Shown → Type 0
ClockTicks v r act result new =
    (g : Settings) (h : List Entry) (n : ℕ) → n < g.callers → ClockStands g h v → TicksFor g n h r act result new

-- a finalization had nothing to finalize: it answers the old state and time and no shift, and nothing
-- changes. The reading must be valid all the same
pub record IsOld (v : Shown) (r : Reading) (state : OffsetState) (m : Moved) (new : Shown) : Type 0 where
  pub valid : IsValid r
  pub state_is : state ≡ v.face.state
  pub told : m.now ≡ v.face.time
  pub shift : m.shift ≡ None
  pub unchanged : new ≡ v

-- what a finalization answers and leaves there, each answer where its case holds
abbrev pub GivesOld : Shown → Reading → Result (OffsetState × Moved) ClockErr → Shown → Type 0
GivesOld v r (Ok p) new = IsOld v r p.0 p.1 new
GivesOld v r (Err BadReading) new = IsBad v r new
GivesOld v r (Err (OffsetWide value)) new = ⊥

-- what a finalization of a preliminary offset answers and leaves: the old state, and what a tick does
abbrev pub GivesFinal : Shown → Reading → Result (OffsetState × Moved) ClockErr → Shown → Type 0
GivesFinal v r (Ok p) new = (p.0 ≡ Preliminary) × Gives v r Finalize (Ok p.1) new
GivesFinal v r (Err e) new = Gives v r Finalize (Err e) new

-- what a finalization answers and leaves, by the state before it
abbrev pub ClockFinalizesFrom : OffsetState → Shown → Reading → Result (OffsetState × Moved) ClockErr → Shown → Type 0
ClockFinalizesFrom Preliminary v r result new = GivesFinal v r result new
ClockFinalizesFrom Final v r result new = GivesOld v r result new
ClockFinalizesFrom Volatile v r result new = GivesOld v r result new

-- the entries of a finalization, by the state before it: those of a tick, or none
abbrev pub final_entries : OffsetState → ℕ → Reading → Moved → List Entry
final_entries Preliminary n r m = tick_entries n r Finalize m.now m.shift
final_entries Final n r m = []
final_entries Volatile n r m = []

-- the clock then stands for the history with these entries last
abbrev pub FinalizesFor : Settings → ℕ → List Entry → Reading
    → Result (OffsetState × Moved) ClockErr → Shown → Type 0
FinalizesFor g n h r (Ok p) new = ClockStands g (h ++ final_entries p.0 n r p.1) new
FinalizesFor g n h r (Err e) new = ClockStands g h new

-- whichever history it stood for
abbrev pub ClockFinalizes : Shown → Reading → Result (OffsetState × Moved) ClockErr → Shown → Type 0
ClockFinalizes v r result new =
    (g : Settings) (h : List Entry) (n : ℕ) → n < g.callers → ClockStands g h v → FinalizesFor g n h r result new
