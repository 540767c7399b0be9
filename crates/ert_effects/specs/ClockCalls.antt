-- What the calls on the clock record and answer (`erlang` module reference, `monotonic_time`, `time_offset`,
-- `system_time`, `system_flag`).

use Rattle.std.specs.Prelude.{◌≡◌, ℕ, ℤ, ◌+ℤ◌, Bool, List, [], ◌∷◌, None, Result, Ok, Err}
use Rattle.ert_clock.specs.{Ticks.{act_of, shift_entries, offset_of, IsWide}, declared.clock.ClockErr.ClockErr, declared.clock.ClockErr.TheVariants.{BadReading, OffsetWide}, declared.clock.Moved.Moved}
use Rattle.ert_defs.specs.{Clocks.face, Entries.{look_entry, off_entry, keeper_entry, tick_entry}, Lines.{MayAct, time_after, due_after}, Readings.IsValid, States.State, declared.entry.Act.Act, declared.entry.Act.TheVariants.Finalize}
use Rattle.ert_defs.specs.{declared.entry.Actor.Actor, declared.entry.Entry.Entry, declared.entry.Event.TheVariants.Off, declared.settings.OffsetState.OffsetState, declared.settings.OffsetState.TheVariants.{Preliminary, Final, Volatile}}
use Rattle.ert_defs.specs.{declared.settings.Reading.Reading, declared.settings.Settings.Settings}

-- a tick moves the clock: its own entry, and that of the shift where it made one due; the answer is the time
-- of the one and the offset of the other
pub record MovesClock (g : Settings) (by : ℕ) (r : Reading) (act : Act) (m : Moved) (s : State) (es : List Entry) : Type 0 where
  pub shift : m.shift ≡ offset_of (due_after g (face g s.clock) r act m.now)
  pub entries : es ≡ tick_entry by r act m.now ∷ shift_entries by act m.shift

-- the reading isn't valid, and no entry is made
pub record IsBadReading (r : Reading) (es : List Entry) : Type 0 where
  pub invalid : IsValid r → ⊥
  pub none : es ≡ []

-- the shift that would be due has this offset, outside its limits, and no entry is made
pub record IsTooWide (g : Settings) (r : Reading) (act : Act) (value : ℤ) (s : State) (es : List Entry) : Type 0 where
  pub valid : IsValid r
  pub may : MayAct act s.clock.state
  pub wide : IsWide (due_after g (face g s.clock) r act (time_after g (face g s.clock) r)) value
  pub none : es ≡ []

-- an act is refused
abbrev pub RefusesTick : Settings → Reading → Act → ClockErr → State → List Entry → Type 0
RefusesTick g r act BadReading s es = IsBadReading r es
RefusesTick g r act (OffsetWide value) s es = IsTooWide g r act value s es

-- a reading is taken for one of the three acts
abbrev pub ActsOnReading : Settings → ℕ → Reading → Act → Result Moved ClockErr → State → List Entry → Type 0
ActsOnReading g by r act (Ok m) s es = MovesClock g by r act m s es
ActsOnReading g by r act (Err e) s es = RefusesTick g r act e s es

-- `tick`, for a caller, forced or not. Entries: Tick with the act Plain, or Force if forced, and Shift if one
-- is due; the answer is the time of the Tick and the offset of the Shift. No entry: the reading isn't valid,
-- or the shift that would be due has the offset that is answered, which is outside its limits
abbrev pub Ticks : Settings → ℕ → Reading → Bool → Result Moved ClockErr → State → List Entry → Type 0
Ticks g by r force answer s es = ActsOnReading g by r (act_of force) answer s es

-- a finalization finds nothing preliminary: the clock's part looks at the offset, and nothing moves
pub record OffsetStays (by : ℕ) (r : Reading) (old : OffsetState) (m : Moved) (s : State) (es : List Entry) : Type 0 where
  pub offset : ℤ
  pub valid : IsValid r
  pub time : m.now ≡ s.clock.now
  pub unmoved : m.shift ≡ None
  pub entries : es ≡ keeper_entry by (Off offset old) ∷ []

-- a finalization by the state before it
abbrev pub FinalizesFrom : OffsetState → Settings → ℕ → Reading → Moved → State → List Entry → Type 0
FinalizesFrom Preliminary g by r m s es = MovesClock g by r Finalize m s es
FinalizesFrom Final g by r m s es = OffsetStays by r Final m s es
FinalizesFrom Volatile g by r m s es = OffsetStays by r Volatile m s es

-- a finalization tells the state before it. Entries: if the offset was preliminary, Tick with the act Finalize and then
-- Shift, and time and offset are answered as for `tick`; if it wasn't, Off by Keeper, and the unchanged time is answered
-- and no offset
abbrev pub HasFinalized : Settings → ℕ → Reading → OffsetState → Moved → State → List Entry → Type 0
HasFinalized g by r old m s es = (old ≡ s.clock.state) × FinalizesFrom old g by r m s es

-- `finalize`, for a caller: the answer has the state before it (`HasFinalized`). No entry: refused as `tick`
abbrev pub Finalizes : Settings → ℕ → Reading → Result (OffsetState × Moved) ClockErr → State → List Entry → Type 0
Finalizes g by r (Ok p) s es = HasFinalized g by r p.0 p.1 s es
Finalizes g by r (Err e) s es = RefusesTick g r Finalize e s es

-- `monotonic_time`: a look, whose time is the answer
abbrev pub TellsTime : Settings → Actor → ℤ → State → List Entry → Type 0
TellsTime g by answer s es = es ≡ look_entry by answer ∷ []

-- `time_offset`: Off, whose offset and state are the answer
abbrev pub TellsOffset : Settings → Actor → ℤ × OffsetState → State → List Entry → Type 0
TellsOffset g by answer s es = es ≡ off_entry by answer.0 answer.1 ∷ []

-- `system_time`: a look, and then the offset; the answer is the sum of the one's time and the other's offset
pub record TellsSystemTime (g : Settings) (by : Actor) (answer : ℤ) (s : State) (es : List Entry) : Type 0 where
  pub now : ℤ
  pub offset : ℤ
  pub offset_state : OffsetState
  pub sum : answer ≡ now +ℤ offset
  pub entries : es ≡ look_entry by now ∷ (off_entry by offset offset_state ∷ [])
