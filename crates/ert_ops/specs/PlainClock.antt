-- The plain service: the ops of the clock.

use Rattle.std.specs.Prelude.{ℕ, ℤ, pos, negsuc, ◌+ℤ◌, Bool, cond, ◌&&◌, int_lt, int_le, [], ◌∷◌, Option, Some, None}
use Rattle.ert_clock.specs.Ticks.{tick_entries}
use Rattle.ert_defs.specs.{Clocks.face, Entries.{look_entry, off_entry, keeper_entry}, Lines.{Due, end_time, time_after, due_after}, States.State, declared.entry.Act.Act, declared.entry.Act.TheVariants.{Plain, Force}}
use Rattle.ert_defs.specs.{declared.entry.Act.TheVariants.Finalize as Finalizing, declared.entry.Actor.TheVariants.Caller, declared.entry.Event.TheVariants.Off, declared.settings.OffsetState.OffsetState}
use Rattle.ert_defs.specs.{declared.settings.OffsetState.TheVariants.Preliminary, declared.settings.Reading.Reading, declared.settings.Settings.Settings}
use Rattle.ert_ops.specs.{Pieces.Piece, declared.reply.Reply.Reply, declared.reply.Reply.TheVariants.{Tick, TickWide, Check, CheckWide, Finalize, FinalizeWide, Time, System, Offset, Info, Convert, ConvertTooWide}, Conversions.converted}

-- whether an offset is within its limits
abbrev pub is_within : ℤ → Bool
is_within x = int_lt (negsuc 4611686018427387903) x && int_lt x (pos 4611686018427387904)

-- a tick to a time, after which this shift is due: it is refused where the offset would leave its limits
abbrev pub clock_piece : Reading → Act → (ℤ → Option ℤ → Reply) → (ℤ → Reply) → ℤ → Option Due → Piece
clock_piece r act moved wide now None = record { entries = tick_entries 0 r act now None; reply = moved now None }
clock_piece r act moved wide now (Some d) = cond (is_within d.0)
    (record { entries = tick_entries 0 r act now (Some d.0); reply = moved now (Some d.0) })
    (record { entries = []; reply = wide d.0 })

-- a reading is taken for one of the three acts, in a state
abbrev pub clocked : Settings → State → Reading → Act → (ℤ → Option ℤ → Reply) → (ℤ → Reply) → Piece
clocked g s r act moved wide =
    let now = time_after g (face g s.clock) r in
    clock_piece r act moved wide now (due_after g (face g s.clock) r act now)

-- a tick
abbrev pub tick_piece : Settings → State → Reading → Piece
tick_piece g s r = clocked g s r Plain Tick TickWide

-- a tick with a check of the clock
abbrev pub check_piece : Settings → State → Reading → Piece
check_piece g s r = clocked g s r Force Check CheckWide

-- a finalization, by the state of the offset: only a preliminary one is finalized
abbrev pub finalize_piece : Settings → State → Reading → OffsetState → Piece
finalize_piece g s r Preliminary = clocked g s r Finalizing (Finalize Preliminary) FinalizeWide
finalize_piece g s r old = record {
  entries = keeper_entry 0 (Off s.clock.offset s.clock.state) ∷ [];
  reply = Finalize old s.clock.now None;
}

-- monotonic time is read
abbrev pub time_piece : State → Piece
time_piece s = record { entries = look_entry (Caller 0) s.clock.now ∷ []; reply = Time s.clock.now }

-- the time is read, and then the offset; system time is the sum
abbrev pub system_piece : State → Piece
system_piece s = record {
  entries = look_entry (Caller 0) s.clock.now ∷ off_entry (Caller 0) s.clock.offset s.clock.state ∷ [];
  reply = System (s.clock.now +ℤ s.clock.offset);
}

-- the offset is read, with its state
abbrev pub offset_piece : State → Piece
offset_piece s = record {
  entries = off_entry (Caller 0) s.clock.offset s.clock.state ∷ [];
  reply = Offset s.clock.offset s.clock.state;
}

-- the settings are told, with the offset as it is read
abbrev pub info_piece : Settings → State → Piece
info_piece g s = record {
  entries = off_entry (Caller 0) s.clock.offset s.clock.state ∷ [];
  reply = Info g.start (end_time g) g.mode g.correction s.clock.offset s.clock.state;
}

-- whether a number fits 64 bits
abbrev pub fits_64_bits : ℤ → Bool
fits_64_bits x = int_le (negsuc 9223372036854775807) x && int_le x (pos 9223372036854775807)

-- a conversion makes no entry
abbrev pub convert_piece : ℤ → ℕ → ℕ → Piece
convert_piece time from to =
    let value = converted time from to in
    record { entries = []; reply = cond (fits_64_bits value) (Convert value) ConvertTooWide }
