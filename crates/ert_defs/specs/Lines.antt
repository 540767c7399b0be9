-- The clock by its rules on numbers: lines, checks, shifts and finalizations
-- (ERTS User's Guide, "Time Correction" and "Time Warp Modes"; the numbers are the profile's).

use Rattle.std.specs.Prelude.{◌≡◌, ℤ, pos, negsuc, ◌+ℤ◌, ◌-ℤ◌, ◌*ℤ◌, ◌<ℤ◌, Bool, true, false, cond, ◌&&◌, nat_lt, nat_le, int_lt, int_le, unsigned_abs, Option, Some, None}
use Rattle.std.specs.Int.{int_max, int_div_euclid}
use Rattle.ert_defs.specs.declared.{entry.Act.Act, entry.Act.TheVariants.{Plain, Force, Finalize}, settings.Mode.Mode, settings.Mode.TheVariants.{No, Single, Multi}, settings.OffsetState.OffsetState}
use Rattle.ert_defs.specs.declared.{settings.OffsetState.TheVariants.{Preliminary, Final, Volatile}, settings.Reading.Reading, settings.Settings.Settings}

-- an offset within its limits (profile): between -2^62 and 2^62
pub record IsOffset (x : ℤ) : Type 0 where
  pub low : negsuc 4611686018427387903 <ℤ x
  pub high : x <ℤ pos 4611686018427387904

-- the base of a line: the time, the OS monotonic time and the OS system time of the last check, and
-- the rate in parts per million
pub record Base : Type 0 where
  pub time : ℤ
  pub mono : ℤ
  pub sys : ℤ
  pub rate : ℤ

-- what a clock shows: its time, its offset and the state of that, the base of its line, and the OS
-- monotonic time of its last tick
pub record Face : Type 0 where
  pub time : ℤ
  pub offset : ℤ
  pub state : OffsetState
  pub base : Base
  pub mono : ℤ

-- an offset with its state, to which the clock's are to be set
abbrev pub Due : Type 0
Due = ℤ × OffsetState

-- the state of the offset at the opening (ERTS User's Guide, "Time Warp Modes"): final in no time warp mode,
-- preliminary in single, volatile in multi
abbrev pub first_state : Mode → OffsetState
first_state No = Final
first_state Single = Preliminary
first_state Multi = Volatile

-- the offset at the opening (ERTS User's Guide, "Time Warp Modes"): system time is that of the first reading
abbrev pub first_offset : Settings → ℤ
first_offset g = g.first.sys -ℤ g.start

-- the first reading counts as a check at the start time, with rate 0 (profile)
abbrev pub first_base : Settings → Base
first_base g = record { time = g.start; mono = g.first.mono; sys = g.first.sys; rate = pos 0 }

-- the end time, the start time plus 8796093022207000000 (`erlang` module reference, `system_info(end_time)`):
-- valid readings never reach it, and no legal history does
abbrev pub end_time : Settings → ℤ
end_time g = g.start +ℤ pos 8796093022207000000

-- the time on a line at an OS monotonic time (ERTS User's Guide, "Time Correction"; the rounding is the
-- profile's): that of the base, and what OS monotonic time grew by since, and the share of this that the rate
-- gives, in parts per million, rounded down
abbrev pub line_time : Base → ℤ → ℤ
line_time b o = (b.time +ℤ (o -ℤ b.mono)) +ℤ int_div_euclid ((o -ℤ b.mono) *ℤ b.rate) (pos 1000000)

-- the OS monotonic time of a tick (profile), the greatest so far: a reading below that of the last tick counts
-- as that
abbrev pub mono_after : Face → Reading → ℤ
mono_after f r = int_max f.mono r.mono

-- the time after a tick (ERTS User's Guide, "Time Correction" and "No Time Warp Mode"): with correction the
-- time on the line; without it, OS system time less the offset, and never below the time before
abbrev pub time_after : Settings → Face → Reading → ℤ
time_after g f r = cond g.correction (line_time f.base (mono_after f r)) (int_max f.time (r.sys -ℤ f.offset))

-- whether a check is due (profile): 60 seconds after the last check or finalization in OS monotonic time with
-- correction, and without it 60 seconds of OS system time away from it, in either direction
abbrev pub is_due : Settings → Base → ℤ → ℤ → Bool
is_due g b o sys = cond g.correction (int_le (pos 60000000000) (o -ℤ b.mono)) (nat_le 60000000000 (unsigned_abs (sys -ℤ b.sys)))

-- whether a tick is a check (profile): it is forced, or it is plain and a check is due. A finalization never
-- is one
abbrev pub is_check : Act → Bool → Bool
is_check Plain due = due
is_check Force due = true
is_check Finalize due = false

-- whether a tick is the base of a new line (profile): where it is a check or finalizes the offset
abbrev pub is_base : Act → Bool → Bool
is_base Plain due = due
is_base Force due = true
is_base Finalize due = true

-- the rate that follows a check with a final offset, where OS system time is so far above system time (ERTS
-- User's Guide, "Time Correction"; the two strengths are the profile's): 10000 if that is above 100,000,000;
-- 500 if it is above 1,000,000; 0 from there to -1,000,000; -500 below that, and -10000 below -100,000,000. In
-- the other states 0
abbrev pub rate_of : OffsetState → ℤ → ℤ
rate_of Final error =
    cond (int_lt (pos 100000000) error) (pos 10000)
    (cond (int_lt (pos 1000000) error) (pos 500)
    (cond (int_lt error (negsuc 99999999)) (negsuc 9999)
    (cond (int_lt error (negsuc 999999)) (negsuc 499) (pos 0))))
rate_of Preliminary error = pos 0
rate_of Volatile error = pos 0

-- the rate that follows a base (profile): that of a check, and 0 after a finalization
abbrev pub rate_after : Act → OffsetState → ℤ → ℤ
rate_after Finalize state error = pos 0
rate_after Plain state error = rate_of state error
rate_after Force state error = rate_of state error

-- the base that a tick makes (profile), at this time and OS monotonic time and with the offset before any
-- shift
abbrev pub base_from : Reading → Act → ℤ → ℤ → ℤ → OffsetState → Base
base_from r act o now offset state =
    record { time = now; mono = o; sys = r.sys; rate = rate_after act state (r.sys -ℤ (now +ℤ offset)) }

-- the shift that is due after a tick to OS system time less time (ERTS User's Guide, "Multi-Time Warp Mode";
-- the millisecond is the profile's): in multi time warp mode after a check that finds the offset more than a
-- millisecond away
abbrev pub shift_of : OffsetState → Bool → ℤ → ℤ → Option Due
shift_of Volatile check x offset = cond (check && nat_lt 1000000 (unsigned_abs (x -ℤ offset))) (Some (x, Volatile)) None
shift_of Preliminary check x offset = None
shift_of Final check x offset = None

-- a finalization makes a shift due, to the state final, even if the offset stays (ERTS User's Guide, "Single
-- Time Warp Mode")
abbrev pub due_from : Act → Bool → OffsetState → ℤ → ℤ → Option Due
due_from Finalize due state x offset = Some (x, Final)
due_from Plain due state x offset = shift_of state due x offset
due_from Force due state x offset = shift_of state true x offset

-- whether a check is due at a tick
abbrev pub due_at : Settings → Face → Reading → Bool
due_at g f r = is_due g f.base (mono_after f r) r.sys

-- the shift that is due after a tick to a time
abbrev pub due_after : Settings → Face → Reading → Act → ℤ → Option Due
due_after g f r act now = due_from act (due_at g f r) f.state (r.sys -ℤ now) f.offset

-- what the clock shows after a tick to a time
abbrev pub ticked : Settings → Face → Reading → Act → ℤ → Face
ticked g f r act now = record {
  time = now;
  offset = f.offset;
  state = f.state;
  base = cond (is_base act (due_at g f r)) (base_from r act (mono_after f r) now f.offset f.state) f.base;
  mono = mono_after f r;
}

-- what the clock shows after the shift that was due
abbrev pub shifted : Face → Option Due → Face
shifted f None = f
shifted f (Some d) = record { time = f.time; offset = d.0; state = d.1; base = f.base; mono = f.mono }

-- the shift keeps the offset within its limits (profile): otherwise the tick isn't legal
abbrev pub IsInRange : Option Due → Type 0
IsInRange None = Unit {0}
IsInRange (Some d) = IsOffset d.0

-- only a preliminary offset can be finalized
abbrev pub MayAct : Act → OffsetState → Type 0
MayAct Plain state = Unit {0}
MayAct Force state = Unit {0}
MayAct Finalize state = state ≡ Preliminary
