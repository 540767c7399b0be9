-- Worked scenarios on the clock.

use Rattle.std.specs.Prelude.{pos, negsuc, [], ◌∷◌}
use Rattle.ert_defs.specs.declared.settings.Mode.TheVariants.{No, Single, Multi}
use Rattle.ert_ops.specs.{Worked.{corrected, later, Scenario}, declared.op.Op.TheVariants.{Tick, Check, Finalize, Time, System, Offset, Convert}}

-- without correction time stands still while OS system time catches up
abbrev pub frozen : Scenario
frozen = record {
  settings = later No;
  ops = Tick (pos 0) (pos 12000000000)
      ∷ Tick (pos 0) (pos 11000000000)
      ∷ Time
      ∷ Tick (pos 0) (pos 13000000000)
      ∷ System
      ∷ [];
}

-- in multi time warp mode a check moves the offset
abbrev pub warped : Scenario
warped = record {
  settings = later Multi;
  ops = Tick (pos 0) (pos 12000000000)
      ∷ Check (pos 0) (pos 11000000000)
      ∷ System
      ∷ Tick (pos 0) (pos 11500000000)
      ∷ [];
}

-- a reading of OS monotonic time that falls counts as the one before
abbrev pub fallen : Scenario
fallen = record {
  settings = record corrected { first = record { mono = pos 100; sys = pos 0 } };
  ops = Tick (pos 50) (pos 0) ∷ Tick (pos 150) (pos 0) ∷ [];
}

-- in single time warp mode the offset is finalized once
abbrev pub finalized_once : Scenario
finalized_once = record {
  settings = record corrected { mode = Single };
  ops = Tick (pos 5000000000) (pos 1005000000000)
      ∷ System
      ∷ Finalize (pos 6000000000) (pos 1006000000000)
      ∷ System
      ∷ Finalize (pos 7000000000) (pos 1008000000000)
      ∷ Tick (pos 7000000000) (pos 1007000000000)
      ∷ [];
}

-- a volatile offset isn't finalized
abbrev pub volatile : Scenario
volatile = record { settings = record corrected { mode = Multi }; ops = Finalize (pos 5) (pos 9) ∷ Offset ∷ [] }

-- a finalization that would move the offset outside its limits is refused
abbrev pub too_wide : Scenario
too_wide = record {
  settings = record corrected { mode = Single };
  ops = Tick (pos 4611686018427387903) (pos 0)
      ∷ Finalize (pos 4611686018427387903) (negsuc 2305843009213693950)
      ∷ Offset
      ∷ [];
}

-- conversions are rounded down, and told where they don't fit 64 bits
abbrev pub conversions : Scenario
conversions = record {
  settings = corrected;
  ops = Convert (negsuc 0) 1000000000 1
      ∷ Convert (pos 4611686018427387904) 1 1000000000
      ∷ Convert (pos 10) 3 1
      ∷ Convert (negsuc 9) 3 1
      ∷ Convert (pos 1) 1 3
      ∷ Convert (pos 9223372036854775807) 1000000000 1000
      ∷ [];
}

-- a difference of 200 milliseconds is corrected by one percent
abbrev pub strong : Scenario
strong = record {
  settings = corrected;
  ops = Check (pos 60000000000) (pos 60200000000)
      ∷ Tick (pos 61000000000) (pos 61200000000)
      ∷ Check (pos 80000000000) (pos 80200000000)
      ∷ Tick (pos 81000000000) (pos 81200000000)
      ∷ [];
}

-- and one of 100 milliseconds by 500 parts per million
abbrev pub gentle : Scenario
gentle = record {
  settings = corrected;
  ops = Check (pos 60000000000) (pos 60100000000) ∷ Tick (pos 61000000000) (pos 61100000000) ∷ [];
}
