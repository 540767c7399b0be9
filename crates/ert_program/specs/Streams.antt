-- What is told of the output and of the clock of the program, at one moment.

use Rattle.std.specs.Prelude.{ℕ, List, Option}
use Rattle.ert_defs.specs.declared.settings.Reading.{Reading}
use Rattle.ert_io.specs.{Known.{StreamTold, stream_told}, Told.{SinkTold, sink_told}}

-- of the output: the bytes that it took and its room, and how many writes failed
pub record Output : Type 0 where
  pub told : SinkTold
  pub faults : ℕ

-- of the clock: the readings that it gave and those that it has left, and how many failed
pub record ClockStream : Type 0 where
  pub told : StreamTold Reading
  pub faults : ℕ

-- what a sink tells of its bytes and of its room
abbrev pub told_by_sink : {S : Type 0} → (S → List ℕ) → (S → Option ℕ) → S → SinkTold
told_by_sink taken room sink = sink_told (taken sink) (room sink)

-- the output that a sink is, by the bytes that it took, its room and its failed writes
abbrev pub output_of : {S : Type 0} → (S → List ℕ) → (S → Option ℕ) → (S → ℕ) → S → Output
output_of taken room faults sink = record { told = told_by_sink taken room sink; faults = faults sink }

-- the clock, by the readings that it gave, those that it has left and the failed ones
abbrev pub clock_stream_of : {C : Type 0} → (C → List Reading) → (C → Option (List Reading)) → (C → ℕ) → C → ClockStream
clock_stream_of given left faults clock = record { told = stream_told (given clock) (left clock); faults = faults clock }
