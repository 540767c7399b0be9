-- What the numbers of a line and of a face mean.

use Rattle.std.specs.Prelude.{ℤ}
use Rattle.ert_defs.specs.{Lines.{Base, Face, mono_after}, declared.settings.Reading.Reading}
use Rattle.ert_clock.specs.declared.faces.{Face.Face as KeptFace, Line.Line}

-- the base of a line
abbrev pub base_of : Line → Base
base_of l = record { time = l.time; mono = l.mono; sys = l.sys; rate = l.rate }

-- what a clock with this face shows
abbrev pub face_of : KeptFace → Face
face_of f = record { time = f.time; offset = f.offset; state = f.state; base = base_of f.line; mono = f.mono }

-- the face after a tick by which no line ends
abbrev pub runs_on : Face → Reading → ℤ → Face
runs_on f r now = record { time = now; offset = f.offset; state = f.state; base = f.base; mono = mono_after f r }
