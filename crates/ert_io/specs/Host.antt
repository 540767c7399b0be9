-- What stands behind a source and a sink of the host.

use Rattle.ert_io.specs.declared.host.{StdSource.StdSource, StdSink.StdSink}

-- the reader that a source reads
abbrev pub reader_of : {R : Type 0} → StdSource R → R
reader_of s = s.inner

-- the writer that a sink writes
abbrev pub writer_of : {W : Type 0} → StdSink W → W
writer_of s = s.inner
