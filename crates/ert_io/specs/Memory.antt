-- What a source and a sink in memory are, to who uses them.

use Rattle.std.specs.Prelude.{ℕ, List, Bool, take, drop, length, nat_eq}
use Rattle.ert_io.specs.declared.{mem_source.MemSource.MemSource, mem_sink.MemSink.MemSink, sure_source.SureSource.SureSource, sure_sink.SureSink.SureSink}

-- the bytes that a source gave
abbrev pub bytes_given : MemSource → List ℕ
bytes_given s = take s.next s.bytes.items

-- the bytes that it has left
abbrev pub bytes_left : MemSource → List ℕ
bytes_left s = drop s.next s.bytes.items

-- whether it has none left
abbrev pub is_used_up : MemSource → Bool
is_used_up s = nat_eq (length (bytes_left s)) 0

-- how many reads were made
abbrev pub reads_of : MemSource → ℕ
reads_of s = s.calls.made

-- the numbers of the reads that are to fail
abbrev pub failing_reads : MemSource → List ℕ
failing_reads s = s.calls.fails.items

-- the bytes that a sink took
abbrev pub taken_of : MemSink → List ℕ
taken_of s = s.taken.items

-- the most bytes that a sink takes in a call
abbrev pub piece_of : MemSink → ℕ
piece_of s = s.piece

-- how many writes were made
abbrev pub writes_of : MemSink → ℕ
writes_of s = s.calls.made

-- the numbers of the writes that are to fail
abbrev pub failing_writes : MemSink → List ℕ
failing_writes s = s.calls.fails.items

-- the bytes that a source which never fails gave
abbrev pub sure_given : SureSource → List ℕ
sure_given s = take s.next s.bytes.items

-- the bytes that it has left
abbrev pub sure_left : SureSource → List ℕ
sure_left s = drop s.next s.bytes.items

-- whether it has none left
abbrev pub is_sure_used_up : SureSource → Bool
is_sure_used_up s = nat_eq (length (sure_left s)) 0

-- the bytes that a sink which never fails took
abbrev pub sure_taken : SureSink → List ℕ
sure_taken s = s.taken.items

-- how many more bytes a sink which never fails has room for
abbrev pub sure_room : SureSink → ℕ
sure_room s = s.room
