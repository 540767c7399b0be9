-- What a sink into memory has, to who uses it.

use Rattle.std.specs.Prelude.{ℕ, List}
use Rattle.ert_text.specs.declared.sink.TextSink.{TextSink}

-- the bytes that it took
abbrev pub text_of : TextSink → List ℕ
text_of s = s.text.items
