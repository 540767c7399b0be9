use Rattle.std.proofs.Common.{◌≡◌, ◌++◌, take}
use Rattle.std.specs.List.{flat_map}
use Rattle.std.specs.Prelude.{string_bytes}
use Rattle.ert_audit.specs.Messages.{shown_byte}
use Rattle.ert_audit.proofs.lines.write_bytes.Given as goal

-- the bytes so far were appended
abbrev pub invariant-loop-byte : goal.invariant-loop-byte
invariant-loop-byte l =
    string_bytes l.page ≡ string_bytes l.fn.page ++ flat_map shown_byte (take l.byte-index l.bytes)
