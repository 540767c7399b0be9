use Rattle.std.proofs.Common.{◌≡◌, ◌++◌, drop, string_bytes}
use Rattle.ert_explain.specs.Shown.{escaped}
use Rattle.ert_explain.proofs.shown.write_escaped.Given as goal

abbrev pub invariant-loop-b : goal.invariant-loop-b
invariant-loop-b l = string_bytes l.initial.page ++ escaped l.bytes ≡ string_bytes l.page ++ escaped (drop l.b-index l.bytes)
