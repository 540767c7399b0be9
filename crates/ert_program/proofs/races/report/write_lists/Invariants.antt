use Rattle.std.proofs.Common.{◌≡◌, ◌++◌, string_bytes, take}
use Rattle.ert_program.specs.{Reports.lists_text, Lists.dids_of}
use Rattle.ert_program.proofs.races.report.write_lists.Given as goal

abbrev pub invariant-loop-number : goal.invariant-loop-number
invariant-loop-number l = string_bytes l.page ≡ string_bytes l.fn.page ++ lists_text l.labels 0 (dids_of (take l.number l.lists))
