use Rattle.std.proofs.Common.{◌≡◌, ◌≤◌, ◌+◌, ◌-◌, length}
use Rattle.ert_audit.specs.Faults.{fault_from, line_fault, words_from}
use Rattle.ert_audit.proofs.spelling.faults.fault_in.Given as goal

-- the words before the place are read, and the line stops being spelled where those from it on do
abbrev pub invariant-loop-turns : goal.invariant-loop-turns
invariant-loop-turns l = record {
  within : l.at ≤ length l.line + 1;
  same : line_fault l.is_first l.line ≡ fault_from l.turns (words_from l.line l.at) l.at;
}

abbrev pub decreases-loop-turns : goal.decreases-loop-turns
decreases-loop-turns l = length l.line + 1 - l.at
