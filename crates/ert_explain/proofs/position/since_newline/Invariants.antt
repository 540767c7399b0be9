use Rattle.std.proofs.Common.{◌≡◌, ◌≤◌, drop}
use Rattle.ert_explain.specs.Positions.{since_newline}
use Rattle.ert_explain.proofs.position.since_newline.Given as goal

abbrev pub invariant-loop-b : goal.invariant-loop-b
invariant-loop-b l = (since_newline 0 l.before ≡ since_newline l.count (drop l.b-index l.before)) × (l.count ≤ l.b-index)
