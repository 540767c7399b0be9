use Rattle.std.proofs.Common.{take}
use Rattle.ert_judge.specs.Shown.{HasFollowed}
use Rattle.ert_judge.proofs.stops.first_stop.Given as goal

-- the judge stands for the entries so far
abbrev pub invariant-loop-i : goal.invariant-loop-i
invariant-loop-i l = HasFollowed l.settings (take l.i l.entries) l.judge
