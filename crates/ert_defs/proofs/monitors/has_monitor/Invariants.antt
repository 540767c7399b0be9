use Rattle.std.proofs.Common.{◌≡◌, drop}
use Rattle.ert_defs.specs.Legal.{stands_in}
use Rattle.ert_defs.proofs.monitors.has_monitor.Given as goal

-- what is left decides
abbrev pub invariant-loop-monitor : goal.invariant-loop-monitor
invariant-loop-monitor l = stands_in l.number (drop l.monitor-index l.monitors) ≡ stands_in l.number l.monitors
