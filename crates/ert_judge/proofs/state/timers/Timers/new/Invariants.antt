use Rattle.std.proofs.Common.{◌≡◌, replicate, []}
use Rattle.ert_judge.proofs.state.timers.Timers.new.Given as goal

-- so many are made
abbrev pub invariant-loop : goal.invariant-loop
invariant-loop l = l.wheels.items ≡ replicate l.counter []
