use Rattle.std.proofs.Common.{◌≡◌, replicate, []}
use Rattle.ert_judge.proofs.state.inboxes.Inboxes.new.Given as goal

-- so many are made
abbrev pub invariant-loop : goal.invariant-loop
invariant-loop l = l.inboxes.items ≡ replicate l.counter []
