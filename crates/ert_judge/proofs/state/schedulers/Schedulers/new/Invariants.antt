use Rattle.std.proofs.Common.{◌≡◌, replicate}
use Rattle.ert_defs.specs.Mails.{idle_sched}
use Rattle.ert_judge.proofs.state.schedulers.Schedulers.new.Given as goal

-- so many are made
abbrev pub invariant-loop : goal.invariant-loop
invariant-loop l = l.schedulers.items ≡ replicate l.counter idle_sched
