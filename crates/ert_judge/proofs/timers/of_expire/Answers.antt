use Rattle.std.proofs.Common.{rules, sym, ◌∙◌}
use Rattle.ert_defs.specs.Milliseconds.{down}
use Rattle.ert_judge.proofs.{FirstArmed.found_status, Knows.next_known, Seen.refuted}
use Rattle.ert_judge.specs.{Parts.{looks_in, look_of}, Wheels.{timers_at, IsFirstDue}}
use Rattle.ert_judge.proofs.timers.of_expire.Goals as goal

pub of_not_next-requires-clause-never : goal.of_not_next-requires-clause-never
of_not_next-requires-clause-never c =
    refuted (IsFirstDue (timers_at c.args.judge.now.timers c.args.timer.wheel) c.args.timer
    (down c.args.judge.now.settings (look_of (looks_in c.args.judge.now.looks) c.args.by)))
    c.is_next.result c.is_next.ensures c.if-is_next.false

pub returns-then-is_next-clause-none : goal.returns-then-is_next-clause-none
returns-then-is_next-clause-none c = λ c' own. (
  (next_known c' c.args.judge.now c.args.by c.args.timer c.is_next.result own c.is_next.ensures).0 c.if-is_next.true,
  found_status c.args.judge.now c.args.timer c.in-Some.found (sym c.find.ensures ∙ c.in-Some.is) (search rules),
)
