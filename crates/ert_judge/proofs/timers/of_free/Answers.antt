use Rattle.std.proofs.Common.{rules, subst, ◌≡◌, Option, ℕ}
use Rattle.ert_defs.specs.Milliseconds.{natural, down, deadline_of}
use Rattle.ert_judge.specs.{Parts.{looks_in, look_of}, Uses.uses_of, Breaks.IsUse, Shown.shown}
use Rattle.ert_judge.proofs.NewTimers.{use_known, use_breaks, wheel_used}
use Rattle.ert_judge.proofs.timers.of_free.Goals as goal

pub returns-in-Some-clause-some : goal.returns-in-Some-clause-some
returns-in-Some-clause-some c = λ c'.
    let look = look_of (looks_in c.args.judge.now.looks) c.args.by in
    let due : c.deadline_of-deadline.result ≡ deadline_of c.args.judge.now.settings c.args.start look = search rules in
    let now : c.passed-now.result ≡ natural (down c.args.judge.now.settings look) = search rules in
    use_breaks c.args.judge.now.settings (shown c' c.args.judge.now) c.args.by c.args.timer c.args.start c.in-Some.reason
    c.requires (rw (c.uses-uses.ensures, now, due) at c.in-Some.ensures.some)

pub returns-then-count-ge-TIMERS_OF_WHEEL-clause-some : goal.returns-then-count-ge-TIMERS_OF_WHEEL-clause-some
returns-then-count-ge-TIMERS_OF_WHEEL-clause-some c = λ c'.
    let look = look_of (looks_in c.args.judge.now.looks) c.args.by in
    let due : c.deadline_of-deadline.result ≡ deadline_of c.args.judge.now.settings c.args.start look = search rules in
    let now : c.passed-now.result ≡ natural (down c.args.judge.now.settings look) = search rules in
    wheel_used c' c.args.judge.now c.args.by c.args.timer c.args.start (uses_of c.uses-uses.result) c.passed-now.result c.count.result
    c.requires c.uses-uses.ensures now
    (subst (λ (d : Option ℕ). IsUse (uses_of c.uses-uses.result) c.passed-now.result d c.args.timer.generation) due c.in_default.ensures.none)
    c.count.ensures c.if-count-ge-TIMERS_OF_WHEEL.true

pub returns-else-count-ge-TIMERS_OF_WHEEL-clause-none : goal.returns-else-count-ge-TIMERS_OF_WHEEL-clause-none
returns-else-count-ge-TIMERS_OF_WHEEL-clause-none c = λ c'.
    let look = look_of (looks_in c.args.judge.now.looks) c.args.by in
    let due : c.deadline_of-deadline.result ≡ deadline_of c.args.judge.now.settings c.args.start look = search rules in
    let now : c.passed-now.result ≡ natural (down c.args.judge.now.settings look) = search rules in
    use_known c' c.args.judge.now c.args.by c.args.timer (deadline_of c.args.judge.now.settings c.args.start look)
    (uses_of c.uses-uses.result) c.passed-now.result c.count.result c.requires c.uses-uses.ensures now
    (subst (λ (d : Option ℕ). IsUse (uses_of c.uses-uses.result) c.passed-now.result d c.args.timer.generation) due c.in_default.ensures.none)
    c.count.ensures c.if-count-ge-TIMERS_OF_WHEEL.false
