use Rattle.std.proofs.Common.{◌≡◌, subst, ◌∙◌, rules}
use Rattle.ert_interval.specs.Calls.{IsNewOrSame}
use Rattle.ert_defs.specs.States.{state}
use Rattle.ert_interval.proofs.{Onward.still_kept, Plain.{still_plain, plain_asks}, Passing.counts_by, Tables.{set_kept, idle_then, still_none, any_default}, Stepping.{stays_none, on_stays, step_on}}
use Rattle.ert_interval.proofs.{intervals.IntervalWorld.go_on_one.Goals.{then-interval-sched-via-then-interval-sched, then-interval-sched-via-else-interval-sched+then-not-is_open}}
use Rattle.ert_interval.proofs.intervals.IntervalWorld.go_on_one.Goals as goal

pub returns-then-interval-sched-clause-still : goal.returns-then-interval-sched-clause-still
returns-then-interval-sched-clause-still c = elim c.then-interval-sched.branch [
  | then-interval-sched-via-then-interval-sched w ↦ rw w.self-is (still_none c.args.self.now.world)
  | then-interval-sched-via-else-interval-sched+then-not-is_open w ↦ rw w.self-is (still_none c.args.self.now.world)
]

pub returns-clause-kept : goal.returns-clause-kept
returns-clause-kept c =
    let a = c.args.self.now.world in
    let b = c.go_on.new.world in
    let is = c.args.self.now.intervals.items in
    let still = c.go_on.ensures.still in
    let value = c.index_mut-interval.ensures.value in
    set_kept a b is c.args.number c.go_on.new.interval c.requires.kept c.requires.number still.next c.go_on.ensures.legal
    (idle_then a b still.piece still.settings still.grown (plain_asks still.piece (still_plain still.piece still.still)) c.requires.kept.idle)
    (λ m d not low. still_kept a b _ still c.go_on.ensures.legal (c.requires.kept.each m d low))
    c.go_on.ensures.kept
    (λ d. subst (λ i. IsNewOrSame (state a.settings a.history) i c.go_on.new.interval)
    (value ∙ any_default is c.args.number c.index_mut-interval.result.now d c.requires.number) c.go_on.ensures.timer)

pub returns-clause-count : goal.returns-clause-count
returns-clause-count c =
    counts_by c.go_on.result c.go_on.new.world c.args.self.now.intervals.items c.args.number c.index_mut-interval.result.now c.go_on.new.interval
    c.requires.number c.index_mut-interval.ensures.value c.go_on.ensures.passed

pub returns-then-interval-sched-clause-stays : goal.returns-then-interval-sched-clause-stays
returns-then-interval-sched-clause-stays c = elim c.then-interval-sched.branch [
  | then-interval-sched-via-then-interval-sched w ↦ rw w.self-is (stays_none c.args.self.now.world)
  | then-interval-sched-via-else-interval-sched+then-not-is_open w ↦ rw w.self-is (stays_none c.args.self.now.world)
]

pub returns-clause-stays : goal.returns-clause-stays
returns-clause-stays c =
    on_stays c.go_on.result c.args.self.now.world c.index_mut-interval.result.now c.go_on.new.world c.go_on.new.interval c.go_on.ensures.goes

pub returns-clause-step : goal.returns-clause-step
returns-clause-step c =
    let i = c.index_mut-interval.result.now in
    let of_wheel : i.wheel ≡ c.args.sched = search rules in
    step_on c.go_on.result c.args.sched c.args.number c.args.self.now.world c.go_on.new.world c.args.self.now.intervals.items i c.go_on.new.interval
    c.requires.number c.index_mut-interval.ensures.value (of_wheel, c.is_open.ensures.0 c.if-not-is_open.false) c.go_on.ensures.goes
