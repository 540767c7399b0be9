use Rattle.std.proofs.Common.{◌≡◌, ◌<◌, ◌≤◌, length, ◌+◌, Err, rules, arith, sym, ap, ◌∙◌}
use Rattle.ert_interval.specs.Going.{one_if}
use Rattle.ert_interval.proofs.{Onward.still_then, Passing.{passes_more, passes_some, count_is}, Stepping.{stays_then, steps_more}, intervals.IntervalWorld.go_on_all.Goals.{then-branch, else-branch}}
use Rattle.ert_interval.proofs.intervals.IntervalWorld.go_on_all.Goals as goal

pub returns-in_err-go_on_one-clause-still : goal.returns-in_err-go_on_one-clause-still
returns-in_err-go_on_one-clause-still c =
    still_then c.args.self.now.world c.loop-number.self.world c.go_on_one.new.self.world c.loop-number.invariant.still c.go_on_one.ensures.still

pub returns-in_err-go_on_one-clause-passed : goal.returns-in_err-go_on_one-clause-passed
returns-in_err-go_on_one-clause-passed c =
    let result : c.from_residual.result ≡ Err c.in_err-go_on_one.field-0.0 = search rules in
    rw result (passes_some c.args.sched c.loop-number.number c.loop-number.self.world c.go_on_one.new.self.world c.args.self.now.intervals.items
    c.loop-number.self.intervals.items c.go_on_one.new.self.intervals.items c.loop-number.armed c.in_err-go_on_one.field-0.0 c.loop-number.invariant.to
    c.in_err-go_on_one.ensures.one c.go_on_one.ensures.still c.loop-number.invariant.kept c.go_on_one.ensures.kept.legal)

pub loop-number-preserved : goal.loop-number-preserved
loop-number-preserved c =
    let one = c.in_ok-go_on_one.field-0 in
    let few : c.loop-number.armed ≤ c.loop-number.number = c.loop-number.invariant.few in
    let sum : c.if-branch.armed ≡ c.loop-number.armed + one_if one = elim c.if-branch.branch [
      | then-branch w ↦ w.armed-is ∙ ap (λ b. c.loop-number.armed + one_if b) (sym w.if-branch.true)
      | else-branch w ↦
          let none : c.loop-number.armed ≡ c.loop-number.armed + 0 = omega arith in
          w.armed-is ∙ (none ∙ ap (λ b. c.loop-number.armed + one_if b) (sym w.if-branch.false))
    ] in
    record {
      kept = c.go_on_one.ensures.kept;
      still = still_then c.args.self.now.world c.loop-number.self.world c.go_on_one.new.self.world c.loop-number.invariant.still c.go_on_one.ensures.still;
      stays = stays_then c.args.self.now.world c.loop-number.self.world c.go_on_one.new.self.world c.loop-number.invariant.stays c.go_on_one.ensures.stays;
      few = elim c.if-branch.branch [
        | then-branch w ↦ let is = w.armed-is in omega (arith, is, few)
        | else-branch w ↦ let is = w.armed-is in omega (arith, is, few)
      ];
      steps = steps_more c.args.sched c.loop-number.number c.args.self.now.world c.loop-number.self.world c.go_on_one.new.self.world
          c.args.self.now.intervals.items c.loop-number.self.intervals.items c.go_on_one.new.self.intervals.items c.loop-number.armed c.if-branch.armed one
          c.loop-number.invariant.steps c.in_ok-go_on_one.ensures.step sum;
      to = passes_more c.args.sched c.loop-number.number c.loop-number.self.world c.go_on_one.new.self.world c.args.self.now.intervals.items
          c.loop-number.self.intervals.items c.go_on_one.new.self.intervals.items c.loop-number.armed c.if-branch.armed one c.loop-number.invariant.to
          c.in_ok-go_on_one.ensures.one c.go_on_one.ensures.still c.loop-number.invariant.kept c.go_on_one.ensures.kept.legal
          (count_is one c.loop-number.self.intervals.items c.go_on_one.new.self.intervals.items c.in_ok-go_on_one.ensures.count) sum;
    }

pub returns-in_err-go_on_one-clause-stays : goal.returns-in_err-go_on_one-clause-stays
returns-in_err-go_on_one-clause-stays c =
    stays_then c.args.self.now.world c.loop-number.self.world c.go_on_one.new.self.world c.loop-number.invariant.stays c.go_on_one.ensures.stays

pub returns-in_err-go_on_one-clause-steps : goal.returns-in_err-go_on_one-clause-steps
returns-in_err-go_on_one-clause-steps c =
    let result : c.from_residual.result ≡ Err c.in_err-go_on_one.field-0.0 = search rules in
    let low : c.loop-number.number < length c.args.self.now.intervals.items = search rules in
    rw result (record {
      number = c.loop-number.number;
      low = low;
      so_far = c.loop-number.armed;
      between = c.loop-number.self.world;
      intervals = c.loop-number.self.intervals.items;
      before = c.loop-number.invariant.steps;
      step = c.in_err-go_on_one.ensures.step;
    })
