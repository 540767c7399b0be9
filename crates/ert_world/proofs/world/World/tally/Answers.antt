use Rattle.std.proofs.Common.{◌≡◌, ◌<◌, ◌+◌, rules, arith, ◌∙◌, subst}
use Rattle.ert_defs.specs.{States.state, declared.timer.Status.TheVariants.Armed}
use Rattle.ert_laws.specs.Counts.{count_at, entries_of, is_arm, is_expire, is_orphan, total}
use Rattle.ert_world.proofs.Totals.{legal_now, wheel_counts, wheel_rows, sum_on, sum_fits, arms_few, expires_few, orphans_few, armed_few}
use Rattle.ert_world.proofs.world.World.tally.Goals as goal

pub overflow_add-all : goal.overflow_add-all
overflow_add-all c =
    let low : c.loop-wheel.wheel < c.args.self.now.settings.schedulers = search rules in
    let now = legal_now c.args.self.now c.self.inside c.self.view_is c.self.invariant.sound in
    let counts = wheel_counts c.args.self.now c.self.inside c.loop-wheel.wheel c.index.result.now c.self.view_is c.self.invariant.sound low c.index.ensures in
    sum_fits c.loop-wheel.all.arms c.tally-one.result.arms (λ w. entries_of is_arm w c.args.self.now.history) c.loop-wheel.wheel c.loop-wheel.invariant.arms (c.tally-one.ensures.arms ∙ counts.0)
    (arms_few c.args.self.now.settings c.args.self.now.history now.0 now.1 (c.loop-wheel.wheel + 1) (omega (arith, low)))

pub overflow_add-all-in-loop-wheel : goal.overflow_add-all-in-loop-wheel
overflow_add-all-in-loop-wheel c =
    let low : c.loop-wheel.wheel < c.args.self.now.settings.schedulers = search rules in
    let now = legal_now c.args.self.now c.self.inside c.self.view_is c.self.invariant.sound in
    let counts = wheel_counts c.args.self.now c.self.inside c.loop-wheel.wheel c.index.result.now c.self.view_is c.self.invariant.sound low c.index.ensures in
    sum_fits c.loop-wheel.all.expires c.tally-one.result.expires (λ w. entries_of is_expire w c.args.self.now.history) c.loop-wheel.wheel c.loop-wheel.invariant.expires (c.tally-one.ensures.expires ∙ counts.1)
    (expires_few c.args.self.now.settings c.args.self.now.history now.0 now.1 (c.loop-wheel.wheel + 1) (omega (arith, low)))

pub overflow_add-all-in-loop-wheel-2 : goal.overflow_add-all-in-loop-wheel-2
overflow_add-all-in-loop-wheel-2 c =
    let low : c.loop-wheel.wheel < c.args.self.now.settings.schedulers = search rules in
    let now = legal_now c.args.self.now c.self.inside c.self.view_is c.self.invariant.sound in
    let counts = wheel_counts c.args.self.now c.self.inside c.loop-wheel.wheel c.index.result.now c.self.view_is c.self.invariant.sound low c.index.ensures in
    sum_fits c.loop-wheel.all.orphans c.tally-one.result.orphans (λ w. entries_of is_orphan w c.args.self.now.history) c.loop-wheel.wheel c.loop-wheel.invariant.orphans (c.tally-one.ensures.orphans ∙ counts.2)
    (orphans_few c.args.self.now.settings c.args.self.now.history now.0 now.1 (c.loop-wheel.wheel + 1) (omega (arith, low)))

pub overflow_add-all-in-loop-wheel-3 : goal.overflow_add-all-in-loop-wheel-3
overflow_add-all-in-loop-wheel-3 c =
    let low : c.loop-wheel.wheel < c.args.self.now.settings.schedulers = search rules in
    let now = legal_now c.args.self.now c.self.inside c.self.view_is c.self.invariant.sound in
    let counts = wheel_counts c.args.self.now c.self.inside c.loop-wheel.wheel c.index.result.now c.self.view_is c.self.invariant.sound low c.index.ensures in
    sum_fits c.loop-wheel.all.rows c.tally-one.result.rows (count_at (state c.args.self.now.settings c.args.self.now.history) Armed) c.loop-wheel.wheel c.loop-wheel.invariant.rows (c.tally-one.ensures.rows ∙ wheel_rows c.args.self.now c.self.inside c.loop-wheel.wheel c.index.result.now c.self.view_is c.self.invariant.sound low c.index.ensures c.requires)
    (armed_few c.args.self.now.settings c.args.self.now.history now.0 now.1 (c.loop-wheel.wheel + 1) (omega (arith, low)))

pub loop-wheel-preserved : goal.loop-wheel-preserved
loop-wheel-preserved c =
    let low : c.loop-wheel.wheel < c.args.self.now.settings.schedulers = search rules in
    let now = legal_now c.args.self.now c.self.inside c.self.view_is c.self.invariant.sound in
    let counts = wheel_counts c.args.self.now c.self.inside c.loop-wheel.wheel c.index.result.now c.self.view_is c.self.invariant.sound low c.index.ensures in
    record {
      arms = sum_on c.loop-wheel.all.arms c.tally-one.result.arms (λ w. entries_of is_arm w c.args.self.now.history) c.loop-wheel.wheel c.loop-wheel.invariant.arms (c.tally-one.ensures.arms ∙ counts.0);
      expires = sum_on c.loop-wheel.all.expires c.tally-one.result.expires (λ w. entries_of is_expire w c.args.self.now.history) c.loop-wheel.wheel c.loop-wheel.invariant.expires (c.tally-one.ensures.expires ∙ counts.1);
      orphans = sum_on c.loop-wheel.all.orphans c.tally-one.result.orphans (λ w. entries_of is_orphan w c.args.self.now.history) c.loop-wheel.wheel c.loop-wheel.invariant.orphans (c.tally-one.ensures.orphans ∙ counts.2);
      rows = sum_on c.loop-wheel.all.rows c.tally-one.result.rows (count_at (state c.args.self.now.settings c.args.self.now.history) Armed) c.loop-wheel.wheel c.loop-wheel.invariant.rows (c.tally-one.ensures.rows ∙ wheel_rows c.args.self.now c.self.inside c.loop-wheel.wheel c.index.result.now c.self.view_is c.self.invariant.sound low c.index.ensures c.requires);
    }

pub returns-clause-orphans : goal.returns-clause-orphans
returns-clause-orphans c =
    let end : c.loop-wheel.wheel ≡ c.args.self.now.settings.schedulers = search rules in
    subst (λ n. c.loop-wheel.all.orphans ≡ total (λ w. entries_of is_orphan w c.args.self.now.history) n) end c.loop-wheel.invariant.orphans

pub returns-clause-legal : goal.returns-clause-legal
returns-clause-legal c = (legal_now c.args.self.now c.self.inside c.self.view_is c.self.invariant.sound).1
