use Rattle.std.proofs.Common.{◌≡◌, Ok, Err, inr, rules, subst}
use Rattle.ert_interval.specs.{Calls.{PassesAll, PassesSome}, Going.StepsAll}
use Rattle.ert_interval.proofs.intervals.IntervalWorld.turn.Goals as goal

pub returns-in_err-armed-clause-turns : goal.returns-in_err-armed-clause-turns
returns-in_err-armed-clause-turns c =
    let result : c.from_residual-in_err-armed.result ≡ Err c.in_err-armed.field-0.0 = search rules in
    rw result (inr (
      (
        c.in_ok-turned.turned,
        record {
          between = c.turn_world.new.self.world;
          turn = c.in_ok-turned.ensures.turn;
          still = c.go_on_all.ensures.still;
          steps = subst (λ is. StepsAll c.args.sched (Err c.in_err-armed.field-0.0) c.turn_world.new.self.world is c.go_on_all.new.self.world c.go_on_all.new.self.intervals.items)
              c.turn_world.ensures.same c.in_err-armed.ensures.steps;
        },
      ),
      subst (λ is. PassesSome c.args.sched c.go_on_all.new.self.world is c.go_on_all.new.self.intervals.items) c.turn_world.ensures.same
          c.in_err-armed.ensures.passed,
    ))

pub returns-clause-turns : goal.returns-clause-turns
returns-clause-turns c = (
  record {
    between = c.turn_world.new.self.world;
    turn = c.in_ok-turned.ensures.turn;
    still = c.go_on_all.ensures.still;
    steps = subst (λ is. StepsAll c.args.sched (Ok c.in_ok-armed.armed) c.turn_world.new.self.world is c.go_on_all.new.self.world c.go_on_all.new.self.intervals.items)
        c.turn_world.ensures.same c.in_ok-armed.ensures.steps;
  },
  subst (λ is. PassesAll c.args.sched c.go_on_all.new.self.world is c.go_on_all.new.self.intervals.items c.in_ok-armed.armed) c.turn_world.ensures.same
      c.in_ok-armed.ensures.passed,
)
