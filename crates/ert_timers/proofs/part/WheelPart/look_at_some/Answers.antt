use Rattle.std.proofs.Common.{length, ap, subst, ◌∙◌, inr, arith}
use Rattle.ert_table.specs.Desks.{settings_of, view_of}
use Rattle.ert_timers.specs.Starting.{LooksAtSome}
use Rattle.ert_timers.proofs.{Rounds.{looks_none, looks_more}, Orphaned.still_caller, Standing.clock_stepped}
use Rattle.ert_timers.proofs.part.WheelPart.look_at_some.Goals as goal

pub loop-slot-init : goal.loop-slot-init
loop-slot-init c = record {
  belongs = c.requires.belongs;
  holds = c.requires.holds;
  call = looks_none (settings_of c.args.desk.now) (view_of c.args.pass.now) c.args.by c.args.now c.args.self.now c.args.from c.requires.stands;
  past = c.requires.past;
}

pub look_at-requires-clause-low : goal.look_at-requires-clause-low
look_at-requires-clause-low c = omega (arith, c.loop-slot-test.true, c.requires.low, ap length c.loop-slot.invariant.call.slots)

pub look_at-requires-clause-away : goal.look_at-requires-clause-away
look_at-requires-clause-away c =
    c.loop-slot.invariant.call.others c.loop-slot.slot (inr (omega arith))
    ∙ c.requires.none c.loop-slot.slot (omega (arith, c.loop-slot.invariant.call.count)) (omega (arith, c.loop-slot-test.true))

pub loop-slot-preserved : goal.loop-slot-preserved
loop-slot-preserved c =
    let one = c.look_at.ensures.call in
    record {
      belongs = c.look_at.ensures.belongs;
      holds = still_caller (settings_of c.args.desk.now) (view_of c.loop-slot.pass) (view_of c.look_at.new.pass) c.args.by c.loop-slot.self.number
          c.look_at.new.self.number c.loop-slot.invariant.holds one.step.actors one.number;
      call = looks_more (settings_of c.args.desk.now) (view_of c.args.pass.now) c.args.by c.args.now c.args.self.now c.loop-slot.self c.look_at.new.self c.args.from
          c.loop-slot.slot (view_of c.loop-slot.pass) (view_of c.look_at.new.pass) c.loop-slot.invariant.call c.loop-slot.invariant.holds one;
      past = omega (
        arith,
        c.loop-slot.invariant.past,
        clock_stepped (settings_of c.args.desk.now) (view_of c.loop-slot.pass) _ (view_of c.look_at.new.pass)
            one.stands.checked one.step,
      );
    }

pub returns-clause-call : goal.returns-clause-call
returns-clause-call c =
    subst
    (λ n. LooksAtSome (settings_of c.args.desk.now) (view_of c.args.pass.now) c.args.by c.args.now c.args.self.now c.loop-slot.self c.args.from n (view_of c.loop-slot.pass))
    (omega (arith, c.loop-slot-test.false, c.requires.order, c.loop-slot.invariant.call.count)) c.loop-slot.invariant.call
