use Rattle.std.proofs.Common.{sym, subst, arith}
use Rattle.ert_table.specs.Desks.{settings_of, view_of, front_of}
use Rattle.ert_timers.specs.Parts.{Part, PartStands}
use Rattle.ert_timers.proofs.Probed.{asks_armed, asks_last, asks_late, asks_none, drops_next, drops_none, still_sched, told_has, told_low}
use Rattle.ert_timers.proofs.part.WheelPart.ask_on.Goals as goal

pub loop-init : goal.loop-init
loop-init c = record {
  belongs = c.requires.belongs;
  some = drops_none (settings_of c.args.desk.now) (view_of c.args.pass.now) c.args.self.now c.requires.stands;
}

pub returns-in_default-clause-call : goal.returns-in_default-clause-call
returns-in_default-clause-call c =
    asks_none (settings_of c.args.desk.now) (view_of c.args.pass.now) (view_of c.loop.pass) c.args.self.now c.loop.self c.first_due.new.self c.loop.counter
    c.args.most c.first_due.result c.loop.invariant.some c.loop-test.true c.first_due.ensures.part c.first_due.ensures.held c.in_default.is

pub returns-in_default-teller-clause-call : goal.returns-in_default-teller-clause-call
returns-in_default-teller-clause-call c =
    asks_late (settings_of c.args.desk.now) (view_of c.args.pass.now) (view_of c.loop.pass) c.args.self.now c.loop.self c.first_due.new.self c.loop.counter
    c.args.most c.in-Some.time c.first_due.result c.loop.invariant.some c.loop-test.true c.first_due.ensures.part c.first_due.ensures.held c.in-Some.is
    c.teller.result c.in_default-teller.is c.teller.ensures.late

pub probe_row-requires-clause-belongs : goal.probe_row-requires-clause-belongs
probe_row-requires-clause-belongs c = c.loop.invariant.belongs

pub probe_row-requires-clause-holds : goal.probe_row-requires-clause-holds
probe_row-requires-clause-holds c =
    still_sched (view_of c.args.pass.now) (view_of c.loop.pass) c.args.self.now c.loop.self c.first_due.new.self c.requires.holds
    c.loop.invariant.some.call.actors c.loop.invariant.some.loses.number c.first_due.ensures.part

pub probe_row-requires-clause-stands : goal.probe_row-requires-clause-stands
probe_row-requires-clause-stands c =
    subst (λ (p : Part). PartStands (settings_of c.args.desk.now) (front_of c.loop.pass) p) (sym c.first_due.ensures.part) c.loop.invariant.some.stands

pub probe_row-requires-clause-low : goal.probe_row-requires-clause-low
probe_row-requires-clause-low c =
    told_low (settings_of c.args.desk.now) (front_of c.loop.pass) c.loop.self c.first_due.new.self c.in-Some.time c.in-Some-teller.slot
    c.loop.invariant.some.stands c.first_due.ensures.part c.in-Some-teller.ensures.tells

pub probe_row-requires-clause-row : goal.probe_row-requires-clause-row
probe_row-requires-clause-row c =
    told_has c.first_due.new.self.keys c.first_due.new.self.stands c.first_due.new.self.passed c.in-Some.time c.in-Some-teller.slot c.in-Some-teller.ensures.tells

pub returns-then-probe_row-clause-call : goal.returns-then-probe_row-clause-call
returns-then-probe_row-clause-call c =
    asks_armed (settings_of c.args.desk.now) (view_of c.args.pass.now) (view_of c.loop.pass) (view_of c.probe_row.new.pass) c.args.self.now c.loop.self
    c.first_due.new.self c.probe_row.new.self c.loop.counter c.args.most c.in-Some.time c.in-Some-teller.slot c.first_due.result c.loop.invariant.some c.loop-test.true
    c.first_due.ensures.part c.first_due.ensures.held c.in-Some.is c.in-Some-teller.ensures.tells c.probe_row.result c.if-probe_row.true c.probe_row.ensures.call

pub loop-preserved : goal.loop-preserved
loop-preserved c = record {
  belongs = c.probe_row.ensures.belongs;
  some = drops_next (settings_of c.args.desk.now) (view_of c.args.pass.now) (view_of c.loop.pass) (view_of c.probe_row.new.pass) c.args.self.now c.loop.self
      c.first_due.new.self c.probe_row.new.self c.loop.counter c.in-Some.time c.in-Some-teller.slot c.loop.invariant.some c.first_due.ensures.part
      c.in-Some-teller.ensures.tells c.probe_row.result c.if-probe_row.false c.probe_row.ensures.call;
}

pub returns-clause-call : goal.returns-clause-call
returns-clause-call c =
    asks_last (settings_of c.args.desk.now) (view_of c.args.pass.now) (view_of c.loop.pass) c.args.self.now c.loop.self c.first_due-2.new.self c.loop.counter
    c.args.most c.first_due-2.result c.loop.invariant.some (omega (arith, c.loop-test.false, c.loop.auto.counter-end)) c.first_due-2.ensures.part c.first_due-2.ensures.held
