use Rattle.std.proofs.Common.{refl}
use Rattle.ert_table.specs.Desks.{settings_of, view_of, front_of}
use Rattle.ert_timers.proofs.Probed.{asks_kept, asks_more, probed_sched, told_has, told_low}
use Rattle.ert_timers.proofs.part.WheelPart.ask_next.Goals as goal

pub probe_row-requires-clause-low : goal.probe_row-requires-clause-low
probe_row-requires-clause-low c =
    told_low (settings_of c.args.desk.now) (front_of c.args.pass.now) c.args.self.now c.args.self.now c.in-Some.time c.in-Some.slot c.requires.stands refl
    c.in-Some.ensures.tells

pub probe_row-requires-clause-row : goal.probe_row-requires-clause-row
probe_row-requires-clause-row c = told_has c.args.self.now.keys c.args.self.now.stands c.args.self.now.passed c.in-Some.time c.in-Some.slot c.in-Some.ensures.tells

pub returns-then-probe_row-clause-call : goal.returns-then-probe_row-clause-call
returns-then-probe_row-clause-call c =
    asks_kept (settings_of c.args.desk.now) (view_of c.args.pass.now) (view_of c.probe_row.new.pass) c.args.self.now c.probe_row.new.self c.in-Some.time c.in-Some.slot
    c.requires.stands c.in-Some.ensures.held c.in-Some.ensures.tells c.probe_row.result c.if-probe_row.true c.probe_row.ensures.call

pub returns-in-Some-clause-call : goal.returns-in-Some-clause-call
returns-in-Some-clause-call c =
    asks_more (settings_of c.args.desk.now) (view_of c.args.pass.now) (view_of c.probe_row.new.pass) (view_of c.ask_on.new.pass) c.args.self.now
    c.probe_row.new.self c.ask_on.new.self c.in-Some.time c.in-Some.slot c.ask_on.result c.in-Some.ensures.tells c.probe_row.result c.if-probe_row.false
    c.probe_row.ensures.call c.ask_on.ensures.call

pub ask_on-requires-clause-holds : goal.ask_on-requires-clause-holds
ask_on-requires-clause-holds c =
    probed_sched (settings_of c.args.desk.now) (view_of c.args.pass.now) (view_of c.probe_row.new.pass) c.args.self.now c.probe_row.new.self c.in-Some.slot
    c.probe_row.result c.requires.holds c.probe_row.ensures.call
