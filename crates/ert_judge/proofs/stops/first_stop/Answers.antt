use Rattle.std.proofs.Common.{rules, take}
use Rattle.ert_judge.proofs.{Opens.stands_open, Walks.{walk_on, walk_stops, arms_new}}
use Rattle.ert_judge.proofs.stops.first_stop.Goals as goal

pub loop-i-init : goal.loop-i-init
loop-i-init c = stands_open c.args.settings.now c.in_ok-judge.judge c.in_ok-judge.ensures

pub returns-in-Some-clause-stops : goal.returns-in-Some-clause-stops
returns-in-Some-clause-stops c =
    walk_stops c.args.settings.now c.args.entries.now c.loop-i.i _ c.loop-i.judge c.in-Some.why c.loop-i-test.true c.loop-i.invariant
    (c.in-Some.ensures.why c.args.settings.now (take c.loop-i.i c.args.entries.now) c.loop-i.invariant)

pub follow-requires-clause-arms : goal.follow-requires-clause-arms
follow-requires-clause-arms c =
    arms_new c.args.settings.now _ c.loop-i.judge _ c.reason.result c.loop-i.invariant c.reason.ensures.legal (search rules)

pub loop-i-preserved : goal.loop-i-preserved
loop-i-preserved c =
    walk_on c.args.settings.now c.args.entries.now c.loop-i.i _ c.loop-i.judge c.follow.new.self c.reason.result
    c.loop-i-test.true c.loop-i.invariant c.reason.ensures.legal (search rules) c.in_ok-follow.ensures
