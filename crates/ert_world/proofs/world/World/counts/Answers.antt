use Rattle.ert_world.proofs.Totals.{counted}
use Rattle.ert_world.proofs.world.World.counts.Goals as goal

pub overflow_sub-result : goal.overflow_sub-result
overflow_sub-result c =
    (counted c.args.self.now c.tally-wheels.ensures.legal c.tally-wheels.ensures.arms c.tally-wheels.ensures.expires c.tally-wheels.ensures.orphans c.tally-wheels.ensures.rows
    c.waiting-expired.ensures c.delivered-delivered.ensures).expired_under

pub overflow_sub-result-2 : goal.overflow_sub-result-2
overflow_sub-result-2 c =
    (counted c.args.self.now c.tally-wheels.ensures.legal c.tally-wheels.ensures.arms c.tally-wheels.ensures.expires c.tally-wheels.ensures.orphans c.tally-wheels.ensures.rows
    c.waiting-expired.ensures c.delivered-delivered.ensures).delivered_under

pub overflow_sub-result-3 : goal.overflow_sub-result-3
overflow_sub-result-3 c =
    (counted c.args.self.now c.tally-wheels.ensures.legal c.tally-wheels.ensures.arms c.tally-wheels.ensures.expires c.tally-wheels.ensures.orphans c.tally-wheels.ensures.rows
    c.waiting-expired.ensures c.delivered-delivered.ensures).rows_under

pub overflow_sub-result-4 : goal.overflow_sub-result-4
overflow_sub-result-4 c =
    (counted c.args.self.now c.tally-wheels.ensures.legal c.tally-wheels.ensures.arms c.tally-wheels.ensures.expires c.tally-wheels.ensures.orphans c.tally-wheels.ensures.rows
    c.waiting-expired.ensures c.delivered-delivered.ensures).expires_under

pub overflow_sub-result-5 : goal.overflow_sub-result-5
overflow_sub-result-5 c =
    (counted c.args.self.now c.tally-wheels.ensures.legal c.tally-wheels.ensures.arms c.tally-wheels.ensures.expires c.tally-wheels.ensures.orphans c.tally-wheels.ensures.rows
    c.waiting-expired.ensures c.delivered-delivered.ensures).orphans_under

pub returns : goal.returns
returns c =
    (counted c.args.self.now c.tally-wheels.ensures.legal c.tally-wheels.ensures.arms c.tally-wheels.ensures.expires c.tally-wheels.ensures.orphans c.tally-wheels.ensures.rows
    c.waiting-expired.ensures c.delivered-delivered.ensures).numbers
