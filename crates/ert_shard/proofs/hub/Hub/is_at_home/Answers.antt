use Rattle.std.proofs.Common.{◌<◌, ◌-◌, sym, subst, arith}
use Rattle.std.specs.Prelude.{IsTrue, ◌↔◌}
use Rattle.ert_shard.proofs.Cut.{told_one, told_all, known_more}
use Rattle.ert_shard.specs.Hubs.{Rest, AreKnown}
use Rattle.ert_shard.proofs.hub.Hub.is_at_home.Goals as goal

pub returns-then-not-are_known : goal.returns-then-not-are_known
returns-then-not-are_known c =
    told_one c.args.self.now c.args.processes c.loop-wheel.wheel c.are_known.result c.if-not-are_known.true
    (subst (λ (r : Rest). c.loop-wheel.wheel < r.left - 1) c.self.view_is c.loop-wheel-test.true)
    (subst (λ (r : Rest). IsTrue c.are_known.result ↔ AreKnown c.args.self.now c.loop-wheel.wheel 0 (r.first - c.args.processes)) c.self.view_is c.are_known.ensures)

pub loop-wheel-preserved : goal.loop-wheel-preserved
loop-wheel-preserved c =
    known_more c.args.self.now c.loop-wheel.wheel (c.args.self.now.first - c.args.processes) c.are_known.result c.loop-wheel.invariant
    c.if-not-are_known.false
    (subst (λ (r : Rest). IsTrue c.are_known.result ↔ AreKnown c.args.self.now c.loop-wheel.wheel 0 (r.first - c.args.processes)) c.self.view_is c.are_known.ensures)

pub returns : goal.returns
returns c =
    let b = c.self.inside in
    let done = c.loop-wheel-test.false in
    told_all c.args.self.now c.args.processes c.are_known-2.result
    (λ w low. c.loop-wheel.invariant w
    (let below : w < b.left - 1 = subst (λ (r : Rest). w < r.left - 1) (sym c.self.view_is) low in omega (arith, below, done)))
    (subst (λ (r : Rest). IsTrue c.are_known-2.result ↔ AreKnown c.args.self.now (r.left - 1) (r.first - c.args.processes) r.first) c.self.view_is c.are_known-2.ensures)
