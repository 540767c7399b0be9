use Rattle.std.proofs.Common.{List, ℕ, ap, inl}
use Rattle.ert_timers.proofs.Stacks.{nothing_left, next_found, next_fresh}
use Rattle.ert_timers.specs.Free.{free_at}
use Rattle.ert_timers.proofs.free_slots.next.Goals as goal

pub returns-in-Some-clause-found : goal.returns-in-Some-clause-found
returns-in-Some-clause-found c =
    inl (ap (λ (xs : List ℕ). free_at c.args.slots c.args.fresh.now xs c.args.second.now.items) c.in-Some.ensures.items)

pub returns-then-least-slots-clause-found : goal.returns-then-least-slots-clause-found
returns-then-least-slots-clause-found c =
    next_fresh c.args.slots c.args.fresh.now c.args.first.now.items c.pop.new.self.items c.args.second.now.items c.if-least-slots.true
    (nothing_left c.args.first.now.len c.args.first.now.items c.pop.new.self.items c.pop.result c.in_default.is c.args.first.now.ok.0 c.pop.ensures.items c.pop.ensures.variant)

pub returns-clause-found : goal.returns-clause-found
returns-clause-found c =
    next_found c.args.slots c.args.fresh.now c.args.first.now.items c.pop.new.self.items c.args.second.now.items c.pop-2.new.self.items
    c.args.second.now.len c.pop-2.result c.if-least-slots.false
    (nothing_left c.args.first.now.len c.args.first.now.items c.pop.new.self.items c.pop.result c.in_default.is c.args.first.now.ok.0 c.pop.ensures.items c.pop.ensures.variant)
    c.args.second.now.ok.0 c.pop-2.ensures.items c.pop-2.ensures.variant
