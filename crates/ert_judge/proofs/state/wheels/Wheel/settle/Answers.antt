use Rattle.std.proofs.Common.{rules, sym}
use denote.Enum.Bare.{same_true, same_false}
use Rattle.ert_defs.specs.contracts.timer.Status.{the_type}
use Rattle.ert_judge.proofs.{FindLaws.stands_within, IndexLaws.indexed_there, MoveLaws.{moved_unknown, moved_other, moved_there}}
use Rattle.ert_judge.proofs.state.wheels.Wheel.settle.Goals as goal

pub returns-in_default : goal.returns-in_default
returns-in_default c = sym (moved_unknown c.args.self.now c.args.timer c.args.from c.args.to c.in_default.ensures)

pub index_mut-requires : goal.index_mut-requires
index_mut-requires c =
    rw c.self.inside.timers.ok.0
    (stands_within c.self.inside.timers.items c.args.self.now c.args.timer c.in-Some.place c.in-Some.found c.self.view_is
    c.in-Some.ensures)

pub invariant_of-self : goal.invariant_of-self
invariant_of-self c =
    indexed_there c.self.inside.timers.items c.args.self.now c.self.inside.places c.self.inside.slots
    c.self.inside.armed c.remove.new.self c.args.timer c.args.from c.args.to c.in-Some.place c.in-Some.found
    c.index_mut.result.now c.self.view_is c.in-Some.ensures c.index_mut.ensures.value
    (same_true the_type (search rules) _ _ (sym c.if-eq.ensures)) c.requires c.remove.ensures.updates.0 c.self.invariant

pub returns-then-eq : goal.returns-then-eq
returns-then-eq c =
    moved_there c.self.inside.timers.items c.args.self.now c.args.timer c.args.from c.args.to c.in-Some.place
    c.in-Some.found c.index_mut.result.now c.self.view_is c.in-Some.ensures c.index_mut.ensures.value
    (same_true the_type (search rules) _ _ (sym c.if-eq.ensures))

pub returns-else-eq : goal.returns-else-eq
returns-else-eq c =
    sym (moved_other c.args.self.now c.args.timer c.args.from c.args.to c.in-Some.place c.in-Some.found
    c.in-Some.ensures (same_false the_type _ _ (sym c.if-eq.ensures)))
