use Rattle.std.proofs.Common.{refl, ap, ◌∙◌, vec_len}
use Rattle.ert_defs.specs.declared.timer.Status.TheVariants.{Armed}
use Rattle.ert_judge.specs.{Uses.used_by, declared.state.wheels.Timer.Timer}
use Rattle.ert_judge.proofs.{IndexLaws.{indexed_room, indexed_unarmed, indexed_armed}, PlaceLaws.popped}
use Rattle.ert_judge.proofs.state.wheels.Wheel.arm.Goals as goal

pub invariant_of-self-in_err-put_place : goal.invariant_of-self-in_err-put_place
invariant_of-self-in_err-put_place c =
    indexed_room c.self.inside.timers.items c.self.inside.places c.put_place.new.places c.self.inside.slots
    c.make_room.new.slots c.self.inside.armed c.in_err-put_place.ensures.kept c.make_room.ensures.kept
    c.self.invariant

pub invariant_of-self-in_err-push : goal.invariant_of-self-in_err-push
invariant_of-self-in_err-push c =
    indexed_unarmed c.self.inside.timers.items c.push.new.list.items c.args.self.now c.self.inside.places
    c.put_place.new.places c.self.inside.slots c.make_room.new.slots c.self.inside.armed
    c.self.inside.armed c.args.row.timer.slot c.args.row.timer.generation c.len-place.result c.in_err-push.ensures.kept
    c.self.view_is c.requires.new c.in_ok-put_place.ensures.put c.make_room.ensures.kept refl c.self.invariant

pub invariant_of-self-in-Ok : goal.invariant_of-self-in-Ok
invariant_of-self-in-Ok c =
    let timer : Timer = record { row = c.args.row; status = Armed } in
    indexed_armed c.self.inside.timers.items c.push.new.list.items c.args.self.now c.self.inside.places
    c.put_place.new.places c.self.inside.slots c.make_room.new.slots c.put_uses.new.slots c.self.inside.armed
    c.put_armed.new.armed c.len-place.result c.with-uses.result timer c.in_ok-push.ensures.put c.self.view_is
    (c.len-place.ensures ∙ c.self.inside.timers.ok.0) refl c.put_uses.ensures c.requires.new
    (c.with-uses.ensures ∙ ap (used_by c.args.row) c.uses.ensures)
    c.in_ok-put_place.ensures.put c.make_room.ensures.kept c.in-Ok.ensures.put c.self.invariant

pub invariant_of-self-in-Err : goal.invariant_of-self-in-Err
invariant_of-self-in-Err c =
    indexed_unarmed c.self.inside.timers.items c.pop.new.self.items c.args.self.now c.self.inside.places
    c.put_place.new.places c.self.inside.slots c.make_room.new.slots c.self.inside.armed
    c.put_armed.new.armed c.args.row.timer.slot c.args.row.timer.generation c.len-place.result
    (popped c.self.inside.timers.items c.push.new.list.items c.pop.new.self.items (record { row = c.args.row; status = Armed })
    (vec_len c.push.new.list) c.in_ok-push.ensures.put c.push.new.list.ok.0 c.pop.ensures.rest) c.self.view_is c.requires.new c.in_ok-put_place.ensures.put c.make_room.ensures.kept c.in-Err.ensures.kept
    c.self.invariant
