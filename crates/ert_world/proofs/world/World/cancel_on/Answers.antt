use Rattle.std.proofs.Common.{◌<◌, None, Some, cond, sym, ap, subst, ◌∙◌, arith}
use Rattle.ert_defs.specs.declared.settings.Settings.{Settings}
use Rattle.ert_world.proofs.EndingAll.{EndsSome, byte_is, byte_low, ends_all, ends_more, ends_none, fewer_at, held_same, no_part, rows_at}
use Rattle.ert_world.specs.{Cancelling.IsHeldAt, Stepping.{Stays, same, stay}, Worlds.Seen}
use Rattle.ert_world.proofs.world.World.cancel_on.Goals as goal

pub loop-timer-init : goal.loop-timer-init
loop-timer-init c = record {
  ends = ends_none c.args.self.now c.args.wheel c.args.process c.is_bounded.ensures.legal;
  stays = same c.args.self.now;
}

pub held_for-requires-clause-wheel : goal.held_for-requires-clause-wheel
held_for-requires-clause-wheel c = subst (λ (g : Settings). c.args.wheel < g.schedulers) (sym c.loop-timer.invariant.stays.settings) c.requires.wheel

pub held_for-requires-clause-process : goal.held_for-requires-clause-process
held_for-requires-clause-process c = subst (λ (g : Settings). c.args.process < g.processes) (sym c.loop-timer.invariant.stays.settings) c.requires.process

pub end_timer-requires-clause-wheel : goal.end_timer-requires-clause-wheel
end_timer-requires-clause-wheel c =
    let held = c.in-Some.ensures.held in
    subst (λ n. n < c.held_for.new.self.settings.schedulers) (sym held.0)
    (subst (λ (w : Seen). c.args.wheel < w.settings.schedulers) (sym c.held_for.ensures.same)
    (subst (λ (g : Settings). c.args.wheel < g.schedulers) (sym c.loop-timer.invariant.stays.settings) c.requires.wheel))

pub end_timer-requires-clause-held : goal.end_timer-requires-clause-held
end_timer-requires-clause-held c =
    let held = c.in-Some.ensures.held in
    held_same c.loop-timer.self c.held_for.new.self c.args.wheel c.in-Some.timer c.held_for.ensures.same held.0 held.1

pub overflow_add-count : goal.overflow_add-count
overflow_add-count c =
    let few = c.is_bounded.ensures.few no_part in
    let bound = c.loop-timer.invariant.ends.bound in
    let low = byte_low c.is_some.result in
    omega arith

pub loop-timer-preserved : goal.loop-timer-preserved
loop-timer-preserved c =
    let i = c.loop-timer.invariant in
    let held = subst (λ (w : Seen). IsHeldAt w c.args.wheel c.args.process (Some c.in-Some.timer)) (sym c.held_for.ensures.same) c.in-Some.ensures.held in
    let ends = subst (λ (w : Seen). EndsSome c.args.self.now w c.args.wheel c.args.process c.loop-timer.count) (sym c.held_for.ensures.same) i.ends in
    let stays = subst (λ (w : Seen). Stays c.args.self.now w) (sym c.held_for.ensures.same) i.stays in
    record {
      ends = ends_more c.args.self.now c.held_for.new.self c.end_timer.new.self c.args.wheel c.args.process c.loop-timer.count _ c.in-Some.timer c.end_timer.result ends held
          c.end_timer.ensures.call c.end_timer.ensures.stays c.end_timer.ensures.forgotten
          (fewer_at c.held_for.new.self c.end_timer.new.self c.args.wheel c.in-Some.timer.wheel held.0 c.end_timer.ensures.fewer)
          (c.from-count.ensures ∙ (byte_is c.is_some.result ∙ ap (λ b. cond b 1 0) c.is_some.ensures));
      stays = stay c.args.self.now c.held_for.new.self c.end_timer.new.self stays c.end_timer.ensures.stays;
    }

pub loop-timer-smaller : goal.loop-timer-smaller
loop-timer-smaller c =
    let held = c.in-Some.ensures.held in
    subst (λ (w : Seen). rows_at c.end_timer.new.self c.args.wheel < rows_at w c.args.wheel) c.held_for.ensures.same (fewer_at c.held_for.new.self c.end_timer.new.self c.args.wheel c.in-Some.timer.wheel held.0 c.end_timer.ensures.fewer)

pub returns-clause-call : goal.returns-clause-call
returns-clause-call c =
    let none = subst (λ (w : Seen). IsHeldAt w c.args.wheel c.args.process None) (sym c.held_for.ensures.same) c.in_default.ensures.held in
    ends_all c.args.self.now c.held_for.new.self c.args.wheel c.args.process c.loop-timer.count
    (subst (λ (w : Seen). EndsSome c.args.self.now w c.args.wheel c.args.process c.loop-timer.count) (sym c.held_for.ensures.same) c.loop-timer.invariant.ends) none

pub returns-clause-stays : goal.returns-clause-stays
returns-clause-stays c = subst (λ (w : Seen). Stays c.args.self.now w) (sym c.held_for.ensures.same) c.loop-timer.invariant.stays

pub returns-clause-few : goal.returns-clause-few
returns-clause-few c =
    let few = c.is_bounded.ensures.few no_part in
    let bound = c.loop-timer.invariant.ends.bound in
    omega arith
