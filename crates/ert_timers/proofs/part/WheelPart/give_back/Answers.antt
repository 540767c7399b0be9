use Rattle.std.proofs.Common.{◌<◌, ◌+◌, length, inr, refl, sym, ap, subst, ◌∙◌, arith}
use Rattle.ert_timers.specs.{Parts.{Part, all_slots, last_timer}, Free.free_set}
use Rattle.ert_timers.proofs.{Fit.{fit_counted, some_held}, Keeping.{byte_low, lost_seen}}
use Rattle.ert_timers.proofs.part.WheelPart.give_back.Goals as goal

pub overflow_add-self : goal.overflow_add-self
overflow_add-self c =
    let lost =
    lost_seen _ c.drop_row.new.self c.args.timer.slot c.drop_row.result (c.self.view_is ∙ c.leave.ensures) (c.drop_row.ensures.found.1 (some_held _ c.requires.row))
    c.drop_row.ensures.lost in
    omega (arith, lost.few, lost.room, byte_low c.args.orphaned c.from.result c.from.ensures)

pub invariant_of-self : goal.invariant_of-self
invariant_of-self c =
    let p = c.self.inside in
    let lost =
    lost_seen _ c.drop_row.new.self c.args.timer.slot c.drop_row.result (c.self.view_is ∙ c.leave.ensures) (c.drop_row.ensures.found.1 (some_held _ c.requires.row))
    c.drop_row.ensures.lost in
    record {
      fit =
          fit_counted (all_slots p.wheel.values p.wheel.owners.slots) p.wheel.keys (free_set p.free) p.wheel.owners p.arms p.expires p.orphans p.expires (p.orphans + c.from.result) c.self.invariant.fit
          (omega (arith, lost.room, byte_low c.args.orphaned c.from.result c.from.ensures));
      joined = c.self.invariant.joined;
    }

pub leave-requires-clause-low : goal.leave-requires-clause-low
leave-requires-clause-low c =
    subst (λ (q : Part). c.args.timer.slot < length q.slots) (sym c.drop_row.ensures.left) c.requires.low

pub leave-requires-clause-vacant : goal.leave-requires-clause-vacant
leave-requires-clause-vacant c =
    (lost_seen c.drop_row.new.self c.drop_row.new.self c.args.timer.slot c.drop_row.result refl
    (c.drop_row.ensures.found.1 (some_held _ c.requires.row)) c.drop_row.ensures.lost).vacant

pub free_after-requires : goal.free_after-requires
free_after-requires c =
    let k = c.args.timer.slot in
    let lost =
    lost_seen _ c.drop_row.new.self k c.drop_row.result (c.self.view_is ∙ c.leave.ensures) (c.drop_row.ensures.found.1 (some_held _ c.requires.row)) c.drop_row.ensures.lost in
    let same = c.self.view_is ∙ c.leave.ensures ∙ c.drop_row.ensures.left in
    record {
      low = subst (λ (q : Part). k < length q.slots) (sym same) c.requires.low;
      named = c.requires.named ∙ ap (λ (q : Part). last_timer q.number q.slots k) (sym same);
      vacant = lost.vacant;
      away = lost.away;
    }

pub drop_row-requires-clause-used : goal.drop_row-requires-clause-used
drop_row-requires-clause-used c = inr c.requires.row

pub leave-requires-clause-away : goal.leave-requires-clause-away
leave-requires-clause-away c =
    (lost_seen c.drop_row.new.self c.drop_row.new.self c.args.timer.slot c.drop_row.result refl
    (c.drop_row.ensures.found.1 (some_held _ c.requires.row)) c.drop_row.ensures.lost).away
