use Rattle.std.proofs.Common.{subst}
use Rattle.ert_timers.proofs.Stacks.{IsPicked, next_picked}
use Rattle.ert_timers.specs.Free.{Free, free_at}
use Rattle.ert_timers.proofs.free_slots.FreeSlots.pick.Goals as goal

picked : (c : goal.After-next)
    → IsPicked c.args.self.now (free_at c.self.inside.slots c.next.new.fresh c.next.new.first.items c.next.new.second.items)
    c.self.inside.short.cap c.self.inside.long.cap c.next.result
picked c =
    let f = c.self.inside in
    let new = free_at f.slots c.next.new.fresh c.next.new.first.items c.next.new.second.items in
    subst (λ (old : Free). IsPicked old new f.short.cap f.long.cap c.next.result) c.self.view_is
    (next_picked (free_at f.slots f.fresh f.short.items f.long.items) new f.short.cap f.long.cap c.next.result c.self.invariant c.next.ensures.found)

pub invariant_of-self : goal.invariant_of-self
invariant_of-self c = rw (c.next.ensures.first_room, c.next.ensures.second_room) (picked c).left

pub returns : goal.returns
returns c =
    let p = picked c in
    record {
      none = p.none;
      unchanged = p.unchanged;
      next = p.next;
      held = p.picks.held;
      taken = p.picks.taken;
      in_range = p.picks.in_range;
    }
