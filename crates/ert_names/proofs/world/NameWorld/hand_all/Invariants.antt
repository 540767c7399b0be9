use Rattle.std.proofs.Common.{◌^◌, ◌≤◌, ◌+◌, List, length}
use Rattle.ert_names.specs.{Calls.{HandsMessagesOver, AreCounted, Message, TakesMany}, Handing.waiting}
use Rattle.ert_names.proofs.world.NameWorld.hand_all.Given as goal

abbrev pub invariant-loop-was_handed : goal.invariant-loop-was_handed
invariant-loop-was_handed l = record {
  messages : List Message;
  some : HandsMessagesOver l.fn.self messages (TakesMany l.fn.self.world.settings messages) l.self;
  counted : AreCounted l.fn.self messages l.handed l.lost;
  few : (l.handed + l.lost) + length (waiting l.self.world) ≤ 2 ^ 63;
}

abbrev pub decreases-loop-was_handed : goal.decreases-loop-was_handed
decreases-loop-was_handed l = length (waiting l.self.world)
