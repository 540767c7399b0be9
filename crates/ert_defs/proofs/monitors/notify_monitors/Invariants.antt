use Rattle.std.proofs.Common.{◌≡◌, ◌≤◌, ◌+◌, ◌-◌, ◌++◌, length, take, drop}
use Rattle.std.specs.VecDeque.{deque_len, deque_capacity}
use Rattle.ert_defs.specs.Mails.{changes_of, told_of}
use Rattle.ert_defs.proofs.monitors.notify_monitors.Given as goal

-- those so far have been told, and there is room for a message to each that is left
abbrev pub invariant-loop-i : goal.invariant-loop-i
invariant-loop-i l = record {
  told : l.monitors ≡ told_of l.offset (take l.i l.initial.monitors) ++ drop l.i l.initial.monitors;
  queue : l.queue.items ≡ l.initial.queue.items ++ changes_of l.offset (take l.i l.initial.monitors);
  put : l.put ≡ length (changes_of l.offset (take l.i l.initial.monitors));
  few : l.put ≤ l.i;
  room : deque_len l.queue + (length l.initial.monitors - l.i) ≤ deque_capacity l.queue;
}
