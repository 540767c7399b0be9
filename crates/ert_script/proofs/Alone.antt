-- A call of a world that gave out no seat.

use Rattle.std.proofs.Common.{◌≡◌, Ok, Err}
use Rattle.ert_defs.specs.declared.{memory.NoMemory.NoMemory, timer.TimerRef.TimerRef}
use Rattle.ert_effects.specs.Ways.{Growth, Grows, Way, alone}
use Rattle.ert_ops.specs.{declared.op.Op.Op, Labels.Labels, Scripts.labels_after, declared.reply.Reply.Reply}
use Rattle.ert_script.proofs.Answered.{unbound}
use Rattle.ert_script.specs.{Doing.{IsAnswered, IsTimerOf, HasStarted}, Scripts.{StaysAlone, DoesWith, Fails}}
use Rattle.ert_world.specs.Worlds.{Seen, Goes}

pub grows_alone : (old new : Seen) (call : Way → Growth) → Goes old call new → old.next ≡ 1 → Grows (call (alone old.settings)) old.history new.history
grows_alone old new call goes lone = goes.lone lone

pub stays_alone : (old new : Seen) (call : Way → Growth) → Goes old call new → StaysAlone old new
stays_alone old new call goes = record { settings = goes.settings; next = goes.next }

module _ (old new : Seen) (ls : Labels) (op : Op) (timer : TimerRef) (of : IsTimerOf ls op timer) (stays : StaysAlone old new) where
  -- an op was done, and its label bound
  pub does_with : (reply : Reply) (after : Labels) → IsAnswered old.settings (alone old.settings) 0 op timer (Ok reply) old.history new.history
      → after ≡ labels_after ls op reply → DoesWith old ls op reply new after
  does_with reply after answered bound = record {
    grows = answered.does ls of;
    settings = stays.settings;
    next = stays.next;
    labels = bound;
  }

  -- there was no memory for its call
  pub fails_with : (e : NoMemory) → IsAnswered old.settings (alone old.settings) 0 op timer (Err e) old.history new.history → Fails old ls op new
  fails_with e answered = record { grows = answered.fails ls of; settings = stays.settings; next = stays.next }

  -- there was none for its label
  pub breaks_with : (reply : Reply) → IsAnswered old.settings (alone old.settings) 0 op timer (Ok reply) old.history new.history → HasStarted op reply
      → Fails old ls op new
  breaks_with reply answered has = record {
    grows = unbound old.settings (alone old.settings) 0 ls op reply old.history new.history has (answered.does ls of);
    settings = stays.settings;
    next = stays.next;
  }
