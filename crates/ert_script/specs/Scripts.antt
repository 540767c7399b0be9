-- What an op does to a world, and what a list of ops does.

use Rattle.std.specs.Prelude.{◌≡◌, List}
use Rattle.ert_effects.specs.Ways.{Grows, alone}
use Rattle.ert_ops.specs.{declared.op.Op.Op, Calls.Calls, Labels.Labels, Scripts.{Script, labels_after}, declared.reply.Reply.Reply}
use Rattle.ert_script.specs.Doing.{BreaksOff}
use Rattle.ert_world.specs.Worlds.{Seen}

-- what every call of a world keeps that gave out no seat: its settings and its seats
pub record StaysAlone (old new : Seen) : Type 0 where
  pub settings : new.settings ≡ old.settings
  pub next : new.next ≡ old.next

-- a world does an op, as caller 0 and with these labels: its history grows by what the op allows with its reply, and
-- to the labels the label of a timer is bound that was started
pub record DoesWith (old : Seen) (ls : Labels) (op : Op) (reply : Reply) (new : Seen) (after : Labels) : Type 0 where
  pub grows : Grows (Calls old.settings (alone old.settings) 0 ls op reply) old.history new.history
  pub settings : new.settings ≡ old.settings
  pub next : new.next ≡ old.next
  pub labels : after ≡ labels_after ls op reply

-- so it does whatever the labels are, and binds none
pub record Does (old : Seen) (op : Op) (reply : Reply) (new : Seen) : Type 0 where
  pub with : (ls : Labels) → DoesWith old ls op reply new ls

-- a world had no memory for an op, with these labels: its history has grown by what the op made before that
pub record Fails (old : Seen) (ls : Labels) (op : Op) (new : Seen) : Type 0 where
  pub grows : Grows (BreaksOff old.settings (alone old.settings) 0 ls op) old.history new.history
  pub settings : new.settings ≡ old.settings
  pub next : new.next ≡ old.next

-- it does a list of ops, from labels to labels: its history grows by a script run of them
pub record Runs (old : Seen) (ls : Labels) (list : List Op) (replies : List Reply) (new : Seen) (after : Labels) : Type 0 where
  pub grows : Grows (Script old.settings (alone old.settings) 0 ls list replies after) old.history new.history
  pub settings : new.settings ≡ old.settings
  pub next : new.next ≡ old.next
