-- What a run of ops did, and what it wrote.

use Rattle.std.specs.Prelude.{◌≡◌, ◌⊎◌, ℕ, List, [], ◌∷◌, length, take, drop, Option}
use Rattle.ert_io.specs.{Known.HasRoomFor, Told.{SinkTold, took, TakesFront}}
use Rattle.ert_script.specs.{declared.output.RunErr.RunErr, declared.output.RunErr.TheVariants.WriteFault, Scripts.{Runs, Fails}}
use Rattle.ert_ops.specs.{declared.op.Op.Op, Labels.Labels, Scripts.lines_of, declared.reply.Reply.Reply}
use Rattle.ert_world.specs.Worlds.{Seen, StandsFor}

-- the world did a list of ops, from labels to labels, and came to a service that stands for its history
pub record RunsAll (old : Seen) (ls : Labels) (ops : List Op) (new : Seen) (after : Labels) : Type 0 where
  pub replies : List Reply
  pub runs : Runs old ls ops replies new after
  pub stands : StandsFor new.settings new.history new

-- the world did a list of ops, and came to a service that stands for its history; their lines were written
pub record WritesRun (old : Seen) (ls : Labels) (ops : List Op) (new : Seen) (after : Labels) (told told_new : SinkTold) : Type 0 where
  pub replies : List Reply
  pub runs : Runs old ls ops replies new after
  pub stands : StandsFor new.settings new.history new
  pub writes : told_new ≡ took told (lines_of ls ops replies)

-- the world is as some ops left it, or it had no memory for the first of those that were to come
abbrev pub StopsAt : Seen → Labels → List Op → Seen → Type 0
StopsAt reached ls [] new = new ≡ reached
StopsAt reached ls (op ∷ rest) new = (new ≡ reached) ⊎ Fails reached ls op new

-- the world did some first ops of a list, came to a service that stands for its history, and stopped there; the
-- labels are as those ops left them
pub record RunsSome (old : Seen) (ls : Labels) (ops : List Op) (new : Seen) (after : Labels) : Type 0 where
  pub done : ℕ
  pub replies : List Reply
  pub reached : Seen
  pub runs : Runs old ls (take done ops) replies reached after
  pub stands : StandsFor reached.settings reached.history reached
  pub stops : StopsAt reached after (drop done ops) new

-- the world did some first ops of a list, came to a service that stands for its history, and stopped there; the
-- labels are as those ops left them, and the first part of their lines was written. Where the output failed, no op
-- had begun after them
pub record WritesSome (old : Seen) (ls : Labels) (ops : List Op) (new : Seen) (after : Labels) (why : RunErr) (told told_new : SinkTold) : Type 0 where
  pub done : ℕ
  pub replies : List Reply
  pub reached : Seen
  pub runs : Runs old ls (take done ops) replies reached after
  pub stands : StandsFor reached.settings reached.history reached
  pub stops : StopsAt reached after (drop done ops) new
  pub between : why ≡ WriteFault → new ≡ reached
  pub writes : TakesFront told told_new (lines_of ls (take done ops) replies)

-- whatever a world answers to some first ops of a list, their lines fit the room
abbrev pub LinesFit : Seen → Labels → List Op → Option ℕ → Type 0
LinesFit old ls ops room = (done : ℕ) (replies : List Reply) (reached : Seen) (after : Labels) → Runs old ls (take done ops) replies reached after
    → StandsFor reached.settings reached.history reached → HasRoomFor room (length (lines_of ls (take done ops) replies))
