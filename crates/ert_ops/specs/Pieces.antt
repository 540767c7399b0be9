-- What an op does to the plain service.

use Rattle.std.specs.Prelude.{List}
use Rattle.ert_defs.specs.declared.entry.Entry.{Entry}
use Rattle.ert_ops.specs.declared.reply.Reply.{Reply}

-- its entries and its reply
pub record Piece : Type 0 where
  pub entries : List Entry
  pub reply : Reply
