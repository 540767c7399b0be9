-- What callers see of a world of names.

use Rattle.std.specs.Prelude.{ℕ, List, map, string_bytes}
use Rattle.ert_defs.specs.declared.timer.Kind.{Kind}
use Rattle.ert_names.specs.{Names.Names, declared.named.NamedMail.NamedMail, declared.named.NamedRow.NamedRow}
use Rattle.ert_world.specs.Worlds.{Seen}

-- what stays of a start for a name: the name's bytes, the message and the kind
pub record RowSeen : Type 0 where
  pub name : List ℕ
  pub msg : ℕ
  pub kind : Kind

-- what stays of a start, by the row that is kept
abbrev pub row_seen : NamedRow → RowSeen
row_seen r = record { name = string_bytes r.name; msg = r.msg; kind = r.kind }

-- the world, the process of each name, the rows in order of starting, and the named mail that waits, in order,
-- each with its process
pub record Registered : Type 0 where
  pub world : Seen
  pub names : Names
  pub rows : List RowSeen
  pub mail : List (ℕ × NamedMail)

-- what callers see of a world of names with these
abbrev pub seen_with_names : Seen → Names → List NamedRow → List (ℕ × NamedMail) → Registered
seen_with_names world names rows mail = record { world = world; names = names; rows = map row_seen rows; mail = mail }
