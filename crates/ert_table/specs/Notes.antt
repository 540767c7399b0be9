-- Notes: what a pass knew, for whoever gets them.

use Rattle.std.specs.Prelude.{◌≡◌, List, [], Option, Some}
use Rattle.atomic_table.specs.Seated.{TableId}
use Rattle.ert_defs.specs.declared.{entry.Entry.Entry, settings.Settings.Settings}
use Rattle.ert_table.specs.{Desks.front_of, Takes.TakesPlace, Views.{Begins, longer}, declared.desk.Pass.Pass, declared.view.View.View}

-- what callers see of a note: which table it is of, with the settings of its desk, and a beginning of the history
pub record Noted : Type 0 where
  pub table : TableId
  pub settings : Option Settings
  pub front : List Entry

-- what callers see of a note that is this pass
abbrev pub noted : Pass → Noted
noted p = record { table = p.seat.table_id; settings = p.seat.me.0.settings; front = front_of p }

-- a note is of the desk with this table and these settings
pub record IsNoteOf (table : TableId) (g : Settings) (note : Noted) : Type 0 where
  pub table_is : note.table ≡ table
  pub named : note.settings ≡ Some g

-- a pass has learned what a note knows, a beginning of the history, and has made no entry: it knows the longer of the two
-- beginnings, which the other begins
pub record HasLearned (g : Settings) (v : View) (known : List Entry) (w : View) : Type 0 where
  pub call : TakesPlace g v [] w
  pub front : w.front ≡ longer v.front known
  pub knows : Begins known w.front
