-- The desk that a service has, and the passes of one actor that belong to it.

use Rattle.std.specs.Prelude.{◌≡◌, [], ◌∷◌, Some}
use Rattle.atomic_table.specs.Seated.{TableId}
use Rattle.ert_defs.specs.declared.{entry.Actor.Actor, settings.Settings.Settings}
use Rattle.ert_table.specs.{Desks.settings_of, declared.desk.Desk.Desk, declared.desk.Pass.Pass}

-- a table that nobody uses
abbrev pub any_table : TableId
any_table = record { words = 0; slots = 0; views_name = 0; atom = 0; block = 0; offset = 0; slot_names = [] }

-- a desk is the named one
pub record IsDesk (table : TableId) (g : Settings) (d : Desk) : Type 0 where
  pub table_is : d.table.shared.table_id ≡ table
  pub settings_is : settings_of d ≡ g

-- a pass of the named desk with one actor
pub record IsPassFor (table : TableId) (g : Settings) (a : Actor) (p : Pass) : Type 0 where
  pub table_is : p.seat.table_id ≡ table
  pub named : p.seat.me.0.settings ≡ Some g
  pub actors : p.seat.me.0.actors ≡ a ∷ []
