-- A pass that learned what a note knows made a call without entries.

use Rattle.std.proofs.Common.{List, [], refl}
use Rattle.ert_defs.specs.{States.State, declared.entry.Actor.Actor, declared.entry.Entry.Entry, declared.settings.Settings.Settings}
use Rattle.ert_table.specs.{Calls.IsMade, Notes.HasLearned, declared.view.View.View}
use Rattle.ert_world.proofs.Calm.{IsQuiet, quiet_as}
use Rattle.ert_world.specs.Ways.{MakesNone}

pub learned_made : (g : Settings) (v : View) (known : List Entry) (w : View) → HasLearned g v known w → IsMade g v (MakesNone g) w
learned_made g v known w learned = record { entries = []; allowed = refl; call = learned.call }

pub none_quiet : (g : Settings) (actors : List Actor) (s : State) (es : List Entry) → MakesNone g s es → IsQuiet actors es
none_quiet g actors s es none = quiet_as actors es [] none (record { only = tt; calm = tt })
