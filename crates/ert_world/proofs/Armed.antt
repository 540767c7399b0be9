-- Entries that cancel no timer.

use Rattle.std.proofs.Common.{◌≡◌, Bool, true, false, List, [], ◌∷◌}
use Rattle.ert_defs.specs.declared.entry.{Entry.Entry, Event.Event, Event.TheVariants.Cancel}

-- whether an event may cancel a timer
abbrev pub is_cancel : Event → Bool
is_cancel (Cancel timer left) = true
is_cancel _ = false

-- none of these entries cancels a timer
abbrev pub AreCalm : List Entry → Type 0
AreCalm [] = Unit {0}
AreCalm (e ∷ es) = (is_cancel e.event ≡ false) × AreCalm es
