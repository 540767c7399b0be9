-- What calls of several steps tell. The function of src/laws.rt carries the laws as contracts, so that
-- they are proved.

use Rattle.std.specs.Prelude.{◌≡◌, List, [], ◌∷◌, ◌++◌}
use Rattle.ert_defs.specs.declared.{entry.Entry.Entry, settings.Settings.Settings}
use Rattle.ert_table.specs.{Held.IsWhole, Takes.{Appends, TakesPlace}, declared.view.View.View}

-- a step is a call with one entry
abbrev pub LawOfSteps : Type 0
LawOfSteps = (g : Settings) (v : View) (e : Entry) (w : View) → Appends g v e w → TakesPlace g v (e ∷ []) w

-- two calls one after the other are one call with the entries of both
abbrev pub LawOfCalls : Type 0
LawOfCalls = (g : Settings) (v w x : View) (es fs : List Entry) → TakesPlace g v es w → TakesPlace g w fs x
    → TakesPlace g v (es ++ fs) x

-- the front of a pass that holds every actor grows by just the entries of a call
abbrev pub LawOfWholePasses : Type 0
LawOfWholePasses = (g : Settings) (v w : View) (es : List Entry) → IsWhole g v.actors → TakesPlace g v es w
    → w.front ≡ v.front ++ es
