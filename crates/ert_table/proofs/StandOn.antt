-- The clock's part stands on while others act: for a longer history, in which the clock has no more entries.

use Rattle.std.proofs.Common.{◌≡◌, List, sym, subst}
use Rattle.ert_clock.proofs.Stand.{stands_on}
use Rattle.ert_clock.specs.Shown.{Shown, ClockStands}
use Rattle.ert_defs.specs.{Actors.of, Legal.Legal, declared.entry.Actor.TheVariants.Keeper, declared.entry.Entry.Entry, declared.settings.Settings.Settings}
use Rattle.ert_table.proofs.Parts.{free_later}
use Rattle.ert_table.specs.Views.{Begins}

pub keeper_on : (g : Settings) (f h : List Entry) (part : Shown) → Begins f h → of h Keeper ≡ of f Keeper → Legal g h → ClockStands g f part
    → ClockStands g h part
keeper_on g f h part more same legal stands =
    subst (λ l. ClockStands g l part) (sym more.grown)
    (stands_on g f more.later part stands (subst (Legal g) more.grown legal) (free_later Keeper f h more same))
