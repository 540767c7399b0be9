-- The parts of a world that was taken apart, told of by the name of its desk.

use Rattle.std.proofs.Common.{◌≡◌, true, false, List, refl, sym, subst}
use Rattle.atomic_table.specs.Seated.{TableId}
use Rattle.ert_defs.specs.{Actors.same_actor, declared.entry.Actor.Actor, declared.entry.Actor.TheVariants.Keeper, declared.settings.Settings.Settings}
use Rattle.ert_locks.specs.Names.{IsDesk}
use Rattle.ert_world.proofs.Alone.{whole_of}
use Rattle.ert_world.specs.{Parts.AllParts, Worlds.AreFit}
use Rattle.ert_table.proofs.Holders.{held_but_other}
use Rattle.ert_table.specs.{Desks.{settings_of, actors_of}, Held.{is_held, actors_but, IsActor}, declared.desk.Desk.Desk, declared.desk.Pass.Pass}

-- all actors but the clock's are held once that was taken out
pub held_at : {table : TableId} {g : Settings} {d : Desk} {p : Pass} {parts : AllParts} {left : List Actor} (a : Actor) → IsDesk table g d → AreFit d p 1 parts
    → left ≡ actors_but (actors_of p) Keeper → same_actor a Keeper ≡ false → IsActor g a → is_held left a ≡ true
held_at {d = d} {p = p} a desk fit rest apart ranged =
    subst (λ l. is_held l a ≡ true) (sym rest)
    (held_but_other (actors_of p) Keeper a apart
    (whole_of (settings_of d) (actors_of p) 1 refl fit.holds a (subst (λ t. IsActor t a) (sym desk.settings_is) ranged)))
