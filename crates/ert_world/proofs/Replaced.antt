-- What a call says of the part of a wheel, of that wheel of the world.

use Rattle.std.proofs.Common.{◌≡◌, ℕ, ◌<◌, refl, subst, slice_index_or}
use Rattle.std.specs.Prelude.{slice_set}
use Rattle.ert_table.specs.declared.desk.Desk.{Desk}
use Rattle.ert_timers.specs.Parts.{Part}
use Rattle.ert_world.proofs.{Calls.{Has, schedulers_at}, NextDue.part_at, Returned.at_place}
use Rattle.ert_world.specs.{Worlds.Seen, declared.world.World.TheInside.Inside}

pub replaced_by : (R : Part → Part → Type 0) (before : Seen) (b : Inside) (d : Desk) (i : ℕ) (old new : Part) → Has before b d
    → i < before.settings.schedulers → old ≡ slice_index_or b.wheels.items i old → R old new
    → (x : Part) → R (slice_index_or before.wheels i x) (slice_index_or (slice_set b.wheels.items i new) i x)
replaced_by R before b d i old new has low lent is x =
    subst (λ (w : Seen). R (slice_index_or w.wheels i x) (slice_index_or (slice_set b.wheels.items i new) i x)) has.is
    (at_place (λ (y : Part). R (slice_index_or b.wheels.items i x) y) b.wheels.items i i new x
    (rw has.fit.stand.wheels.counted (schedulers_at has i low))
    (λ one. subst (λ (p : Part). R p new) (part_at before b d i old has low lent x) is) (λ other. absurd (other refl)))
