-- How a call through a handle is shown.

use Rattle.std.proofs.Common.{◌≡◌, ℤ, Option, Some, None, Ok, inr, refl, subst, sym, false}
use Rattle.ert_c.specs.{Opened.{ReadsSettings, Opens}, Places.is_there, Through.Through, declared.opening.ErtSettings.ErtSettings, declared.status.TheConstants.NO_MEMORY}
use Rattle.ert_defs.specs.declared.settings.Settings.{Settings}
use Rattle.ert_world.specs.Worlds.{Seen}

-- a call is made by the service that was lent
pub through : (kept : Type 0) (call : Seen → Seen → Type 0) (old new : Option Seen) (status : ℤ) (was now : Seen) → old ≡ Some was
    → new ≡ Some now → call was now → Through kept call old status new
through kept call old new status was now is becomes made =
    subst (λ (o : Option Seen). Through kept call o status new) (sym is) (now, becomes, made)

-- when out of memory a closed handle stays closed
pub opens_nothing : (c : ErtSettings) (o : Option Seen) (g : Settings) → is_there o ≡ false → ReadsSettings c (Ok g) → Opens c o NO_MEMORY o
opens_nothing c None g h read = record { read = Ok g; meant = read; opens = inr (refl, refl) }
opens_nothing c (Some w) g h read = cc
