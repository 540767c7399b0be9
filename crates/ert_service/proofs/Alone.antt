-- Calls of a caller that take no lock.

use Rattle.std.proofs.Common.{◌≡◌, [], ◌∷◌, subst}
use Rattle.ert_defs.specs.declared.{entry.Actor.Actor, settings.Settings.Settings}
use Rattle.ert_effects.specs.Ways.{Step}
use Rattle.ert_locks.proofs.Lent.{steps_alone}
use Rattle.ert_service.specs.Fronts.{StepsAlone}
use Rattle.ert_table.specs.{Calls.IsMade, Desks.view_of, declared.desk.Pass.Pass}

-- a call at a desk with these settings, by a pass with one actor
pub made_alone : (g s : Settings) (a : Actor) (allows : Settings → Step) (p q : Pass) → s ≡ g → (view_of p).actors ≡ a ∷ [] → IsMade s (view_of p) (allows s) (view_of q)
    → StepsAlone g a (allows g) p q
made_alone g s a allows p q same actors made =
    steps_alone g a (view_of p) (allows g) (view_of q) actors (subst (λ t. IsMade t (view_of p) (allows t) (view_of q)) same made)
