-- What a seat knows is a legal history.

use Rattle.atomic_table.specs.Seated.{TableId}
use Rattle.std.proofs.Common.{subst}
use Rattle.ert_defs.specs.declared.{entry.Actor.Actor, settings.Settings.Settings}
use Rattle.ert_locks.specs.Names.{IsPassFor}
use Rattle.ert_service.specs.Fronts.{IsLegal}
use Rattle.ert_table.specs.{Desks.front_of, Rule.IsLegalBy, declared.desk.Pass.Pass}

-- a pass of one actor has a legal front
pub legal_front : {table : TableId} {g : Settings} {a : Actor} {p : Pass} → IsPassFor table g a p → IsLegal g (front_of p)
legal_front {table} {g} {a} {p} sits = subst (λ s. ∥ IsLegalBy s (front_of p) ∥₁) sits.named p.legal
