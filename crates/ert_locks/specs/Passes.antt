-- How the pass of a seat goes on, and how it meets that of a part.

use Rattle.std.specs.Prelude.{◌≡◌, [], ◌∷◌}
use Rattle.ert_effects.specs.Ways.{Step, Growth, Grows, beside}
use Rattle.ert_defs.specs.{Legal.Legal, declared.entry.Actor.Actor, declared.settings.Settings.Settings}
use Rattle.ert_table.specs.{Desks.front_of, Views.{Joined, meeting}, declared.desk.Pass.Pass, declared.view.View.View}

-- the front of a pass has grown by a call
abbrev pub FrontGrows : Growth → Pass → Pass → Type 0
FrontGrows call p q = Grows call (front_of p) (front_of q)

-- the front of an actor's pass has grown by a step with this part, beside others
abbrev pub StepsWith : Settings → Actor → Actor → Step → Pass → Pass → Type 0
StepsWith g a part allows p q = FrontGrows (beside g a (part ∷ []) allows) p q

-- the pass of a part, which knew k, has met that of an actor, which knew v, and knows j
pub record PartMeets (g : Settings) (part a : Actor) (k v j : View) : Type 0 where
  pub part_alone : k.actors ≡ part ∷ []
  pub user_alone : v.actors ≡ a ∷ []
  pub actors : j.actors ≡ part ∷ (a ∷ [])
  pub joined : Joined (meeting k v) j.front
  pub legal : Legal g j.front
