-- A pass that learns what a note knows.

use Rattle.std.proofs.Common.{◌≡◌, [], ◌++◌, ap, ◌∙◌, append-nil}
use Rattle.ert_defs.specs.{Legal.Legal, declared.settings.Settings.Settings}
use Rattle.ert_table.specs.{Notes.HasLearned, Views.{Joined, longer, meeting}, declared.view.View.View}
use Rattle.ert_table.proofs.{Calls.none_ours, Parts.free_later}

-- the pass took in another one without actors
pub learned : (g : Settings) (v u w : View) → u.actors ≡ [] → w.actors ≡ v.actors ++ u.actors → w.front ≡ longer v.front u.front
    → Joined (meeting v u) w.front → Legal g w.front → HasLearned g v u.front w
learned g v u w bare actors front joined legal = record {
  call = record {
    actors = actors ∙ (ap (λ l. v.actors ++ l) bare ∙ append-nil v.actors);
    legal = legal;
    later = joined.begins.later;
    grown = joined.begins.grown;
    ours = none_ours v.actors joined.begins.later (λ a held. free_later a v.front w.front joined.begins (joined.own a held));
  };
  front = front;
  knows = joined.other_begins;
}
