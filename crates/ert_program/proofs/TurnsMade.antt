-- The turns of a scheduler, as far as they have come.

use Rattle.std.proofs.Common.{ℕ, ◌+◌, List, [], ◌∷◌, ◌++◌, Ok, ap, ◌∙◌, length-append}
use Rattle.ert_effects.proofs.Growing.{grows_more}
use Rattle.ert_effects.specs.{Chains.Turns, Ways.{Grows, beside}, declared.answers.Turned.Turned}
use Rattle.ert_defs.specs.declared.{entry.Actor.TheVariants.Sched, entry.Entry.Entry, settings.Settings.Settings}
use Rattle.ert_program.specs.Workers.{TurnsSoOften}

-- one more
pub turns_more : (g : Settings) (w n : ℕ) (t : Turned) (f h k : List Entry) → TurnsSoOften g w n f h → Grows (Turns g (beside g (Sched w)) w (Ok t)) h k
    → TurnsSoOften g w (n + 1) f k
turns_more g w n t f h k far one = record {
  turned = far.turned ++ t ∷ [];
  counted = length-append far.turned (t ∷ []) ∙ ap (λ x. x + 1) far.counted;
  grows = grows_more (λ (x : Turned). Turns g (beside g (Sched w)) w (Ok x)) far.turned t f h k far.grows one;
}
