-- Which timers an advance of a world's wheel tries.

use Rattle.std.specs.Prelude.{ℕ, [], ◌∷◌, slice_index_or}
use Rattle.ert_defs.specs.declared.entry.Actor.TheVariants.{Wheel}
use Rattle.ert_timers.specs.{Expiring.TriesHeld, Parts.Part}
use Rattle.ert_world.specs.Worlds.{Seen, Goes}

-- in an advance of a wheel of a world up to a time only timers were tried of which the wheel held a row before it. So none is
-- tried that was settled and forgotten long ago
abbrev pub TriesHeldAt : Seen → Seen → ℕ → ℕ → Type 0
TriesHeldAt old new i to = (d : Part) → Goes old (λ way. way (Wheel i ∷ []) (TriesHeld (slice_index_or old.wheels i d) to)) new
