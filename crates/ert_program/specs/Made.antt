-- What an actor makes in a stretch of a history, beside others, and what each scheduler makes alone.

use Rattle.std.specs.Prelude.{◌≡◌, ℕ, suc, List, [], ◌∷◌, ◌++◌, length, Ok}
use Rattle.ert_effects.specs.{Chains.HasTurned, Ways.{Growth, Then, Many, alone, beside}, declared.answers.Turned.Turned}
use Rattle.ert_defs.specs.{Actors.IsFree, declared.entry.Actor.Actor, declared.entry.Actor.TheVariants.Sched, declared.entry.Entry.Entry, declared.settings.Settings.Settings}

-- an actor makes a call in a stretch that comes after a history, and has no entry in the stretch after it
pub record MakesInStretch (a : Actor) (call : Growth) (h stretch : List Entry) : Type 0 where
  pub pieces : List Entry
  pub after : List Entry
  pub parted : stretch ≡ pieces ++ after
  pub made : call h pieces
  pub away : IsFree after a

-- a scheduler makes so many turns beside others
pub record MakesTurns (g : Settings) (w count : ℕ) (h stretch : List Entry) : Type 0 where
  pub turns : List Turned
  pub counted : length turns ≡ count
  pub makes : MakesInStretch (Sched w) (Many (λ t. HasTurned g (beside g (Sched w)) w t) turns) h stretch

-- a turn of each scheduler from one on, alone, in order of number
abbrev pub RoundOfTurns : Settings → ℕ → List Turned → Growth
RoundOfTurns g w [] h m = m ≡ []
RoundOfTurns g w (t ∷ turns) h m = Then (HasTurned g (alone g) w t) (RoundOfTurns g (suc w) turns) h m

-- each of the first so many schedulers makes a turn, alone
pub record MakesRound (g : Settings) (count : ℕ) (h m : List Entry) : Type 0 where
  pub turns : List Turned
  pub counted : length turns ≡ count
  pub made : RoundOfTurns g 0 turns h m
