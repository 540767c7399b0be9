-- What a front shows, and how it grows with no part.

use Rattle.std.specs.Prelude.{List, []}
use Rattle.ert_defs.specs.{Legal.Legal, declared.entry.Actor.Actor, declared.entry.Entry.Entry, declared.settings.Settings.Settings}
use Rattle.ert_effects.specs.Ways.{Step, beside}
use Rattle.ert_locks.specs.Passes.{FrontGrows}
use Rattle.ert_table.specs.declared.desk.Pass.{Pass}

-- a history is legal, as a bare fact: it shows whatever has one proof at most, as an equation, an order or a denial
abbrev pub IsLegal : Settings → List Entry → Type 0
IsLegal g h = ∥ Legal g h ∥₁

-- the front of an actor's pass has grown by a step that needs no part, beside others
abbrev pub StepsAlone : Settings → Actor → Step → Pass → Pass → Type 0
StepsAlone g a allows p q = FrontGrows (beside g a [] allows) p q
