-- A call that may cancel one timer, and settles no other.

use Rattle.std.specs.Prelude.{◌≡◌, List, [], ◌∷◌, ◌++◌}
use Rattle.ert_defs.specs.declared.{entry.Entry.Entry, entry.Event.Event, entry.Event.TheVariants.{Look, Peek, Cancel}, timer.TimerRef.TimerRef}
use Rattle.ert_world.specs.Worlds.{Seen}

-- an entry reads the time or a timer, or is a cancel of this timer
abbrev pub CancelsOnly : TimerRef → Event → Type 0
CancelsOnly r (Look now) = Unit {0}
CancelsOnly r (Peek timer left) = Unit {0}
CancelsOnly r (Cancel timer left) = timer ≡ r
CancelsOnly r _ = ⊥

-- each of these entries reads the time or a timer, or is a cancel of this timer
abbrev pub CancelOnly : TimerRef → List Entry → Type 0
CancelOnly r [] = Unit {0}
CancelOnly r (e ∷ es) = CancelsOnly r e.event × CancelOnly r es

-- a world's history grows by entries of which at most this timer is cancelled
pub record Spares (r : TimerRef) (old new : Seen) : Type 0 where
  pub piece : List Entry
  pub grown : new.history ≡ old.history ++ piece
  pub spares : CancelOnly r piece
  pub settings : new.settings ≡ old.settings
  pub next : new.next ≡ old.next
