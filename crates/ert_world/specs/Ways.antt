-- How the entries of a step come about beside threads that have seats.

use Rattle.std.specs.Prelude.{◌≡◌, ℕ, Bool, false, ◌&&◌, not, nat_lt, List, [], ◌∷◌, filter}
use Rattle.ert_effects.specs.Ways.{Way}
use Rattle.ert_defs.specs.{Entries.is_ours, States.{State, state}, declared.entry.Actor.Actor, declared.entry.Actor.TheVariants.Caller, declared.entry.Entry.Entry, declared.settings.Settings.Settings}

-- a step that makes no entry
abbrev pub MakesNone : Settings → State → List Entry → Type 0
MakesNone g s es = es ≡ []

-- the way of those whose entries pass a test, beside others: in the piece of the history those that pass it are
-- allowed in the state before the piece
abbrev pub among : Settings → (Entry → Bool) → Way
among g is_own parts allows h m = allows (state g h) (filter is_own m)

-- whether an actor is a caller that was given a seat: those from 1 on were, below the next
abbrev pub has_seat : ℕ → Actor → Bool
has_seat next (Caller n) = nat_lt 0 n && nat_lt n next
has_seat next _ = false

-- whether an entry was made by another than these
abbrev pub is_unseated : ℕ → Entry → Bool
is_unseated next e = not (has_seat next e.by)

-- beside those that were given seats
abbrev pub beside_seats : Settings → ℕ → Way
beside_seats g next = among g (is_unseated next)

-- by one caller, beside all others
abbrev pub as_caller : Settings → ℕ → Way
as_caller g number = among g (is_ours (Caller number ∷ []))
