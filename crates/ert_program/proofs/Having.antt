-- Entries that all have one actor.

use Rattle.std.proofs.Common.{◌≡◌, ℕ, Bool, true, false, List, [], ◌∷◌, ◌++◌, Option, Some, None, refl, sym, subst}
use Rattle.ert_defs.specs.{States.State, declared.entry.Actor.Actor, declared.entry.Entry.Entry, declared.settings.Settings.Settings, declared.timer.TimerRef.TimerRef}
use Rattle.ert_effects.specs.TimerCalls.{Reads, Cancels, read_entries, cancel_entries}
use Rattle.ert_locks.specs.Lent.{AllHave}
use Rattle.ert_table.proofs.Holders.{same_actor_self}

-- entries that are these
pub as_these : (a : Actor) (es fs : List Entry) → es ≡ fs → AllHave a fs → AllHave a es
as_these a es fs same have = subst (AllHave a) (sym same) have

pub have-append : (a : Actor) (es fs : List Entry) → AllHave a es → AllHave a fs → AllHave a (es ++ fs)
have-append a [] fs one other = other
have-append a (e ∷ es) fs one other = (one.0, have-append a es fs one.1 other)

read_have : (named : Bool) (by : Actor) (timer : TimerRef) (left : Option ℕ) → AllHave by (read_entries named by timer left)
read_have false by timer left = tt
read_have true by timer left = ((rw (same_actor_self by) refl), tt)

cancel_have : (named : Bool) (by : Actor) (timer : TimerRef) (found left : Option ℕ) → AllHave by (cancel_entries named by timer found left)
cancel_have false by timer found left = tt
cancel_have true by timer None left = ((rw (same_actor_self by) refl), tt)
cancel_have true by timer (Some n) left = ((rw (same_actor_self by) refl), ((rw (same_actor_self by) refl), tt))

pub reads_have : (g : Settings) (by : Actor) (timer : TimerRef) (left : Option ℕ) (s : State) (es : List Entry) → Reads g by timer left s es → AllHave by es
reads_have g by timer left s es reads = as_these by es _ reads.entries ((rw (same_actor_self by) refl), read_have _ by timer left)

pub cancels_have : (g : Settings) (by : Actor) (timer : TimerRef) (left : Option ℕ) (s : State) (es : List Entry) → Cancels g by timer left s es → AllHave by es
cancels_have g by timer left s es cancels = as_these by es _ cancels.entries ((rw (same_actor_self by) refl), cancel_have _ by timer cancels.found left)
