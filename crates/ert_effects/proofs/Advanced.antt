-- An advance by its entries: a look, tries, and the record.

use Rattle.std.proofs.Common.{◌≡◌, ℕ, ℤ, List, [], ◌∷◌, ◌++◌}
use Rattle.ert_effects.specs.WheelCalls.{Try, expiry_entries, hits, HasAdvanced}
use Rattle.ert_defs.specs.{Entries.{look_entry, advanced_entry}, States.State, declared.entry.Actor.TheVariants.Sched, declared.entry.Entry.Entry}

-- an advance, whatever its tries are of and its misses found
pub record IsAdvance (w : ℕ) (answer : ℕ × ℕ) (es : List Entry) : Type 0 where
  pub now : ℤ
  pub tries : List Try
  pub expired : answer.1 ≡ hits tries
  pub entries : es ≡ look_entry (Sched w) now ∷ (expiry_entries w tries ++ advanced_entry w answer.0 ∷ [])

pub advance_is : {s : State} (w : ℕ) (answer : ℕ × ℕ) (es : List Entry) → HasAdvanced w answer s es → IsAdvance w answer es
advance_is {s} w answer es made = record { now = made.now; tries = made.tries; expired = made.expired; entries = made.entries }
