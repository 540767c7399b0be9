-- What every history of a world of names has: it is legal, and its registrar has the messages of named timers
-- alone, which no exit settles.

use Rattle.std.specs.Prelude.{◌≡◌, ◌≢◌, ℕ, ◌<◌, false, All, List, ◌∷◌, ◌++◌, Some}
use Rattle.ert_defs.specs.{Legal.IsFirst, States.state, Timers.{Row, row_of}, declared.entry.Entry.Entry, declared.entry.Event.Event, declared.entry.Event.TheVariants.{Orphan, Drop}, declared.mail.Mail.Mail}
use Rattle.ert_defs.specs.{declared.mail.Mail.TheVariants.Timeout, declared.settings.Settings.Settings, declared.timer.Kind.TheVariants.Wrapped}
use Rattle.ert_laws.specs.KeptLaws.{KeepsLaws}
use Rattle.ert_world.specs.Worlds.{Seen}

-- a row for the registrar is that of a wrapped timer, whose message is the place of one of so many rows
abbrev pub IsForName : ℕ → Row → Type 0
IsForName n row = row.dest ≡ 0 → (row.kind ≡ Wrapped) × (row.msg < n)

-- a message of such a timer
abbrev pub IsNamed : ℕ → Mail → Type 0
IsNamed n (Timeout timer msg) = msg < n
IsNamed n _ = ⊥

-- an event after a history that settles a timer for an exit, or throws its message away, is of a timer for
-- another process than the registrar
abbrev pub SparesNamed : Settings → List Entry → Event → Type 0
SparesNamed g f (Orphan timer) = (row : Row) × (row_of ((state g f).rows timer.wheel) timer ≡ Some row) × (row.dest ≢ 0)
SparesNamed g f (Drop timer) = (first : IsFirst ((state g f).scheds timer.wheel).expired timer) × (first.row.dest ≢ 0)
SparesNamed g f _ = Unit {0}

-- a world that gave out no seat, in which so many timers were started for a name: the registrar lives, its
-- rows and messages are those of named timers, and no Orphan and no Drop is of a timer for it
pub record IsPromised (n : ℕ) (w : Seen) : Type 0 where
  -- legal, and it keeps the laws: so each timer's message is put once at most, and what was put into a mailbox is, in
  -- order, what was taken from it and then what stands in it
  pub laws : KeepsLaws w.settings w.history
  pub lone : w.next ≡ 1
  pub registrar_lives : (state w.settings w.history).exited 0 ≡ false
  pub rows : (i : ℕ) → All (IsForName n) ((state w.settings w.history).rows i)
  pub messages : All (IsNamed n) ((state w.settings w.history).mails 0).queue
  pub spared : (f m : List Entry) (e : Entry) → w.history ≡ f ++ (e ∷ m) → SparesNamed w.settings f e.event
