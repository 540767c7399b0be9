-- What the clock's part publishes on a desk.

use Rattle.std.specs.Prelude.{◌≡◌, ℕ, ◌<◌, true, List, [], ◌∷◌, Some, Ok}
use Rattle.ert_clock.specs.{Shown.{Shown, ClockStands}, Ticks.Gives, declared.clock.Moved.Moved}
use Rattle.ert_defs.specs.{Entries.keeper_entry, Lines.MayAct, declared.entry.Act.Act, declared.entry.Actor.TheVariants.{Keeper, Caller}, declared.entry.Entry.Entry, declared.entry.Event.TheVariants.Off}
use Rattle.ert_defs.specs.{declared.settings.OffsetState.OffsetState, declared.settings.OffsetState.TheVariants.{Preliminary, Final, Volatile}, declared.settings.Reading.Reading, declared.settings.Settings.Settings}
use Rattle.ert_table.specs.{Held.{is_held, least_caller}, declared.view.View.View}

-- a pass holds the clock's part, and a caller in range with whom its entries are made
pub record HoldsKeeper (g : Settings) (v : View) (by : ℕ) : Type 0 where
  pub keeper : is_held v.actors Keeper ≡ true
  pub caller : is_held v.actors (Caller by) ≡ true
  pub below : by < g.callers

-- where the offset isn't preliminary, a finalization only reads it: with the least caller that the pass holds
abbrev pub ReadsByLeastCaller : OffsetState → Settings → View → ℕ → Type 0
ReadsByLeastCaller Preliminary g v by = Unit {0}
ReadsByLeastCaller Final g v by = least_caller v.actors g.callers ≡ Some by
ReadsByLeastCaller Volatile g v by = least_caller v.actors g.callers ≡ Some by

-- the one entry of a finalization that only reads the offset: the offset and its state, as the clock shows them
abbrev pub unmoved_entries : ℕ → Shown → List Entry
unmoved_entries by now = keeper_entry by (Off now.face.offset now.face.state) ∷ []

-- a clock has done a tick that the history it stood for doesn't have yet
pub record IsAhead (g : Settings) (h : List Entry) (r : Reading) (act : Act) (m : Moved) (new : Shown) : Type 0 where
  pub old : Shown
  pub stands : ClockStands g h old
  pub may : MayAct act old.face.state
  pub gives : Gives old r act (Ok m) new

-- a clock stood for a history, and a finalization left it as it was, since its offset wasn't preliminary
pub record IsStill (g : Settings) (v : View) (by : ℕ) (now : Shown) : Type 0 where
  pub stands : ClockStands g v.front now
  pub least : least_caller v.actors g.callers ≡ Some by
