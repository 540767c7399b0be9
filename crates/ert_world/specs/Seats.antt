-- What callers see of the seat of a thread, and how its calls make its history longer.

use Rattle.std.specs.Prelude.{◌≡◌, ℕ, ◌+◌, ◌<◌, ◌≤◌, List, [], ◌∷◌}
use Rattle.atomic_table.specs.Seated.{TableId}
use Rattle.ert_effects.specs.Ways.{Growth, Grows}
use Rattle.ert_defs.specs.{Legal.Legal, States.State, declared.entry.Actor.TheVariants.Caller, declared.entry.Entry.Entry, declared.settings.Settings.Settings}
use Rattle.ert_table.specs.{Desks.{settings_of, front_of, actors_of, Belongs}, Views.longer, declared.desk.Desk.Desk, declared.desk.Pass.Pass}
use Rattle.ert_world.specs.{Worlds.{Seen, Goes, By}, Ways.{MakesNone, as_caller}, declared.seat_err.SeatErr.SeatErr, declared.seat_err.SeatErr.TheVariants.{NoSeat, NoMemory}}

-- what callers see of a seat: which desk it is of, with its settings, the history that it knows, and its caller
pub record Seated : Type 0 where
  pub table : TableId
  pub settings : Settings
  pub history : List Entry
  pub number : ℕ

-- what callers see of a seat with these: the history is the front of its pass
abbrev pub seated : Desk → Pass → ℕ → Seated
seated d p number = record {
  table = d.table.shared.table_id;
  settings = settings_of d;
  history = front_of p;
  number = number;
}

-- a pass of a desk holds one caller in range and nothing else
pub record SitsAs (d : Desk) (p : Pass) (number : ℕ) : Type 0 where
  pub belongs : Belongs d p
  pub actors : actors_of p ≡ Caller number ∷ []
  pub below : number < (settings_of d).callers

-- a seat makes a call: its history grows by it and is legal, and all else stays
pub record Steps (old : Seated) (call : Growth) (new : Seated) : Type 0 where
  pub grows : Grows call old.history new.history
  pub legal : Legal new.settings new.history
  pub table : new.table ≡ old.table
  pub settings : new.settings ≡ old.settings
  pub number : new.number ≡ old.number

-- of the entries that its history gains, those of its caller are what is allowed after the history before
abbrev pub BySeat : Seated → (Settings → State → List Entry → Type 0) → Growth
BySeat seat allows = as_caller seat.settings seat.number [] (allows seat.settings)

-- a world gives its next caller a seat on its desk, which knows what the world knows; the world keeps all else
pub record GivesSeat (old new : Seen) (seat : Seated) : Type 0 where
  pub table : seat.table ≡ old.table
  pub settings : seat.settings ≡ old.settings
  pub history : seat.history ≡ old.history
  pub number : seat.number ≡ old.next
  pub below : old.next < old.settings.callers
  pub rest : new ≡ record old { next = old.next + 1 }

-- a world and a seat of its desk learn what the other knows, and neither makes an entry: both know one legal history
-- then, the longer of the two that they knew, which the other begins
pub record Meets (old : Seen) (seat : Seated) (new : Seen) (met : Seated) : Type 0 where
  pub goes : Goes old (By old MakesNone) new
  pub steps : Steps seat (BySeat seat MakesNone) met
  pub one : met.history ≡ new.history
  pub is_longer : new.history ≡ longer old.history seat.history
  pub wheels : new.wheels ≡ old.wheels

-- a seat is refused: every caller but 0 has one, or there is no memory
abbrev pub IsSeatRefused : Seen → SeatErr → Type 0
IsSeatRefused w NoSeat = w.settings.callers ≤ w.next
IsSeatRefused w NoMemory = w.next < w.settings.callers
