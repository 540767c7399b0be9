-- Laws on whose entries are whose, and on how early a timer may be due. The functions of src/laws.rt carry them as
-- contracts, so that they are proved.

use Rattle.std.specs.Prelude.{◌≡◌, ℕ, ◌<◌, false, List, filter, Some}
use Rattle.ert_defs.specs.declared.entry.{Actor.TheVariants.Caller, Entry.Entry}
use Rattle.ert_world.specs.{Ways.is_unseated, Worlds.{Seen, HasPassedAt, IsNextHeldAt}}

-- where no seat was given out every entry is the world's: its steps come about as those of one thread
abbrev pub LawOfNoSeats : Type 0
LawOfNoSeats = (m : List Entry) → filter (is_unseated 1) m ≡ m

-- no entry of a caller that was given a seat is the world's
abbrev pub LawOfSeats : Type 0
LawOfSeats = (next n : ℕ) (e : Entry) → 0 < n → n < next → e.by ≡ Caller n → is_unseated next e ≡ false

-- where a wheel has passed a time, its next timer may be due only later: who sleeps until it is due gets on
abbrev pub LawOfLaterAnswers : Type 0
LawOfLaterAnswers = (w : Seen) (i to time : ℕ) → HasPassedAt w i to → IsNextHeldAt w i (Some time) → to < time
