-- A start that searches for a free slot, and a slot that it finds at once.

use Rattle.std.specs.Prelude.{◌≡◌, ℕ, ◌<◌, ◌≤◌, ℤ, false, List, ◌∷◌, length}
use Rattle.ert_defs.specs.{Entries.look_entry, Milliseconds.{natural, down}, States.{State, uses_at}, Timers.{turned, is_taken}, declared.entry.Actor.TheVariants.Caller, declared.entry.Entry.Entry, declared.settings.Settings.Settings}
use Rattle.ert_effects.specs.TimerCalls.{IsRoundTaken, Round}
use Rattle.ert_timers.specs.{Parts.{Part, last_timer}, Starting.GoesRound}

-- a slot can take a timer now: its last one takes it no more, and it doesn't rest
pub record CanTake (g : Settings) (s : State) (p : Part) (k : ℕ) : Type 0 where
  pub low : k < length p.slots
  pub untaken : is_taken (s.status (last_timer p.number p.slots k)) ≡ false
  pub rested : (turned (uses_at s p.number k)).since ≤ natural (down g s.clock.now)

-- the slot at which the next looks begin can take a timer now, and the wheel can have more timers
pub record HasOpenSlot (g : Settings) (s : State) (p : Part) : Type 0 where
  pub can : CanTake g s p p.next_look
  pub few : p.arms < 9007199254740992

-- a start looked at the slots of a round, which begins where the last one ended and goes on round the wheel, and each was
-- taken or rests
pub record Searches (g : Settings) (by : ℕ) (p q : Part) (s : State) (es : List Entry) : Type 0 where
  pub now : ℤ
  pub probes : List Entry
  pub round : Round g.slots g.looks
  pub taken : IsRoundTaken by p.number (natural (down g now)) s round probes
  pub goes_on : GoesRound p q round
  pub entries : es ≡ look_entry (Caller by) now ∷ probes
