use Rattle.std.proofs.Common.{◌≡◌, ℕ, Option}
use Rattle.ert_timers.specs.{Owners.Thinned, Parts.{AreJoined, all_slots}, declared.slot.Stored.Stored}
use Rattle.ert_timers.proofs.Owners.{linked}
use Rattle.ert_timers.proofs.part.find_row.Given as goal
use Rattle.ert_wheel.specs.{Rings.{Place, AreChains}, Rows.Held}

-- what stays, and which slots have left
pub record Keeps (old new : Held Stored) : Type 0 where
  pub keys_stay : new.keys ≡ old.keys
  pub stored_stays : (n : ℕ) → all_slots new.values n ≡ all_slots old.values n
  pub joined_stays : AreJoined old.values old.owners → AreJoined new.values new.owners
  pub slots_stay : new.owners.slots ≡ old.owners.slots
  pub homes_stay : new.owners.homes ≡ old.owners.homes
  pub passed_stays : new.passed ≡ old.passed
  pub stands_stay : new.stands ≡ old.stands
  pub written_stays : new.owners.written ≡ old.owners.written
  pub thins : (places : ℕ → Option Place) → AreChains old.owners places
      → (left : ℕ → Option Place) × Thinned new.owners new.keys places left

abbrev pub invariant-loop-slot : goal.invariant-loop-slot
invariant-loop-slot l = Keeps l.fn.wheel l.wheel

abbrev pub decreases-loop-slot : goal.decreases-loop-slot
decreases-loop-slot l = linked l.wheel.owners
