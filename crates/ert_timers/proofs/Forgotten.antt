-- The row of a timer goes that was seen settled, and its slot is held free.

use Rattle.std.proofs.Common.{◌≡◌, ◌≢◌, ℕ, ◌<◌, false, List, length, Some, None, refl, arith, set}
use Rattle.std.proofs.lemmas.List.{length-set}
use Rattle.ert_defs.specs.{States.{State, state}, Timers.is_taken, declared.entry.Entry.Entry, declared.settings.Settings.Settings, declared.timer.Status.TheVariants.Armed}
use Rattle.ert_timers.specs.{Changes.{dropped, reused}, Parts.{Part, PartStands, last_timer}}
use Rattle.ert_timers.proofs.{Later.{IsLater, live_unexpired}, Rows.{key_left, rows_dropped}, Standing.{holds_back, holds_with, takes_none}}
use Rattle.ert_wheel.specs.{Rows.key_in, declared.row.Key.Key}
use Rattle.ert_wheel.proofs.Looking.{key_low}

same_state : (w : ℕ) (s : State) → IsLater w s s
same_state w s = record { rows = refl; last = λ k. refl; uses = λ k. refl; armed = λ r on is. is; free = λ r on none. none }

-- the part stands with the slot of a timer that takes it no more
pub stands_reused : (g : Settings) (h : List Entry) (p : Part) (k : ℕ) → PartStands g h p → k < length p.slots
    → is_taken ((state g h).status (last_timer p.number p.slots k)) ≡ false → PartStands g h (reused p k)
stands_reused g h p k stands low none = record {
  checked = stands.checked;
  legal = stands.legal;
  holds = holds_back g h p k stands.checked stands.legal (omega (arith, low, stands.holds.many)) stands.holds none;
  counted = record { arms = stands.counted.arms; expires = stands.counted.expires; orphans = stands.counted.orphans };
}

-- and without the row of a timer that isn't armed
pub stands_dropped : (g : Settings) (h : List Entry) (p : Part) (k : ℕ) (key : Key) → PartStands g h p → key_in p.keys k ≡ Some key
    → (state g h).status (last_timer p.number p.slots k) ≢ Some Armed → PartStands g h (dropped p k)
stands_dropped g h p k key stands held settled =
    let s : State = state g h in
    let low : k < length p.keys = key_low p.keys k key held in
    let later = same_state p.number s in
    record {
      checked = stands.checked;
      legal = stands.legal;
      holds = holds_with g s s p (set p.keys k None) (set p.stands k None) p.expires p.orphans stands.holds later (omega arith) (length-set p.keys k None)
          (rows_dropped g h p.number p.slots p.keys s stands.legal stands.holds.rows later k low settled
          (λ j seen is. stands.holds.rows.live j seen (key_left p.keys k j seen low is).1));
      counted = record { arms = stands.counted.arms; expires = stands.counted.expires; orphans = stands.counted.orphans };
    }

pub forgot : (g : Settings) (h : List Entry) (p : Part) (k : ℕ) (key : Key) → PartStands g h p → k < length p.slots → key_in p.keys k ≡ Some key
    → (state g h).status (last_timer p.number p.slots k) ≢ Some Armed → PartStands g h (reused (dropped p k) k)
forgot g h p k key stands in_range held settled =
    let s : State = state g h in
    stands_reused g h (dropped p k) k (stands_dropped g h p k key stands held settled) in_range
    (takes_none (s.status (last_timer p.number p.slots k)) settled
    (live_unexpired (s.status (last_timer p.number p.slots k)) (stands.holds.rows.live k key held)))
