-- How the calls of a part change what it keeps.

use Rattle.std.specs.Prelude.{◌≡◌, ℕ, ◌+◌, ◌*◌, ◌<◌, ◌≤◌, Bool, false, cond, not, ◌&&◌, nat_lt, max, min, length, count_by, List, Option, Some, None, slice_set}
use Rattle.std.specs.FinSet as set
use Rattle.std.specs.Option.{is_some}
use Rattle.ert_defs.specs.{Timers.use_of, declared.timer.Start.Start}
use Rattle.ert_timers.specs.{Parts.{Part, slot_at}, Slots.Slot, declared.part.Use.Use}
use Rattle.ert_wheel.specs.{Rows.{key_in, key_of}, declared.row.Key.Key, declared.row.Row.Row, declared.row.TheConstants.LAST}

-- whether a slot was used less often than a round allows
abbrev pub has_uses : Slot → Bool
has_uses slot = nat_lt (use_of slot.generation) 262143

-- whether a slot rests at a time of so many milliseconds: its round has no use left, and the deadline of one
-- of its timers hasn't passed
abbrev pub is_resting : Slot → ℕ → Bool
is_resting slot now = not (has_uses slot) && nat_lt now slot.above

-- the next use of a slot that doesn't rest, started at a look of so many milliseconds for a deadline. In the
-- slot's first round the generation is one more, and the deadline is the timer's; in a later round, which
-- may begin with it, a deadline that has passed counts as the time of the look
abbrev pub next_use : ℕ → ℕ → ℕ → Use
next_use generation now wanted =
    cond (nat_lt generation 262143) (record { generation = generation + 1; deadline = wanted })
    (record {
      generation = 8796093022208 * (cond (nat_lt (use_of generation) 262143) (use_of generation) 0 + 1) + max now wanted;
      deadline = max now wanted;
    })

-- a slot may become free, or take a timer if it doesn't rest: it has no row, and isn't held free
pub record MayBecomeFree (p : Part) (k : ℕ) : Type 0 where
  pub low : k < length p.slots
  pub vacant : key_in p.keys k ≡ None
  pub away : set.contains p.free k ≡ false

-- a slot is held free no more
abbrev pub picked : Part → ℕ → Part
picked p k = record p { free = set.remove p.free k }

-- a slot is held free
abbrev pub freed : Part → ℕ → Part
freed p k = record p { free = set.insert p.free k }

-- a slot has no row any more
abbrev pub dropped : Part → ℕ → Part
dropped p k = record p { keys = slice_set p.keys k None; stands = slice_set p.stands k None }

-- the row of a slot has just gone: fewer timers are held, have expired or were cancelled for an exit than
-- were armed
pub record LostRow (p : Part) (k : ℕ) : Type 0 where
  pub away : set.contains p.free k ≡ false
  pub vacant : key_in p.keys k ≡ None
  pub room : (p.expires + p.orphans) + count_by is_some p.keys < p.arms
  pub few : p.arms ≤ 9007199254740992

-- the row of a timer that expired, or missed that, goes
abbrev pub let_go : Part → ℕ → Bool → Part
let_go p k expired = record p { keys = slice_set p.keys k None; expires = p.expires + cond expired 1 0; stands = slice_set p.stands k None }

-- the row of a timer that was cancelled for an exit, or before that, goes, and its slot is held free where its
-- round has uses left
abbrev pub given_back : Part → ℕ → Bool → Part
given_back p k orphaned = record p {
  keys = slice_set p.keys k None;
  free = cond (has_uses (slot_at p.slots k)) (set.insert p.free k) p.free;
  orphans = p.orphans + cond orphaned 1 0;
  stands = slice_set p.stands k None;
}

-- a slot whose timer takes it no more is held free where its round has uses left
abbrev pub reused : Part → ℕ → Part
reused p k = record p { free = cond (has_uses (slot_at p.slots k)) (set.insert p.free k) p.free }

-- what is kept of a slot with the timer of a start, where this was one above the greatest deadline before
abbrev pub slot_for : Use → ℕ → Start → Slot
slot_for next above start = record {
  generation = next.generation;
  above = max above (next.deadline + 1);
  dest = start.dest;
  msg = start.msg;
  kind = start.kind;
}

-- a slot has the timer of a start, and the rows stand in these buckets
abbrev pub kept : Part → ℕ → Start → Use → List (Option ℕ) → Part
kept p k start next stands = record p {
  slots = slice_set p.slots k (slot_for next (slot_at p.slots k).above start);
  keys = slice_set p.keys k (Some (record { deadline = next.deadline; order = p.arms }));
  arms = p.arms + 1;
  stands = stands;
}

-- the wheel has passed a time, and the rows stand in these buckets
abbrev pub gone_on : Part → ℕ → List (Option ℕ) → Part
gone_on p to stands = record p { passed = max p.passed (min (to + 1) LAST); stands = stands }

-- a row of a process, or that the process has none
abbrev pub NextOf : Part → ℕ → Option Row → Type 0
NextOf p process (Some row) = (row.slot < length p.slots) × (key_in p.keys row.slot ≡ Some (key_of row)) × ((slot_at p.slots row.slot).dest ≡ process)
NextOf p process None = (k : ℕ) (key : Key) → key_in p.keys k ≡ Some key → (slot_at p.slots k).dest ≡ process → ⊥
