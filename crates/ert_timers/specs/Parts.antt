-- The timers of one scheduler: what its part keeps, and when the part stands for a history.

use Rattle.std.specs.Prelude.{◌≡◌, ◌≢◌, ℕ, ◌+◌, ◌<◌, ◌≤◌, true, false, List, map, length, count_by, slice_index_or, Option, Some, None, refl}
use Rattle.std.specs.{Coded.{Coded, code_by, coded×, coded_ℕ, coded_list, coded_option}, List.{range_with_len, slice_get}, Option.is_some, Ordering.nat_cmp}
use Rattle.std.specs.FinSet as set
use Rattle.ert_defs.specs.{Legal.Legal, Milliseconds.{natural, down}, Settings.IsChecked, States.{State, uses_at, state}, Timers.{Row, turned, is_taken, timer_at}, declared.entry.Actor.TheVariants.{Wheel, Sched, Caller}}
use Rattle.ert_defs.specs.{declared.entry.Entry.Entry, declared.settings.Settings.Settings, declared.timer.Kind.TheVariants.Wrapped, declared.timer.Status.Status, declared.timer.Status.TheVariants.{Armed, Cancelled}}
use Rattle.ert_defs.specs.{declared.timer.TimerRef.TimerRef, declared.settings.TheConstants.{MOST_SLOTS, MOST_PROCESSES}}
use Rattle.ert_laws.specs.Counts.{entries_of, is_arm, is_expire, is_orphan}
use Rattle.ert_table.specs.{Held.is_held, declared.view.View.View}
use Rattle.ert_timers.specs.{Codes.{slot_code, key_code}, Slots.{Slot, stored_slot, is_joined, nothing}, declared.slot.Stored.Stored, Free.FreeSet}
use Rattle.ert_wheel.specs.{Links.next_at, Rings.{Rings, Place, AreChains, StandsIn}, Rows.{Held, key_in}, declared.row.Key.Key}

-- the part of one scheduler's timers: its number, the number of processes, by slot what is kept of the last
-- timer, by slot the key of the row that is held as armed, the slots that are held free, how many timers were
-- armed, expired and were cancelled for an exit, the first time that its wheel hasn't passed, in milliseconds, the slot at
-- which the next looks for a free one begin, and by slot the bucket of the wheel in which the row stands
pub record Part : Type 0 where
  pub number : ℕ
  pub processes : ℕ
  pub slots : List Slot
  pub keys : List (Option Key)
  pub free : set.FinSet nat_cmp
  pub arms : ℕ
  pub expires : ℕ
  pub orphans : ℕ
  pub passed : ℕ
  pub next_look : ℕ
  pub stands : List (Option ℕ)

-- a part is stored as a tuple of its fields
abbrev pub part_code : Coded Part
part_code =
    code_by (ℕ × (ℕ × (List Slot × (List (Option Key) × (set.FinSet nat_cmp × (ℕ × (ℕ × (ℕ × (ℕ × (ℕ × List (Option ℕ)))))))))))
    (coded× coded_ℕ (coded× coded_ℕ (coded× (coded_list slot_code) (coded× (coded_list (coded_option key_code))
    (coded× (set.code coded_ℕ) (coded× coded_ℕ (coded× coded_ℕ (coded× coded_ℕ (coded× coded_ℕ (coded× coded_ℕ (coded_list (coded_option coded_ℕ))))))))))))
    (λ p. (p.number, (p.processes, (p.slots, (p.keys, (p.free, (p.arms, (p.expires, (p.orphans, (p.passed, (p.next_look, p.stands)))))))))))
    (λ t. record {
      number = t.0;
      processes = t.1.0;
      slots = t.1.1.0;
      keys = t.1.1.1.0;
      free = t.1.1.1.1.0;
      arms = t.1.1.1.1.1.0;
      expires = t.1.1.1.1.1.1.0;
      orphans = t.1.1.1.1.1.1.1.0;
      passed = t.1.1.1.1.1.1.1.1.0;
      next_look = t.1.1.1.1.1.1.1.1.1.0;
      stands = t.1.1.1.1.1.1.1.1.1.1;
    })
    (λ _. refl)

-- a slot that was never used
abbrev pub unused : Slot
unused = record { generation = 0; above = 0; dest = 0; msg = 0; kind = Wrapped }

-- what is kept of the last timer of a slot
abbrev pub slot_at : List Slot → ℕ → Slot
slot_at slots k = slice_index_or slots k unused

-- what is kept of a slot, by what is stored of those that are written: the others were never used
abbrev pub written_slot : List Stored → ℕ → Slot
written_slot written k = stored_slot (slice_index_or written k nothing)

-- and of so many
unfoldable pub all_slots : List Stored → ℕ → List Slot
all_slots written n = map (λ k. written_slot written k) (range_with_len 0 n)

-- the last timer of a slot
abbrev pub last_timer : ℕ → List Slot → ℕ → TimerRef
last_timer w slots k = timer_at w k (slot_at slots k).generation

-- the row of a slot, by its key
abbrev pub held_row : ℕ → List Slot → ℕ → Key → Row
held_row w slots k key = record {
  timer = last_timer w slots k;
  deadline = key.deadline;
  dest = (slot_at slots k).dest;
  msg = (slot_at slots k).msg;
  kind = (slot_at slots k).kind;
}

-- the chains of the processes: that of each has the slots of its rows, and maybe slots that have no row any more, but whose
-- last timer went to it
pub record AreOwned (slots : List Slot) (keys : List (Option Key)) (owners : Rings) (armed : ℕ) : Type 0 where
  pub places : ℕ → Option Place
  pub are : AreChains owners places
  pub held : (k : ℕ) (key : Key) → key_in keys k ≡ Some key → StandsIn places (slot_at slots k).dest k
  pub lasts : (k : ℕ) (place : Place) → places k ≡ Some place → place.home ≡ (slot_at slots k).dest
  pub orders : (k : ℕ) (place : Place) → places k ≡ Some place → place.order < armed

-- what the fields of a part keep, whatever the history
pub record AreFieldsFit (slots : List Slot) (keys : List (Option Key)) (free : FreeSet) (owners : Rings) (armed expired orphaned : ℕ) : Type 0 where
  pub few : length slots ≤ MOST_SLOTS
  pub wide : length keys ≡ length slots
  pub all_slots : free.slots ≡ length slots
  pub owned : owners.slots ≡ length slots
  pub few_homes : owners.homes ≤ MOST_PROCESSES
  -- a slot that is held free has no row
  pub vacant : (k : ℕ) → set.contains free.held k ≡ true → key_in keys k ≡ None
  pub below : (k : ℕ) → set.contains free.held k ≡ true → k < length slots
  -- and a slot that isn't written is held free
  pub unwritten : (k : ℕ) → owners.written ≤ k → k < length slots → set.contains free.held k ≡ true
  -- the counts stay far below 2^64
  pub few_arms : armed ≤ 9007199254740992
  -- a timer that expired or was cancelled for an exit has no row any more
  pub tally : (expired + orphaned) + count_by is_some keys ≤ armed
  pub orders : (k : ℕ) (key : Key) → key_in keys k ≡ Some key → key.order < armed
  -- the rows of each process are in its chain
  pub dests : (k : ℕ) (key : Key) → key_in keys k ≡ Some key → (slot_at slots k).dest < owners.homes
  pub chained : AreOwned slots keys owners armed

-- a slot stands in a chain where that is noted
abbrev pub AreJoined : List Stored → Rings → Type 0
AreJoined values owners = (k : ℕ) (stored : Stored) → k < owners.slots → slice_get values k ≡ Some stored → is_joined stored ≡ true
    → next_at owners.links k ≢ k

-- and with what is stored of the slots
pub record AreStoredFit (values : List Stored) (keys : List (Option Key)) (free : FreeSet) (owners : Rings) (armed expired orphaned : ℕ) : Type 0 where
  pub fit : AreFieldsFit (all_slots values owners.slots) keys free owners armed expired orphaned
  pub joined : AreJoined values owners

-- more slots of a wheel are written, so many in all, and nothing was kept of them: so all is seen as it was
pub record IsWritten (old new : Held Stored) (written : ℕ) : Type 0 where
  pub more : old.owners.written ≤ written
  pub keys : new.keys ≡ old.keys
  pub owners : new.owners ≡ record old.owners { written = written }
  pub slots : (n : ℕ) → all_slots new.values n ≡ all_slots old.values n
  pub joined : AreJoined old.values old.owners → AreJoined new.values new.owners
  pub passed : new.passed ≡ old.passed
  pub stands : new.stands ≡ old.stands

-- a timer whose row is held has this status: it is armed, or was cancelled by one who told the part nothing
abbrev pub IsLive : Option Status → Type 0
IsLive (Some Armed) = Unit {0}
IsLive (Some Cancelled) = Unit {0}
IsLive _ = ⊥

-- the rows that are held: each is the last of its slot, at the place of its order among the timers of the
-- wheel, and armed or cancelled; and each armed timer is held
pub record HoldsRows (s : State) (w : ℕ) (slots : List Slot) (keys : List (Option Key)) : Type 0 where
  pub each : (k : ℕ) (key : Key) → key_in keys k ≡ Some key → slice_get (s.rows w) key.order ≡ Some (held_row w slots k key)
  pub live : (k : ℕ) (key : Key) → key_in keys k ≡ Some key → IsLive (s.status (last_timer w slots k))
  pub armed : (n : ℕ) (row : Row) → slice_get (s.rows w) n ≡ Some row → s.status row.timer ≡ Some Armed
      → key_in keys row.timer.slot ≡ Some (record { deadline = row.deadline; order = n })

-- at a time of so many milliseconds no slot that is held free rests
abbrev pub HaveRested : State → Part → ℕ → Type 0
HaveRested s p now = (k : ℕ) → set.contains p.free k ≡ true → (turned (uses_at s p.number k)).since ≤ now

-- a part fits a state. Each row that is held is of the last timer of its slot, with its deadline and its place among
-- the timers of the wheel; it may have been cancelled meanwhile, but hasn't expired. Each armed timer of the wheel
-- is held. The last generation of each slot and what is above its deadlines are those of the state. Each slot that is
-- held free is not taken, and doesn't rest at the time of the state. The order is known to proofs alone: what stands
-- in memory is the order of the buckets' chains
pub record FitsState (g : Settings) (s : State) (p : Part) : Type 0 where
  pub number : p.number < g.schedulers
  pub processes : p.processes ≡ g.processes
  pub many : length p.slots ≡ g.slots
  pub wide : length p.keys ≡ g.slots
  pub rows : HoldsRows s p.number p.slots p.keys
  pub lasts : (k : ℕ) → k < g.slots → (slot_at p.slots k).generation ≡ s.last p.number k
  pub aboves : (k : ℕ) → k < g.slots → (slot_at p.slots k).above ≡ s.above p.number k
  pub arms : p.arms ≡ length (s.rows p.number)
  pub free : (k : ℕ) → set.contains p.free k ≡ true → is_taken (s.status (last_timer p.number p.slots k)) ≡ false
  pub ready : HaveRested s p (natural (down g s.clock.now))

-- the counts of a part are those of a history
pub record IsCounted (h : List Entry) (p : Part) : Type 0 where
  pub arms : p.arms ≡ entries_of is_arm p.number h
  pub expires : p.expires ≡ entries_of is_expire p.number h
  pub orphans : p.orphans ≡ entries_of is_orphan p.number h

-- a part stands for a history: it fits the state after it, and has counted its entries. It depends on the
-- entries with this wheel, and else on what no entry takes back: so it stands for each longer legal history with
-- no more entries of the wheel (`parts_stand_on`)
pub record PartStands (g : Settings) (h : List Entry) (p : Part) : Type 0 where
  pub checked : IsChecked g
  pub legal : Legal g h
  pub holds : FitsState g (state g h) p
  pub counted : IsCounted h p

-- a pass holds a wheel, and a caller in range
pub record HoldsCaller (g : Settings) (v : View) (by w : ℕ) : Type 0 where
  pub caller : is_held v.actors (Caller by) ≡ true
  pub wheel : is_held v.actors (Wheel w) ≡ true
  pub by_high : by < g.callers

-- a pass holds a wheel, and its scheduler
pub record HoldsSched (v : View) (w : ℕ) : Type 0 where
  pub sched : is_held v.actors (Sched w) ≡ true
  pub wheel : is_held v.actors (Wheel w) ≡ true
