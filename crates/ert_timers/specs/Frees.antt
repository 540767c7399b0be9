-- What a call leaves of the slots that are held free.

use Rattle.std.specs.Prelude.{◌≡◌, ◌≢◌, ◌⊎◌, ℕ, ◌≤◌, true, false, Option, Some, None, Result, Ok}
use Rattle.std.specs.FinSet as set
use Rattle.ert_defs.specs.declared.timer.TimerRef.{TimerRef}
use Rattle.ert_timers.specs.{Changes.has_uses, Parts.{Part, last_timer, slot_at}}
use Rattle.ert_wheel.specs.Rows.{key_in}

-- no slot is held free
abbrev pub HoldsNoneFree : Part → Type 0
HoldsNoneFree p = (k : ℕ) → set.contains p.free k ≡ false

-- each slot that was held free is so still
abbrev pub KeepsFree : Part → Part → Type 0
KeepsFree p q = (k : ℕ) → set.contains p.free k ≡ true → set.contains q.free k ≡ true

-- the slot of each row that has gone is held free, where its round has uses left
abbrev pub FreesRows : Part → Part → Type 0
FreesRows p q = (k : ℕ) → key_in p.keys k ≢ None → key_in q.keys k ≡ None → has_uses (slot_at p.slots k) ≡ true → set.contains q.free k ≡ true

-- each slot that was held free is so still but one, where one was taken
abbrev pub TakesFree : Part → Part → Option ℕ → Type 0
TakesFree p q slot = (k : ℕ) → set.contains p.free k ≡ true → (set.contains q.free k ≡ true) ⊎ (slot ≡ Some k)

-- and each but that of the timer that was started
abbrev pub UsesFree : {E : Type 0} → Part → Part → Result TimerRef E → Type 0
UsesFree p q answer = (k : ℕ) → set.contains p.free k ≡ true → (set.contains q.free k ≡ true) ⊎ (answer ≡ Ok (last_timer q.number q.slots k))

-- there is a reason to refuse a timer: the wheel has had 2^53 timers before, or it holds no slot free afterwards
abbrev pub IsUsedUp : Part → Part → Type 0
IsUsedUp p q = (9007199254740992 ≤ p.arms) ⊎ HoldsNoneFree q
