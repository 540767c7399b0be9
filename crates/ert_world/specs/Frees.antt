-- What a start leaves of the slots that the wheels of a world hold free, and where it finds one.

use Rattle.std.specs.Prelude.{ℕ, ◌<◌, Result, slice_index_or}
use Rattle.ert_defs.specs.{declared.timer.TimerRef.TimerRef, States.state}
use Rattle.ert_timers.specs.{Frees.{IsUsedUp, UsesFree}, Parts.Part, Searching.{HasOpenSlot, Searches}}
use Rattle.ert_world.specs.Worlds.{Seen, Goes, By}

-- there is a reason to refuse a timer on a wheel: it has had 2^53 timers before, or it holds no slot free afterwards
abbrev pub IsUsedUpAt : Seen → Seen → ℕ → Type 0
IsUsedUpAt old new i = (d : Part) → IsUsedUp (slice_index_or old.wheels i d) (slice_index_or new.wheels i d)

-- each slot that a wheel held free is so still, but that of the timer that was started
abbrev pub UsesFreeAt : {E : Type 0} → Seen → Seen → ℕ → Result TimerRef E → Type 0
UsesFreeAt old new i answer = (d : Part) → UsesFree (slice_index_or old.wheels i d) (slice_index_or new.wheels i d) answer

-- the slot of a wheel at which the next looks begin can take a timer now, and the wheel can have more timers
abbrev pub HasOpenSlotAt : Seen → ℕ → Type 0
HasOpenSlotAt w i = (d : Part) → HasOpenSlot w.settings (state w.settings w.history) (slice_index_or w.wheels i d)

-- a start on a wheel that has had fewer than 2^53 timers looked at the slots of a round, each of which was taken or rests. The
-- round begins where the wheel's last one ended. So refused starts go round the wheel, and a slot that can take a timer is
-- found after as many of them as it has rounds
abbrev pub SearchesAt : Seen → Seen → ℕ → Type 0
SearchesAt old new i = (d : Part) → (slice_index_or old.wheels i d).arms < 9007199254740992
    → Goes old (By old (λ g. Searches g 0 (slice_index_or old.wheels i d) (slice_index_or new.wheels i d))) new
