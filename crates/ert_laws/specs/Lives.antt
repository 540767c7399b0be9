-- The life of a timer, as a statement on the entries of a history (`erlang` module reference, `start_timer`
-- and `cancel_timer`). The functions of src/lives.rt carry the laws as contracts, so that they are proved.

use Rattle.std.specs.Prelude.{◌≡◌, Any, cond, filter_map, List, [], ◌∷◌, ◌++◌, Option, Some, None}
use Rattle.ert_defs.specs.{Legal.Legal, States.state, Timers.same_timer, declared.entry.Entry.Entry, declared.entry.Event.Event, declared.entry.Event.TheVariants.{Arm, Cancel, Expire, Orphan, Deliver, Drop}}
use Rattle.ert_defs.specs.{declared.settings.Settings.Settings, declared.timer.Status.Status, declared.timer.Status.TheVariants.{Armed, Expired, Delivered, Cancelled, Orphaned, Dropped}, declared.timer.TimerRef.TimerRef}

-- the status that an event gives a timer, by the event alone: a cancel gives one where it tells the
-- milliseconds that were left
abbrev pub status_given : TimerRef → Event → Option Status
status_given r (Arm timer start) = cond (same_timer timer r) (Some Armed) None
status_given r (Cancel timer (Some left)) = cond (same_timer timer r) (Some Cancelled) None
status_given r (Expire timer) = cond (same_timer timer r) (Some Expired) None
status_given r (Orphan timer) = cond (same_timer timer r) (Some Orphaned) None
status_given r (Deliver timer) = cond (same_timer timer r) (Some Delivered) None
status_given r (Drop timer) = cond (same_timer timer r) (Some Dropped) None
status_given r _ = None

-- the life of a timer: the statuses that the entries of a history gave it, in order
abbrev pub life : TimerRef → List Entry → List Status
life r h = filter_map (λ e. status_given r e.event) h

-- the life of a timer that has come to a status: one of six, and none before it is armed
abbrev pub life_to : Option Status → List Status
life_to None = []
life_to (Some Armed) = Armed ∷ []
life_to (Some Cancelled) = Armed ∷ Cancelled ∷ []
life_to (Some Orphaned) = Armed ∷ Orphaned ∷ []
life_to (Some Expired) = Armed ∷ Expired ∷ []
life_to (Some Delivered) = Armed ∷ Expired ∷ Delivered ∷ []
life_to (Some Dropped) = Armed ∷ Expired ∷ Dropped ∷ []

-- the life of each timer is that of its status
abbrev pub LawOfLives : Type 0
LawOfLives = (g : Settings) (h : List Entry) (r : TimerRef) → Legal g h → life r h ≡ life_to ((state g h).status r)

-- the status that a timer has when it is given this one
abbrev pub status_before : Status → Option Status
status_before Armed = None
status_before Cancelled = Some Armed
status_before Orphaned = Some Armed
status_before Expired = Some Armed
status_before Delivered = Some Expired
status_before Dropped = Some Expired

-- an event gave a timer a status, and moved it to that from the one before; or it gave it none, and the timer's
-- status stays
abbrev pub Moved : Option Status → Option Status → Option Status → Type 0
Moved None before after = after ≡ before
Moved (Some to) before after = (before ≡ status_before to) × (after ≡ Some to)

-- the entries of a timer's life move its status, and no others do
abbrev pub LawOfMovers : Type 0
LawOfMovers = (g : Settings) (h : List Entry) (e : Entry) (r : TimerRef) → Legal g (h ++ e ∷ [])
    → Moved (status_given r e.event) ((state g h).status r) ((state g (h ++ e ∷ [])).status r)

-- each expired timer waits at the scheduler of its wheel
abbrev pub LawOfWaiting : Type 0
LawOfWaiting = (g : Settings) (h : List Entry) (r : TimerRef) → Legal g h → (state g h).status r ≡ Some Expired
    → Any (λ row. row.timer ≡ r) ((state g h).scheds r.wheel).expired
