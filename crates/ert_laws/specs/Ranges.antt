-- What the numbers in a legal history name: each process, wheel and slot is below its count.
-- The functions of src/ranges.rt carry the laws as contracts, so that they are proved.

use Rattle.std.specs.Prelude.{◌≡◌, ◌≢◌, ℕ, ◌<◌, ◌≤◌, All, List, length, Some, None}
use Rattle.ert_defs.specs.{Legal.{IsSlot, Legal}, Mails.first_of, States.state, Timers.{Row, Stands}, declared.entry.Entry.Entry, declared.mail.Request.Request, declared.settings.Settings.Settings, declared.timer.TimerRef.TimerRef}

-- the process that gets the answer to a request is in range
abbrev pub HasAsker : Settings → Request → Type 0
HasAsker g q = q.reply_to < g.processes

-- each request that waits for a scheduler names a process in range
abbrev pub LawOfInboxes : Type 0
LawOfInboxes = (g : Settings) (h : List Entry) (w : ℕ) → Legal g h → All (HasAsker g) ((state g h).inboxes w)

-- so does the request in its hand
abbrev pub LawOfHands : Type 0
LawOfHands = (g : Settings) (h : List Entry) (w : ℕ) (q : Request) → Legal g h → ((state g h).scheds w).hand ≡ Some q
    → HasAsker g q

-- a row of a wheel, whose slot stands and whose message goes to a process in range
pub record IsPlaced (g : Settings) (w : ℕ) (row : Row) : Type 0 where
  pub wheel : row.timer.wheel ≡ w
  pub place : IsSlot g row.timer.wheel row.timer.slot
  pub dest : row.dest < g.processes

-- each row of a wheel is in range
abbrev pub LawOfRowRanges : Type 0
LawOfRowRanges = (g : Settings) (h : List Entry) (w : ℕ) → Legal g h → All (IsPlaced g w) ((state g h).rows w)

-- so is each expired timer that waits at a scheduler
abbrev pub LawOfExpiredRanges : Type 0
LawOfExpiredRanges = (g : Settings) (h : List Entry) (w : ℕ) → Legal g h → All (IsPlaced g w) ((state g h).scheds w).expired

-- and so the first of them
abbrev pub LawOfFirstRanges : Type 0
LawOfFirstRanges = (g : Settings) (h : List Entry) (w : ℕ) (row : Row) → Legal g h
    → first_of ((state g h).scheds w).expired ≡ Some row
    → IsPlaced g w row

-- at most as many expired timers wait at a scheduler as its wheel has slots
abbrev pub LawOfFew : Type 0
LawOfFew = (g : Settings) (h : List Entry) (w : ℕ) → Legal g h → length ((state g h).scheds w).expired ≤ g.slots

-- each timer that was ever armed has a row
abbrev pub LawOfStanding : Type 0
LawOfStanding = (g : Settings) (h : List Entry) (r : TimerRef) → Legal g h → (state g h).status r ≢ None
    → Stands ((state g h).rows r.wheel) r
