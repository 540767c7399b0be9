-- When the message of a timer is put into a mailbox, as a user may expect it. The functions of src/punctual.rt carry
-- the laws as contracts, so that they are proved.

use Rattle.std.specs.Prelude.{◌≡◌, ◌≢◌, ◌⊎◌, ℕ, ◌<◌, ◌≤◌, Bool, false, List, [], ◌∷◌, ◌++◌, filter, Option, Some, None}
use Rattle.ert_defs.specs.{Legal.Legal, States.state, Timers.{Row, row_of, same_timer}, declared.entry.Entry.Entry, declared.entry.Event.TheVariants.{Expire, Advanced}, declared.settings.Settings.Settings}
use Rattle.ert_defs.specs.{declared.timer.Status.TheVariants.{Delivered, Cancelled, Orphaned}, declared.timer.TimerRef.TimerRef}
use Rattle.ert_laws.specs.MailOrder.{Sent, sent_by_row, sent_to, is_from}

-- a timer, where there is one, is this one
abbrev pub is_timer : TimerRef → Option TimerRef → Bool
is_timer r None = false
is_timer r (Some timer) = same_timer timer r

-- a message was sent by this timer
abbrev pub is_sent_by : TimerRef → Sent → Bool
is_sent_by r sent = is_timer r sent.timer

-- the message of a timer was put into the mailbox of its destination once, and into no other
pub record IsMessagePut (g : Settings) (h : List Entry) (row : Row) : Type 0 where
  pub once : filter (is_sent_by row.timer) (sent_to g row.dest h) ≡ sent_by_row row ∷ []
  pub elsewhere : (p : ℕ) → p ≢ row.dest → filter (is_sent_by row.timer) (sent_to g p h) ≡ []

-- a timer of a wheel has this row
abbrev pub IsRowIn : Settings → List Entry → ℕ → TimerRef → Row → Type 0
IsRowIn g h w timer row = row_of ((state g h).rows w) timer ≡ Some row

-- the message of a timer that is delivered was put
abbrev pub LawOfPutMessages : Type 0
LawOfPutMessages = (g : Settings) (h : List Entry) (w : ℕ) (timer : TimerRef) (row : Row) → Legal g h → timer.wheel ≡ w → IsRowIn g h w timer row
    → (state g h).status timer ≡ Some Delivered → IsMessagePut g h row

-- a wheel was advanced to a time, and later no expired timer waits at its scheduler: then each timer that had been started
-- and was due is delivered, unless it was cancelled or its destination has exited
abbrev pub LawOfDueTimers : Type 0
LawOfDueTimers = (g : Settings) (f m : List Entry) (e : Entry) (w to : ℕ) (timer : TimerRef) (row : Row) → Legal g ((f ++ e ∷ []) ++ m)
    → e.event ≡ Advanced w to → timer.wheel ≡ w → IsRowIn g f w timer row → row.deadline ≤ to
    → ((state g ((f ++ e ∷ []) ++ m)).scheds w).expired ≡ []
    → (state g ((f ++ e ∷ []) ++ m)).status timer ≢ Some Cancelled
    → (state g ((f ++ e ∷ []) ++ m)).status timer ≢ Some Orphaned
    → (state g ((f ++ e ∷ []) ++ m)).exited row.dest ≡ false
    → (state g ((f ++ e ∷ []) ++ m)).status timer ≡ Some Delivered

-- a row stands among these
pub record StandsAmong (rows : List Row) (row : Row) : Type 0 where
  pub ahead : List Row
  pub after : List Row
  pub is : rows ≡ ahead ++ (row ∷ after)

-- one timer of a wheel is to expire before another: it was started before that and its deadline isn't later, or it was
-- started after that and its deadline is earlier
pub record IsEarlier (rows : List Row) (first second : Row) : Type 0 where
  pub before : List Row
  pub behind : List Row
  pub stands : rows ≡ before ++ (second ∷ behind)
  pub either : (StandsAmong before first × (first.deadline ≤ second.deadline)) ⊎ (StandsAmong behind first × (first.deadline < second.deadline))

-- of the messages that the timers of a wheel put into a mailbox, one was put before another
pub record IsPutBefore (g : Settings) (h : List Entry) (w p : ℕ) (first second : Row) : Type 0 where
  pub before : List Sent
  pub between : List Sent
  pub behind : List Sent
  pub stands : filter (is_from w) (sent_to g p h) ≡ before ++ (sent_by_row first ∷ (between ++ (sent_by_row second ∷ behind)))

-- the messages of a wheel's timers to one process are put by deadline, and for one deadline in order of starting: where a
-- timer expires, the message of each that had been started and was to expire before it is put before its own
abbrev pub LawOfPutOrder : Type 0
LawOfPutOrder = (g : Settings) (f m : List Entry) (e : Entry) (w p : ℕ) (first second : Row) → Legal g ((f ++ e ∷ []) ++ m)
    → e.event ≡ Expire second.timer → second.timer.wheel ≡ w → IsEarlier ((state g f).rows w) first second
    → first.dest ≡ p → second.dest ≡ p
    → (state g ((f ++ e ∷ []) ++ m)).status first.timer ≡ Some Delivered
    → (state g ((f ++ e ∷ []) ++ m)).status second.timer ≡ Some Delivered
    → IsPutBefore g ((f ++ e ∷ []) ++ m) w p first second
