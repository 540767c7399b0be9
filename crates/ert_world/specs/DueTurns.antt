-- What a turn puts into mailboxes, as a user may expect it. The function `turns_put_due_messages` of src/laws.rt carries
-- the laws as a contract, so that they are proved.

use Rattle.std.specs.Prelude.{◌≡◌, ◌≢◌, ℕ, ◌≤◌, Bool, false, List, ◌++◌, Some, Ok}
use Rattle.ert_defs.specs.{Legal.Legal, States.state, Timers.Row, declared.entry.Actor.Actor, declared.entry.Entry.Entry, declared.settings.Settings.Settings, declared.timer.Status.TheVariants.{Cancelled, Orphaned}}
use Rattle.ert_defs.specs.{declared.timer.TimerRef.TimerRef}
use Rattle.ert_effects.specs.{Chains.{AdvancesWheel, Delivers, Turns}, Ways.{Growth, Way, Then, alone, beside}, declared.answers.Turned.Turned}
use Rattle.ert_laws.specs.Punctual.{IsRowIn, IsMessagePut}
use Rattle.ert_world.specs.Ways.{among}

-- what a turn ends with: a wheel is advanced to a time, and its scheduler hands its expired timers over
abbrev pub EndsInHanding : Settings → Way → ℕ → ℕ → ℕ → ℕ × ℕ → Growth
EndsInHanding g way w to expired handed = Then (AdvancesWheel g way w (Ok (to, expired))) (Delivers g way w (Ok handed))

-- then the message of each timer that had been started, with a deadline at most that time, was put into the mailbox of its
-- process once and nowhere else, whatever comes later; unless it was cancelled by the end of the turn, or the process had
-- exited by then
abbrev pub PutsDue : Settings → Way → Type 0
PutsDue g way = (w to expired : ℕ) (handed : ℕ × ℕ) (timer : TimerRef) (row : Row) (f m after : List Entry)
    → Legal g ((f ++ m) ++ after) → EndsInHanding g way w to expired handed f m
    → timer.wheel ≡ w → IsRowIn g f w timer row → row.deadline ≤ to
    → (state g (f ++ m)).status timer ≢ Some Cancelled
    → (state g (f ++ m)).status timer ≢ Some Orphaned
    → (state g (f ++ m)).exited row.dest ≡ false
    → IsMessagePut g ((f ++ m) ++ after) row

-- the same of a whole turn, and a timer that was started before it
abbrev pub TurnPutsDue : Settings → Way → Type 0
TurnPutsDue g way = (w : ℕ) (t : Turned) (timer : TimerRef) (row : Row) (f m after : List Entry)
    → Legal g ((f ++ m) ++ after) → Turns g way w (Ok t) f m
    → timer.wheel ≡ w → IsRowIn g f w timer row → row.deadline ≤ t.to
    → (state g (f ++ m)).status timer ≢ Some Cancelled
    → (state g (f ++ m)).status timer ≢ Some Orphaned
    → (state g (f ++ m)).exited row.dest ≡ false
    → IsMessagePut g ((f ++ m) ++ after) row

-- so it is by one thread, beside others, and beside those whose entries fail a test: in the turns of a world, of a service and
-- of a shard
abbrev pub LawOfDueHandings : Type 0
LawOfDueHandings = (g : Settings) → PutsDue g (alone g) × ((a : Actor) → PutsDue g (beside g a)) × ((own : Entry → Bool) → PutsDue g (among g own))

abbrev pub LawOfDueTurns : Type 0
LawOfDueTurns = (g : Settings) → TurnPutsDue g (alone g) × ((a : Actor) → TurnPutsDue g (beside g a)) × ((own : Entry → Bool) → TurnPutsDue g (among g own))
