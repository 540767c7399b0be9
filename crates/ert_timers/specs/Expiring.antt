-- An advance of a part: its due rows are tried, one after the other.

use Rattle.std.specs.Prelude.{◌≡◌, ℕ, ◌+◌, ◌≤◌, ℤ, pos, Bool, true, false, List, [], ◌∷◌, ◌++◌, All, length, drop, Option, Some, None, Result, Ok, Err}
use Rattle.std.specs.List.{AllPairs}
use Rattle.ert_defs.specs.{Entries.{look_entry, advanced_entry}, Milliseconds.down, States.{State, state}, Timers.Row, declared.entry.Actor.TheVariants.Sched, declared.entry.Entry.Entry, declared.memory.NoMemory.NoMemory}
use Rattle.ert_defs.specs.{declared.settings.Settings.Settings, declared.timer.Status.Status}
use Rattle.ert_effects.specs.WheelCalls.{Try, expires_by, expiry_entries, hits, IsSettled, AllMissesSettled, AllDue, AreOnce, Advances}
use Rattle.ert_table.specs.{Calls.IsMade, Takes.{Appends, TakesPlace}, declared.view.View.View}
use Rattle.ert_timers.specs.{Changes.let_go, ExpiredLists.Queue, Parts.{Part, PartStands, last_timer, held_row}, Passed.{HoldsEach, LosesRows}, Trying.{expired_after, TriesRows}}
use Rattle.ert_wheel.specs.{Rows.{key_in, key_of, times, due_count, comes_before}, declared.row.Row.Row as WheelRow}

-- the timer of a row
abbrev pub timer_of : Part → WheelRow → Row
timer_of p row = held_row p.number p.slots row.slot (key_of row)

-- what a try adds to the list of expired timers
abbrev pub expired_as : Row → Option (Option Status) → List Row
expired_as row None = row ∷ []
expired_as row (Some found) = []

-- whether a try hit
abbrev pub is_hit : Option (Option Status) → Bool
is_hit None = true
is_hit (Some found) = false

-- a row is tried, and goes; where its timer expired, that is added to the list
pub record Expires (g : Settings) (v : View) (p q : Part) (row : WheelRow) (old new : Queue) (u : View) : Type 0 where
  pub missed : Option (Option Status)
  pub step : Appends g v (expires_by p.number (last_timer p.number p.slots row.slot) missed) u
  pub settled : IsSettled missed
  pub part : q ≡ let_go p row.slot (is_hit missed)
  pub stands : PartStands g u.front q
  pub expired : new.rows ≡ old.rows ++ expired_as (timer_of p row) missed
  pub waits : expired_after g u.front p.number ≡ expired_after g v.front p.number ++ expired_as (timer_of p row) missed
  pub room : old.room ≤ new.room + 1

-- these are the rows that are due, in order
pub record AreDue (p : Part) (to : ℕ) (rows : List WheelRow) : Type 0 where
  pub each : (k : ℕ) → times k rows ≡ due_count to (key_in p.keys k)
  pub held : All (λ row. key_in p.keys row.slot ≡ Some (key_of row)) rows
  pub in_order : AllPairs (λ x y. comes_before y x ≡ false) rows

-- they are due by the last look of the scheduler, for which the part stands
pub record IsReady (g : Settings) (h : List Entry) (p : Part) (to : ℕ) (rows : List WheelRow) : Type 0 where
  pub stands : PartStands g h p
  pub told : pos to ≡ down g ((state g h).looked (Sched p.number))
  pub due : AreDue p to rows

-- so many of the due rows have been tried
pub record ExpiresSome (g : Settings) (v : View) (p q : Part) (to : ℕ) (due_rows : List WheelRow) (n : ℕ) (old new : Queue) (u : View) : Type 0 where
  pub done : TriesRows g v p q to n old new u
  pub ready : IsReady g u.front q to (drop n due_rows)
  pub room : old.room ≤ new.room + n

-- an advance: the timers that expired by it come last in the list, and in the scheduler's
pub record HasExpired (g : Settings) (v : View) (w to : ℕ) (old new : Queue) (u : View) : Type 0 where
  pub gained : List Row
  pub call : IsMade g v (Advances g w (Ok (to, length gained))) u
  pub expired : new.rows ≡ old.rows ++ gained
  pub waits : expired_after g u.front w ≡ expired_after g v.front w ++ gained

-- out of memory: nothing expired
pub record HasNotExpired (g : Settings) (v : View) (w : ℕ) (e : NoMemory) (old new : Queue) (u : View) : Type 0 where
  pub call : IsMade g v (Advances g w (Err e)) u
  pub expired : new.rows ≡ old.rows

-- a look, and then each due row was tried
pub record HasTried (g : Settings) (v : View) (p q : Part) (to : ℕ) (old new : Queue) (u : View) : Type 0 where
  pub now : ℤ
  pub tries : List Try
  pub gained : List Row
  pub settled : AllMissesSettled tries
  pub due : AllDue ((state g v.front).rows p.number) to tries
  pub once : AreOnce tries
  pub held : HoldsEach p tries
  pub loses : LosesRows p q
  pub call : TakesPlace g v (look_entry (Sched p.number) now ∷ expiry_entries p.number tries) u
  pub number : q.number ≡ p.number
  pub ready : IsReady g u.front q to []
  pub count : length gained ≡ hits tries
  pub expired : new.rows ≡ old.rows ++ gained
  pub waits : expired_after g u.front p.number ≡ expired_after g v.front p.number ++ gained

-- out of memory: nothing was tried
pub record HasNotTried (g : Settings) (v : View) (p q : Part) (e : NoMemory) (old new : Queue) (u : View) : Type 0 where
  pub call : HasNotExpired g v p.number e old new u
  pub loses : LosesRows p q
  pub number : q.number ≡ p.number
  pub stands : PartStands g u.front q

-- what comes of trying the due rows, by the answer: all were tried, or none because memory ran out
abbrev pub IsTried : Settings → View → Part → Part → Result ℕ NoMemory → Queue → Queue → View → Type 0
IsTried g v p q (Ok to) old new u = HasTried g v p q to old new u
IsTried g v p q (Err e) old new u = HasNotTried g v p q e old new u

-- what comes of an advance, by the answer: it was made, or nothing expired because memory ran out
abbrev pub IsAdvanced : Settings → View → ℕ → Result ℕ NoMemory → Queue → Queue → View → Type 0
IsAdvanced g v w (Ok to) old new u = HasExpired g v w to old new u
IsAdvanced g v w (Err e) old new u = HasNotExpired g v w e old new u

-- in an advance up to a time only timers were tried that had a row before it
pub record TriesHeld (p : Part) (to : ℕ) (s : State) (es : List Entry) : Type 0 where
  pub now : ℤ
  pub tries : List Try
  pub held : HoldsEach p tries
  pub entries : es ≡ look_entry (Sched p.number) now ∷ (expiry_entries p.number tries ++ advanced_entry p.number to ∷ [])
