-- Timers that are due are tried, one after the other: so many at most, or all.

use Rattle.std.specs.Prelude.{◌≡◌, ℕ, ◌+◌, ◌≤◌, pos, List, ◌++◌, length, count_by, Option, Some, Result, Ok, Err}
use Rattle.std.specs.Option.{is_some}
use Rattle.ert_defs.specs.{Milliseconds.down, States.state, Timers.Row, declared.entry.Actor.TheVariants.Sched, declared.entry.Entry.Entry, declared.memory.NoMemory.NoMemory, declared.settings.Settings.Settings}
use Rattle.ert_effects.specs.{SomeCalls.{AreTried, AdvancesSome}, WheelCalls.{Try, expiry_entries, hits, AllMissesSettled, AllDue, AreOnce}, declared.answers.Left.Left, declared.answers.Left.TheVariants.{Nothing, Due, Moving}}
use Rattle.ert_table.specs.{Calls.IsMade, Takes.TakesPlace, declared.view.View.View}
use Rattle.ert_timers.specs.{ExpiredLists.Queue, Parts.{Part, PartStands}, Passed.{HoldsEach, HoldsNone, LosesRows, HasPassed}}
use Rattle.ert_wheel.specs.{FirstDue.HasMore, Rows.key_in, declared.row.Key.Key}

-- the expired timers of a scheduler after a history
abbrev pub expired_after : Settings → List Entry → ℕ → List Row
expired_after g h w = ((state g h).scheds w).expired

-- the part stands for a history, and this is the time of the scheduler's last look
pub record IsLooked (g : Settings) (h : List Entry) (p : Part) (to : ℕ) : Type 0 where
  pub stands : PartStands g h p
  pub told : pos to ≡ down g ((state g h).looked (Sched p.number))

-- so many timers were tried that are due by a time, and their rows went
pub record TriesRows (g : Settings) (v : View) (p q : Part) (to n : ℕ) (old new : Queue) (u : View) : Type 0 where
  pub tries : List Try
  pub gained : List Row
  pub tried : length tries ≡ n
  pub settled : AllMissesSettled tries
  pub due : AllDue ((state g v.front).rows p.number) to tries
  pub once : AreOnce tries
  pub held : HoldsEach p tries
  pub none : HoldsNone q tries
  pub loses : LosesRows p q
  pub fewer : count_by is_some q.keys + n ≡ count_by is_some p.keys
  pub rows : (state g u.front).rows p.number ≡ (state g v.front).rows p.number
  pub call : TakesPlace g v (expiry_entries p.number tries) u
  pub number : q.number ≡ p.number
  pub count : length gained ≡ hits tries
  pub expired : new.rows ≡ old.rows ++ gained
  pub waits : expired_after g u.front p.number ≡ expired_after g v.front p.number ++ gained

-- so many timers at most were tried, for which the part stands: just the most where more are due
pub record IsTriedSome (g : Settings) (v : View) (p q : Part) (to most : ℕ) (left : Left) (old new : Queue) (u : View) : Type 0 where
  pub count : ℕ
  pub tried : AreTried left most count
  pub done : TriesRows g v p q to count old new u
  pub looked : IsLooked g u.front q to

-- the time of a part's wheel goes on, and the rows stand in these buckets
abbrev pub come_to : Part → ℕ → List (Option ℕ) → Part
come_to p passed stands = record p { passed = passed; stands = stands }

-- some row is due by a time
pub record HasDue (p : Part) (to : ℕ) : Type 0 where
  pub slot : ℕ
  pub key : Key
  pub has : key_in p.keys slot ≡ Some key
  pub due : key.deadline ≤ to

-- what is left: a row that is due by a time, or nothing, and then the wheel has passed the time; or rows have to move first, before
-- the wheel comes to the time, or before the first of the rows that are due is known
abbrev pub IsLeft : Part → ℕ → Left → Type 0
IsLeft p to Nothing = HasPassed p to
IsLeft p to Due = HasDue p to
IsLeft p to Moving = HasMore p.keys p.stands p.passed to

-- so many rows fewer are held: just the most where more are due, and else so many at most
abbrev pub LosesSome : Left → ℕ → Part → Part → Type 0
LosesSome Nothing most p q = count_by is_some p.keys ≤ count_by is_some q.keys + most
LosesSome Due most p q = count_by is_some q.keys + most ≡ count_by is_some p.keys
LosesSome Moving most p q = count_by is_some p.keys ≤ count_by is_some q.keys + most

-- an advance with a bound: the timers that were tried had a row before it and have none after it, and those that expired
-- come last in the list, and in the scheduler's
pub record HasExpiredSome (g : Settings) (v : View) (p q : Part) (most to : ℕ) (left : Left) (old new : Queue) (u : View) : Type 0 where
  pub gained : List Row
  pub call : IsMade g v (AdvancesSome g p.number most (Ok (to, length gained, left))) u
  pub held : HoldsEach p call.allowed.tries
  pub none : HoldsNone q call.allowed.tries
  pub expired : new.rows ≡ old.rows ++ gained
  pub waits : expired_after g u.front p.number ≡ expired_after g v.front p.number ++ gained

-- out of memory: nothing was tried
pub record HasRefusedSome (g : Settings) (v : View) (w most : ℕ) (e : NoMemory) (old new : Queue) (u : View) : Type 0 where
  pub call : IsMade g v (AdvancesSome g w most (Err e)) u
  pub expired : new.rows ≡ old.rows

-- what comes of an advance with a bound, by the answer
abbrev pub IsAdvancedSome : Settings → View → Part → Part → ℕ → Result (ℕ × Left) NoMemory → Queue → Queue → View → Type 0
IsAdvancedSome g v p q most (Ok answer) old new u = HasExpiredSome g v p q most answer.0 answer.1 old new u
IsAdvancedSome g v p q most (Err e) old new u = HasRefusedSome g v p.number most e old new u
