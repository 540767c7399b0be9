-- What the threads of callers and of schedulers leave.

use Rattle.std.specs.Prelude.{◌≡◌, ℕ, ◌<◌, List, [], length, slice_index_or, IfOk, OnOk, Result, Ok}
use Rattle.ert_defs.specs.declared.{entry.Entry.Entry, memory.NoMemory.NoMemory, settings.Settings.Settings}
use Rattle.ert_ops.specs.{declared.op.Op.Op, Labels.Labels}
use Rattle.ert_service.specs.Joining.{AreNumbered}
use Rattle.ert_program.specs.{Workers.{DoesAll, TurnsSoOften}, declared.races.list.ListDone.ListDone}

-- the list of a number
abbrev pub list_at : List (List Op) → ℕ → List Op
list_at lists n = slice_index_or lists n []

-- a list was done, with what came of it
abbrev pub list_ok : ListDone → Result ListDone NoMemory
list_ok d = Ok d

-- the turns of a scheduler were made, whatever its seat
abbrev pub turns_ok : {S : Type 0} → S → Result (Unit {0}) NoMemory
turns_ok s = Ok tt

-- a caller has done its list, from the front of its pass on, unless there was no memory
pub record CallerWorked (g : Settings) (known : Labels) (lists : List (List Op)) (n : ℕ) (f : List Entry) (n_new : ℕ) (h : List Entry) (done : Result ListDone NoMemory) : Type 0 where
  pub number : n_new ≡ n
  pub does : IfOk done (λ d. DoesAll g n known (list_at lists n) d.replies.items d.own f h)

-- a scheduler has made its turns
pub record SchedWorked (g : Settings) (turns w : ℕ) (f : List Entry) (w_new : ℕ) (h : List Entry) (done : Result (Unit {0}) NoMemory) : Type 0 where
  pub number : w_new ≡ w
  pub turned : OnOk done (TurnsSoOften g w turns f h)

-- all callers have done their lists: their seats, and what came of the lists, in order of number
pub record ListsDone {S : Type 0} (number : S → ℕ) (front : S → List Entry) (g : Settings) (known : Labels) (lists : List (List Op)) (f : List Entry) (seats : List S) (dones : List ListDone) : Type 0 where
  pub numbered : AreNumbered number g.callers seats
  pub counted : length dones ≡ g.callers
  pub each : (k : ℕ) (s : S) (d : ListDone) → k < g.callers
      → DoesAll g k known (list_at lists k) (slice_index_or dones k d).replies.items (slice_index_or dones k d).own f (front (slice_index_or seats k s))

-- all schedulers have made their turns
pub record TurnsDone {S : Type 0} (number : S → ℕ) (front : S → List Entry) (g : Settings) (turns : ℕ) (f : List Entry) (seats : List S) : Type 0 where
  pub numbered : AreNumbered number g.schedulers seats
  pub each : (w : ℕ) (s : S) → w < g.schedulers → TurnsSoOften g w turns f (front (slice_index_or seats w s))
