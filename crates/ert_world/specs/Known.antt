-- What is known of a timer that was started. The function `started_timers_are_known` of src/laws.rt carries the laws as a
-- contract, so that they are proved.

use Rattle.std.specs.Prelude.{◌≡◌, ◌≢◌, ◌⊎◌, ℕ, Bool, true, List, ◌++◌, None, Ok}
use Rattle.ert_defs.specs.{Laws.has_settled, Legal.Legal, States.{State, state}, declared.entry.Actor.Actor, declared.entry.Entry.Entry, declared.settings.Settings.Settings, declared.timer.Start.Start, declared.timer.TimerRef.TimerRef}
use Rattle.ert_effects.specs.{TimerCalls.{Starts, Reads, Cancels}, Ways.{Way, alone, beside}}
use Rattle.ert_world.specs.Ways.{among}

-- a timer was started, whatever became of it
abbrev pub WasStarted : State → TimerRef → Type 0
WasStarted s timer = s.status timer ≢ None

-- a timer that was started in a beginning of a history was so in the history
abbrev pub LawOfStarted : Type 0
LawOfStarted = (g : Settings) (timer : TimerRef) (f m : List Entry) → Legal g (f ++ m) → WasStarted (state g f) timer
    → WasStarted (state g (f ++ m)) timer

-- who started a timer knows that
abbrev pub KnowsStarted : Settings → Way → Type 0
KnowsStarted g way = (by wheel : ℕ) (parts : List Actor) (start : Start) (timer : TimerRef) (f m : List Entry) → Legal g (f ++ m)
    → way parts (Starts g by wheel start (Ok timer)) f m → WasStarted (state g (f ++ m)) timer

-- where nothing was left of a timer that the caller knew to be started, by a cancel or a read, it has settled
abbrev pub NoneIsSettled : Settings → Way → Type 0
NoneIsSettled g way = (by : Actor) (parts : List Actor) (timer : TimerRef) (f m : List Entry) → Legal g (f ++ m) → WasStarted (state g f) timer
    → way parts (Cancels g by timer None) f m ⊎ way parts (Reads g by timer None) f m
    → has_settled ((state g (f ++ m)).status timer) ≡ true

-- so it is by one thread, beside others, and beside those whose entries fail a test: in the calls of a world, of a service, of
-- a seat and of a shard
abbrev pub LawOfKnownStarts : Type 0
LawOfKnownStarts = (g : Settings)
    → KnowsStarted g (alone g) × ((a : Actor) → KnowsStarted g (beside g a)) × ((own : Entry → Bool) → KnowsStarted g (among g own))

abbrev pub LawOfNone : Type 0
LawOfNone = (g : Settings)
    → NoneIsSettled g (alone g) × ((a : Actor) → NoneIsSettled g (beside g a)) × ((own : Entry → Bool) → NoneIsSettled g (among g own))
