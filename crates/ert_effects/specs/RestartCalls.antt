-- What the call that gives an armed timer a new deadline records and answers.

use Rattle.std.specs.Prelude.{◌≡◌, ◌≢◌, ◌⊎◌, ℕ, ℤ, length, Bool, true, false, nat_lt, List, [], ◌∷◌, ◌++◌, Option, Some, None, Result, Ok, Err}
use Rattle.ert_defs.specs.{Entries.{look_entry, peek_entry, cancel_entry, arm_entry, mark_entry}, Legal.names_timer, Milliseconds.{natural, down, deadline_of}, States.State, Timers.use_of, declared.entry.Actor.TheVariants.Caller}
use Rattle.ert_defs.specs.{declared.entry.Entry.Entry, declared.settings.Settings.Settings, declared.timer.Start.Start, declared.timer.TimerRef.TimerRef}
use Rattle.ert_effects.specs.{TimerCalls.{AreProbes, Closes, IsBadArg, IsRoundTaken, Round}, declared.answers.RestartErr.RestartErr, declared.answers.RestartErr.TheVariants.{BadArg, NotArmed, Full}}

-- a timer is read, cancelled, and another is started on the wheel; then the exit of its destination is looked at, and what
-- follows from that
pub record IsRenewed (by wheel : ℕ) (timer : TimerRef) (start : Start) (next : TimerRef) (es : List Entry) : Type 0 where
  pub left : ℕ
  pub was : Bool
  pub closing : List Entry
  pub on_wheel : next.wheel ≡ wheel
  pub closes : Closes was by next closing
  pub entries : es ≡ peek_entry (Caller by) timer (Some left) ∷ (cancel_entry (Caller by) timer (Some left)
      ∷ (arm_entry by next start ∷ (mark_entry (Caller by) start.dest false was ∷ closing)))

-- a timer is read that isn't armed, or was settled by another before it could be cancelled
abbrev pub missed_entries : ℕ → TimerRef → Option ℕ → List Entry
missed_entries by timer None = peek_entry (Caller by) timer None ∷ []
missed_entries by timer (Some left) = peek_entry (Caller by) timer (Some left) ∷ (cancel_entry (Caller by) timer None ∷ [])

-- how a restart ends that has a slot or none: nothing is read of a reference out of range. Where there is none the timer
-- is read alone, and is armed
abbrev pub RestartEnds : Bool → ℕ → ℕ → TimerRef → Start → Result TimerRef RestartErr → List Entry → Type 0
RestartEnds false by wheel timer start answer es = (answer ≡ Err NotArmed) × (es ≡ [])
RestartEnds true by wheel timer start (Ok next) es = IsRenewed by wheel timer start next es
RestartEnds true by wheel timer start (Err BadArg) es = ⊥
RestartEnds true by wheel timer start (Err NotArmed) es = (found : Option ℕ) × (es ≡ missed_entries by timer found)
RestartEnds true by wheel timer start (Err Full) es = (left : ℕ) × (es ≡ peek_entry (Caller by) timer (Some left) ∷ [])

-- the next timer needs another slot than this one has: it is of another wheel, or the round of its slot has no use left
abbrev pub NeedsSlot : ℕ → TimerRef → Type 0
NeedsSlot wheel timer = (timer.wheel ≢ wheel) ⊎ (nat_lt (use_of timer.generation) 262143 ≡ false)

-- why a restart is refused for want of a slot: it needs another one, and there is none of those that it looked at; or the wheel
-- has had 2^53 timers
abbrev pub IsFullFor : Settings → ℕ → ℕ → TimerRef → ℕ → Result TimerRef RestartErr → State → List Entry → Type 0
IsFullFor g by wheel timer now (Err Full) s probes =
    (NeedsSlot wheel timer × ((round : Round g.slots g.looks) × IsRoundTaken by wheel now s round probes))
    ⊎ ((length (s.rows wheel) ≡ 9007199254740992) × (probes ≡ []))
IsFullFor g by wheel timer now answer s probes = Unit {0}

-- a start that has a deadline: a look, some probes, and how it ends
pub record HasRestarted (g : Settings) (by wheel : ℕ) (timer : TimerRef) (start : Start) (answer : Result TimerRef RestartErr) (s : State) (es : List Entry) : Type 0 where
  pub now : ℤ
  pub probes : List Entry
  pub end : List Entry
  pub accepted : deadline_of g start now ≢ None
  pub are_probes : AreProbes (Caller by) wheel probes
  pub ends : RestartEnds (names_timer g timer) by wheel timer start answer end
  pub full : IsFullFor g by wheel timer (natural (down g now)) answer s probes
  pub entries : es ≡ look_entry (Caller by) now ∷ (probes ++ end)

-- `restart`, with the new timer on a wheel (as `uv_timer_again` of libuv): Look; where the start has a
-- deadline by it and the reference is in range, any number of Probes, and Peek; where the timer is armed and
-- there is a slot, Cancel, and where that hit Arm, Mark, and what follows from it as in `start`. The answer:
-- the timer that was started; that the start has no deadline; that the timer was not armed; or that the wheel
-- is full, and then the timer is armed as before
abbrev pub Restarts : Settings → ℕ → ℕ → TimerRef → Start → Result TimerRef RestartErr → State → List Entry → Type 0
Restarts g by wheel timer start (Err BadArg) s es = IsBadArg g by start es
Restarts g by wheel timer start answer s es = HasRestarted g by wheel timer start answer s es
