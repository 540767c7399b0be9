-- A timer that is given a new deadline.

use Rattle.std.specs.Prelude.{◌≡◌, ◌<◌, ◌≤◌, ℕ, true, false, nat_lt, length, List, ◌++◌, Option, Some, None, Result, Ok, Err}
use Rattle.std.specs.FinSet as set
use Rattle.std.specs.Option.{IsSome}
use Rattle.ert_defs.specs.{Milliseconds.{natural, down, deadline_of}, States.{State, uses_at}, Timers.{is_taken, turned, use_of}, declared.entry.Actor.TheVariants.Caller, declared.entry.Entry.Entry, declared.settings.Settings.Settings}
use Rattle.ert_defs.specs.{declared.timer.Start.Start, declared.timer.TimerRef.TimerRef}
use Rattle.ert_effects.specs.{RestartCalls.{IsFullFor, RestartEnds}, TimerCalls.AreProbes, declared.answers.RestartErr.RestartErr}
use Rattle.ert_timers.specs.{Changes.{MayBecomeFree, has_uses}, Freeing.IsHeld, Looking.now_in, Parts.{Part, last_timer, slot_at}, Starting.IsUseFor, declared.looking.Ahead.Ahead, declared.part.Use.Use}
use Rattle.ert_wheel.specs.Rows.{key_in}

-- the row of a slot can give way to that of its next use: the slot's round has uses left, and the wheel can have more timers
pub record CanRenew (p : Part) (k : ℕ) : Type 0 where
  pub low : k < length p.slots
  pub held : IsSome (key_in p.keys k)
  pub away : set.contains p.free k ≡ false
  pub uses : has_uses (slot_at p.slots k) ≡ true
  pub few : p.arms < 9007199254740992

-- the next timer can have the slot of this one, where it is armed: it is of this wheel, its round has uses left, and the wheel
-- can have more timers
pub record MayStay (p : Part) (timer : TimerRef) : Type 0 where
  pub wheel : timer.wheel ≡ p.number
  pub uses : nat_lt (use_of timer.generation) 262143 ≡ true
  pub few : p.arms < 9007199254740992

-- a caller has just looked at the time, and this is what its start was told
pub record HasLooked (g : Settings) (s : State) (by : ℕ) (start : Start) (a : Ahead) : Type 0 where
  pub told : deadline_of g start (s.looked (Caller by)) ≡ Some a.deadline
  pub look : now_in a ≡ natural (down g (s.looked (Caller by)))
  pub clock : now_in a ≡ natural (down g s.clock.now)
  pub now : now_in a ≤ 8796093022207
  pub deadline : a.deadline ≤ 8796093022207

-- a slot was found for a start, with its next use
pub record HasSlotFor (g : Settings) (s : State) (by : ℕ) (p : Part) (slot : ℕ) (start : Start) (next : Use) : Type 0 where
  pub free : MayBecomeFree p slot
  pub usable : is_taken (s.status (last_timer p.number p.slots slot)) ≡ false
  pub coming : IsUseFor g s by p.number slot start next
  pub few : p.arms < 9007199254740992
  pub ready : (turned (uses_at s p.number slot)).since ≤ natural (down g s.clock.now)

-- how a restart ends that began with a look: some probes, and then its slot or none
pub record EndsAfter (g : Settings) (by wheel : ℕ) (timer : TimerRef) (start : Start) (now : ℕ) (answer : Result TimerRef RestartErr) (s : State) (es : List Entry) : Type 0 where
  pub probes : List Entry
  pub end : List Entry
  pub are_probes : AreProbes (Caller by) wheel probes
  pub ends : RestartEnds true by wheel timer start answer end
  pub full : IsFullFor g by wheel timer now answer s probes
  pub entries : es ≡ probes ++ end

-- an answer in two parts: why there is no name, or the name
abbrev pub refused_or : Option RestartErr → TimerRef → Result TimerRef RestartErr
refused_or None named = Ok named
refused_or (Some e) named = Err e

-- a part holds no row of the timer that was restarted, where another was started
abbrev pub HasLetGo : TimerRef → Result TimerRef RestartErr → Part → Type 0
HasLetGo timer (Ok next) p = IsHeld p timer → ⊥
HasLetGo timer (Err e) p = Unit {0}
