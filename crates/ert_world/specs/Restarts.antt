-- What a world tells of a start that has no deadline, and of a timer that was given a new one.

use Rattle.std.specs.Prelude.{◌≡◌, ℕ, cond, nat_lt, None, Result, Ok, Err}
use Rattle.ert_defs.specs.{Milliseconds.deadline_of, declared.settings.Settings.Settings, declared.timer.Start.Start, declared.timer.TimerRef.TimerRef}
use Rattle.ert_effects.specs.declared.answers.RestartErr.{RestartErr}
use Rattle.ert_world.specs.Worlds.{Seen, HasForgotten}

-- a start has no deadline at the time that the clock of a world shows
abbrev pub HasNoDeadline : Seen → Start → Type 0
HasNoDeadline w start = deadline_of w.settings start w.clock.face.time ≡ None

-- the wheel of a timer, or the first one where there is none of its number
abbrev pub wheel_for : Settings → TimerRef → ℕ
wheel_for g timer = cond (nat_lt timer.wheel g.schedulers) timer.wheel 0

-- the wheels of a world hold no row of the timer that was restarted, where another was started
abbrev pub Forgets : TimerRef → Result TimerRef RestartErr → Seen → Type 0
Forgets timer (Ok next) w = HasForgotten w timer
Forgets timer (Err e) w = Unit {0}
