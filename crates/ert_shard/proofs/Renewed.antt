-- A timer of a shard is given a new deadline.

use Rattle.std.proofs.Common.{Bool, true, false, ℕ, List, [], Option, Some, None, Result, Ok, Err}
use Rattle.ert_defs.specs.{Legal.names_timer, States.State, declared.entry.Actor.TheVariants.Caller, declared.entry.Entry.Entry, declared.settings.Settings.Settings, declared.timer.Start.Start, declared.timer.TimerRef.TimerRef}
use Rattle.ert_effects.specs.{RestartCalls.{HasRestarted, RestartEnds, Restarts, missed_entries}, declared.answers.RestartErr.RestartErr, declared.answers.RestartErr.TheVariants.{BadArg, NotArmed, Full}}
use Rattle.ert_shard.proofs.Home.{closing_home, home_append, home_as, probes_home}
use Rattle.ert_shard.specs.{Renewing.LetsGo, Shards.{AreHome, IsHome, Owned, Share}}
use Rattle.ert_timers.specs.Restarting.{HasLetGo}

missed_home : (s : Share) (by : ℕ) (timer : TimerRef) (found : Option ℕ) → AreHome s (missed_entries by timer found)
missed_home s by timer None = (tt, tt)
missed_home s by timer (Some left) = (tt, (tt, tt))

ends_home : (s : Share) (names : Bool) (by w : ℕ) (timer : TimerRef) (start : Start) (answer : Result TimerRef RestartErr) (es : List Entry) → IsHome s start.dest
    → RestartEnds names by w timer start answer es → AreHome s es
ends_home s false by w timer start answer es home ends = home_as s es [] ends.1 tt
ends_home s true by w timer start (Ok next) es home ends =
    home_as s es _ ends.entries (tt, (tt, (home, (tt, closing_home s ends.was by next ends.closing ends.closes))))
ends_home s true by w timer start (Err BadArg) es home ends = absurd ends
ends_home s true by w timer start (Err NotArmed) es home ends = home_as s es _ ends.1 (missed_home s by timer ends.0)
ends_home s true by w timer start (Err Full) es home ends = home_as s es _ ends.1 (tt, tt)

restarted_home : (s : Share) (g : Settings) (by w : ℕ) (timer : TimerRef) (start : Start) (answer : Result TimerRef RestartErr) → IsHome s start.dest
    → (st : State) (es : List Entry) → HasRestarted g by w timer start answer st es → AreHome s es
restarted_home s g by w timer start answer home st es has =
    home_as s es _ has.entries (
      tt,
      home_append s has.probes has.end (probes_home s (Caller by) w has.probes has.are_probes)
          (ends_home s (names_timer g timer) by w timer start answer has.end home has.ends),
    )

-- its start is for a process of the share
pub restarts_home : (s : Share) (g : Settings) (by w : ℕ) (timer : TimerRef) (start : Start) (answer : Result TimerRef RestartErr) → IsHome s start.dest
    → (st : State) (es : List Entry) → Restarts g by w timer start answer st es → AreHome s es
restarts_home s g by w timer start (Ok next) home st es restarts = restarted_home s g by w timer start (Ok next) home st es restarts
restarts_home s g by w timer start (Err BadArg) home st es refused = home_as s es _ refused.entries (tt, tt)
restarts_home s g by w timer start (Err NotArmed) home st es restarts = restarted_home s g by w timer start (Err NotArmed) home st es restarts
restarts_home s g by w timer start (Err Full) home st es restarts = restarted_home s g by w timer start (Err Full) home st es restarts

-- its wheel lets the old one go
pub lets_go : (o : Owned) (timer : TimerRef) (answer : Result TimerRef RestartErr) → HasLetGo timer answer o.wheel → LetsGo timer answer o
lets_go o timer (Ok next) gone = λ wheel held. gone held
lets_go o timer (Err e) gone = tt
