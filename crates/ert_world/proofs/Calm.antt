-- What the calls that cancel no timer record: entries of their actors alone, and none that cancels.

use Rattle.std.proofs.Common.{◌≡◌, ℕ, ℤ, Bool, true, false, List, [], ◌∷◌, Option, Some, None, Result, Ok, Err, refl, sym, subst}
use Rattle.ert_clock.specs.{Ticks.tick_entries, declared.clock.ClockErr.ClockErr, declared.clock.ClockErr.TheVariants.{BadReading, OffsetWide}, declared.clock.Moved.Moved}
use Rattle.ert_effects.specs.{ClockCalls.{RefusesTick, ActsOnReading, Finalizes, FinalizesFrom, TellsTime, TellsOffset, TellsSystemTime}, MailCalls.{HandsOver, Takes, Monitors, Demonitors, Notifies}, RequestCalls.{Asks, Picks}}
use Rattle.ert_effects.specs.{TimerCalls.{Reads, read_entries}, WheelCalls.{TellsAlive, MarksExit}, declared.answers.Handed.Handed, declared.answers.Handed.TheVariants.{Put, Dropped}, declared.answers.MonitorErr.MonitorErr}
use Rattle.ert_effects.specs.{declared.answers.MonitorErr.TheVariants.{Full, NoMemory}, declared.answers.Taken.Taken, declared.answers.Taken.TheVariants.{Mail, Empty, Exited}}
use Rattle.ert_defs.specs.{Legal.names_timer, States.State, Timers.Row, declared.entry.Act.Act, declared.entry.Act.TheVariants.Finalize, declared.entry.Actor.Actor, declared.entry.Actor.TheVariants.{Keeper, Caller}}
use Rattle.ert_defs.specs.{declared.entry.Entry.Entry, declared.mail.Request.Request, declared.memory.NoMemory.NoMemory as OutOfMemory, declared.settings.OffsetState.OffsetState, declared.settings.OffsetState.TheVariants.Preliminary}
use Rattle.ert_defs.specs.{declared.settings.OffsetState.TheVariants.{Final, Volatile}, declared.settings.Reading.Reading, declared.settings.Settings.Settings, declared.timer.TimerRef.TimerRef}
use Rattle.ert_table.specs.Calls.{AreOnlyOf}
use Rattle.ert_table.proofs.Parts.{of_one, of_both}
use Rattle.ert_world.proofs.Armed.{AreCalm}

pub calm_as : (es fs : List Entry) → es ≡ fs → AreCalm fs → AreCalm es
calm_as es fs same calm = subst AreCalm (sym same) calm

pub takes_calm : (g : Settings) (by process : ℕ) (answer : Taken) (s : State) (es : List Entry) → Takes g by process answer s es → AreCalm es
takes_calm g by process Exited s es takes = calm_as es _ takes (refl, tt)
takes_calm g by process Empty s es takes = calm_as es _ takes (refl, (refl, tt))
takes_calm g by process (Mail mail) s es takes = calm_as es _ takes (refl, (refl, tt))

pub monitors_calm : (g : Settings) (by process : ℕ) (answer : Result ℕ MonitorErr) (s : State) (es : List Entry) → Monitors g by process answer s es
    → AreCalm es
monitors_calm g by process (Ok number) s es monitors = calm_as es _ monitors.entries (refl, tt)
monitors_calm g by process (Err Full) s es monitors = calm_as es _ monitors.entries (refl, tt)
monitors_calm g by process (Err NoMemory) s es monitors = calm_as es _ monitors tt

pub demonitors_calm : (g : Settings) (by process monitor : ℕ) (answer : Bool) (s : State) (es : List Entry) → Demonitors g by process monitor answer s es
    → AreCalm es
demonitors_calm g by process monitor answer s es demonitors = calm_as es _ demonitors (refl, tt)

pub notifies_calm : (g : Settings) (by process : ℕ) (answer : Result ℕ OutOfMemory) (s : State) (es : List Entry) → Notifies g by process answer s es → AreCalm es
notifies_calm g by process (Ok put) s es tells = calm_as es _ tells.entries (refl, tt)
notifies_calm g by process (Err e) s es tells = calm_as es _ tells tt

pub hands_calm : (g : Settings) (w : ℕ) (expired : Row) (answer : Result Handed OutOfMemory) (s : State) (es : List Entry) → HandsOver g w expired answer s es
    → AreCalm es
hands_calm g w expired (Ok Put) s es hands = calm_as es _ hands (refl, (refl, tt))
hands_calm g w expired (Ok Dropped) s es hands = calm_as es _ hands (refl, (refl, tt))
hands_calm g w expired (Err e) s es hands = calm_as es _ hands tt

pub asks_calm : (g : Settings) (by w : ℕ) (request : Request) (answer : Result (Unit {0}) OutOfMemory) (s : State) (es : List Entry)
    → Asks g by w request answer s es → AreCalm es
asks_calm g by w request (Ok _) s es asks = calm_as es _ asks (refl, tt)
asks_calm g by w request (Err e) s es asks = calm_as es _ asks tt

pub picks_calm : (g : Settings) (w : ℕ) (got : Option Request) (s : State) (es : List Entry) → Picks g w got s es → AreCalm es
picks_calm g w got s es picks = calm_as es _ picks (refl, tt)

-- the calls on the clock and on one timer that change no mailbox
pub record IsQuiet (actors : List Actor) (es : List Entry) : Type 0 where
  pub only : AreOnlyOf actors es
  pub calm : AreCalm es

pub quiet_as : (actors : List Actor) (es fs : List Entry) → es ≡ fs → IsQuiet actors fs → IsQuiet actors es
quiet_as actors es fs same quiet = subst (IsQuiet actors) (sym same) quiet

pub time_quiet : (g : Settings) (by : Actor) (answer : ℤ) (s : State) (es : List Entry) → TellsTime g by answer s es → IsQuiet (by ∷ []) es
time_quiet g by answer s es tells = quiet_as (by ∷ []) es _ tells (record { only = (of_one by [], tt); calm = (refl, tt) })

pub offset_quiet : (g : Settings) (by : Actor) (answer : ℤ × OffsetState) (s : State) (es : List Entry) → TellsOffset g by answer s es → IsQuiet (by ∷ []) es
offset_quiet g by answer s es tells = quiet_as (by ∷ []) es _ tells (record { only = (of_one by [], tt); calm = (refl, tt) })

pub system_quiet : (g : Settings) (by : Actor) (answer : ℤ) (s : State) (es : List Entry) → TellsSystemTime g by answer s es → IsQuiet (by ∷ []) es
system_quiet g by answer s es tells =
    quiet_as (by ∷ []) es _ tells.entries (record { only = (of_one by [], (of_one by [], tt)); calm = (refl, (refl, tt)) })

pub alive_quiet : (g : Settings) (by : Actor) (process : ℕ) (answer : Bool) (s : State) (es : List Entry) → TellsAlive g by process answer s es
    → IsQuiet (by ∷ []) es
alive_quiet g by process answer s es tells = quiet_as (by ∷ []) es _ tells (record { only = (of_one by [], tt); calm = (refl, tt) })

pub mark_quiet : (g : Settings) (by : Actor) (process : ℕ) (answer : Bool) (s : State) (es : List Entry) → MarksExit g by process answer s es
    → IsQuiet (by ∷ []) es
mark_quiet g by process answer s es marks = quiet_as (by ∷ []) es _ marks (record { only = (of_one by [], tt); calm = (refl, tt) })

read_some : (names : Bool) (by : Actor) (timer : TimerRef) (left : Option ℕ) → IsQuiet (by ∷ []) (read_entries names by timer left)
read_some false by timer left = record { only = tt; calm = tt }
read_some true by timer left = record { only = (of_one by [], tt); calm = (refl, tt) }

pub read_quiet : (g : Settings) (by : Actor) (timer : TimerRef) (answer : Option ℕ) (s : State) (es : List Entry) → Reads g by timer answer s es
    → IsQuiet (by ∷ []) es
read_quiet g by timer answer s es reads =
    let some = read_some (names_timer g timer) by timer answer in
    quiet_as (by ∷ []) es _ reads.entries (record { only = (of_one by [], some.only); calm = (refl, some.calm) })

abbrev ticking : ℕ → List Actor
ticking by = Keeper ∷ (Caller by ∷ [])

moves_quiet : (by : ℕ) (r : Reading) (act : Act) (now : ℤ) (shift : Option ℤ) → IsQuiet (ticking by) (tick_entries by r act now shift)
moves_quiet by r act now None = record { only = (of_both Keeper (Caller by), tt); calm = (refl, tt) }
moves_quiet by r act now (Some offset) =
    record { only = (of_both Keeper (Caller by), (of_both Keeper (Caller by), tt)); calm = (refl, (refl, tt)) }

refused_quiet : (g : Settings) (by : ℕ) (r : Reading) (act : Act) (e : ClockErr) (s : State) (es : List Entry) → RefusesTick g r act e s es
    → IsQuiet (ticking by) es
refused_quiet g by r act BadReading s es refused = quiet_as (ticking by) es [] refused.none (record { only = tt; calm = tt })
refused_quiet g by r act (OffsetWide value) s es refused = quiet_as (ticking by) es [] refused.none (record { only = tt; calm = tt })

pub acts_quiet : (g : Settings) (by : ℕ) (r : Reading) (act : Act) (answer : Result Moved ClockErr) (s : State) (es : List Entry)
    → ActsOnReading g by r act answer s es → IsQuiet (Keeper ∷ (Caller by ∷ [])) es
acts_quiet g by r act (Ok m) s es acts = quiet_as (ticking by) es _ acts.entries (moves_quiet by r act m.now m.shift)
acts_quiet g by r act (Err e) s es acts = refused_quiet g by r act e s es acts

from_quiet : (old : OffsetState) (g : Settings) (by : ℕ) (r : Reading) (m : Moved) (s : State) (es : List Entry) → FinalizesFrom old g by r m s es
    → IsQuiet (ticking by) es
from_quiet Preliminary g by r m s es from = quiet_as (ticking by) es _ from.entries (moves_quiet by r Finalize m.now m.shift)
from_quiet Final g by r m s es from = quiet_as (ticking by) es _ from.entries (record { only = (of_both Keeper (Caller by), tt); calm = (refl, tt) })
from_quiet Volatile g by r m s es from = quiet_as (ticking by) es _ from.entries (record { only = (of_both Keeper (Caller by), tt); calm = (refl, tt) })

pub finalizes_quiet : (g : Settings) (by : ℕ) (r : Reading) (answer : Result (OffsetState × Moved) ClockErr) (s : State) (es : List Entry)
    → Finalizes g by r answer s es → IsQuiet (Keeper ∷ (Caller by ∷ [])) es
finalizes_quiet g by r (Ok p) s es finalizes = from_quiet p.0 g by r p.1 s es finalizes.1
finalizes_quiet g by r (Err e) s es finalizes = refused_quiet g by r Finalize e s es finalizes
