-- Each entry of a call has the actor that makes the call.

use Rattle.std.proofs.Common.{◌≡◌, ℕ, Bool, true, false, List, [], ◌∷◌, ◌++◌, Option, Some, None, Result, Ok, Err, inl, inr, refl, sym, subst}
use Rattle.ert_effects.specs.{ClockCalls.{Ticks, Finalizes, FinalizesFrom, ActsOnReading}, MailCalls.{HandsOver, Takes, Monitors, Demonitors, Notifies}, RequestCalls.{Asks, Picks, Answers, DoesAsked}, TimerCalls.{Starts, AreProbes, Closes}}
use Rattle.ert_effects.specs.{TimerCalls.{read_entries, cancel_entries}, WheelCalls.{Advances, Sweeps, Try, expires_by, expiry_entries, orphans_by, orphan_entries}, declared.answers.Handed.Handed, declared.answers.Handed.TheVariants.Put}
use Rattle.ert_effects.specs.{declared.answers.Handed.TheVariants.Dropped, declared.answers.MonitorErr.MonitorErr, declared.answers.MonitorErr.TheVariants.{Full as MonitorsFull, NoMemory as WantForMonitor}}
use Rattle.ert_effects.specs.{declared.answers.StartErr.StartErr, declared.answers.StartErr.TheVariants.{BadArg, Full, NoMemory as WantForStart}, declared.answers.Taken.Taken, declared.answers.Taken.TheVariants.{Mail, Empty, Exited}}
use Rattle.ert_effects.proofs.Told.{round_probes}
use Rattle.ert_clock.specs.{Ticks.{shift_entries, act_of}, declared.clock.ClockErr.ClockErr, declared.clock.ClockErr.TheVariants.{BadReading, OffsetWide}, declared.clock.Moved.Moved}
use Rattle.ert_defs.specs.{Actors.has_actor, States.State, Timers.Row, declared.entry.Act.Act, declared.entry.Act.TheVariants.Finalize, declared.entry.Actor.Actor, declared.entry.Actor.TheVariants.{Caller, Sched}}
use Rattle.ert_defs.specs.{declared.entry.Entry.Entry, declared.mail.Request.Request, declared.mail.RequestKind.RequestKind, declared.mail.RequestKind.TheVariants.{Cancel as ToCancel, Read as ToRead}, declared.memory.NoMemory.NoMemory}
use Rattle.ert_defs.specs.{declared.settings.OffsetState.OffsetState, declared.settings.OffsetState.TheVariants.{Preliminary, Final, Volatile}, declared.settings.Reading.Reading, declared.settings.Settings.Settings}
use Rattle.ert_defs.specs.{declared.timer.Start.Start, declared.timer.Status.Status, declared.timer.TimerRef.TimerRef}
use Rattle.ert_table.proofs.Holders.{same_actor_self}
use Rattle.ert_locks.specs.Lent.{AllHave}

-- entries that are these
as_these : (a : Actor) (es fs : List Entry) → es ≡ fs → AllHave a fs → AllHave a es
as_these a es fs same have = subst (AllHave a) (sym same) have

have-append : (a : Actor) (es fs : List Entry) → AllHave a es → AllHave a fs → AllHave a (es ++ fs)
have-append a [] fs one other = other
have-append a (e ∷ es) fs one other = (one.0, have-append a es fs one.1 other)

shifts_have : (by : ℕ) (act : Act) (shift : Option _) → AllHave (Caller by) (shift_entries by act shift)
shifts_have by act None = tt
shifts_have by act (Some offset) = (same_actor_self (Caller by), tt)

acts_have : (g : Settings) (by : ℕ) (r : Reading) (act : Act) (answer : Result Moved ClockErr) (s : State) (es : List Entry)
    → ActsOnReading g by r act answer s es → AllHave (Caller by) es
acts_have g by r act (Ok m) s es acts = as_these (Caller by) es _ acts.entries (same_actor_self (Caller by), shifts_have by act m.shift)
acts_have g by r act (Err BadReading) s es acts = as_these (Caller by) es _ acts.none tt
acts_have g by r act (Err (OffsetWide value)) s es acts = as_these (Caller by) es _ acts.none tt

pub ticks_have : (g : Settings) (by : ℕ) (r : Reading) (force : Bool) (answer : Result Moved ClockErr) (s : State) (es : List Entry)
    → Ticks g by r force answer s es → AllHave (Caller by) es
ticks_have g by r force answer s es ticks = acts_have g by r (act_of force) answer s es ticks

final_have : (old : OffsetState) (g : Settings) (by : ℕ) (r : Reading) (m : Moved) (s : State) (es : List Entry)
    → FinalizesFrom old g by r m s es → AllHave (Caller by) es
final_have Preliminary g by r m s es from = as_these (Caller by) es _ from.entries (same_actor_self (Caller by), shifts_have by Finalize m.shift)
final_have Final g by r m s es from = as_these (Caller by) es _ from.entries (same_actor_self (Caller by), tt)
final_have Volatile g by r m s es from = as_these (Caller by) es _ from.entries (same_actor_self (Caller by), tt)

pub finalizes_have : (g : Settings) (by : ℕ) (r : Reading) (answer : Result (OffsetState × Moved) ClockErr) (s : State) (es : List Entry)
    → Finalizes g by r answer s es → AllHave (Caller by) es
finalizes_have g by r (Ok p) s es finalizes = final_have p.0 g by r p.1 s es finalizes.1
finalizes_have g by r (Err BadReading) s es refused = as_these (Caller by) es _ refused.none tt
finalizes_have g by r (Err (OffsetWide value)) s es refused = as_these (Caller by) es _ refused.none tt

probes_have : (by : Actor) (w : ℕ) (es : List Entry) → AreProbes by w es → AllHave by es
probes_have by w [] are = tt
probes_have by w (e ∷ es) are =
    (subst (λ (x : Entry). has_actor x by ≡ true) (sym are.2) ((rw (same_actor_self by) refl)), probes_have by w es are.3)

closing_have : (was : Bool) (by : ℕ) (timer : TimerRef) (es : List Entry) → Closes was by timer es → AllHave (Caller by) es
closing_have false by timer es closes = as_these (Caller by) es _ closes tt
closing_have true by timer es (inl hit) = as_these (Caller by) es _ hit ((rw (same_actor_self (Caller by)) refl), tt)
closing_have true by timer es (inr miss) = as_these (Caller by) es _ miss.entries ((rw (same_actor_self (Caller by)) refl), tt)

pub starts_have : (g : Settings) (by w : ℕ) (start : Start) (answer : Result TimerRef StartErr) (s : State) (es : List Entry)
    → Starts g by w start answer s es → AllHave (Caller by) es
starts_have g by w start (Ok timer) s es starts =
    as_these (Caller by) es _ starts.entries (
      (rw (same_actor_self (Caller by)) refl),
      have-append (Caller by) starts.probes _ (probes_have (Caller by) w starts.probes starts.are_probes) (
        (rw (same_actor_self (Caller by)) refl),
        ((rw (same_actor_self (Caller by)) refl), closing_have starts.was by timer starts.closing starts.closes),
      ),
    )
starts_have g by w start (Err BadArg) s es starts = as_these (Caller by) es _ starts.entries ((rw (same_actor_self (Caller by)) refl), tt)
starts_have g by w start (Err Full) s es starts =
    as_these (Caller by) es _ starts.entries (
      (rw (same_actor_self (Caller by)) refl),
      elim starts.are_taken [
        | inl found ↦ probes_have (Caller by) w starts.probes (round_probes by w _ s found.0 starts.probes found.1)
        | inr many ↦ as_these (Caller by) starts.probes _ many.1 tt
      ],
    )
starts_have g by w start (Err WantForStart) s es (inl none) = as_these (Caller by) es _ none tt
starts_have g by w start (Err WantForStart) s es (inr probed) =
    as_these (Caller by) es _ probed.entries ((rw (same_actor_self (Caller by)) refl), probes_have (Caller by) w probed.probes probed.are_probes)

tries_have : (w : ℕ) (tries : List Try) → AllHave (Sched w) (expiry_entries w tries)
tries_have w [] = tt
tries_have w (t ∷ tries) = (by_case t.missed, tries_have w tries)
  where
    by_case : (missed : Option (Option Status)) → has_actor (expires_by w t.timer missed) (Sched w) ≡ true
    by_case None = (rw (same_actor_self (Sched w)) refl)
    by_case (Some found) = (rw (same_actor_self (Sched w)) refl)

pub advances_have : (g : Settings) (w : ℕ) (answer : Result (ℕ × ℕ) NoMemory) (s : State) (es : List Entry) → Advances g w answer s es → AllHave (Sched w) es
advances_have g w (Ok answer) s es advances =
    as_these (Sched w) es _ advances.entries
    ((rw (same_actor_self (Sched w)) refl), have-append (Sched w) (expiry_entries w advances.tries) _ (tries_have w advances.tries) ((rw (same_actor_self (Sched w)) refl), tt))
advances_have g w (Err e) s es (inl none) = as_these (Sched w) es _ none tt
advances_have g w (Err e) s es (inr looked) = as_these (Sched w) es _ looked.1 ((rw (same_actor_self (Sched w)) refl), tt)

orphans_have : (by w : ℕ) (tries : List Try) → AllHave (Caller by) (orphan_entries by w tries)
orphans_have by w [] = tt
orphans_have by w (t ∷ tries) = (by_case t.missed, orphans_have by w tries)
  where
    by_case : (missed : Option (Option Status)) → has_actor (orphans_by by w t.timer missed) (Caller by) ≡ true
    by_case None = (rw (same_actor_self (Caller by)) refl)
    by_case (Some found) = (rw (same_actor_self (Caller by)) refl)

pub sweeps_have : (g : Settings) (by w process : ℕ) (s : State) (es : List Entry) → Sweeps g by w process s es → AllHave (Caller by) es
sweeps_have g by w process s es sweeps = as_these (Caller by) es _ sweeps.entries (orphans_have by w sweeps.tries)

pub asks_have : (g : Settings) (by w : ℕ) (request : Request) (answer : Result (Unit {0}) NoMemory) (s : State) (es : List Entry)
    → Asks g by w request answer s es → AllHave (Caller by) es
asks_have g by w request (Ok done) s es asks = as_these (Caller by) es _ asks ((rw (same_actor_self (Caller by)) refl), tt)
asks_have g by w request (Err e) s es asks = as_these (Caller by) es _ asks tt

pub picks_have : (g : Settings) (w : ℕ) (got : Option Request) (s : State) (es : List Entry) → Picks g w got s es → AllHave (Sched w) es
picks_have g w got s es picks = as_these (Sched w) es _ picks ((rw (same_actor_self (Sched w)) refl), tt)

read_have : (named : Bool) (by : Actor) (timer : TimerRef) (left : Option ℕ) → AllHave by (read_entries named by timer left)
read_have false by timer left = tt
read_have true by timer left = ((rw (same_actor_self by) refl), tt)

cancel_have : (named : Bool) (by : Actor) (timer : TimerRef) (found left : Option ℕ) → AllHave by (cancel_entries named by timer found left)
cancel_have false by timer found left = tt
cancel_have true by timer None left = ((rw (same_actor_self by) refl), tt)
cancel_have true by timer (Some n) left = ((rw (same_actor_self by) refl), ((rw (same_actor_self by) refl), tt))

asked_have : (kind : RequestKind) (g : Settings) (w : ℕ) (timer : TimerRef) (left : Option ℕ) (s : State) (es : List Entry)
    → DoesAsked kind g w timer left s es → AllHave (Sched w) es
asked_have ToCancel g w timer left s es does =
    as_these (Sched w) es _ does.entries ((rw (same_actor_self (Sched w)) refl), cancel_have _ (Sched w) timer does.found left)
asked_have ToRead g w timer left s es does =
    as_these (Sched w) es _ does.entries ((rw (same_actor_self (Sched w)) refl), read_have _ (Sched w) timer left)

pub answers_have : (g : Settings) (w : ℕ) (request : Request) (answer : Result (Option ℕ) NoMemory) (s : State) (es : List Entry)
    → Answers g w request answer s es → AllHave (Sched w) es
answers_have g w request (Ok left) s es answers =
    as_these (Sched w) es _ answers.entries
    (have-append (Sched w) answers.steps _ (asked_have request.kind g w request.timer left s answers.steps answers.done) ((rw (same_actor_self (Sched w)) refl), tt))
answers_have g w request (Err e) s es answers = as_these (Sched w) es _ answers tt

pub hands_have : (g : Settings) (w : ℕ) (expired : Row) (how : Result Handed NoMemory) (s : State) (es : List Entry)
    → HandsOver g w expired how s es → AllHave (Sched w) es
hands_have g w expired (Ok Put) s es hands = as_these (Sched w) es _ hands ((rw (same_actor_self (Sched w)) refl), ((rw (same_actor_self (Sched w)) refl), tt))
hands_have g w expired (Ok Dropped) s es hands = as_these (Sched w) es _ hands ((rw (same_actor_self (Sched w)) refl), ((rw (same_actor_self (Sched w)) refl), tt))
hands_have g w expired (Err e) s es hands = as_these (Sched w) es _ hands tt

pub takes_have : (g : Settings) (by p : ℕ) (answer : Taken) (s : State) (es : List Entry) → Takes g by p answer s es → AllHave (Caller by) es
takes_have g by p Exited s es takes = as_these (Caller by) es _ takes ((rw (same_actor_self (Caller by)) refl), tt)
takes_have g by p Empty s es takes = as_these (Caller by) es _ takes ((rw (same_actor_self (Caller by)) refl), ((rw (same_actor_self (Caller by)) refl), tt))
takes_have g by p (Mail mail) s es takes = as_these (Caller by) es _ takes ((rw (same_actor_self (Caller by)) refl), ((rw (same_actor_self (Caller by)) refl), tt))

pub monitors_have : (g : Settings) (by p : ℕ) (answer : Result ℕ MonitorErr) (s : State) (es : List Entry) → Monitors g by p answer s es
    → AllHave (Caller by) es
monitors_have g by p (Ok number) s es monitors = as_these (Caller by) es _ monitors.entries ((rw (same_actor_self (Caller by)) refl), tt)
monitors_have g by p (Err MonitorsFull) s es monitors = as_these (Caller by) es _ monitors.entries ((rw (same_actor_self (Caller by)) refl), tt)
monitors_have g by p (Err WantForMonitor) s es monitors = as_these (Caller by) es _ monitors tt

pub demonitors_have : (g : Settings) (by p monitor : ℕ) (answer : Bool) (s : State) (es : List Entry) → Demonitors g by p monitor answer s es
    → AllHave (Caller by) es
demonitors_have g by p monitor answer s es demonitors = as_these (Caller by) es _ demonitors ((rw (same_actor_self (Caller by)) refl), tt)

pub notifies_have : (g : Settings) (by p : ℕ) (answer : Result ℕ NoMemory) (s : State) (es : List Entry) → Notifies g by p answer s es → AllHave (Caller by) es
notifies_have g by p (Ok put) s es tells = as_these (Caller by) es _ tells.entries ((rw (same_actor_self (Caller by)) refl), tt)
notifies_have g by p (Err e) s es tells = as_these (Caller by) es _ tells tt
