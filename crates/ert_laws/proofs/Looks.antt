-- No look is of a time to come, and no timer expires early.

use Rattle.std.proofs.Common.{◌≡◌, refl, arith, cond, Bool, true, false, subst, List, [], ◌∷◌, ◌++◌}
use Rattle.std.proofs.lemmas.{Int.ints, List.Elements.Contains-append_right}
use Rattle.std.specs.Prelude.{ℤ, ◌-ℤ◌, ◌≤ℤ◌}
use Rattle.ert_defs.specs.{Actors.same_actor, Legal.{Can, Known, Found, LegalFrom, Legal, IsNext}, Milliseconds.down, Settings.IsChecked, States.{State, look_after, opening, next, run, state}, declared.entry.Actor.Actor}
use Rattle.ert_defs.specs.{declared.entry.Entry.Entry, declared.entry.Event.Event, declared.entry.Event.TheVariants.{Look, Expire}, declared.settings.Settings.Settings, declared.timer.TimerRef.TimerRef}
use Rattle.ert_defs.proofs.{Numbers.floor_rises, Runs.{legal_first, legal_then}, Times.{KeepsBounds, kept_opening, kept_next, time_next}}
use Rattle.ert_laws.specs.ClockLaws.{HasDeadlineCome}

-- a look is of no time to come, and of none before the start time
pub record IsLook (g : Settings) (s : State) (look : ℤ) : Type 0 where
  pub low : g.start ≤ℤ look
  pub high : look ≤ℤ s.clock.now

-- the last look of an actor is such a one after an event, which is the actor's own or not
pub look_event : (b : Bool) (g : Settings) (s : State) (by a : Actor) (event : Event) → KeepsBounds g s.clock
    → Found g s by event → IsLook g s (s.looked a) → IsLook g s (cond b (look_after (s.looked a) event) (s.looked a))
look_event false g s by a event k found look = look
look_event true g s by a (Look now) k found look =
    let low = k.sound.start in
    let high = k.sound.now in
    record { low = omega (arith, ints, found, low, high); high = omega (arith, ints, found) }
look_event true g s by a _ k found look = look

-- after a legal entry
pub looks_next : (g : Settings) (s : State) (e : Entry) (a : Actor) → KeepsBounds g s.clock → Can g s e
    → IsLook g s (s.looked a) → IsLook g (next g s e) ((next g s e).looked a)
looks_next g s e a k can look =
    let now = look_event (same_actor e.by a) g s e.by a e.event k can.found look in
    let up = time_next g s e k can in
    record { low = now.low; high = omega (arith, ints, now.high, up) }

-- after legal entries one after the other
pub looks_run : (g : Settings) (s : State) (h : List Entry) (a : Actor) → KeepsBounds g s.clock → LegalFrom g s h
    → IsLook g s (s.looked a) → IsLook g (run g s h) ((run g s h).looked a)
looks_run g s [] a k legal look = look
looks_run g s (e ∷ h) a k legal look =
    looks_run g (next g s e) h a (kept_next g s e k legal.0) legal.1 (looks_next g s e a k legal.0 look)

-- and after a legal history
pub looks : (g : Settings) (h : List Entry) (a : Actor) → IsChecked g → Legal g h
    → IsLook g (state g h) ((state g h).looked a)
looks g h a checked legal =
    looks_run g (opening g) h a (kept_opening g checked) legal
    (record { low = omega (arith, ints); high = omega (arith, ints) })

-- a timer that is due by a look is due by each later time
pub due_later : (g : Settings) (s : State) (by : Actor) (timer : TimerRef) → IsLook g s (s.looked by)
    → IsNext g s by timer → HasDeadlineCome g (s.rows timer.wheel) timer s.clock.now
due_later g s by timer look n =
    let later : (s.looked by -ℤ g.start) ≤ℤ (s.clock.now -ℤ g.start) = omega (arith, ints, look.high) in
    let rises : down g (s.looked by) ≤ℤ down g s.clock.now = floor_rises _ _ later in
    let due = n.due in
    record {
      row = n.row;
      stands = rw n.stands (Contains-append_right n.before (n.row ∷ n.behind) n.row (0, (omega arith), refl));
      named = n.named;
      due = omega (arith, ints, due, rises);
    }

-- no timer expires early
pub due_by_now : (g : Settings) (f : List Entry) (e : Entry) (timer : TimerRef) → IsChecked g → Legal g (f ++ e ∷ [])
    → e.event ≡ Expire timer → HasDeadlineCome g ((state g f).rows timer.wheel) timer (state g f).clock.now
due_by_now g f e timer checked legal is =
    let front = legal_first g (opening g) f (e ∷ []) legal in
    let can = legal_then g (opening g) f (e ∷ []) legal in
    due_later g (state g f) e.by timer (looks g f e.by checked front)
    (subst (Known g (state g f) e.by e.with) is can.0.known)
