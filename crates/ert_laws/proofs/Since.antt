-- The round of each slot has begun by the clock's time.

use Rattle.std.proofs.Common.{◌≡◌, ℕ, ℤ, pos, negsuc, ◌≤◌, Bool, true, false, cond, ◌&&◌, nat_eq, Option, refl, subst₂, arith, eqb-true}
use Rattle.std.proofs.lemmas.{Bool.and_parts, Int.ints}
use Rattle.std.specs.Prelude.{◌-ℤ◌, ◌≤ℤ◌}
use Rattle.ert_defs.specs.{Actors.has_actor, Legal.{Can, CanArm, Known}, Milliseconds.{natural, down, deadline_of}, States.{State, uses_at, opening, next}, Timers.{since_after, turned}, declared.entry.Actor.Actor}
use Rattle.ert_defs.specs.{declared.entry.Actor.TheVariants.Wheel, declared.entry.Entry.Entry, declared.entry.Event.Event, declared.entry.Event.TheVariants.Arm, declared.settings.Settings.Settings, declared.timer.TimerRef.TimerRef}
use Rattle.ert_defs.proofs.{Numbers.floor_rises, Runs.kept_from, Times.{KeepsBounds, kept_opening, kept_next, time_next}}
use Rattle.ert_laws.proofs.Looks.{IsLook, looks_next}
use Rattle.ert_laws.specs.ClockLaws.{LawOfRounds}

natural_rises : (x y : ℤ) → x ≤ℤ y → natural x ≤ natural y
natural_rises (pos n) (pos m) rises = omega (arith, ints, rises)
natural_rises (pos n) (negsuc m) rises = absurd (omega (arith, ints, rises))
natural_rises (negsuc n) y rises = omega arith

-- the whole milliseconds of a later time aren't fewer
pub milliseconds_rise : (g : Settings) (x y : ℤ) → x ≤ℤ y → natural (down g x) ≤ natural (down g y)
milliseconds_rise g x y rises =
    let later : (x -ℤ g.start) ≤ℤ (y -ℤ g.start) = omega (arith, ints, rises) in
    natural_rises (down g x) (down g y) (floor_rises (x -ℤ g.start) (y -ℤ g.start) later)

-- a slot that is armed by a look doesn't rest at that look
rested : (g : Settings) (s : State) (by : Actor) (timer : TimerRef) (deadline : Option ℕ) (w k : ℕ) → CanArm g s by timer deadline
    → (nat_eq timer.wheel w && nat_eq timer.slot k) ≡ true → (turned (uses_at s w k)).since ≤ natural (down g (s.looked by))
rested g s by timer deadline w k can is =
    let place = and_parts (nat_eq timer.wheel w) (nat_eq timer.slot k) is in
    let P : ℕ → ℕ → Type 0 = λ w k. (turned (uses_at s w k)).since ≤ natural (down g (s.looked by)) in
    subst₂ P (eqb-true timer.wheel w place.0) (eqb-true timer.slot k place.1) can.next_use.rested

-- a round that has begun by this time has so after a timer is armed, in this slot or another
since_arm : (g : Settings) (s : State) (by : Actor) (w k time : ℕ) (here : Bool) → (here ≡ true → (turned (uses_at s w k)).since ≤ time)
    → s.since w k ≤ time → cond here (turned (uses_at s w k)).since (s.since w k) ≤ time
since_arm g s by w k time true own begun = own refl
since_arm g s by w k time false own begun = begun

since_event : (g : Settings) (s : State) (by : Actor) (with : Option Actor) (w k : ℕ) (b : Bool) (event : Event) → Known g s by with event
    → natural (down g (s.looked by)) ≤ natural (down g s.clock.now) → s.since w k ≤ natural (down g s.clock.now)
    → cond b (since_after w k (uses_at s w k) event) (s.since w k) ≤ natural (down g s.clock.now)
since_event g s by with w k false event known look begun = begun
since_event g s by with w k true (Arm timer start) known look begun =
    since_arm g s by w k (natural (down g s.clock.now)) (nat_eq timer.wheel w && nat_eq timer.slot k)
    (λ is. let at = rested g s by timer (deadline_of g start (s.looked by)) w k known is in omega (arith, at, look)) begun
since_event g s by with w k true _ known look begun = begun

-- the clock is within its bounds, no look is of a time to come, and each round has begun by the time
record KeepsRounds (g : Settings) (s : State) : Type 0 where
  clock : KeepsBounds g s.clock
  looks : (a : Actor) → IsLook g s (s.looked a)
  begun : (w k : ℕ) → s.since w k ≤ natural (down g s.clock.now)

rounds_next : (g : Settings) (s : State) (e : Entry) → KeepsRounds g s → Can g s e → KeepsRounds g (next g s e)
rounds_next g s e h can =
    let rises = milliseconds_rise g s.clock.now (next g s e).clock.now (time_next g s e h.clock can) in
    let look = milliseconds_rise g (s.looked e.by) s.clock.now (h.looks e.by).high in
    record {
      clock = kept_next g s e h.clock can;
      looks = λ a. looks_next g s e a h.clock can (h.looks a);
      begun = λ w k.
          let at = since_event g s e.by e.with w k (has_actor e (Wheel w)) e.event can.known look (h.begun w k) in
          omega (arith, at, rises);
    }

-- the round of each slot has begun by the time
pub rounds_begun : LawOfRounds
rounds_begun g h w k checked legal =
    (kept_from g (KeepsRounds g) (rounds_next g) (opening g) h (record {
      clock = kept_opening g checked;
      looks = λ a. record { low = omega (arith, ints); high = omega (arith, ints) };
      begun = λ w k. omega arith;
    }) legal).begun w k
