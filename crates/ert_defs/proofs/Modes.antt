-- The offset keeps to the states of its mode, and each shift that is due is one that the mode permits.

use Rattle.std.proofs.Common.{◌≡◌, refl, cond, Bool, true, false, ◌&&◌, Option, Some, None, subst, List, [], ◌∷◌}
use Rattle.std.specs.Prelude.{ℤ, ◌-ℤ◌, nat_lt, unsigned_abs}
use borrow.Author.Tests.{ltb-true}
use Rattle.ert_defs.specs.{ClockMoves.{ShiftIs, OfLastTick}, Clocks.{Clock, Ticked, last_mono, last_base, clock_after, first_clock}, Legal.{Can, Known}, Lines.{Due, MayAct, is_due, due_from, first_state}, States.{State, state}}
use Rattle.ert_defs.specs.{declared.entry.Act.Act, declared.entry.Act.TheVariants.{Plain, Force, Finalize}, declared.entry.Actor.Actor, declared.entry.Entry.Entry, declared.entry.Event.Event, declared.entry.Event.TheVariants.{Tick, Shift}}
use Rattle.ert_defs.specs.{declared.settings.Mode.Mode, declared.settings.Mode.TheVariants.{No, Single, Multi}, declared.settings.OffsetState.OffsetState, declared.settings.OffsetState.TheVariants.{Preliminary, Final, Volatile}}
use Rattle.ert_defs.specs.{declared.settings.Settings.Settings}

-- the states that the offset has in each mode
abbrev pub IsOfMode : Mode → OffsetState → Type 0
IsOfMode No Final = Unit {0}
IsOfMode Single Preliminary = Unit {0}
IsOfMode Single Final = Unit {0}
IsOfMode Multi Volatile = Unit {0}
IsOfMode _ _ = ⊥

-- it begins in one of them
pub first_of_mode : (m : Mode) → IsOfMode m (first_state m)
first_of_mode No = tt
first_of_mode Single = tt
first_of_mode Multi = tt

-- something of the shift that is due, where there is one
abbrev pub WhereDue : (Due → Type 0) → Option Due → Type 0
WhereDue P None = Unit {0}
WhereDue P (Some d) = P d

-- where two tests make a shift due, both have passed
pub where_both : (P : Due → Type 0) (d : Due) (a b : Bool) → (a ≡ true → b ≡ true → P d)
    → WhereDue P (cond (a && b) (Some d) None)
where_both P d true true p = p refl refl
where_both P d true false p = tt
where_both P d false b p = tt

-- whether a check was due at a tick, by the ticks before it
abbrev pub was_due : Settings → Ticked → List Ticked → Bool
was_due g t ts = is_due g (last_base g ts) (last_mono g (t ∷ ts)) t.reading.sys

-- the shift that a tick makes due is one that the mode permits
pub due_is : (m : Mode) (g : Settings) (act : Act) (offset : ℤ) (state : OffsetState) (t : Ticked)
    (ts : List Ticked) → IsOfMode m state → MayAct act state → t.act ≡ act
    → WhereDue (λ d. ShiftIs m g offset state d.0 d.1 t ts)
    (due_from act (was_due g t ts) state (t.reading.sys -ℤ t.now) offset)
due_is No g Plain offset Final t ts of_mode may is = tt
due_is No g Force offset Final t ts of_mode may is = tt
due_is No g Finalize offset Final t ts of_mode may is = absurd (cc)
due_is Single g Plain offset Preliminary t ts of_mode may is = tt
due_is Single g Force offset Preliminary t ts of_mode may is = tt
due_is Single g Finalize offset Preliminary t ts of_mode may is = (refl, refl, is, refl)
due_is Single g Plain offset Final t ts of_mode may is = tt
due_is Single g Force offset Final t ts of_mode may is = tt
due_is Single g Finalize offset Final t ts of_mode may is = absurd (cc)
due_is Multi g Plain offset Volatile t ts of_mode may is =
    where_both (λ d. ShiftIs Multi g offset Volatile d.0 d.1 t ts) (t.reading.sys -ℤ t.now, Volatile) (was_due g t ts)
    (nat_lt 1000000 (unsigned_abs ((t.reading.sys -ℤ t.now) -ℤ offset)))
    (λ check far. (refl, refl, rw is check, refl, ltb-true _ _ far))
due_is Multi g Force offset Volatile t ts of_mode may is =
    where_both (λ d. ShiftIs Multi g offset Volatile d.0 d.1 t ts) (t.reading.sys -ℤ t.now, Volatile) true
    (nat_lt 1000000 (unsigned_abs ((t.reading.sys -ℤ t.now) -ℤ offset)))
    (λ check far. (refl, refl, rw is refl, refl, ltb-true _ _ far))
due_is Multi g Finalize offset Volatile t ts of_mode may is = absurd (cc)
due_is _ g act offset _ t ts of_mode may is = elim of_mode [ ]

-- the shift that is due is one that may follow the last tick
abbrev pub MayFollow : Settings → Clock → Option Due → Type 0
MayFollow g c due = WhereDue (λ d. OfLastTick (ShiftIs g.mode g c.offset c.state d.0 d.1) c.ticks) due

-- what a clock keeps of its mode: a state of it, and a due shift that it permits
pub record KeepsMode (g : Settings) (c : Clock) : Type 0 where
  pub state : IsOfMode g.mode c.state
  pub due : MayFollow g c c.due

-- it has them at the opening
pub mode_opening : (g : Settings) → KeepsMode g (first_clock g)
mode_opening g = record { state = first_of_mode g.mode; due = tt }

-- a shift that the mode permits is to a state of it
pub state_after : (m : Mode) (g : Settings) (from to : ℤ) (old new : OffsetState) (ticks : List Ticked)
    → IsOfMode m old → OfLastTick (ShiftIs m g from old to new) ticks → IsOfMode m new
state_after No g from to old new [] of_mode is = absurd is
state_after No g from to old new (t ∷ ts) of_mode is = absurd is
state_after Single g from to old new [] of_mode is = absurd is
state_after Single g from to old new (t ∷ ts) of_mode is = rw is.1 tt
state_after Multi g from to old new [] of_mode is = absurd is
state_after Multi g from to old new (t ∷ ts) of_mode is = rw is.1 tt

-- each event of the clock keeps it to its mode
pub mode_event : (g : Settings) (s : State) (by : Actor) (with : Option Actor) (event : Event)
    → KeepsMode g s.clock → Known g s by with event → KeepsMode g (clock_after g s.clock event)
mode_event g s by with (Tick reading act now) k known = record {
  state = k.state;
  due =
      due_is g.mode g act s.clock.offset s.clock.state
      (record { reading = reading; act = act; now = now; offset = s.clock.offset; state = s.clock.state })
      s.clock.ticks k.state known.1.may refl;
}
mode_event g s by with (Shift offset state) k known = record {
  state =
      state_after g.mode g s.clock.offset offset s.clock.state state s.clock.ticks k.state
      (subst (λ due. MayFollow g s.clock due) known k.due);
  due = tt;
}
mode_event g s by with _ k known = k

-- so does an entry, by the clock or not
pub mode_when : (b : Bool) (g : Settings) (s : State) (e : Entry) → KeepsMode g s.clock → Can g s e
    → KeepsMode g (cond b (clock_after g s.clock e.event) s.clock)
mode_when true g s e k can = mode_event g s e.by e.with e.event k can.known
mode_when false g s e k can = k
