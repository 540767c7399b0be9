-- A judge that stands for a history stands for it with one more entry, once it has gone on by that.

use Rattle.std.proofs.Common.{◌≡◌, ℕ, refl, sym, ap, ◌∙◌, subst, Bool, true, false, cond, Option}
use Rattle.std.specs.Prelude.{◌||◌}
use Rattle.ert_defs.specs.{Actors.{same_actor, is_with}, Clocks.{Clock, face, clock_after}, Legal.Keeps, States.{State, uses_at}, declared.entry.Actor.Actor, declared.entry.Actor.TheVariants.Keeper, declared.entry.Event.Event}
use Rattle.ert_defs.specs.{declared.entry.Event.TheVariants.{Tick, Shift, Look, Off, Arm, Probe, Peek, Cancel, Expire, Orphan, Deliver, Drop, Mark, Advanced, Ask, Pick, Answer, Take, Unwatch, Watch, Tell}}
use Rattle.ert_defs.specs.{declared.settings.Settings.Settings, declared.timer.TimerRef.TimerRef}
use Rattle.ert_clock.specs.Faces.{face_of}
use Rattle.ert_judge.specs.{Shown.{ClockIs, ClockFollows, face_moved, due_moved}, declared.state.clock.Clock.Clock as KeptClock}

-- states of the same parts are one
pub same_states : (s t : State) → s.clock ≡ t.clock → ((a : Actor) → s.looked a ≡ t.looked a)
    → ((w : ℕ) → s.rows w ≡ t.rows w) → ((w k : ℕ) → uses_at s w k ≡ uses_at t w k)
    → ((r : TimerRef) → s.status r ≡ t.status r) → ((p : ℕ) → s.exited p ≡ t.exited p)
    → ((p : ℕ) → s.mails p ≡ t.mails p) → ((w : ℕ) → s.inboxes w ≡ t.inboxes w)
    → ((w : ℕ) → s.scheds w ≡ t.scheds w) → s ≡ t
same_states s t clock looked rows uses status exited mails inboxes scheds = λ i. record {
  clock = clock i;
  looked = λ a. looked a i;
  rows = λ w. rows w i;
  last = λ w k. (uses w k i).last;
  since = λ w k. (uses w k i).since;
  above = λ w k. (uses w k i).above;
  status = λ r. status r i;
  exited = λ p. exited p i;
  mails = λ p. mails p i;
  inboxes = λ w. inboxes w i;
  scheds = λ w. scheds w i;
}

-- of an entry that isn't made by an actor, it is one that it is made with
pub by_other : (by a : Actor) (with : Option Actor) → same_actor by a ≡ false → (same_actor by a || is_with with a) ≡ is_with with a
by_other by a with h = rw h refl

-- of one that isn't made with it, the one that it is made by
pub with_other : (by a : Actor) (with : Option Actor) → is_with with a ≡ false → (same_actor by a || is_with with a) ≡ same_actor by a
with_other by a with h = rw h (or_false (same_actor by a))
  where
    or_false : (b : Bool) → (b || false) ≡ b
    or_false true = refl
    or_false false = refl

same_either : {X : Type 0} (b : Bool) (x : X) → cond b x x ≡ x
same_either true x = refl
same_either false x = refl

-- the clock moves by the clock's events alone
clock_moves : (g : Settings) (c : Clock) (by : Actor) (with : Option Actor) (event : Event) → Keeps g by with event
    → cond (same_actor by Keeper || is_with with Keeper) (clock_after g c event) c ≡ clock_after g c event
clock_moves g c by with (Tick reading act now) k = rw k.0 refl
clock_moves g c by with (Shift offset new) k = rw k.0 refl
clock_moves g c by with (Look now) k = same_either (same_actor by Keeper || is_with with Keeper) c
clock_moves g c by with (Off offset new) k = same_either (same_actor by Keeper || is_with with Keeper) c
clock_moves g c by with (Arm timer start) k = same_either (same_actor by Keeper || is_with with Keeper) c
clock_moves g c by with (Probe wheel slot found) k = same_either (same_actor by Keeper || is_with with Keeper) c
clock_moves g c by with (Peek timer left) k = same_either (same_actor by Keeper || is_with with Keeper) c
clock_moves g c by with (Cancel timer left) k = same_either (same_actor by Keeper || is_with with Keeper) c
clock_moves g c by with (Expire timer) k = same_either (same_actor by Keeper || is_with with Keeper) c
clock_moves g c by with (Orphan timer) k = same_either (same_actor by Keeper || is_with with Keeper) c
clock_moves g c by with (Deliver timer) k = same_either (same_actor by Keeper || is_with with Keeper) c
clock_moves g c by with (Drop timer) k = same_either (same_actor by Keeper || is_with with Keeper) c
clock_moves g c by with (Mark process exits was) k = same_either (same_actor by Keeper || is_with with Keeper) c
clock_moves g c by with (Advanced wheel to) k = same_either (same_actor by Keeper || is_with with Keeper) c
clock_moves g c by with (Ask wheel request) k = same_either (same_actor by Keeper || is_with with Keeper) c
clock_moves g c by with (Pick wheel got) k = same_either (same_actor by Keeper || is_with with Keeper) c
clock_moves g c by with (Answer wheel left) k = same_either (same_actor by Keeper || is_with with Keeper) c
clock_moves g c by with (Take process got) k = same_either (same_actor by Keeper || is_with with Keeper) c
clock_moves g c by with (Unwatch process monitor was) k = same_either (same_actor by Keeper || is_with with Keeper) c
clock_moves g c by with (Watch process monitor offset) k = same_either (same_actor by Keeper || is_with with Keeper) c
clock_moves g c by with (Tell process offset) k = same_either (same_actor by Keeper || is_with with Keeper) c

-- what the clock shows after an event, and the shift that is due then
clock_shows : (g : Settings) (c : Clock) (event : Event)
    → (face g (clock_after g c event) ≡ face_moved g (face g c) event)
    × ((clock_after g c event).due ≡ due_moved g (face g c) c.due event)
clock_shows g c (Tick reading act now) = (refl, refl)
clock_shows g c (Shift offset new) = (refl, refl)
clock_shows g c (Look now) = (refl, refl)
clock_shows g c (Off offset new) = (refl, refl)
clock_shows g c (Arm timer start) = (refl, refl)
clock_shows g c (Probe wheel slot found) = (refl, refl)
clock_shows g c (Peek timer left) = (refl, refl)
clock_shows g c (Cancel timer left) = (refl, refl)
clock_shows g c (Expire timer) = (refl, refl)
clock_shows g c (Orphan timer) = (refl, refl)
clock_shows g c (Deliver timer) = (refl, refl)
clock_shows g c (Drop timer) = (refl, refl)
clock_shows g c (Mark process exits was) = (refl, refl)
clock_shows g c (Advanced wheel to) = (refl, refl)
clock_shows g c (Ask wheel request) = (refl, refl)
clock_shows g c (Pick wheel got) = (refl, refl)
clock_shows g c (Answer wheel left) = (refl, refl)
clock_shows g c (Take process got) = (refl, refl)
clock_shows g c (Unwatch process monitor was) = (refl, refl)
clock_shows g c (Watch process monitor offset) = (refl, refl)
clock_shows g c (Tell process offset) = (refl, refl)

-- the numbers of a judge's clock stay those of the clock
pub clock_stands : (g : Settings) (c : Clock) (by : Actor) (with : Option Actor) (event : Event) (old new : KeptClock)
    → Keeps g by with event → ClockIs g c old → ClockFollows g old event new
    → ClockIs g (cond (same_actor by Keeper || is_with with Keeper) (clock_after g c event) c) new
clock_stands g c by with event old new keeps is follows =
    let shows = clock_shows g c event in
    let moved : ClockIs g (clock_after g c event) new = record {
      face = shows.0 ∙ ap (λ f. face_moved g f event) is.face ∙ sym follows.face;
      due = shows.1 ∙ ap (λ f. due_moved g f c.due event) is.face ∙ ap (λ d. due_moved g (face_of old.face) d event) is.due
          ∙ sym follows.due;
    } in
    let P : Clock → Type 0 = λ x. ClockIs g x new in
    subst P (sym (clock_moves g c by with event keeps)) moved
