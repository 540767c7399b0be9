-- A start that searches for a slot, and a slot that it finds at once.

use Rattle.std.proofs.Common.{◌≡◌, ◌≢◌, ℕ, ◌<◌, ◌≤◌, true, false, Option, None, Some, inl, inr, refl, arith}
use Rattle.std.proofs.lemmas.Bool.{cases_Bool}
use Rattle.ert_defs.specs.{Entries.look_entry, States.{uses_at, state}, Timers.turned, declared.entry.Actor.TheVariants.{Wheel, Caller}, declared.entry.Entry.Entry, declared.settings.Settings.Settings, declared.timer.Start.Start}
use Rattle.ert_laws.specs.Counts.{is_arm}
use Rattle.ert_table.specs.{Held.is_held, Takes.Appends, declared.view.View.View}
use Rattle.ert_timers.specs.{Changes.is_resting, Looking.{LooksAhead, now_in}, Parts.{HoldsCaller, Part, PartStands, slot_at, last_timer}, Searching.{CanTake, HasOpenSlot}, Starting.TakesSlot, declared.looking.Ahead.Ahead}
use Rattle.ert_timers.proofs.{Later.later_step, Resting.rests_by, Standing.{clock_at, clock_stepped, same_since}, Starts.{ahead_stands, now_is}}

-- a slot that can take a timer still can after a step that arms none
pub can_stays : (g : Settings) (v : View) (e : Entry) (u : View) (p : Part) (k : ℕ) → PartStands g v.front p → is_held v.actors (Wheel p.number) ≡ true
    → Appends g v e u → is_arm e.event ≡ false → CanTake g (state g v.front) p k → CanTake g (state g u.front) p k
can_stays g v e u p k stands held step unmet can =
    let later = later_step g v e u p.number step held unmet in
    record {
      low = can.low;
      untaken = later.free (last_timer p.number p.slots k) refl can.untaken;
      rested = same_since (uses_at (state g v.front) p.number k) (uses_at (state g u.front) p.number k) (clock_at g (state g v.front))
          (clock_at g (state g u.front)) (later.uses k) (clock_stepped g v e u stands.checked step) can.rested;
    }

-- and it doesn't rest
pub can_awake : (g : Settings) (v : View) (p : Part) (k now : ℕ) → PartStands g v.front p → CanTake g (state g v.front) p k
    → clock_at g (state g v.front) ≤ now → is_resting (slot_at p.slots k) now ≡ false
can_awake g v p k now stands can past = elim (cases_Bool (is_resting (slot_at p.slots k) now)) [
  | inl rests ↦
      (let low : k < g.slots = omega (arith, can.low, stands.holds.many) in
      let late : now < (turned (uses_at (state g v.front) p.number k)).since =
      rests_by (state g v.front) p.number k now (slot_at p.slots k) (stands.holds.lasts k low) (stands.holds.aboves k low) rests in
      absurd (omega (arith, late, can.rested, past)))
  | inr awake ↦ awake
]

-- a start finds one where the slot at which its looks begin can take a timer
pub finds_open : (g : Settings) (v : View) (by : ℕ) (p q : Part) (start : Start) (ahead : Option Ahead) (a : Ahead) (slot : Option ℕ) (u x : View)
    → PartStands g v.front p → HoldsCaller g v by p.number → ahead ≡ Some a → LooksAhead g v by start ahead u → TakesSlot g u by (now_in a) p q slot x
    → HasOpenSlot g (state g v.front) p → slot ≢ None
finds_open g v by p q start ahead a slot u x stands holds has looks takes is =
    let can : CanTake g (state g u.front) p p.next_look =
    can_stays g v (look_entry (Caller by) looks.now) u p p.next_look stands holds.wheel looks.step refl is.can in
    let now = now_is g v by start ahead a u has looks in
    takes.meets can.low can.untaken
    (can_awake g u p p.next_look (now_in a) (ahead_stands g v by start ahead u p stands holds looks) can (omega (arith, now)))
