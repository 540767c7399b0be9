-- The first slot that a look at all finds free.

use Rattle.std.proofs.Common.{◌≡◌, ℕ, ◌<◌, ◌≤◌, Bool, true, false, nat_lt, if◌then◌else◌, [], ◌∷◌, ◌++◌, length, Option, Some, None, refl, sym, ap, subst, ◌∙◌, arith}
use Rattle.std.proofs.lemmas.Bool.Decides.{nat_tests}
use Rattle.ert_table.proofs.Looks.{can_step}
use Rattle.ert_defs.specs.{Entries.{look_entry, probe_entry}, Legal.Legal, Milliseconds.{natural, down}, Settings.IsChecked, States.state, Timers.is_taken, declared.entry.Actor.Actor, declared.entry.Actor.TheVariants.Caller}
use Rattle.ert_defs.specs.{declared.entry.Entry.Entry, declared.settings.Settings.Settings, declared.timer.Status.Status}
use Rattle.ert_effects.specs.{RoomCalls.with_slot, declared.answers.Room.Room}
use Rattle.ert_laws.proofs.Since.{rounds_begun}
use Rattle.ert_table.specs.{Takes.Appends, declared.view.View.View}
use Rattle.ert_timers.specs.{Changes.is_resting, Looking.LooksDown, Parts.{HoldsCaller, Part, PartStands, slot_at}, Rooms.{FindsFree, SeesSlot, first_with}, Searching.{CanTake, HasOpenSlot}}
use Rattle.ert_timers.proofs.{Lookings.found_is, Resting.{later_awake, rested_by}, Searched.can_stays, Standing.{clock_at, clock_rises, clock_stepped, stands_step}}

-- the clock shows no earlier time than was looked at
pub looked_past : (g : Settings) (v : View) (by : Actor) (now : ℕ) (u : View) → IsChecked g → LooksDown g v by now u → now ≤ clock_at g (state g u.front)
looked_past g v by now u checked looks =
    let e : Entry = look_entry by looks.now in
    let step = looks.step in
    let found : looks.now ≡ (state g (v.front ++ step.between)).clock.now = (can_step g v e u step).found in
    let rises = subst (λ h. clock_at g (state g (v.front ++ step.between)) ≤ clock_at g (state g h)) (sym step.grown)
    (clock_rises g (v.front ++ step.between) (e ∷ []) checked (subst (Legal g) step.grown step.legal)) in
    omega (arith, rises, ap natural looks.told, ap (λ x. natural (down g x)) found)

-- a slot is counted that isn't taken and doesn't rest, and no other
counted : (taken rests : Bool) (since : ℕ) (before room : Room) → room ≡ with_slot taken rests since before → before.free ≡ 0 → 0 < room.free
    → (taken ≡ false) × (rests ≡ false)
counted true rests since before room told none some = absurd (omega (arith, some, ap (λ (r : Room). r.free) told, none))
counted false true since before room told none some = absurd (omega (arith, some, ap (λ (r : Room). r.free) told, none))
counted false false since before room told none some = (refl, refl)

-- a slot that was found free can take a timer
found_open : (g : Settings) (v : View) (by now : ℕ) (p : Part) (k : ℕ) (found : Option Status) (u : View) → PartStands g v.front p
    → HoldsCaller g v by p.number → now ≤ clock_at g (state g v.front) → k < length p.slots → Appends g v (probe_entry (Caller by) p.number k found) u
    → is_taken found ≡ false → is_resting (slot_at p.slots k) now ≡ false → CanTake g (state g u.front) p k
found_open g v by now p k found u stands holds past low step none awake =
    let e : Entry = probe_entry (Caller by) p.number k found in
    let below : k < g.slots = omega (arith, low, stands.holds.many) in
    let later : PartStands g u.front p = stands_step g v e u p stands step holds.wheel (record { arm = refl; expire = refl; orphan = refl }) in
    let time : ℕ = clock_at g (state g u.front) in
    record {
      low = low;
      untaken = ap is_taken (sym (found_is g v (Caller by) p k found u stands holds.wheel below step)) ∙ none;
      rested = rested_by (state g u.front) p.number k time (slot_at p.slots k) (later.holds.lasts k below) (later.holds.aboves k below)
          (rounds_begun g u.front p.number k later.checked later.legal)
          (later_awake (slot_at p.slots k) now time (omega (arith, past, clock_stepped g v e u stands.checked step)) awake);
    }

-- one slot more
pub finds_more : (g : Settings) (v : View) (by now : ℕ) (p : Part) (n : ℕ) (before room : Room) (first next : Option ℕ) (u : View) → PartStands g v.front p
    → HoldsCaller g v by p.number → now ≤ clock_at g (state g v.front) → n < length p.slots → FindsFree g (state g v.front) p before first
    → SeesSlot g v by now p n before room u → next ≡ first_with first n room.free → FindsFree g (state g u.front) p room next
finds_more g v by now p n before room (Some k) next u stands holds past low finds one is =
    subst (FindsFree g (state g u.front) p room) (sym is)
    (can_stays g v (probe_entry (Caller by) p.number n one.found) u p k stands holds.wheel one.step refl finds)
finds_more g v by now p n before room None next u stands holds past low finds one is =
    subst (FindsFree g (state g u.front) p room) (sym is) (at (nat_lt 0 room.free) refl)
  where
    at : (b : Bool) → nat_lt 0 room.free ≡ b → FindsFree g (state g u.front) p room (if b then Some n else None)
    at true some =
        let free = counted (is_taken one.found) (is_resting (slot_at p.slots n) now) (slot_at p.slots n).above before room one.told finds (grind (arith, nat_tests)) in
        found_open g v by now p n one.found u stands holds past low one.step free.0 free.1
    at false none = (let few : room.free ≡ 0 = grind (arith, nat_tests) in few)

-- the looks begin at it
pub opened : (g : Settings) (h : _) (p q : Part) (seen : Room) (first : Option ℕ) (next : ℕ) → FindsFree g (state g h) p seen first → 0 < seen.free
    → p.arms < 9007199254740992 → q ≡ record p { next_look = next } → ((k : ℕ) → first ≡ Some k → next ≡ k) → HasOpenSlot g (state g h) q
opened g h p q seen None next finds some few is begins = absurd (omega (arith, finds, some))
opened g h p q seen (Some k) next finds some few is begins =
    subst (λ (x : Part). HasOpenSlot g (state g h) x) (sym is)
    (record {
      can = subst (λ n. CanTake g (state g h) (record p { next_look = next }) n) (sym (begins k refl))
          (record { low = finds.low; untaken = finds.untaken; rested = finds.rested });
      few = few;
    })
