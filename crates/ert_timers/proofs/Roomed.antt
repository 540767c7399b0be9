-- A look at how much room a wheel has, step by step.

use Rattle.std.proofs.Common.{◌≡◌, ℕ, zero, suc, ◌+◌, ◌<◌, ◌≤◌, Bool, true, false, nat_lt, List, [], ◌∷◌, ◌++◌, length, Option, refl, sym, ap, subst, ◌∙◌, arith, length-append}
use Rattle.std.proofs.lemmas.Bool.Decides.{nat_tests}
use Rattle.ert_defs.specs.{Entries.{look_entry, probe_entry}, Legal.Legal, Milliseconds.{natural, down}, States.{State, uses_at, opening, state}, Timers.{turned, is_taken}, declared.entry.Actor.TheVariants.Caller}
use Rattle.ert_defs.specs.{declared.entry.Entry.Entry, declared.settings.Settings.Settings, declared.timer.Status.Status}
use Rattle.ert_defs.proofs.Runs.{legal_first}
use Rattle.ert_effects.specs.{RoomCalls.{ShowsRoom, TellsRoom, no_room, room_with, with_slot, with_found}, declared.answers.Room.Room}
use Rattle.ert_table.proofs.{Looks.can_step, Calls.{step_takes_place, takes_place_then}}
use Rattle.ert_laws.proofs.Since.{rounds_begun}
use Rattle.ert_table.specs.{Calls.IsMade, Takes.{Appends, TakesPlace}, declared.view.View.View}
use Rattle.ert_timers.specs.{Changes.is_resting, Looking.LooksDown, Parts.{HoldsCaller, Part, PartStands, slot_at}, Rooms.{SeesSlot, SeesSome, SeesAll, room_after}, Starting.probes_from, Slots.Slot}
use Rattle.ert_timers.proofs.{Rounds.probes-push, Resting.{rested_by, resting_since}, Standing.{clock_at, clock_rises, stands_step}}

-- what a slot is found to be by what is kept of it is what the model says
found_by : (s : State) (w k now : ℕ) (slot : Slot) (found : Option Status) (room : Room) → slot.generation ≡ s.last w k → slot.above ≡ s.above w k
    → s.since w k ≤ now → with_slot (is_taken found) (is_resting slot now) slot.above room ≡ with_found s now w k found room
found_by s w k now slot found room last above begun = at (is_resting slot now) refl
  where
    at : (b : Bool) → is_resting slot now ≡ b
        → with_slot (is_taken found) b slot.above room ≡ with_found s now w k found room
    at true rests =
        let since : (turned (uses_at s w k)).since ≡ slot.above = (resting_since s w k now slot last above rests).0 in
        let less : now < slot.above = (resting_since s w k now slot last above rests).1 in
        let later : nat_lt now slot.above ≡ true = grind (arith, nat_tests) in
        ap (λ b. with_slot (is_taken found) b slot.above room) (sym later)
        ∙ ap (λ n. with_slot (is_taken found) (nat_lt now n) n room) (sym since)
    at false free =
        let since : ℕ = (turned (uses_at s w k)).since in
        let low : since ≤ now = rested_by s w k now slot last above begun free in
        let none : nat_lt now since ≡ false = not_less now since low in
        other (is_taken found) slot.above since ∙ ap (λ b. with_slot (is_taken found) b since room) (sym none)
      where
        other : (taken : Bool) (n m : ℕ) → with_slot taken false n room ≡ with_slot taken false m room
        other true n m = refl
        other false n m = refl

        not_less : (n m : ℕ) → m ≤ n → nat_lt n m ≡ false
        not_less n m high = grind (arith, nat_tests)

-- one found more
after-push : (s : State) (now w k : ℕ) (founds : List (Option Status)) (found : Option Status) (room : Room)
    → room_after s now w k (founds ++ found ∷ []) room ≡ with_found s now w (k + length founds) found (room_after s now w k founds room)
after-push s now w k [] found room =
    let e : k ≡ k + 0 = omega arith in
    ap (λ n. with_found s now w n found room) e
after-push s now w k (x ∷ founds) found room =
    let e : (k + 1) + length founds ≡ k + suc (length founds) = omega arith in
    after-push s now w (k + 1) founds found (with_found s now w k x room)
    ∙ ap (λ n. with_found s now w n found (room_after s now w (k + 1) founds (with_found s now w k x room))) e

-- what is known in the end is what the entries show
shows : (by w now : ℕ) (s : State) (k n : ℕ) (founds : List (Option Status)) (before : Room) → length founds ≡ n
    → ShowsRoom by w now s k n before (room_after s now w k founds before) (probes_from by w k founds)
shows by w now s k zero [] before count = (refl, refl)
shows by w now s k (suc n) [] before count = absurd (omega (arith, count))
shows by w now s k zero (found ∷ founds) before count = absurd (omega (arith, count))
shows by w now s k (suc n) (found ∷ founds) before count =
    let e : k + 1 ≡ suc k = omega arith in
    let next : Room = with_found s now w k found before in (
      found,
      probes_from by w (k + 1) founds,
      refl,
      subst (λ m. ShowsRoom by w now s m n next (room_after s now w (k + 1) founds next) (probes_from by w (k + 1) founds)) e
          (shows by w now s (k + 1) n founds next (omega (arith, count))),
    )

-- by its look the round of each slot has begun
looked_begun : (g : Settings) (v : View) (by looked : _) (p : Part) (u : View) → PartStands g v.front p → Appends g v (look_entry (Caller by) looked) u
    → (k : ℕ) → (state g v.front).since p.number k ≤ natural (down g looked)
looked_begun g v by looked p u stands step k =
    let e : Entry = look_entry (Caller by) looked in
    let found : looked ≡ (state g (v.front ++ step.between)).clock.now = (can_step g v e u step).found in
    let legal : Legal g (v.front ++ step.between) =
    legal_first g (opening g) (v.front ++ step.between) (e ∷ []) (subst (Legal g) step.grown step.legal) in
    subst (λ x. (state g v.front).since p.number k ≤ natural (down g x)) (sym found)
    (no_more ((state g v.front).since p.number k) (clock_at g (state g v.front)) (clock_at g (state g (v.front ++ step.between)))
    (rounds_begun g v.front p.number k stands.checked stands.legal) (clock_rises g v.front step.between stands.checked legal))
  where
    no_more : (a b c : ℕ) → a ≤ b → b ≤ c → a ≤ c
    no_more a b c low high = omega (arith, low, high)

-- a look at the time, and none at a slot
pub sees_none : (g : Settings) (v : View) (by now : ℕ) (p : Part) (u : View) → PartStands g v.front p → HoldsCaller g v by p.number
    → LooksDown g v (Caller by) now u → SeesSome g v by now p 0 no_room u
sees_none g v by now p u stands holds looks =
    let e : Entry = look_entry (Caller by) looks.now in
    record {
      looked = looks.now;
      founds = [];
      down_to = looks.told;
      begun = λ k. subst (λ n. (state g v.front).since p.number k ≤ n) (sym (ap natural looks.told))
          (looked_begun g v by looks.now p u stands looks.step k);
      call = step_takes_place g v e u looks.step;
      count = refl;
      stands = stands_step g v e u p stands looks.step holds.wheel (record { arm = refl; expire = refl; orphan = refl });
      told = refl;
      few = omega arith;
    }

-- one slot more
pub sees_more : (g : Settings) (v : View) (by now : ℕ) (p : Part) (n : ℕ) (before room : Room) (u w : View) → PartStands g v.front p → n < g.slots
    → SeesSome g v by now p n before u → HoldsCaller g u by p.number → SeesSlot g u by now p n before room w → room.free ≤ n + 1
    → SeesSome g v by now p (n + 1) room w
sees_more g v by now p n before room u w stands low some holds one few =
    let s : State = state g v.front in
    let m : ℕ = p.number in
    let e : Entry = probe_entry (Caller by) m n one.found in
    let slot : Slot = slot_at p.slots n in
    let here : n ≡ 0 + length some.founds = omega (arith, some.count) in
    record {
      looked = some.looked;
      founds = some.founds ++ one.found ∷ [];
      down_to = some.down_to;
      begun = some.begun;
      call = subst (λ es. TakesPlace g v (look_entry (Caller by) some.looked ∷ es) w)
          (ap (λ j. probes_from by m 0 some.founds ++ probe_entry (Caller by) m j one.found ∷ []) here
          ∙ sym (probes-push by m 0 some.founds one.found))
          (takes_place_then g v u w (look_entry (Caller by) some.looked ∷ probes_from by m 0 some.founds) (e ∷ []) some.call
          (step_takes_place g u e w one.step));
      count = length-append some.founds (one.found ∷ []) ∙ ap (λ j. j + 1) some.count;
      stands = stands_step g u e w p some.stands one.step holds.wheel (record { arm = refl; expire = refl; orphan = refl });
      told = one.told
          ∙ (found_by s m n now slot one.found before (stands.holds.lasts n low) (stands.holds.aboves n low) (some.begun n)
          ∙ (ap (λ j. with_found s now m j one.found before) here
          ∙ (ap (with_found s now m (0 + length some.founds) one.found) some.told
          ∙ sym (after-push s now m 0 some.founds one.found no_room))));
      few = few;
    }

-- all slots
pub sees_all : (g : Settings) (v : View) (by now : ℕ) (p : Part) (n : ℕ) (seen : Room) (u : View) → n ≡ g.slots → SeesSome g v by now p n seen u
    → SeesAll g v by p seen u
sees_all g v by now p n seen u all some = record {
  now = some.looked;
  probes = probes_from by p.number 0 some.founds;
  shows = subst (λ t. ShowsRoom by p.number t (state g v.front) 0 g.slots no_room seen (probes_from by p.number 0 some.founds))
      (ap natural some.down_to)
      (subst (λ r. ShowsRoom by p.number now (state g v.front) 0 g.slots no_room r (probes_from by p.number 0 some.founds)) (sym some.told)
      (shows by p.number now (state g v.front) 0 g.slots some.founds no_room (some.count ∙ all)));
  call = some.call;
  stands = some.stands;
}

-- what that tells
pub tells_room : (g : Settings) (v : View) (by : ℕ) (p : Part) (seen room : Room) (u : View) → PartStands g v.front p → SeesAll g v by p seen u
    → room ≡ room_with p.arms seen → IsMade g v (TellsRoom g by p.number room) u
tells_room g v by p seen room u stands all told = record {
  entries = look_entry (Caller by) all.now ∷ all.probes;
  allowed = record {
    now = all.now;
    probes = all.probes;
    seen = seen;
    shows = all.shows;
    told = told ∙ ap (λ n. room_with n seen) stands.holds.arms;
    entries = refl;
  };
  call = all.call;
}

pub room_left : (arms : ℕ) (seen : Room) → arms < 9007199254740992 → seen ≡ room_with arms seen
room_left arms seen low =
    let is : nat_lt arms 9007199254740992 ≡ true = grind (arith, nat_tests) in rw is refl

pub none_left : (arms : ℕ) (seen : Room) → 9007199254740992 ≤ arms → no_room ≡ room_with arms seen
none_left arms seen high =
    let is : nat_lt arms 9007199254740992 ≡ false = grind (arith, nat_tests) in rw is refl
