-- A slot is looked at.

use Rattle.std.proofs.Common.{◌≡◌, ◌≢◌, ℕ, ◌<◌, ◌≤◌, true, false, ◌||◌, ◌++◌, Option, Some, None, option_map, inl, inr, refl, sym, ap, subst, ◌∙◌, arith, eq-eqb, ne_eqb}
use Rattle.std.specs.{Cmp.{nat_cmp_total, unsigned_tied}, Ordering.nat_cmp}
use Rattle.std.specs.FinSet as sets
use Rattle.ert_defs.specs.{Entries.probe_entry, States.{State, state}, Timers.{Uses, is_taken, timer_at}, declared.entry.Actor.Actor, declared.entry.Actor.TheVariants.{Wheel, Caller}, declared.entry.Entry.Entry}
use Rattle.ert_defs.specs.{declared.settings.Settings.Settings, declared.timer.Status.Status, declared.timer.Status.TheVariants.Armed}
use Rattle.ert_table.proofs.{Looks.can_step, Parts.stepped}
use Rattle.ert_table.specs.{Held.is_held, Settlings.ShownWord, Takes.Appends, declared.view.View.View}
use Rattle.ert_timers.specs.{Changes.{is_resting, dropped, freed}, Parts.{HoldsCaller, Part, PartStands, slot_at, last_timer}, Starting.{IsUntaken, LooksAt, status_shown}, Passed.LosesRows}
use Rattle.ert_laws.proofs.Since.{rounds_begun}
use Rattle.ert_laws.specs.Counts.{is_expire, is_orphan}
use Rattle.ert_timers.proofs.{Later.{later_before, later_step}, Resting.{later_awake, rested_by}, Standing.{clock_at, clock_stepped, count_same, holds_freed, stands_step}, Fit.put_keeps, Passing.{loses_none, loses_row}, Tried.stands_gone}

-- what a load of a slot found
pub status_is : (shown : Option ShownWord) → option_map (λ (x : ShownWord). x.0) shown ≡ status_shown shown
status_is None = refl
status_is (Some shown) = refl

pub probe_is : (g : Settings) (v : View) (by w w' k : ℕ) (shown : Option ShownWord) (u : View) → w' ≡ w
    → Appends g v (probe_entry (Caller by) w' k (option_map (λ (x : ShownWord). x.0) shown)) u
    → Appends g v (probe_entry (Caller by) w k (status_shown shown)) u
probe_is g v by w w' k shown u number step =
    subst (λ n. Appends g v (probe_entry (Caller by) n k (status_shown shown)) u) number
    (subst (λ x. Appends g v (probe_entry (Caller by) w' k x) u) (status_is shown) step)

-- what was found is the status of the slot's last timer, before and after the look
pub found_is : (g : Settings) (v : View) (by : Actor) (p : Part) (k : ℕ) (found : Option Status) (u : View) → PartStands g v.front p
    → is_held v.actors (Wheel p.number) ≡ true → k < g.slots → Appends g v (probe_entry by p.number k found) u
    → found ≡ (state g u.front).status (last_timer p.number p.slots k)
found_is g v by p k found u stands held low step =
    let e : Entry = probe_entry by p.number k found in
    let s : State = state g (v.front ++ step.between) in
    let later = later_before g v e u p.number step held in
    let last : s.last p.number k ≡ (slot_at p.slots k).generation = later.last k ∙ sym (stands.holds.lasts k low) in
    (can_step g v e u step).found
    ∙ (ap (λ n. s.status (timer_at p.number k n)) last
    ∙ ap (λ (t : State). t.status (last_timer p.number p.slots k)) (sym (stepped g v e u step)))

-- since when the rounds of its slots may have timers is the same after a look at a slot of a wheel that the pass holds
since_same : (g : Settings) (v : View) (by w k : ℕ) (found : Option Status) (u : View) → Appends g v (probe_entry (Caller by) w k found) u
    → is_held v.actors (Wheel w) ≡ true → (j : ℕ) → (state g u.front).since w j ≡ (state g v.front).since w j
since_same g v by w k found u step held j =
    ap (λ (x : Uses). x.since) ((later_step g v (probe_entry (Caller by) w k found) u w step held refl).uses j)

-- a slot that isn't taken stays so while one of the wheel is looked at
pub still_untaken : (g : Settings) (v : View) (by : ℕ) (p : Part) (k : ℕ) (found : Option Status) (u : View) → HoldsCaller g v by p.number
    → Appends g v (probe_entry (Caller by) p.number k found) u → (j : ℕ) → IsUntaken g v p j → IsUntaken g u p j
still_untaken g v by p k found u holds step j none =
    (later_step g v (probe_entry (Caller by) p.number k found) u p.number step holds.wheel refl).free (last_timer p.number p.slots j) refl none

-- a slot was found taken
pub looks_taken : (g : Settings) (v : View) (by now : ℕ) (p : Part) (k : ℕ) (found : Option Status) (u : View) → PartStands g v.front p
    → HoldsCaller g v by p.number → k < g.slots → sets.contains p.free k ≡ false → Appends g v (probe_entry (Caller by) p.number k found) u
    → is_taken found ≡ true → LooksAt g v by now p p k u
looks_taken g v by now p k found u stands holds low away step taken = record {
  found = found;
  step = step;
  stands = stands_step g v (probe_entry (Caller by) p.number k found) u p stands step holds.wheel (record { arm = refl; expire = refl; orphan = refl });
  number = refl;
  slots = refl;
  arms = refl;
  others = λ j other. refl;
  full = λ is. inl taken;
  rested = λ held. (let none : true ≡ false = sym held ∙ away in cc);
  since = since_same g v by p.number k found u step holds.wheel;
  loses = loses_none p;
  still = still_untaken g v by p k found u holds step;
  meets = λ none awake.
      (let no : true ≡ false = sym taken
      ∙ (ap is_taken (found_is g v (Caller by) p k found u stands holds.wheel low step) ∙ still_untaken g v by p k found u holds step k none) in cc);
  next = refl;
}

not_armed : (x : Option Status) → is_taken x ≡ false → x ≢ Some Armed
not_armed x free is = (let bad : true ≡ false = sym (ap is_taken is) ∙ free in cc)

pub put_other : (s : sets.FinSet nat_cmp) (k j : ℕ) → j ≢ k → sets.contains (sets.insert s k) j ≡ sets.contains s j
put_other s k j other =
    sets.contains-insert nat_cmp_total s k j
    ∙ ((λ i. unsigned_tied j k i || sets.contains s j) ∙ ap (λ b. b || sets.contains s j) (ne_eqb j k other))

pub put_here : (s : sets.FinSet nat_cmp) (k : ℕ) → sets.contains (sets.insert s k) k ≡ true
put_here s k =
    sets.contains-insert nat_cmp_total s k k
    ∙ ((λ i. unsigned_tied k k i || sets.contains s k) ∙ ap (λ b. b || sets.contains s k) (eq-eqb k k refl))

-- the part without the row of a slot that was found not taken
gone_stands : (g : Settings) (v : View) (by : ℕ) (p : Part) (k : ℕ) (found : Option Status) (u : View) → PartStands g v.front p
    → HoldsCaller g v by p.number → k < g.slots → Appends g v (probe_entry (Caller by) p.number k found) u
    → is_taken ((state g u.front).status (last_timer p.number p.slots k)) ≡ false → PartStands g u.front (dropped p k)
gone_stands g v by p k found u stands holds low step free =
    let e : Entry = probe_entry (Caller by) p.number k found in
    let counts = stands.counted in
    stands_gone g v e u p k p.expires p.orphans stands (subst (λ n. k < n) (sym stands.holds.wide) low) step holds.wheel refl (λ j other. refl)
    (not_armed ((state g u.front).status (last_timer p.number p.slots k)) free)
    (counts.expires ∙ sym (count_same g v e u p.number is_expire step holds.wheel refl))
    (counts.orphans ∙ sym (count_same g v e u p.number is_orphan step holds.wheel refl))

free_last : (g : Settings) (v : View) (by : ℕ) (p : Part) (k : ℕ) (found : Option Status) (u : View) → PartStands g v.front p
    → HoldsCaller g v by p.number → k < g.slots → Appends g v (probe_entry (Caller by) p.number k found) u → is_taken found ≡ false
    → is_taken ((state g u.front).status (last_timer p.number p.slots k)) ≡ false
free_last g v by p k found u stands holds low step none =
    ap is_taken (sym (found_is g v (Caller by) p k found u stands holds.wheel low step)) ∙ none

-- a slot was found not taken, and rests: it has no row from then on
pub looks_resting : (g : Settings) (v : View) (by now : ℕ) (p q : Part) (k : ℕ) (found : Option Status) (u : View) → PartStands g v.front p
    → HoldsCaller g v by p.number → k < g.slots → sets.contains p.free k ≡ false → Appends g v (probe_entry (Caller by) p.number k found) u
    → is_taken found ≡ false → q ≡ dropped p k → is_resting (slot_at q.slots k) now ≡ true → LooksAt g v by now p q k u
looks_resting g v by now p q k found u stands holds low away step none gone rests =
    let e : Entry = probe_entry (Caller by) p.number k found in
    record {
      found = found;
      step = step;
      stands = subst (λ (x : Part). PartStands g u.front x) (sym gone)
          (gone_stands g v by p k found u stands holds low step (free_last g v by p k found u stands holds low step none));
      number = ap (λ (x : Part). x.number) gone;
      slots = ap (λ (x : Part). x.slots) gone;
      arms = ap (λ (x : Part). x.arms) gone;
      others = λ j other. ap (λ (x : Part). sets.contains x.free j) gone;
      full = λ is. inr (ap (λ (x : Part). is_resting (slot_at x.slots k) now) (sym gone) ∙ rests);
      rested = λ held. (let no : true ≡ false = sym held ∙ (ap (λ (x : Part). sets.contains x.free k) gone ∙ away) in cc);
      since = since_same g v by p.number k found u step holds.wheel;
      loses = subst (LosesRows p) (sym gone) (loses_row p (dropped p k) k (subst (λ n. k < n) (sym stands.holds.wide) low) refl refl refl refl refl (λ j was. was));
      still = still_untaken g v by p k found u holds step;
      meets = λ untaken awake.
          (let no : true ≡ false = sym rests ∙ (ap (λ (x : Part). is_resting (slot_at x.slots k) now) gone ∙ awake) in cc);
      next = ap (λ (x : Part). x.next_look) gone;
    }

-- a slot was found not taken, and doesn't rest: it has no row from then on, and is held free
pub looks_free : (g : Settings) (v : View) (by now : ℕ) (p q r : Part) (k : ℕ) (found : Option Status) (u : View) → PartStands g v.front p
    → HoldsCaller g v by p.number → now ≤ clock_at g (state g v.front) → k < g.slots → Appends g v (probe_entry (Caller by) p.number k found) u
    → is_taken found ≡ false → q ≡ dropped p k → is_resting (slot_at q.slots k) now ≡ false → r ≡ freed q k → LooksAt g v by now p r k u
looks_free g v by now p q r k found u stands holds past low step none gone awake back =
    let e : Entry = probe_entry (Caller by) p.number k found in
    let free = free_last g v by p k found u stands holds low step none in
    let all : r ≡ freed (dropped p k) k = back ∙ ap (λ (x : Part). freed x k) gone in
    let left : PartStands g u.front (dropped p k) = gone_stands g v by p k found u stands holds low step free in
    let here : is_resting (slot_at p.slots k) now ≡ false = ap (λ (x : Part). is_resting (slot_at x.slots k) now) (sym gone) ∙ awake in
    let time : ℕ = clock_at g (state g u.front) in
    record {
      found = found;
      step = step;
      stands = subst (λ (x : Part). PartStands g u.front x) (sym all) (record {
        checked = left.checked;
        legal = left.legal;
        holds = holds_freed g (state g u.front) (dropped p k) k left.holds free
            (rested_by (state g u.front) p.number k time (slot_at p.slots k) (left.holds.lasts k low) (left.holds.aboves k low)
            (rounds_begun g u.front p.number k left.checked left.legal)
            (later_awake (slot_at p.slots k) now time (omega (arith, past, clock_stepped g v e u stands.checked step)) here));
        counted = record { arms = left.counted.arms; expires = left.counted.expires; orphans = left.counted.orphans };
      });
      number = ap (λ (x : Part). x.number) all;
      slots = ap (λ (x : Part). x.slots) all;
      arms = ap (λ (x : Part). x.arms) all;
      others = λ j other. ap (λ (x : Part). sets.contains x.free j) all ∙ put_other p.free k j other;
      full = λ away. (let no : true ≡ false = sym (ap (λ (x : Part). sets.contains x.free k) all ∙ put_here p.free k) ∙ away in cc);
      rested = λ held. here;
      since = since_same g v by p.number k found u step holds.wheel;
      loses = subst (LosesRows p) (sym all)
          (loses_row p (freed (dropped p k) k) k (subst (λ n. k < n) (sym stands.holds.wide) low) refl refl refl refl refl (λ j was. put_keeps p.free k j was));
      still = still_untaken g v by p k found u holds step;
      meets = λ untaken is. ap (λ (x : Part). sets.contains x.free k) all ∙ put_here p.free k;
      next = ap (λ (x : Part). x.next_look) all;
    }
