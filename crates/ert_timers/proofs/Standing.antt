-- When a part stands for the front after a step of its own.

use Rattle.std.proofs.Common.{◌≡◌, ◌≢◌, ℕ, ◌<◌, ◌≤◌, Bool, true, false, cond, ◌&&◌, ◌||◌, nat_eq, List, ◌++◌, ◌∷◌, [], length, Option, Some, None, refl, sym, ap, subst, ◌∙◌, arith, append_assoc, eqb-true}
use Rattle.std.specs.{Cmp.{nat_cmp_total, unsigned_tied}, Ordering.nat_cmp}
use Rattle.std.specs.FinSet as sets
use Rattle.ert_defs.specs.{Actors.has_actor, Legal.Legal, Milliseconds.{natural, down}, Settings.IsChecked, States.{State, uses_at, state}, Timers.{Uses, turned, is_taken}, declared.entry.Actor.TheVariants.Wheel, declared.entry.Entry.Entry}
use Rattle.ert_defs.specs.{declared.entry.Event.Event, declared.entry.Event.TheVariants.{Expire, Orphan}, declared.settings.Settings.Settings, declared.timer.Status.Status, declared.timer.Status.TheVariants.{Armed, Expired, Delivered}}
use Rattle.ert_defs.specs.{declared.timer.Status.TheVariants.{Cancelled, Orphaned, Dropped}, declared.timer.TimerRef.TimerRef}
use Rattle.ert_defs.proofs.Times.{time_rises}
use Rattle.ert_table.specs.{Held.is_held, Takes.Appends, declared.view.View.View}
use Rattle.ert_timers.specs.{Changes.{freed, has_uses}, Parts.{Part, HoldsRows, FitsState, PartStands, slot_at, last_timer}}
use Rattle.ert_laws.proofs.Since.{milliseconds_rise, rounds_begun}
use Rattle.ert_laws.specs.Counts.{entries_of, is_arm, is_expire, is_orphan}
use Rattle.ert_timers.proofs.{Later.{IsLater, later_step, ends, live_step, count_step}, Resting.{rested_by, used_less}, Rows.rows_later}
use Rattle.ert_wheel.specs.declared.row.Key.{Key}

-- a part stands as before where it holds fewer slots free, and where the time of its wheel goes on
pub stands_with : (g : Settings) (h : List Entry) (p : Part) (free : sets.FinSet nat_cmp) (passed : ℕ) (there : List (Option ℕ)) → PartStands g h p
    → ((k : ℕ) → sets.contains free k ≡ true → sets.contains p.free k ≡ true) → PartStands g h (record p { free = free; passed = passed; stands = there })
stands_with g h p free passed there stands held = record {
  checked = stands.checked;
  legal = stands.legal;
  holds = record {
    number = stands.holds.number;
    processes = stands.holds.processes;
    many = stands.holds.many;
    wide = stands.holds.wide;
    rows = stands.holds.rows;
    lasts = stands.holds.lasts;
    aboves = stands.holds.aboves;
    arms = stands.holds.arms;
    free = λ k is. stands.holds.free k (held k is);
    ready = λ k is. stands.holds.ready k (held k is);
  };
  counted = record { arms = stands.counted.arms; expires = stands.counted.expires; orphans = stands.counted.orphans };
}

-- and wherever its next looks begin
pub stands_next : (g : Settings) (h : List Entry) (p : Part) (next : ℕ) → PartStands g h p → PartStands g h (record p { next_look = next })
stands_next g h p next stands = record {
  checked = stands.checked;
  legal = stands.legal;
  holds = record {
    number = stands.holds.number;
    processes = stands.holds.processes;
    many = stands.holds.many;
    wide = stands.holds.wide;
    rows = stands.holds.rows;
    lasts = stands.holds.lasts;
    aboves = stands.holds.aboves;
    arms = stands.holds.arms;
    free = stands.holds.free;
    ready = stands.holds.ready;
  };
  counted = record { arms = stands.counted.arms; expires = stands.counted.expires; orphans = stands.counted.orphans };
}

-- the whole milliseconds of the clock
abbrev pub clock_at : Settings → State → ℕ
clock_at g s = natural (down g s.clock.now)

-- they never get fewer
pub clock_rises : (g : Settings) (f m : List Entry) → IsChecked g → Legal g (f ++ m) → clock_at g (state g f) ≤ clock_at g (state g (f ++ m))
clock_rises g f m checked legal =
    milliseconds_rise g (state g f).clock.now (state g (f ++ m)).clock.now (time_rises g f m checked legal)

-- nor by a step
pub clock_stepped : (g : Settings) (v : View) (e : Entry) (u : View) → IsChecked g → Appends g v e u
    → clock_at g (state g v.front) ≤ clock_at g (state g u.front)
clock_stepped g v e u checked step =
    let grown : u.front ≡ v.front ++ (step.between ++ e ∷ []) = step.grown ∙ append_assoc v.front step.between (e ∷ []) in
    subst (λ h. clock_at g (state g v.front) ≤ clock_at g (state g h)) (sym grown)
    (clock_rises g v.front (step.between ++ e ∷ []) checked (subst (Legal g) grown step.legal))

pub same_since : (u v : Uses) (time later : ℕ) → v ≡ u → time ≤ later → (turned u).since ≤ time → (turned v).since ≤ later
same_since u v time later same rises rested =
    subst (λ (x : Uses). (turned x).since ≤ later) (sym same) (no_more (turned u).since time later rested rises)
  where
    no_more : (a b c : ℕ) → a ≤ b → b ≤ c → a ≤ c
    no_more a b c low high = omega (arith, low, high)

-- the part with these keys and counts fits a later state
pub holds_with : (g : Settings) (s t : State) (p : Part) (keys : List (Option Key)) (there : List (Option ℕ)) (expired orphaned : ℕ) → FitsState g s p
    → IsLater p.number s t → clock_at g s ≤ clock_at g t → length keys ≡ length p.keys → HoldsRows t p.number p.slots keys
    → FitsState g t (record p { keys = keys; expires = expired; orphans = orphaned; stands = there })
holds_with g s t p keys there expired orphaned holds later rises wide rows = record {
  number = holds.number;
  processes = holds.processes;
  many = holds.many;
  wide = wide ∙ holds.wide;
  rows = rows;
  lasts = λ k low. holds.lasts k low ∙ sym (later.last k);
  aboves = λ k low. holds.aboves k low ∙ sym (ap (λ (u : Uses). u.above) (later.uses k));
  arms = holds.arms ∙ ap length (sym later.rows);
  free = λ k is. later.free (last_timer p.number p.slots k) refl (holds.free k is);
  ready = λ k is.
      same_since (uses_at s p.number k) (uses_at t p.number k) (clock_at g s) (clock_at g t) (later.uses k) rises (holds.ready k is);
}

-- a slot is in the set after it was put in, or was before
held_or : (s : sets.FinSet nat_cmp) (k j : ℕ) (b : Bool) → sets.contains (cond b (sets.insert s k) s) j ≡ true
    → (nat_eq j k || sets.contains s j) ≡ true
held_or s k j true is = sym (sets.contains-insert nat_cmp_total s k j ∙ (λ i. unsigned_tied j k i || sets.contains s j)) ∙ is
held_or s k j false is = at (nat_eq j k)
  where
    at : (b : Bool) → (b || sets.contains s j) ≡ true
    at true = refl
    at false = is

or_cases : (b c : Bool) (P : Type 0) → (b ≡ true → P) → (c ≡ true → P) → (b || c) ≡ true → P
or_cases true c P f h is = f refl
or_cases false c P f h is = h is

-- a slot whose timer takes it no more, and that doesn't rest, can be held free, or not
pub holds_if : (g : Settings) (t : State) (p : Part) (k : ℕ) (b : Bool) → FitsState g t p
    → is_taken (t.status (last_timer p.number p.slots k)) ≡ false → (b ≡ true → (turned (uses_at t p.number k)).since ≤ clock_at g t)
    → FitsState g t (record p { free = cond b (sets.insert p.free k) p.free })
holds_if g t p k b holds none rested = record {
  number = holds.number;
  processes = holds.processes;
  many = holds.many;
  wide = holds.wide;
  rows = holds.rows;
  lasts = holds.lasts;
  aboves = holds.aboves;
  arms = holds.arms;
  free = λ j is.
      or_cases (nat_eq j k) (sets.contains p.free j) (is_taken (t.status (last_timer p.number p.slots j)) ≡ false)
      (λ same. ap (λ n. is_taken (t.status (last_timer p.number p.slots n))) (eqb-true j k same) ∙ none)
      (λ was. holds.free j was)
      (held_or p.free k j b is);
  ready = λ j is. at j b rested is;
}
  where
    at : (j : ℕ) (b : Bool) → (b ≡ true → (turned (uses_at t p.number k)).since ≤ clock_at g t)
        → sets.contains (cond b (sets.insert p.free k) p.free) j ≡ true → (turned (uses_at t p.number j)).since ≤ clock_at g t
    at j false rested is = holds.ready j is
    at j true rested is =
        or_cases (nat_eq j k) (sets.contains p.free j) ((turned (uses_at t p.number j)).since ≤ clock_at g t)
        (λ same. subst (λ n. (turned (uses_at t p.number n)).since ≤ clock_at g t) (sym (eqb-true j k same)) (rested refl))
        (λ was. holds.ready j was) (held_or p.free k j true is)

-- it can where it doesn't rest
pub holds_freed : (g : Settings) (t : State) (p : Part) (k : ℕ) → FitsState g t p
    → is_taken (t.status (last_timer p.number p.slots k)) ≡ false → (turned (uses_at t p.number k)).since ≤ clock_at g t → FitsState g t (freed p k)
holds_freed g t p k holds none rested = holds_if g t p k true holds none (λ is. rested)

-- and so where its round has uses left
pub holds_back : (g : Settings) (h : List Entry) (p : Part) (k : ℕ) → IsChecked g → Legal g h → k < g.slots → FitsState g (state g h) p
    → is_taken ((state g h).status (last_timer p.number p.slots k)) ≡ false
    → FitsState g (state g h) (record p { free = cond (has_uses (slot_at p.slots k)) (sets.insert p.free k) p.free })
holds_back g h p k checked legal low holds none =
    holds_if g (state g h) p k (has_uses (slot_at p.slots k)) holds none (λ has.
    rested_by (state g h) p.number k (clock_at g (state g h)) (slot_at p.slots k) (holds.lasts k low) (holds.aboves k low)
    (rounds_begun g h p.number k checked legal) (used_less (slot_at p.slots k) (clock_at g (state g h)) has))

-- a timer that isn't armed and hasn't expired takes no slot
pub takes_none : (x : Option Status) → x ≢ Some Armed → x ≢ Some Expired → is_taken x ≡ false
takes_none None a b = refl
takes_none (Some Armed) a b = absurd (a refl)
takes_none (Some Expired) a b = absurd (b refl)
takes_none (Some Delivered) a b = refl
takes_none (Some Cancelled) a b = refl
takes_none (Some Orphaned) a b = refl
takes_none (Some Dropped) a b = refl

-- the counts go on by the step alone
pub count_same : (g : Settings) (v : View) (e : Entry) (u : View) (w : ℕ) (test : Event → Bool) → Appends g v e u
    → is_held v.actors (Wheel w) ≡ true → test e.event ≡ false → entries_of test w u.front ≡ entries_of test w v.front
count_same g v e u w test step held unmet =
    let none : (has_actor e (Wheel w) && test e.event) ≡ false = at (has_actor e (Wheel w)) in
    let nought : ◌≡◌ {A = ℕ} (cond (has_actor e (Wheel w) && test e.event) 1 0) 0 = ap (λ b. cond b 1 0) none in
    omega (arith, count_step g v e u w test step held)
  where
    at : (b : Bool) → (b && test e.event) ≡ false
    at true = unmet
    at false = refl

no_end : (event : Event) → is_expire event ≡ false → is_orphan event ≡ false → (r : TimerRef) → ends event r ≡ false
no_end (Expire timer) unmet other r = absurd cc
no_end (Orphan timer) unmet other r = absurd cc
no_end _ unmet other r = refl

-- no timer is armed, expires or is cancelled for an exit by an event
pub record IsCalm (event : Event) : Type 0 where
  pub arm : is_arm event ≡ false
  pub expire : is_expire event ≡ false
  pub orphan : is_orphan event ≡ false

-- after such a step the part stands as it is
pub stands_step : (g : Settings) (v : View) (e : Entry) (u : View) (p : Part) → PartStands g v.front p → Appends g v e u
    → is_held v.actors (Wheel p.number) ≡ true → IsCalm e.event → PartStands g u.front p
stands_step g v e u p stands step held calm = record {
  checked = stands.checked;
  legal = step.legal;
  holds =
      let later = later_step g v e u p.number step held calm.arm in
      holds_with g (state g v.front) (state g u.front) p p.keys p.stands p.expires p.orphans stands.holds later (clock_stepped g v e u stands.checked step) refl
      (rows_later g v.front p.number p.slots p.keys (state g u.front) stands.legal stands.holds.rows later
      (λ k key is.
      live_step g v e u (last_timer p.number p.slots k) step held (no_end e.event calm.expire calm.orphan (last_timer p.number p.slots k))
      (stands.holds.rows.live k key is)));
  counted = record {
    arms = stands.counted.arms ∙ sym (count_same g v e u p.number is_arm step held calm.arm);
    expires = stands.counted.expires ∙ sym (count_same g v e u p.number is_expire step held calm.expire);
    orphans = stands.counted.orphans ∙ sym (count_same g v e u p.number is_orphan step held calm.orphan);
  };
}
