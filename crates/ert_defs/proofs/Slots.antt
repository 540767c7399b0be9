-- The generations of a slot are used one after the other.

use Rattle.std.proofs.Common.{◌≡◌, ◌≢◌, ℕ, ℤ, ◌+◌, ◌≤◌, max, Bool, true, false, cond, ◌&&◌, nat_eq, List, Option, Some, None, refl, sym, ap, ◌∙◌, inl, inr, subst, subst₂, arith, eqb-true, eq-eqb, ne_eqb}
use Rattle.std.proofs.lemmas.Bool.{and_parts, cases_eq}
use Rattle.ert_defs.specs.{Actors.has_actor, Laws.AreInOrder, Legal.{Can, CanArm, Known, Legal}, Milliseconds.{natural, down, deadline_of}, States.{State, uses_at, opening, next, state}, Timers.{Uses, same_timer, status_after, last_after}}
use Rattle.ert_defs.specs.{Timers.{since_after, above_after, above_with, turned, is_taken, timer_at}, declared.entry.Actor.Actor, declared.entry.Actor.TheVariants.Wheel, declared.entry.Entry.Entry, declared.entry.Event.Event}
use Rattle.ert_defs.specs.{declared.entry.Event.TheVariants.Arm, declared.settings.Settings.Settings, declared.timer.Status.Status, declared.timer.Status.TheVariants.Armed, declared.timer.TimerRef.TimerRef}
use Rattle.ert_defs.proofs.{Uses.{Use, CanUse, IsBefore, IsSound, used, fresh, before_self, before_stays, sound_next, told_is}, Runs.{carry, kept_from}, Statuses.{Forward, forward_after, forward_free, forward_not_none}}

-- references that pass the test are one
pub same_timer-true : (r t : TimerRef) → same_timer r t ≡ true → r ≡ t
same_timer-true r t is =
    let parts = and_parts (nat_eq r.wheel t.wheel && nat_eq r.slot t.slot) (nat_eq r.generation t.generation) is in
    let place = and_parts (nat_eq r.wheel t.wheel) (nat_eq r.slot t.slot) parts.0 in
    let wheel : r.wheel ≡ t.wheel = eqb-true r.wheel t.wheel place.0 in
    let slot : r.slot ≡ t.slot = eqb-true r.slot t.slot place.1 in
    let generation : r.generation ≡ t.generation = eqb-true r.generation t.generation parts.1 in
    ap (λ w. timer_at w r.slot r.generation) wheel
    ∙ (ap (λ k. timer_at t.wheel k r.generation) slot ∙ ap (λ n. timer_at t.wheel t.slot n) generation)

-- the uses of a slot are in order, and each generation that was armed was one of them
pub record KeepsOrder (status : ℕ → Option Status) (u : Uses) : Type 0 where
  pub sound : IsSound u
  pub none : status 0 ≡ None
  pub used : 1 ≤ u.last → status u.last ≢ None
  pub free : (n : ℕ) → n ≢ u.last → is_taken (status n) ≡ false
  pub each : (n : ℕ) → status n ≢ None → IsBefore u n

is_none : (x : Option Status) → (x ≢ None → ⊥) → x ≡ None
is_none None h = refl
is_none (Some x) h = absurd (h (λ is. cc))

-- so the next one is new
pub next_is_new : (status : ℕ → Option Status) (u : Uses) (t : Use) → KeepsOrder status u → CanUse u t → status t.generation ≡ None
next_is_new status u t h can =
    is_none (status t.generation) (λ some. fresh u t t.generation h.sound can (h.each t.generation some) refl)

pub in_order : (status : ℕ → Option Status) (u : Uses) → KeepsOrder status u → AreInOrder status u
in_order status u h = record {
  none = h.none;
  used = h.used;
  free = h.free;
  new = λ now wanted n can. next_is_new status u (record { now = now; wanted = wanted; generation = n }) h can;
}

forward_some : (x y : Option Status) → Forward x y → y ≢ None → x ≢ None
forward_some None y h some = absurd (some h)
forward_some (Some status) y h some = λ is. cc

-- while no generation is armed the statuses move forward, and their order stays
order_forward : (status later : ℕ → Option Status) (u : Uses) → ((n : ℕ) → Forward (status n) (later n)) → KeepsOrder status u
    → KeepsOrder later u
order_forward status later u moves h = record {
  sound = h.sound;
  none = rw h.none at (moves 0);
  used = λ low. forward_not_none (status u.last) (later u.last) (moves u.last) (h.used low);
  free = λ n other. forward_free (status n) (later n) (moves n) (h.free n other);
  each = λ n some. h.each n (forward_some (status n) (later n) (moves n) some);
}

-- the next generation is armed, where the last doesn't take the slot
order_armed : (status : ℕ → Option Status) (u : Uses) (t : Use) → CanUse u t → is_taken (status u.last) ≡ false
    → KeepsOrder status u → KeepsOrder (λ n. cond (nat_eq t.generation n) (Some Armed) (status n)) (used u t)
order_armed status u t can free h =
    let other : (n : ℕ) → t.generation ≢ n → nat_eq t.generation n ≡ false = λ n not. ne_eqb t.generation n not in
    let own = before_self u t h.sound can in
    record {
      sound = sound_next u t h.sound can;
      none = rw (other 0 (omega (arith, own.low))) h.none;
      used = λ low. rw (eq-eqb t.generation t.generation refl) (λ no. cc);
      free = λ n not. rw (other n (λ is. not (sym is))) (elim (cases_eq n u.last) [
        | inl is ↦ rw is free
        | inr differs ↦ h.free n differs
      ]);
      each = λ n some. elim (cases_eq t.generation n) [
        | inl is ↦ subst (IsBefore (used u t)) is own
        | inr not ↦ before_stays u t n h.sound can (h.each n (rw (other n not) at some))
      ];
    }

-- what an event must meet that arms the next generation of a slot
pub record MayUse (status : ℕ → Option Status) (u : Uses) (deadline : Option ℕ) (generation : ℕ) : Type 0 where
  pub now : ℕ
  pub wanted : ℕ
  pub due : deadline ≡ Some wanted
  pub can : CanUse u (record { now = now; wanted = wanted; generation = generation })
  pub free : is_taken (status u.last) ≡ false

pub can_use : (g : Settings) (s : State) (by : Actor) (timer : TimerRef) (deadline : Option ℕ) (w k : ℕ) → CanArm g s by timer deadline
    → (nat_eq timer.wheel w && nat_eq timer.slot k) ≡ true
    → MayUse (λ n. s.status (timer_at w k n)) (uses_at s w k) deadline timer.generation
can_use g s by timer deadline w k can is =
    let place = and_parts (nat_eq timer.wheel w) (nat_eq timer.slot k) is in
    let P : ℕ → ℕ → Type 0 = λ w k. MayUse (λ n. s.status (timer_at w k n)) (uses_at s w k) deadline timer.generation in
    subst₂ P (eqb-true timer.wheel w place.0) (eqb-true timer.slot k place.1) (record {
      now = natural (down g (s.looked by));
      wanted = can.wanted;
      due = can.due;
      can = can.next_use;
      free = can.free;
    })

-- the uses of a slot after it is armed, or not
abbrev pub uses_with : Bool → Option ℕ → ℕ → Uses → Uses
uses_with here deadline generation u = record {
  last = cond here generation u.last;
  since = cond here (turned u).since u.since;
  above = cond here (above_with generation u.above deadline) u.above;
}

pub uses_told : (u : Uses) (deadline : Option ℕ) (t : Use) → IsSound u → CanUse u t → deadline ≡ Some t.wanted → uses_with true deadline t.generation u ≡ used u t
uses_told u deadline t sound can is =
    ap (λ (d : Option ℕ). uses_with true d t.generation u) is
    ∙ ap (λ d. let v : Uses = record { last = t.generation; since = (turned u).since; above = max u.above (d + 1) } in v) (told_is u t sound can)

order_at : (status : ℕ → Option Status) (u : Uses) (deadline : Option ℕ) (generation : ℕ) (here : Bool) → (here ≡ true → MayUse status u deadline generation)
    → KeepsOrder status u
    → KeepsOrder (λ n. cond (here && nat_eq generation n) (Some Armed) (status n)) (uses_with here deadline generation u)
order_at status u deadline generation true can h =
    let may = can refl in
    let t : Use = record { now = may.now; wanted = may.wanted; generation = generation } in
    carry (KeepsOrder (λ n. cond (nat_eq generation n) (Some Armed) (status n))) (uses_told u deadline t h.sound may.can may.due)
    (order_armed status u t may.can may.free h)
order_at status u deadline generation false can h = h

-- the uses of a slot after an event of its wheel, or not
abbrev pub uses_after : Settings → ℤ → Bool → ℕ → ℕ → Uses → Event → Uses
uses_after g look b w k u event = record {
  last = cond b (last_after w k u.last event) u.last;
  since = cond b (since_after w k u event) u.since;
  above = cond b (above_after g look w k u.above event) u.above;
}

order_with : (g : Settings) (s : State) (by : Actor) (with : Option Actor) (w k : ℕ) (b : Bool) (event : Event) → Known g s by with event
    → KeepsOrder (λ n. s.status (timer_at w k n)) (uses_at s w k)
    → KeepsOrder (λ n. status_after (timer_at w k n) b (s.status (timer_at w k n)) event) (uses_after g (s.looked by) b w k (uses_at s w k) event)
order_with g s by with w k false event known h =
    order_forward (λ n. s.status (timer_at w k n)) (λ n. status_after (timer_at w k n) false (s.status (timer_at w k n)) event) (uses_at s w k)
    (λ n. forward_after (timer_at w k n) false (s.status (timer_at w k n)) event refl) h
order_with g s by with w k true (Arm timer start) known h =
    order_at (λ n. s.status (timer_at w k n)) (uses_at s w k) (deadline_of g start (s.looked by)) timer.generation (nat_eq timer.wheel w && nat_eq timer.slot k)
    (can_use g s by timer _ w k known) h
order_with g s by with w k true event known h =
    order_forward (λ n. s.status (timer_at w k n)) (λ n. status_after (timer_at w k n) true (s.status (timer_at w k n)) event) (uses_at s w k)
    (λ n. forward_after (timer_at w k n) true (s.status (timer_at w k n)) event refl) h

-- the generations of each slot are in order
abbrev pub IsOrdered : State → Type 0
IsOrdered s = (w k : ℕ) → KeepsOrder (λ n. s.status (timer_at w k n)) (uses_at s w k)

pub ordered_next : (g : Settings) (s : State) (e : Entry) → IsOrdered s → Can g s e → IsOrdered (next g s e)
ordered_next g s e h can w k = order_with g s e.by e.with w k (has_actor e (Wheel w)) e.event can.known (h w k)

pub ordered_opening : (g : Settings) → IsOrdered (opening g)
ordered_opening g w k = record {
  sound = record {
    order = omega arith;
    first = λ is. omega arith;
    later = λ is. absurd (omega (arith, is));
    last_high = omega arith;
    some = λ is. absurd (omega (arith, is));
  };
  none = refl;
  used = λ low. absurd (omega (arith, low));
  free = λ n other. refl;
  each = λ n some. absurd (some refl);
}

pub ordered : (g : Settings) (h : List Entry) → Legal g h → IsOrdered (state g h)
ordered g h legal = kept_from g IsOrdered (ordered_next g) (opening g) h (ordered_opening g) legal
