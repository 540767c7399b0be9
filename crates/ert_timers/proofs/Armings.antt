-- A timer is armed in a slot that a part holds free.

use Rattle.std.proofs.Common.{◌≡◌, ◌≢◌, ℕ, zero, suc, ◌+◌, ◌<◌, Bool, true, false, cond, ◌&&◌, nat_eq, max, List, [], ◌∷◌, ◌++◌, length, Option, Some, None, Ok, inl, inr, refl, sym, ap, subst, ◌∙◌, arith, set, get_or-set_same, get_or-set_other, length-append, eq-eqb, ne_eqb}
use Rattle.std.proofs.lemmas.{Bool.cases_eq, List.length-set}
use Rattle.std.specs.FinSet as sets
use Rattle.std.specs.List.{slice_get}
use Rattle.ert_defs.specs.{Actors.has_actor, Entries.arm_entry, Legal.Legal, Milliseconds.deadline_of, States.{State, uses_at, next, state}, Timers.{Row, Uses, above_with, deadline_told, row_from, is_taken, same_timer, timer_at}}
use Rattle.ert_defs.specs.{declared.entry.Actor.TheVariants.{Wheel, Caller}, declared.entry.Entry.Entry, declared.settings.Settings.Settings, declared.timer.Start.Start, declared.timer.Status.TheVariants.Armed}
use Rattle.ert_defs.specs.{declared.timer.TimerRef.TimerRef}
use Rattle.ert_defs.proofs.{ExpiredTimers.{same_timer_self, same_timer-false}, Runs.{look_stays, state-append}}
use Rattle.ert_table.specs.{Takes.{Appends, MayStep}, declared.view.View.View}
use Rattle.ert_table.proofs.Parts.{stepped}
use Rattle.ert_timers.specs.{Changes.{MayBecomeFree, kept, slot_for}, Parts.{HoldsCaller, IsLive, Part, HoldsRows, PartStands, slot_at, last_timer, held_row, unused}, Starting.{Arms, HoldsTimer, IsUseFor}, Passed.GainsOne, Slots.Slot}
use Rattle.ert_timers.specs.{declared.part.Use.Use}
use Rattle.ert_laws.specs.Counts.{is_arm, is_expire, is_orphan}
use Rattle.ert_effects.specs.declared.answers.StartErr.{StartErr}
use Rattle.ert_timers.proofs.{Keeping.{key_kept, key_new}, Later.{IsLater, later_before, live_before}, NextUses.{use_of, told_of, new_generation, old_apart}, Rows.row_wheel, Standing.{clock_at, clock_stepped, count_same, same_since}}
use Rattle.ert_timers.proofs.{Tried.count_more}
use Rattle.ert_wheel.specs.{Rows.key_in, declared.row.Key.Key}

-- a place is one of the old, or the last
data Place {X : Type 0} (xs : List X) (x : X) (n : ℕ) (y : X) : Type 0 where
  old : n < length xs → slice_get xs n ≡ Some y → Place xs x n y
  new : n ≡ length xs → x ≡ y → Place xs x n y

place_of : {X : Type 0} (xs : List X) (x : X) (n : ℕ) (y : X) → slice_get (xs ++ x ∷ []) n ≡ Some y → Place xs x n y
place_of [] x zero y at = new refl cc
place_of [] x (suc n) y at = absurd cc
place_of (z ∷ xs) x zero y at = old (omega arith) at
place_of (z ∷ xs) x (suc n) y at =
    elim (place_of xs x n y at) [ old low there ↦ old (omega (arith, low)) there | new here same ↦ new (omega (arith, here)) same ]

at_front : {X : Type 0} (xs : List X) (x : X) (n : ℕ) (y : X) → slice_get xs n ≡ Some y → slice_get (xs ++ x ∷ []) n ≡ Some y
at_front [] x n y at = absurd cc
at_front (z ∷ xs) x zero y at = at
at_front (z ∷ xs) x (suc n) y at = at_front xs x n y at

at_end : {X : Type 0} (xs : List X) (x : X) → slice_get (xs ++ x ∷ []) (length xs) ≡ Some x
at_end [] x = refl
at_end (z ∷ xs) x = at_end xs x

cond_false : {X : Type 0} (b : Bool) (x y : X) → b ≡ false → cond b x y ≡ y
cond_false false x y is = refl
cond_false true x y is = absurd cc

and_false : (b c : Bool) → c ≡ false → (b && c) ≡ false
and_false true c is = is
and_false false c is = refl

-- what the arming of a timer does to the timers of a wheel
record IsArmed (w : ℕ) (s t : State) (timer : TimerRef) (row : Row) : Type 0 where
  rows : t.rows w ≡ s.rows w ++ row ∷ []
  last : (j : ℕ) → t.last w j ≡ cond (nat_eq timer.slot j) timer.generation (s.last w j)
  above : t.above w timer.slot ≡ max (s.above w timer.slot) (row.deadline + 1)
  uses : (j : ℕ) → timer.slot ≢ j → uses_at t w j ≡ uses_at s w j
  here : t.status timer ≡ Some Armed
  other : (r : TimerRef) → r ≢ timer → t.status r ≡ s.status r

armed_next : (g : Settings) (s : State) (by w wanted deadline : ℕ) (timer : TimerRef) (start : Start) → timer.wheel ≡ w
    → deadline_of g start (s.looked (Caller by)) ≡ Some wanted → deadline_told timer.generation wanted ≡ deadline
    → IsArmed w s (next g s (arm_entry by timer start)) timer
    (record { timer = timer; deadline = deadline; dest = start.dest; msg = start.msg; kind = start.kind })
armed_next g s by w wanted deadline timer start wheel due told =
    let own : nat_eq timer.wheel w ≡ true = eq-eqb timer.wheel w wheel in
    let self : nat_eq timer.wheel timer.wheel ≡ true = eq-eqb timer.wheel timer.wheel refl in
    let same : nat_eq timer.slot timer.slot ≡ true = eq-eqb timer.slot timer.slot refl in
    let x : ℕ = s.above w timer.slot in
    let with_it : (next g s (arm_entry by timer start)).above w timer.slot
    ≡ above_with timer.generation x (deadline_of g start (s.looked (Caller by))) = rw (own, same) refl in
    let more : List Row → List Row = λ l. cond (nat_eq timer.wheel w) (cond (nat_eq timer.wheel w) (s.rows w ++ l) (s.rows w)) (s.rows w) in
    record {
      rows = ap (λ o. more (row_from timer start o)) due ∙ (rw own refl
          ∙ ap (λ d. let r : Row = record { timer = timer; deadline = d; dest = start.dest; msg = start.msg; kind = start.kind } in s.rows w ++ r ∷ []) told);
      last = λ j. rw own refl;
      above = with_it ∙ (ap (above_with timer.generation x) due ∙ ap (λ d. max x (d + 1)) told);
      uses = λ j not. (let other : nat_eq timer.slot j ≡ false = ne_eqb timer.slot j not in rw (own, other) refl);
      here = ap (λ b. cond ((nat_eq timer.wheel timer.wheel) && b) (Some Armed) (s.status timer)) (same_timer_self timer) ∙ rw self refl;
      other = λ r not. cond_false ((nat_eq timer.wheel r.wheel) && same_timer timer r) (Some Armed) (s.status r)
          (and_false (nat_eq timer.wheel r.wheel) (same_timer timer r) (same_timer-false timer r (λ same. not (sym same))));
    }

-- the rows that are held, with the new one
rows_armed : (g : Settings) (h : List Entry) (w k : ℕ) (slots : List Slot) (keys : List (Option Key)) (slot : Slot) (key : Key) (s t : State)
    (timer : TimerRef) (row : Row) → Legal g h → HoldsRows (state g h) w slots keys → IsLater w (state g h) s
    → ((j : ℕ) (seen : Key) → key_in keys j ≡ Some seen → IsLive (s.status (last_timer w slots j))) → IsArmed w s t timer row
    → timer ≡ last_timer w (set slots k slot) k → row ≡ held_row w (set slots k slot) k key → key.order ≡ length ((state g h).rows w)
    → k < length slots → k < length keys → key_in keys k ≡ None
    → ((n : ℕ) (x : Row) → slice_get ((state g h).rows w) n ≡ Some x → x.timer ≢ timer)
    → HoldsRows t w (set slots k slot) (set keys k (Some key))
rows_armed g h w k slots keys slot key s t timer row legal holds later live armed named row_is order low wide vacant fresh = record {
  each = λ j seen is.
      elim (cases_eq j k) [
        | inl here ↦
            subst (λ m. slice_get (t.rows w) seen.order ≡ Some (held_row w (set slots k slot) m seen)) (sym here)
            (subst (λ (x : Key). slice_get (t.rows w) x.order ≡ Some (held_row w (set slots k slot) k x)) (key_new keys k j key seen wide is here)
            (ap (λ rows. slice_get rows key.order) rows_are
            ∙ (ap (slice_get ((state g h).rows w ++ row ∷ [])) order ∙ (at_end ((state g h).rows w) row ∙ ap (λ (r : Row). Some r) row_is))))
        | inr other ↦
            ap (λ rows. slice_get rows seen.order) rows_are
            ∙ (at_front ((state g h).rows w) row seen.order (held_row w slots j seen) (holds.each j seen (key_kept keys k j key seen wide is other))
            ∙ ap (λ (x : Slot). let r : Row = record {
              timer = record { wheel = w; slot = j; generation = x.generation };
              deadline = seen.deadline;
              dest = x.dest;
              msg = x.msg;
              kind = x.kind;
            } in Some r) (sym (get_or-set_other slots k j slot unused other)))
      ];
  live = λ j seen is.
      elim (cases_eq j k) [
        | inl here ↦
            let armed_here : t.status (last_timer w (set slots k slot) j) ≡ Some Armed =
            ap t.status (ap (last_timer w (set slots k slot)) here ∙ sym named) ∙ armed.here in
            subst IsLive (sym armed_here) tt
        | inr other ↦
            let same : last_timer w (set slots k slot) j ≡ last_timer w slots j = kept_timer j other in
            let apart : last_timer w slots j ≢ timer = λ e. other (ap (λ (r : TimerRef). r.slot) (e ∙ named)) in
            subst IsLive (sym (ap t.status same ∙ armed.other (last_timer w slots j) apart)) (live j seen (key_kept keys k j key seen wide is other))
      ];
  armed = λ n x at is.
      elim (place_of ((state g h).rows w) row n x (ap (λ rows. slice_get rows n) (sym rows_are) ∙ at)) [
        | old less there ↦
            let was : s.status x.timer ≡ Some Armed = sym (armed.other x.timer (fresh n x there)) ∙ is in
            let held = holds.armed n x there (later.armed x.timer (row_wheel g h w n x legal there) was) in
            let other : x.timer.slot ≢ k =
            λ same. (let none : ◌≡◌ {A = Option Key} None (Some (record { deadline = x.deadline; order = n })) = sym vacant ∙ (ap (key_in keys) (sym same) ∙ held) in cc) in
            get_or-set_other keys k x.timer.slot (Some key) None other ∙ held
        | new here same ↦
            let x_is : x ≡ held_row w (set slots k slot) k key = sym same ∙ row_is in
            ap (λ (r : Row). key_in (set keys k (Some key)) r.timer.slot) x_is
            ∙ (get_or-set_same keys k (Some key) None wide
            ∙ subst (λ m. Some key ≡ Some (record { deadline = x.deadline; order = m })) (order ∙ sym here)
            (subst (λ (d : ℕ). Some key ≡ Some (record { deadline = d; order = key.order })) (sym (ap (λ (r : Row). r.deadline) x_is)) refl))
      ];
}
  where
    rows_are : t.rows w ≡ (state g h).rows w ++ row ∷ []
    rows_are = armed.rows ∙ ap (λ l. l ++ row ∷ []) later.rows

    kept_timer : (j : ℕ) → j ≢ k → last_timer w (set slots k slot) j ≡ last_timer w slots j
    kept_timer j other = ap (λ (x : Slot). let r : TimerRef = record { wheel = w; slot = j; generation = x.generation } in r)
        (get_or-set_other slots k j slot unused other)

-- no row has come but that of the timer
gains_armed : (p : Part) (k : ℕ) (coming : Use) (start : Start) (stands : List (Option ℕ)) (timer : TimerRef)
    → timer ≡ last_timer p.number (set p.slots k (slot_for coming (slot_at p.slots k).above start)) k → k < length p.keys
    → GainsOne {E = StartErr} p (kept p k start coming stands) (Ok timer)
gains_armed p k coming start stands timer named wide j seen is =
    let slot : Slot = slot_for coming (slot_at p.slots k).above start in
    elim (cases_eq j k) [
      | inl here ↦ inr (ap (λ (t : TimerRef). Ok t) (named ∙ ap (last_timer p.number (set p.slots k slot)) (sym here)))
      | inr other ↦ inl (
        key_kept p.keys k j (record { deadline = coming.deadline; order = p.arms }) seen wide is other,
        ap (λ (x : Slot). let t : TimerRef = record { wheel = p.number; slot = j; generation = x.generation } in t)
            (get_or-set_other p.slots k j slot unused other),
      )
    ]

-- the part stands with the new timer
pub arms : (g : Settings) (v : View) (by : ℕ) (p q : Part) (k : ℕ) (coming : Use) (start : Start) (timer : TimerRef) (u : View) → PartStands g v.front p
    → HoldsCaller g v by p.number → MayBecomeFree p k → IsUseFor g (state g v.front) by p.number k start coming
    → q ≡ kept p k start coming q.stands → timer ≡ last_timer q.number q.slots k → Appends g v (arm_entry by timer start) u
    → Arms g v by p q k coming start timer u
arms g v by p q k coming start timer u stands holds free can part timer_is step =
    let w : ℕ = p.number in
    let deadline : ℕ = coming.deadline in
    let slot : Slot = slot_for coming (slot_at p.slots k).above start in
    let key : Key = record { deadline = deadline; order = p.arms } in
    let r : Part = kept p k start coming q.stands in
    let named : timer ≡ last_timer w (set p.slots k slot) k = timer_is ∙ ap (λ (x : Part). last_timer x.number x.slots k) part in
    let slot_same : slot_at (set p.slots k slot) k ≡ slot = get_or-set_same p.slots k slot unused free.low in
    let wide : k < length p.keys = omega (arith, free.low, stands.holds.wide, stands.holds.many) in
    let s : State = state g (v.front ++ step.between) in
    let later = later_before g v (arm_entry by timer start) u w step holds.wheel in
    let look : s.looked (Caller by) ≡ (state g v.front).looked (Caller by) =
    ap (λ (x : State). x.looked (Caller by)) (state-append g v.front step.between)
    ∙ look_stays g (Caller by) (state g v.front) step.between (step.others (Caller by) holds.caller) in
    let generation : timer.generation ≡ coming.generation = new_generation p q k start coming timer free.low part timer_is in
    let row : Row = record { timer = timer; deadline = deadline; dest = start.dest; msg = start.msg; kind = start.kind } in
    let wheel : timer.wheel ≡ w = ap (λ (t : TimerRef). t.wheel) named in
    let armed : IsArmed w s (state g u.front) timer row =
    subst (λ t. IsArmed w s t timer row) (sym (stepped g v (arm_entry by timer start) u step))
    (armed_next g s by w can.wanted deadline timer start wheel (ap (deadline_of g start) look ∙ can.due)
    (told_of g v.front by w k start coming timer stands.legal can generation)) in
    let slot_is : timer.slot ≡ k = ap (λ (t : TimerRef). t.slot) named in
    let rises = clock_stepped g v (arm_entry by timer start) u stands.checked step in
    let row_is : row ≡ held_row w (set p.slots k slot) k key =
    ap (λ t. let x : Row = record { timer = t; deadline = deadline; dest = start.dest; msg = start.msg; kind = start.kind } in x) named
    ∙ ap (λ (x : Slot). let y : Row = record {
      timer = last_timer w (set p.slots k slot) k;
      deadline = deadline;
      dest = x.dest;
      msg = x.msg;
      kind = x.kind;
    } in y) (sym slot_same) in
    let has : has_actor (arm_entry by timer start) (Wheel w) ≡ true = eq-eqb timer.wheel w wheel in
    record {
      step = step;
      part = part;
      stands = subst (λ (x : Part). PartStands g u.front x) (sym part) (record {
        checked = stands.checked;
        legal = step.legal;
        holds = record {
          number = stands.holds.number;
          processes = stands.holds.processes;
          many = length-set p.slots k slot ∙ stands.holds.many;
          wide = length-set p.keys k (Some key) ∙ stands.holds.wide;
          rows = rows_armed g v.front w k p.slots p.keys slot key s (state g u.front) timer row stands.legal stands.holds.rows later
              (λ j seen is.
              live_before g v (arm_entry by timer start) u (last_timer w p.slots j) step holds.wheel (stands.holds.rows.live j seen is))
              armed named row_is stands.holds.arms free.low wide free.vacant
              (old_apart g v.front w k (use_of g (state g v.front) by w k start coming can) timer stands.legal can.can slot_is generation);
          lasts = λ j high.
              elim (cases_eq j k) [
                | inl here ↦ ap (λ m. (slot_at (set p.slots k slot) m).generation) here
                    ∙ (ap (λ (x : Slot). x.generation) slot_same
                    ∙ (sym generation
                    ∙ (sym (cond_is_true (nat_eq timer.slot j) timer.generation (s.last w j) (eq-eqb timer.slot j (slot_is ∙ sym here)))
                    ∙ sym (armed.last j))))
                | inr other ↦ ap (λ (x : Slot). x.generation) (get_or-set_other p.slots k j slot unused other)
                    ∙ (stands.holds.lasts j high
                    ∙ (sym (later.last j)
                    ∙ (sym (cond_false (nat_eq timer.slot j) timer.generation (s.last w j) (ne_eqb timer.slot j (λ e. other (sym e ∙ slot_is))))
                    ∙ sym (armed.last j))))
              ];
          aboves = λ j high.
              elim (cases_eq j k) [
                | inl here ↦ ap (λ m. (slot_at (set p.slots k slot) m).above) here
                    ∙ (ap (λ (x : Slot). x.above) slot_same
                    ∙ (ap (λ a. max a (deadline + 1)) (above_is j high here)
                    ∙ (sym armed.above ∙ ap ((state g u.front).above w) (slot_is ∙ sym here))))
                | inr other ↦ ap (λ (x : Slot). x.above) (get_or-set_other p.slots k j slot unused other)
                    ∙ (stands.holds.aboves j high
                    ∙ sym (ap (λ (x : Uses). x.above) (armed.uses j (λ e. other (sym e ∙ slot_is)) ∙ later.uses j)))
              ];
          arms = omega (arith, stands.holds.arms, ap length armed.rows, ap length later.rows, length-append (s.rows w) (row ∷ []));
          free = λ j is.
              let other : j ≢ k = λ here. (let out : sets.contains p.free j ≡ false = ap (sets.contains p.free) here ∙ free.away in cc) in
              let same : last_timer w (set p.slots k slot) j ≡ last_timer w p.slots j =
              ap (λ (x : Slot). let t : TimerRef = record { wheel = w; slot = j; generation = x.generation } in t)
              (get_or-set_other p.slots k j slot unused other) in
              let apart : last_timer w p.slots j ≢ timer = λ e. other (ap (λ (t : TimerRef). t.slot) e ∙ slot_is) in
              ap (λ t. is_taken ((state g u.front).status t)) same
              ∙ (ap is_taken (armed.other (last_timer w p.slots j) apart)
              ∙ later.free (last_timer w p.slots j) refl (stands.holds.free j is));
          ready = λ j is.
              let other : timer.slot ≢ j =
              λ e. (let out : sets.contains p.free j ≡ false = ap (sets.contains p.free) (sym e ∙ slot_is) ∙ free.away in cc) in
              same_since (uses_at (state g v.front) w j) (uses_at (state g u.front) w j) (clock_at g (state g v.front)) (clock_at g (state g u.front))
              (armed.uses j other ∙ later.uses j) rises (stands.holds.ready j is);
        };
        counted = record {
          arms = ap (λ n. n + 1) stands.counted.arms
              ∙ sym (count_more g v (arm_entry by timer start) u w is_arm step holds.wheel has refl);
          expires = stands.counted.expires ∙ sym (count_same g v (arm_entry by timer start) u w is_expire step holds.wheel refl);
          orphans = stands.counted.orphans ∙ sym (count_same g v (arm_entry by timer start) u w is_orphan step holds.wheel refl);
        };
      });
      holds = subst (λ (x : Part). HoldsTimer x timer deadline) (sym part) (subst (λ t. HoldsTimer r t deadline) (sym named) (record {
        order = p.arms;
        low = subst (λ n. k < n) (sym (length-set p.slots k slot)) free.low;
        held = get_or-set_same p.keys k (Some key) None wide;
        named = refl;
      }));
      dest = ap (λ (x : Part). (slot_at x.slots timer.slot).dest) part
          ∙ (ap (λ n. (slot_at (set p.slots k slot) n).dest) slot_is ∙ ap (λ (x : Slot). x.dest) slot_same);
      rows = subst (λ (x : Part). GainsOne {E = StartErr} p x (Ok timer)) (sym part) (gains_armed p k coming start q.stands timer named wide);
      named = timer_is;
    }
  where
    above_is : (j : ℕ) → j < g.slots → j ≡ k → (slot_at p.slots k).above ≡ (state g (v.front ++ step.between)).above p.number timer.slot
    above_is j high here =
        let later = later_before g v (arm_entry by timer start) u p.number step holds.wheel in
        let slot_is : timer.slot ≡ k = ap (λ (t : TimerRef). t.slot) (timer_is ∙ ap (λ (x : Part). last_timer x.number x.slots k) part) in
        stands.holds.aboves k (subst (λ n. n < g.slots) here high)
        ∙ (sym (ap (λ (x : Uses). x.above) (later.uses k)) ∙ ap ((state g (v.front ++ step.between)).above p.number) (sym slot_is))

    cond_is_true : (b : Bool) (x y : ℕ) → b ≡ true → cond b x y ≡ x
    cond_is_true true x y is = refl
    cond_is_true false x y is = absurd cc

-- a timer may be armed there
pub may_arm : (g : Settings) (v : View) (by : ℕ) (p q : Part) (k : ℕ) (coming : Use) (start : Start) (timer : TimerRef) → PartStands g v.front p
    → HoldsCaller g v by p.number → MayBecomeFree p k → is_taken ((state g v.front).status (last_timer p.number p.slots k)) ≡ false
    → start.dest < g.processes → IsUseFor g (state g v.front) by p.number k start coming → p.arms < 9007199254740992
    → q ≡ kept p k start coming q.stands → timer ≡ last_timer q.number q.slots k → MayStep g v (arm_entry by timer start)
may_arm g v by p q k coming start timer stands holds free usable dest can few part timer_is =
    let slot : Slot = slot_for coming (slot_at p.slots k).above start in
    let named : timer ≡ last_timer p.number (set p.slots k slot) k = timer_is ∙ ap (λ (x : Part). last_timer x.number x.slots k) part in
    let slot_same : slot_at (set p.slots k slot) k ≡ slot = get_or-set_same p.slots k slot unused free.low in
    let high : k < g.slots = subst (λ n. k < n) stands.holds.many free.low in
    let last_is : (slot_at p.slots k).generation ≡ (state g v.front).last p.number k = stands.holds.lasts k high in
    let here : timer ≡ record { wheel = p.number; slot = k; generation = coming.generation } =
    named ∙ ap (λ (x : Slot). let t : TimerRef = record { wheel = p.number; slot = k; generation = x.generation } in t) slot_same in
    subst (λ t. MayStep g v (arm_entry by t start)) (sym here) (record {
      ours = (holds.caller, holds.wheel);
      keeps = (holds.by_high, refl, record { wheel_high = stands.holds.number; slot_high = high }, dest);
      known = record {
        free = ap (λ n. is_taken ((state g v.front).status (timer_at p.number k n))) (sym last_is) ∙ usable;
        wanted = can.wanted;
        due = can.due;
        next_use = can.can;
        few = omega (arith, few, stands.holds.arms);
      };
    })
