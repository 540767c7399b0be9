-- The rows of a wheel after a legal history: each is of that wheel and has a generation that was used of
-- its slot, and no two have one reference.

use Rattle.std.proofs.Common.{◌≡◌, ◌≢◌, ℕ, ℤ, Bool, true, false, cond, ◌&&◌, nat_eq, List, ◌++◌, All, AllPairs, Option, Some, None, refl, sym, ap, subst, ◌∙◌, arith, append-nil, get_or, eqb-true, eq-eqb}
use Rattle.std.proofs.lemmas.List.{Elements.{All-nil, All-push, All-weaker}, Quantifiers.all_pairs_push}
use Rattle.ert_defs.specs.{Actors.has_actor, Legal.{Can, Known, Legal}, Milliseconds.deadline_of, States.{State, uses_at, opening, next, state}, Timers.{Row, Uses, row_from, rows_after, deadline_told, timer_at}, declared.entry.Actor.Actor}
use Rattle.ert_defs.specs.{declared.entry.Actor.TheVariants.Wheel, declared.entry.Entry.Entry, declared.entry.Event.Event, declared.entry.Event.TheVariants.Arm, declared.settings.Settings.Settings, declared.timer.Start.Start}
use Rattle.ert_defs.specs.{declared.timer.TimerRef.TimerRef}
use Rattle.ert_defs.proofs.{Runs.kept_from, Slots.{IsOrdered, MayUse, can_use, ordered_next, ordered_opening, uses_after, uses_told, uses_with}, Uses.{IsBefore, Use, before_self, before_stays, fresh, used}}

-- a row of a wheel whose slots have these uses
pub record IsRow (w : ℕ) (uses : ℕ → Uses) (r : Row) : Type 0 where
  pub wheel : r.timer.wheel ≡ w
  pub used : IsBefore (uses r.timer.slot) r.timer.generation

-- two rows have two references
abbrev pub Differ : Row → Row → Type 0
Differ a b = a.timer ≢ b.timer

pub record AreRows (w : ℕ) (uses : ℕ → Uses) (rows : List Row) : Type 0 where
  pub each : All (IsRow w uses) rows
  pub apart : AllPairs Differ rows

-- what the uses of a slot are by an event that has its wheel: another generation is armed, or they stay
pub record Grows (u v : Uses) : Type 0 where
  pub before : (n : ℕ) → IsBefore u n → IsBefore v n

grows_same : (u : Uses) → Grows u u
grows_same u = record { before = λ n is. is }

-- the uses of the slots of a wheel after an event of it, or not
abbrev pub slots_after : Settings → ℤ → Bool → ℕ → (ℕ → Uses) → Event → ℕ → Uses
slots_after g look b w uses event k = uses_after g look b w k (uses k) event

pub uses_grow : (g : Settings) (s : State) (by : Actor) (with : Option Actor) (w k : ℕ) (b : Bool) (event : Event) → IsOrdered s → Known g s by with event
    → Grows (uses_at s w k) (uses_after g (s.looked by) b w k (uses_at s w k) event)
uses_grow g s by with w k false event ordered known = grows_same (uses_at s w k)
uses_grow g s by with w k true (Arm timer start) ordered known =
    by_place (nat_eq timer.wheel w && nat_eq timer.slot k) (can_use g s by timer _ w k known)
  where
    deadline : Option ℕ
    deadline = deadline_of g start (s.looked by)

    by_place : (here : Bool) → (here ≡ true → MayUse (λ n. s.status (timer_at w k n)) (uses_at s w k) deadline timer.generation)
        → Grows (uses_at s w k) (uses_with here deadline timer.generation (uses_at s w k))
    by_place true may =
        let m = may refl in
        let t : Use = record { now = m.now; wanted = m.wanted; generation = timer.generation } in
        let sound = (ordered w k).sound in
        record {
          before = λ n is. subst (λ v. IsBefore v n) (sym (uses_told (uses_at s w k) deadline t sound m.can m.due))
              (before_stays (uses_at s w k) t n sound m.can is);
        }
    by_place false may = grows_same (uses_at s w k)
uses_grow g s by with w k true _ ordered known = grows_same (uses_at s w k)

wider : (w : ℕ) (uses later : ℕ → Uses) → ((k : ℕ) → Grows (uses k) (later k)) → (rows : List Row) → AreRows w uses rows → AreRows w later rows
wider w uses later grows rows h = record {
  each = All-weaker (IsRow w uses) (IsRow w later)
      (λ r is. record { wheel = is.wheel; used = (grows r.timer.slot).before r.timer.generation is.used }) rows h.each;
  apart = h.apart;
}

-- the row of the next generation of a slot is a new one
more : (w : ℕ) (uses later : ℕ → Uses) → ((k : ℕ) → Grows (uses k) (later k)) → (rows : List Row) (timer : TimerRef) (start : Start) (deadline : Option ℕ)
    → timer.wheel ≡ w → (IsBefore (uses timer.slot) timer.generation → ⊥) → IsBefore (later timer.slot) timer.generation
    → AreRows w uses rows → AreRows w later (rows ++ row_from timer start deadline)
more w uses later grows rows timer start None wheel new own h = rw append-nil (wider w uses later grows rows h)
more w uses later grows rows timer start (Some wanted) wheel new own h =
    let r : Row = record { timer = timer; deadline = deadline_told timer.generation wanted; dest = start.dest; msg = start.msg; kind = start.kind } in
    let differs : (x : Row) → IsRow w uses x → Differ x r = λ x is same.
    new (subst (λ (t : TimerRef). IsBefore (uses t.slot) t.generation) same is.used) in
    let wide = wider w uses later grows rows h in
    record {
      each = All-push (IsRow w later) rows r wide.each (record { wheel = wheel; used = own });
      apart = all_pairs_push Differ rows r h.apart (λ k d lt. differs (get_or rows k d) (h.each k d lt));
    }

rows_arm : (g : Settings) (s : State) (by : Actor) (with : Option Actor) (w : ℕ) (timer : TimerRef) (start : Start) (b : Bool)
    → nat_eq timer.wheel w ≡ b → IsOrdered s → Known g s by with (Arm timer start) → AreRows w (uses_at s w) (s.rows w)
    → AreRows w (slots_after g (s.looked by) true w (uses_at s w) (Arm timer start))
    (cond b (s.rows w ++ row_from timer start (deadline_of g start (s.looked by))) (s.rows w))
rows_arm g s by with w timer start true is ordered known h =
    let k : ℕ = timer.slot in
    let deadline : Option ℕ = deadline_of g start (s.looked by) in
    let own : nat_eq k k ≡ true = eq-eqb k k refl in
    let here : (nat_eq timer.wheel w && nat_eq timer.slot k) ≡ true = rw (is, own) refl in
    let m = can_use g s by timer _ w k known here in
    let t : Use = record { now = m.now; wanted = m.wanted; generation = timer.generation } in
    let u : Uses = uses_at s w k in
    let sound = (ordered w k).sound in
    let later : uses_with (nat_eq timer.wheel w && nat_eq timer.slot k) deadline timer.generation u ≡ used u t =
    ap (λ c. uses_with c deadline timer.generation u) here ∙ uses_told u deadline t sound m.can m.due in
    more w (uses_at s w) (slots_after g (s.looked by) true w (uses_at s w) (Arm timer start))
    (λ j. uses_grow g s by with w j true (Arm timer start) ordered known)
    (s.rows w) timer start deadline (eqb-true timer.wheel w is)
    (λ before. fresh u t timer.generation sound m.can before refl)
    (subst (λ v. IsBefore v timer.generation) (sym later) (before_self u t sound m.can)) h
rows_arm g s by with w timer start false is ordered known h =
    wider w (uses_at s w) (slots_after g (s.looked by) true w (uses_at s w) (Arm timer start))
    (λ j. uses_grow g s by with w j true (Arm timer start) ordered known) (s.rows w) h

rows_with : (g : Settings) (s : State) (by : Actor) (with : Option Actor) (w : ℕ) (b : Bool) (event : Event) → IsOrdered s → Known g s by with event
    → AreRows w (uses_at s w) (s.rows w)
    → AreRows w (slots_after g (s.looked by) b w (uses_at s w) event) (cond b (rows_after g (s.looked by) w (s.rows w) event) (s.rows w))
rows_with g s by with w false event ordered known h = h
rows_with g s by with w true (Arm timer start) ordered known h = rows_arm g s by with w timer start (nat_eq timer.wheel w) refl ordered known h
rows_with g s by with w true _ ordered known h = h

-- the generations of all slots are in order, and so are the rows of a wheel
pub record KeepsRows (w : ℕ) (s : State) : Type 0 where
  pub order : IsOrdered s
  pub rows : AreRows w (uses_at s w) (s.rows w)

pub rows_next : (g : Settings) (w : ℕ) (s : State) (e : Entry) → KeepsRows w s → Can g s e → KeepsRows w (next g s e)
rows_next g w s e h can = record {
  order = ordered_next g s e h.order can;
  rows = rows_with g s e.by e.with w (has_actor e (Wheel w)) e.event h.order can.known h.rows;
}

-- the rows of each wheel after a legal history
pub rows_hold : (g : Settings) (h : List Entry) (w : ℕ) → Legal g h → AreRows w (uses_at (state g h) w) ((state g h).rows w)
rows_hold g h w legal =
    (kept_from g (KeepsRows w) (rows_next g w) (opening g) h
    (record {
      order = ordered_opening g;
      rows = record { each = All-nil (IsRow w (λ k. uses_at (opening g) w k)); apart = λ i j d lt le. absurd (omega arith) };
    }) legal).rows
