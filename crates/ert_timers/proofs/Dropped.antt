-- Rows are looked at, and those of settled timers go.

use Rattle.std.proofs.Common.{◌≡◌, ◌≢◌, ℕ, ◌+◌, ◌<◌, ◌≤◌, true, false, List, length, Option, Some, None, option_map, inl, inr, refl, sym, ap, subst, ◌∙◌, arith}
use Rattle.std.proofs.lemmas.Bool.{cases_eq}
use Rattle.ert_defs.specs.{Laws.is_armed, States.{State, state}, Timers.{Row, row_of, timer_at}, declared.entry.Entry.Entry, declared.settings.Settings.Settings, declared.timer.Status.Status, declared.timer.Status.TheVariants.Armed}
use Rattle.ert_defs.specs.{declared.timer.Status.TheVariants.{Expired, Delivered, Cancelled, Orphaned, Dropped}, declared.timer.TimerRef.TimerRef}
use Rattle.ert_table.specs.Settlings.{shown_by, shown_in}
use Rattle.ert_timers.specs.{Changes.given_back, Dropping.{DropsRow, DropsRows}, Freeing.IsHeld, Parts.{Part, PartStands, last_timer}, Passed.LosesRows, Starting.status_shown, Tidy.IsTidy}
use Rattle.ert_timers.proofs.{Freed.{frees_given, frees_none, frees_then}, Passing.{loses_none, loses_then, same_last}, Tried.held_found}
use Rattle.ert_wheel.specs.{Rows.key_in, declared.row.Key.Key}
use Rattle.ert_wheel.proofs.Looking.{key_low}

pub armed_is : (x : Option Status) → is_armed x ≡ true → x ≡ Some Armed
armed_is None is = absurd cc
armed_is (Some Armed) is = refl
armed_is (Some Expired) is = absurd cc
armed_is (Some Delivered) is = absurd cc
armed_is (Some Cancelled) is = absurd cc
armed_is (Some Orphaned) is = absurd cc
armed_is (Some Dropped) is = absurd cc

unarmed : (x : Option Status) → is_armed x ≡ false → x ≢ Some Armed
unarmed x not is = (let bad : true ≡ false = sym (ap is_armed is) ∙ not in cc)

some_of : {X : Type 0} (f : Key → X) (o : Option Key) (x : X) → option_map f o ≡ Some x → (key : Key) × (o ≡ Some key) × (f key ≡ x)
some_of f None x is = absurd cc
some_of f (Some key) x is = (key, refl, cc)

-- whether a slot has a row, as the row tells
pub told_some : {X : Type 0} (f : Key → X) (o : Option Key) (row : Option X) (x : X) → row ≡ option_map f o → row ≡ Some x
    → (key : Key) × (o ≡ Some key) × (f key ≡ x)
told_some f o row x told is = some_of f o x (sym told ∙ is)

none_of : {X : Type 0} (f : Key → X) (o : Option Key) → option_map f o ≡ None → o ≡ None
none_of f None is = refl
none_of f (Some key) is = absurd cc

pub told_none : {X : Type 0} (f : Key → X) (o : Option Key) (row : Option X) → row ≡ option_map f o → row ≡ None → o ≡ None
told_none f o row told is = none_of f o (sym told ∙ is)

-- a timer with a row is shown with its status
shown_status : (o : Option Status) (row : Row) (generation : ℕ) → status_shown (shown_by o (Some row) generation) ≡ o
shown_status None row generation = refl
shown_status (Some status) row generation = refl

-- so a slot with a row shows the status of its last timer
pub status_seen : (g : Settings) (h : List Entry) (p : Part) (k : ℕ) (key : Key) → PartStands g h p → key_in p.keys k ≡ Some key
    → status_shown (shown_in (state g h) p.number k) ≡ (state g h).status (last_timer p.number p.slots k)
status_seen g h p k key stands held =
    let s : State = state g h in
    let w : ℕ = p.number in
    let low : k < g.slots = subst (λ n. k < n) stands.holds.wide (key_low p.keys k key held) in
    let last : last_timer w p.slots k ≡ timer_at w k (s.last w k) = ap (timer_at w k) (stands.holds.lasts k low) in
    let shown : (timer : TimerRef) → timer ≡ last_timer w p.slots k
    → status_shown (shown_by (s.status timer) (row_of (s.rows w) timer) (s.last w k)) ≡ s.status (last_timer w p.slots k) =
    λ timer is.
    ap (λ t. status_shown (shown_by (s.status t) (row_of (s.rows w) t) (s.last w k))) is
    ∙ (ap (λ o. status_shown (shown_by (s.status (last_timer w p.slots k)) o (s.last w k))) (held_found g h p k key stands held)
    ∙ shown_status (s.status (last_timer w p.slots k)) _ (s.last w k)) in
    shown (timer_at w k (s.last w k)) (sym last)

-- a slot whose row stays: the timer was seen armed
pub drops_none : (g : Settings) (h : List Entry) (p : Part) (k : ℕ) (key : Key) → PartStands g h p → key_in p.keys k ≡ Some key
    → is_armed (status_shown (shown_in (state g h) p.number k)) ≡ true → DropsRow g h p p k
drops_none g h p k key stands held armed = record {
  stands = stands;
  loses = loses_none p;
  frees = frees_none p;
  here = λ seen is. armed_is ((state g h).status (last_timer p.number p.slots k)) (ap is_armed (sym (status_seen g h p k key stands held)) ∙ armed);
}

-- it has none
pub drops_empty : (g : Settings) (h : List Entry) (p : Part) (k : ℕ) → PartStands g h p → key_in p.keys k ≡ None → DropsRow g h p p k
drops_empty g h p k stands none = record {
  stands = stands;
  loses = loses_none p;
  frees = frees_none p;
  here = λ key is. (let bad : None ≡ Some key = sym none ∙ is in absurd cc);
}

-- a timer that was seen settled
pub settled_seen : (g : Settings) (h : List Entry) (p : Part) (k : ℕ) (key : Key) → PartStands g h p → key_in p.keys k ≡ Some key
    → is_armed (status_shown (shown_in (state g h) p.number k)) ≡ false → (state g h).status (last_timer p.number p.slots k) ≢ Some Armed
settled_seen g h p k key stands held not =
    unarmed ((state g h).status (last_timer p.number p.slots k)) (ap is_armed (sym (status_seen g h p k key stands held)) ∙ not)

-- its row has gone
pub drops_one : (g : Settings) (h : List Entry) (p q : Part) (k : ℕ) (timer : TimerRef) → timer ≡ last_timer p.number p.slots k → k < length p.slots
    → PartStands g h q → LosesRows p q → (IsHeld q timer → ⊥) → q ≡ given_back p k false → DropsRow g h p q k
drops_one g h p q k timer named low stands loses gone is = record {
  stands = stands;
  loses = loses;
  frees = frees_given p q k false is;
  here = λ key is.
      let slot : timer.slot ≡ k = ap (λ (t : TimerRef). t.slot) named in
      absurd (gone (record {
        low = subst (λ n. n < length q.slots) (sym slot) (subst (λ slots. k < length slots) (sym loses.slots) low);
        named = named ∙ (sym (same_last p q k loses) ∙ ap (last_timer q.number q.slots) (sym slot));
        row = λ none. (let bad : None ≡ Some key = sym (ap (key_in q.keys) (sym slot) ∙ none) ∙ is in cc);
      }));
}

-- no slot was looked at yet
pub drops_first : (g : Settings) (h : List Entry) (p : Part) → PartStands g h p → DropsRows g h p p 0
drops_first g h p stands = record { stands = stands; loses = loses_none p; frees = frees_none p; below = λ k key low is. absurd (omega (arith, low)) }

-- one more was
pub drops_more : (g : Settings) (h : List Entry) (p q r : Part) (n : ℕ) → DropsRows g h p q n → DropsRow g h q r n → DropsRows g h p r (n + 1)
drops_more g h p q r n some one = record {
  stands = one.stands;
  loses = loses_then p q r some.loses one.loses;
  frees = frees_then p q r some.loses one.loses.frees some.frees one.frees;
  below = λ k key low is.
      elim (cases_eq k n) [
        | inl here ↦ subst (λ m. (state g h).status (last_timer r.number r.slots m) ≡ Some Armed) (sym here)
            (one.here key (ap (key_in r.keys) (sym here) ∙ is))
        | inr other ↦ ap (state g h).status (same_last q r k one.loses) ∙ some.below k key (omega (arith, low, other)) (one.loses.left k key is)
      ];
}

-- where every slot was looked at, the part is tidy
pub left_tidy : (g : Settings) (h : List Entry) (p q : Part) (n : ℕ) → DropsRows g h p q n → length p.slots ≤ n → IsTidy (state g h) q
left_tidy g h p q n all high k key is =
    let low : k < length q.keys = key_low q.keys k key is in
    all.below k key (omega (arith, low, high, all.stands.holds.wide, all.stands.holds.many, ap length all.loses.slots)) is
