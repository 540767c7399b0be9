-- A store of the word of a slot takes place as the start of a timer.

use Rattle.std.proofs.Common.{◌≡◌, ◌≢◌, ⊎_elim, ℕ, ℤ, ◌≤◌, Bool, true, false, cond, ◌&&◌, nat_eq, List, [], ◌∷◌, ◌++◌, All, Option, Some, None, option_map, refl, sym, ap, subst, ◌∙◌, append-nil, eq-eqb, eqb-true}
use Rattle.std.proofs.{lemmas.Bool.{and_parts, and_right}, Props.props}
use Rattle.ert_defs.specs.{Actors.has_actor, Legal.{CanArm, IsSlot, Legal}, Milliseconds.{natural, down, deadline_of}, States.{State, uses_at, next, state}, Timers.{IsNextUse, Row, Uses, deadline_told, row_from, row_of, same_timer}}
use Rattle.ert_defs.specs.{Timers.timer_at, Words.{timer_word, slot_word, word_of, word_of_slot}, declared.entry.Actor.Actor, declared.entry.Actor.TheVariants.{Wheel, Caller}, declared.entry.Entry.Entry, declared.settings.Settings.Settings}
use Rattle.ert_defs.specs.{declared.timer.Start.Start, declared.timer.Status.Status, declared.timer.Status.TheVariants.Armed, declared.timer.TimerRef.TimerRef, Entries.arm_entry}
use Rattle.ert_defs.proofs.{ExpiredTimers.{row_named, same_timer_self}, Standing.of_row, Rows.{IsRow, rows_hold}, Runs.legal_one_more, Slots.{IsOrdered, ordered, same_timer-true}, Uses.{IsBefore, Use, due as due_of, before_self, fresh}}
use Rattle.ert_defs.proofs.{Uses.{told_high as told_later, told_is}}
use Rattle.ert_table.specs.{Ranges.IsTimer, Acts.{Acts, IsHistoryAtStep}, Places.slot_place, Takes.MayStep, Rule.IsLegalBy, declared.view.View.View}
use Rattle.ert_table.proofs.{Holders.tells, AtSteps.look_then, Hits.other_timer, OneStep.{grows, legal_by}, WordPlaces.word_of-slot, WordSteps.{cond_same, word_same}}

-- a start that has a deadline
record HasDeadline (timer : TimerRef) (o : Option ℕ) (deadline : ℕ) : Type 0 where
  wanted : ℕ
  some : o ≡ Some wanted
  told : deadline_told timer.generation wanted ≡ deadline

has_deadline : (timer : TimerRef) (o : Option ℕ) (deadline : ℕ) → option_map (deadline_told timer.generation) o ≡ Some deadline
    → HasDeadline timer o deadline
has_deadline timer None deadline due = absurd cc
has_deadline timer (Some wanted) deadline due = record { wanted = wanted; some = refl; told = cc }

-- the use of a slot that a start makes
abbrev use_by : ℤ → ℕ → TimerRef → Settings → Use
use_by look wanted timer g = record { now = natural (down g look); wanted = wanted; generation = timer.generation }

-- the timer that is started has a word
pub in_range_at : (g : Settings) (s : State) (look : ℤ) (timer : TimerRef) (o : Option ℕ) (wanted deadline : ℕ) → IsOrdered s → o ≡ Some wanted
    → IsNextUse (uses_at s timer.wheel timer.slot) (natural (down g look)) wanted timer.generation
    → option_map (deadline_told timer.generation) o ≡ Some deadline → IsTimer deadline timer.generation
in_range_at g s look timer o wanted deadline order some next_use due =
    let u : Uses = uses_at s timer.wheel timer.slot in
    let t : Use = use_by look wanted timer g in
    let sound = (order timer.wheel timer.slot).sound in
    let own = before_self u t sound next_use in
    let has = has_deadline timer o deadline due in
    let same : has.wanted ≡ wanted = (let is : Some has.wanted ≡ Some wanted = sym has.some ∙ some in cc) in
    let told : deadline_told timer.generation wanted ≡ deadline = ap (deadline_told timer.generation) (sym same) ∙ has.told in
    let is : deadline ≡ due_of u t = sym told ∙ told_is u t sound next_use in
    record {
      deadline_high = subst (λ d. d ≤ 8796093022207) (sym is) next_use.within;
      generation_low = own.low;
      generation_first = own.small;
      generation_tells = λ later. sym (told_later timer.generation wanted later) ∙ told;
      generation_high = own.high;
    }

pub arm_is : (g : Settings) (v : View) (by : ℕ) (timer : TimerRef) (start : Start) (deadline : ℕ) → v.settings ≡ Some g
    → ∥ IsLegalBy v.settings v.front ∥₁ → MayStep g v (arm_entry by timer start)
    → option_map (deadline_told timer.generation) (deadline_of g start ((state g v.front).looked (Caller by))) ≡ Some deadline
    → IsTimer deadline timer.generation
arm_is g v by timer start deadline named legal may due =
    let prop : IsProp (IsTimer deadline timer.generation) = hlevel props in
    legal_by g v.settings v.front prop named legal
    (λ h. in_range_at g (state g v.front) ((state g v.front).looked (Caller by)) timer _ may.known.wanted deadline (ordered g v.front h) may.known.due
    may.known.next_use due)

-- a row for another timer is not found
row_first : (x : Row) (r : TimerRef) (o : Option Row) → x.timer ≢ r → cond (same_timer x.timer r) (Some x) o ≡ o
row_first x r o not =
    ⊎_elim (λ same. absurd (not (same_timer-true x.timer r same))) (λ differs. rw differs refl) (tells (same_timer x.timer r))

row_of-other : (rows : List Row) (row : Row) (r : TimerRef) → row.timer ≢ r → row_of (rows ++ row ∷ []) r ≡ row_of rows r
row_of-other [] row r not = row_first row r None not
row_of-other (x ∷ rows) row r not = ap (λ o. cond (same_timer x.timer r) (Some x) o) (row_of-other rows row r not)

-- a row at the end is found, where there was none before
row_of-last : (rows : List Row) (row : Row) → row_of rows row.timer ≡ None → row_of (rows ++ row ∷ []) row.timer ≡ Some row
row_of-last [] row none = rw (same_timer_self row.timer) refl
row_of-last (x ∷ rows) row none = at (same_timer x.timer row.timer) (row_of-last rows row) none
  where
    at : (b : Bool) → (row_of rows row.timer ≡ None → row_of (rows ++ row ∷ []) row.timer ≡ Some row)
        → cond b (Some x) (row_of rows row.timer) ≡ None → cond b (Some x) (row_of (rows ++ row ∷ []) row.timer) ≡ Some row
    at true more h = absurd cc
    at false more h = more h

-- a timer that can be armed has no row yet
row_new : (g : Settings) (s : State) (by : Actor) (timer : TimerRef) (deadline : Option ℕ) (o : Option Row) → IsOrdered s
    → All (IsRow timer.wheel (uses_at s timer.wheel)) (s.rows timer.wheel) → CanArm g s by timer deadline
    → row_of (s.rows timer.wheel) timer ≡ o → row_of (s.rows timer.wheel) timer ≡ None
row_new g s by timer deadline None order each can is = is
row_new g s by timer deadline (Some row) order each can is =
    let w : ℕ = timer.wheel in
    let is_row : IsRow w (uses_at s w) row = of_row (IsRow w (uses_at s w)) (s.rows w) timer row each is in
    let named : row.timer ≡ timer = row_named (s.rows w) row timer is in
    let used : IsBefore (uses_at s w timer.slot) timer.generation = subst (λ (t : TimerRef). IsBefore (uses_at s w t.slot) t.generation) named is_row.used in
    absurd (fresh (uses_at s w timer.slot) (use_by (s.looked by) can.wanted timer g) timer.generation (order w timer.slot).sound can.next_use used refl)

row_from_told : (timer : TimerRef) (start : Start) (o : Option ℕ) (deadline : ℕ) → option_map (deadline_told timer.generation) o ≡ Some deadline
    → row_from timer start o ≡ (record { timer = timer; deadline = deadline; dest = start.dest; msg = start.msg; kind = start.kind }) ∷ []
row_from_told timer start None deadline due = absurd cc
row_from_told timer start (Some wanted) deadline due =
    let told : deadline_told timer.generation wanted ≡ deadline = cc in
    ap (λ d. let r : Row = record { timer = timer; deadline = d; dest = start.dest; msg = start.msg; kind = start.kind } in r ∷ []) told

module _ (g : Settings) (by : ℕ) (timer : TimerRef) (start : Start) (deadline : ℕ) where
  abbrev e : Entry
  e = arm_entry by timer start

  abbrev place : ℕ
  place = slot_place g timer.wheel timer.slot

  abbrev row : Row
  row = record { timer = timer; deadline = deadline; dest = start.dest; msg = start.msg; kind = start.kind }

  has_wheel : has_actor e (Wheel timer.wheel) ≡ true
  has_wheel = eq-eqb timer.wheel timer.wheel refl

  -- another slot stays as it is
  rows_other : (rows : List Row) (b c : Bool) (d : Option ℕ) (r : TimerRef) → same_timer timer r ≡ false
      → row_of (cond b (cond c (rows ++ row_from timer start d) rows) rows) r ≡ row_of rows r
  rows_other rows false c d r not = refl
  rows_other rows true false d r not = refl
  rows_other rows true true None r not = ap (λ x. row_of x r) (append-nil rows)
  rows_other rows true true (Some d) r not =
      row_of-other rows (record { timer = timer; deadline = deadline_told timer.generation d; dest = start.dest; msg = start.msg; kind = start.kind }) r
      (λ is. (let yes : same_timer timer r ≡ true = subst (λ t. same_timer timer t ≡ true) is (same_timer_self timer) in
      let no : true ≡ false = sym yes ∙ not in cc))

  last_other : (j w k n : ℕ) (b : Bool) → j ≢ place → j ≡ slot_place g w k
      → cond b (cond (nat_eq timer.wheel w && nat_eq timer.slot k) timer.generation n) n ≡ n
  last_other j w k n b not is =
      ⊎_elim
      (λ same. (let parts = and_parts (nat_eq timer.wheel w) (nat_eq timer.slot k) same in
      let wheel : timer.wheel ≡ w = eqb-true timer.wheel w parts.0 in
      let slot : timer.slot ≡ k = eqb-true timer.slot k parts.1 in
      absurd (not (is ∙ sym (ap (λ x. slot_place g x timer.slot) wheel ∙ ap (slot_place g w) slot)))))
      (λ differs. rw differs (cond_same b n))
      (tells (nat_eq timer.wheel w && nat_eq timer.slot k))

  status_other : (b : Bool) (r : TimerRef) (x : Option Status) → same_timer timer r ≡ false → cond (b && same_timer timer r) (Some Armed) x ≡ x
  status_other b r x not =
      let none : (b && same_timer timer r) ≡ false = and_right b (same_timer timer r) not in
      rw none refl

  -- all other words stay as they are
  pub arm_others : (s : State) (j : ℕ) → j ≢ place → word_of g (next g s e) j ≡ word_of g s j
  arm_others s j not = word_same g s (next g s e) j (record {
    time = λ _. refl;
    offset = λ _. refl;
    slot = λ w k is _. record {
      last = last_other j w k (s.last w k) (has_actor e (Wheel w)) not is;
      status = λ m. status_other (has_actor e (Wheel w)) (timer_at w k m) (s.status (timer_at w k m)) (other_timer g timer j w k m not is);
      row = λ m. rows_other (s.rows w) (has_actor e (Wheel w)) (nat_eq timer.wheel w)
          (deadline_of g start (s.looked (Caller by))) (timer_at w k m) (other_timer g timer j w k m not is);
    };
    process = λ p _. refl;
  })

  module _ (h : List Entry) (legal : Legal g h)
      (can : CanArm g (state g h) (Caller by) timer (deadline_of g start ((state g h).looked (Caller by))))
      (due : option_map (deadline_told timer.generation) (deadline_of g start ((state g h).looked (Caller by))) ≡ Some deadline) where
    abbrev s : State
    s = state g h

    abbrev armed : State
    armed = next g s e

    -- the rows of the wheel after the step
    rows_then : armed.rows timer.wheel ≡ s.rows timer.wheel ++ row ∷ []
    rows_then =
        rw has_wheel (ap (λ rows. s.rows timer.wheel ++ rows) (row_from_told timer start (deadline_of g start (s.looked (Caller by))) deadline due))

    arm_slot : word_of_slot armed timer.wheel timer.slot ≡ timer_word Armed deadline timer.generation
    arm_slot =
        let w : ℕ = timer.wheel in
        let k : ℕ = timer.slot in
        let none : row_of (s.rows w) timer ≡ None =
        row_new g s (Caller by) timer _ (row_of (s.rows w) timer) (ordered g h legal) (rows_hold g h w legal).each can refl in
        let last' : armed.last w k ≡ timer.generation = rw (has_wheel, eq-eqb k k refl) refl in
        let status' : armed.status timer ≡ Some Armed = rw (has_wheel, eq-eqb k k refl, eq-eqb timer.generation timer.generation refl) refl in
        let row' : row_of (armed.rows w) timer ≡ Some row = ap (λ rows. row_of rows timer) rows_then ∙ row_of-last (s.rows w) row none in
        ap (λ m. slot_word (armed.status (timer_at w k m)) (row_of (armed.rows w) (timer_at w k m)) m) last'
        ∙ (ap (λ x. slot_word x (row_of (armed.rows w) timer) timer.generation) status'
        ∙ ap (λ x. slot_word (Some Armed) x timer.generation) row')

    -- the word of the slot is that of the timer
    pub arm_here : IsSlot g timer.wheel timer.slot → word_of g armed place ≡ timer_word Armed deadline timer.generation
    arm_here slot = word_of-slot g armed timer.wheel timer.slot slot.wheel_high slot.slot_high ∙ arm_slot

-- a start sets the word of its slot alone
pub arm_acts : (g : Settings) (v : View) (by : ℕ) (timer : TimerRef) (start : Start) (deadline : ℕ) → MayStep g v (arm_entry by timer start)
    → option_map (deadline_told timer.generation) (deadline_of g start ((state g v.front).looked (Caller by))) ≡ Some deadline
    → Acts g v (slot_place g timer.wheel timer.slot) (λ n. timer_word Armed deadline timer.generation) (λ n. arm_entry by timer start)
arm_acts g v by timer start deadline may due = record {
  ours = λ n. may.ours;
  keeps = λ n. may.keeps;
  known = λ n. may.known;
  found = λ h n then. tt;
  here = λ h n then. arm_here g by timer start deadline h then.legal (can_then h n then) (due_then h n then) may.keeps.2;
  others = λ h n j then lt not. arm_others g by timer start deadline (state g h) j not;
}
  where
    -- what is known at the step
    can_then : (h : List Entry) (n : ℕ) → IsHistoryAtStep g v (slot_place g timer.wheel timer.slot) n h
        → CanArm g (state g h) (Caller by) timer (deadline_of g start ((state g h).looked (Caller by)))
    can_then h n then = ((legal_one_more g h (arm_entry by timer start)).0
        (grows g v (slot_place g timer.wheel timer.slot) n (arm_entry by timer start) h then may.ours may.keeps may.known tt)).1.known

    due_then : (h : List Entry) (n : ℕ) → IsHistoryAtStep g v (slot_place g timer.wheel timer.slot) n h
        → option_map (deadline_told timer.generation) (deadline_of g start ((state g h).looked (Caller by))) ≡ Some deadline
    due_then h n then =
        ap (λ look. option_map (deadline_told timer.generation) (deadline_of g start look))
        (look_then g v (slot_place g timer.wheel timer.slot) n h then (Caller by) may.ours.0) ∙ due
