-- A cancel by a pass that holds every actor settles one timer at most, and says by its answer whether it did.

use Rattle.std.proofs.Common.{◌≡◌, ◌≢◌, ℕ, ℤ, Bool, true, false, cond, List, [], ◌∷◌, ◌++◌, Option, Some, None, option_map, refl, sym, ap, subst, ◌∙◌, append_assoc}
use Rattle.ert_defs.specs.{Actors.has_actor, Entries.{look_entry, peek_entry, cancel_entry}, Legal.{Can, Legal, left_by, left_of, names_timer}, Milliseconds.left, States.{State, next, opening, run, state}, Timers.{Row, row_of, same_timer}}
use Rattle.ert_defs.specs.{Timers.settled_as, declared.entry.Actor.Actor, declared.entry.Actor.TheVariants.Wheel, declared.entry.Entry.Entry, declared.settings.Settings.Settings, declared.timer.Status.Status}
use Rattle.ert_defs.specs.{declared.timer.Status.TheVariants.{Armed, Expired, Delivered, Cancelled, Orphaned, Dropped}, declared.timer.TimerRef.TimerRef}
use Rattle.ert_defs.proofs.{ExpiredTimers.same_timer_self, Runs.{legal_then, state-append}, Slots.same_timer-true}
use Rattle.ert_effects.specs.TimerCalls.{cancel_entries}
use Rattle.ert_table.proofs.Calls.{whole_exact}
use Rattle.ert_timers.specs.{Laws.LawOfWholeCancels, Parts.{Part, last_timer, held_row}, Tidy.IsTidy}
use Rattle.ert_timers.proofs.{Later.later_entry, StayArmed.{settles, stays_armed}, Tried.held_found}
use Rattle.ert_wheel.specs.{Rows.key_in, declared.row.Key.Key}

stays_next : (g : Settings) (s : State) (e : Entry) (r : TimerRef) → settles e.event r ≡ false → s.status r ≡ Some Armed
    → (next g s e).status r ≡ Some Armed
stays_next g s e r unmet is = stays_armed r (has_actor e (Wheel r.wheel)) (s.status r) e.event unmet is

settled_not : (x : Option Status) → settled_as Cancelled x ≢ Some Armed
settled_not None is = cc
settled_not (Some Armed) is = cc
settled_not (Some Expired) is = cc
settled_not (Some Delivered) is = cc
settled_not (Some Cancelled) is = cc
settled_not (Some Orphaned) is = cc
settled_not (Some Dropped) is = cc

-- the entries of a cancel
abbrev steps : Bool → Actor → ℤ → TimerRef → Option ℕ → Option ℕ → List Entry
steps b by now timer found answer = look_entry by now ∷ cancel_entries b by timer found answer

module _ (g : Settings) (s : State) (by : Actor) (now : ℤ) (timer : TimerRef) where
  abbrev looked : State
  looked = next g s (look_entry by now)

  abbrev peeked : Option ℕ → State
  peeked found = next g looked (peek_entry by timer found)

  peek_stays : (found : Option ℕ) (r : TimerRef) → s.status r ≡ Some Armed → (peeked found).status r ≡ Some Armed
  peek_stays found r is = stays_next g looked (peek_entry by timer found) r refl (stays_next g s (look_entry by now) r refl is)

  -- another timer stays armed
  other_stays : (b : Bool) (found answer : Option ℕ) (r : TimerRef) → same_timer timer r ≡ false → s.status r ≡ Some Armed
      → (run g s (steps b by now timer found answer)).status r ≡ Some Armed
  other_stays false found answer r other is = stays_next g s (look_entry by now) r refl is
  other_stays true None answer r other is = peek_stays None r is
  other_stays true (Some found) answer r other is =
      stays_next g (peeked (Some found)) (cancel_entry by timer answer) r other (peek_stays (Some found) r is)

  -- this one is settled where the answer is a number
  self_settled : (b : Bool) (found answer : Option ℕ) (n : ℕ) → answer ≡ Some n → (b ≡ false → found ≡ None) → (found ≡ None → answer ≡ None)
      → (run g s (steps b by now timer found answer)).status timer ≢ Some Armed
  self_settled false found answer n is unread quiet = (let bad : Some n ≡ None = sym is ∙ quiet (unread refl) in absurd cc)
  self_settled true None answer n is unread quiet = (let bad : Some n ≡ None = sym is ∙ quiet refl in absurd cc)
  self_settled true (Some found) answer n is unread quiet =
      let x : Option Status = (peeked (Some found)).status timer in
      let e : (next g (peeked (Some found)) (cancel_entry by timer answer)).status timer ≡ settled_as Cancelled x =
      ap (λ b. cond b (settled_as Cancelled x) x) (same_timer_self timer) in
      λ armed. settled_not x (sym e ∙ armed)

  -- and stays armed where it is none
  self_stays : (b : Bool) (found : Option ℕ) (row : Row) → s.status timer ≡ Some Armed → row_of (s.rows timer.wheel) timer ≡ Some row
      → ((f : ℕ) → Can g (peeked (Some f)) (cancel_entry by timer None) → ⊥)
      → ((f : ℕ) → b ≡ true → found ≡ Some f → Can g (peeked (Some f)) (cancel_entry by timer None))
      → (run g s (steps b by now timer found None)).status timer ≡ Some Armed
  self_stays false found row is stands not can = stays_next g s (look_entry by now) timer refl is
  self_stays true None row is stands not can = peek_stays None timer is
  self_stays true (Some f) row is stands not can = absurd (not f (can f refl refl))

  -- for a cancel of an armed timer with a row answers a number
  never_none : (f : ℕ) (row : Row) → s.status timer ≡ Some Armed → row_of (s.rows timer.wheel) timer ≡ Some row
      → Can g (peeked (Some f)) (cancel_entry by timer None) → ⊥
  never_none f row is stands can =
      let t : State = peeked (Some f) in
      let rows : t.rows timer.wheel ≡ s.rows timer.wheel =
      (later_entry g timer.wheel looked (peek_entry by timer (Some f)) refl).rows
      ∙ (later_entry g timer.wheel s (look_entry by now) refl).rows in
      let told : None ≡ left_of g t by timer = can.found in
      let all : left_of g t by timer ≡ Some (left g row.deadline (t.looked by)) =
      ap (λ x. left_by g (t.looked by) x (row_of (t.rows timer.wheel) timer)) (peek_stays (Some f) timer is)
      ∙ (ap (λ l. option_map (λ (r : Row). left g r.deadline (t.looked by)) (row_of l timer)) rows
      ∙ ap (option_map (λ (r : Row). left g r.deadline (t.looked by))) stands) in
      let bad : None ≡ Some (left g row.deadline (t.looked by)) = told ∙ all in
      cc

pub cancel_leaves : LawOfWholeCancels
cancel_leaves g v by timer answer u whole made =
    let s : State = state g v.front in
    let is = made.allowed in
    let b : Bool = names_timer g timer in
    let grown : u.front ≡ v.front ++ steps b by is.now timer is.found answer =
    whole_exact g v u made.entries whole made.call ∙ ap (λ l. v.front ++ l) is.entries in
    let end : state g u.front ≡ run g s (steps b by is.now timer is.found answer) =
    ap (state g) grown ∙ state-append g v.front (steps b by is.now timer is.found answer) in
    let others : (p : Part) → IsTidy s p → (k : ℕ) (key : Key) → key_in p.keys k ≡ Some key → same_timer timer (last_timer p.number p.slots k) ≡ false
    → (state g u.front).status (last_timer p.number p.slots k) ≡ Some Armed =
    λ p tidy k key held other.
    ap (λ (t : State). t.status (last_timer p.number p.slots k)) end
    ∙ other_stays g s by is.now timer b is.found answer (last_timer p.number p.slots k) other (tidy k key held) in
    record {
      settled = λ n told armed.
          self_settled g s by is.now timer b is.found answer n told is.unread is.quiet (ap (λ (t : State). t.status timer) (sym end) ∙ armed);
      others = λ p tidy k key held apart. others p tidy k key held (differs timer (last_timer p.number p.slots k) (λ same. apart (sym same)));
      missed = λ p none stands tidy k key held.
          at (same_timer timer (last_timer p.number p.slots k)) refl (others p tidy k key held) (λ same.
          let r : TimerRef = last_timer p.number p.slots k in
          let row : Row = held_row p.number p.slots k key in
          let armed : s.status timer ≡ Some Armed = ap s.status same ∙ tidy k key held in
          let has : row_of (s.rows timer.wheel) timer ≡ Some row =
          subst (λ (x : TimerRef). row_of (s.rows x.wheel) x ≡ Some row) (sym same) (held_found g v.front p k key stands held) in
          ap (λ (t : State). t.status r) (end ∙ ap (λ a. run g s (steps b by is.now timer is.found a)) none)
          ∙ (ap (run g s (steps b by is.now timer is.found None)).status (sym same)
          ∙ self_stays g s by is.now timer b is.found row armed has (λ f can. never_none g s by is.now timer f row armed has can)
          (λ f named found.
          can_cancel is.now f (grown ∙ (ap (λ a. v.front ++ steps b by is.now timer is.found a) none
          ∙ (ap (λ c. v.front ++ steps c by is.now timer is.found None) named
          ∙ ap (λ a. v.front ++ steps true by is.now timer a None) found))) made.call.legal)));
    }
  where
    differs : (t r : TimerRef) → t ≢ r → same_timer t r ≡ false
    differs t r apart = by_test (same_timer t r) refl
      where
        by_test : (b : Bool) → same_timer t r ≡ b → same_timer t r ≡ false
        by_test true is = absurd (apart (same_timer-true t r is))
        by_test false is = is

    at : (b : Bool) {P : Type 0} {r : TimerRef} → same_timer timer r ≡ b → (same_timer timer r ≡ false → P) → (timer ≡ r → P) → P
    at true {P} {r} is other same = same (same_timer-true timer r is)
    at false is other same = other is

    can_cancel : (now : ℤ) (f : ℕ) → u.front ≡ v.front ++ steps true by now timer (Some f) None → Legal g u.front
        → Can g (next g (next g (state g v.front) (look_entry by now)) (peek_entry by timer (Some f))) (cancel_entry by timer None)
    can_cancel now f grown legal =
        let pair : List Entry = look_entry by now ∷ (peek_entry by timer (Some f) ∷ []) in
        let split : u.front ≡ (v.front ++ pair) ++ cancel_entry by timer None ∷ [] =
        grown ∙ sym (append_assoc v.front pair (cancel_entry by timer None ∷ [])) in
        subst (λ t. Can g t (cancel_entry by timer None)) (state-append g v.front pair)
        (legal_then g (opening g) (v.front ++ pair) (cancel_entry by timer None ∷ []) (subst (Legal g) split legal)).0
