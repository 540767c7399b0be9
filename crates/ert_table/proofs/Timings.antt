-- What is left of a timer, by what its slot shows and by the state.

use Rattle.std.proofs.Common.{◌≡◌, ◌≢◌, ℕ, ◌-◌, ℤ, pos, negsuc, ◌-ℤ◌, arith, Bool, true, false, cond, List, [], ◌∷◌, ◌++◌, Option, Some, None, option_map, refl, sym, ap, subst, ◌∙◌}
use Rattle.std.proofs.lemmas.Int.{ints}
use Rattle.std.specs.Prelude.{IsSome}
use Rattle.ert_effects.specs.TimerCalls.{read_entries, Reads, cancel_entries, Cancels}
use Rattle.ert_defs.specs.{Entries.{look_entry, peek_entry, cancel_entry}, Legal.{Legal, left_by, left_of, names_timer}, Milliseconds.{natural, left}, States.{opening, state}, Timers.{Row, row_of}, declared.entry.Actor.Actor}
use Rattle.ert_defs.specs.{declared.entry.Entry.Entry, declared.settings.Settings.Settings, declared.timer.Status.Status, declared.timer.Status.TheVariants.{Armed, Expired, Delivered, Cancelled, Orphaned, Dropped}}
use Rattle.ert_defs.specs.{declared.timer.TimerRef.TimerRef}
use Rattle.ert_defs.proofs.Runs.{legal_first}
use Rattle.ert_table.specs.{Held.is_held, Peeking.{Peeks, CancelsFound, PeeksAndCancels}, Settlings.Settles, Takes.{Appends, TakesPlace}, declared.carry.Settle.TheVariants.Cancel as ToCancel, declared.view.View.View, Left.AtLastStep}
use Rattle.ert_table.specs.{Left.{IsLeftByLook, TellsLeft, IsMadeTellingLeft}}
use Rattle.ert_table.proofs.{Calls.{step_takes_place, takes_place_then}, SlotFacts.slots_kept, Looks.{can_step, look_stepped}}

-- a difference, or 0 where it is negative
pub natural_sub : (x : ℤ) (m n : ℕ) → x ≡ (pos m -ℤ pos n) → natural x ≡ m - n
natural_sub (pos k) m n is = omega (arith, ints)
natural_sub (negsuc k) m n is = omega (arith, ints)

-- something is left only of an armed timer
only_armed : (g : Settings) (look : ℤ) (status : Option Status) (row : Option Row) → IsSome (left_by g look status row)
    → status ≡ Some Armed
only_armed g look None row some = absurd cc
only_armed g look (Some Armed) row some = refl
only_armed g look (Some Expired) row some = absurd cc
only_armed g look (Some Delivered) row some = absurd cc
only_armed g look (Some Cancelled) row some = absurd cc
only_armed g look (Some Orphaned) row some = absurd cc
only_armed g look (Some Dropped) row some = absurd cc

-- and of each, since it has a row
each_armed : (g : Settings) (h : List Entry) (timer : TimerRef) (look : ℤ) → Legal g h → (state g h).status timer ≡ Some Armed
    → IsSome (left_by g look ((state g h).status timer) (row_of ((state g h).rows timer.wheel) timer))
each_armed g h timer look legal is =
    let used : (state g h).status timer ≢ None = λ none. (let no : Some Armed ≡ None = sym is ∙ none in cc) in
    let stands = (slots_kept g h legal).stand timer used in
    subst (λ x. IsSome (left_by g look x (row_of ((state g h).rows timer.wheel) timer))) (sym is)
    (subst (λ x. IsSome (left_by g look (Some Armed) x)) (sym stands.is) refl)

is_left : (g : Settings) (h : List Entry) (by : Actor) (timer : TimerRef) (answer : Option ℕ) → Legal g h → answer ≡ left_of g (state g h) by timer
    → IsLeftByLook g by timer answer (state g h)
is_left g h by timer answer legal told =
    let look : ℤ = (state g h).looked by in
    record {
      told = told;
      armed = (
        λ some. only_armed g look ((state g h).status timer) (row_of ((state g h).rows timer.wheel) timer) (subst IsSome told some),
        λ is. subst IsSome (sym told) (each_armed g h timer look legal is),
      );
    }

-- what a step finds left by the last look of its maker
left_found : (g : Settings) (v : View) (e : Entry) (w : View) (timer : TimerRef) (answer : Option ℕ) (step : Appends g v e w)
    → answer ≡ left_of g (state g (v.front ++ step.between)) e.by timer
    → AtLastStep g w.front (IsLeftByLook g e.by timer answer)
left_found g v e w timer answer step found =
    let before : List Entry = v.front ++ step.between in
    record {
      before = before;
      last = e;
      grown = step.grown;
      held = is_left g before e.by timer answer (legal_first g (opening g) before (e ∷ []) (subst (Legal g) step.grown step.legal)) found;
    }

-- what a call knows after its look
record Looked (g : Settings) (v : View) (by : Actor) (now : ℤ) (u : View) : Type 0 where
  held : is_held u.actors by ≡ true
  look : (state g u.front).looked by ≡ now

looked : (g : Settings) (v : View) (by : Actor) (now : ℤ) (u : View) → is_held v.actors by ≡ true → Appends g v (look_entry by now) u
    → Looked g v by now u
looked g v by now u held step = record {
  held = subst (λ actors. is_held actors by ≡ true) (sym step.actors) held;
  look = look_stepped g v (look_entry by now) u step held;
}

-- a read of a reference out of range
pub reads_none : (g : Settings) (v : View) (by : Actor) (timer : TimerRef) (now : ℤ) (u : View) → names_timer g timer ≡ false
    → Appends g v (look_entry by now) u → IsMadeTellingLeft g v by timer None (Reads g by timer None) u
reads_none g v by timer now u out step = record {
  call = record {
    entries = look_entry by now ∷ read_entries (names_timer g timer) by timer None;
    allowed = record { now = now; entries = refl; quiet = λ _. refl };
    call = subst (λ b. TakesPlace g v (look_entry by now ∷ read_entries b by timer None) u) (sym out)
        (step_takes_place g v (look_entry by now) u step);
  };
  left = subst (λ b. TellsLeft b g by timer None u) (sym out) refl;
}

-- a timer that was read, by the look before
record Peeked (g : Settings) (v : View) (by : Actor) (timer : TimerRef) (now : ℤ) (answer : Option ℕ) (w : View) : Type 0 where
  call : TakesPlace g v (look_entry by now ∷ (peek_entry by timer answer ∷ [])) w
  left : AtLastStep g w.front (IsLeftByLook g by timer answer)
  look : (state g w.front).looked by ≡ now

peeked : (g : Settings) (v : View) (by : Actor) (timer : TimerRef) (now : ℤ) (u : View) (deadline : Option ℕ) (w : View)
    → is_held v.actors by ≡ true → Appends g v (look_entry by now) u → Peeks g u by timer deadline w
    → Peeked g v by timer now (option_map (λ d. left g d now) deadline) w
peeked g v by timer now u deadline w held step peek =
    let answer : Option ℕ = option_map (λ d. left g d now) deadline in
    let after = looked g v by now u held step in
    let read : Appends g u (peek_entry by timer answer) w =
    subst (λ x. Appends g u (peek_entry by timer (option_map (λ d. left g d x) deadline)) w) after.look peek.step in
    record {
      call = takes_place_then g v u w (look_entry by now ∷ []) (peek_entry by timer answer ∷ [])
          (step_takes_place g v (look_entry by now) u step) (step_takes_place g u (peek_entry by timer answer) w read);
      left = left_found g u (peek_entry by timer answer) w timer answer read
          (can_step g u (peek_entry by timer answer) w read).found;
      look = look_stepped g u (peek_entry by timer answer) w read after.held ∙ after.look;
    }

-- a reference isn't in range and out of range
in_or_out : (b : Bool) → b ≡ true → b ≡ false → ⊥
in_or_out true is other = absurd cc
in_or_out false is other = absurd cc

-- a read of one in range
reads : (g : Settings) (v : View) (by : Actor) (timer : TimerRef) (now : ℤ) (u : View) (deadline : Option ℕ) (w : View)
    → is_held v.actors by ≡ true → names_timer g timer ≡ true → Appends g v (look_entry by now) u → Peeks g u by timer deadline w
    → IsMadeTellingLeft g v by timer (option_map (λ d. left g d now) deadline) (Reads g by timer (option_map (λ d. left g d now) deadline)) w
reads g v by timer now u deadline w held within step peek =
    let answer : Option ℕ = option_map (λ d. left g d now) deadline in
    let read = peeked g v by timer now u deadline w held step peek in
    record {
      call = record {
        entries = look_entry by now ∷ read_entries (names_timer g timer) by timer answer;
        allowed = record { now = now; entries = refl; quiet = λ out. absurd (in_or_out (names_timer g timer) within out) };
        call = subst (λ b. TakesPlace g v (look_entry by now ∷ read_entries b by timer answer) w) (sym within) read.call;
      };
      left = subst (λ b. TellsLeft b g by timer answer w) (sym within) read.left;
    }

-- where it isn't armed
pub reads_unarmed : (g : Settings) (v : View) (by : Actor) (timer : TimerRef) (now : ℤ) (u : View) (found answer : Option ℕ) (w : View)
    → found ≡ None → answer ≡ None → is_held v.actors by ≡ true → names_timer g timer ≡ true → Appends g v (look_entry by now) u
    → Peeks g u by timer found w → IsMadeTellingLeft g v by timer answer (Reads g by timer answer) w
reads_unarmed g v by timer now u found answer w none nothing held within step peek =
    subst (λ x. IsMadeTellingLeft g v by timer x (Reads g by timer x) w) (sym nothing)
    (reads g v by timer now u None w held within step (subst (λ x. Peeks g u by timer x w) none peek))

-- and where it is
pub reads_armed : (g : Settings) (v : View) (by : Actor) (timer : TimerRef) (now : ℤ) (u : View) (found : Option ℕ) (deadline told : ℕ) (w : View)
    → found ≡ Some deadline → told ≡ left g deadline now → is_held v.actors by ≡ true → names_timer g timer ≡ true
    → Appends g v (look_entry by now) u → Peeks g u by timer found w → IsMadeTellingLeft g v by timer (Some told) (Reads g by timer (Some told)) w
reads_armed g v by timer now u found deadline told w some is held within step peek =
    subst (λ n. IsMadeTellingLeft g v by timer (Some n) (Reads g by timer (Some n)) w) (sym is)
    (reads g v by timer now u (Some deadline) w held within step (subst (λ x. Peeks g u by timer x w) some peek))

-- a cancel of a reference out of range
pub cancels_none : (g : Settings) (v : View) (by : Actor) (timer : TimerRef) (now : ℤ) (u : View) → names_timer g timer ≡ false
    → Appends g v (look_entry by now) u → IsMadeTellingLeft g v by timer None (Cancels g by timer None) u
cancels_none g v by timer now u out step = record {
  call = record {
    entries = look_entry by now ∷ cancel_entries (names_timer g timer) by timer None None;
    allowed = record { now = now; found = None; entries = refl; unread = λ _. refl; quiet = λ _. refl };
    call = subst (λ b. TakesPlace g v (look_entry by now ∷ cancel_entries b by timer None None) u) (sym out)
        (step_takes_place g v (look_entry by now) u step);
  };
  left = subst (λ b. TellsLeft b g by timer None u) (sym out) refl;
}

-- a cancel of a timer that isn't armed when it is read
cancels_unarmed : (g : Settings) (v : View) (by : Actor) (timer : TimerRef) (now : ℤ) (u : View) (found answer : Option ℕ) (w : View)
    → found ≡ None → answer ≡ None → is_held v.actors by ≡ true → names_timer g timer ≡ true → Appends g v (look_entry by now) u
    → Peeks g u by timer found w → IsMadeTellingLeft g v by timer answer (Cancels g by timer answer) w
cancels_unarmed g v by timer now u found answer w none nothing held within step peek =
    let read = peeked g v by timer now u None w held step (subst (λ x. Peeks g u by timer x w) none peek) in
    subst (λ x. IsMadeTellingLeft g v by timer x (Cancels g by timer x) w) (sym nothing)
    (record {
      call = record {
        entries = look_entry by now ∷ cancel_entries (names_timer g timer) by timer None None;
        allowed = record { now = now; found = None; entries = refl; unread = λ _. refl; quiet = λ _. refl };
        call = subst (λ b. TakesPlace g v (look_entry by now ∷ cancel_entries b by timer None None) w) (sym within) read.call;
      };
      left = subst (λ b. TellsLeft b g by timer None w) (sym within) read.left;
    })

-- the step of a cancel
cancelled : (g : Settings) (v : View) (by : Actor) (timer : TimerRef) (deadline : ℕ) (hit : Bool) (w : View)
    → Settles g v by timer deadline ToCancel hit w
    → Appends g v (cancel_entry by timer (cond hit (Some (left g deadline ((state g v.front).looked by))) None)) w
cancelled g v by timer deadline true w step = step
cancelled g v by timer deadline false w step = step

-- a cancel of one that is armed then, and at the last step or not
cancels : (g : Settings) (v : View) (by : Actor) (timer : TimerRef) (now : ℤ) (u : View) (deadline : ℕ) (w : View) (hit : Bool) (x : View)
    → is_held v.actors by ≡ true → names_timer g timer ≡ true → Appends g v (look_entry by now) u → Peeks g u by timer (Some deadline) w
    → Settles g w by timer deadline ToCancel hit x
    → IsMadeTellingLeft g v by timer (cond hit (Some (left g deadline now)) None) (Cancels g by timer (cond hit (Some (left g deadline now)) None)) x
cancels g v by timer now u deadline w hit x held within step peek settled =
    let found : ℕ = left g deadline now in
    let answer : Option ℕ = cond hit (Some found) None in
    let read = peeked g v by timer now u (Some deadline) w held step peek in
    let last : Appends g w (cancel_entry by timer answer) x =
    subst (λ y. Appends g w (cancel_entry by timer (cond hit (Some (left g deadline y)) None)) x) read.look
    (cancelled g w by timer deadline hit x settled) in
    record {
      call = record {
        entries = look_entry by now ∷ cancel_entries (names_timer g timer) by timer (Some found) answer;
        allowed = record {
          now = now;
          found = Some found;
          entries = refl;
          unread = λ out. absurd (in_or_out (names_timer g timer) within out);
          quiet = λ none. absurd cc;
        };
        call = subst (λ b. TakesPlace g v (look_entry by now ∷ cancel_entries b by timer (Some found) answer) x) (sym within)
            (takes_place_then g v w x (look_entry by now ∷ (peek_entry by timer (Some found) ∷ [])) (cancel_entry by timer answer ∷ [])
            read.call (step_takes_place g w (cancel_entry by timer answer) x last));
      };
      left = subst (λ b. TellsLeft b g by timer answer x) (sym within)
          (left_found g w (cancel_entry by timer answer) x timer answer last
          (can_step g w (cancel_entry by timer answer) x last).found);
    }

mapped : (f : ℕ → ℕ) (d : ℕ) (hit : Bool) → cond hit (Some (f d)) None ≡ option_map f (cond hit (Some d) None)
mapped f d true = refl
mapped f d false = refl

-- a cancel of one in range, by what was found when it was read
cancels_by : (g : Settings) (v : View) (by : Actor) (timer : TimerRef) (now : ℤ) (u : View) (found : Option ℕ) (m : View) (cancelled : Option ℕ) (w : View)
    → is_held v.actors by ≡ true → names_timer g timer ≡ true → Appends g v (look_entry by now) u → Peeks g u by timer found m
    → CancelsFound g m by timer found cancelled w
    → IsMadeTellingLeft g v by timer (option_map (λ d. left g d now) cancelled) (Cancels g by timer (option_map (λ d. left g d now) cancelled)) w
cancels_by g v by timer now u None m cancelled w held within step peek cancel =
    cancels_unarmed g v by timer now u None (option_map (λ d. left g d now) cancelled) w refl (ap (option_map (λ d. left g d now)) cancel.0)
    held within step (subst (λ (x : View). Peeks g u by timer None x) (sym cancel.1) peek)
cancels_by g v by timer now u (Some deadline) m cancelled w held within step peek cancel =
    let f : ℕ → ℕ = λ d. left g d now in
    subst (λ x. IsMadeTellingLeft g v by timer x (Cancels g by timer x) w) (mapped f deadline cancel.0 ∙ ap (option_map f) (sym cancel.1))
    (cancels g v by timer now u deadline m cancel.0 w held within step peek cancel.2)

-- and by its deadline where it was cancelled
pub cancels_all : (g : Settings) (v : View) (by : Actor) (timer : TimerRef) (now : ℤ) (u : View) (cancelled answer : Option ℕ) (w : View)
    → answer ≡ option_map (λ d. left g d now) cancelled → is_held v.actors by ≡ true → names_timer g timer ≡ true → Appends g v (look_entry by now) u
    → PeeksAndCancels g u by timer cancelled w → IsMadeTellingLeft g v by timer answer (Cancels g by timer answer) w
cancels_all g v by timer now u cancelled answer w is held within step call =
    subst (λ x. IsMadeTellingLeft g v by timer x (Cancels g by timer x) w) (sym is)
    (cancels_by g v by timer now u call.found call.between cancelled w held within step call.peek call.cancel)
