-- Starts: the service answers and does as the plain one, whichever slot it takes.

use Rattle.std.proofs.Common.{◌≡◌, ◌≢◌, ℕ, ℤ, suc, ◌<◌, ◌≤◌, Bool, true, false, cond, nat_le, List, [], ◌∷◌, ◌++◌, Option, Some, None, refl, sym, ap, ◌∙◌, subst, inl, inr, arith}
use Rattle.std.proofs.lemmas.Bool.Decides.{nat_tests}
use Rattle.ert_effects.specs.TimerCalls.{AreProbes, Closes, IsStarted}
use Rattle.ert_defs.proofs.Runs.{run-append, legal_first, legal_then}
use Rattle.ert_defs.specs.{Clocks.Clock, Entries.{look_entry, arm_entry, mark_entry, orphan_entry}, Legal.LegalFrom, Milliseconds.deadline_of, States.{State, next, run}, Timers.{is_taken, timer_at}, declared.entry.Actor.TheVariants.Wheel}
use Rattle.ert_defs.specs.{declared.entry.Actor.TheVariants.Caller, declared.entry.Entry.Entry, declared.settings.Settings.Settings, declared.timer.Start.Start, declared.timer.Status.TheVariants.Armed, declared.timer.TimerRef.TimerRef}
use Rattle.ert_ops.proofs.{Arms.{IsNew, is_new, armed_status, own_last, meets_armed}, Bound.{IsName, IsFreeLabel, new_name}, Meets.{Meets, meets_next, meets_probes}, Steps.{as_look, as_mark, as_orphan}, Taken.{one_free, count_pairs}}
use Rattle.ert_ops.specs.{Labels.{Labels, bind}, Pieces.Piece, PlainTimers.{taken_slots, start_reply, full, looks, arm_entries, start_piece, start_now}}

-- what the plain service does, by the deadline and the count of what is taken

started_piece : (g : Settings) (c : State) (l w : ℕ) (start : Start) (d : Option ℕ) → d ≢ None → taken_slots c.status (c.rows w) < g.slots
    → start_piece g c l w start d
    ≡ record { entries = looks c ∷ arm_entries (timer_at w l 1) start (c.exited start.dest); reply = start_reply start.kind (timer_at w l 1) }
started_piece g c l w start None some lt = absurd (some refl)
started_piece g c l w start (Some d) some lt =
    let free : nat_le g.slots (taken_slots c.status (c.rows w)) ≡ false = grind (arith, nat_tests) in
    ap (λ (b : Bool). cond b (let x : Piece = record { entries = looks c ∷ []; reply = full start.kind } in x)
    (record { entries = looks c ∷ arm_entries (timer_at w l 1) start (c.exited start.dest); reply = start_reply start.kind (timer_at w l 1) })) free

-- what closes a start

closes_meet : (g : Settings) (n : ℕ) (ls : Labels) (t m : TimerRef) (was : Bool) (es : List Entry) (s c : State) → Closes was 0 t es → IsName g ls t m
    → s.status (timer_at t.wheel t.slot (s.last t.wheel t.slot)) ≡ Some Armed → LegalFrom g s es → Meets g n ls s c
    → Meets g n ls (run g s es) (run g c (cond was (orphan_entry 0 t.wheel m ∷ []) []))
closes_meet g n ls t m false es s c closes named armed legal h = subst (λ (x : List Entry). Meets g n ls (run g s x) c) (sym closes) h
closes_meet g n ls t m true es s c (inl is) named armed legal h =
    let P : List Entry → Type 0 = λ x. LegalFrom g s x → Meets g n ls (run g s x) (run g c (orphan_entry 0 t.wheel m ∷ [])) in
    subst P (sym is) (λ lawful. meets_next g n ls (as_orphan t m named) (Caller 0) (Some (Wheel t.wheel)) s c h lawful.0) legal
closes_meet g n ls t m true es s c (inr missed) named armed legal h =
    let lawful = subst (λ (x : List Entry). LegalFrom g s x) missed.entries legal in
    absurd (missed.settled (lawful.0.found ∙ armed))

-- a start that armed a timer: what the plain service does, and that both meet
pub record AreStarted (g : Settings) (n : ℕ) (ls : Labels) (l w : ℕ) (start : Start) (t : TimerRef) (s c : State) (es : List Entry) : Type 0 where
  pub piece : start_now g c l w start
      ≡ record { entries = looks c ∷ arm_entries (timer_at w l 1) start (c.exited start.dest); reply = start_reply start.kind (timer_at w l 1) }
  pub new : IsNew g ls l t
  pub wheel : t.wheel ≡ w
  pub meets : Meets g (suc n) (bind ls l t) (run g s es) (run g c (looks c ∷ arm_entries (timer_at w l 1) start (c.exited start.dest)))

-- the entries of a start from its arming on
abbrev rest_of : TimerRef → Start → Bool → List Entry → List Entry
rest_of t start was closing = arm_entry 0 t start ∷ (mark_entry (Caller 0) start.dest false was ∷ closing)

armed_meet : (g : Settings) (n : ℕ) (ls : Labels) (l : ℕ) (t : TimerRef) (start : Start) (was : Bool) (closing : List Entry) (s c : State) → n ≤ 100000
    → IsFreeLabel l ls → Closes was 0 t closing → LegalFrom g s (rest_of t start was closing) → Meets g n ls s c
    → Meets g (suc n) (bind ls l t) (run g s (rest_of t start was closing)) (run g c (arm_entries (timer_at t.wheel l 1) start (c.exited start.dest)))
armed_meet g n ls l t start was closing s c few free closes legal h =
    let m : TimerRef = timer_at t.wheel l 1 in
    let new : IsNew g ls l t = is_new g n ls l t start s c few free h legal.0 in
    let named : IsName g (bind ls l t) t m = new_name g ls l t new.some new.in_range new.free new.new in
    let armed = meets_armed g n ls l t start s c few free h legal.0 in
    let exited : was ≡ c.exited start.dest = legal.1.0.found ∙ h.shows.exited start.dest in
    let marked = meets_next g (suc n) (bind ls l t) (as_mark start.dest false was) (Caller 0) None _ _ armed legal.1.0 in
    let status : (next g s (arm_entry 0 t start)).status (timer_at t.wheel t.slot ((next g s (arm_entry 0 t start)).last t.wheel t.slot)) ≡ Some Armed =
    ap (λ (k : ℕ). (next g s (arm_entry 0 t start)).status (timer_at t.wheel t.slot k)) (own_last g s t start) ∙ armed_status g s t start in
    let closed = closes_meet g (suc n) (bind ls l t) t m was closing _ _ closes named status legal.1.1 marked in
    subst (λ (b : Bool). Meets g (suc n) (bind ls l t) (run g s (rest_of t start was closing)) (run g c (arm_entries m start b))) exited closed

started_here : (g : Settings) (n : ℕ) (ls : Labels) (l : ℕ) (start : Start) (t : TimerRef) (now : ℤ) (probes closing : List Entry) (was : Bool) (s c : State)
    → n ≤ 100000 → IsFreeLabel l ls → Meets g n ls s c → AreProbes (Caller 0) t.wheel probes → Closes was 0 t closing
    → LegalFrom g s (look_entry (Caller 0) now ∷ (probes ++ rest_of t start was closing))
    → AreStarted g n ls l t.wheel start t s c (look_entry (Caller 0) now ∷ (probes ++ rest_of t start was closing))
started_here g n ls l start t now probes closing was s c few free h are closes legal =
    let w : ℕ = t.wheel in
    let rest : List Entry = rest_of t start was closing in
    let looked : State = next g s (look_entry (Caller 0) now) in
    let probed : State = run g looked probes in
    let look = meets_next g n ls (as_look now) (Caller 0) None s c h legal.0 in
    let after = meets_probes g n ls (Caller 0) w probes looked _ are (legal_first g looked probes rest legal.1) look in
    let lawful = legal_then g looked probes rest legal.1 in
    let can = lawful.0 in
    let time : now ≡ c.clock.now = legal.0.found ∙ ap (λ (k : Clock). k.now) h.shows.clock in
    let due : deadline_of g start c.clock.now ≢ None = λ none.
    let clash : Some can.known.wanted ≡ None =
    sym can.known.due ∙ (ap (λ (x : ℤ). deadline_of g start x) (after.shows.looked (Caller 0) ∙ time) ∙ none) in
    cc in
    let room : taken_slots c.status (c.rows w) < g.slots =
    subst (λ (k : ℕ). k < g.slots) (count_pairs is_taken (IsName g ls) probed.status c.status after.shows.status (probed.rows w) (c.rows w) (after.shows.rows w))
    (one_free g ls probed _ w t.slot after.kept after.shows can.keeps.2.slot_high can.known.free) in
    let armed = armed_meet g n ls l t start was closing probed _ few free closes lawful after in
    let P : ℤ → State → Type 0 =
    λ x z. Meets g (suc n) (bind ls l t) z (run g (next g c (look_entry (Caller 0) x)) (arm_entries (timer_at w l 1) start (c.exited start.dest))) in
    record {
      piece = started_piece g c l w start (deadline_of g start c.clock.now) due room;
      new = is_new g n ls l t start probed _ few free after can;
      wheel = refl;
      meets = subst (λ (z : State). P c.clock.now z) (sym (run-append g looked probes rest))
          (subst (λ (x : ℤ). P x (run g probed rest)) time armed);
    }

pub start_done : (g : Settings) (n : ℕ) (ls : Labels) (l w : ℕ) (start : Start) (t : TimerRef) (s c : State) (es : List Entry) → n ≤ 100000 → IsFreeLabel l ls
    → Meets g n ls s c → LegalFrom g s es → IsStarted g 0 w start t s es → AreStarted g n ls l w start t s c es
start_done g n ls l w start t s c es few free h legal does =
    let lawful = subst (λ (x : List Entry). LegalFrom g s x) does.entries legal in
    let probes = subst (λ (v : ℕ). AreProbes (Caller 0) v does.probes) (sym does.on_wheel) does.are_probes in
    subst (λ (v : ℕ). AreStarted g n ls l v start t s c es) does.on_wheel
    (subst (λ (x : List Entry). AreStarted g n ls l t.wheel start t s c x) (sym does.entries)
    (started_here g n ls l start t does.now does.probes does.closing does.was s c few free h probes does.closes lawful))
