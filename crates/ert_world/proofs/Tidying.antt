-- Where no seat was given out, each wheel of a world stays tidy: no call but a cancel makes a timer cancelled.

use Rattle.std.proofs.Common.{◌≡◌, ◌≢◌, ◌⊎◌, ℕ, ◌<◌, Bool, true, false, cond, ◌&&◌, List, [], ◌∷◌, ◌++◌, length, slice_index_or, Option, Some, None, Result, Ok, inl, inr, refl, sym, ap, subst, ◌∙◌, eq-eqb}
use Rattle.std.specs.Prelude.{slice_set, nat_eq}
use Rattle.std.proofs.lemmas.List.{get_or_default}
use Rattle.ert_effects.specs.{TimerCalls.Starts, declared.answers.StartErr.StartErr}
use Rattle.ert_defs.proofs.{ExpiredTimers.same_timer_self, Runs.run-append}
use Rattle.ert_defs.specs.{Actors.has_actor, Entries.{look_entry, arm_entry, mark_entry}, States.{State, next, run}, Timers.{same_timer, status_after, settled_as, handed_as}, declared.entry.Actor.TheVariants.{Wheel, Caller}}
use Rattle.ert_defs.specs.{declared.entry.Entry.Entry, declared.entry.Event.Event, declared.entry.Event.TheVariants.{Arm, Cancel, Expire, Orphan, Deliver, Drop}, declared.settings.Settings.Settings, declared.timer.Start.Start}
use Rattle.ert_defs.specs.{declared.timer.Status.Status, declared.timer.Status.TheVariants.{Armed, Expired, Delivered, Cancelled, Orphaned, Dropped}, declared.timer.TimerRef.TimerRef}
use Rattle.ert_timers.proofs.Passing.{same_last}
use Rattle.ert_timers.specs.{Parts.{IsLive, Part, last_timer}, Passed.{GainsOne, LosesRows, WasHeld}, Tidy.IsTidy}
use Rattle.ert_wheel.specs.{Rows.key_in, declared.row.Key.Key}
use Rattle.ert_world.proofs.{Armed.{AreCalm, is_cancel}, Returned.at_place}

cond_was : (b : Bool) (x y : Option Status) → (y ≡ Some Cancelled → x ≡ Some Cancelled) → cond b y x ≡ Some Cancelled → x ≡ Some Cancelled
cond_was true x y was is = was is
cond_was false x y was is = is

expired_was : (x : Option Status) → settled_as Expired x ≡ Some Cancelled → x ≡ Some Cancelled
expired_was None is = is
expired_was (Some Armed) is = absurd cc
expired_was (Some Expired) is = is
expired_was (Some Delivered) is = is
expired_was (Some Cancelled) is = is
expired_was (Some Orphaned) is = is
expired_was (Some Dropped) is = is

orphaned_was : (x : Option Status) → settled_as Orphaned x ≡ Some Cancelled → x ≡ Some Cancelled
orphaned_was None is = is
orphaned_was (Some Armed) is = absurd cc
orphaned_was (Some Expired) is = is
orphaned_was (Some Delivered) is = is
orphaned_was (Some Cancelled) is = is
orphaned_was (Some Orphaned) is = is
orphaned_was (Some Dropped) is = is

delivered_was : (x : Option Status) → handed_as Delivered x ≡ Some Cancelled → x ≡ Some Cancelled
delivered_was None is = is
delivered_was (Some Armed) is = is
delivered_was (Some Expired) is = absurd cc
delivered_was (Some Delivered) is = is
delivered_was (Some Cancelled) is = is
delivered_was (Some Orphaned) is = is
delivered_was (Some Dropped) is = is

dropped_was : (x : Option Status) → handed_as Dropped x ≡ Some Cancelled → x ≡ Some Cancelled
dropped_was None is = is
dropped_was (Some Armed) is = is
dropped_was (Some Expired) is = absurd cc
dropped_was (Some Delivered) is = is
dropped_was (Some Cancelled) is = is
dropped_was (Some Orphaned) is = is
dropped_was (Some Dropped) is = is

-- what is cancelled after an event that cancels nothing was so before
pub cancelled_before : (r : TimerRef) (b : Bool) (x : Option Status) (event : Event) → is_cancel event ≡ false → status_after r b x event ≡ Some Cancelled
    → x ≡ Some Cancelled
cancelled_before r b x (Arm timer start) calm is = cond_was (b && same_timer timer r) x (Some Armed) (λ same. absurd cc) is
cancelled_before r b x (Cancel timer left) calm is = absurd cc
cancelled_before r b x (Expire timer) calm is = cond_was (same_timer timer r) x (settled_as Expired x) (expired_was x) is
cancelled_before r b x (Orphan timer) calm is = cond_was (same_timer timer r) x (settled_as Orphaned x) (orphaned_was x) is
cancelled_before r b x (Deliver timer) calm is = cond_was (same_timer timer r) x (handed_as Delivered x) (delivered_was x) is
cancelled_before r b x (Drop timer) calm is = cond_was (same_timer timer r) x (handed_as Dropped x) (dropped_was x) is
cancelled_before r b x _ calm is = is

pub cancelled_was : (g : Settings) (s : State) (es : List Entry) (r : TimerRef) → AreCalm es → (run g s es).status r ≡ Some Cancelled → s.status r ≡ Some Cancelled
cancelled_was g s [] r calm is = is
cancelled_was g s (e ∷ es) r calm is =
    cancelled_before r (has_actor e (Wheel r.wheel)) (s.status r) e.event calm.0 (cancelled_was g (next g s e) es r calm.1 is)

pub armed_or : (x : Option Status) → IsLive x → x ≢ Some Cancelled → x ≡ Some Armed
armed_or (Some Armed) live not = refl
armed_or (Some Cancelled) live not = absurd (not refl)
armed_or None live not = absurd live
armed_or (Some Expired) live not = absurd live
armed_or (Some Delivered) live not = absurd live
armed_or (Some Orphaned) live not = absurd live
armed_or (Some Dropped) live not = absurd live

-- each row of a part was held before, of the same timer, or its timer isn't cancelled in a state
abbrev pub HoldsOn : State → Part → Part → Type 0
HoldsOn s p q = (k : ℕ) (key : Key) → key_in q.keys k ≡ Some key → WasHeld p q k key ⊎ (s.status (last_timer q.number q.slots k) ≢ Some Cancelled)

-- so does each row of these parts
abbrev pub AllHoldOn : State → List Part → List Part → Type 0
AllHoldOn s ws vs = (i : ℕ) (x : Part) → HoldsOn s (slice_index_or ws i x) (slice_index_or vs i x)

-- so a tidy part stays so where nothing was cancelled
pub tidy_on : (g : Settings) (s t : State) (es : List Entry) (p q : Part) → t ≡ run g s es → AreCalm es
    → ((k : ℕ) (key : Key) → key_in q.keys k ≡ Some key → IsLive (t.status (last_timer q.number q.slots k))) → HoldsOn t p q → IsTidy s p → IsTidy t q
tidy_on g s t es p q is calm live holds tidy k key has =
    let r : TimerRef = last_timer q.number q.slots k in
    armed_or (t.status r) (live k key has) (λ cancelled.
    elim (holds k key has) [
      | inl was ↦
          let then : s.status r ≡ Some Cancelled = cancelled_was g s es r calm (ap (λ (x : State). x.status r) (sym is) ∙ cancelled) in
          let clash : Some Cancelled ≡ Some Armed = sym then ∙ (ap s.status was.1 ∙ tidy k key was.0) in cc
      | inr not ↦ not cancelled
    ])

pub same_hold : (s : State) (ws vs : List Part) → vs ≡ ws → AllHoldOn s ws vs
same_hold s ws vs same i x = subst (λ (l : List Part). HoldsOn s (slice_index_or ws i x) (slice_index_or l i x)) (sym same) (λ k key is. inl (is, refl))

pub lost_hold : (s : State) (p q : Part) → LosesRows p q → HoldsOn s p q
lost_hold s p q loses k key is = inl (loses.left k key is, same_last p q k loses)

-- where one of them was replaced
pub one_holds : (s : State) (ws : List Part) (i : ℕ) (old new : Part) → i < length ws → old ≡ slice_index_or ws i old → HoldsOn s old new
    → AllHoldOn s ws (slice_set ws i new)
one_holds s ws i old new wide lent holds j x =
    at_place (λ (y : Part). HoldsOn s (slice_index_or ws j x) y) ws i j new x wide
    (λ one. subst (λ (y : Part). HoldsOn s y new) (lent ∙ (get_or_default ws i old x wide ∙ ap (λ n. slice_index_or ws n x) (sym one))) holds)
    (λ other k key is. inl (is, refl))

-- a timer is armed after its Arm
pub armed_self : (g : Settings) (s : State) (by : ℕ) (timer : TimerRef) (start : Start) → (next g s (arm_entry by timer start)).status timer ≡ Some Armed
armed_self g s by timer start =
    let self : nat_eq timer.wheel timer.wheel ≡ true = eq-eqb timer.wheel timer.wheel refl in
    ap (λ b. cond ((nat_eq timer.wheel timer.wheel) && b) (Some Armed) (s.status timer)) (same_timer_self timer) ∙ rw self refl

calm_after : (es : List Entry) (e : Entry) (fs : List Entry) → AreCalm (es ++ e ∷ fs) → AreCalm fs
calm_after [] e fs calm = calm.1
calm_after (x ∷ es) e fs calm = calm_after es e fs calm.1

-- a timer that was started isn't cancelled then
started_not : (g : Settings) (by w : ℕ) (start : Start) (timer : TimerRef) (s : State) (es : List Entry) → Starts g by w start (Ok timer) s es → AreCalm es
    → (run g s es).status timer ≢ Some Cancelled
started_not g by w start timer s es starts calm is =
    let first : List Entry = look_entry (Caller by) starts.now ∷ starts.probes in
    let arm : Entry = arm_entry by timer start in
    let rest : List Entry = mark_entry (Caller by) start.dest false starts.was ∷ starts.closing in
    let whole : run g s es ≡ run g (run g s first) (arm ∷ rest) = ap (run g s) starts.entries ∙ run-append g s first (arm ∷ rest) in
    let then : (next g (run g s first) arm).status timer ≡ Some Cancelled =
    cancelled_was g (next g (run g s first) arm) rest timer (calm_after first arm rest (subst AreCalm starts.entries calm))
    (ap (λ (x : State). x.status timer) (sym whole) ∙ is) in
    let clash : Some Armed ≡ Some Cancelled = sym (armed_self g (run g s first) by timer start) ∙ then in cc

pub start_holds : (g : Settings) (by w : ℕ) (start : Start) (answer : Result TimerRef StartErr) (s : State) (es : List Entry) (p q : Part)
    → Starts g by w start answer s es → AreCalm es → GainsOne p q answer → HoldsOn (run g s es) p q
start_holds g by w start answer s es p q starts calm gains k key is =
    elim (gains k key is) [
      | inl was ↦ inl was
      | inr new ↦ inr (
          started_not g by w start (last_timer q.number q.slots k) s es (subst (λ (a : Result TimerRef StartErr). Starts g by w start a s es) new starts) calm
          )
    ]
