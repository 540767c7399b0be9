-- The laws of all timers: the wheels go on by an event as the model's rows, uses and statuses do.

use Rattle.std.proofs.Common.{◌≡◌, ◌≢◌, ◌∙◌, refl, sym, ap, subst, arith, inl, inr, ℕ, suc, ℤ, ◌<◌, Bool, true, false, cond, ◌&&◌, nat_eq, List, [], ◌∷◌, ◌++◌, length, Option, Some, None, eqb-true}
use Rattle.std.proofs.lemmas.{Bool.{cases_Bool, cond_both}, List.{length-set, map-append}}
use Rattle.std.specs.Prelude.{map}
use Rattle.ert_defs.proofs.{ExpiredTimers.cond_same, Slots.{same_timer-true, uses_after}}
use Rattle.ert_defs.specs.{Actors.is_with, Legal.{IsSlot, Keeps}, Milliseconds.deadline_of, Timers.{Row, Uses, same_timer, turned, deadline_told, row_from, rows_after, above_with, status_after, settled_as, handed_as}}
use Rattle.ert_defs.specs.{declared.entry.Actor.Actor, declared.entry.Actor.TheVariants.Wheel, declared.entry.Event.Event, declared.entry.Event.TheVariants.{Arm, Cancel, Expire, Orphan, Deliver, Drop}, declared.settings.Settings.Settings}
use Rattle.ert_defs.specs.{declared.timer.Start.Start, declared.timer.Status.Status, declared.timer.Status.TheVariants.{Armed, Expired, Delivered, Cancelled, Orphaned, Dropped}, declared.timer.TimerRef.TimerRef}
use Rattle.ert_judge.specs.{Parts.{rows_in, status_at, with_moved, armed_timer, with_armed, timers_after, ArmsNew}, Shown.deadline_by, Uses.{uses_of, none_kept, used_by, uses_in, IsNewUse}, Wheels.{timers_at, timer_in, rows_of}}
use Rattle.ert_judge.specs.{Wheels.{status_among, moved, IsOwn}, declared.state.wheels.Timer.Timer}
use Rattle.ert_judge.proofs.{CellLaws.cell_after, UseLaws.{uses_push, uses_moved}, WheelLaws.{rows_moved, status_settled, status_handed, own_moved, status_armed, own_armed}}

-- no timer of its slot has the generation of a timer, and its start has a deadline
pub record IsNew (ws : List (List Timer)) (timer : TimerRef) (deadline : Option ℕ) : Type 0 where
  pub new : IsNewUse (timers_at ws timer.wheel) timer.slot timer.generation
  pub due : deadline ≢ None

-- so is the timer that an event arms
abbrev pub ArmsNext : List (List Timer) → Settings → ℤ → Event → Type 0
ArmsNext ws g look (Arm timer start) = IsNew ws timer (deadline_of g start look)
ArmsNext ws g look _ = Unit {0}

pub new_of_next : (ws : List (List Timer)) (g : Settings) (look : ℤ) (event : Event) → ArmsNext ws g look event
    → ArmsNew event ws
new_of_next ws g look (Arm timer start) is = is.new
new_of_next ws g look _ is = tt

-- the wheel of a timer in range is one of those that are kept
wheel_low : (g : Settings) (ws : List (List Timer)) (timer : TimerRef) → length ws ≡ g.schedulers
    → IsSlot g timer.wheel timer.slot → timer.wheel < length ws
wheel_low g ws timer wheels is = let high = is.wheel_high in omega arith

-- references of two wheels are two
other_wheel : (r q : TimerRef) → nat_eq r.wheel q.wheel ≡ false → same_timer r q ≡ false
other_wheel r q other = rw other refl

-- what holds of a wheel after a move there and without one holds after the move
after_move : (P : List Timer → Type 0) (r : TimerRef) (from to : Status) (ws : List (List Timer)) (w : ℕ)
    → r.wheel < length ws
    → P (moved r from to (timers_at ws w)) → (nat_eq r.wheel w ≡ false → P (timers_at ws w))
    → P (timers_at (with_moved r from to ws) w)
after_move P r from to ws w low here there =
    subst P (sym (cell_after (moved r from to) ws r.wheel w [] low))
    (cond_both (nat_eq r.wheel w) (moved r from to (timers_at ws w)) (timers_at ws w) P (λ is. here) there)

-- a move leaves the rows of each wheel
rows_kept : (r : TimerRef) (from to : Status) (ws : List (List Timer)) (w : ℕ) (b : Bool) → r.wheel < length ws
    → rows_in (with_moved r from to ws) w ≡ cond b (rows_in ws w) (rows_in ws w)
rows_kept r from to ws w b low =
    after_move (λ ts. rows_of ts ≡ rows_in ws w) r from to ws w low (rows_moved r from to (timers_at ws w)) (λ other. refl)
    ∙ sym (cond_same b (rows_in ws w))

-- and the uses of each slot
same_uses : (b : Bool) (u : Uses)
    → u ≡ record { last = cond b u.last u.last; since = cond b u.since u.since; above = cond b u.above u.above }
same_uses true u = refl
same_uses false u = refl

uses_kept : (r : TimerRef) (from to : Status) (ws : List (List Timer)) (w k : ℕ) (b : Bool) → r.wheel < length ws
    → let u : Uses = uses_in (timers_at ws w) k in uses_in (timers_at (with_moved r from to ws) w) k
    ≡ record { last = cond b u.last u.last; since = cond b u.since u.since; above = cond b u.above u.above }
uses_kept r from to ws w k b low =
    after_move (λ ts. uses_in ts k ≡ uses_in (timers_at ws w) k) r from to ws w low
    (uses_moved (uses_of none_kept) r from to (timers_at ws w) k) (λ other. refl)
    ∙ same_uses b (uses_in (timers_at ws w) k)

-- a move from armed settles
settled_at : (r q : TimerRef) (to : Status) (ws : List (List Timer)) → r.wheel < length ws
    → status_at (with_moved r Armed to ws) q ≡ cond (same_timer r q) (settled_as to (status_at ws q)) (status_at ws q)
settled_at r q to ws low =
    after_move (λ ts. status_among ts q ≡ cond (same_timer r q) (settled_as to (status_at ws q)) (status_at ws q))
    r Armed to ws q.wheel low (status_settled (timers_at ws q.wheel) r q to) (λ other. rw (other_wheel r q other) refl)

-- a move from expired hands over
handed_at : (r q : TimerRef) (to : Status) (ws : List (List Timer)) → r.wheel < length ws
    → status_at (with_moved r Expired to ws) q ≡ cond (same_timer r q) (handed_as to (status_at ws q)) (status_at ws q)
handed_at r q to ws low =
    after_move (λ ts. status_among ts q ≡ cond (same_timer r q) (handed_as to (status_at ws q)) (status_at ws q))
    r Expired to ws q.wheel low (status_handed (timers_at ws q.wheel) r q to) (λ other. rw (other_wheel r q other) refl)

-- a move keeps the timers of each wheel its own
own_kept : (r : TimerRef) (from to : Status) (ws : List (List Timer)) (w : ℕ) → r.wheel < length ws
    → IsOwn w (timers_at ws w) → IsOwn w (timers_at (with_moved r from to ws) w)
own_kept r from to ws w low own =
    after_move (IsOwn w) r from to ws w low (own_moved w r from to (timers_at ws w) own) (λ other. own)

-- what holds of a wheel after an arming there and without one holds after the arming
after_arming : (P : List Timer → Type 0) (r : TimerRef) (start : Start) (deadline : Option ℕ) (ws : List (List Timer)) (w : ℕ)
    → r.wheel < length ws
    → (nat_eq r.wheel w ≡ true → P (timers_at ws w ++ map armed_timer (row_from r start deadline)))
    → (nat_eq r.wheel w ≡ false → P (timers_at ws w))
    → P (timers_at (with_armed r start deadline ws) w)
after_arming P r start deadline ws w low here there =
    let more : List Timer = map armed_timer (row_from r start deadline) in
    subst P (sym (cell_after (λ (ts : List Timer). ts ++ more) ws r.wheel w [] low))
    (cond_both (nat_eq r.wheel w) (timers_at ws w ++ more) (timers_at ws w) P here there)

rows_from : (r : TimerRef) (start : Start) (deadline : Option ℕ) → rows_of (map armed_timer (row_from r start deadline)) ≡ row_from r start deadline
rows_from r start None = refl
rows_from r start (Some d) = refl

-- an arming puts a row last, where the start has a deadline
rows_at : (r : TimerRef) (start : Start) (deadline : Option ℕ) (ws : List (List Timer)) (w : ℕ) → r.wheel < length ws
    → rows_in (with_armed r start deadline ws) w
    ≡ cond (nat_eq r.wheel w) (cond (nat_eq r.wheel w) (rows_in ws w ++ row_from r start deadline) (rows_in ws w)) (rows_in ws w)
rows_at r start deadline ws w low =
    after_arming
    (λ ts. rows_of ts
    ≡ cond (nat_eq r.wheel w) (cond (nat_eq r.wheel w) (rows_in ws w ++ row_from r start deadline) (rows_in ws w)) (rows_in ws w))
    r start deadline ws w low
    (λ is. rw is (map-append (λ (t : Timer). t.row) (timers_at ws w) (map armed_timer (row_from r start deadline))
    ∙ ap (λ rows. rows_in ws w ++ rows) (rows_from r start deadline)))
    (λ other. rw other refl)

-- the row of a start for a deadline
abbrev row_at : TimerRef → Start → ℕ → Row
row_at r start d =
    record { timer = r; deadline = deadline_told r.generation d; dest = start.dest; msg = start.msg; kind = start.kind }

-- the uses of a slot after a timer was armed in its wheel and in it, or not
abbrev uses_armed : Bool → Bool → ℕ → Option ℕ → Uses → Uses
uses_armed wheel slot generation deadline u = record {
  last = cond wheel (cond (wheel && slot) generation u.last) u.last;
  since = cond wheel (cond (wheel && slot) (turned u).since u.since) u.since;
  above = cond wheel (cond (wheel && slot) (above_with generation u.above deadline) u.above) u.above;
}

by_slot : (slot : Bool) (r : TimerRef) (start : Start) (d : ℕ) (u : Uses)
    → cond slot (used_by (row_at r start d) u) u ≡ uses_armed true slot r.generation (Some d) u
by_slot true r start d u = refl
by_slot false r start d u = refl

-- the uses of a slot are one more after a timer was armed in it
uses_more : (r : TimerRef) (start : Start) (deadline : Option ℕ) (ws : List (List Timer)) (w k : ℕ) → r.wheel < length ws
    → IsNew ws r deadline
    → uses_in (timers_at (with_armed r start deadline ws) w) k
    ≡ uses_armed (nat_eq r.wheel w) (nat_eq r.slot k) r.generation deadline (uses_in (timers_at ws w) k)
uses_more r start None ws w k low new = absurd (new.due refl)
uses_more r start (Some d) ws w k low new =
    after_arming
    (λ ts. uses_in ts k ≡ uses_armed (nat_eq r.wheel w) (nat_eq r.slot k) r.generation (Some d) (uses_in (timers_at ws w) k))
    r start (Some d) ws w low
    (λ is. rw is (uses_push (uses_of none_kept) (timers_at ws w) (armed_timer (row_at r start d)) k
    ∙ by_slot (nat_eq r.slot k) r start d (uses_in (timers_at ws w) k)))
    (λ other. rw other refl)

-- a generation that no timer of a slot has names none
new_is_unknown : (ts : List Timer) (r : TimerRef) → IsNewUse ts r.slot r.generation → timer_in ts r ≡ None
new_is_unknown [] r new = refl
new_is_unknown (t ∷ ts) r new = elim (cases_Bool (same_timer t.row.timer r)) [
  | inl is ↦
      let same = same_timer-true t.row.timer r is in
      absurd (new 0 t refl (ap (λ (q : TimerRef). q.slot) same) (ap (λ (q : TimerRef). q.generation) same))
  | inr is ↦ rw is (new_is_unknown ts r (λ p u stands. new (suc p) u stands))
]

-- a timer that is new is unknown to its wheel
unknown : (r : TimerRef) (deadline : Option ℕ) (ws : List (List Timer)) (w : ℕ) → IsNew ws r deadline → r.wheel ≡ w
    → timer_in (timers_at ws w) r ≡ None
unknown r deadline ws w new is =
    subst (λ v. timer_in (timers_at ws v) r ≡ None) is (new_is_unknown (timers_at ws r.wheel) r new.new)

-- a timer that was armed is armed, and the statuses of all others stay
armed_at : (r q : TimerRef) (start : Start) (deadline : Option ℕ) (ws : List (List Timer)) → r.wheel < length ws
    → IsNew ws r deadline
    → status_at (with_armed r start deadline ws) q
    ≡ cond (nat_eq r.wheel q.wheel && same_timer r q) (Some Armed) (status_at ws q)
armed_at r q start None ws low new = absurd (new.due refl)
armed_at r q start (Some d) ws low new =
    after_arming (λ ts. status_among ts q ≡ cond (nat_eq r.wheel q.wheel && same_timer r q) (Some Armed) (status_at ws q))
    r start (Some d) ws q.wheel low
    (λ is. status_armed (timers_at ws q.wheel) (armed_timer (row_at r start d)) q
    (unknown r (Some d) ws q.wheel new (eqb-true r.wheel q.wheel is))
    ∙ ap (λ b. cond (b && same_timer r q) (Some Armed) (status_at ws q)) (sym is))
    (λ other. rw other refl)

-- an arming keeps the timers of each wheel its own
own_at : (r : TimerRef) (start : Start) (deadline : Option ℕ) (ws : List (List Timer)) (w : ℕ) → r.wheel < length ws
    → IsNew ws r deadline → IsOwn w (timers_at ws w) → IsOwn w (timers_at (with_armed r start deadline ws) w)
own_at r start None ws w low new own = absurd (new.due refl)
own_at r start (Some d) ws w low new own =
    after_arming (IsOwn w) r start (Some d) ws w low
    (λ is. let wheel : r.wheel ≡ w = eqb-true r.wheel w is in
    own_armed w (timers_at ws w) (armed_timer (row_at r start d)) own wheel (unknown r (Some d) ws w new wheel))
    (λ other. own)

-- the rows of each wheel go on as those of the model
pub rows_follow : (ws : List (List Timer)) (g : Settings) (look : ℤ) (by : Actor) (with : Option Actor) (event : Event)
    → Keeps g by with event → length ws ≡ g.schedulers → (w : ℕ)
    → rows_in (timers_after (deadline_by g look event) event ws) w
    ≡ cond (is_with with (Wheel w)) (rows_after g look w (rows_in ws w) event) (rows_in ws w)
rows_follow ws g look by with (Arm timer start) keeps wheels w =
    rw keeps.1 (rows_at timer start (deadline_of g start look) ws w (wheel_low g ws timer wheels keeps.2))
rows_follow ws g look by with (Cancel timer left) keeps wheels w =
    rows_kept timer Armed Cancelled ws w (is_with with (Wheel w)) (wheel_low g ws timer wheels keeps.2)
rows_follow ws g look by with (Expire timer) keeps wheels w =
    rows_kept timer Armed Expired ws w (is_with with (Wheel w)) (wheel_low g ws timer wheels keeps.2)
rows_follow ws g look by with (Orphan timer) keeps wheels w =
    rows_kept timer Armed Orphaned ws w (is_with with (Wheel w)) (wheel_low g ws timer wheels keeps.2)
rows_follow ws g look by with (Deliver timer) keeps wheels w =
    rows_kept timer Expired Delivered ws w (is_with with (Wheel w)) (wheel_low g ws timer wheels keeps.2)
rows_follow ws g look by with (Drop timer) keeps wheels w =
    rows_kept timer Expired Dropped ws w (is_with with (Wheel w)) (wheel_low g ws timer wheels keeps.2)
rows_follow ws g look by with _ keeps wheels w = sym (cond_same (is_with with (Wheel w)) (rows_in ws w))

-- so do the uses of each slot
pub uses_follow : (ws : List (List Timer)) (g : Settings) (look : ℤ) (by : Actor) (with : Option Actor) (event : Event)
    → Keeps g by with event → length ws ≡ g.schedulers → ArmsNext ws g look event → (w k : ℕ)
    → uses_in (timers_at (timers_after (deadline_by g look event) event ws) w) k
    ≡ uses_after g look (is_with with (Wheel w)) w k (uses_in (timers_at ws w) k) event
uses_follow ws g look by with (Arm timer start) keeps wheels arms w k =
    rw keeps.1 (uses_more timer start (deadline_of g start look) ws w k (wheel_low g ws timer wheels keeps.2) arms)
uses_follow ws g look by with (Cancel timer left) keeps wheels arms w k =
    uses_kept timer Armed Cancelled ws w k (is_with with (Wheel w)) (wheel_low g ws timer wheels keeps.2)
uses_follow ws g look by with (Expire timer) keeps wheels arms w k =
    uses_kept timer Armed Expired ws w k (is_with with (Wheel w)) (wheel_low g ws timer wheels keeps.2)
uses_follow ws g look by with (Orphan timer) keeps wheels arms w k =
    uses_kept timer Armed Orphaned ws w k (is_with with (Wheel w)) (wheel_low g ws timer wheels keeps.2)
uses_follow ws g look by with (Deliver timer) keeps wheels arms w k =
    uses_kept timer Expired Delivered ws w k (is_with with (Wheel w)) (wheel_low g ws timer wheels keeps.2)
uses_follow ws g look by with (Drop timer) keeps wheels arms w k =
    uses_kept timer Expired Dropped ws w k (is_with with (Wheel w)) (wheel_low g ws timer wheels keeps.2)
uses_follow ws g look by with _ keeps wheels arms w k = same_uses (is_with with (Wheel w)) (uses_in (timers_at ws w) k)

-- so do the statuses
pub status_follows : (ws : List (List Timer)) (g : Settings) (look : ℤ) (by : Actor) (with : Option Actor) (event : Event)
    → Keeps g by with event → length ws ≡ g.schedulers → ArmsNext ws g look event → (r : TimerRef)
    → status_at (timers_after (deadline_by g look event) event ws) r
    ≡ status_after r (is_with with (Wheel r.wheel)) (status_at ws r) event
status_follows ws g look by with (Arm timer start) keeps wheels arms r =
    rw keeps.1 (armed_at timer r start (deadline_of g start look) ws (wheel_low g ws timer wheels keeps.2) arms)
status_follows ws g look by with (Cancel timer left) keeps wheels arms r =
    settled_at timer r Cancelled ws (wheel_low g ws timer wheels keeps.2)
status_follows ws g look by with (Expire timer) keeps wheels arms r =
    settled_at timer r Expired ws (wheel_low g ws timer wheels keeps.2)
status_follows ws g look by with (Orphan timer) keeps wheels arms r =
    settled_at timer r Orphaned ws (wheel_low g ws timer wheels keeps.2)
status_follows ws g look by with (Deliver timer) keeps wheels arms r =
    handed_at timer r Delivered ws (wheel_low g ws timer wheels keeps.2)
status_follows ws g look by with (Drop timer) keeps wheels arms r =
    handed_at timer r Dropped ws (wheel_low g ws timer wheels keeps.2)
status_follows ws g look by with _ keeps wheels arms r = refl

-- the timers of each wheel stay its own
pub own_follows : (ws : List (List Timer)) (g : Settings) (look : ℤ) (by : Actor) (with : Option Actor) (event : Event)
    → Keeps g by with event → length ws ≡ g.schedulers → ArmsNext ws g look event → ((w : ℕ) → IsOwn w (timers_at ws w)) → (w : ℕ)
    → IsOwn w (timers_at (timers_after (deadline_by g look event) event ws) w)
own_follows ws g look by with (Arm timer start) keeps wheels arms own w =
    own_at timer start (deadline_of g start look) ws w (wheel_low g ws timer wheels keeps.2) arms (own w)
own_follows ws g look by with (Cancel timer left) keeps wheels arms own w =
    own_kept timer Armed Cancelled ws w (wheel_low g ws timer wheels keeps.2) (own w)
own_follows ws g look by with (Expire timer) keeps wheels arms own w =
    own_kept timer Armed Expired ws w (wheel_low g ws timer wheels keeps.2) (own w)
own_follows ws g look by with (Orphan timer) keeps wheels arms own w =
    own_kept timer Armed Orphaned ws w (wheel_low g ws timer wheels keeps.2) (own w)
own_follows ws g look by with (Deliver timer) keeps wheels arms own w =
    own_kept timer Expired Delivered ws w (wheel_low g ws timer wheels keeps.2) (own w)
own_follows ws g look by with (Drop timer) keeps wheels arms own w =
    own_kept timer Expired Dropped ws w (wheel_low g ws timer wheels keeps.2) (own w)
own_follows ws g look by with _ keeps wheels arms own w = own w

-- there are as many wheels after an event as before
pub length_follows : (deadline : Option ℕ) (event : Event) (ws : List (List Timer))
    → length (timers_after deadline event ws) ≡ length ws
length_follows deadline (Arm timer start) ws = length-set ws timer.wheel _
length_follows deadline (Cancel timer left) ws = length-set ws timer.wheel _
length_follows deadline (Expire timer) ws = length-set ws timer.wheel _
length_follows deadline (Orphan timer) ws = length-set ws timer.wheel _
length_follows deadline (Deliver timer) ws = length-set ws timer.wheel _
length_follows deadline (Drop timer) ws = length-set ws timer.wheel _
length_follows deadline _ ws = refl
