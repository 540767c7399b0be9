-- What a scheduler has stands on while others act, and an advance of its wheel leaves its hand.

use Rattle.std.proofs.Common.{◌≡◌, ℕ, ◌+◌, ◌-◌, ◌<◌, ◌≤◌, Bool, true, false, cond, List, [], ◌∷◌, ◌++◌, length, Some, None, Result, Ok, Err, inl, inr, refl, sym, ap, subst, ◌∙◌, arith, length-append}
use Rattle.ert_effects.proofs.Advanced.{IsAdvance, advance_is}
use Rattle.ert_effects.specs.WheelCalls.{Advances, Try, expires_by, expiry_entries}
use Rattle.ert_defs.specs.{Entries.look_entry, Legal.Legal, Mails.{SchedState, sched_after}, States.{State, next, run, state}, Timers.Row, declared.entry.Actor.TheVariants.Sched, declared.entry.Entry.Entry, declared.entry.Event.Event}
use Rattle.ert_defs.specs.{declared.entry.Event.TheVariants.{Pick, Answer}, declared.memory.NoMemory.NoMemory, declared.settings.Settings.Settings, declared.settings.TheConstants.MOST_SLOTS, Actors.{has_actor, of}}
use Rattle.ert_laws.proofs.Few.{expired_few}
use Rattle.ert_table.specs.{Calls.IsMade, Held.is_held, Takes.TakesPlace, declared.view.View.View, Views.Begins}
use Rattle.ert_timers.specs.{Expiring.HasExpired, Trying.expired_after, ExpiredLists.Queue, SchedParts.SchedStands, declared.sched_part.SchedPart.SchedPart}
use Rattle.ert_defs.proofs.Runs.{state-append, sched_stays}
use Rattle.ert_table.proofs.Parts.{free_later, own_after, sched_own, AreByThemselves}

-- for a longer history, in which the scheduler has no more entries
pub sched_on : (g : Settings) (f h : List Entry) (p : SchedPart) → Begins f h → of h (Sched p.wheel) ≡ of f (Sched p.wheel) → SchedStands g f p
    → SchedStands g h p
sched_on g f h p more same stands =
    let still : (state g h).scheds p.wheel ≡ (state g f).scheds p.wheel =
    ap (λ l. (state g l).scheds p.wheel) more.grown
    ∙ (ap (λ (s : State). s.scheds p.wheel) (state-append g f more.later)
    ∙ sched_stays g p.wheel (state g f) more.later (free_later (Sched p.wheel) f h more same)) in
    record {
      in_range = stands.in_range;
      hand = stands.hand ∙ ap (λ (s : SchedState). s.hand) (sym still);
      expired = stands.expired ∙ ap (λ (s : SchedState). s.expired) (sym still);
    }

pub cond_same : (b : Bool) (s : SchedState) → (cond b s s).expired ≡ s.expired
cond_same true s = refl
cond_same false s = refl

-- whether an event changes what is in a hand
abbrev pub takes_hand : Event → Bool
takes_hand (Pick wheel got) = true
takes_hand (Answer wheel left) = true
takes_hand _ = false

-- none of these entries does
abbrev pub LeaveHand : List Entry → Type 0
LeaveHand [] = Unit {0}
LeaveHand (e ∷ es) = (takes_hand e.event ≡ false) × LeaveHand es

pub hand_at : (rows : ℕ → List Row) (s : SchedState) (event : Event) (b : Bool) → takes_hand event ≡ false → (cond b (sched_after rows s event) s).hand ≡ s.hand
hand_at rows s event false leaves = refl
hand_at rows s (Pick wheel got) true leaves = absurd cc
hand_at rows s (Answer wheel left) true leaves = absurd cc
hand_at rows s _ true leaves = refl

leave_append : (es fs : List Entry) → LeaveHand es → LeaveHand fs → LeaveHand (es ++ fs)
leave_append [] fs one other = other
leave_append (e ∷ es) fs one other = (one.0, leave_append es fs one.1 other)

tries_leave : (w : ℕ) (tries : List Try) → LeaveHand (expiry_entries w tries)
tries_leave w [] = tt
tries_leave w (t ∷ tries) = (by_case t.missed, tries_leave w tries)
  where
    by_case : (missed : _) → takes_hand (expires_by w t.timer missed).event ≡ false
    by_case None = refl
    by_case (Some found) = refl

leave_as : (es fs : List Entry) → es ≡ fs → LeaveHand fs → LeaveHand es
leave_as es fs same leave = subst LeaveHand (sym same) leave

pub advance_leaves : (w : ℕ) (answer : ℕ × ℕ) (es : List Entry) → IsAdvance w answer es → LeaveHand es
advance_leaves w answer es advance =
    leave_as es _ advance.entries (refl, leave_append (expiry_entries w advance.tries) _ (tries_leave w advance.tries) (refl, tt))

pub advances_leave : (g : Settings) (w : ℕ) (answer : Result (ℕ × ℕ) NoMemory) (s : State) (es : List Entry) → Advances g w answer s es → LeaveHand es
advances_leave g w (Ok answer) s es advances = advance_leaves w answer es (advance_is w answer es advances)
advances_leave g w (Err e) s es (inl none) = leave_as es [] none tt
advances_leave g w (Err e) s es (inr looked) = leave_as es _ looked.1 (refl, tt)

-- entries that leave the hand, for a pass that holds the scheduler
leave_by : (g : Settings) (w : ℕ) (es : List Entry) → LeaveHand es → AreByThemselves g (λ (s : State). (s.scheds w).hand) es
leave_by g w [] leave = tt
leave_by g w (e ∷ es) leave = (
  (λ s t same. hand_at s.rows (s.scheds w) e.event (has_actor e (Sched w)) leave.0
      ∙ (same ∙ sym (hand_at t.rows (t.scheds w) e.event (has_actor e (Sched w)) leave.0))),
  leave_by g w es leave.1,
)

leave_run : (g : Settings) (w : ℕ) (s : State) (es : List Entry) → LeaveHand es → ((run g s es).scheds w).hand ≡ (s.scheds w).hand
leave_run g w s [] leave = refl
leave_run g w s (e ∷ es) leave = leave_run g w (next g s e) es leave.1 ∙ hand_at s.rows (s.scheds w) e.event (has_actor e (Sched w)) leave.0

-- entries that leave the hand leave it
pub hand_stays : (g : Settings) (w : ℕ) (es : List Entry) (v u : View) → is_held v.actors (Sched w) ≡ true → TakesPlace g v es u → LeaveHand es
    → ((state g u.front).scheds w).hand ≡ ((state g v.front).scheds w).hand
hand_stays g w es v u held call leave =
    own_after g v es u (λ (s : State). (s.scheds w).hand)
    (λ s e not. ap (λ (x : SchedState). x.hand) (sched_own g v.actors w held s e not)) call (leave_by g w es leave)
    ∙ leave_run g w (state g v.front) es leave

-- an advance leaves the hand
pub advance_hand : (g : Settings) (w : ℕ) (answer : Result (ℕ × ℕ) NoMemory) (v u : View)
    → is_held v.actors (Sched w) ≡ true → IsMade g v (Advances g w answer) u → ((state g u.front).scheds w).hand ≡ ((state g v.front).scheds w).hand
advance_hand g w answer v u held made =
    hand_stays g w made.entries v u held made.call (advances_leave g w answer (state g v.front) made.entries made.allowed)

-- and without memory it leaves the list
still_by : (g : Settings) (w : ℕ) (e : NoMemory) (s : State) (es : List Entry) → Advances g w (Err e) s es
    → AreByThemselves g (λ (s : State). (s.scheds w).expired) es × (((run g s es).scheds w).expired ≡ (s.scheds w).expired)
still_by g w e s es (inl none) =
    (subst (AreByThemselves g (λ (s : State). (s.scheds w).expired)) (sym none) tt, ap (λ l. ((run g s l).scheds w).expired) none)
still_by g w e s es (inr look) =
    let l = look_entry (Sched w) look.0 in (
      subst (AreByThemselves g (λ (s : State). (s.scheds w).expired)) (sym look.1)
          ((λ s t same. cond_same (has_actor l (Sched w)) (s.scheds w) ∙ (same ∙ sym (cond_same (has_actor l (Sched w)) (t.scheds w)))), tt),
      ap (λ m. ((run g s m).scheds w).expired) look.1 ∙ cond_same (has_actor l (Sched w)) (s.scheds w),
    )

pub advance_still : (g : Settings) (w : ℕ) (e : NoMemory) (v u : View) → is_held v.actors (Sched w) ≡ true
    → IsMade g v (Advances g w (Err e)) u → ((state g u.front).scheds w).expired ≡ ((state g v.front).scheds w).expired
advance_still g w e v u held made =
    let still = still_by g w e (state g v.front) made.entries made.allowed in
    own_after g v made.entries u (λ (s : State). (s.scheds w).expired)
    (λ s e not. ap (λ (x : SchedState). x.expired) (sched_own g v.actors w held s e not)) made.call still.0 ∙ still.1

pub difference : (a b : ℕ) (xs ys : List Row) → a ≡ length (xs ++ ys) → b ≡ length xs → a - b ≡ length ys
difference a b xs ys whole first =
    let sum : length (xs ++ ys) ≡ length xs + length ys = length-append xs ys in
    omega (arith, whole, first, sum)

-- the count of the timers that expired is small, and it is more rows than before
pub count_fits : (g : Settings) (w n m : ℕ) (gained : List Row) (old new : Queue) (v u : View) → g.slots ≤ MOST_SLOTS → Legal g u.front
    → new.rows ≡ old.rows ++ gained → expired_after g u.front w ≡ expired_after g v.front w ++ gained
    → n ≡ length new.rows → m ≡ length old.rows → (m ≤ n) × (n - m ≤ MOST_SLOTS)
count_fits g w n m gained old new v u high legal expired waits now was =
    let count : n - m ≡ length gained = difference n m old.rows gained (now ∙ ap (λ (l : List Row). length l) expired) was in
    let low : length (expired_after g u.front w) ≤ g.slots = expired_few g u.front w legal in
    let sum : length (expired_after g u.front w) ≡ length (expired_after g v.front w) + length gained =
    ap (λ (l : List Row). length l) waits ∙ length-append (expired_after g v.front w) gained in
    let more : length new.rows ≡ length old.rows + length gained =
    ap (λ (l : List Row). length l) expired ∙ length-append old.rows gained in
    (omega (arith, now, was, more), omega (arith, count, low, sum, high))

pub advance_fits : (g : Settings) (w to n m : ℕ) (old new : Queue) (v u : View) → g.slots ≤ MOST_SLOTS
    → HasExpired g v w to old new u → n ≡ length new.rows → m ≡ length old.rows → (m ≤ n) × (n - m ≤ MOST_SLOTS)
advance_fits g w to n m old new v u high is now was = count_fits g w n m is.gained old new v u high is.call.call.legal is.expired is.waits now was
