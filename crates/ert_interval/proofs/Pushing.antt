-- An interval whose next timer was started.

use Rattle.std.proofs.Common.{◌≡◌, ◌≢◌, ℕ, suc, ◌+◌, ◌*◌, ◌<◌, ◌≤◌, ℤ, pos, ◌+ℤ◌, ◌-ℤ◌, Bool, true, false, List, [], ◌∷◌, ◌++◌, length, slice_index_or, Option, Some, None, refl, sym, ap, subst, ◌∙◌, inl, inr, arith, length-append}
use Rattle.std.proofs.{lemmas.Int.ints, Math.ListN.get_or-append, Math.Seq.get_or-append_seam, lemmas.Bool.cases_eq}
use Rattle.ert_defs.specs.{Legal.Legal, Milliseconds.deadline_at, States.{State, state}, declared.entry.Entry.Entry, declared.settings.Settings.Settings, declared.timer.Status.Status, declared.timer.Status.TheVariants.{Armed, Expired}}
use Rattle.ert_defs.specs.{declared.timer.Status.TheVariants.{Delivered, Cancelled, Orphaned, Dropped}, declared.timer.TimerRef.TimerRef}
use Rattle.ert_defs.proofs.{Runs.{legal_first, legal_then, state-append}, Slots.ordered}
use Rattle.ert_interval.specs.{Deadlines.{base, start_at, time_of_deadline}, Intervals.{IsFiring, IsAfter, AreFirings, IsPastExpiry, IsGoing, IsInState, IsIntervalOf}, declared.interval.Interval.Interval}
use Rattle.ert_interval.specs.{declared.interval.IntervalState.TheVariants.Running}
use Rattle.ert_interval.proofs.{Deadlines.deadline_more, Growing.firings_grow, Starting.HasStarted, Steps.expired_stays}
use Rattle.ert_world.specs.Worlds.{Seen}

-- a timer that goes on and isn't armed has expired, where its destination lives
pub going_expired : (x : Option Status) (exited : Bool) → IsGoing x exited → x ≢ Some Armed → exited ≡ false → IsPastExpiry x
going_expired None exited going other lives = absurd going
going_expired (Some Cancelled) exited going other lives = absurd going
going_expired (Some Orphaned) exited going other lives = let clash : true ≡ false = sym going ∙ lives in absurd cc
going_expired (Some Armed) exited going other lives = absurd (other refl)
going_expired (Some Expired) exited going other lives = tt
going_expired (Some Delivered) exited going other lives = tt
going_expired (Some Dropped) exited going other lives = tt

-- the interval with one timer more, as the timers of `k` are
abbrev pub next_of : Interval → Interval → TimerRef → ℕ → Interval
next_of i k timer d = record i { state = Running; last = timer; deadline = d; firings = k.firings }

abbrev IsNext : Interval → Interval → TimerRef → Type 0
IsNext i k timer = k.firings.items ≡ i.firings.items ++ timer ∷ []

old_at : (i k : Interval) (timer : TimerRef) → IsNext i k timer → (j : ℕ) (e : TimerRef) → j < length i.firings.items
    → slice_index_or k.firings.items j e ≡ slice_index_or i.firings.items j e
old_at i k timer push j e low = ap (λ l. slice_index_or l j e) push ∙ get_or-append i.firings.items (timer ∷ []) e j low

new_at : (i k : Interval) (timer : TimerRef) → IsNext i k timer → (e : TimerRef) → slice_index_or k.firings.items (length i.firings.items) e ≡ timer
new_at i k timer push e = ap (λ l. slice_index_or l (length i.firings.items) e) push ∙ get_or-append_seam i.firings.items timer [] e

many : (i k : Interval) (timer : TimerRef) → IsNext i k timer → length k.firings.items ≡ length i.firings.items + 1
many i k timer push = ap length push ∙ length-append i.firings.items (timer ∷ [])

last_at : (i : Interval) (before : List TimerRef) → i.firings.items ≡ before ++ i.last ∷ [] → (e : TimerRef)
    → slice_index_or i.firings.items (length before) e ≡ i.last
last_at i before ends e = ap (λ l. slice_index_or l (length before) e) ends ∙ get_or-append_seam before i.last [] e

count : (i : Interval) (before : List TimerRef) → i.firings.items ≡ before ++ i.last ∷ [] → length i.firings.items ≡ length before + 1
count i before ends = ap length ends ∙ length-append before (i.last ∷ [])

firings_push : (g : Settings) (h : List Entry) (i k : Interval) (timer : TimerRef) (d : ℕ) (before : List TimerRef) → IsNext i k timer
    → i.firings.items ≡ before ++ i.last ∷ []
    → AreFirings g h i → IsFiring g h i (length before + 1) timer → IsPastExpiry ((state g h).status i.last) → IsAfter g h i.last timer
    → AreFirings g h (next_of i k timer d)
firings_push g h i k timer d before push ends f new expired behind =
    let s : State = state g h in
    let n : ℕ = length i.firings.items in
    let all : length k.firings.items ≡ n + 1 = many i k timer push in
    let some : n ≡ length before + 1 = count i before ends in
    record {
      each = λ j e low. elim (cases_eq j n) [
        | inl is ↦
            let at : slice_index_or k.firings.items j e ≡ timer = subst (λ x. slice_index_or k.firings.items x e ≡ timer) (sym is) (new_at i k timer push e) in
            subst (IsFiring g h (next_of i k timer d) j) (sym at)
            (as_next (subst (λ x. IsFiring g h i x timer) (sym (is ∙ some)) new))
        | inr not ↦
            let below : j < n = omega (arith, all, low, not) in
            subst (IsFiring g h (next_of i k timer d) j) (sym (old_at i k timer push j e below)) (as_next (f.each j e below))
      ];
      expired = λ j e low. elim (cases_eq (suc j) n) [
        | inl is ↦
            let place : j ≡ length before = omega (arith, is, some) in
            let at : slice_index_or k.firings.items j e ≡ i.last =
            old_at i k timer push j e (omega (arith, is)) ∙ subst (λ x. slice_index_or i.firings.items x e ≡ i.last) (sym place) (last_at i before ends e) in
            subst (λ r. IsPastExpiry (s.status r)) (sym at) expired
        | inr not ↦
            let below : suc j < n = omega (arith, all, low, not) in
            subst (λ r. IsPastExpiry (s.status r)) (sym (old_at i k timer push j e (omega (arith, below)))) (f.expired j e below)
      ];
      after = λ j e low. elim (cases_eq (suc j) n) [
        | inl is ↦
            let place : j ≡ length before = omega (arith, is, some) in
            let at : slice_index_or k.firings.items j e ≡ i.last =
            old_at i k timer push j e (omega (arith, is)) ∙ subst (λ x. slice_index_or i.firings.items x e ≡ i.last) (sym place) (last_at i before ends e) in
            let next : slice_index_or k.firings.items (suc j) e ≡ timer =
            subst (λ x. slice_index_or k.firings.items x e ≡ timer) (sym is) (new_at i k timer push e) in
            subst (λ r. IsAfter g h r (slice_index_or k.firings.items (suc j) e)) (sym at) (subst (IsAfter g h i.last) (sym next) behind)
        | inr not ↦
            let below : suc j < n = omega (arith, all, low, not) in
            subst (λ r. IsAfter g h r (slice_index_or k.firings.items (suc j) e)) (sym (old_at i k timer push j e (omega (arith, below))))
            (subst (IsAfter g h (slice_index_or i.firings.items j e)) (sym (old_at i k timer push (suc j) e below)) (f.after j e below))
      ];
    }
  where
    as_next : {j : ℕ} {r : TimerRef} → IsFiring g h i j r → IsFiring g h (next_of i k timer d) j r
    as_next one = record { wheel = one.wheel; deadline = one.deadline; due = one.due; row = one.row; told = one.told }

-- an interval whose next timer was started is in order
pub pushed : (a b : Seen) (piece : List Entry) (i k : Interval) (timer : TimerRef) (d : ℕ) → b.settings ≡ a.settings → b.history ≡ a.history ++ piece
    → Legal b.settings b.history → IsIntervalOf a.settings a.history i
    → IsGoing ((state a.settings a.history).status i.last) ((state a.settings a.history).exited i.dest)
    → HasStarted a b i.wheel (start_at (time_of_deadline a.settings d) i.dest i.msg) timer d
    → (state a.settings a.history).exited i.dest ≡ false → (state a.settings a.history).status i.last ≢ Some Armed
    → d ≡ i.deadline + i.period → d ≤ 8796093022207 → IsNext i k timer → IsIntervalOf b.settings b.history (next_of i k timer d)
pushed a b piece i k timer d settings grown legal_b kept going start lives other next low push =
    let g : Settings = a.settings in
    let h : List Entry = a.history in
    let h' : List Entry = b.history in
    let legal : Legal g (h ++ piece) = subst (Legal g) grown (subst (λ x. Legal x b.history) settings legal_b) in
    let legal_h = legal_first g _ h piece legal in
    let expired : IsPastExpiry ((state g h).status i.last) = going_expired _ _ going other lives in
    let expired' : IsPastExpiry ((state g h').status i.last) =
    subst (λ l. IsPastExpiry ((state g l).status i.last)) (sym grown)
    (subst (λ (s : State). IsPastExpiry (s.status i.last)) (sym (state-append g h piece))
    (expired_stays g (state g h) piece i.last (ordered g h legal_h) (legal_then g _ h piece legal) expired)) in
    let firings : AreFirings g h' i = subst (λ l. AreFirings g l i) (sym grown) (firings_grow g h piece i i.state legal kept.firings) in
    let due : deadline_at ((i.first +ℤ pos ((length kept.before + 1) * i.period)) -ℤ base g) ≡ Some d =
    deadline_more i.first (base g) (length kept.before) i.period i.deadline kept.due (subst (λ x. x ≤ 8796093022207) next low) ∙ ap Some (sym next) in
    subst (λ x. IsIntervalOf x h' (next_of i k timer d)) (sym settings) (record {
      wheel = kept.wheel;
      dest = kept.dest;
      before = kept.before ++ i.last ∷ [];
      ends = push ∙ ap (λ l. l ++ timer ∷ []) kept.ends;
      due = subst (λ n. deadline_at ((i.first +ℤ pos (n * i.period)) -ℤ base g) ≡ Some d) (sym (length-append kept.before (i.last ∷ []))) due;
      firings = firings_push g h' i k timer d kept.before push kept.ends firings
          (record { wheel = start.on; deadline = d; due = due; row = start.row; told = start.told }) expired'
          (record { before = start.before; behind = start.behind; parted = start.parted; expired = start.early i.last expired; unarmed = start.unarmed });
      used = start.used;
      named = start.named;
      on = start.on;
      row = start.row;
      is_in = start.going;
    })

-- an interval whose first timer was started is in order
pub begun : (a b : Seen) (j : Interval) (time : ℤ) → b.settings ≡ a.settings → j.firings.items ≡ j.last ∷ [] → j.state ≡ Running → time ≡ j.first
    → deadline_at (j.first -ℤ base a.settings) ≡ Some j.deadline
    → j.wheel < a.settings.schedulers → j.dest < a.settings.processes
    → HasStarted a b j.wheel (start_at time j.dest j.msg) j.last j.deadline → IsIntervalOf b.settings b.history j
begun a b j time settings firings running same due wheel dest start =
    let g : Settings = a.settings in
    let h' : List Entry = b.history in
    let one : length j.firings.items ≡ 1 = ap length firings in
    let due0 : deadline_at ((j.first +ℤ pos (0 * j.period)) -ℤ base g) ≡ Some j.deadline = ap (λ z. deadline_at (z -ℤ base g)) (nothing j.first) ∙ due in
    subst (λ x. IsIntervalOf x h' j) (sym settings) (record {
      wheel = wheel;
      dest = dest;
      before = [];
      ends = firings;
      due = due0;
      firings = record {
        each = λ k d low.
            let none : k ≡ 0 = omega (arith, low, one) in
            let at : slice_index_or j.firings.items k d ≡ j.last = ap (λ n. slice_index_or j.firings.items n d) none ∙ ap (λ l. slice_index_or l 0 d) firings in
            subst (IsFiring g h' j k) (sym at)
            (subst (λ n. IsFiring g h' j n j.last) (sym none)
            (record { wheel = start.on; deadline = j.deadline; due = due0; row = start.row; told = start.told }));
        expired = λ k d low. absurd (omega (arith, low, one));
        after = λ k d low. absurd (omega (arith, low, one));
      };
      used = start.used;
      named = start.named;
      on = start.on;
      row = start.row;
      is_in = subst (IsInState (state g h') j) (sym running) start.going;
    })
  where
    nothing : (x : ℤ) → (x +ℤ pos (0 * j.period)) ≡ x
    nothing x = omega (arith, ints)
