-- A turn goes through the intervals one after the other.

use Rattle.std.proofs.Common.{◌≡◌, ◌⊎◌, ℕ, ◌+◌, ◌<◌, ◌≤◌, zero, suc, set, Bool, true, false, List, [], ◌∷◌, length, slice_index_or, Result, Ok, Err, refl, sym, ap, subst, ◌∙◌, inl, inr, arith, length-append}
use Rattle.std.proofs.lemmas.Bool.{cases_eq}
use Rattle.ert_interval.proofs.{Tables.either, Onward.ends_stay}
use Rattle.ert_defs.specs.{Legal.Legal, declared.memory.NoMemory.NoMemory}
use Rattle.ert_interval.specs.{Calls.{Still, IsTurnedBy, Passed, PassedBy, PassesOne, PassesSome, Unmoved, timers, CountsTimers}, Going.one_if, Intervals.{IsIntervalOf, AreIntervalsKept}, declared.interval.Interval.Interval}
use Rattle.ert_world.specs.Worlds.{Seen}

-- the first so many intervals were gone through
pub record PassesTo (w upto : ℕ) (new : Seen) (is js : List Interval) (armed : ℕ) : Type 0 where
  pub counted : length js ≡ length is
  pub started : timers js ≡ timers is + armed
  pub passed : (m : ℕ) (d : Interval) → m < upto → m < length is → IsTurnedBy w (slice_index_or is m d)
      → (b : Bool) × Passed new (slice_index_or is m d) (slice_index_or js m d) b
  pub untouched : (m : ℕ) (d : Interval) → upto ≤ m → slice_index_or js m d ≡ slice_index_or is m d
  pub others : (m : ℕ) (d : Interval) → m < length is → (IsTurnedBy w (slice_index_or is m d) → ⊥) → slice_index_or js m d ≡ slice_index_or is m d

passed_stays : (a b : Seen) (i j : Interval) (armed : Bool) → Still a b → Legal a.settings a.history → Legal b.settings b.history
    → IsIntervalOf a.settings a.history j → Passed a i j armed → Passed b i j armed
passed_stays a b i j armed still legal_a legal kept passed = record {
  same = passed.same;
  fires = passed.fires;
  ends = ends_stay a b j j.state still legal_a legal kept.used passed.ends;
}

-- those that were passed have been so still after a step of another, and those of other wheels have not moved
passed_before : (answer : Result Bool NoMemory) (w n : ℕ) (a b : Seen) (is js ks : List Interval) (armed : ℕ) → PassesTo w n a is js armed
    → PassesOne answer n w b js ks → Still a b → AreIntervalsKept a js → Legal b.settings b.history → (m : ℕ) (d : Interval) → m < n → m < length is
    → IsTurnedBy w (slice_index_or is m d) → (o : Bool) × Passed b (slice_index_or is m d) (slice_index_or ks m d) o
passed_before answer w n a b is js ks armed to step still kept legal m d low high of_wheel =
    let p = to.passed m d low high of_wheel in
    let j : Interval = slice_index_or js m d in (
      p.0,
      subst (λ k. Passed b (slice_index_or is m d) k p.0) (sym (step.others m d (omega (arith, low))))
          (passed_stays a b (slice_index_or is m d) j p.0 still kept.legal legal (kept.each m d (subst (λ x. m < x) (sym to.counted) high)) p.1),
    )

others_stay : (answer : Result Bool NoMemory) (w n : ℕ) (a b : Seen) (is js ks : List Interval) (armed : ℕ) → PassesTo w n a is js armed
    → PassesOne answer n w b js ks → (m : ℕ) (d : Interval) → m < length is → (IsTurnedBy w (slice_index_or is m d) → ⊥)
    → slice_index_or ks m d ≡ slice_index_or is m d
others_stay answer w n a b is js ks armed to step m d high other =
    let at : slice_index_or js m d ≡ slice_index_or is m d = to.others m d high other in
    elim (cases_eq m n) [
      | inl same ↦
          subst (λ x. slice_index_or ks x d ≡ slice_index_or js x d) (sym same)
          (step.other d (λ of_n. other (subst (IsTurnedBy w) (ap (λ x. slice_index_or js x d) (sym same) ∙ at) of_n))).1 ∙ at
      | inr not ↦ step.others m d not ∙ at
    ]

-- one more
pub passes_more : (w n : ℕ) (a b : Seen) (is js ks : List Interval) (armed next : ℕ) (one : Bool) → PassesTo w n a is js armed
    → PassesOne (Ok one) n w b js ks → Still a b → AreIntervalsKept a js → Legal b.settings b.history → timers ks ≡ timers js + one_if one
    → next ≡ armed + one_if one → PassesTo w (n + 1) b is ks next
passes_more w n a b is js ks armed next one to step still kept legal count sum = record {
  counted = step.counted ∙ to.counted;
  started = omega (arith, count, to.started, sum);
  passed = λ m d low high of_wheel. elim (cases_eq m n) [
    | inl same ↦ subst (λ x. IsTurnedBy w (slice_index_or is x d) → (o : Bool) × Passed b (slice_index_or is x d) (slice_index_or ks x d) o) (sym same)
        (λ of_n.
        let at : slice_index_or js n d ≡ slice_index_or is n d = to.untouched n d (omega arith) in
        (one, subst (λ i. Passed b i (slice_index_or ks n d) one) at (step.one d (subst (IsTurnedBy w) (sym at) of_n))))
        of_wheel
    | inr not ↦ passed_before (Ok one) w n a b is js ks armed to step still kept legal m d (omega (arith, low, not)) high of_wheel
  ];
  untouched = λ m d low. step.others m d (omega (arith, low)) ∙ to.untouched m d (omega (arith, low));
  others = others_stay (Ok one) w n a b is js ks armed to step;
}

-- or no memory for the next
pub passes_some : (w n : ℕ) (a b : Seen) (is js ks : List Interval) (armed : ℕ) (e : NoMemory) → PassesTo w n a is js armed
    → PassesOne (Err e) n w b js ks → Still a b → AreIntervalsKept a js → Legal b.settings b.history → PassesSome w b is ks
passes_some w n a b is js ks armed e to step still kept legal = record {
  counted = step.counted ∙ to.counted;
  passed = λ m d high of_wheel. elim (cases_eq m n) [
    | inl same ↦ subst (λ x. IsTurnedBy w (slice_index_or is x d) → Unmoved (slice_index_or is x d) (slice_index_or ks x d)
        ⊎ ((o : Bool) × Passed b (slice_index_or is x d) (slice_index_or ks x d) o)) (sym same)
        (λ of_n.
        let at : slice_index_or js n d ≡ slice_index_or is n d = to.untouched n d (omega arith) in
        inl (subst (λ i. Unmoved i (slice_index_or ks n d)) at (step.one d (subst (IsTurnedBy w) (sym at) of_n))))
        of_wheel
    | inr not ↦ elim (either m n not) [
      | inl low ↦ inr (passed_before (Err e) w n a b is js ks armed to step still kept legal m d low high of_wheel)
      | inr more ↦
          let at : slice_index_or ks m d ≡ slice_index_or is m d = step.others m d not ∙ to.untouched m d (omega (arith, more)) in
          inl (subst (Unmoved (slice_index_or is m d)) (sym at) (unmoved_self (slice_index_or is m d)))
    ]
  ];
  others = others_stay (Err e) w n a b is js ks armed to step;
}
  where
    unmoved_self : (i : Interval) → Unmoved i i
    unmoved_self i = record {
      same = record { wheel = refl; first = refl; period = refl; dest = refl; msg = refl };
      state = refl;
      last = refl;
      deadline = refl;
      firings = refl;
    }

-- how many timers there are with another interval at one place
pub timers_set : (xs : List Interval) (n : ℕ) (j d : Interval) → n < length xs
    → timers (set xs n j) + length (slice_index_or xs n d).firings.items ≡ timers xs + length j.firings.items
timers_set [] n j d low = absurd (omega (arith, low))
timers_set (x ∷ xs) zero j d low = omega arith
timers_set (x ∷ xs) (suc n) j d low = let more = timers_set xs n j d (omega (arith, low)) in omega (arith, more)

pub counts_by : (answer : Result Bool NoMemory) (w : Seen) (is : List Interval) (n : ℕ) (i j : Interval) → n < length is → i ≡ slice_index_or is n i
    → PassedBy answer w i j → CountsTimers answer is (set is n j)
counts_by (Ok true) w is n i j low at passed =
    let both = timers_set is n j i low in
    let more : length j.firings.items ≡ length i.firings.items + 1 = ap length passed.fires.1 ∙ length-append i.firings.items (passed.fires.0 ∷ []) in
    let here : length i.firings.items ≡ length (slice_index_or is n i).firings.items = ap (λ (x : Interval). length x.firings.items) at in
    omega (arith, both, more, here)
counts_by (Ok false) w is n i j low at passed =
    let both = timers_set is n j i low in
    let more : length j.firings.items ≡ length i.firings.items = ap length passed.fires in
    let here : length i.firings.items ≡ length (slice_index_or is n i).firings.items = ap (λ (x : Interval). length x.firings.items) at in
    omega (arith, both, more, here)
counts_by (Err e) w is n i j low at unmoved =
    let both = timers_set is n j i low in
    let more : length j.firings.items ≡ length i.firings.items = ap length unmoved.firings in
    let here : length i.firings.items ≡ length (slice_index_or is n i).firings.items = ap (λ (x : Interval). length x.firings.items) at in
    omega (arith, both, more, here)

pub count_is : (one : Bool) (is js : List Interval) → CountsTimers (Ok one) is js → timers js ≡ timers is + one_if one
count_is true is js counts = counts
count_is false is js counts = omega (arith, counts)
