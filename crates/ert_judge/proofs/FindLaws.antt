-- The laws of the places of a wheel's timers: which timer a reference names.

use Rattle.std.proofs.Common.{arith, ◌≡◌, ◌≢◌, ◌∙◌, refl, sym, ap, subst, ℕ, zero, suc, ◌<◌, ◌≤◌, Bool, true, false, ◌&&◌, nat_eq, List, [], ◌∷◌, length, get_or, Some, None}
use Rattle.std.proofs.lemmas.{Bool.true≢false, Option.{slice_get_within, get_or_from_slice_get, slice_get-get_or, same_Some}}
use Rattle.std.specs.Prelude.{slice_get}
use Rattle.std.specs.BTreeMap.{BTreeMap, get}
use Rattle.ert_defs.proofs.{ExpiredTimers.{same_timer_self, same_timer-false}, Slots.same_timer-true}
use Rattle.ert_defs.specs.{Timers.same_timer, declared.timer.TimerRef.TimerRef}
use Rattle.ert_judge.specs.{Wheels.timer_in, Indexes.{pair_cmp, IsUnknown, StandsAt}, declared.state.wheels.Timer.Timer}

-- the timer that stands at a place is the first of its reference
pub found_at : (ts : List Timer) (r : TimerRef) (p : ℕ) (t : Timer) → StandsAt ts r p t → timer_in ts r ≡ Some t
found_at [] r p t at = absurd (let h = at.stands in cc)
found_at (u ∷ ts) r zero t at =
    let here : u ≡ t = same_Some u t at.stands in
    let named : same_timer u.row.timer r ≡ true =
    ap (λ (v : Timer). same_timer v.row.timer r) here ∙ (ap (λ q. same_timer q r) at.named ∙ same_timer_self r) in
    rw named (ap Some here)
found_at (u ∷ ts) r (suc p) t at =
    let other : u.row.timer ≢ r = λ e. (let wrong : 0 ≡ suc p = at.alone 0 u refl e in omega arith) in
    rw (same_timer-false u.row.timer r other) (found_at ts r p t (record {
      stands = at.stands;
      named = at.named;
      alone = λ q v is e. (let more : suc q ≡ suc p = at.alone (suc q) v is e in omega arith);
    }))

-- of a reference that no timer has, none is found
pub found_none : (ts : List Timer) (r : TimerRef) → IsUnknown ts r → timer_in ts r ≡ None
found_none [] r unknown = refl
found_none (u ∷ ts) r unknown =
    rw (same_timer-false u.row.timer r (unknown 0 u refl)) (found_none ts r (λ p t is e. unknown (suc p) t is e))

-- a map has the place of each timer by its slot and its generation
abbrev pub Placed : List Timer → BTreeMap (ℕ × ℕ) ℕ → Type 0
Placed ts m = (p : ℕ) (t : Timer) → slice_get ts p ≡ Some t
    → get pair_cmp m (t.row.timer.slot, t.row.timer.generation) ≡ Some p

-- so by its reference
placed_named : (ts : List Timer) (m : BTreeMap (ℕ × ℕ) ℕ) (r : TimerRef) → Placed ts m
    → (p : ℕ) (t : Timer) → slice_get ts p ≡ Some t → t.row.timer ≡ r → get pair_cmp m (r.slot, r.generation) ≡ Some p
placed_named ts m r placed p t stands named =
    subst (λ (q : TimerRef). get pair_cmp m (q.slot, q.generation) ≡ Some p) named (placed p t stands)

-- a reference whose slot and generation have no place names no timer
pub unplaced : (ts now : List Timer) (m : BTreeMap (ℕ × ℕ) ℕ) (r : TimerRef) → ts ≡ now → Placed ts m
    → None ≡ get pair_cmp m (r.slot, r.generation) → IsUnknown now r
unplaced ts now m r same placed none =
    subst (λ us. IsUnknown us r) same (λ p t stands named.
    let wrong : None ≡ Some p = none ∙ placed_named ts m r placed p t stands named in absurd cc)

-- nor does one whose place has none of its own
pub misplaced : (ts now : List Timer) (m : BTreeMap (ℕ × ℕ) ℕ) (r : TimerRef) (p : ℕ) → ts ≡ now → Placed ts m
    → Some p ≡ get pair_cmp m (r.slot, r.generation)
    → ((t : Timer) → slice_get ts p ≡ Some t → t.row.timer ≡ r → ⊥) → IsUnknown now r
misplaced ts now m r p same placed is other =
    subst (λ us. IsUnknown us r) same (λ q t stands named.
    let there : Some p ≡ Some q = is ∙ placed_named ts m r placed q t stands named in
    other t (ap (slice_get ts) (same_Some p q there) ∙ stands) named)

-- and a timer of its own stands at no other
pub located : (ts now : List Timer) (m : BTreeMap (ℕ × ℕ) ℕ) (r : TimerRef) (p : ℕ) (t : Timer) → ts ≡ now → Placed ts m
    → Some p ≡ get pair_cmp m (r.slot, r.generation) → slice_get ts p ≡ Some t → t.row.timer ≡ r → StandsAt now r p t
located ts now m r p t same placed is stands named =
    subst (λ us. StandsAt us r p t) same (record {
      stands = stands;
      named = named;
      alone = λ q u there own. (let at : Some p ≡ Some q = is ∙ placed_named ts m r placed q u there own in
          sym (same_Some p q at));
    })

-- whether two references are one, by their parts from the last one on
abbrev pub same_parts : TimerRef → TimerRef → Bool
same_parts r q = nat_eq r.wheel q.wheel && (nat_eq r.slot q.slot && nat_eq r.generation q.generation)

same_by_parts : (r q : TimerRef) → same_parts r q ≡ same_timer r q
same_by_parts r q = regrouped (nat_eq r.wheel q.wheel) (nat_eq r.slot q.slot) (nat_eq r.generation q.generation)
  where
    regrouped : (a b c : Bool) → (a && (b && c)) ≡ ((a && b) && c)
    regrouped true b c = refl
    regrouped false b c = refl

-- a place past the timers is that of no reference
pub misplaced_past : (ts read now : List Timer) (m : BTreeMap (ℕ × ℕ) ℕ) (r : TimerRef) (p : ℕ) → read ≡ ts → ts ≡ now
    → Placed ts m → Some p ≡ get pair_cmp m (r.slot, r.generation) → length read ≤ p → IsUnknown now r
misplaced_past ts read now m r p as_read same placed is past =
    misplaced ts now m r p same placed is (λ t stands named.
    let low = slice_get_within read p t (ap (λ us. slice_get us p) as_read ∙ stands) in omega arith)

-- nor is one whose timer has another
pub misplaced_other : (ts read now : List Timer) (m : BTreeMap (ℕ × ℕ) ℕ) (r : TimerRef) (p : ℕ) (u : Timer) → read ≡ ts
    → ts ≡ now → Placed ts m → Some p ≡ get pair_cmp m (r.slot, r.generation) → p < length read → u ≡ get_or read p u
    → same_parts u.row.timer r ≡ false → IsUnknown now r
misplaced_other ts read now m r p u as_read same placed is low found other =
    misplaced ts now m r p same placed is (λ t stands named.
    let there : slice_get read p ≡ Some t = ap (λ us. slice_get us p) as_read ∙ stands in
    let one : u ≡ t = found ∙ get_or_from_slice_get read p t u there in
    let own : same_timer u.row.timer r ≡ true =
    ap (λ (v : Timer). same_timer v.row.timer r) one ∙ (ap (λ q. same_timer q r) named ∙ same_timer_self r) in
    true≢false (sym own ∙ (sym (same_by_parts u.row.timer r) ∙ other)))

-- where it has the reference, that timer stands there
pub located_read : (ts read now : List Timer) (m : BTreeMap (ℕ × ℕ) ℕ) (r : TimerRef) (p : ℕ) (u : Timer) → read ≡ ts
    → ts ≡ now → Placed ts m → Some p ≡ get pair_cmp m (r.slot, r.generation) → p < length read → u ≡ get_or read p u
    → same_parts u.row.timer r ≡ true → StandsAt now r p u
located_read ts read now m r p u as_read same placed is low found own =
    let there : slice_get ts p ≡ Some u =
    ap (λ us. slice_get us p) (sym as_read) ∙ (slice_get-get_or read p u low ∙ ap Some (sym found)) in
    located ts now m r p u same placed is there (same_timer-true u.row.timer r (sym (same_by_parts u.row.timer r) ∙ own))

-- a place where a timer stands is one of the list
pub stands_within : (ts now : List Timer) (r : TimerRef) (p : ℕ) (t : Timer) → ts ≡ now → StandsAt now r p t → p < length ts
stands_within ts now r p t same at = slice_get_within ts p t (ap (λ us. slice_get us p) same ∙ at.stands)
