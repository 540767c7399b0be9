-- When a slot rests, and which use of it comes next.

use Rattle.std.proofs.Common.{◌≡◌, ℕ, zero, suc, ◌+◌, ◌*◌, ◌<◌, ◌≤◌, Bool, true, false, cond, not, ◌&&◌, nat_lt, max, refl, sym, ap, subst, ◌∙◌, inl, inr, arith}
use Rattle.std.proofs.lemmas.Bool.Decides.{nat_tests}
use Rattle.ert_defs.specs.{States.{State, uses_at}, Timers.{Uses, IsNextUse, deadline_in, generation_in, turned, use_of}}
use Rattle.ert_defs.proofs.Uses.{IsSound, turn_cases, use_low}
use Rattle.ert_timers.specs.{Changes.{is_resting, has_uses, next_use}, Slots.Slot, declared.part.Use.Use}

-- whether uses rest at a time
abbrev rest_at : Uses → ℕ → Bool
rest_at u now = not (nat_lt (use_of u.last) 262143) && nat_lt now u.above

turned_since : (u : Uses) (now : ℕ) → u.since ≤ now → rest_at u now ≡ false → (turned u).since ≤ now
turned_since u now begun free = at (nat_lt (use_of u.last) 262143) free
  where
    at : (b : Bool) → (not b && nat_lt now u.above) ≡ false → (cond b u (record { last = 0; since = u.above; above = u.above })).since ≤ now
    at true free = begun
    at false free = grind (arith, nat_tests)

turned_rests : (u : Uses) (now : ℕ) → rest_at u now ≡ true → now < (turned u).since
turned_rests u now rests = at (nat_lt (use_of u.last) 262143) rests
  where
    at : (b : Bool) → (not b && nat_lt now u.above) ≡ true → now < (cond b u (record { last = 0; since = u.above; above = u.above })).since
    at true rests = absurd cc
    at false rests = grind (arith, nat_tests)

-- what is kept of a slot tells whether its uses rest
same_rest : (s : State) (w k now : ℕ) (slot : Slot) → slot.generation ≡ s.last w k → slot.above ≡ s.above w k
    → rest_at (uses_at s w k) now ≡ is_resting slot now
same_rest s w k now slot last above =
    ap (λ n. not (nat_lt (use_of n) 262143) && nat_lt now (s.above w k)) (sym last)
    ∙ ap (λ a. not (nat_lt (use_of slot.generation) 262143) && nat_lt now a) (sym above)

-- a slot that doesn't rest, and whose round has begun
pub rested_by : (s : State) (w k now : ℕ) (slot : Slot) → slot.generation ≡ s.last w k → slot.above ≡ s.above w k → s.since w k ≤ now
    → is_resting slot now ≡ false → (turned (uses_at s w k)).since ≤ now
rested_by s w k now slot last above begun free = turned_since (uses_at s w k) now begun (same_rest s w k now slot last above ∙ free)

-- a slot that rests
pub rests_by : (s : State) (w k now : ℕ) (slot : Slot) → slot.generation ≡ s.last w k → slot.above ≡ s.above w k
    → is_resting slot now ≡ true → now < (turned (uses_at s w k)).since
rests_by s w k now slot last above rests = turned_rests (uses_at s w k) now (same_rest s w k now slot last above ∙ rests)

turned_ready : (u : Uses) (now : ℕ) → rest_at u now ≡ true → ((turned u).since ≡ u.above) × (now < u.above)
turned_ready u now rests = at (nat_lt (use_of u.last) 262143) rests
  where
    at : (b : Bool) → (not b && nat_lt now u.above) ≡ true
        → ((cond b u (record { last = 0; since = u.above; above = u.above })).since ≡ u.above) × (now < u.above)
    at true rests = absurd cc
    at false rests = (refl, grind (arith, nat_tests))

-- until one above the greatest deadline of its timers
pub resting_since : (s : State) (w k now : ℕ) (slot : Slot) → slot.generation ≡ s.last w k → slot.above ≡ s.above w k
    → is_resting slot now ≡ true → ((turned (uses_at s w k)).since ≡ slot.above) × (now < slot.above)
resting_since s w k now slot last above rests =
    let is = turned_ready (uses_at s w k) now (same_rest s w k now slot last above ∙ rests) in
    (is.0 ∙ sym above, omega (arith, is.1, above))

-- a slot whose round has uses left doesn't rest
pub used_less : (slot : Slot) (now : ℕ) → has_uses slot ≡ true → is_resting slot now ≡ false
used_less slot now has = ap (λ b. not b && nat_lt now slot.above) has

-- one that doesn't rest doesn't so later
pub later_awake : (slot : Slot) (now later : ℕ) → now ≤ later → is_resting slot now ≡ false → is_resting slot later ≡ false
later_awake slot now later rises free = at (has_uses slot) free
  where
    at : (b : Bool) → (not b && nat_lt now slot.above) ≡ false → (not b && nat_lt later slot.above) ≡ false
    at true free = refl
    at false free = grind (arith, nat_tests)

next_low : (n now wanted : ℕ) → n < 262143 → next_use n now wanted ≡ record { generation = n + 1; deadline = wanted }
next_low n now wanted low =
    let yes : nat_lt n 262143 ≡ true = grind (arith, nat_tests) in
    rw yes refl

next_high : (n now wanted : ℕ) → 262143 ≤ n
    → next_use n now wanted
    ≡ record {
      generation = 8796093022208 * (cond (nat_lt (use_of n) 262143) (use_of n) 0 + 1) + max now wanted;
      deadline = max now wanted;
    }
next_high n now wanted high =
    let no : nat_lt n 262143 ≡ false = grind (arith, nat_tests) in
    rw no refl

high_use : (n : ℕ) → 262143 ≤ use_of n → 262143 ≤ n
high_use n high = grind (arith, nat_tests)

-- this is the next use, by the uses of its round
record IsNextIn (v : Uses) (now wanted : ℕ) (next : Use) : Type 0 where
  within : deadline_in v.since now wanted ≤ 8796093022207
  counts : next.generation ≡ generation_in v.since (use_of v.last + 1) (deadline_in v.since now wanted)
  deadline : next.deadline ≡ deadline_in v.since now wanted

-- the uses of the first round
next_first : (last above now wanted : ℕ) → last < 262143 → wanted ≤ 8796093022207
    → IsNextIn (record { last = last; since = 0; above = above }) now wanted (next_use last now wanted)
next_first last above now wanted low high =
    let is = next_low last now wanted low in
    let same : use_of last ≡ last = use_low last (omega (arith, low)) in
    record {
      within = high;
      counts = ap (λ (x : Use). x.generation) is ∙ ap (λ n. n + 1) (sym same);
      deadline = ap (λ (x : Use). x.deadline) is;
    }

-- those of a later one
next_later : (last since above now wanted : ℕ) → 262143 ≤ last → use_of last < 262143 → now ≤ 8796093022207 → wanted ≤ 8796093022207
    → IsNextIn (record { last = last; since = suc since; above = above }) now wanted (next_use last now wanted)
next_later last since above now wanted high unspent now_high wanted_high =
    let is = next_high last now wanted high in
    let yes : nat_lt (use_of last) 262143 ≡ true = grind (arith, nat_tests) in
    record {
      within = omega (arith, now_high, wanted_high);
      counts = ap (λ (x : Use). x.generation) is ∙ ap (λ b. 8796093022208 * (cond b (use_of last) 0 + 1) + max now wanted) yes;
      deadline = ap (λ (x : Use). x.deadline) is;
    }

-- the first of the next round
next_turned : (last since now wanted : ℕ) → 262143 ≤ use_of last → now ≤ 8796093022207 → wanted ≤ 8796093022207
    → IsNextIn (record { last = 0; since = suc since; above = suc since }) now wanted (next_use last now wanted)
next_turned last since now wanted spent now_high wanted_high =
    let is = next_high last now wanted (high_use last spent) in
    let no : nat_lt (use_of last) 262143 ≡ false = grind (arith, nat_tests) in
    record {
      within = omega (arith, now_high, wanted_high);
      counts = ap (λ (x : Use). x.generation) is ∙ ap (λ b. 8796093022208 * (cond b (use_of last) 0 + 1) + max now wanted) no;
      deadline = ap (λ (x : Use). x.deadline) is;
    }

next_in : (u : Uses) (now wanted : ℕ) → IsSound u → now ≤ 8796093022207 → wanted ≤ 8796093022207
    → IsNextIn (turned u) now wanted (next_use u.last now wanted)
next_in u now wanted sound now_high wanted_high = elim (turn_cases u) [
  | inl here ↦ subst (λ v. IsNextIn v now wanted (next_use u.last now wanted)) (sym here.1) (in_round u.since refl here.0)
  | inr turns ↦ subst (λ v. IsNextIn v now wanted (next_use u.last now wanted)) (sym turns.1) (next_round u.above refl turns.0)
]
  where
    in_round : (since : ℕ) → u.since ≡ since → use_of u.last < 262143
        → IsNextIn (record { last = u.last; since = u.since; above = u.above }) now wanted (next_use u.last now wanted)
    in_round zero is unspent =
        let low : use_of u.last ≡ u.last = use_low u.last (omega (arith, sound.first is)) in
        subst (λ n. IsNextIn (record { last = u.last; since = n; above = u.above }) now wanted (next_use u.last now wanted)) (sym is)
        (next_first u.last u.above now wanted (omega (arith, low, unspent)) wanted_high)
    in_round (suc since) is unspent =
        subst (λ n. IsNextIn (record { last = u.last; since = n; above = u.above }) now wanted (next_use u.last now wanted)) (sym is)
        (next_later u.last since u.above now wanted (omega (arith, sound.later (omega (arith, is)))) unspent now_high wanted_high)

    next_round : (above : ℕ) → u.above ≡ above → 262143 ≤ use_of u.last
        → IsNextIn (record { last = 0; since = u.above; above = u.above }) now wanted (next_use u.last now wanted)
    next_round zero is spent = absurd (omega (arith, is, sound.some (omega (arith, high_use u.last spent))))
    next_round (suc above) is spent =
        subst (λ n. IsNextIn (record { last = 0; since = n; above = n }) now wanted (next_use u.last now wanted)) (sym is)
        (next_turned u.last above now wanted spent now_high wanted_high)

-- the next use of a slot is as the model says
pub next_is : (u : Uses) (now wanted : ℕ) → IsSound u → (turned u).since ≤ now → now ≤ 8796093022207 → wanted ≤ 8796093022207
    → IsNextUse u now wanted (next_use u.last now wanted).generation
    × ((next_use u.last now wanted).deadline ≡ deadline_in (turned u).since now wanted)
next_is u now wanted sound rested now_high wanted_high =
    let is = next_in u now wanted sound now_high wanted_high in
    (record { rested = rested; within = is.within; counts = is.counts }, is.deadline)
