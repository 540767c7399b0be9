-- The next generation of a slot is none of those before.

use Rattle.std.proofs.Common.{◌≡◌, ◌≢◌, ◌⊎◌, inl, inr, ℕ, zero, suc, ◌+◌, ◌*◌, ◌/◌, ◌%◌, ◌≤◌, ◌<◌, Bool, true, false, cond, nat_lt, max, refl, sym, ap, ◌∙◌, subst, arith}
use Rattle.std.proofs.lemmas.Bool.Decides.{nat_tests}
use Rattle.ert_defs.specs.Timers.{Uses, IsNextUse, turned, use_of, deadline_in, generation_in, deadline_told}

-- a use of a slot: the time of the look of its start, the deadline that was wanted, and its generation
pub record Use : Type 0 where
  pub now : ℕ
  pub wanted : ℕ
  pub generation : ℕ

-- the deadline of its timer
abbrev pub due : Uses → Use → ℕ
due u t = deadline_in (turned u).since t.now t.wanted

abbrev pub CanUse : Uses → Use → Type 0
CanUse u t = IsNextUse u t.now t.wanted t.generation

-- the uses after it
abbrev pub used : Uses → Use → Uses
used u t = record { last = t.generation; since = (turned u).since; above = max u.above (due u t + 1) }

-- what holds of the uses of a slot
pub record IsSound (u : Uses) : Type 0 where
  pub order : u.since ≤ u.above
  pub first : u.since ≡ 0 → u.last ≤ 262143
  pub later : 1 ≤ u.since → 8796093022208 ≤ u.last
  pub last_high : u.last < 2305843009213693952
  pub some : 1 ≤ u.last → 1 ≤ u.above

pub use_low : (n : ℕ) → n < 8796093022208 → use_of n ≡ n
use_low n low = grind (arith, nat_tests)

pub use_high : (n : ℕ) → 8796093022208 ≤ n → use_of n ≡ n / 8796093022208
use_high n high = grind (arith, nat_tests)

-- the next timer in this round
pub record InFirst (u : Uses) (t : Use) : Type 0 where
  pub first : u.since ≡ 0
  pub unspent : u.last < 262143
  pub deadline : due u t ≡ t.wanted
  pub generation : t.generation ≡ u.last + 1
  pub since : (used u t).since ≡ 0

pub record InLater (u : Uses) (t : Use) : Type 0 where
  pub later : 1 ≤ u.since
  pub unspent : u.last / 8796093022208 < 262143
  pub deadline : u.since ≤ due u t
  pub generation : t.generation ≡ 8796093022208 * (u.last / 8796093022208 + 1) + due u t
  pub since : (used u t).since ≡ u.since

-- the first of the next round
pub record Turns (u : Uses) (t : Use) : Type 0 where
  pub some : 1 ≤ u.above
  pub deadline : u.above ≤ due u t
  pub generation : t.generation ≡ 8796093022208 + due u t
  pub since : (used u t).since ≡ u.above

-- a use with this deadline, by the uses of its round
abbrev CanAt : Uses → Use → ℕ → Type 0
CanAt v t deadline = (v.since ≤ t.now) × (deadline ≡ deadline_in v.since t.now t.wanted)
    × (t.generation ≡ generation_in v.since (use_of v.last + 1) deadline)

can_at : (u : Uses) (t : Use) → CanUse u t → CanAt (turned u) t (due u t)
can_at u t can = (can.rested, refl, can.counts)

pub turn_cases : (u : Uses) → ((use_of u.last < 262143) × (turned u ≡ u))
    ⊎ ((262143 ≤ use_of u.last) × (turned u ≡ record { last = 0; since = u.above; above = u.above }))
turn_cases u = at (nat_lt (use_of u.last) 262143) refl
  where
    at : (b : Bool) → nat_lt (use_of u.last) 262143 ≡ b
        → ((use_of u.last < 262143) × (cond b u (record { last = 0; since = u.above; above = u.above }) ≡ u))
        ⊎ ((262143 ≤ use_of u.last) × (cond b u (record { last = 0; since = u.above; above = u.above }) ≡ record { last = 0; since = u.above; above = u.above }))
    at true is = inl (grind (arith, nat_tests), refl)
    at false is = inr (grind (arith, nat_tests), refl)

abbrev Shape : Uses → Use → Type 0
Shape u t = InFirst u t ⊎ (InLater u t ⊎ Turns u t)

pub shape : (u : Uses) (t : Use) → IsSound u → CanUse u t → Shape u t
shape u t sound can = elim (turn_cases u) [
  | inl here ↦ in_round u.since refl here (subst (λ v. CanAt v t (due u t)) here.1 (can_at u t can))
  | inr turns ↦ next_round u.above refl turns (subst (λ v. CanAt v t (due u t)) turns.1 (can_at u t can))
]
  where
    in_round : (since : ℕ) → u.since ≡ since → (use_of u.last < 262143) × (turned u ≡ u)
        → (since ≤ t.now) × (due u t ≡ deadline_in since t.now t.wanted) × (t.generation ≡ generation_in since (use_of u.last + 1) (due u t))
        → Shape u t
    in_round zero is here at =
        let low : use_of u.last ≡ u.last = use_low u.last (omega (arith, sound.first is)) in
        inl (record {
          first = is;
          unspent = omega (arith, here.0, low);
          deadline = at.1;
          generation = omega (arith, at.2, low);
          since = ap (λ (v : Uses). v.since) here.1 ∙ is;
        })
    in_round (suc since) is here at =
        let high : use_of u.last ≡ u.last / 8796093022208 = use_high u.last (sound.later (omega (arith, is))) in
        inr (inl (record {
          later = omega (arith, is);
          unspent = omega (arith, here.0, high);
          deadline = omega (arith, at.0, at.1, is);
          generation = at.2 ∙ ap (λ n. 8796093022208 * (n + 1) + due u t) high;
          since = ap (λ (v : Uses). v.since) here.1;
        }))

    next_round : (above : ℕ) → u.above ≡ above → (262143 ≤ use_of u.last) × (turned u ≡ record { last = 0; since = u.above; above = u.above })
        → (above ≤ t.now) × (due u t ≡ deadline_in above t.now t.wanted) × (t.generation ≡ generation_in above (use_of 0 + 1) (due u t))
        → Shape u t
    next_round zero is turns at =
        let used_once : 1 ≤ u.last = least u.last turns.0 in
        absurd (omega (arith, is, sound.some used_once))
      where
        least : (n : ℕ) → 262143 ≤ use_of n → 1 ≤ n
        least zero high = absurd (omega (arith, high))
        least (suc n) high = omega arith
    next_round (suc above) is turns at = inr (inr (record {
      some = omega (arith, is);
      deadline = omega (arith, at.0, at.1, is);
      generation = at.2;
      since = ap (λ (v : Uses). v.since) turns.1;
    }))

-- the uses stay sound
pub sound_next : (u : Uses) (t : Use) → IsSound u → CanUse u t → IsSound (used u t)
sound_next u t sound can =
    let high = can.within in
    elim (shape u t sound can) [
      | inl f ↦ record {
        order = omega (arith, f.since);
        first = λ is. omega (arith, f.generation, f.unspent);
        later = λ is. absurd (omega (arith, is, f.since));
        last_high = omega (arith, f.generation, f.unspent);
        some = λ is. omega arith;
      }
      | inr rest ↦ elim rest [
        | inl l ↦ record {
          order = omega (arith, l.since, sound.order);
          first = λ is. absurd (omega (arith, is, l.since, l.later));
          later = λ is. omega (arith, l.generation);
          last_high = omega (arith, l.generation, l.unspent, high);
          some = λ is. omega arith;
        }
        | inr n ↦ record {
          order = omega (arith, n.since);
          first = λ is. absurd (omega (arith, is, n.since, n.some));
          later = λ is. omega (arith, n.generation);
          last_high = omega (arith, n.generation, high);
          some = λ is. omega arith;
        }
      ]
    ]

-- what is known of the generation of an earlier timer
pub record IsBefore (u : Uses) (n : ℕ) : Type 0 where
  pub low : 1 ≤ n
  pub small : n < 8796093022208 → n ≤ 262143
  pub high : n < 2305843009213693952
  pub first : n < 8796093022208 → u.since ≡ 0 → n ≤ u.last
  pub rounds : 8796093022208 ≤ n → 1 ≤ u.since
  pub below : 8796093022208 ≤ n → n % 8796093022208 < u.above
  pub order : 8796093022208 ≤ n → u.since ≤ n % 8796093022208 → n / 8796093022208 ≤ u.last / 8796093022208

-- the next generation is another
pub fresh : (u : Uses) (t : Use) (n : ℕ) → IsSound u → CanUse u t → IsBefore u n → n ≢ t.generation
fresh u t n sound can before same =
    let high = can.within in
    elim (shape u t sound can) [
      | inl f ↦ (let within = before.first (omega (arith, f.generation, f.unspent, same)) f.first in
          omega (arith, within, same, f.generation))
      | inr rest ↦ elim rest [
        | inl l ↦ (
            let big : 8796093022208 ≤ n = omega (arith, same, l.generation) in
            let low : u.since ≤ n % 8796093022208 = omega (arith, same, l.generation, l.deadline, high) in
            omega (arith, before.order big low, same, l.generation, high))
        | inr t' ↦ (
            let big : 8796093022208 ≤ n = omega (arith, same, t'.generation) in
            omega (arith, before.below big, same, t'.generation, t'.deadline, high))
      ]
    ]

-- it is one of those before from then on
pub before_self : (u : Uses) (t : Use) → IsSound u → CanUse u t → IsBefore (used u t) t.generation
before_self u t sound can =
    let high = can.within in
    elim (shape u t sound can) [
      | inl f ↦ record {
        low = omega (arith, f.generation);
        small = λ low. omega (arith, f.generation, f.unspent);
        high = omega (arith, f.generation, f.unspent);
        first = λ low is. omega arith;
        rounds = λ big. absurd (omega (arith, big, f.generation, f.unspent));
        below = λ big. absurd (omega (arith, big, f.generation, f.unspent));
        order = λ big is. omega arith;
      }
      | inr rest ↦ elim rest [
        | inl l ↦ record {
          low = omega (arith, l.generation);
          small = λ low. absurd (omega (arith, low, l.generation));
          high = omega (arith, l.generation, l.unspent, high);
          first = λ low is. omega arith;
          rounds = λ big. omega (arith, l.since, l.later);
          below = λ big. omega (arith, l.generation, high);
          order = λ big is. omega arith;
        }
        | inr n ↦ record {
          low = omega (arith, n.generation);
          small = λ low. absurd (omega (arith, low, n.generation));
          high = omega (arith, n.generation, high);
          first = λ low is. omega arith;
          rounds = λ big. omega (arith, n.since, n.some);
          below = λ big. omega (arith, n.generation, high);
          order = λ big is. omega arith;
        }
      ]
    ]

-- those before stay so
pub before_stays : (u : Uses) (t : Use) (n : ℕ) → IsSound u → CanUse u t → IsBefore u n → IsBefore (used u t) n
before_stays u t n sound can before =
    let high = can.within in
    elim (shape u t sound can) [
      | inl f ↦ record {
        low = before.low;
        small = before.small;
        high = before.high;
        first = λ low is. omega (arith, before.first low f.first, f.generation);
        rounds = λ big. absurd (omega (arith, before.rounds big, f.first));
        below = λ big. omega (arith, before.below big);
        order = λ big is. absurd (omega (arith, before.rounds big, f.first));
      }
      | inr rest ↦ elim rest [
        | inl l ↦ record {
          low = before.low;
          small = before.small;
          high = before.high;
          first = λ low is. absurd (omega (arith, is, l.since, l.later));
          rounds = λ big. omega (arith, l.since, l.later);
          below = λ big. omega (arith, before.below big);
          order = λ big is. omega (arith, before.order big (omega (arith, is, l.since)), l.generation, high);
        }
        | inr r ↦ record {
          low = before.low;
          small = before.small;
          high = before.high;
          first = λ low is. absurd (omega (arith, is, r.since, r.some));
          rounds = λ big. omega (arith, r.since, r.some);
          below = λ big. omega (arith, before.below big);
          order = λ big is. absurd (omega (arith, is, r.since, before.below big));
        }
      ]
    ]

-- the deadline that a generation tells is that of its timer
pub told_low : (n wanted : ℕ) → n < 8796093022208 → deadline_told n wanted ≡ wanted
told_low n wanted low = grind (arith, nat_tests)

pub told_high : (n wanted : ℕ) → 8796093022208 ≤ n → deadline_told n wanted ≡ n % 8796093022208
told_high n wanted high = grind (arith, nat_tests)

pub told_is : (u : Uses) (t : Use) → IsSound u → CanUse u t → deadline_told t.generation t.wanted ≡ due u t
told_is u t sound can =
    let high = can.within in
    elim (shape u t sound can) [
      | inl f ↦ told_low t.generation t.wanted (omega (arith, f.generation, f.unspent)) ∙ sym f.deadline
      | inr rest ↦ elim rest [
        | inl l ↦ told_high t.generation t.wanted (omega (arith, l.generation)) ∙ omega (arith, l.generation, high)
        | inr n ↦ told_high t.generation t.wanted (omega (arith, n.generation)) ∙ omega (arith, n.generation, high)
      ]
    ]
