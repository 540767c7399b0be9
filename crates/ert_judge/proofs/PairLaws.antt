-- The laws of the order of pairs, and of a set of pairs in that order.

use Rattle.std.proofs.Common.{arith, ◌≡◌, refl, inl, inr, ℕ, ◌<◌, ◌≤◌, false, ◌&&◌, nat_eq, ◌⊎◌, eq-eqb, ne_eqb}
use Rattle.std.proofs.lemmas.Bool.{cases_order, lt-ltb, le-ltb}
use Rattle.std.specs.{Ordering.{is_eq, is_gt, nat_cmp}, declared.cmp.Ordering.TheVariants.{Less, Equal, Greater}, BTreeMap.is_at}
use Rattle.ert_judge.specs.Indexes.{pair_cmp}

less : (a b : ℕ) → a < b → nat_cmp a b ≡ Less
less a b low = rw (lt-ltb a b low) refl

greater : (a b : ℕ) → b < a → nat_cmp a b ≡ Greater
greater a b low = rw (le-ltb a b (omega arith), ne_eqb a b (λ e. absurd (omega arith))) refl

same : (a b : ℕ) → a ≡ b → nat_cmp a b ≡ Equal
same a b e = rw (le-ltb a b (omega arith), eq-eqb a b e) refl

is_eq-nat_cmp : (a b : ℕ) → is_eq (nat_cmp a b) ≡ nat_eq a b
is_eq-nat_cmp a b = elim (cases_order a b) [
  | inl e ↦ rw (same a b e, eq-eqb a b e) refl
  | inr other ↦ elim other [
    | inl low ↦ rw (less a b low, ne_eqb a b (λ e. absurd (omega arith))) refl
    | inr high ↦ rw (greater a b high, ne_eqb a b (λ e. absurd (omega arith))) refl
  ]
]

-- a pair is equal to another where both parts are
pub is_at_pair : (a b c d : ℕ) → is_at (pair_cmp (a, b)) (c, d) ≡ (nat_eq a c && nat_eq b d)
is_at_pair a b c d = elim (cases_order a c) [
  | inl e ↦ rw (same a c e, eq-eqb a c e) (is_eq-nat_cmp b d)
  | inr other ↦ elim other [
    | inl low ↦ rw (less a c low, ne_eqb a c (λ e. absurd (omega arith))) refl
    | inr high ↦ rw (greater a c high, ne_eqb a c (λ e. absurd (omega arith))) refl
  ]
]

-- a pair that is not above another
pub pair_up_to : (a b c d : ℕ) → is_gt (pair_cmp (a, b) (c, d)) ≡ false → (a < c) ⊎ ((a ≡ c) × (b ≤ d))
pair_up_to a b c d up = elim (cases_order a c) [
  | inl e ↦ elim (cases_order b d) [
    | inl f ↦ inr (e, omega arith)
    | inr other ↦ elim other [
      | inl low ↦ inr (e, omega arith)
      | inr high ↦ let wrong = rw (same a c e, greater b d high) at up in absurd cc
    ]
  ]
  | inr other ↦ elim other [
    | inl low ↦ inl low
    | inr high ↦ let wrong = rw (greater a c high) at up in absurd cc
  ]
]
