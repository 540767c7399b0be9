-- The numbers of a generator grow with the ops that it made.

use Rattle.std.proofs.Common.{ℕ, ℤ, pos, ◌+◌, ◌*◌, ◌<◌, ◌≤◌, ◌+ℤ◌, ◌-ℤ◌, ◌≤ℤ◌, Bool, true, false, cond, nat_eq, nat_lt, arith}
use Rattle.std.proofs.lemmas.Int.{ints}
use Rattle.ert_program.specs.{Draws.{after, draw}, Steps.{Made, IsBounded, first, step_of, fall_of, made_tick, made_start, made_cancel, made_read, made_turn, made_receive, op_for, next_op}, declared.generator.Generator.Generator}
use Rattle.ert_program.proofs.Draws.{draw_low}

-- the numbers are those of k ops
pub record IsWithin (k : ℕ) (m : Generator) : Type 0 where
  pub mono_low : pos 0 ≤ℤ m.mono
  pub mono_high : m.mono ≤ℤ pos (k * 50000000)
  pub sys_low : pos 0 ≤ℤ (m.sys +ℤ pos (k * 1000000000))
  pub sys_high : m.sys ≤ℤ pos (k * 50000000)
  pub labels : m.next ≤ k

pub first_within : (seed : ℕ) → IsWithin 0 (first seed)
first_within seed = record {
  mono_low = omega (arith, ints);
  mono_high = omega (arith, ints);
  sys_low = omega (arith, ints);
  sys_high = omega (arith, ints);
  labels = omega arith;
}

pub room : (k : ℕ) (m : Generator) → k ≤ 100000 → IsWithin k m → IsBounded m
room k m few h = record {
  mono_low = h.mono_low;
  mono_high = omega (arith, ints);
  sys_low = omega (arith, ints);
  sys_high = omega (arith, ints);
  labels = omega arith;
}

pub drawn_within : (k x : ℕ) (m : Generator) → IsWithin k m → IsWithin k (record m { x = x })
drawn_within k x m h = record { mono_low = h.mono_low; mono_high = h.mono_high; sys_low = h.sys_low; sys_high = h.sys_high; labels = h.labels }

more_within : (k x : ℕ) (m : Generator) → IsWithin k m → IsWithin (k + 1) (record m { x = x })
more_within k x m h = record {
  mono_low = h.mono_low;
  mono_high = omega (arith, ints);
  sys_low = omega (arith, ints);
  sys_high = omega (arith, ints);
  labels = omega arith;
}

label_within : (k x : ℕ) (m : Generator) → IsWithin k m → IsWithin (k + 1) (record m { x = x; next = m.next + 1 })
label_within k x m h = record {
  mono_low = h.mono_low;
  mono_high = omega (arith, ints);
  sys_low = omega (arith, ints);
  sys_high = omega (arith, ints);
  labels = omega arith;
}

reading_within : (k x : ℕ) (step fall : ℤ) (m : Generator) → pos 0 ≤ℤ step → step ≤ℤ pos 50000000 → pos 0 ≤ℤ fall → fall ≤ℤ pos 1000000000
    → IsWithin k m → IsWithin (k + 1) (record m { x = x; mono = m.mono +ℤ step; sys = (m.sys +ℤ step) -ℤ fall })
reading_within k x step fall m step_low step_high fall_low fall_high h = record {
  mono_low = omega (arith, ints);
  mono_high = omega (arith, ints);
  sys_low = omega (arith, ints);
  sys_high = omega (arith, ints);
  labels = omega arith;
}

step_low : (x : ℕ) → pos 0 ≤ℤ step_of x
step_low x = omega (arith, ints)

step_high : (x : ℕ) → step_of x ≤ℤ pos 50000000
step_high x = let low : draw 50 x < 50 = draw_low 50 x (omega arith) in omega (arith, ints)

fall_low : (x : ℕ) → pos 0 ≤ℤ fall_of x
fall_low x = elim (nat_eq (draw 64 x) 0) as (λ b. pos 0 ≤ℤ cond b (pos 1000000000) (pos 0)) [ true ↦ omega (arith, ints) | false ↦ omega (arith, ints) ]

fall_high : (x : ℕ) → fall_of x ≤ℤ pos 1000000000
fall_high x = elim (nat_eq (draw 64 x) 0) as (λ b. cond b (pos 1000000000) (pos 0) ≤ℤ pos 1000000000) [ true ↦ omega (arith, ints) | false ↦ omega (arith, ints) ]

either : (P : Made → Type 0) (b : Bool) (x y : Made) → P x → P y → P (cond b x y)
either P true x y p q = p
either P false x y p q = q

-- what holds of each kind of op holds of the one that a draw chooses
pub by_choice : (P : Made → Type 0) (d : ℕ) (m : Generator) → P (made_tick m) → P (made_start m) → P (made_cancel m) → P (made_read m) → P (made_turn m) → P (made_receive m)
    → P (op_for d m)
by_choice P d m tick start cancel reading turn receive =
    either P (nat_lt d 2) _ _ tick
    (either P (nat_lt d 4) _ _ start
    (either P (nat_eq d 4) _ _ cancel
    (either P (nat_eq d 5) _ _ reading
    (either P (nat_eq d 6) _ _ turn receive))))

pub ticked_within : (k : ℕ) (m : Generator) → IsWithin k m → IsWithin (k + 1) (made_tick m).later
ticked_within k m h =
    reading_within k (after (after m.x)) (step_of m.x) (fall_of (after m.x)) m (step_low m.x) (step_high m.x) (fall_low (after m.x)) (fall_high (after m.x)) h

pub next_within : (k : ℕ) (m : Generator) → IsWithin k m → IsWithin (k + 1) (next_op m).later
unfolding next_op
next_within k m h =
    let g : Generator = record m { x = after m.x } in
    let w : IsWithin k g = drawn_within k (after m.x) m h in
    by_choice (λ made. IsWithin (k + 1) made.later) (draw 8 m.x) g
    (ticked_within k g w)
    (label_within k (after (after (after g.x))) g w)
    (more_within k (after g.x) g w)
    (more_within k (after g.x) g w)
    (more_within k (after g.x) g w)
    (more_within k (after g.x) g w)
