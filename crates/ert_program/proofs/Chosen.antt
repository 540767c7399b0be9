-- Which op a draw chooses.

use Rattle.std.proofs.Common.{◌≡◌, ℕ, suc, ◌-◌, List, [], ◌∷◌, ◌++◌, append_assoc, ℤ, ◌+ℤ◌, ◌-ℤ◌, ◌+◌, ◌<◌, ◌≤◌, true, false, nat_lt, nat_eq, ap, ◌∙◌, arith}
use Rattle.std.proofs.lemmas.Bool.Decides.{nat_tests}
use Rattle.ert_ops.specs.declared.op.Op.{Op, TheVariants.Tick}
use Rattle.ert_program.specs.{Draws.{after, draw}, Steps.{op_for, step_of, fall_of, made_tick, made_start, made_receive, next_op, next_ops}, declared.generator.Generator.Generator}

pub for_tick : (d : ℕ) (m : Generator) → d < 2 → op_for d m ≡ made_tick m
for_tick d m h = let below : nat_lt d 2 ≡ true = grind (arith, nat_tests) in rw below

pub for_start : (d : ℕ) (m : Generator) → 2 ≤ d → d < 4 → op_for d m ≡ made_start m
for_start d m low h =
    let above : nat_lt d 2 ≡ false = grind (arith, nat_tests) in
    let below : nat_lt d 4 ≡ true = grind (arith, nat_tests) in
    rw (above, below)

pub for_receive : (d : ℕ) (m : Generator) → 7 ≤ d → op_for d m ≡ made_receive m
for_receive d m low =
    let two : nat_lt d 2 ≡ false = grind (arith, nat_tests) in
    let four : nat_lt d 4 ≡ false = grind (arith, nat_tests) in
    let at_4 : nat_eq d 4 ≡ false = grind (arith, nat_tests) in
    let at_5 : nat_eq d 5 ≡ false = grind (arith, nat_tests) in
    let at_6 : nat_eq d 6 ≡ false = grind (arith, nat_tests) in
    rw (two, four, at_4, at_5, at_6)

-- the draw of eight, and then its op
pub chosen : (m later : Generator) (d : ℕ) → d ≡ draw 8 m.x → later ≡ record m { x = after m.x } → next_op m ≡ op_for d later
unfolding next_op
chosen m later d value state = rw (value, state)

-- a generator is its numbers
same_numbers : (g : Generator) (x next : ℕ) (mono sys : ℤ) → g.x ≡ x → g.mono ≡ mono → g.sys ≡ sys → g.next ≡ next
    → g ≡ record { x = x; mono = mono; sys = sys; next = next }
same_numbers g x next mono sys x_is mono_is sys_is next_is =
    ap (λ (n : ℕ). record g { x = n }) x_is
    ∙ ap (λ (z : ℤ). record g { x = x; mono = z }) mono_is
    ∙ ap (λ (z : ℤ). record g { x = x; mono = mono; sys = z }) sys_is
    ∙ ap (λ (n : ℕ). record g { x = x; mono = mono; sys = sys; next = n }) next_is

-- what a step and then a fall leave is what a tick leaves
pub ticked_later : (m stepped fallen later : Generator) (step fall : ℤ) → step ≡ step_of m.x → stepped ≡ record m { x = after m.x }
    → fall ≡ fall_of stepped.x → fallen ≡ record stepped { x = after stepped.x }
    → later.mono ≡ fallen.mono +ℤ step → later.sys ≡ (fallen.sys +ℤ step) -ℤ fall → later.x ≡ fallen.x → later.next ≡ fallen.next
    → later ≡ (made_tick m).later
ticked_later m stepped fallen later step fall step_is stepped_is fall_is fallen_is mono sys x next =
    same_numbers later fallen.x fallen.next (fallen.mono +ℤ step) ((fallen.sys +ℤ step) -ℤ fall) x mono sys next
    ∙ rw (fallen_is, fall_is, step_is, stepped_is)

pub ticked_op : (m later : Generator) → later ≡ (made_tick m).later → Tick later.mono later.sys ≡ (made_tick m).op
ticked_op m later e = ap (λ (g : Generator). Tick g.mono g.sys) e

-- one more op, and those that are left
pub one_more : (ops more : List Op) (op : Op) (g later : Generator) (n k : ℕ) → k < n → op ≡ (next_op g).op → later ≡ (next_op g).later
    → more ≡ ops ++ (op ∷ []) → more ++ next_ops (n - (k + 1)) later ≡ ops ++ next_ops (n - k) g
one_more ops more op g later n k h op_is later_is more_is =
    let left : n - k ≡ suc (n - (k + 1)) = omega arith in
    rw (more_is, append_assoc, left, op_is, later_is)
