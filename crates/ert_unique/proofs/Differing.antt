-- Plain answers of different passes differ.

use Rattle.std.proofs.Common.{◌≡◌, ℕ, zero, suc, ◌+◌, ◌-◌, ◌*◌, ◌/◌, ◌^◌, ◌<◌, ◌≤◌, Bool, true, false, cond, nat_lt, nat_le, ◌&&◌, arith, List, [], ◌∷◌, map, refl}
use Rattle.std.proofs.lemmas.{Bool.Decides.nat_tests, Nat.div-mul-add}
use Rattle.ert_unique.specs.{Numbers.{occurrences, AllDiffer}, Passes.{number_of, plains_of}, Plain.{plain_answers, plain_together}, declared.uniques.UniquePass.UniquePass}
use Rattle.ert_unique.proofs.Totals.{times_adds}

-- how often a number stands in a range of so many after a first one
abbrev in_range : ℕ → ℕ → ℕ → ℕ
in_range x first k = cond (nat_lt first x && nat_le x (first + k)) 1 0

times_plain : (x number k : ℕ) → occurrences x (plain_answers number k) ≡ in_range x (number * 2 ^ 40) k
times_plain x number zero = grind (arith, nat_tests)
times_plain x number (suc k) =
    grind (arith, nat_tests, (times_adds x).parts (plain_answers number k) ((number * 2 ^ 40 + suc k) ∷ []), times_plain x number k)

-- a number within the range of a pass tells the pass
pass_of : (x number k : ℕ) → k ≤ 2 ^ 40 → number * 2 ^ 40 < x → x ≤ number * 2 ^ 40 + k → (x - 1) / 2 ^ 40 ≡ number
pass_of x number k few low high =
    let rest : ℕ = x - 1 - number * 2 ^ 40 in
    let is : x - 1 ≡ number * 2 ^ 40 + rest = omega arith in
    rw is (div-mul-add number (2 ^ 40) rest (omega arith))

-- a number stands among the answers of a pass no more often than the pass is the one that it tells
one_pass : (x number k : ℕ) → k ≤ 2 ^ 40 → occurrences x (plain_answers number k) ≤ occurrences ((x - 1) / 2 ^ 40) (number ∷ [])
one_pass x number k few = by (nat_lt (number * 2 ^ 40) x && nat_le x (number * 2 ^ 40 + k)) refl
  where
    by : (b : Bool) → (nat_lt (number * 2 ^ 40) x && nat_le x (number * 2 ^ 40 + k)) ≡ b
        → occurrences x (plain_answers number k) ≤ occurrences ((x - 1) / 2 ^ 40) (number ∷ [])
    by true is =
        let low : number * 2 ^ 40 < x = grind (arith, nat_tests) in
        let high : x ≤ number * 2 ^ 40 + k = grind (arith, nat_tests) in
        grind (arith, nat_tests, pass_of x number k few low high, times_plain x number k)
    by false is = grind (arith, times_plain x number k)

all_passes : (x : ℕ) (passes : List UniquePass) → occurrences x (plain_together passes) ≤ occurrences ((x - 1) / 2 ^ 40) (map number_of passes)
all_passes x [] = omega arith
all_passes x (p ∷ passes) =
    omega (
      arith,
      (times_adds x).parts (plain_answers (number_of p) (plains_of p)) (plain_together passes),
      (times_adds ((x - 1) / 2 ^ 40)).parts (number_of p ∷ []) (map number_of passes),
      one_pass x (number_of p) (plains_of p) p.plain,
      all_passes x passes,
    )

pub plain_differ : (passes : List UniquePass) → AllDiffer (map number_of passes) → AllDiffer (plain_together passes)
plain_differ passes apart x = omega (arith, all_passes x passes, apart ((x - 1) / 2 ^ 40))
