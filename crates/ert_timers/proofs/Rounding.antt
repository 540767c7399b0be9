-- A deadline so many milliseconds behind a time, by one comparison.

use Rattle.std.proofs.Common.{◌≡◌, ℕ, ◌+◌, ◌-◌, ◌<◌, ◌≤◌, Some, None, FitsSigned, w64, refl, sym, ap, ◌∙◌, arith}
use Rattle.std.proofs.lemmas.{Bool.{le-leb, lt-leb}, Int.ints}
use Rattle.std.specs.Int.{cast_unsigned}
use Rattle.std.specs.Prelude.{ℤ, pos, negsuc, ◌+ℤ◌}
use Rattle.ert_defs.specs.{Milliseconds.{up, deadline_at, deadline_when}, declared.timer.When.TheVariants.After, declared.settings.Settings.Settings}

-- a wait that isn't above what is left leads to its deadline
pub within : (g : Settings) (time : ℤ) (n later : ℕ) (wait : ℤ) → later ≡ cast_unsigned w64 wait → FitsSigned w64 wait → n ≤ 8796093022207
    → later ≤ 8796093022207 - n → pos n ≡ up g time → Some (n + later) ≡ deadline_when g (After wait) time
within g time n later (pos k) told fits high few is =
    let sum : deadline_at (pos n +ℤ pos k) ≡ Some (n + k) = rw (le-leb (n + k) 8796093022207 (omega (arith, few, high, told))) refl in
    ap (λ (m : ℕ). Some (n + m)) told ∙ sym (ap (λ (x : ℤ). deadline_at (x +ℤ pos k)) (sym is) ∙ sum)
within g time n later (negsuc k) told fits high few is = absurd (omega (arith, ints, fits, few, told))

-- each other is refused
pub beyond : (g : Settings) (time : ℤ) (n later : ℕ) (wait : ℤ) → later ≡ cast_unsigned w64 wait → n ≤ 8796093022207 → 8796093022207 - n < later
    → pos n ≡ up g time → None ≡ deadline_when g (After wait) time
beyond g time n later (pos k) told high many is =
    let sum : deadline_at (pos n +ℤ pos k) ≡ None = rw (lt-leb (n + k) 8796093022207 (omega (arith, many, high, told))) refl in
    sym (ap (λ (x : ℤ). deadline_at (x +ℤ pos k)) (sym is) ∙ sum)
beyond g time n later (negsuc k) told high many is = refl
