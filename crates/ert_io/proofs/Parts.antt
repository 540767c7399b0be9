-- What two calls moved, as one.

use Rattle.std.proofs.Common.{◌≡◌, ℕ, ◌+◌, List, ◌++◌, take, drop, Option, None, Some, ap, sym, ◌∙◌, append_assoc, arith}
use Rattle.std.proofs.Math.Seq.{take-add}
use Rattle.ert_io.specs.Known.{more_by}

-- the first i bytes, and then n more of the rest, are the first i + n
pub then_more : (old mid new bytes rest : List ℕ) (i n : ℕ) → rest ≡ drop i bytes
    → mid ≡ old ++ take i bytes → new ≡ mid ++ take n rest → new ≡ old ++ take (i + n) bytes
then_more old mid new bytes rest i n others first second =
    second ∙ ap (λ (known : List ℕ). known ++ take n rest) first
    ∙ append_assoc old (take i bytes) (take n rest)
    ∙ ap (λ (bs : List ℕ). old ++ (take i bytes ++ take n bs)) others
    ∙ ap (λ (bs : List ℕ). old ++ bs) (sym (take-add i n bytes))

-- room that i and then n bytes took is that of i + n
pub more_by_more : (old mid new : Option ℕ) (i n : ℕ) → old ≡ more_by i mid → mid ≡ more_by n new → old ≡ more_by (i + n) new
more_by_more old mid None i n first second = first ∙ ap (more_by i) second
more_by_more old mid (Some r) i n first second =
    first ∙ ap (more_by i) second ∙ ap Some (omega arith)
