-- The line of the counts, in two parts.

use Rattle.std.proofs.Common.{◌≡◌, ℕ, List, ◌++◌, codes, append_assoc}
use Rattle.std.specs.Fmt.{decimal}
use Rattle.ert_world.specs.{Counted.numbers_of, declared.counts.Counts.Counts}
use Rattle.ert_ops.specs.Counts.{settled_line}

three : (s a t b u c rest : List ℕ) → (s ++ (a ++ (t ++ (b ++ (u ++ c))))) ++ rest ≡ s ++ (a ++ (t ++ (b ++ (u ++ (c ++ rest)))))
three s a t b u c rest = simp append_assoc

pub in_two : (n : Counts)
    → (codes "settled armed " ++ (decimal n.armed ++ (codes " expired " ++ (decimal n.expired ++ (codes " delivered " ++ decimal n.delivered)))))
    ++ (codes " dropped " ++ (decimal n.dropped ++ (codes " cancelled " ++ (decimal n.cancelled ++ (codes " orphaned " ++ (decimal n.orphaned ++ codes "\n"))))))
    ≡ settled_line (numbers_of n)
in_two n =
    three (codes "settled armed ") (decimal n.armed) (codes " expired ") (decimal n.expired) (codes " delivered ") (decimal n.delivered)
    (codes " dropped " ++ (decimal n.dropped ++ (codes " cancelled " ++ (decimal n.cancelled ++ (codes " orphaned " ++ (decimal n.orphaned ++ codes "\n"))))))
