-- What holds of each element of a list holds of each of its parts.

use Rattle.std.proofs.Common.{suc, ◌+◌, List, ◌∷◌, ◌++◌, length, All, AllPairs, subst, arith, length-append, get_or-append-add}
use Rattle.std.proofs.Math.ListN.{get_or-append}

pub all_front : {X : Type 0} (P : X → Type 0) (xs ys : List X) → All P (xs ++ ys) → All P xs
all_front P xs ys h k d lt = subst P (get_or-append xs ys d k lt) (h k d (omega (arith, length-append xs ys)))

pub all_back : {X : Type 0} (P : X → Type 0) (xs ys : List X) → All P (xs ++ ys) → All P ys
all_back P xs ys h k d lt = subst P (get_or-append-add xs ys k d) (h (length xs + k) d (omega (arith, length-append xs ys)))

pub pairs_head : {X : Type 0} (R : X → X → Type 0) (x : X) (xs : List X) → AllPairs R (x ∷ xs) → All (R x) xs
pairs_head R x xs h k d lt = h 0 (suc k) d (omega arith) (omega arith)

pub pairs_tail : {X : Type 0} (R : X → X → Type 0) (x : X) (xs : List X) → AllPairs R (x ∷ xs) → AllPairs R xs
pairs_tail R x xs h i j d lt le = h (suc i) (suc j) d (omega arith) (omega arith)
