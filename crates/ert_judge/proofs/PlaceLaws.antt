-- The laws of lists by place: what stands where after one item more, after one item was put in the place of
-- another, and in a part of a list.

use Rattle.std.proofs.Common.{arith, ◌≡◌, ◌≢◌, ◌∙◌, refl, sym, ap, ℕ, zero, suc, ◌+◌, ◌-◌, ◌<◌, List, [], ◌∷◌, ◌++◌, length, set, take, drop, map, Some}
use Rattle.std.proofs.lemmas.List.{length-append, take_at}
use Rattle.std.specs.Prelude.{slice_get}

-- an item that is put last stands behind the others
pub slice_get_push : {X : Type 0} (xs : List X) (x : X) → slice_get (xs ++ x ∷ []) (length xs) ≡ Some x
slice_get_push [] x = refl
slice_get_push (y ∷ xs) x = slice_get_push xs x

-- and leaves them
pub slice_get_before : {X : Type 0} (xs : List X) (x : X) (p : ℕ) → p ≢ length xs
    → slice_get (xs ++ x ∷ []) p ≡ slice_get xs p
slice_get_before [] x zero other = absurd (other refl)
slice_get_before [] x (suc p) other = refl
slice_get_before (y ∷ xs) x zero other = refl
slice_get_before (y ∷ xs) x (suc p) other = slice_get_before xs x p (λ e. other (ap suc e))

-- an item stands in the place that it was put into
pub slice_get_set : {X : Type 0} (xs : List X) (p : ℕ) (x : X) → p < length xs → slice_get (set xs p x) p ≡ Some x
slice_get_set [] p x low = absurd (omega arith)
slice_get_set (y ∷ xs) zero x low = refl
slice_get_set (y ∷ xs) (suc p) x low = slice_get_set xs p x (omega arith)

-- and all others in theirs
pub slice_get_others : {X : Type 0} (xs : List X) (p q : ℕ) (x : X) → q ≢ p → slice_get (set xs p x) q ≡ slice_get xs q
slice_get_others [] p q x other = refl
slice_get_others (y ∷ xs) zero zero x other = absurd (other refl)
slice_get_others (y ∷ xs) zero (suc q) x other = refl
slice_get_others (y ∷ xs) (suc p) zero x other = refl
slice_get_others (y ∷ xs) (suc p) (suc q) x other = slice_get_others xs p q x (λ e. other (ap suc e))

-- what stands in a first part stands there in the list
pub slice_get_take : {X : Type 0} (xs : List X) (n q : ℕ) (x : X) → slice_get (take n xs) q ≡ Some x
    → (q < n) × (slice_get xs q ≡ Some x)
slice_get_take xs zero q x is = absurd cc
slice_get_take [] (suc n) q x is = absurd cc
slice_get_take (y ∷ xs) (suc n) zero x is = (omega arith, is)
slice_get_take (y ∷ xs) (suc n) (suc q) x is = let more = slice_get_take xs n q x is in (omega (arith, more.0), more.1)

-- and the other way round
pub slice_get_taken : {X : Type 0} (xs : List X) (n q : ℕ) → q < n → slice_get (take n xs) q ≡ slice_get xs q
slice_get_taken xs zero q low = absurd (omega arith)
slice_get_taken [] (suc n) q low = refl
slice_get_taken (y ∷ xs) (suc n) zero low = refl
slice_get_taken (y ∷ xs) (suc n) (suc q) low = slice_get_taken xs n q (omega arith)

-- what stands in the rest stands behind the first part
pub slice_get_drop : {X : Type 0} (xs : List X) (n q : ℕ) → slice_get (drop n xs) q ≡ slice_get xs (n + q)
slice_get_drop xs zero q = ap (slice_get xs) (omega arith)
slice_get_drop [] (suc n) q = refl
slice_get_drop (y ∷ xs) (suc n) q =
    let more : suc n + q ≡ suc (n + q) = omega arith in slice_get_drop xs n q ∙ ap (slice_get (y ∷ xs)) (sym more)

-- a function that moves no item leaves the list
pub map_same : {X : Type 0} (f : X → X) (xs : List X) → ((q : ℕ) (y : X) → slice_get xs q ≡ Some y → f y ≡ y) → map f xs ≡ xs
map_same f [] each = refl
map_same f (y ∷ xs) each =
    ap (λ z. z ∷ map f xs) (each 0 y refl) ∙ ap (λ zs. y ∷ zs) (map_same f xs (λ q z is. each (suc q) z is))

-- a function that moves no item but that at a place puts one there
pub map_at : {X : Type 0} (f : X → X) (xs : List X) (p : ℕ) (x : X) → slice_get xs p ≡ Some x
    → ((q : ℕ) (y : X) → slice_get xs q ≡ Some y → q ≢ p → f y ≡ y) → map f xs ≡ set xs p (f x)
map_at f [] p x stands others = absurd cc
map_at f (y ∷ xs) zero x stands others =
    let same : y ≡ x = cc in
    let rest : map f xs ≡ xs = map_same f xs (λ q z is. others (suc q) z is (λ e. absurd (omega arith))) in
    ap (λ z. f z ∷ map f xs) same ∙ ap (λ zs. f x ∷ zs) rest
map_at f (y ∷ xs) (suc p) x stands others =
    ap (λ z. z ∷ map f xs) (others 0 y refl (λ e. absurd (omega arith)))
    ∙ ap (λ zs. y ∷ zs) (map_at f xs p x stands (λ q z is other. others (suc q) z is (λ e. other (omega arith))))

-- a list with one item more, without its last one
pub popped : {X : Type 0} (xs ys zs : List X) (x : X) (n : ℕ) → ys ≡ xs ++ x ∷ [] → n ≡ length ys → zs ≡ take (n - 1) ys → zs ≡ xs
popped xs ys zs x n put count rest =
    let long : length ys ≡ length xs + length (x ∷ []) = ap length put ∙ length-append xs (x ∷ []) in
    let at : n - 1 ≡ length xs = omega arith in
    rest ∙ (ap (λ m. take m ys) at ∙ (ap (take (length xs)) put ∙ take_at xs (x ∷ []) (length xs) refl))
