-- What a stream gave in several reads.

use Rattle.std.proofs.Common.{◌≡◌, ◌+◌, ◌≤◌, ℕ, List, [], ◌++◌, length, length-append, append_assoc, append-nil, Option, Some, None, refl, sym, ap, ◌∙◌, arith}
use Rattle.ert_io.specs.Known.{StreamTold, stream_told, before, HandsOut, HandsUpTo}

-- some before others
pub before_both : {T : Type 0} (a b : List T) (known : Option (List T)) → before a (before b known) ≡ before (a ++ b) known
before_both a b None = refl
before_both {T} a b (Some xs) = ap (λ (ys : List T). Some ys) (sym (append_assoc a b xs))

-- what was given first, and then more
pub handed_both : {T : Type 0} (old mid new : StreamTold T) (a b : List T) → HandsOut old mid a → HandsOut mid new b → HandsOut old new (a ++ b)
handed_both {T} old mid new a b first second = record {
  given = second.given ∙ ap (λ (k : List T). k ++ b) first.given ∙ append_assoc old.given a b;
  left = first.left ∙ ap (λ (k : Option (List T)). before a k) second.left ∙ before_both a b new.left;
}

-- nothing was changed
pub told_kept : {T : Type 0} (given given_new : List T) (left left_new : Option (List T)) → given_new ≡ given → left_new ≡ left
    → stream_told given_new left_new ≡ stream_told given left
told_kept {T} given given_new left left_new e f =
    ap (λ (k : List T). stream_told k left_new) e ∙ ap (λ (k : Option (List T)). stream_told given k) f

before_none : {T : Type 0} (left : Option (List T)) → left ≡ before [] left
before_none None = refl
before_none (Some xs) = refl

-- nothing was given
pub handed_none : {T : Type 0} (told : StreamTold T) → HandsOut told told []
handed_none told = record { given = sym (append-nil told.given); left = before_none told.left }

-- at most so many, and at most more
pub handed_fewer : {T : Type 0} (n : ℕ) (old new : StreamTold T) (items : List T) → length items ≤ n → HandsOut old new items → HandsUpTo n old new
handed_fewer n old new items few gives = record { items = items; few = few; gives = gives }

-- after some at most so many more were given
pub handed_more : {T : Type 0} (n m : ℕ) (a : List T) (old mid new : StreamTold T) → HandsOut old mid a → HandsUpTo n mid new → length a + n ≤ m → HandsUpTo m old new
handed_more n m a old mid new first more small =
    let long : length (a ++ more.items) ≡ length a + length more.items = length-append a more.items in
    let few = more.few in
    record { items = a ++ more.items; few = omega arith; gives = handed_both old mid new a more.items first more.gives }
