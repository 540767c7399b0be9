-- Parts that are gathered in places by their numbers: no two of a sort have one number, so all places are full
-- once as many were put as there are.

use Rattle.std.proofs.Common.{◌≡◌, ◌⊎◌, inl, inr, ⊎_elim, ℕ, zero, suc, ◌+◌, ◌<◌, ◌≤◌, true, List, [], ◌∷◌, ◌++◌, length, slice_index_or, Option, Some, None, refl, sym, ap, subst, ◌∙◌, arith, append-nil, append_assoc}
use borrow.Author.Count.{below_more}
use Rattle.std.specs.Prelude.{slice_set}
use Rattle.std.proofs.lemmas.List.{length-set}
use Rattle.ert_defs.specs.{Legal.Legal, declared.settings.Settings.Settings}
use Rattle.ert_locks.proofs.Lent.{holds_self}
use Rattle.ert_locks.specs.Kinds.{Kind, IsKind}
use Rattle.ert_service.specs.Gathering.{IsSeen, Gathered, filled, somes, AreEmpty, AreIn}
use Rattle.ert_world.proofs.{Opened.new_more, Returned.at_place}
use Rattle.ert_table.proofs.Holders.{held_first, held_then}
use Rattle.ert_table.specs.{Held.is_held, Views.{Joined, meeting}, declared.view.View.View}

pub seen_then : {u v w : View} → IsSeen u v → IsSeen v w → IsSeen u w
seen_then {u} {v} {w} one other = record {
  begins = record {
    later = one.begins.later ++ other.begins.later;
    grown = other.begins.grown ∙ (ap (λ l. l ++ other.begins.later) one.begins.grown ∙ append_assoc u.front one.begins.later other.begins.later);
  };
  held = λ a is. other.held a (one.held a is);
  own = λ a is. other.own a (one.held a is) ∙ one.own a is;
}

-- both of two passes are seen in the one that they became
pub seen_left : (v w j : View) → j.actors ≡ v.actors ++ w.actors → Joined (meeting v w) j.front → IsSeen v j
seen_left v w j actors joined = record {
  begins = joined.begins;
  held = λ a is. subst (λ l. is_held l a ≡ true) (sym actors) (held_first v.actors w.actors a is);
  own = joined.own;
}

pub seen_right : (v w j : View) → j.actors ≡ v.actors ++ w.actors → Joined (meeting v w) j.front → IsSeen w j
seen_right v w j actors joined = record {
  begins = joined.other_begins;
  held = λ a is. subst (λ l. is_held l a ≡ true) (sym actors) (held_then v.actors w.actors a is);
  own = joined.other_own;
}

-- parts in order stand in a later pass
pub in_later : {X : Type 0} {k : Kind X} {g : Settings} {count : ℕ} {v w : View} {xs : List X} → IsKind k → IsSeen v w → Legal g w.front → AreIn k g count v xs
    → AreIn k g count w xs
in_later {k = k} {g = g} {v = v} {w = w} {xs = xs} is seen legal are = record {
  ordered = record {
    counted = are.ordered.counted;
    named = are.ordered.named;
    stand = λ i d low left.
        let x = slice_index_or xs i d in
        is.stand_on g v.front w.front x seen.begins
        (seen.own (k.actor (k.number x)) (subst (λ n. is_held v.actors (k.actor n) ≡ true) (sym (are.ordered.named i d low)) (are.held i low))) legal (are.ordered.stand i d low left);
  };
  held = λ i low. seen.held (k.actor i) (are.held i low);
}

-- one part more in its place, which was empty
count_set : {X : Type 0} (places : List (Option X)) (i : ℕ) (x : X) → i < length places → slice_index_or places i None ≡ None
    → filled (slice_set places i (Some x)) ≡ suc (filled places)
count_set [] i x low none = absurd (omega (arith, low))
count_set (None ∷ places) zero x low none = refl
count_set (Some y ∷ places) zero x low none = absurd cc
count_set (None ∷ places) (suc i) x low none = count_set places i x (omega (arith, low)) none
count_set (Some y ∷ places) (suc i) x low none = ap (λ n. suc n) (count_set places i x (omega (arith, low)) none)

by_option : {X : Type 0} (o : Option X) → (o ≡ None) ⊎ ((x : X) × (o ≡ Some x))
by_option None = inl refl
by_option (Some x) = inr (x, refl)

-- a part that comes out of its lock, with its pass, which is joined
pub record Comes {X : Type 0} (k : Kind X) (g : Settings) (v w j : View) (x : X) : Type 0 where
  pub actors : j.actors ≡ v.actors ++ w.actors
  pub joined : Joined (meeting v w) j.front
  pub legal : Legal g j.front
  pub own : w.actors ≡ k.actor (k.number x) ∷ []
  pub stand : k.stands g w.front x

-- what the places have after it was put, where one place more is full
pub record Put {X : Type 0} (k : Kind X) (g : Settings) (j : View) (old new : List (Option X)) : Type 0 where
  pub gathered : Gathered k g j new
  pub more : filled new ≡ suc (filled old)

put : {X : Type 0} {k : Kind X} {g : Settings} {v w j : View} {places : List (Option X)} {x : X} → IsKind k → Comes k g v w j x → Gathered k g v places
    → Put k g j places (slice_set places (k.number x) (Some x))
put {X} {k} {g} {v} {w} {j} {places} {x} is comes gathered = record {
  gathered = record {
    counted = length-set places (k.number x) (Some x) ∙ gathered.counted;
    each = λ i y. at_place (λ (o : Option X). o ≡ Some y → (k.number y ≡ i) × k.stands g j.front y × (is_held j.actors (k.actor i) ≡ true))
        places (k.number x) i (Some x) None within (λ at same. here i y at cc) (λ other. there i y);
  };
  more = count_set places (k.number x) x within empty;
}
  where
    within : k.number x < length places
    within = rw gathered.counted (is.low g w.front x comes.stand)

    mine : is_held w.actors (k.actor (k.number x)) ≡ true
    mine = rw comes.own (holds_self (k.actor (k.number x)))

    empty : slice_index_or places (k.number x) None ≡ None
    empty = ⊎_elim (λ none. none) (λ some. absurd (comes.joined.apart (k.actor (k.number x)) (gathered.each (k.number x) some.0 some.1).2 mine))
        (by_option (slice_index_or places (k.number x) None))

    later : IsSeen v j
    later = seen_left v w j comes.actors comes.joined

    stands : k.stands g j.front x
    stands = is.stand_on g w.front j.front x comes.joined.other_begins (comes.joined.other_own (k.actor (k.number x)) mine) comes.legal comes.stand

    here : (i : ℕ) (y : X) → i ≡ k.number x → x ≡ y → (k.number y ≡ i) × k.stands g j.front y × (is_held j.actors (k.actor i) ≡ true)
    here i y at it = (
      ap k.number (sym it) ∙ sym at,
      subst (k.stands g j.front) it stands,
      subst (λ n. is_held j.actors (k.actor n) ≡ true) (sym at) ((seen_right v w j comes.actors comes.joined).held (k.actor (k.number x)) mine),
    )

    there : (i : ℕ) (y : X) → slice_index_or places i None ≡ Some y → (k.number y ≡ i) × k.stands g j.front y × (is_held j.actors (k.actor i) ≡ true)
    there i y is_there =
        let was = gathered.each i y is_there in (
          was.0,
          is.stand_on g v.front j.front y later.begins
              (later.own (k.actor (k.number y)) (subst (λ n. is_held v.actors (k.actor n) ≡ true) (sym was.0) was.2)) comes.legal was.1,
          later.held (k.actor i) was.2,
        )

count_low : {X : Type 0} (places : List (Option X)) → filled places ≤ length places
count_low [] = omega arith
count_low (None ∷ places) = let low : filled places ≤ length places = count_low places in omega (arith, low)
count_low (Some x ∷ places) = let low : filled places ≤ length places = count_low places in omega (arith, low)

-- where all places are full, the parts in them stand in order
full_length : {X : Type 0} (places : List (Option X)) → filled places ≡ length places → length (somes places) ≡ length places
full_length [] full = refl
full_length (None ∷ places) full = let low : filled places ≤ length places = count_low places in absurd (omega (arith, low, full))
full_length (Some x ∷ places) full = ap (λ n. suc n) (full_length places (omega (arith, full)))

full_at : {X : Type 0} (places : List (Option X)) (i : ℕ) (d : X) → filled places ≡ length places → i < length places
    → slice_index_or places i None ≡ Some (slice_index_or (somes places) i d)
full_at [] i d full low = absurd (omega (arith, low))
full_at (None ∷ places) i d full low = let most : filled places ≤ length places = count_low places in absurd (omega (arith, most, full))
full_at (Some x ∷ places) zero d full low = refl
full_at (Some x ∷ places) (suc i) d full low = full_at places i d (omega (arith, full)) (omega (arith, low))

all_in : {X : Type 0} {k : Kind X} {g : Settings} {v : View} {places : List (Option X)} → Gathered k g v places → filled places ≡ k.count g
    → AreIn k g (k.count g) v (somes places)
all_in {X} {k} {g} {v} {places} gathered full = record {
  ordered = record {
    counted = full_length places all ∙ gathered.counted;
    named = λ i d low. (at i d low).0;
    stand = λ i d low left. (at i d low).1;
  };
  held = λ i low. ⊎_elim (λ none. absurd (is_full places i all (rw gathered.counted low) none)) (λ some. (gathered.each i some.0 some.1).2)
      (by_option (slice_index_or places i None));
}
  where
    all : filled places ≡ length places
    all = full ∙ sym gathered.counted

    at : (i : ℕ) (d : X) → i < k.count g
        → (k.number (slice_index_or (somes places) i d) ≡ i) × k.stands g v.front (slice_index_or (somes places) i d) × (is_held v.actors (k.actor i) ≡ true)
    at i d low = gathered.each i (slice_index_or (somes places) i d) (full_at places i d all (rw gathered.counted low))

    is_full : (ps : List (Option X)) (i : ℕ) → filled ps ≡ length ps → i < length ps → slice_index_or ps i None ≡ None → ⊥
    is_full [] i same low none = absurd (omega (arith, low))
    is_full (None ∷ ps) i same low none = let most : filled ps ≤ length ps = count_low ps in absurd (omega (arith, most, same))
    is_full (Some x ∷ ps) zero same low none = absurd cc
    is_full (Some x ∷ ps) (suc i) same low none = is_full ps i (omega (arith, same)) (omega (arith, low)) none

-- one part more at the end
pub in_more : {X : Type 0} {k : Kind X} {g : Settings} {n : ℕ} {v : View} {xs : List X} (x : X) → AreIn k g n v xs → k.number x ≡ n → k.stands g v.front x
    → is_held v.actors (k.actor n) ≡ true → AreIn k g (n + 1) v (xs ++ x ∷ [])
in_more {X} {k} {g} {n} {v} {xs} x are at stand held =
    let first = are.ordered in
    let more = new_more (λ i y. (k.number y ≡ i) × k.stands g v.front y) n xs x
    (record { counted = first.counted; each = λ i d low. (first.named i d low, first.stand i d low refl) }) (at, stand) in
    record {
      ordered = record {
        counted = more.counted;
        named = λ i d low. (more.each i d low).0;
        stand = λ i d low left. (more.each i d low).1;
      };
      held = below_more (λ i. is_held v.actors (k.actor i) ≡ true) n are.held held;
    }

-- the parts that are put in their places so far, and how many are left
pub record Gathers {X : Type 0} (k : Kind X) (g : Settings) (first v : View) (places : List (Option X)) (left : ℕ) : Type 0 where
  pub seen : IsSeen first v
  pub gathered : Gathered k g v places
  pub full : filled places + left ≡ k.count g

-- none is put, and one more
pub gathers_none : {X : Type 0} {k : Kind X} {g : Settings} {v : View} {places : List (Option X)} {left : ℕ} → AreEmpty (k.count g) places → left ≡ k.count g
    → Gathers k g v v places left
gathers_none empty left = record {
  seen = record { begins = record { later = []; grown = sym (append-nil _) }; held = λ a is. is; own = λ a is. refl };
  gathered = record { counted = empty.counted; each = λ i x is. absurd (let clash = sym (empty.each i) ∙ is in cc) };
  full = rw (empty.none, left) (omega arith);
}

pub gathers_more : {X : Type 0} {k : Kind X} {g : Settings} {first v w j : View} {places new : List (Option X)} {x : X} {i left more : ℕ} → IsKind k
    → Comes k g v w j x → i ≡ k.number x → new ≡ slice_set places i (Some x) → more ≡ suc left → Gathers k g first v places more → Gathers k g first j new left
gathers_more {k = k} {g = g} {v = v} {w = w} {j = j} {places = places} {new = new} {x = x} is comes at placed one gathers =
    let done = put is comes gathers.gathered in
    let put_is : new ≡ slice_set places (k.number x) (Some x) = placed ∙ ap (λ i. slice_set places i (Some x)) at in
    let filled_is : filled new ≡ suc (filled places) = ap filled put_is ∙ done.more in
    let full = gathers.full in
    record {
      seen = seen_then gathers.seen (seen_left v w j comes.actors comes.joined);
      gathered = subst (Gathered k g j) (sym put_is) done.gathered;
      full = omega (arith, filled_is, one, full);
    }

-- when none is left, all stand in order
pub gathers_all : {X : Type 0} {k : Kind X} {g : Settings} {first v : View} {places : List (Option X)} {left : ℕ} → Gathers k g first v places left → left ≡ 0
    → AreIn k g (k.count g) v (somes places)
gathers_all {k = k} {g = g} {places = places} gathers none =
    let full = gathers.full in
    let all : filled places ≡ k.count g = omega (arith, full, none) in
    all_in gathers.gathered all
