-- A pass may be divided by any test of actors.

use Rattle.std.proofs.Common.{◌≡◌, Bool, true, false, not, ◌&&◌, List, [], ◌∷◌, filter, refl, sym, ap, ◌∙◌}
use Rattle.ert_defs.specs.{Actors.same_actor, declared.entry.Actor.Actor}
use Rattle.ert_table.proofs.Holders.{same_actor-true}
use Rattle.ert_table.specs.Held.{is_held, AreShared}

-- of those that pass a test an actor is held where it was and passes it
pub held_filter : (test : Actor → Bool) (actors : List Actor) (a : Actor) → is_held (filter test actors) a ≡ (test a && is_held actors a)
held_filter test [] a = none (test a)
  where
    none : (b : Bool) → false ≡ (b && false)
    none true = refl
    none false = refl
held_filter test (b ∷ actors) a = at (test b) refl (same_actor b a) refl (held_filter test actors a)
  where
    at : (t : Bool) → test b ≡ t → (s : Bool) → same_actor b a ≡ s → is_held (filter test actors) a ≡ (test a && is_held actors a)
        → is_held (filter test (b ∷ actors)) a ≡ (test a && is_held (b ∷ actors) a)
    at true is true same more = (let one : b ≡ a = same_actor-true b a same in let mine : test a ≡ true = ap test (sym one) ∙ is in rw (is, same, mine) refl)
    at true is false apart more = rw (is, apart) more
    at false is true same more =
        (let one : b ≡ a = same_actor-true b a same in let not_mine : test a ≡ false = ap test (sym one) ∙ is in rw (is, not_mine) (more ∙ rw not_mine refl))
    at false is false apart more = rw (is, apart) more

pub divided_by : (test : Actor → Bool) (actors : List Actor) → AreShared actors (filter (λ a. not (test a)) actors) (filter test actors)
divided_by test actors = record {
  less = λ a kept. (both (not (test a)) (is_held actors a) (sym (held_filter (λ x. not (test x)) actors a) ∙ kept)).1;
  gave = λ a given. (both (test a) (is_held actors a) (sym (held_filter test actors a) ∙ given)).1;
  apart = λ a kept given. clash (test a) (both (not (test a)) (is_held actors a) (sym (held_filter (λ x. not (test x)) actors a) ∙ kept)).0
      (both (test a) (is_held actors a) (sym (held_filter test actors a) ∙ given)).0;
}
  where
    both : (b c : Bool) → (b && c) ≡ true → (b ≡ true) × (c ≡ true)
    both true true is = (refl, refl)
    both true false is = absurd cc
    both false c is = absurd cc

    clash : (b : Bool) → not b ≡ true → b ≡ true → ⊥
    clash b is_not is = (let bad : false ≡ true = sym (ap not is) ∙ is_not in absurd cc)
