-- Passes that are divided.

use Rattle.std.proofs.Common.{◌≡◌, ◌≢◌, ◌⊎◌, inl, inr, ⊎_elim, ℕ, zero, suc, true, false, List, [], ◌∷◌, ◌++◌, length, set, None, refl, sym, ap, subst, ◌∙◌}
use mathlib.Core.Option.{some, some-injective, some-ne-none}
use lib.ListN.{get_elem?}
use Rattle.atomic_table.specs.Table.{Splits}
use Rattle.atomic_table.proofs.Lists.{at_set}
use Rattle.ert_defs.specs.{Actors.same_actor, declared.entry.Actor.Actor, declared.entry.Entry.Entry, declared.settings.Settings.Settings}
use Rattle.ert_table.specs.{Held.{is_held, AreShared, actors_but}, Rule.Fits, Views.holding, declared.view.View.View}
use Rattle.ert_table.proofs.{Holders.{same_actor_self, held_one, held_but_parts}, OneStep.Ruled}

-- what stands in a list with one more at its end
pub at_snoc_at : {X : Type 0} (l : List X) (a b : X) (j : ℕ) → get_elem? (l ++ a ∷ []) j ≡ some b
    → (get_elem? l j ≡ some b) ⊎ ((j ≡ length l) × (a ≡ b))
at_snoc_at [] a b zero e = inr (refl, some-injective a b e)
at_snoc_at [] a b (suc j) e = absurd (some-ne-none b (sym e))
at_snoc_at (x ∷ xs) a b zero e = inl e
at_snoc_at (x ∷ xs) a b (suc j) e = ⊎_elim (λ t. inl t) (λ t. inr (ap suc t.0, t.1)) (at_snoc_at xs a b j e)

-- a pass fits that knows the same and holds no more
fits_less : (g : Settings) (h : List Entry) (v : View) (actors : List Actor) → Fits g h v
    → ((a : Actor) → is_held actors a ≡ true → is_held v.actors a ≡ true)
    → Fits g h (record { front = v.front; actors = actors; settings = v.settings; met = None })
fits_less g h v actors fit less = record {
  later = fit.later;
  begins = fit.begins;
  own = λ a held. fit.own a (less a held);
  named = fit.named;
  met = tt;
}

-- no two of these passes hold one actor
abbrev pub AreApart : List View → Type 0
AreApart views = (j k : ℕ) (x y : View) (a : Actor) → get_elem? views j ≡ some x → get_elem? views k ≡ some y
    → is_held x.actors a ≡ true → is_held y.actors a ≡ true → j ≡ k

module _ (views : List View) (id : ℕ) (v : View) (kept given : List Actor) (at : get_elem? views id ≡ some v) (shared : AreShared v.actors kept given) where
  -- a pass after a division: an old one, which holds no more than before and no actor that was given away,
  -- or the new one
  record Old (k : ℕ) (u : View) : Type 0 where
    view : View
    stood : get_elem? views k ≡ some view
    less : (b : Actor) → is_held u.actors b ≡ true → is_held view.actors b ≡ true
    gave : k ≡ id → (b : Actor) → is_held u.actors b ≡ true → is_held given b ≡ true → ⊥

  record New (k : ℕ) (u : View) : Type 0 where
    last : k ≡ length (set views id (holding v kept))
    is : holding v given ≡ u

  old_is : (k : ℕ) (u : View) → get_elem? (set views id (holding v kept)) k ≡ some u → Old k u
  old_is k u is =
      ⊎_elim
      (λ (here : (k ≡ id) × (holding v kept ≡ u)). let r : Old k u = record {
        view = v;
        stood = subst (λ n. get_elem? views n ≡ some v) (sym here.0) at;
        less = λ b held. shared.less b (subst (λ (x : View). is_held x.actors b ≡ true) (sym here.1) held);
        gave = λ _ b held. shared.apart b (subst (λ (x : View). is_held x.actors b ≡ true) (sym here.1) held);
      } in r)
      (λ (there : (k ≢ id) × (get_elem? views k ≡ some u)). let r : Old k u = record {
        view = u;
        stood = there.1;
        less = λ b held. held;
        gave = λ is. absurd (there.0 is);
      } in r)
      (at_set views id k (holding v kept) u is)

  which : (k : ℕ) (u : View) → get_elem? (set views id (holding v kept) ++ holding v given ∷ []) k ≡ some u → Old k u ⊎ New k u
  which k u is =
      ⊎_elim (λ old. inl (old_is k u old)) (λ (new : (k ≡ length (set views id (holding v kept))) × (holding v given ≡ u)). inr (record { last = new.0; is = new.1 }))
      (at_snoc_at (set views id (holding v kept)) (holding v given) u k is)

  -- an old pass and the new one have no actor in common
  old_new : AreApart views → (k n : ℕ) (u x : View) (b : Actor) → Old k u → New n x
      → is_held u.actors b ≡ true → is_held x.actors b ≡ true → ⊥
  old_new apart k n u x b old new held_u held_x =
      let held : is_held given b ≡ true = subst (λ (y : View). is_held y.actors b ≡ true) (sym new.is) held_x in
      old.gave (apart k id old.view v b old.stood at (old.less b held_u) (shared.gave b held)) b held_u held

  divided : AreApart views → (j k : ℕ) (x y : View) (b : Actor) → Old j x ⊎ New j x → Old k y ⊎ New k y
      → is_held x.actors b ≡ true → is_held y.actors b ≡ true → j ≡ k
  divided apart j k x y b (inl p) (inl q) held_x held_y =
      apart j k p.view q.view b p.stood q.stood (p.less b held_x) (q.less b held_y)
  divided apart j k x y b (inl p) (inr q) held_x held_y = absurd (old_new apart j k x y b p q held_x held_y)
  divided apart j k x y b (inr p) (inl q) held_x held_y = absurd (old_new apart k j y x b q p held_y held_x)
  divided apart j k x y b (inr p) (inr q) held_x held_y = p.last ∙ sym q.last

  -- each pass fits after a division
  divided_fit : (g : Settings) (h : List Entry) → ((k : ℕ) (u : View) → get_elem? views k ≡ some u → Fits g h u) → (k : ℕ) (u : View)
      → get_elem? (set views id (holding v kept) ++ holding v given ∷ []) k ≡ some u → Fits g h u
  divided_fit g h fits k u is =
      let fit = fits id v at in
      ⊎_elim
      (λ (old : get_elem? (set views id (holding v kept)) k ≡ some u). ⊎_elim
      (λ (here : (k ≡ id) × (holding v kept ≡ u)). subst (Fits g h) here.1 (fits_less g h v kept fit (λ b held. shared.less b held)))
      (λ (there : (k ≢ id) × (get_elem? views k ≡ some u)). fits k u there.1)
      (at_set views id k (holding v kept) u old))
      (λ (new : (k ≡ length (set views id (holding v kept))) × (holding v given ≡ u)). subst (Fits g h) new.1
      (fits_less g h v given fit (λ b held. shared.gave b held)))
      (at_snoc_at (set views id (holding v kept)) (holding v given) u k is)

-- a pass may give some of its actors to a new pass
pub splits : (g : Settings) (id : ℕ) (v : View) (kept given : List Actor) → AreShared v.actors kept given
    → Splits (Ruled g) id v (holding v kept) (holding v given)
splits g id v kept given shared s held at = record {
  history = held.history;
  legal = held.legal;
  counted = held.counted;
  shown = held.shown;
  fits = divided_fit s.views id v kept given at shared g held.history held.fits;
  apart = λ j k x y b at_x at_y held_x held_y. divided s.views id v kept given at shared held.apart j k x y b
      (which s.views id v kept given at shared j x at_x) (which s.views id v kept given at shared k y at_y) held_x held_y;
}

-- an actor that is held may be given away
pub one_shared : (actors : List Actor) (a : Actor) → is_held actors a ≡ true → AreShared actors (actors_but actors a) (a ∷ [])
one_shared actors a held = record {
  less = λ b kept. (held_but_parts actors a b kept).1;
  gave = λ b one. subst (λ c. is_held actors c ≡ true) (held_one a b one) held;
  apart = λ b kept one.
      let not : same_actor a a ≡ false = subst (λ c. same_actor c a ≡ false) (sym (held_one a b one)) (held_but_parts actors a b kept).0 in
      let no : true ≡ false = sym (same_actor_self a) ∙ not in
      cc;
}

-- and so may all
pub all_shared : (actors : List Actor) → AreShared actors [] actors
all_shared actors = record {
  less = λ b kept. absurd cc;
  gave = λ b held. held;
  apart = λ b kept. absurd cc;
}

-- and so may none
pub none_shared : (actors : List Actor) → AreShared actors actors []
none_shared actors = record {
  less = λ b kept. kept;
  gave = λ b held. absurd cc;
  apart = λ b kept held. cc;
}
