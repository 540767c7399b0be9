-- What a world has after it gave a seat, or took it back.

use Rattle.std.proofs.Common.{◌≡◌, ◌≢◌, ⊎_elim, ℕ, ◌+◌, ◌<◌, Bool, true, false, cond, List, [], ◌∷◌, ◌++◌, length, inl, inr, refl, sym, ap, subst, ◌∙◌, arith, ne_eqb, eq-eqb}
use Rattle.std.specs.Prelude.{nat_eq, nat_le}
use Rattle.ert_defs.specs.{Actors.same_actor, declared.entry.Actor.Actor, declared.entry.Actor.TheVariants.{Keeper, Wheel, Inbox, Sched, MailOf, Caller}, declared.entry.Entry.Entry, declared.settings.Settings.Settings}
use Rattle.ert_world.specs.{Parts.{AllParts, Stand}, Worlds.{IsUnseated, HoldsRest, AreTidy, AreSound}}
use Rattle.ert_table.proofs.Holders.{tells, or_left, same_actor-true, same_actor_self, held-append, held_first, held_then, held_one, held_but, held_but_parts, held_but_other}
use Rattle.ert_table.specs.{Desks.{settings_of, front_of, actors_of, Belongs}, Held.{is_held, actors_but, IsActor}, Views.longer, declared.desk.Desk.Desk, declared.desk.Pass.Pass}

lower : (n m : ℕ) → nat_eq n m ≡ false → n < m + 1 → n < m
lower n m apart below =
    let other : n ≢ m = λ (is : n ≡ m). let clash : true ≡ false = sym (eq-eqb n m is) ∙ apart in cc in
    omega (arith, below, other)

-- what it holds but for the next caller
module _ (g : Settings) (actors : List Actor) (next : ℕ) (holds : HoldsRest g actors next) where
  other_caller : (n : ℕ) → n ≢ next → IsActor g (Caller n) → IsUnseated next (Caller n) → is_held (actors_but actors (Caller next)) (Caller n) ≡ true
  other_caller n apart ranged unseated =
      held_but_other actors (Caller next) (Caller n) (ne_eqb n next apart) (holds.rest (Caller n) ranged unseated)

  rest_held : (a : Actor) → IsActor g a → IsUnseated (next + 1) a → is_held (actors_but actors (Caller next)) a ≡ true
  rest_held Keeper ranged unseated = held_but_other actors (Caller next) Keeper refl (holds.rest Keeper ranged tt)
  rest_held (Wheel n) ranged unseated = held_but_other actors (Caller next) (Wheel n) refl (holds.rest (Wheel n) ranged tt)
  rest_held (Inbox n) ranged unseated = held_but_other actors (Caller next) (Inbox n) refl (holds.rest (Inbox n) ranged tt)
  rest_held (Sched n) ranged unseated = held_but_other actors (Caller next) (Sched n) refl (holds.rest (Sched n) ranged tt)
  rest_held (MailOf n) ranged unseated = held_but_other actors (Caller next) (MailOf n) refl (holds.rest (MailOf n) ranged tt)
  rest_held (Caller n) ranged (inl none) =
      let some : 0 < next = holds.some in
      other_caller n (λ (is : n ≡ next). omega (arith, is, none, some)) ranged (inl none)
  rest_held (Caller n) ranged (inr above) =
      other_caller n (λ (is : n ≡ next). omega (arith, is, above)) ranged (inr (omega (arith, above)))

  given_away : (n : ℕ) → 0 < n → n < next + 1 → is_held (actors_but actors (Caller next)) (Caller n) ≡ false
  given_away n some below = at (nat_eq n next) refl
    where
      at : (b : _) → nat_eq n next ≡ b → is_held (actors_but actors (Caller next)) (Caller n) ≡ false
      at true is = held_but actors (Caller next) (Caller n) ∙ rw is refl
      at false is = held_but actors (Caller next) (Caller n) ∙ rw is (holds.given n some (lower n next is below))

  pub rest_after : next < g.callers → HoldsRest g (actors_but actors (Caller next)) (next + 1)
  rest_after low = record {
    some = omega arith;
    most = omega (arith, low);
    rest = rest_held;
    given = given_away;
  }

-- what it holds again once that caller came back
module _ (g : Settings) (actors : List Actor) (next : ℕ) (holds : HoldsRest g actors next) where
  back_held : (a : Actor) → IsActor g a → IsUnseated next a → is_held (actors_but actors (Caller next) ++ Caller next ∷ []) a ≡ true
  back_held a ranged unseated =
      ⊎_elim
      (λ same. held_then (actors_but actors (Caller next)) (Caller next ∷ []) a
      (subst (λ c. is_held (Caller next ∷ []) c ≡ true) (sym (same_actor-true a (Caller next) same)) (or_left _ false (same_actor_self (Caller next)))))
      (λ differs. held_first (actors_but actors (Caller next)) (Caller next ∷ []) a
      (held_but_other actors (Caller next) a differs (holds.rest a ranged unseated)))
      (tells (same_actor a (Caller next)))

  still_given : (n : ℕ) → 0 < n → n < next → is_held (actors_but actors (Caller next) ++ Caller next ∷ []) (Caller n) ≡ false
  still_given n some below = at (is_held (actors_but actors (Caller next) ++ Caller next ∷ []) (Caller n)) refl
    where
      both : is_held (actors_but actors (Caller next) ++ Caller next ∷ []) (Caller n) ≡ true → ⊥
      both held =
          ⊎_elim
          (λ first.
          let was : is_held actors (Caller n) ≡ true = (held_but_parts actors (Caller next) (Caller n) first).1 in
          let clash : true ≡ false = sym was ∙ holds.given n some below in
          cc)
          (λ last.
          let same : Caller next ≡ Caller n = held_one (Caller next) (Caller n) last in
          let one : next ≡ n = cc in
          omega (arith, one, below))
          (held-append (actors_but actors (Caller next)) (Caller next ∷ []) (Caller n) held)

      at : (b : Bool) → is_held (actors_but actors (Caller next) ++ Caller next ∷ []) (Caller n) ≡ b
          → is_held (actors_but actors (Caller next) ++ Caller next ∷ []) (Caller n) ≡ false
      at true is = absurd (both is)
      at false is = is

  pub rest_again : HoldsRest g (actors_but actors (Caller next) ++ Caller next ∷ []) next
  rest_again = record { some = holds.some; most = holds.most; rest = back_held; given = still_given }

-- its parts fit still
pub fit_after : (d e : Desk) (p q : Pass) (next : ℕ) (parts : AllParts) → d ≡ e → AreSound e p next parts → Belongs d q
    → actors_of q ≡ actors_but (actors_of p) (Caller next) → front_of q ≡ front_of p → next < (settings_of e).callers → AreSound e q (next + 1) parts
fit_after d e p q next parts same kept belongs actors front low = record {
  fit = record {
    belongs = subst (λ x. Belongs x q) same belongs;
    holds = subst (λ l. HoldsRest (settings_of e) l (next + 1)) (sym actors) (rest_after (settings_of e) (actors_of p) next kept.fit.holds low);
    stand = subst (λ h. Stand (settings_of e) h [] parts) (sym front) kept.fit.stand;
  };
  tidy = λ alone. absurd (omega (arith, alone, kept.fit.holds.some));
}

-- the longer of two fronts that are one
pub longer_same : (f h k : List Entry) → f ≡ k → h ≡ k → longer f h ≡ k
longer_same f h k one other = subst (λ l. longer l h ≡ k) (sym one) (subst (λ l. longer k l ≡ k) (sym other) same)
  where
    at : (b : Bool) → cond b k k ≡ k
    at true = refl
    at false = refl

    same : longer k k ≡ k
    same = at (nat_le (length k) (length k))

-- the parts of a world fit again once the caller came back
pub fit_again : (d e : Desk) (p q r : Pass) (next : ℕ) (parts : AllParts) → d ≡ e → AreSound e p next parts → Belongs d r
    → actors_of q ≡ actors_but (actors_of p) (Caller next) → actors_of r ≡ actors_of q ++ Caller next ∷ [] → front_of r ≡ front_of p → AreSound e r next parts
fit_again d e p q r next parts same kept belongs rest actors front = record {
  fit = record {
    belongs = subst (λ x. Belongs x r) same belongs;
    holds = subst (λ l. HoldsRest (settings_of e) l next) (sym (actors ∙ ap (λ l. l ++ Caller next ∷ []) rest))
        (rest_again (settings_of e) (actors_of p) next kept.fit.holds);
    stand = subst (λ h. Stand (settings_of e) h [] parts) (sym front) kept.fit.stand;
  };
  tidy = λ alone. subst (λ h. AreTidy (settings_of e) h parts.wheels) (sym front) (kept.tidy alone);
}
