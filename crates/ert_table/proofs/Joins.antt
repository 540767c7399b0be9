-- Passes that are put together, and told what they were put together of.

use Rattle.std.proofs.Common.{◌≡◌, ◌≢◌, ◌⊎◌, inl, inr, ⊎_elim, ℕ, ◌<◌, ◌≤◌, Bool, true, false, cond, nat_le, List, [], ◌∷◌, ◌++◌, length, set, slice_index, refl, sym, ap, subst, ◌∙◌, arith, append-nil, length-set, get_or-set_same, get_or-set_other}
use Rattle.std.proofs.lemmas.{Bool.cases_eq, Bool.Decides.nat_tests, List.Elements.filter-append}
use mathlib.Core.Option.{some}
use lib.ListN.{get_elem?}
use Rattle.atomic_table.specs.Table.{keeps, Allows, Joins}
use Rattle.atomic_table.proofs.Lists.{at_set, set_else, set_again}
use Rattle.ert_defs.specs.{Actors.{has_actor, of, IsFree}, Legal.Legal, States.opening, declared.entry.Actor.Actor, declared.entry.Entry.Entry, declared.settings.Settings.Settings}
use Rattle.ert_defs.proofs.Runs.{legal_first}
use Rattle.ert_table.specs.{Acts.{Sitter, SittersMeet}, Held.is_held, Rule.{Fits, Holds}, Views.{Begins, longer, both, spent}, declared.view.View.View}
use Rattle.ert_table.proofs.{Holders.{held-append, free_then, free_front}, OneStep.Ruled, Splits.AreApart}

-- of two beginnings of one list the longer one goes on from the other
pub record GoesOn (f f' l l' : List Entry) : Type 0 where
  pub more : List Entry
  pub grown : f' ≡ f ++ more
  pub left : l ≡ more ++ l'

pub goes_on : (f f' l l' : List Entry) → f ++ l ≡ f' ++ l' → length f ≤ length f' → GoesOn f f' l l'
goes_on [] f' l l' same le = record { more = f'; grown = refl; left = same }
goes_on (e ∷ f) [] l l' same le = absurd (omega arith)
goes_on (e ∷ f) (d ∷ f') l l' same le =
    let tails : f ++ l ≡ f' ++ l' = cc in
    let rest = goes_on f f' l l' tails (omega arith) in
    let head : e ≡ d = cc in
    record { more = rest.more; grown = ap (λ x. d ∷ x) rest.grown ∙ ap (λ x. x ∷ (f ++ rest.more)) (sym head); left = rest.left }

goes_on_self : (f l : List Entry) → GoesOn f f l l
goes_on_self f l = record { more = []; grown = sym (append-nil f); left = refl }

-- an actor's entries in the longer beginning are those in the shorter one, if it has none after that
own_same : (f f' l l' : List Entry) (a : Actor) → GoesOn f f' l l' → IsFree l a → of f' a ≡ of f a
own_same f f' l l' a on free =
    let none : of on.more a ≡ [] = free_front on.more l' a (subst (λ x. IsFree x a) on.left free) in
    ap (λ x. of x a) on.grown ∙ (filter-append (λ e. has_actor e a) f on.more ∙ (ap (λ x. of f a ++ x) none ∙ append-nil (of f a)))

free_on : (f f' l l' : List Entry) (a : Actor) → GoesOn f f' l l' → IsFree l a → IsFree l' a
free_on f f' l l' a on free = free_then on.more l' a (subst (λ x. IsFree x a) on.left free)

-- a front from which both passes' fronts go on, and what follows it
record Meeting (g : Settings) (h : List Entry) (v w : View) (front : List Entry) (v_later w_later : List Entry) : Type 0 where
  later : List Entry
  begins : h ≡ front ++ later
  on : GoesOn v.front front v_later later
  other_on : GoesOn w.front front w_later later

met_at : (g : Settings) (h : List Entry) (v w : View) (p : Fits g h v) (q : Fits g h w) (b : Bool)
    → nat_le (length w.front) (length v.front) ≡ b → Meeting g h v w (cond b v.front w.front) p.later q.later
met_at g h v w p q true is = record {
  later = p.later;
  begins = p.begins;
  on = goes_on_self v.front p.later;
  other_on = goes_on w.front v.front q.later p.later (sym q.begins ∙ p.begins) (grind (arith, nat_tests));
}
met_at g h v w p q false is = record {
  later = q.later;
  begins = q.begins;
  on = goes_on v.front w.front p.later q.later (sym p.begins ∙ q.begins) (grind (arith, nat_tests));
  other_on = goes_on_self w.front q.later;
}

-- the pass that two became fits
both_fit : (g : Settings) (h : List Entry) (v w : View) → Fits g h v → Fits g h w
    → ((a : Actor) → is_held v.actors a ≡ true → is_held w.actors a ≡ true → ⊥) → Fits g h (both v w)
both_fit g h v w p q apart =
    let front : List Entry = longer v.front w.front in
    let m = met_at g h v w p q (nat_le (length w.front) (length v.front)) refl in
    record {
      later = m.later;
      begins = m.begins;
      own = λ a held. ⊎_elim (λ ours. free_on v.front front p.later m.later a m.on (p.own a ours))
          (λ others. free_on w.front front q.later m.later a m.other_on (q.own a others)) (held-append v.actors w.actors a held);
      named = p.named;
      met = record {
        begins = record { later = m.on.more; grown = m.on.grown };
        other_begins = record { later = m.other_on.more; grown = m.other_on.grown };
        own = λ a held. own_same v.front front p.later m.later a m.on (p.own a held);
        other_own = λ a held. own_same w.front front q.later m.later a m.other_on (q.own a held);
        apart = apart;
      };
    }

-- each of their fronts begins that of the pass that they became
pub both_begin : (g : Settings) (h : List Entry) (v w : View) → Fits g h v → Fits g h w
    → Begins v.front (longer v.front w.front) × Begins w.front (longer v.front w.front)
both_begin g h v w p q =
    let m = met_at g h v w p q (nat_le (length w.front) (length v.front)) refl in
    (record { later = m.on.more; grown = m.on.grown }, record { later = m.other_on.more; grown = m.other_on.grown })

-- a pass with nothing fits
spent_fits : (g : Settings) (h : List Entry) → Fits g h spent
spent_fits g h = record { later = h; begins = refl; own = λ a held. absurd cc; named = tt; met = tt }

module _ (views : List View) (id other : ℕ) (v w : View) (at : get_elem? views id ≡ some v) (not : other ≢ id)
    (with : get_elem? views other ≡ some w) where
  -- a pass after two met: an old one, which holds no more than before, nothing where it is the other of the
  -- two, or the one that they became
  record Before (k : ℕ) (u : View) : Type 0 where
    view : View
    stood : get_elem? views k ≡ some view
    less : (b : Actor) → is_held u.actors b ≡ true → is_held view.actors b ≡ true
    left : k ≡ other → (b : Actor) → is_held u.actors b ≡ true → ⊥

  record Both (k : ℕ) (u : View) : Type 0 where
    here : k ≡ id
    is : both v w ≡ u

  whose : (k : ℕ) (u : View) → get_elem? (set (set views id (both v w)) other spent) k ≡ some u → Before k u ⊎ Both k u
  whose k u is =
      ⊎_elim
      (λ (gone : (k ≡ other) × (spent ≡ u)).
      let nothing : (b : Actor) → is_held u.actors b ≡ true → ⊥ = λ b held.
      let no : false ≡ true = subst (λ (x : View). is_held x.actors b ≡ true) (sym gone.1) held in cc in
      let r : Before k u = record {
        view = w;
        stood = subst (λ n. get_elem? views n ≡ some w) (sym gone.0) with;
        less = λ b held. absurd (nothing b held);
        left = λ _. nothing;
      } in inl r)
      (λ (stays : (k ≢ other) × (get_elem? (set views id (both v w)) k ≡ some u)). ⊎_elim
      (λ (here : (k ≡ id) × (both v w ≡ u)). let r : Both k u = record { here = here.0; is = here.1 } in inr r)
      (λ (there : (k ≢ id) × (get_elem? views k ≡ some u)). let r : Before k u = record {
        view = u;
        stood = there.1;
        less = λ b held. held;
        left = λ is. absurd (stays.0 is);
      } in inl r)
      (at_set views id k (both v w) u stays.1))
      (at_set (set views id (both v w)) other k spent u is)

  -- an old pass and the one that two became have no actor in common, unless they are one
  before_both : AreApart views → (k n : ℕ) (u x : View) (b : Actor) → Before k u → Both n x → is_held u.actors b ≡ true
      → is_held x.actors b ≡ true → k ≡ n
  before_both apart k n u x b old new held_u held_x =
      ⊎_elim
      (λ ours. apart k id old.view v b old.stood at (old.less b held_u) ours ∙ sym new.here)
      (λ others. absurd (old.left (apart k other old.view w b old.stood with (old.less b held_u) others) b held_u))
      (held-append v.actors w.actors b (subst (λ (y : View). is_held y.actors b ≡ true) (sym new.is) held_x))

  united : AreApart views → (j k : ℕ) (x y : View) (b : Actor) → Before j x ⊎ Both j x → Before k y ⊎ Both k y
      → is_held x.actors b ≡ true → is_held y.actors b ≡ true → j ≡ k
  united apart j k x y b (inl p) (inl q) held_x held_y =
      apart j k p.view q.view b p.stood q.stood (p.less b held_x) (q.less b held_y)
  united apart j k x y b (inl p) (inr q) held_x held_y = before_both apart j k x y b p q held_x held_y
  united apart j k x y b (inr p) (inl q) held_x held_y = sym (before_both apart k j y x b q p held_y held_x)
  united apart j k x y b (inr p) (inr q) held_x held_y = p.here ∙ sym q.here

-- two passes may become one
pub joins : (g : Settings) (id other : ℕ) (v w : View) → Joins (Ruled g) id v other w (both v w) spent
joins g id other v w s kept at not there =
    let with : get_elem? s.views other ≡ some w = sym (set_else s.views id other (both v w) not) ∙ there in
    let apart : (a : Actor) → is_held v.actors a ≡ true → is_held w.actors a ≡ true → ⊥ =
    λ a p q. not (sym (kept.apart id other v w a at with p q)) in
    record {
      history = kept.history;
      legal = kept.legal;
      counted = kept.counted;
      shown = kept.shown;
      fits = λ k u is. ⊎_elim
          (λ (gone : (k ≡ other) × (spent ≡ u)). subst (Fits g kept.history) gone.1 (spent_fits g kept.history))
          (λ (stays : (k ≢ other) × (get_elem? (set s.views id (both v w)) k ≡ some u)). ⊎_elim
          (λ (here : (k ≡ id) × (both v w ≡ u)). subst (Fits g kept.history) here.1
          (both_fit g kept.history v w (kept.fits id v at) (kept.fits other w with) apart))
          (λ (there : (k ≢ id) × (get_elem? s.views k ≡ some u)). kept.fits k u there.1)
          (at_set s.views id k (both v w) u stays.1))
          (at_set (set s.views id (both v w)) other k spent u is);
      apart = λ j k x y b at_x at_y held_x held_y.
          united s.views id other v w at not with kept.apart j k x y b
          (whose s.views id other v w at not with j x at_x) (whose s.views id other v w at not with k y at_y) held_x held_y;
    }

-- a load that changes nothing tells what a pass was put together of
pub learns : (g : Settings) (slots id : ℕ) (v : View)
    → Allows (Ruled g) slots id (v, []) 8 (λ n. n) (λ n now. SittersMeet g (v, []) now)
learns g slots id v s kept homes at fits =
    let n : ℕ = slice_index s.words 8 in
    let fit = kept.fits id v at in
    let legal : Legal g v.front = legal_first g (opening g) v.front fit.later (subst (Legal g) fit.begins kept.legal) in
    let ruled : Holds g (set s.words 8 n) s.views = record {
      history = kept.history;
      legal = kept.legal;
      counted = length-set s.words 8 n ∙ kept.counted;
      shown = λ j lt. same_word s.words j (subst (λ x. j < x) (sym kept.counted) lt) ∙ kept.shown j lt;
      fits = kept.fits;
      apart = kept.apart;
    } in
    (v, keeps, tt, subst (Holds g (set s.words 8 n)) (sym (set_again s.views id v at)) ruled, (refl, fit.met, legal))
  where
    same_word : (words : List ℕ) (j : ℕ) → j < length words → slice_index (set words 8 (slice_index words 8)) j ≡ slice_index words j
    same_word words j lt = ⊎_elim
        (λ is. subst (λ k. slice_index (set words 8 (slice_index words 8)) k ≡ slice_index words k) (sym is)
        (get_or-set_same words 8 (slice_index words 8) 0 (omega arith)))
        (λ not. get_or-set_other words 8 j (slice_index words 8) 0 not)
        (cases_eq j 8)

-- so does a load at the table, with its own settings
pub learns_at : (key g : Settings) (slots id : ℕ) (me : Sitter) → key ≡ g → me.1 ≡ []
    → Allows (Ruled key) slots id me 8 (λ n. n) (λ n now. SittersMeet g me now)
learns_at key g slots id me same bare =
    let P : List (ℕ × Unit {0}) → Type 0 = λ l. Allows (Ruled key) slots id (me.0, l) 8 (λ n. n) (λ n now. SittersMeet key (me.0, l) now) in
    subst (λ x. Allows (Ruled key) slots id me 8 (λ n. n) (λ n now. SittersMeet x me now)) same
    (subst P (sym bare) (learns key slots id me.0))
