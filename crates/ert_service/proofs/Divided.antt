-- How a pass is divided, one actor of a sort after the other.

use Rattle.std.proofs.Common.{◌≡◌, ℕ, suc, ◌+◌, ◌<◌, ◌≤◌, true, false, List, [], ◌∷◌, ◌++◌, length, slice_index_or, refl, sym, subst, arith}
use Rattle.std.specs.Prelude.{nat_eq}
use Rattle.std.proofs.lemmas.Bool.{ne_eqb}
use Rattle.ert_defs.specs.declared.{entry.Actor.Actor, entry.Actor.TheVariants.Caller, entry.Entry.Entry, settings.Settings.Settings}
use Rattle.ert_locks.specs.Kinds.{Kind, IsKind}
use Rattle.ert_service.specs.Dividing.{AreSeated, AreFirst, Divides}
use Rattle.ert_world.proofs.Opened.{new_more}
use Rattle.ert_table.proofs.Holders.{held_but_other}
use Rattle.ert_table.specs.Held.{is_held, actors_but}

-- the next one: its number, that it stands, and that its actor is held
pub record Next {X : Type 0} (k : Kind X) (g : Settings) (h : List Entry) (now : List Actor) (done : ℕ) (x : X) : Type 0 where
  pub low : done < k.count g
  pub named : k.number x ≡ done
  pub stand : k.stands g h x
  pub held : is_held now (k.actor (k.number x)) ≡ true

pub next_of : {X : Type 0} {k : Kind X} {g : Settings} {h : List Entry} {first now : List Actor} {done : ℕ} {x : X} {items left : List X} → items ≡ x ∷ left
    → Divides k g h first now done items → Next k g h now done x
next_of {k = k} {g = g} {h = h} {first = first} {now = now} {done = done} {x = x} {left = left} is divides =
    let d : Divides k g h first now done (x ∷ left) = subst (Divides k g h first now done) is divides in
    let sum : done + suc (length left) ≡ k.count g = d.sum in
    let low : done < k.count g = omega (arith, sum) in
    let one = d.each 0 x (omega arith) in
    let named : k.number x ≡ done = plain (k.number x) done one.0 in
    record {
      low = low;
      named = named;
      stand = one.1;
      held = subst (λ n. is_held now (k.actor n) ≡ true) (sym named) (d.held done (omega arith) low);
    }
  where
    plain : (a b : ℕ) → a ≡ b + 0 → a ≡ b
    plain a b is = omega (arith, is)

-- none has been taken out, and one more
pub divides_none : {X : Type 0} {k : Kind X} {g : Settings} {h : List Entry} {xs items : List X} {actors : List Actor} {n : ℕ} → AreFirst k g (k.count g) h xs
    → items ≡ xs → n ≡ 0 → ((i : ℕ) → i < k.count g → is_held actors (k.actor i) ≡ true) → Divides k g h actors actors n items
divides_none {k = k} {g = g} {h = h} {xs = xs} {items = items} {actors = actors} are whole none held =
    subst (λ i. Divides k g h actors actors i items) (sym none) (subst (Divides k g h actors actors 0) (sym whole) (record {
      sum = first (length xs) (k.count g) are.counted;
      each = λ j d low.
          let below : j < k.count g = subst (λ n. j < n) are.counted low in
          (sym (first j (k.number (slice_index_or xs j d)) (sym (are.named j d below))), are.stand j d below refl);
      held = λ i _ low. held i low;
      kept = record { others = λ a _ was. was };
    }))
  where
    first : (a b : ℕ) → a ≡ b → 0 + a ≡ b
    first a b is = omega (arith, is)

pub divides_next : {X : Type 0} {k : Kind X} {g : Settings} {h : List Entry} {first now new : List Actor} {done more : ℕ} {x : X} {items left : List X} → IsKind k
    → more ≡ done + 1 → items ≡ x ∷ left → new ≡ actors_but now (k.actor (k.number x)) → Divides k g h first now done items → Divides k g h first new more left
divides_next {k = k} {g = g} {h = h} {first = first} {now = now} {done = done} {more = more} {x = x} {left = left} kind one_more is rest divides =
    let d : Divides k g h first now done (x ∷ left) = subst (Divides k g h first now done) is divides in
    let one = next_of is divides in
    let sum : done + suc (length left) ≡ k.count g = d.sum in
    record {
      sum = omega (arith, sum, one_more);
      each = λ j e low.
          let later = d.each (suc j) e (omega (arith, low)) in
          (shift (k.number (slice_index_or left j e)) j done more one_more later.0, later.1);
      held = λ i low below.
          let other : nat_eq i (k.number x) ≡ false = ne_eqb i (k.number x) (λ (at : i ≡ k.number x). absurd (clash i done more (k.number x) low one_more one.named at)) in
          let ranged : k.number x < k.count g = subst (λ n. n < k.count g) (sym one.named) one.low in
          subst (λ l. is_held l (k.actor i) ≡ true) (sym rest)
          (held_but_other now (k.actor (k.number x)) (k.actor i) (kind.apart g i (k.number x) below ranged other) (d.held i (less i done more low one_more) below));
      kept = record {
        others = λ a differs was. subst (λ l. is_held l a ≡ true) (sym rest)
            (held_but_other now (k.actor (k.number x)) a (differs (k.number x)) (d.kept.others a differs was));
      };
    }
  where
    shift : (n j done more : ℕ) → more ≡ done + 1 → n ≡ done + suc j → n ≡ more + j
    shift n j done more one_more is = omega (arith, one_more, is)

    clash : (i done more n : ℕ) → more ≤ i → more ≡ done + 1 → n ≡ done → i ≡ n → ⊥
    clash i done more n low one_more named at = omega (arith, low, one_more, named, at)

    less : (i done more : ℕ) → more ≤ i → more ≡ done + 1 → done ≤ i
    less i done more low one_more = omega (arith, low, one_more)

-- one seat more
pub seats_more : {S : Type 0} {number : S → ℕ} {front : S → List Entry} {n : ℕ} {h : List Entry} {seats : List S} (s : S) → AreSeated number front n h seats
    → number s ≡ n → front s ≡ h → AreSeated number front (n + 1) h (seats ++ s ∷ [])
seats_more {number = number} {front = front} {n = n} {h = h} {seats = seats} s are named shows =
    let more = new_more (λ i s. (number s ≡ i) × (front s ≡ h)) n seats s (record { counted = are.counted; each = are.each }) (named, shows) in
    record { counted = more.counted; each = more.each }

-- callers with later numbers are held still
pub held_next : (now new : List Actor) (done count : ℕ) → new ≡ actors_but now (Caller done) → ((i : ℕ) → done ≤ i → i < count → is_held now (Caller i) ≡ true)
    → (i : ℕ) → done + 1 ≤ i → i < count → is_held new (Caller i) ≡ true
held_next now new done count rest held i low below =
    let other : nat_eq i done ≡ false = ne_eqb i done (λ (at : i ≡ done). absurd (omega (arith, low, at))) in
    subst (λ l. is_held l (Caller i) ≡ true) (sym rest) (held_but_other now (Caller done) (Caller i) other (held i (omega (arith, low)) below))
