-- A wheel that was just made.

use Rattle.std.proofs.Common.{◌≡◌, ℕ, ◌<◌, ◌≤◌, ◌^◌, Option, Some, None, List, replicate, length, sym, subst, ◌∙◌, ap, inl, inr, arith}
use Rattle.std.proofs.{Math.ListN.get_or-eq_default, lemmas.Bool.cases_lt, lemmas.List.{length-replicate, get_or-replicate}, lemmas.List.Folds.sum_by-replicate}
use Rattle.ert_wheel.proofs.Writes.{Sees, unordered}
use Rattle.ert_wheel.specs.{Rings.{Rings, Place, AreChains}, Rows.key_in, Wheels.{stand_on, place_of, places}, declared.row.Key.Key, declared.row.TheConstants.BUCKETS}

-- none is among none, and so no slot has a place
no_key_in : (n j : ℕ) → key_in (replicate n None) j ≡ None
no_key_in n j =
    elim (cases_lt j n) [
      | inl low ↦ get_or-replicate n j None None low
      | inr high ↦
          let short : length (replicate {A = Option Key} n None) ≤ j = omega (arith, length-replicate {A = Option Key} n None) in
          get_or-eq_default (replicate n None) None short
    ]

no_place : (spot : Key → Place) (n j : ℕ) → places spot (replicate n None) j ≡ None
no_place spot n j = ap (place_of spot) (no_key_in n j)

pub opened : (slots : ℕ) (stored : List Key) (chains : Rings) → chains.slots ≡ slots → chains.homes ≡ BUCKETS → AreChains chains (λ _. None)
    → slots < 2 ^ 32 → Sees 0 0 (unordered 0) 0 stored (replicate slots None) chains
opened slots stored chains low homes are few =
    let none : length (replicate {A = Option Key} slots None) ≡ slots = length-replicate {A = Option Key} slots None in
    record {
      are_stored = λ j key has. (let no : None ≡ Some key = sym (no_key_in slots j) ∙ has in cc);
      above = λ j key has. omega arith;
      wheel = record {
        slots = none ∙ sym low;
        few = omega (arith, none);
        homes = homes;
        time = omega arith;
        counts = sym (sum_by-replicate _ slots None ∙ omega arith);
        low = λ j key has. (let no : None ≡ Some key = sym (no_key_in slots j) ∙ has in cc);
        are = record {
          level = λ _. 0;
          time = λ _. 0;
          rank = λ _. 0;
          levelled = record {
            fit = λ j key has. (let no : None ≡ Some key = sym (no_key_in slots j) ∙ has in absurd cc);
            early = λ j key has. (let no : None ≡ Some key = sym (no_key_in slots j) ∙ has in absurd cc);
            once = λ i j x y has. (let no : None ≡ Some x = sym (no_key_in slots i) ∙ has in absurd cc);
            bounded = λ j key has. (let no : None ≡ Some key = sym (no_key_in slots j) ∙ has in absurd cc);
            exact = λ j key has. (let no : None ≡ Some key = sym (no_key_in slots j) ∙ has in absurd cc);
          };
          are = subst (λ (p : ℕ → Option Place). AreChains chains p) (λ i j. sym (no_place (stand_on 0 (λ _. 0) (λ _. 0) (λ _. 0)) slots j) i) are;
          in_order = λ is all i j x y has. (let no : None ≡ Some x = sym (no_key_in slots i) ∙ has in absurd cc);
          rises = λ is first has. (let no : None ≡ Some first = sym (no_key_in slots _) ∙ has in absurd cc);
        };
      };
    }
