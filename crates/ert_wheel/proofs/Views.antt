-- A wheel's keys as they are held, and its chains after a key was written.

use Rattle.std.proofs.Common.{◌≡◌, ◌≢◌, ◌⊎◌, ℕ, ◌+◌, ◌<◌, ◌≤◌, cond, List, ◌++◌, Option, Some, None, length, get_or, set, slice_get, count_by, true, sym, subst, ◌∙◌, ap, inl, inr, refl, arith, get_or-set_same, get_or-set_other}
use Rattle.std.proofs.{lemmas.Bool.{cases_eq, cases_lt, eq-eqb, ne_eqb}, lemmas.List.{get_or_append_left, length-append, length-set}, lemmas.Option.{get_or_from_slice_get, slice_get_within, slice_get-get_or}, lemmas.List.FromFn.fill_by_all}
use Rattle.std.proofs.{lemmas.List.FromFn.{get_or-map-range_with_len, length-map-range_with_len}, lemmas.List.Sums.sum_by-set, Math.ListN.get_or-eq_default}
use Rattle.std.specs.Option.{is_some}
use Rattle.ert_wheel.proofs.Parts.{placed_apart, with_place_here, with_place_there}
use Rattle.ert_wheel.specs.{Links.next_at, Rings.{Rings, Place, AreChains, with_place}, Rows.key_in, Wheels.{no_key, held_key, held_keys, place_of, places}, declared.links.Link.Link, declared.row.Key.Key}

-- what a slot is seen as
pub held_at : (chains : Rings) (stored : List Key) (slot : ℕ) → slot < chains.slots
    → key_in (held_keys chains stored) slot ≡ held_key chains.links stored slot
held_at chains stored slot low =
    get_or-map-range_with_len (held_key chains.links stored) 0 chains.slots slot slot None low (omega arith)

pub held_len : (chains : Rings) (stored : List Key) → length (held_keys chains stored) ≡ chains.slots
held_len chains stored = length-map-range_with_len (held_key chains.links stored) 0 chains.slots

-- alone it has no key, and else the stored one
pub key_alone : (links : List Link) (stored : List Key) (slot : ℕ) → next_at links slot ≡ slot
    → held_key links stored slot ≡ None
key_alone links stored slot e = ap (λ b. cond b None (slice_get stored slot)) (eq-eqb (next_at links slot) slot e)

key_kept : (links : List Link) (stored : List Key) (slot : ℕ) → next_at links slot ≢ slot → held_key links stored slot ≡ slice_get stored slot
key_kept links stored slot ne = ap (λ b. cond b None (slice_get stored slot)) (ne_eqb (next_at links slot) slot ne)

pub key_apart : (links : List Link) (stored : List Key) (slot : ℕ) → slot < length stored → next_at links slot ≢ slot
    → held_key links stored slot ≡ Some (get_or stored slot no_key)
key_apart links stored slot low ne = key_kept links stored slot ne ∙ slice_get-get_or stored slot no_key low

-- each key that is held is one that is stored
pub held_in : (chains : Rings) (stored : List Key) (slot : ℕ) (d seen : Key)
    → key_in (held_keys chains stored) slot ≡ Some seen → (slot < length stored) × (seen ≡ get_or stored slot d)
held_in chains stored slot d seen h =
    elim (cases_lt slot chains.slots) [
      | inl low ↦
          let at : held_key chains.links stored slot ≡ Some seen = sym (held_at chains stored slot low) ∙ h in
          elim (cases_eq (next_at chains.links slot) slot) [
            | inl e ↦ let none : None ≡ Some seen = sym (key_alone chains.links stored slot e) ∙ at in cc
            | inr ne ↦
                let some : slice_get stored slot ≡ Some seen = sym (key_kept chains.links stored slot ne) ∙ at in
                (slice_get_within stored slot seen some, sym (get_or_from_slice_get stored slot seen d some))
          ]
      | inr high ↦
          let long : length (held_keys chains stored) ≤ slot = omega (arith, held_len chains stored) in
          let e : None ≡ Some seen = sym (get_or-eq_default (held_keys chains stored) None long) ∙ h in
          cc
    ]

pub key_stored : (chains : Rings) (stored : List Key) (slot : ℕ) (seen : Key) → key_in (held_keys chains stored) slot ≡ Some seen → slot < length stored
key_stored chains stored slot seen h = (held_in chains stored slot seen seen h).0

-- each key that is seen is stored
abbrev pub AreStored : List Key → List (Option Key) → Type 0
AreStored stored seen = (slot : ℕ) (key : Key) → key_in seen slot ≡ Some key → slice_get stored slot ≡ Some key

-- and a slot is alone just where it has none: so they are those that are held
pub held_is : (chains : Rings) (spot : Key → Place) (stored : List Key) (seen : List (Option Key))
    → length seen ≡ chains.slots → AreStored stored seen → AreChains chains (places spot seen)
    → held_keys chains stored ≡ seen
held_is chains spot stored seen slots are_stored are =
    sym (fill_by_all (held_key chains.links stored) seen chains.slots None slots (λ slot low. at slot low (key_in seen slot) refl))
  where
    at : (slot : ℕ) → slot < chains.slots → (o : Option Key) → key_in seen slot ≡ o
        → key_in seen slot ≡ held_key chains.links stored slot
    at slot low None none =
        none ∙ sym (key_alone chains.links stored slot (are.alone slot low (ap (place_of spot) none)).forth)
    at slot low (Some key) has =
        has ∙ sym (key_kept chains.links stored slot
        (placed_apart chains (places spot seen) slot _ are low (ap (place_of spot) has)) ∙ are_stored slot key has)

-- who has a key after one was written
pub key_set : (keys : List (Option Key)) (slot : ℕ) (new : Option Key) (j : ℕ) (key : Key) → slot < length keys
    → key_in (set keys slot new) j ≡ Some key
    → ((j ≡ slot) × (new ≡ Some key)) ⊎ ((j ≢ slot) × (key_in keys j ≡ Some key))
key_set keys slot new j key low has =
    elim (cases_eq j slot) [
      | inl e ↦ inl (e, sym (get_or-set_same keys slot new None low) ∙ ap (key_in (set keys slot new)) (sym e) ∙ has)
      | inr ne ↦ inr (ne, sym (get_or-set_other keys slot j new None ne) ∙ has)
    ]

-- what is held is stored, also after a key was written, after one was given up, and where more are stored
pub stored_held : (chains : Rings) (stored : List Key) → AreStored stored (held_keys chains stored)
stored_held chains stored = λ j k has.
    let h = held_in chains stored j k k has in
    slice_get-get_or stored j k h.0 ∙ ap (λ (x : Key). Some x) (sym h.1)

pub stored_set : (stored : List Key) (seen : List (Option Key)) (slot : ℕ) (key : Key) → AreStored stored seen
    → slot < length stored → slot < length seen → AreStored (set stored slot key) (set seen slot (Some key))
stored_set stored seen slot key are written low = λ j k has. elim (key_set seen slot (Some key) j k low has) [
  | inl (e, is) ↦
      let same : key ≡ k = cc in
      ap (slice_get (set stored slot key)) e
      ∙ (slice_get-get_or (set stored slot key) slot no_key (omega (arith, length-set stored slot key))
      ∙ ap (λ (x : Key). Some x) (get_or-set_same stored slot key no_key written ∙ same))
  | inr (ne, was) ↦
      let old : slice_get stored j ≡ Some k = are j k was in
      let within : j < length stored = slice_get_within stored j k old in
      slice_get-get_or (set stored slot key) j no_key (omega (arith, length-set stored slot key))
      ∙ ap (λ (x : Key). Some x) (get_or-set_other stored slot j key no_key ne ∙ get_or_from_slice_get stored j k no_key old)
]

pub stored_less : (stored : List Key) (seen : List (Option Key)) (slot : ℕ) → AreStored stored seen → slot < length seen
    → AreStored stored (set seen slot None)
stored_less stored seen slot are low = λ j k has. elim (key_set seen slot None j k low has)
    [ inl (e, is) ↦ let none : None ≡ Some k = is in cc | inr (ne, was) ↦ are j k was ]

pub stored_more : (stored more : List Key) (seen : List (Option Key)) → AreStored stored seen → AreStored (stored ++ more) seen
stored_more stored more seen are = λ j k has.
    let old : slice_get stored j ≡ Some k = are j k has in
    let within : j < length stored = slice_get_within stored j k old in
    slice_get-get_or (stored ++ more) j no_key (omega (arith, length-append stored more))
    ∙ ap (λ (x : Key). Some x) (get_or_append_left stored more no_key j within ∙ get_or_from_slice_get stored j k no_key old)

-- the key of a place
pub place_is : (spot : Key → Place) (key : Option Key) (p : Place) → place_of spot key ≡ Some p
    → (k : Key) × (key ≡ Some k) × (spot k ≡ p)
place_is spot None p h = cc
place_is spot (Some k) p h = (k, refl, cc)

-- the places after a key was written
places_set : (spot : Key → Place) (keys : List (Option Key)) (slot : ℕ) (key : Option Key) → slot < length keys
    → (j : ℕ) → with_place (places spot keys) slot (place_of spot key) j ≡ places spot (set keys slot key) j
places_set spot keys slot key low j =
    elim (cases_eq j slot) [
      | inl e ↦ ap (with_place (places spot keys) slot (place_of spot key)) e
          ∙ with_place_here (places spot keys) slot (place_of spot key)
          ∙ ap (place_of spot) (sym (get_or-set_same keys slot key None low) ∙ ap (key_in (set keys slot key)) (sym e))
      | inr ne ↦ with_place_there (places spot keys) slot (place_of spot key) j ne
          ∙ ap (place_of spot) (sym (get_or-set_other keys slot j key None ne))
    ]

-- the chains after that
pub chains_set : (chains : Rings) (spot : Key → Place) (keys : List (Option Key)) (slot : ℕ) (key : Option Key)
    → slot < length keys → AreChains chains (with_place (places spot keys) slot (place_of spot key))
    → AreChains chains (places spot (set keys slot key))
chains_set chains spot keys slot key low are =
    subst (λ (p : ℕ → Option Place). AreChains chains p) (λ i j. places_set spot keys slot key low j i) are

-- how many there are after that
counts_set : (keys : List (Option Key)) (slot : ℕ) (key : Option Key) → slot < length keys
    → count_by is_some (set keys slot key) + cond (is_some (key_in keys slot)) 1 0
    ≡ count_by is_some keys + cond (is_some key) 1 0
counts_set keys slot key low = sum_by-set (λ o. cond (is_some o) 1 0) keys slot key None low

-- one more
pub counts_more : (keys : List (Option Key)) (slot : ℕ) (key : Key) → slot < length keys → key_in keys slot ≡ None
    → count_by is_some (set keys slot (Some key)) ≡ count_by is_some keys + 1
counts_more keys slot key low vacant =
    let e : ◌≡◌ {A = ℕ} (cond (is_some (key_in keys slot)) 1 0) 0 = ap (λ (o : Option Key). cond (is_some o) 1 0) vacant in
    omega (arith, counts_set keys slot (Some key) low)

-- one fewer
pub counts_less : (keys : List (Option Key)) (slot : ℕ) (key : Key) → slot < length keys
    → key_in keys slot ≡ Some key → count_by is_some (set keys slot None) + 1 ≡ count_by is_some keys
counts_less keys slot key low held =
    let e : ◌≡◌ {A = ℕ} (cond (is_some (key_in keys slot)) 1 0) 1 = ap (λ (o : Option Key). cond (is_some o) 1 0) held in
    omega (arith, counts_set keys slot None low)

-- as many
pub counts_same : (keys : List (Option Key)) (slot : ℕ) (key : Key) → slot < length keys → is_some (key_in keys slot) ≡ true
    → count_by is_some (set keys slot (Some key)) ≡ count_by is_some keys
counts_same keys slot key low held =
    let e : ◌≡◌ {A = ℕ} (cond (is_some (key_in keys slot)) 1 0) 1 = ap (λ b. cond b 1 0) held in
    omega (arith, counts_set keys slot (Some key) low)
