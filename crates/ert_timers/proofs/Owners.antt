-- The chains of the processes: a row is found, and slots without a row leave.

use Rattle.std.proofs.Common.{◌≡◌, ◌≢◌, ℕ, zero, suc, ◌+◌, ◌^◌, ◌<◌, ◌≤◌, ◌↔◌, Bool, cond, nat_eq, List, length, Option, Some, None, option_map, refl, sym, ap, subst, ◌∙◌, arith, inl, inr}
use Rattle.std.proofs.lemmas.Bool.{cases_eq, eq-eqb, ne_eqb}
use Rattle.std.specs.{Bool.IsTrue, Option.IsSome}
use Rattle.ert_timers.specs.Owners.{MayJoin, Joins, Thinned, IsIn, FindsRow}
use Rattle.ert_wheel.proofs.{Looking.told_alone, Parts.{IsSlot, slot_is, with_place_here, with_place_there, kept_place}}
use Rattle.ert_wheel.specs.{Chained.Shape, Links.next_at, Rings.{Rings, Place, AreChains, StandsIn, Finds, MayTake, GivesUpPlace, MayPut, Puts, shape, with_place}, Rows.{key_in, row_at, row_told, told_at}, declared.row.Key.Key}
use Rattle.ert_wheel.specs.{declared.row.HeldRow.HeldRow, declared.row.Row.Row}

-- how many slots aren't alone
unfoldable pub linked_below : (ℕ → ℕ) → ℕ → ℕ
linked_below next zero = 0
linked_below next (suc n) = cond (nat_eq (next n) n) 0 1 + linked_below next n

abbrev pub linked : Rings → ℕ
linked r = linked_below (next_at r.links) r.slots

linked_none : (next : ℕ → ℕ) → linked_below next zero ≡ 0
unfolding linked_below
linked_none next = refl

linked_same : (next : ℕ → ℕ) (n : ℕ) → next n ≡ n → linked_below next (suc n) ≡ 0 + linked_below next n
unfolding linked_below
linked_same next n e = ap (λ b. cond b 0 1 + linked_below next n) (eq-eqb (next n) n e)

linked_more : (next : ℕ → ℕ) (n : ℕ) → next n ≢ n → linked_below next (suc n) ≡ 1 + linked_below next n
unfolding linked_below
linked_more next n ne = ap (λ b. cond b 0 1 + linked_below next n) (ne_eqb (next n) n ne)

-- where each slot that was alone is, no more are linked
step : (f g : ℕ → ℕ) (n fewer : ℕ) → (g n ≡ n → f n ≡ n) → linked_below f n + fewer ≤ linked_below g n
    → linked_below f (suc n) + fewer ≤ linked_below g (suc n)
step f g n fewer stays below =
    elim (cases_eq (g n) n) [
      | inl e ↦ omega (arith, linked_same g n e, linked_same f n (stays e))
      | inr ne ↦ elim (cases_eq (f n) n) [
        | inl e ↦ omega (arith, linked_more g n ne, linked_same f n e)
        | inr nf ↦ omega (arith, linked_more g n ne, linked_more f n nf)
      ]
    ]

no_more : (f g : ℕ → ℕ) (n : ℕ) → ((j : ℕ) → j < n → g j ≡ j → f j ≡ j) → linked_below f n + 0 ≤ linked_below g n
no_more f g zero stays = omega (arith, linked_none f, linked_none g)
no_more f g (suc n) stays =
    step f g n 0 (stays n (omega arith)) (no_more f g n (λ j low. stays j (omega arith)))

-- and where one more is, one fewer is linked
one_less : (f g : ℕ → ℕ) (n k : ℕ) → ((j : ℕ) → j < n → g j ≡ j → f j ≡ j) → k < n → f k ≡ k → g k ≢ k
    → linked_below f n + 1 ≤ linked_below g n
one_less f g zero k stays low here was = absurd (omega arith)
one_less f g (suc n) k stays low here was =
    elim (cases_eq k n) [
      | inl e ↦
          let alone : f n ≡ n = subst (λ m. f m ≡ m) e here in
          let not : g n ≢ n = subst (λ m. g m ≢ m) e was in
          omega (arith, linked_same f n alone, linked_more g n not, no_more f g n (λ j low. stays j (omega arith)))
      | inr ne ↦
          step f g n 1 (stays n (omega arith)) (one_less f g n k (λ j low. stays j (omega arith)) (omega arith) here was)
    ]

-- a slot with a place isn't alone
pub not_alone : (r : Rings) (places : ℕ → Option Place) (k : ℕ) (place : Place) → AreChains r places → k < r.slots
    → places k ≡ Some place → next_at r.links k ≢ k
not_alone r places k place are low has e =
    let s : IsSlot r.slots r.homes places k place = slot_is r.slots r.homes places k place low has in
    let a : Shape = shape r.slots r.homes places in
    absurd (omega (arith, are.chained.down k s.on, ap a.low e, s.bound, s.top))

-- a slot that leaves is linked no more
pub linked_falls : (old new : Rings) (places : ℕ → Option Place) (k : ℕ) (place : Place) → AreChains old places
    → AreChains new (with_place places k None) → new.slots ≡ old.slots → k < old.slots → places k ≡ Some place
    → linked new < linked old
linked_falls old new places k place are left same low has =
    let here : next_at new.links k ≡ k =
    (left.alone k (omega (arith, same)) (with_place_here places k None)).forth in
    let stays : (j : ℕ) → j < old.slots → next_at old.links j ≡ j → next_at new.links j ≡ j =
    λ j down alone. at j (places j) refl down alone in
    let less = one_less (next_at new.links) (next_at old.links) old.slots k stays low here (not_alone old places k place are low has) in
    omega (arith, less, ap (linked_below (next_at new.links)) same)
  where
    at : (j : ℕ) (o : Option Place) → places j ≡ o → j < old.slots → next_at old.links j ≡ j → next_at new.links j ≡ j
    at j None none down alone =
        elim (cases_eq j k) [
          | inl e ↦
              (left.alone j (omega (arith, same)) (ap (with_place places k None) e ∙ with_place_here places k None)).forth
          | inr ne ↦ (left.alone j (omega (arith, same)) (with_place_there places k None j ne ∙ none)).forth
        ]
    at j (Some p) some down alone = absurd (not_alone old places j p are down some alone)

-- a slot stays in a chain
pub joins_stay : (owners : Rings) (places : ℕ → Option Place) (slot process bound : ℕ) → AreChains owners places
    → ((k : ℕ) (place : Place) → places k ≡ Some place → place.order < bound) → StandsIn places process slot
    → Joins owners places slot process bound
joins_stay owners places slot process bound are orders s =
    let here : Option Place = Some s.place in
    let same : (j : ℕ) → with_place places slot here j ≡ places j =
    λ j. elim (cases_eq j slot) [
      | inl e ↦ ap (with_place places slot here) e ∙ with_place_here places slot here ∙ sym s.has ∙ sym (ap places e)
      | inr ne ↦ with_place_there places slot here j ne
    ] in
    record {
      place = s.place;
      at_home = s.at_home;
      low = omega (arith, orders slot s.place s.has);
      are = subst (λ (p : ℕ → Option Place). AreChains owners p) (λ i j. sym (same j) i) are;
    }

-- or it leaves one and comes into another
pub joins_anew : (old taken new : Rings) (places : ℕ → Option Place) (slot process bound : ℕ) (stays : Bool)
    → AreChains old places → MayJoin places slot process bound stays → GivesUpPlace old taken slot → Puts taken new slot process
    → Joins new places slot process bound
joins_anew old taken new places slot process bound stays are may takes puts =
    let here : Place = record { home = process; order = bound } in
    let left : ℕ → Option Place = with_place places slot None in
    let same : (j : ℕ) → with_place left slot (Some here) j ≡ with_place places slot (Some here) j =
    λ j. elim (cases_eq j slot) [
      | inl e ↦ ap (with_place left slot (Some here)) e ∙ with_place_here left slot (Some here)
          ∙ sym (with_place_here places slot (Some here)) ∙ sym (ap (with_place places slot (Some here)) e)
      | inr ne ↦ with_place_there left slot (Some here) j ne ∙ with_place_there places slot None j ne
          ∙ sym (with_place_there places slot (Some here) j ne)
    ] in
    let all : AreChains new (with_place left slot (Some here)) =
    puts left bound (takes places are) (with_place_here places slot None) may.fits
    (λ j place is. may.orders j place (kept_place places slot j place is)) in
    record {
      place = here;
      at_home = refl;
      low = omega arith;
      are = subst (λ (p : ℕ → Option Place). AreChains new p) (λ i j. same j i) all;
    }

-- a slot in no chain gives no place up
pub takes_none : (owners : Rings) (slot : ℕ) (owned : Bool)
    → ((places : ℕ → Option Place) → AreChains owners places → IsTrue owned ↔ IsSome (places slot)) → (IsTrue owned → ⊥)
    → GivesUpPlace owners owners slot
takes_none owners slot owned tells not = λ places are.
    let same : (j : ℕ) → with_place places slot None j ≡ places j =
    λ j. elim (cases_eq j slot) [
      | inl e ↦ ap (with_place places slot None) e ∙ with_place_here places slot None
          ∙ sym (at (places slot) (λ some. not ((tells places are).1 some))) ∙ sym (ap places e)
      | inr ne ↦ with_place_there places slot None j ne
    ] in
    subst (λ (p : ℕ → Option Place). AreChains owners p) (λ i j. sym (same j) i) are
  where
    at : (o : Option Place) → (IsSome o → ⊥) → o ≡ None
    at None out = refl
    at (Some place) out = absurd (out refl)

-- a slot that was taken out may come in
pub may_come : (old taken : Rings) (slot process : ℕ) → MayTake old slot → GivesUpPlace old taken slot → taken.slots ≡ old.slots
    → taken.homes ≡ old.homes → process < old.homes → MayPut taken slot process
may_come old taken slot process may takes slots homes in_range = record {
  places = with_place may.places slot None;
  are = takes may.places may.are;
  low = omega (arith, slots, may.low);
  in_range = omega (arith, homes, in_range);
  out = with_place_here may.places slot None;
}

-- none has left at first
pub thinned_none : (owners : Rings) (keys : List (Option Key)) (places : ℕ → Option Place) → AreChains owners places
    → Thinned owners keys places places
thinned_none owners keys places are = record { are = are; each = λ k. inl refl }

-- one more leaves
pub thinned_more : (owners new : Rings) (keys : List (Option Key)) (places left : ℕ → Option Place) (k : ℕ)
    → Thinned owners keys places left → key_in keys k ≡ None → GivesUpPlace owners new k
    → Thinned new keys places (with_place left k None)
thinned_more owners new keys places left k t none takes = record {
  are = takes left t.are;
  each = λ j. elim (cases_eq j k) [
    | inl e ↦ inr (ap (with_place left k None) e ∙ with_place_here left k None, ap (key_in keys) e ∙ none)
    | inr ne ↦ elim (t.each j) [
      | inl same ↦ inl (with_place_there left k None j ne ∙ same)
      | inr gone ↦ inr (with_place_there left k None j ne ∙ gone.0, gone.1)
    ]
  ];
}

-- a row is found
in_chain : (keys : List (Option Key)) (left : ℕ → Option Place) (process k : ℕ) (o : Option Key) (found : Option Row) (row : Row)
    → found ≡ option_map (row_at k) o → found ≡ Some row → key_in keys k ≡ o → StandsIn left process k
    → IsIn keys left process (Some row)
in_chain keys left process k None found row told is has stands = absurd cc
in_chain keys left process k (Some key) found row told is has stands =
    let e : Some (row_at k key) ≡ Some row = sym told ∙ is in
    let same : row_at k key ≡ row = cc in
    subst (λ (r : Row). IsIn keys left process (Some r)) same (has, stands)

-- a row that is told is that of its key
pub told_row : (keys : List (Option Key)) (k : ℕ) (o : Option Key) (found : Option HeldRow) → key_in keys k ≡ o → found ≡ option_map (told_at k) o
    → option_map (row_told keys) found ≡ option_map (row_at k) o
told_row keys k None found has told = ap (option_map (row_told keys)) told
told_row keys k (Some key) found has told = ap (option_map (row_told keys)) told ∙ ap (λ (row : Row). Some row) (told_alone keys k key has)

pub finds_some : (owners : Rings) (keys : List (Option Key)) (places left : ℕ → Option Place) (process bound k : ℕ)
    (found : Option Row) (row : Row) → Thinned owners keys places left → Finds owners left process bound (Some k)
    → found ≡ option_map (row_at k) (key_in keys k) → found ≡ Some row → FindsRow keys places process owners (Some row)
finds_some owners keys places left process bound k found row t finds told is = record {
  left = left;
  thinned = t;
  is = in_chain keys left process k (key_in keys k) found row told is refl finds.stands.1;
}

-- none is left
pub finds_none : (owners : Rings) (keys : List (Option Key)) (places left : ℕ → Option Place) (process : ℕ)
    → length keys ≡ owners.slots → Thinned owners keys places left → Finds owners left process (2 ^ 64) None
    → FindsRow keys places process owners None
finds_none owners keys places left process wide t finds = record {
  left = left;
  thinned = t;
  is = λ k place low has at.
      absurd (omega (arith, finds.greatest k place (omega (arith, wide)) has at (t.are.orders k place has)));
}

-- a row that isn't told isn't held
none_in : (k : ℕ) (o : Option Key) (found : Option Row) → found ≡ option_map (row_at k) o → found ≡ None → o ≡ None
none_in k None found told is = refl
none_in k (Some key) found told is = absurd cc

pub no_row : (keys : List (Option Key)) (k : ℕ) (found : Option Row) → found ≡ option_map (row_at k) (key_in keys k) → found ≡ None
    → key_in keys k ≡ None
no_row keys k found told is = none_in k (key_in keys k) found told is
