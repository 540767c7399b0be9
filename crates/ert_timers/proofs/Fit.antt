-- What the fields of a part keep, as each of its small calls changes them.

use Rattle.std.proofs.Common.{◌≡◌, ◌≢◌, ℕ, ◌+◌, ◌<◌, ◌≤◌, Bool, true, false, not, ◌&&◌, ◌||◌, nat_eq, List, length, count_by, Option, Some, None, IfSome, IsNone, IsSome, refl, sym, ap, subst, ◌∙◌, arith, inl, inr, set, get_or-set_same, get_or-set_other, eqb-true, eq-eqb}
use Rattle.std.proofs.lemmas.{Bool.{and_parts, cases_eq, cases_lt, ne_eqb}, List.{length-set, set-get_or}}
use Rattle.std.specs.{Cmp.{nat_cmp_total, unsigned_tied}, Option.is_some, Ordering.nat_cmp}
use Rattle.std.specs.FinSet as sets
use Rattle.ert_timers.specs.{Changes.{LostRow, dropped}, Freeing.IsInUse, Parts.{AreFieldsFit, AreOwned, Part}, Slots.Slot, Free.FreeSet}
use Rattle.ert_timers.proofs.Rows.{key_left}
use Rattle.ert_wheel.specs.{Rings.{Rings, MayTake}, Rows.key_in, declared.row.Key.Key}
use Rattle.ert_wheel.proofs.{Looking.key_low, Parts.chains_written, Views.counts_less}

-- a slot without a row has none to drop
pub set_none : (keys : List (Option Key)) (k : ℕ) → key_in keys k ≡ None → set keys k None ≡ keys
set_none keys k vacant = subst (λ key. set keys k key ≡ keys) vacant (set-get_or keys k None)

-- the row of a slot goes, and the slot stays in its chain
unfoldable pub fit_dropped : (slots : List Slot) (keys : List (Option Key)) (free : FreeSet) (owners : Rings) (a x o k : ℕ) (key : Key)
    → AreFieldsFit slots keys free owners a x o → key_in keys k ≡ Some key
    → AreFieldsFit slots (set keys k None) free owners a x o
fit_dropped slots keys free owners a x o k key fit held =
    let low : k < length keys = key_low keys k key held in
    record {
      few = fit.few;
      wide = length-set keys k None ∙ fit.wide;
      all_slots = fit.all_slots;
      owned = fit.owned;
      few_homes = fit.few_homes;
      vacant = λ j is. at j (fit.vacant j is) low;
      below = fit.below;
      unwritten = fit.unwritten;
      few_arms = fit.few_arms;
      tally = omega (arith, fit.tally, counts_less keys k key low held);
      orders = λ j seen is. fit.orders j seen (key_left keys k j seen low is).1;
      dests = λ j seen is. fit.dests j seen (key_left keys k j seen low is).1;
      chained = record {
        places = fit.chained.places;
        are = fit.chained.are;
        held = λ j seen is. fit.chained.held j seen (key_left keys k j seen low is).1;
        lasts = fit.chained.lasts;
        orders = fit.chained.orders;
      };
    }
  where
    at : (j : ℕ) → key_in keys j ≡ None → k < length keys → key_in (set keys k None) j ≡ None
    at j vacant low =
        elim (cases_eq j k) [
          | inl same ↦ ap (key_in (set keys k None)) same ∙ get_or-set_same keys k None None low
          | inr other ↦ get_or-set_other keys k j None None other ∙ vacant
        ]

-- so the places are as they were
pub same_places : (slots : List Slot) (keys : List (Option Key)) (free : FreeSet) (owners : Rings) (a x o k : ℕ) (key : Key)
    (fit : AreFieldsFit slots keys free owners a x o) (held : key_in keys k ≡ Some key)
    → fit.chained.places ≡ (fit_dropped slots keys free owners a x o k key fit held).chained.places
unfolding fit_dropped
same_places slots keys free owners a x o k key fit held = refl

-- with other chains
pub fit_owned : (slots : List Slot) (keys : List (Option Key)) (free : FreeSet) (owners new : Rings) (a x o : ℕ)
    → AreFieldsFit slots keys free owners a x o → new.slots ≡ owners.slots → new.homes ≡ owners.homes → new.written ≡ owners.written
    → AreOwned slots keys new a
    → AreFieldsFit slots keys free new a x o
fit_owned slots keys free owners new a x o fit same homes written are = record {
  few = fit.few;
  wide = fit.wide;
  all_slots = fit.all_slots;
  owned = same ∙ fit.owned;
  few_homes = omega (arith, homes, fit.few_homes);
  vacant = fit.vacant;
  below = fit.below;
  unwritten = λ k high low. fit.unwritten k (omega (arith, written, high)) low;
  few_arms = fit.few_arms;
  tally = fit.tally;
  orders = fit.orders;
  dests = λ j key is. omega (arith, homes, fit.dests j key is);
  chained = are;
}

-- the row of a slot goes, where it has one
pub fit_removed : (slots : List Slot) (keys left : List (Option Key)) (free : FreeSet) (owners new : Rings) (a x o k : ℕ)
    → AreFieldsFit slots keys free owners a x o → left ≡ set keys k None → new ≡ owners → AreFieldsFit slots left free new a x o
fit_removed slots keys left free owners new a x o k fit is same =
    subst (λ ks. AreFieldsFit slots ks free new a x o) (sym is)
    (subst (λ r. AreFieldsFit slots (set keys k None) free r a x o) (sym same) (at (key_in keys k) refl))
  where
    at : (o' : Option Key) → key_in keys k ≡ o' → AreFieldsFit slots (set keys k None) free owners a x o
    at None none = subst (λ ks. AreFieldsFit slots ks free owners a x o) (sym (set_none keys k none)) fit
    at (Some key) held = fit_dropped slots keys free owners a x o k key fit held

-- the chains have each slot
pub may_leave : (slots : List Slot) (keys : List (Option Key)) (free : FreeSet) (owners : Rings) (a x o k : ℕ)
    → AreFieldsFit slots keys free owners a x o → k < length slots → MayTake owners k
may_leave slots keys free owners a x o k fit low =
    record { places = fit.chained.places; are = fit.chained.are; low = omega (arith, fit.owned) }

-- a slot with a row isn't held free, and less is counted once the row has gone
pub fit_lost : (p : Part) (owners : Rings) (free : FreeSet) (k : ℕ) (key : Key) → AreFieldsFit p.slots p.keys free owners p.arms p.expires p.orphans
    → free.held ≡ p.free → key_in p.keys k ≡ Some key → LostRow (dropped p k) k
fit_lost p owners free k key fit same held =
    let low : k < length p.keys = key_low p.keys k key held in
    record {
      away = ap (λ s. sets.contains s k) (sym same) ∙ at (sets.contains free.held k) refl;
      vacant = get_or-set_same p.keys k None None low;
      room = omega (arith, fit.tally, counts_less p.keys k key low held);
      few = fit.few_arms;
    }
  where
    at : (b : Bool) → sets.contains free.held k ≡ b → sets.contains free.held k ≡ false
    at true is =
        let none : Some key ≡ None = sym held ∙ fit.vacant k is in
        absurd cc
    at false is = is

pub some_key : (o : Option Key) → IsSome o → (key : Key) × (o ≡ Some key)
some_key None is = absurd cc
some_key (Some key) is = (key, refl)

pub some_held : (o : Option Key) → o ≢ None → IsSome o
some_held None not = absurd (not refl)
some_held (Some key) not = refl

pub none_key : (o : Option Key) → (IsSome o → ⊥) → o ≡ None
none_key None not = refl
none_key (Some key) not = absurd (not refl)

-- with other counts, which are few enough
pub fit_counted : (slots : List Slot) (keys : List (Option Key)) (free : FreeSet) (owners : Rings) (a x o y p : ℕ)
    → AreFieldsFit slots keys free owners a x o → (y + p) + count_by is_some keys ≤ a
    → AreFieldsFit slots keys free owners a y p
fit_counted slots keys free owners a x o y p fit few = record {
  few = fit.few;
  wide = fit.wide;
  all_slots = fit.all_slots;
  owned = fit.owned;
  few_homes = fit.few_homes;
  vacant = fit.vacant;
  below = fit.below;
  unwritten = fit.unwritten;
  few_arms = fit.few_arms;
  tally = few;
  orders = fit.orders;
  dests = fit.dests;
  chained = fit.chained;
}

-- with more free slots, which were free before or can be
pub fit_free : (slots : List Slot) (keys : List (Option Key)) (free new : FreeSet) (owners : Rings) (a x o : ℕ)
    → AreFieldsFit slots keys free owners a x o → new.slots ≡ free.slots
    → ((j : ℕ) → sets.contains new.held j ≡ true → (key_in keys j ≡ None) × (j < length slots))
    → ((j : ℕ) → sets.contains free.held j ≡ true → sets.contains new.held j ≡ true)
    → AreFieldsFit slots keys new owners a x o
fit_free slots keys free new owners a x o fit same can more = record {
  few = fit.few;
  wide = fit.wide;
  all_slots = same ∙ fit.all_slots;
  owned = fit.owned;
  few_homes = fit.few_homes;
  vacant = λ j is. (can j is).0;
  below = λ j is. (can j is).1;
  unwritten = λ j high low. more j (fit.unwritten j high low);
  few_arms = fit.few_arms;
  tally = fit.tally;
  orders = fit.orders;
  dests = fit.dests;
  chained = fit.chained;
}

-- a set with one more
put_or : (s : sets.FinSet nat_cmp) (k j : ℕ) → sets.contains (sets.insert s k) j ≡ true → (nat_eq j k || sets.contains s j) ≡ true
put_or s k j is = sym (sets.contains-insert nat_cmp_total s k j ∙ (λ i. unsigned_tied j k i || sets.contains s j)) ∙ is

pub put_keeps : (s : sets.FinSet nat_cmp) (k j : ℕ) → sets.contains s j ≡ true → sets.contains (sets.insert s k) j ≡ true
put_keeps s k j was =
    (sets.contains-insert nat_cmp_total s k j ∙ (λ i. unsigned_tied j k i || sets.contains s j)) ∙ (ap (λ b. nat_eq j k || b) was ∙ at (nat_eq j k))
  where
    at : (b : Bool) → (b || true) ≡ true
    at true = refl
    at false = refl

or_cases : (b c : Bool) (P : Type 0) → (b ≡ true → P) → (c ≡ true → P) → (b || c) ≡ true → P
or_cases true c P f h is = f refl
or_cases false c P f h is = h is

pub fit_put : (slots : List Slot) (keys : List (Option Key)) (free new : FreeSet) (owners : Rings) (a x o k : ℕ)
    → AreFieldsFit slots keys free owners a x o → new ≡ record free { held = sets.insert free.held k }
    → k < length slots → key_in keys k ≡ None
    → AreFieldsFit slots keys new owners a x o
fit_put slots keys free new owners a x o k fit is low vacant =
    fit_free slots keys free new owners a x o fit (ap (λ (f : FreeSet). f.slots) is) (λ j held.
    or_cases (nat_eq j k) (sets.contains free.held j) ((key_in keys j ≡ None) × (j < length slots))
    (λ same. (let e : k ≡ j = sym (eqb-true j k same) in (
      subst (λ n. key_in keys n ≡ None) e vacant,
      subst (λ n. n < length slots) e low,
    )))
    (λ was. (fit.vacant j was, fit.below j was))
    (put_or free.held k j (ap (λ (f : FreeSet). sets.contains f.held j) (sym is) ∙ held)))
    (λ j was. ap (λ (f : FreeSet). sets.contains f.held j) is ∙ put_keeps free.held k j was)

-- a set with one less
pub taken_and : (s : sets.FinSet nat_cmp) (k j : ℕ) → sets.contains (sets.remove s k) j ≡ (not (nat_eq j k) && sets.contains s j)
taken_and s k j = sets.contains-remove nat_cmp_total s k j ∙ (λ i. not (unsigned_tied j k i) && sets.contains s j)

pub taken_out : (s : sets.FinSet nat_cmp) (k : ℕ) → sets.contains (sets.remove s k) k ≡ false
taken_out s k =
    let same : nat_eq k k ≡ true = eq-eqb k k refl in
    taken_and s k k ∙ ap (λ b. not b && sets.contains s k) same

pub taken_was : (s : sets.FinSet nat_cmp) (k j : ℕ) → sets.contains (sets.remove s k) j ≡ true → sets.contains s j ≡ true
taken_was s k j is = (and_parts (not (nat_eq j k)) (sets.contains s j) (sym (taken_and s k j) ∙ is)).1

-- a slot that was taken out and put in again
put_again : (s : sets.FinSet nat_cmp) (k : ℕ) → sets.contains s k ≡ true → sets.insert (sets.remove s k) k ≡ s
put_again s k held =
    let less = sets.remove s k in
    sets.same_set nat_cmp_total sets.nat_cmp-IsAntisymmetric (sets.insert less k) s
    (λ q. (sets.contains-insert nat_cmp_total less k q ∙ (λ i. unsigned_tied q k i || sets.contains less q)) ∙ at q (nat_eq q k) refl)
  where
    at : (q : ℕ) (b : Bool) → nat_eq q k ≡ b → (nat_eq q k || sets.contains (sets.remove s k) q) ≡ sets.contains s q
    at q true is = ap (λ b. b || sets.contains (sets.remove s k) q) is ∙ sym (ap (sets.contains s) (eqb-true q k is) ∙ held)
    at q false is =
        ap (λ b. b || sets.contains (sets.remove s k) q) is ∙ (taken_and s k q ∙ ap (λ b. not b && sets.contains s q) is)

-- one slot is taken out, and then another in its place
pub record IsExchanged (free new : FreeSet) (o : Option ℕ) : Type 0 where
  pub held : IfSome o (λ k. sets.contains free.held k ≡ true)
  pub taken : IfSome o (λ k. new ≡ record free { held = sets.remove free.held k })

pub exchanged : (free mid new : FreeSet) (k : ℕ) (o : Option ℕ) → sets.contains free.held k ≡ true
    → mid ≡ record free { held = sets.remove free.held k } → IfSome o (λ j. sets.contains (sets.insert mid.held k) j ≡ true)
    → IfSome o (λ j. new ≡ record mid { held = sets.remove (sets.insert mid.held k) j }) → IsExchanged free new o
exchanged free mid new k None held is other taken = record { held = tt; taken = tt }
exchanged free mid new k (Some j) held is other taken =
    let back : sets.insert (sets.remove free.held k) k ≡ free.held = put_again free.held k held in record {
      held = ap (λ s. sets.contains s j) (sym back) ∙ (ap (λ (m : FreeSet). sets.contains (sets.insert m.held k) j) (sym is) ∙ other);
      taken = taken ∙ (ap (λ (m : FreeSet). let f : FreeSet = record m { held = sets.remove (sets.insert m.held k) j } in f) is
          ∙ ap (λ s. let f : FreeSet = record free { held = sets.remove s j } in f) back);
    }

-- and some is left to be taken
pub some_left : (s : sets.FinSet nat_cmp) (k : ℕ) (o : Option ℕ) → (IsNone o → sets.insert s k ≡ sets.empty) → IsSome o
some_left s k None empty =
    let here : sets.contains (sets.insert s k) k ≡ true =
    (sets.contains-insert nat_cmp_total s k k ∙ (λ i. unsigned_tied k k i || sets.contains s k)) ∙ ap (λ b. b || sets.contains s k) (eq-eqb k k refl) in
    let none : sets.contains (sets.insert s k) k ≡ false = ap (λ t. sets.contains t k) (empty refl) ∙ sets.contains-empty nat_cmp k in
    absurd cc
some_left s k (Some x) empty = refl

-- a slot that was held free is taken, and written if it wasn't
pub fit_picked : (slots : List Slot) (keys : List (Option Key)) (free new : FreeSet) (owners : Rings) (a x o k written : ℕ)
    → AreFieldsFit slots keys free owners a x o → new ≡ record free { held = sets.remove free.held k } → owners.written ≤ written → k < written
    → AreFieldsFit slots keys new (record owners { written = written }) a x o
fit_picked slots keys free new owners a x o k written fit is more here =
    let was : (j : ℕ) → sets.contains new.held j ≡ true → sets.contains free.held j ≡ true =
    λ j held. taken_was free.held k j (ap (λ (f : FreeSet). sets.contains f.held j) (sym is) ∙ held) in
    record {
      few = fit.few;
      wide = fit.wide;
      all_slots = ap (λ (f : FreeSet). f.slots) is ∙ fit.all_slots;
      owned = fit.owned;
      few_homes = fit.few_homes;
      vacant = λ j held. fit.vacant j (was j held);
      below = λ j held. fit.below j (was j held);
      unwritten = λ j high low.
          let other : j ≢ k = λ e. absurd (omega (arith, e, high, here)) in
          ap (λ (f : FreeSet). sets.contains f.held j) is
          ∙ (taken_and free.held k j ∙ (ap (λ b. not b && sets.contains free.held j) (ne_eqb j k other) ∙ fit.unwritten j (omega (arith, high, more)) low));
      few_arms = fit.few_arms;
      tally = fit.tally;
      orders = fit.orders;
      dests = fit.dests;
      chained = record {
        places = fit.chained.places;
        are = chains_written owners written fit.chained.places fit.chained.are;
        held = fit.chained.held;
        lasts = fit.chained.lasts;
        orders = fit.chained.orders;
      };
    }

-- as it is where what it is of is the same
pub fit_same : {slots slots' : List Slot} {keys keys' : List (Option Key)} {free : FreeSet} {owners owners' : Rings} {a x o : ℕ} → slots' ≡ slots
    → keys' ≡ keys → owners' ≡ owners → AreFieldsFit slots keys free owners a x o → AreFieldsFit slots' keys' free owners' a x o
fit_same {slots' = slots'} {keys = keys} {keys' = keys'} {free = free} {owners = owners} {a = a} {x = x} {o = o} s k r fit =
    subst (λ (rs : Rings). AreFieldsFit slots' keys' free rs a x o) (sym r)
    (subst (λ ks. AreFieldsFit slots' ks free owners a x o) (sym k)
    (subst (λ ss. AreFieldsFit ss keys free owners a x o) (sym s) fit))

-- a slot that isn't held free is written
pub written_away : (slots : List Slot) (keys : List (Option Key)) (free : FreeSet) (owners : Rings) (a x o k : ℕ) → AreFieldsFit slots keys free owners a x o
    → k < length slots → sets.contains free.held k ≡ false → k < owners.written
written_away slots keys free owners a x o k fit low away =
    elim (cases_lt k owners.written) [
      | inl written ↦ written
      | inr high ↦ let no : true ≡ false = sym (fit.unwritten k high low) ∙ away in absurd cc
    ]

-- and so is one in use
pub written_used : (p : Part) (free : FreeSet) (owners : Rings) (k : ℕ) → AreFieldsFit p.slots p.keys free owners p.arms p.expires p.orphans
    → free.held ≡ p.free → k < length p.slots → IsInUse p k → k < owners.written
written_used p free owners k fit same low used =
    written_away p.slots p.keys free owners p.arms p.expires p.orphans k fit low (elim used [
      | inl away ↦ ap (λ s. sets.contains s k) same ∙ away
      | inr row ↦ at (sets.contains free.held k) refl row
    ])
  where
    at : (b : Bool) → sets.contains free.held k ≡ b → key_in p.keys k ≢ None → sets.contains free.held k ≡ false
    at true is row = absurd (row (fit.vacant k is))
    at false is row = is
