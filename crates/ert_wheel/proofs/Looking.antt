-- The rows of one chain are looked at, from the newest to the oldest.

use Rattle.std.proofs.Common.{◌≡◌, ℕ, ◌<◌, List, Option, Some, None, IfSome, length, get_or, sym, subst, ◌∙◌, ap, inl, inr, arith}
use Rattle.std.proofs.{Math.ListN.get_or-eq_default, lemmas.Bool.cases_lt}
use Rattle.ert_wheel.proofs.{Steps.{left_older, older_falls}, Views.{key_stored, place_is, held_in}}
use Rattle.ert_wheel.specs.{Links.next_at, Rings.{Rings, Place, AreChains, StandsIn, node_slot, Finds}, Rows.{key_in, order_of_key, row_at, row_told, told_at}, Wheels.{no_key, held_keys, place_of, places}, declared.row.Key.Key}
use Rattle.ert_wheel.specs.{declared.row.Row.Row}

-- a slot of the bucket
pub record InBucket (keys : List (Option Key)) (spot : Key → Place) (bucket slot : ℕ) : Type 0 where
  pub key : Key
  pub has : key_in keys slot ≡ Some key
  pub at_home : (spot key).home ≡ bucket

-- a slot that has a key is one of the slots
pub key_low : (keys : List (Option Key)) (slot : ℕ) (key : Key) → key_in keys slot ≡ Some key → slot < length keys
key_low keys slot key has =
    elim (cases_lt slot (length keys)) [
      | inl low ↦ low
      | inr high ↦ let none : None ≡ Some key = sym (get_or-eq_default keys None high) ∙ has in cc
    ]

-- what a look found is a slot of the bucket
pub found : (chains : Rings) (keys : List (Option Key)) (spot : Key → Place) (bucket bound : ℕ) (next : Option ℕ)
    → Finds chains (places spot keys) bucket bound next → IfSome next (InBucket keys spot bucket)
found chains keys spot bucket bound None f = tt
found chains keys spot bucket bound (Some slot) f =
    let s : StandsIn (places spot keys) bucket slot = f.stands.1 in
    let k : (k : Key) × (key_in keys slot ≡ Some k) × (spot k ≡ s.place) =
    place_is spot (key_in keys slot) s.place s.has in
    record { key = k.0; has = k.1; at_home = ap (λ (p : Place). p.home) k.2 ∙ s.at_home }

-- and so its key is stored
pub stands_low : (chains : Rings) (stored : List Key) (spot : Key → Place) (bucket slot : ℕ) (here : Option ℕ)
    → IfSome here (InBucket (held_keys chains stored) spot bucket) → here ≡ Some slot → slot < length stored
stands_low chains stored spot bucket slot here stands is =
    let s : InBucket (held_keys chains stored) spot bucket slot = subst (λ (o : Option ℕ). IfSome o (InBucket (held_keys chains stored) spot bucket)) is stands in
    key_stored chains stored slot s.key s.has

-- what a turn of a walk meets: the slot that came next, and what comes after it
pub record Steps (chains : Rings) (stored : List Key) (spot : Key → Place) (bucket slot : ℕ) (here next : Option ℕ) : Type 0 where
  pub slots : length (held_keys chains stored) ≡ chains.slots
  pub are : AreChains chains (places spot (held_keys chains stored))
  pub stands : IfSome here (InBucket (held_keys chains stored) spot bucket)
  pub is : here ≡ Some slot
  pub older : (places : ℕ → Option Place) (place : Place) → AreChains chains places → places slot ≡ Some place
      → Finds chains places place.home place.order next

-- the key that is read there
pub record AtKey (chains : Rings) (stored : List Key) (spot : Key → Place) (bucket slot : ℕ) (next : Option ℕ) (key : Key) : Type 0 where
  pub low : slot < length stored
  pub has : key_in (held_keys chains stored) slot ≡ Some key
  pub at_home : (spot key).home ≡ bucket
  pub follows : Finds chains (places spot (held_keys chains stored)) bucket (spot key).order next

pub at_key : (chains : Rings) (stored : List Key) (spot : Key → Place) (bucket slot : ℕ) (here next : Option ℕ) (d : Key)
    → Steps chains stored spot bucket slot here next → AtKey chains stored spot bucket slot next (get_or stored slot d)
at_key chains stored spot bucket slot here next d t =
    let keys : List (Option Key) = held_keys chains stored in
    let stands : InBucket keys spot bucket slot = subst (λ (o : Option ℕ). IfSome o (InBucket keys spot bucket)) t.is t.stands in
    let key : Key = get_or stored slot d in
    let same : stands.key ≡ key = (held_in chains stored slot d stands.key stands.has).1 in
    let has : key_in keys slot ≡ Some key = stands.has ∙ ap (λ (k : Key). Some k) same in
    let at_home : (spot key).home ≡ bucket = ap (λ (x : Key). (spot x).home) (sym same) ∙ stands.at_home in
    record {
      low = (held_in chains stored slot d stands.key stands.has).0;
      has = has;
      at_home = at_home;
      follows = subst (λ (b : ℕ). Finds chains (places spot keys) b (spot key).order next) at_home
          (t.older (places spot keys) (spot key) t.are (ap (place_of spot) has));
    }

-- each turn leaves fewer slots
pub steps_fall : (chains : Rings) (stored : List Key) (spot : Key → Place) (bucket slot : ℕ) (here next : Option ℕ)
    → Steps chains stored spot bucket slot here next → next ≡ node_slot chains.slots (next_at chains.links slot)
    → left_older chains next < left_older chains here
steps_fall chains stored spot bucket slot here next t step =
    let a = at_key chains stored spot bucket slot here next no_key t in
    older_falls chains (places spot (held_keys chains stored)) slot (spot (get_or stored slot no_key)) here next t.are
    (omega (arith, t.slots, key_low (held_keys chains stored) slot (get_or stored slot no_key) a.has)) (ap (place_of spot) a.has) t.is step

-- a row that is told has the order of its key
pub told_alone : (keys : List (Option Key)) (slot : ℕ) (key : Key) → key_in keys slot ≡ Some key → row_told keys (told_at slot key) ≡ row_at slot key
told_alone keys slot key has = ap (λ (o : Option Key). with_order o) has
  where
    with_order : Option Key → Row
    with_order o = record { deadline = key.deadline; order = order_of_key o; slot = slot }
