-- The rows of one bucket are looked at, from the oldest to the newest.

use Rattle.std.proofs.Common.{◌≡◌, ◌≢◌, ℕ, ◌+◌, ◌<◌, ◌≤◌, List, Option, Some, None, IfSome, length, get_or, sym, subst, ◌∙◌, ap, inl, inr, refl, arith}
use Rattle.std.proofs.lemmas.Bool.{cases_lt}
use Rattle.ert_wheel.proofs.{Looking.{InBucket, key_low, told_alone}, Steps.{left_newer, newer_falls}, Views.{place_is, held_in}}
use Rattle.ert_wheel.specs.{FirstDue.{NoneDueIn, IsOldestDue}, Links.prev_at, Rings.{Rings, Place, AreChains, StandsIn, order_of, node_slot, FindsOldest}, Rows.{key_in, row_told, told_at}, Wheels.{no_key, held_keys, place_of, places}}
use Rattle.ert_wheel.specs.{declared.row.Key.Key, declared.row.Row.Row}

-- the slot that comes next is there, and its order is at most this
abbrev pub IsLow : (ℕ → Option Place) → Option ℕ → ℕ → Type 0
IsLow places None order = ⊥
IsLow places (Some slot) order = order_of (places slot) ≤ order

-- the chain was climbed up to the slot that comes next: no older row is due
pub record IsClimbed (keys : List (Option Key)) (spot : Key → Place) (bucket to : ℕ) (next : Option ℕ) : Type 0 where
  pub stands : IfSome next (InBucket keys spot bucket)
  pub later : (j : ℕ) (key : Key) → key_in keys j ≡ Some key → (spot key).home ≡ bucket → key.deadline ≤ to
      → IsLow (places spot keys) next (spot key).order

-- what a look found is a slot of the bucket
found : (chains : Rings) (keys : List (Option Key)) (spot : Key → Place) (bucket bound : ℕ) (next : Option ℕ)
    → FindsOldest chains (places spot keys) bucket bound next → IfSome next (InBucket keys spot bucket)
found chains keys spot bucket bound None f = tt
found chains keys spot bucket bound (Some slot) f =
    let s : StandsIn (places spot keys) bucket slot = f.stands.1 in
    let k = place_is spot (key_in keys slot) s.place s.has in
    record { key = k.0; has = k.1; at_home = ap (λ (p : Place). p.home) k.2 ∙ s.at_home }

-- a key of the bucket whose order is a bound or more is no older than what was found from there on
found_low : (chains : Rings) (keys : List (Option Key)) (spot : Key → Place) (bucket bound : ℕ) (next : Option ℕ) (j : ℕ) (key : Key)
    → FindsOldest chains (places spot keys) bucket bound next → length keys ≡ chains.slots → key_in keys j ≡ Some key
    → (spot key).home ≡ bucket → bound ≤ (spot key).order → IsLow (places spot keys) next (spot key).order
found_low chains keys spot bucket bound None j key f slots has at high =
    absurd (omega (
      arith,
      f.none refl j (spot key) (omega (arith, slots, key_low keys j key has)) (ap (place_of spot) has) at,
    ))
found_low chains keys spot bucket bound (Some slot) j key f slots has at high =
    f.least j (spot key) (omega (arith, slots, key_low keys j key has)) (ap (place_of spot) has) at high

-- the walk begins at the oldest
pub climb_starts : (chains : Rings) (keys : List (Option Key)) (spot : Key → Place) (bucket to : ℕ) (next : Option ℕ)
    → length keys ≡ chains.slots → FindsOldest chains (places spot keys) bucket 0 next → IsClimbed keys spot bucket to next
climb_starts chains keys spot bucket to next slots f = record {
  stands = found chains keys spot bucket 0 next f;
  later = λ j key has at due. found_low chains keys spot bucket 0 next j key f slots has at (omega arith);
}

-- what a turn of the walk meets: the slot that came next, and what comes after it
pub record Climbs (chains : Rings) (stored : List Key) (spot : Key → Place) (bucket to slot : ℕ) (here : Option ℕ) : Type 0 where
  pub slots : length (held_keys chains stored) ≡ chains.slots
  pub are : AreChains chains (places spot (held_keys chains stored))
  pub climbed : IsClimbed (held_keys chains stored) spot bucket to here
  pub is : here ≡ Some slot

-- the key that is read there
pub record ReadsKey (chains : Rings) (stored : List Key) (spot : Key → Place) (bucket to slot : ℕ) (key : Key) : Type 0 where
  pub low : slot < length stored
  pub has : key_in (held_keys chains stored) slot ≡ Some key
  pub at_home : (spot key).home ≡ bucket
  pub later : (j : ℕ) (k : Key) → key_in (held_keys chains stored) j ≡ Some k → (spot k).home ≡ bucket → k.deadline ≤ to
      → (spot key).order ≤ (spot k).order

pub reads : (chains : Rings) (stored : List Key) (spot : Key → Place) (bucket to slot : ℕ) (here : Option ℕ) (d : Key)
    → Climbs chains stored spot bucket to slot here → ReadsKey chains stored spot bucket to slot (get_or stored slot d)
reads chains stored spot bucket to slot here d t =
    let keys : List (Option Key) = held_keys chains stored in
    let climbed : IsClimbed keys spot bucket to (Some slot) = subst (λ (o : Option ℕ). IsClimbed keys spot bucket to o) t.is t.climbed in
    let stands : InBucket keys spot bucket slot = climbed.stands in
    let key : Key = get_or stored slot d in
    let same : stands.key ≡ key = (held_in chains stored slot d stands.key stands.has).1 in
    let has : key_in keys slot ≡ Some key = stands.has ∙ ap (λ (k : Key). Some k) same in
    let order : order_of (places spot keys slot) ≡ (spot key).order = ap (λ (o : Option Key). order_of (place_of spot o)) has in
    record {
      low = (held_in chains stored slot d stands.key stands.has).0;
      has = has;
      at_home = ap (λ (x : Key). (spot x).home) (sym same) ∙ stands.at_home;
      later = λ j k is at due. omega (arith, order, climbed.later j k is at due);
    }

-- its row is the oldest where it is due
pub climb_finds : (chains : Rings) (stored : List Key) (spot : Key → Place) (bucket to slot : ℕ) (here : Option ℕ) (d : Key)
    → Climbs chains stored spot bucket to slot here → (get_or stored slot d).deadline ≤ to
    → IsOldestDue (held_keys chains stored) spot bucket to (row_told (held_keys chains stored) (told_at slot (get_or stored slot d)))
climb_finds chains stored spot bucket to slot here d t due =
    let r = reads chains stored spot bucket to slot here d t in
    subst (λ (row : Row). IsOldestDue (held_keys chains stored) spot bucket to row)
    (sym (told_alone (held_keys chains stored) slot (get_or stored slot d) r.has))
    (record { held = r.has; at_home = r.at_home; due = due; oldest = r.later })

-- and else the walk goes on
pub climbs_on : (chains : Rings) (stored : List Key) (spot : Key → Place) (bucket to slot : ℕ) (here next : Option ℕ) (d : Key)
    → Climbs chains stored spot bucket to slot here → to < (get_or stored slot d).deadline
    → ((places : ℕ → Option Place) (place : Place) → AreChains chains places → places slot ≡ Some place
    → FindsOldest chains places place.home (place.order + 1) next)
    → IsClimbed (held_keys chains stored) spot bucket to next
climbs_on chains stored spot bucket to slot here next d t late newer =
    let keys : List (Option Key) = held_keys chains stored in
    let key : Key = get_or stored slot d in
    let r = reads chains stored spot bucket to slot here d t in
    let f : FindsOldest chains (places spot keys) bucket ((spot key).order + 1) next =
    subst (λ (b : ℕ). FindsOldest chains (places spot keys) b ((spot key).order + 1) next) r.at_home
    (newer (places spot keys) (spot key) t.are (ap (place_of spot) r.has)) in
    record {
      stands = found chains keys spot bucket ((spot key).order + 1) next f;
      later = λ j k is at due.
          let other : (spot k).order ≢ (spot key).order =
          λ e. (let one : j ≡ slot =
          t.are.once j slot (spot k) (spot key)
          (ap (place_of spot) is) (ap (place_of spot) r.has) e in
          let some : Some k ≡ Some key = sym is ∙ ap (key_in keys) one ∙ r.has in
          let same : k ≡ key = cc in
          absurd (omega (arith, due, late, ap (λ (x : Key). x.deadline) same))) in
          found_low chains keys spot bucket ((spot key).order + 1) next j k f t.slots is at (omega (arith, other, r.later j k is at due));
    }

-- each turn leaves fewer slots
pub climb_falls : (chains : Rings) (stored : List Key) (spot : Key → Place) (bucket to slot : ℕ) (here next : Option ℕ)
    → Climbs chains stored spot bucket to slot here → next ≡ node_slot chains.slots (prev_at chains.links slot)
    → left_newer chains next < left_newer chains here
climb_falls chains stored spot bucket to slot here next t step =
    let r = reads chains stored spot bucket to slot here no_key t in
    newer_falls chains (places spot (held_keys chains stored)) slot (spot (get_or stored slot no_key)) here next t.are
    (omega (arith, t.slots, key_low (held_keys chains stored) slot (get_or stored slot no_key) r.has)) (ap (place_of spot) r.has) t.is step

-- the walk ends where nothing comes next
pub climb_ends : (keys : List (Option Key)) (spot : Key → Place) (bucket to : ℕ) (here : Option ℕ) → here ≡ None
    → IsClimbed keys spot bucket to here → NoneDueIn keys spot bucket to
climb_ends keys spot bucket to here is climbed = λ j key has at.
    let c : IsClimbed keys spot bucket to None = subst (λ (o : Option ℕ). IsClimbed keys spot bucket to o) is climbed in
    elim (cases_lt to key.deadline) [ inl later ↦ later | inr due ↦ absurd (c.later j key has at due) ]
