-- Where the slots of chains stand, as the links tell it: each in the home of its place.

use Rattle.std.proofs.Common.{◌≡◌, ℕ, zero, suc, ◌+◌, ◌-◌, ◌<◌, ◌≤◌, ◌^◌, cond, List, Option, Some, None, length, set, sym, ◌∙◌, ap, inl, inr, refl, arith, get_or-set_same, get_or-set_other}
use Rattle.std.proofs.lemmas.{Bool.{cases_eq, lt-ltb, le-ltb}, List.{ext_get_or, length-set}, List.FromFn.{get_or-map-range_with_len, length-map-range_with_len}}
use Rattle.ert_wheel.proofs.{Looking.key_low, Parts.{slot_is, node_is, with_place_here, with_place_there}}
use Rattle.ert_wheel.specs.{Chained.Shape, Links.next_at, Rings.{Rings, Place, shape, AreChains, with_place, StandsIn}, Rows.key_in, Standing.{far, home_from, homes_of, bucket_in}, Wheels.{place_of, places}, declared.row.Key.Key}

-- the home of a place
abbrev pub home_at : Option Place → Option ℕ
home_at None = None
home_at (Some place) = Some place.home

from_slot : (n : ℕ) (r : Rings) (x : ℕ) → x < r.slots → home_from (suc n) r x ≡ home_from n r (next_at r.links x)
unfolding home_from
from_slot n r x low = ap (λ b. cond b (home_from n r (next_at r.links x)) (Some (x - r.slots))) (lt-ltb x r.slots low)

from_head : (n : ℕ) (r : Rings) (x : ℕ) → 0 < n → r.slots ≤ x → home_from n r x ≡ Some (x - r.slots)
unfolding home_from
from_head zero r x some high = absurd (omega (arith, some))
from_head (suc n) r x some high = ap (λ b. cond b (home_from n r (next_at r.links x)) (Some (x - r.slots))) (le-ltb x r.slots high)

from_none : (r : Rings) (x : ℕ) → home_from 0 r x ≡ None
unfolding home_from
from_none r x = refl

-- a slot that is alone leads to none
from_lone : (n : ℕ) (r : Rings) (x : ℕ) → x < r.slots → next_at r.links x ≡ x → home_from n r x ≡ None
from_lone zero r x low lone = from_none r x
from_lone (suc n) r x low lone = from_slot n r x low ∙ (ap (home_from n r) lone ∙ from_lone n r x low lone)

-- and one that has a place to the head of its home
from_place : (n : ℕ) (r : Rings) (places : ℕ → Option Place) → AreChains r places → (x : ℕ) (p : Place) → x < r.slots → places x ≡ Some p
    → p.order + 1 < n → home_from n r x ≡ Some p.home
from_place zero r places are x p low has less = absurd (omega (arith, less))
from_place (suc n) r places are x p low has less =
    let a : Shape = shape r.slots r.homes places in
    let s = slot_is r.slots r.homes places x p low has in
    let next : ℕ = next_at r.links x in
    let same : a.home next ≡ p.home = are.chained.home x s.on ∙ s.at_home in
    from_slot n r x low
    ∙ elim (node_is r.slots r.homes places next (are.chained.after_on x s.on)) [
      | inl (q, t) ↦
          let at : q.home ≡ p.home = sym t.at_home ∙ same in
          from_place n r places are next q t.low t.has (omega (arith, t.bound, s.top, are.chained.down x s.on, less))
          ∙ ap (λ h. Some h) at
      | inr h ↦ from_head n r next (omega (arith, less)) h.high ∙ ap (λ h. Some h) (sym h.at_home ∙ same)
    ]

far_is : far ≡ 2 ^ 64 + 2
unfolding far
far_is = refl

-- the bucket of a slot, by its place
pub home_is : (r : Rings) (places : ℕ → Option Place) → AreChains r places → (slot : ℕ) → slot < r.slots
    → bucket_in (homes_of r) slot ≡ home_at (places slot)
home_is r places are slot low =
    get_or-map-range_with_len (home_from far r) 0 r.slots slot slot None low (omega arith) ∙ at (places slot) refl
  where
    at : (o : Option Place) → places slot ≡ o → home_from far r slot ≡ home_at o
    at None none = from_lone far r slot low (are.alone slot low none).forth
    at (Some p) has = from_place far r places are slot p low has (omega (arith, far_is, are.orders slot p has))

pub homes_len : (r : Rings) → length (homes_of r) ≡ r.slots
homes_len r = length-map-range_with_len (home_from far r) 0 r.slots

-- the chains of places with the same homes
pub homes_same : (old new : Rings) (places places' : ℕ → Option Place) → AreChains old places → AreChains new places' → new.slots ≡ old.slots
    → ((slot : ℕ) → slot < old.slots → home_at (places' slot) ≡ home_at (places slot)) → homes_of new ≡ homes_of old
homes_same old new places places' are are' slots same =
    ext_get_or None (homes_of new) (homes_of old) (homes_len new ∙ (slots ∙ sym (homes_len old))) (λ j low.
    let here : j < new.slots = omega (arith, low, homes_len new) in
    let there : j < old.slots = omega (arith, here, slots) in
    home_is new places' are' j here ∙ (same j there ∙ sym (home_is old places are j there)))

-- and of those with another place of a slot
pub homes_set : (old new : Rings) (places : ℕ → Option Place) (slot : ℕ) (place : Option Place) → AreChains old places
    → AreChains new (with_place places slot place) → new.slots ≡ old.slots → slot < old.slots
    → homes_of new ≡ set (homes_of old) slot (home_at place)
homes_set old new places slot place are are' slots low =
    ext_get_or None (homes_of new) (set (homes_of old) slot (home_at place))
    (homes_len new ∙ (slots ∙ sym (length-set (homes_of old) slot (home_at place) ∙ homes_len old))) (λ j here.
    let low_new : j < new.slots = omega (arith, here, homes_len new) in
    let low_old : j < old.slots = omega (arith, low_new, slots) in
    home_is new (with_place places slot place) are' j low_new
    ∙ elim (cases_eq j slot) [
      | inl e ↦
          ap (λ i. home_at (with_place places slot place i)) e ∙ ap home_at (with_place_here places slot place)
          ∙ sym (get_or-set_same (homes_of old) slot (home_at place) None (omega (arith, low, homes_len old)))
          ∙ ap (bucket_in (set (homes_of old) slot (home_at place))) (sym e)
      | inr ne ↦
          ap home_at (with_place_there places slot place j ne) ∙ sym (home_is old places are j low_old)
          ∙ sym (get_or-set_other (homes_of old) slot j (home_at place) None ne)
    ])

-- where a key stands
pub home_of_key : (r : Rings) (spot : Key → Place) (keys : List (Option Key)) (slot : ℕ) (key : Key) → length keys ≡ r.slots
    → AreChains r (places spot keys) → key_in keys slot ≡ Some key → bucket_in (homes_of r) slot ≡ Some (spot key).home
home_of_key r spot keys slot key slots are has =
    home_is r (places spot keys) are slot (omega (arith, slots, key_low keys slot key has)) ∙ ap (λ o. home_at (place_of spot o)) has

-- and what stands in the chain of a home
pub home_of_slot : (r : Rings) (places : ℕ → Option Place) (slot home : ℕ) → AreChains r places → slot < r.slots → StandsIn places home slot
    → bucket_in (homes_of r) slot ≡ Some home
home_of_slot r places slot home are low s = home_is r places are slot low ∙ (ap home_at s.has ∙ ap (λ h. Some h) s.at_home)
