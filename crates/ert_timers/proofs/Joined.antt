-- A slot of which it is noted stands in the chain of its process.

use Rattle.std.proofs.Common.{◌≡◌, ◌≢◌, ℕ, ◌<◌, true, false, List, [], ◌++◌, length, replicate, get_or, set, slice_get, Option, Some, None, refl, sym, ap, subst, subst₂, ◌∙◌, arith, inl, inr, get_or-set_same, get_or-set_other}
use Rattle.std.proofs.{Math.ListN.get_or-eq_default, lemmas.Bool.{cases_eq, cases_lt}, lemmas.List.length-set, lemmas.Option.{get_or_from_slice_get, slice_get-get_or, slice_get_within}}
use Rattle.ert_timers.proofs.{AllSlots.padded, Owners.not_alone}
use Rattle.ert_timers.specs.{Owners.Joins, Parts.AreJoined, Slots.{is_joined, nothing}, declared.slot.Stored.Stored}
use Rattle.ert_wheel.proofs.Parts.{with_place_here, with_place_there}
use Rattle.ert_wheel.specs.{Links.next_at, Rings.{Rings, Place, AreChains, StandsIn, with_place}}

-- a slot that isn't alone has a place
has_place : (owners : Rings) (places : ℕ → Option Place) (k : ℕ) → AreChains owners places → k < owners.slots → next_at owners.links k ≢ k
    → (place : Place) × (places k ≡ Some place)
has_place owners places k are low not = at (places k) refl
  where
    at : (o : Option Place) → places k ≡ o → (place : Place) × (places k ≡ Some place)
    at None none = absurd (not ((are.alone k low none).forth))
    at (Some place) has = (place, has)

-- so it stands in the chain of a process where its last timer went to that
pub stands_noted : (owners : Rings) (places : ℕ → Option Place) (k dest process : ℕ) → AreChains owners places → k < owners.slots
    → next_at owners.links k ≢ k → ((place : Place) → places k ≡ Some place → place.home ≡ dest) → dest ≡ process → StandsIn places process k
stands_noted owners places k dest process are low not lasts same =
    let has = has_place owners places k are low not in
    record { place = has.0; has = has.1; at_home = lasts has.0 has.1 ∙ same }

pub joined_same : (values new : List Stored) (owners after : Rings) → new ≡ values → after ≡ owners → AreJoined values owners → AreJoined new after
joined_same values new owners after same owned joined = subst₂ (λ vs r. AreJoined vs r) (sym same) (sym owned) joined

-- none is noted at first
pub none_joined : (values : List Stored) (owners : Rings) → values ≡ [] → AreJoined values owners
none_joined values owners none = λ k stored low is on.
    let no : None ≡ Some stored = sym (ap (λ vs. slice_get vs k) none) ∙ is in absurd cc

-- another slot has what it had
other_at : (values : List Stored) (k j : ℕ) (new stored : Stored) → j ≢ k → slice_get (set values k new) j ≡ Some stored → slice_get values j ≡ Some stored
other_at values k j new stored ne is =
    let within : j < length values = subst (λ n. j < n) (length-set values k new) (slice_get_within (set values k new) j stored is) in
    slice_get-get_or values j stored within
    ∙ ap (λ s. Some s) (sym (get_or-set_other values k j new stored ne) ∙ get_or_from_slice_get (set values k new) j stored stored is)

-- a timer is put in
pub joined_kept : (values new : List Stored) (owners after : Rings) (places : ℕ → Option Place) (k process bound : ℕ) (used : Stored)
    → AreJoined values owners → AreChains owners places → after.slots ≡ owners.slots → new ≡ set values k used
    → Joins after places k process bound → AreJoined new after
joined_kept values new owners after places k process bound used joined are slots is joins = λ j stored low at on.
    let here : Option Place = Some joins.place in
    elim (cases_eq j k) [
      | inl e ↦ not_alone after (with_place places k here) j joins.place joins.are low
          (ap (with_place places k here) e ∙ with_place_here places k here)
      | inr ne ↦
          let down : j < owners.slots = omega (arith, low, slots) in
          let was = other_at values k j used stored ne (sym (ap (λ vs. slice_get vs j) is) ∙ at) in
          let has = has_place owners places j are down (joined j stored down was on) in
          not_alone after (with_place places k here) j has.0 joins.are low (with_place_there places k here j ne ∙ has.1)
    ]

-- a slot leaves its chain
pub joined_left : (values new : List Stored) (owners after : Rings) (places : ℕ → Option Place) (k : ℕ) (apart : Stored)
    → AreChains owners places → AreChains after (with_place places k None) → after.slots ≡ owners.slots → k < length values → new ≡ set values k apart
    → is_joined apart ≡ false → AreJoined values owners → AreJoined new after
joined_left values new owners after places k apart are left slots here is off joined = λ j stored low at on.
    elim (cases_eq j k) [
      | inl e ↦
          let read : apart ≡ stored =
          sym (get_or-set_same values k apart nothing here)
          ∙ (ap (λ m. get_or (set values k apart) m nothing) (sym e)
          ∙ get_or_from_slice_get (set values k apart) j stored nothing (sym (ap (λ vs. slice_get vs j) is) ∙ at)) in
          let no : false ≡ true = sym off ∙ (ap is_joined read ∙ on) in
          absurd cc
      | inr ne ↦
          let down : j < owners.slots = omega (arith, low, slots) in
          let was = other_at values k j apart stored ne (sym (ap (λ vs. slice_get vs j) is) ∙ at) in
          let has = has_place owners places j are down (joined j stored down was on) in
          not_alone after (with_place places k None) j has.0 left low (with_place_there places k None j ne ∙ has.1)
    ]

-- more slots are written
pub joined_more : (values : List Stored) (m : ℕ) (owners : Rings) (written : ℕ) → AreJoined values owners
    → AreJoined (values ++ replicate m nothing) (record owners { written = written })
joined_more values m owners written joined = λ k stored low is on.
    let read : get_or values k nothing ≡ stored =
    sym (padded values m k) ∙ get_or_from_slice_get (values ++ replicate m nothing) k stored nothing is in
    elim (cases_lt k (length values)) [
      | inl within ↦ joined k stored low (slice_get-get_or values k nothing within ∙ ap (λ s. Some s) read) on
      | inr past ↦
          let none : nothing ≡ stored = sym (get_or-eq_default values nothing past) ∙ read in
          let no : false ≡ true = ap is_joined none ∙ on in
          absurd cc
    ]
