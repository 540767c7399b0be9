-- A timer is put in; the newest row of a process; a part of a new desk.

use Rattle.std.proofs.Common.{◌≡◌, ◌≢◌, ℕ, ◌+◌, ◌<◌, ◌≤◌, Bool, true, false, List, length, Option, Some, None, IsNone, IfNone, IfSome, refl, sym, ap, subst, ◌∙◌, arith, inl, inr, set, slice_get, get_or-set_same, get_or-set_other}
use Rattle.std.proofs.lemmas.{Bool.cases_eq, List.length-set, Option.slice_get_within}
use Rattle.std.specs.{Bool.OnTrue, Ordering.nat_cmp}
use Rattle.std.specs.FinSet as sets
use Rattle.ert_defs.specs.{Timers.timer_at, declared.timer.Start.Start, declared.settings.TheConstants.MOST_SLOTS}
use Rattle.ert_timers.specs.{Changes.{MayBecomeFree, LostRow, NextOf, picked, slot_for, kept}, Owners.{Joins, Thinned, FindsRow}, Parts.{AreFieldsFit, AreOwned, IsWritten, Part, all_slots, last_timer, slot_at, unused}, Slots.Slot}
use Rattle.ert_timers.specs.{Slots.stored_slot, declared.slot.Stored.Stored, declared.part.Use.Use, Free.FreeSet}
use mir.Val.{bool_byte}
use Rattle.ert_timers.proofs.{AllSlots.{all_set, read_at}, Fit.{fit_picked, fit_same, taken_out}}
use Rattle.ert_wheel.specs.{Rings.{Rings, Place, StandsIn, with_place}, Rows.{Held, key_in, key_of}, declared.row.Key.Key, declared.row.Row.Row}
use Rattle.ert_wheel.proofs.{Looking.key_low, Parts.{with_place_here, with_place_there}, Views.counts_more}

pub on_true : (b : Bool) (P : Type 0) → b ≡ true → OnTrue b P → P
on_true true P is h = h
on_true false P is h = absurd cc

pub on_if : (b : Bool) (P : Type 0) → (b ≡ true → P) → OnTrue b P
on_if true P h = h refl
on_if false P h = tt

-- each order is below the number of timers that were armed
pub orders_if : (keys : List (Option Key)) (a : ℕ) → ((k : ℕ) (key : Key) → key_in keys k ≡ Some key → key.order < a)
    → (k : ℕ) → IfSome (key_in keys k) (λ key. key.order < a)
orders_if keys a below k = at (key_in keys k) refl
  where
    at : (o : Option Key) → key_in keys k ≡ o → IfSome o (λ key. key.order < a)
    at None is = tt
    at (Some key) is = below k key is

-- the slot of a timer that is put in is one of the slots, and others keep what they have
slot_other : (slots : List Slot) (k j : ℕ) (slot : Slot) → j ≢ k → slot_at (set slots k slot) j ≡ slot_at slots j
slot_other slots k j slot other = get_or-set_other slots k j slot unused other

pub key_kept : (keys : List (Option Key)) (k j : ℕ) (key seen : Key) → k < length keys → key_in (set keys k (Some key)) j ≡ Some seen
    → j ≢ k → key_in keys j ≡ Some seen
key_kept keys k j key seen low is other = sym (get_or-set_other keys k j (Some key) None other) ∙ is

pub key_new : (keys : List (Option Key)) (k j : ℕ) (key seen : Key) → k < length keys → key_in (set keys k (Some key)) j ≡ Some seen
    → j ≡ k → key ≡ seen
key_new keys k j key seen low is same =
    let e : Some key ≡ Some seen =
    sym (ap (key_in (set keys k (Some key))) same ∙ get_or-set_same keys k (Some key) None low) ∙ is in
    cc

-- the slot stands in the chain of the timer's process
owned_kept : (slots : List Slot) (keys : List (Option Key)) (owners new : Rings) (a k : ℕ) (slot : Slot) (key : Key)
    (are : AreOwned slots keys owners a) → k < length slots → k < length keys → Joins new are.places k slot.dest a
    → AreOwned (set slots k slot) (set keys k (Some key)) new (a + 1)
owned_kept slots keys owners new a k slot key are low wide joins =
    let here : Option Place = Some joins.place in
    let slot_here : (j : ℕ) → j ≡ k → slot_at (set slots k slot) j ≡ slot =
    λ j same. ap (slot_at (set slots k slot)) same ∙ get_or-set_same slots k slot unused low in
    let place_here : (j : ℕ) → j ≡ k → with_place are.places k here j ≡ here =
    λ j same. ap (with_place are.places k here) same ∙ with_place_here are.places k here in
    record {
      places = with_place are.places k here;
      are = joins.are;
      held = λ j seen is.
          elim (cases_eq j k) [
            | inl same ↦ record {
              place = joins.place;
              has = place_here j same;
              at_home = joins.at_home ∙ sym (ap (λ (s : Slot). s.dest) (slot_here j same));
            }
            | inr other ↦
                let s : StandsIn are.places (slot_at slots j).dest j = are.held j seen (key_kept keys k j key seen wide is other) in
                record {
                  place = s.place;
                  has = with_place_there are.places k here j other ∙ s.has;
                  at_home = s.at_home ∙ sym (ap (λ (s : Slot). s.dest) (slot_other slots k j slot other));
                }
          ];
      lasts = λ j place is.
          elim (cases_eq j k) [
            | inl same ↦
                let e : Some joins.place ≡ Some place = sym (place_here j same) ∙ is in
                let it : joins.place ≡ place = cc in
                sym (ap (λ (p : Place). p.home) it) ∙ joins.at_home ∙ sym (ap (λ (s : Slot). s.dest) (slot_here j same))
            | inr other ↦
                are.lasts j place (sym (with_place_there are.places k here j other) ∙ is)
                ∙ sym (ap (λ (s : Slot). s.dest) (slot_other slots k j slot other))
          ];
      orders = λ j place is.
          elim (cases_eq j k) [
            | inl same ↦
                let e : Some joins.place ≡ Some place = sym (place_here j same) ∙ is in
                let it : joins.place ≡ place = cc in
                omega (arith, joins.low, ap (λ (p : Place). p.order) it)
            | inr other ↦ omega (arith, are.orders j place (sym (with_place_there are.places k here j other) ∙ is))
          ];
    }

-- a timer is put in
pub fit_kept : (p : Part) (free : FreeSet) (owners new : Rings) (k : ℕ) (start : Start) (next : Use)
    (fit : AreFieldsFit p.slots p.keys free owners p.arms p.expires p.orphans) → free.held ≡ p.free → MayBecomeFree p k
    → p.arms < 9007199254740992 → start.dest < owners.homes → new.slots ≡ owners.slots → new.homes ≡ owners.homes → new.written ≡ owners.written
    → Joins new fit.chained.places k start.dest p.arms
    → let q = kept p k start next p.stands in AreFieldsFit q.slots q.keys free new q.arms q.expires q.orphans
fit_kept p free owners new k start next fit same can few dest slots homes written joins =
    let slot : Slot = slot_for next (slot_at p.slots k).above start in
    let key : Key = record { deadline = next.deadline; order = p.arms } in
    let wide : k < length p.keys = subst (λ n. k < n) (sym fit.wide) can.low in
    record {
      few = subst (λ n. n ≤ MOST_SLOTS) (sym (length-set p.slots k slot)) fit.few;
      wide = length-set p.keys k (Some key) ∙ (fit.wide ∙ sym (length-set p.slots k slot));
      all_slots = fit.all_slots ∙ sym (length-set p.slots k slot);
      owned = slots ∙ (fit.owned ∙ sym (length-set p.slots k slot));
      few_homes = omega (arith, homes, fit.few_homes);
      vacant = λ j is. get_or-set_other p.keys k j (Some key) None (other_free j is) ∙ fit.vacant j is;
      below = λ j is. subst (λ n. j < n) (sym (length-set p.slots k slot)) (fit.below j is);
      unwritten = λ j high low. fit.unwritten j (omega (arith, written, high)) (subst (λ n. j < n) (length-set p.slots k slot) low);
      few_arms = omega (arith, few);
      tally = omega (arith, fit.tally, counts_more p.keys k key wide can.vacant);
      orders = λ j seen is.
          elim (cases_eq j k) [
            | inl here ↦ subst (λ (x : Key). x.order < p.arms + 1) (key_new p.keys k j key seen wide is here) (omega arith)
            | inr other ↦ omega (arith, fit.orders j seen (key_kept p.keys k j key seen wide is other))
          ];
      dests = λ j seen is.
          elim (cases_eq j k) [
            | inl here ↦ subst (λ (s : Slot). s.dest < new.homes)
                (sym (ap (slot_at (set p.slots k slot)) here ∙ get_or-set_same p.slots k slot unused can.low)) (omega (arith, homes, dest))
            | inr other ↦ subst (λ (s : Slot). s.dest < new.homes) (sym (slot_other p.slots k j slot other))
                (omega (arith, homes, fit.dests j seen (key_kept p.keys k j key seen wide is other)))
          ];
      chained = owned_kept p.slots p.keys owners new p.arms k slot key fit.chained can.low wide joins;
    }
  where
    other_free : (j : ℕ) → sets.contains free.held j ≡ true → j ≢ k
    other_free j is here =
        let away : sets.contains free.held j ≡ false = ap (sets.contains free.held) here ∙ (ap (λ s. sets.contains s k) same ∙ can.away) in
        cc

-- what is kept of the slots with that timer, as it is stored
pub slots_kept : (values new : List Stored) (n m k : ℕ) (last used : Stored) (start : Start) (next : Use) → slice_get values k ≡ Some last → k < n → m ≡ n
    → new ≡ set values k used → stored_slot used ≡ slot_for next (stored_slot last).above start
    → all_slots new m ≡ set (all_slots values n) k (slot_for next (slot_at (all_slots values n) k).above start)
slots_kept values new n m k last used start next is low wide more with =
    (λ i. all_slots (more i) (wide i))
    ∙ (sym (all_set values n k used (slice_get_within values k last is))
    ∙ ap (set (all_slots values n) k) (with ∙ ap (λ (s : Slot). slot_for next s.above start) (sym (read_at values n k last is low))))

-- and how the timer is named
pub named_kept : (w : ℕ) (slots kept : List Slot) (k above : ℕ) (start : Start) (next : Use) → k < length slots → kept ≡ set slots k (slot_for next above start)
    → timer_at w k next.generation ≡ last_timer w kept k
named_kept w slots kept k above start next low is =
    ap (λ n. timer_at w k n) (sym (ap (λ (s : Slot). s.generation) (ap (λ ss. slot_at ss k) is ∙ get_or-set_same slots k (slot_for next above start) unused low)))

-- slots without a row have left their chains
pub owned_thinned : (slots : List Slot) (keys : List (Option Key)) (owners new : Rings) (a : ℕ) (left : ℕ → Option Place)
    (are : AreOwned slots keys owners a) → Thinned new keys are.places left → AreOwned slots keys new a
owned_thinned slots keys owners new a left are t = record {
  places = left;
  are = t.are;
  held = λ j key is. elim (t.each j) [
    | inl same ↦ let s = are.held j key is in record { place = s.place; has = same ∙ s.has; at_home = s.at_home }
    | inr gone ↦ let none : None ≡ Some key = sym gone.1 ∙ is in absurd cc
  ];
  lasts = λ j place is. elim (t.each j) [
    | inl same ↦ are.lasts j place (sym same ∙ is)
    | inr gone ↦ let none : None ≡ Some place = sym gone.0 ∙ is in absurd cc
  ];
  orders = λ j place is. elim (t.each j) [
    | inl same ↦ are.orders j place (sym same ∙ is)
    | inr gone ↦ let none : None ≡ Some place = sym gone.0 ∙ is in absurd cc
  ];
}

-- the newest row of a process is one that was found in its chain
pub next_found : (p : Part) (free : FreeSet) (owners new : Rings) (process : ℕ) (found : Option Row)
    (fit : AreFieldsFit p.slots p.keys free owners p.arms p.expires p.orphans)
    → FindsRow p.keys fit.chained.places process new found → NextOf p process found
next_found p free owners new process None fit finds = λ k key is dest.
    let s = fit.chained.held k key is in
    elim (finds.thinned.each k) [
      | inl same ↦ finds.is k s.place (key_low p.keys k key is) (same ∙ s.has) (s.at_home ∙ dest)
      | inr gone ↦ let none : None ≡ Some key = sym gone.1 ∙ is in absurd cc
    ]
next_found p free owners new process (Some row) fit finds =
    let has : key_in p.keys row.slot ≡ Some (key_of row) = finds.is.0 in
    let stands : StandsIn finds.left process row.slot = finds.is.1 in (
      subst (λ n. row.slot < n) fit.wide (key_low p.keys row.slot (key_of row) has),
      has,
      elim (finds.thinned.each row.slot) [
        | inl same ↦
            let s = fit.chained.held row.slot (key_of row) has in
            let e : Some s.place ≡ Some stands.place = sym (same ∙ s.has) ∙ stands.has in
            let it : s.place ≡ stands.place = cc in
            sym s.at_home ∙ ap (λ (q : Place). q.home) it ∙ stands.at_home
        | inr gone ↦ let none : None ≡ Some (key_of row) = sym gone.1 ∙ has in absurd cc
      ],
    )

-- what a slot that was held free can be used for
pub picked_free : (p : Part) (free : FreeSet) (owners : Rings) (k : ℕ) → AreFieldsFit p.slots p.keys free owners p.arms p.expires p.orphans
    → free.held ≡ p.free → sets.contains free.held k ≡ true → MayBecomeFree (picked p k) k
picked_free p free owners k fit same held = record {
  low = fit.below k held;
  vacant = fit.vacant k held;
  away = taken_out p.free k;
}

-- more of them are, and then more
pub written_twice : (old mid new : Held Stored) (n m : ℕ) → IsWritten old mid n → IsWritten mid new m → IsWritten old new m
written_twice old mid new n m one two = record {
  more = omega (arith, one.more, two.more, ap (λ (r : Rings). r.written) one.owners);
  keys = two.keys ∙ one.keys;
  owners = two.owners ∙ ap (λ (r : Rings). let q : Rings = record r { written = m } in q) one.owners;
  slots = λ k. two.slots k ∙ one.slots k;
  joined = λ joined. two.joined (one.joined joined);
  passed = two.passed ∙ one.passed;
  stands = two.stands ∙ one.stands;
}

-- a part is seen as before then, but for the slots that are held free
pub seen_written : (p : Part) (old new : Held Stored) (free : sets.FinSet nat_cmp) (written : ℕ) → IsWritten old new written → p.processes ≡ old.owners.homes
    → p.slots ≡ all_slots old.values old.owners.slots → p.keys ≡ old.keys → p.passed ≡ old.passed → p.stands ≡ old.stands
    → (let q : Part = record p { processes = new.owners.homes; slots = all_slots new.values new.owners.slots; keys = new.keys; free = free; passed = new.passed; stands = new.stands } in q)
    ≡ (let q : Part = record p { free = free } in q)
seen_written p old new free written is homes slots keys passed stands = λ i. (let q : Part = record p {
  processes = (ap (λ (r : Rings). r.homes) is.owners ∙ sym homes) i;
  slots = (is.slots new.owners.slots ∙ (ap (λ (r : Rings). all_slots old.values r.slots) is.owners ∙ sym slots)) i;
  keys = (is.keys ∙ sym keys) i;
  free = free;
  passed = (is.passed ∙ sym passed) i;
  stands = (is.stands ∙ sym stands) i;
} in q)

-- and fits
pub fit_written : (old wheel : Held Stored) (free new : FreeSet) (a x o k written : ℕ)
    → AreFieldsFit (all_slots old.values old.owners.slots) old.keys free old.owners a x o → new ≡ record free { held = sets.remove free.held k }
    → IsWritten old wheel written → k < written
    → AreFieldsFit (all_slots wheel.values wheel.owners.slots) wheel.keys new wheel.owners a x o
fit_written old wheel free new a x o k written fit taken is here =
    fit_same (is.slots wheel.owners.slots ∙ ap (λ (r : Rings). all_slots old.values r.slots) is.owners) is.keys is.owners
    (fit_picked (all_slots old.values old.owners.slots) old.keys free new old.owners a x o k written fit taken is.more here)

pub pick_none : (s : sets.FinSet nat_cmp) (o : Option ℕ) → (IsNone o → s ≡ sets.empty)
    → IfNone o ((slot : ℕ) → sets.contains s slot ≡ false)
pick_none s None empty = λ slot. ap (λ t. sets.contains t slot) (empty refl) ∙ sets.contains-empty nat_cmp slot
pick_none s (Some k) empty = tt

pub pick_taken : (p : Part) (free new : FreeSet) (o : Option ℕ) → free.held ≡ p.free
    → IfSome o (λ k. new ≡ record free { held = sets.remove free.held k })
    → IfSome o (λ k. (let q : Part = record p { free = new.held } in q) ≡ picked p k)
pick_taken p free new None same taken = tt
pick_taken p free new (Some k) same taken =
    ap (λ s. let q : Part = record p { free = s } in q) (ap (λ (f : FreeSet). f.held) taken ∙ ap (λ s. sets.remove s k) same)

pub pick_usable : (p : Part) (free new : FreeSet) (owners : Rings) (o : Option ℕ) → AreFieldsFit p.slots p.keys free owners p.arms p.expires p.orphans
    → free.held ≡ p.free → IfSome o (λ k. sets.contains free.held k ≡ true)
    → IfSome o (λ k. new ≡ record free { held = sets.remove free.held k }) → IfSome o (MayBecomeFree (record p { free = new.held }))
pick_usable p free new owners None fit same held taken = tt
pick_usable p free new owners (Some k) fit same held taken =
    let e : sets.remove p.free k ≡ new.held = ap (λ s. sets.remove s k) (sym same) ∙ ap (λ (f : FreeSet). f.held) (sym taken) in
    subst (λ (s : sets.FinSet nat_cmp). MayBecomeFree (record p { free = s }) k) e (picked_free p free owners k fit same held)

pub byte_low : (b : Bool) (n : ℕ) → n ≡ bool_byte b → n ≤ 1
byte_low true n is = omega (arith, is)
byte_low false n is = omega (arith, is)

-- a row has just gone, as its part is seen
pub lost_seen : (seen new : Part) (k : ℕ) (b : Bool) → seen ≡ new → b ≡ true → OnTrue b (LostRow new k) → LostRow seen k
lost_seen seen new k b is hit lost = subst (λ (p : Part). LostRow p k) (sym is) (on_true b (LostRow new k) hit lost)
