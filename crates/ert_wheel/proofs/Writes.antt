-- What each call that changes a wheel does, in the form in which the calls meet it.

use Rattle.std.proofs.Common.{◌≡◌, ◌≢◌, ◌↔◌, ℕ, ◌+◌, ◌-◌, ◌<◌, ◌≤◌, ◌^◌, cond, count_by, true, false, nat_le, max, min, List, ◌++◌, Option, Some, None, IfSome, map, length, get_or, set, sym, subst, ◌∙◌, ap, inl, inr, refl, arith}
use Rattle.std.proofs.lemmas.{Bool.true≢false, Bool.Decides.leb_tells, List.{ext_get_or, get_or-map, length-map, length-set, set-get_or}, Option.get_or_from_slice_get, List.Sums.count_by-le-length}
use Rattle.std.specs.{Bool.IsTrue, Option.{is_some, IsSome}}
use Rattle.ert_wheel.proofs.{Enters.{IsNewest, entered, numbers_below}, Parts.chains_written, Renumber.numbered, Staying.stays_put, Views.{AreStored, held_at, held_len, key_stored, key_alone, key_apart, held_is, key_set, stored_held}}
use Rattle.ert_wheel.proofs.{Views.{stored_set, stored_less, stored_more, chains_set, counts_more, counts_less, counts_same}}
use Rattle.ert_wheel.specs.{Kept.{KeptSlots, AreAlike}, Levels.{IsLeastBucket, StaysPut}, Links.next_at, Replacing.MovesOrStays, Rings.{Rings, Place, MayPut, Puts, MayTake, GivesUpPlace}, Rows.{Held, key_in, times, due_count, left_at}}
use Rattle.ert_wheel.specs.{Falling.MayMoveOn, Wheels.{no_key, held_keys, stand_on, place_of, places, AreLevelChains, AreOrderedChains, IsWheel, IsWheelKept, IsWheelAlike}, declared.ordered.Ordered.Ordered, declared.row.Key.Key}
use Rattle.ert_wheel.specs.{declared.row.Row.Row, declared.row.TheConstants.{NEVER, BUCKETS}}

-- a wheel as it is seen, and what it stores
pub record Sees (next count : ℕ) (ordered : Ordered) (floor : ℕ) (stored : List Key) (seen : List (Option Key)) (chains : Rings) : Type 0 where
  pub wheel : IsWheel next count ordered seen chains
  pub above : (slot : ℕ) (key : Key) → key_in seen slot ≡ Some key → floor ≤ key.deadline
  pub are_stored : AreStored stored seen

pub sees : {T : Type 0} {next count : ℕ} {ordered : Ordered} {floor : ℕ} {stored : List Key} {chains owners : Rings} {values : List T} {passed : ℕ} {stands : List (Option ℕ)} {held : Held T}
    → IsWheelKept next count ordered floor (held_keys chains stored) chains
    → ◌≡◌ {A = Held T} (record { keys = held_keys chains stored; stands = stands; owners = owners; values = values; passed = passed }) held
    → Sees next count ordered floor stored held.keys chains
sees {T} {next = next} {count = count} {ordered = ordered} {floor = floor} {stored = stored} {chains = chains} w is =
    subst (λ (h : Held T). Sees next count ordered floor stored h.keys chains) is
    (record { wheel = w.wheel; above = w.above; are_stored = stored_held chains stored })

-- where a slot that is written stands
pub record IsLowIn (stored : List Key) (seen : List (Option Key)) (buckets owners : Rings) (slot : ℕ) : Type 0 where
  pub low_key : slot < length seen
  pub low_record : slot < length stored
  pub low_bucket : slot < buckets.written
  pub low_owner : slot < owners.written
  pub is_slot : slot < owners.slots

pub low_in : {T : Type 0} {next count : ℕ} {ordered : Ordered} {floor : ℕ} {kept : KeptSlots T} {buckets owners : Rings} {values : List T} {passed : ℕ} {stands : List (Option ℕ)} {held : Held T} (slot : ℕ)
    → IsWheelAlike next count ordered floor kept buckets owners
    → ◌≡◌ {A = Held T} (record { keys = held_keys buckets kept.keys; stands = stands; owners = owners; values = values; passed = passed }) held
    → slot < held.owners.written → IsLowIn kept.keys held.keys buckets owners slot
low_in {T} {kept = kept} {buckets = buckets} slot w is low =
    let owned = ap (λ (h : Held T). h.owners.written) is in
    let wide = ap (λ (h : Held T). length h.keys) is in
    record {
      low_key = omega (arith, low, owned, wide, held_len buckets kept.keys, w.alike.owned, w.alike.most);
      low_record = omega (arith, low, owned, w.alike.owned, w.alike.records);
      low_bucket = omega (arith, low, owned, w.alike.owned);
      low_owner = omega (arith, low, owned);
      is_slot = omega (arith, low, owned, w.alike.most_owned);
    }

-- a slot that has a row is written
pub row_written : {T : Type 0} {next count : ℕ} {ordered : Ordered} {floor : ℕ} {kept : KeptSlots T} {buckets owners : Rings} {values : List T} {passed : ℕ} {stands : List (Option ℕ)} {held : Held T} (slot : ℕ) (key : Key)
    → IsWheelAlike next count ordered floor kept buckets owners
    → ◌≡◌ {A = Held T} (record { keys = held_keys buckets kept.keys; stands = stands; owners = owners; values = values; passed = passed }) held
    → key_in held.keys slot ≡ Some key → slot < held.owners.written
row_written {T} {kept = kept} {buckets = buckets} slot key w is has =
    let low = key_stored buckets kept.keys slot key (ap (λ (h : Held T). key_in h.keys slot) is ∙ has) in
    omega (arith, low, ap (λ (h : Held T). h.owners.written) is, w.alike.owned, w.alike.records)

-- slots are written alike where no more are than before
pub alike_after : {T : Type 0} {kept new : KeptSlots T} {buckets owners buckets' owners' : Rings} → AreAlike kept buckets owners
    → length new.keys ≡ length kept.keys → new.room ≡ kept.room → buckets'.slots ≡ buckets.slots → buckets'.written ≡ buckets.written
    → owners'.written ≡ owners.written → owners'.slots ≡ owners.slots → AreAlike new buckets' owners'
alike_after a keys room slots written owned few = record {
  records = omega (arith, a.records, keys, written);
  owned = omega (arith, a.owned, owned, written);
  most = omega (arith, a.most, slots, written);
  most_owned = omega (arith, a.most_owned, owned, few);
  room = omega (arith, a.room, room, slots);
}

-- the parts of what is held
abbrev pub keys_of : {T : Type 0} → Held T → List (Option Key)
keys_of h = h.keys

abbrev pub stands_of : {T : Type 0} → Held T → List (Option ℕ)
stands_of h = h.stands

abbrev pub owners_of : {T : Type 0} → Held T → Rings
owners_of h = h.owners

abbrev pub passed_of : {T : Type 0} → Held T → ℕ
passed_of h = h.passed

-- what is stored, where it is told otherwise
pub stored_as : {next count : ℕ} {ordered : Ordered} {floor : ℕ} {stored other : List Key} {seen : List (Option Key)} {chains : Rings}
    → other ≡ stored → Sees next count ordered floor stored seen chains → Sees next count ordered floor other seen chains
stored_as {next = next} {count = count} {ordered = ordered} {floor = floor} {seen = seen} {chains = chains} same s =
    subst (λ (keys : List Key). Sees next count ordered floor keys seen chains) (sym same) s

-- this is held
pub is_held : {next count : ℕ} {ordered : Ordered} {floor : ℕ} {stored : List Key} {seen : List (Option Key)} {chains : Rings}
    → Sees next count ordered floor stored seen chains → held_keys chains stored ≡ seen
is_held {next = next} {stored = stored} {seen = seen} {chains = chains} s =
    held_is chains (stand_on next s.wheel.are.level s.wheel.are.time s.wheel.are.rank) stored seen s.wheel.slots s.are_stored s.wheel.are.are

pub is_kept : {next count : ℕ} {ordered : Ordered} {floor : ℕ} {stored : List Key} {seen : List (Option Key)} {chains : Rings}
    → Sees next count ordered floor stored seen chains → IsWheelKept next count ordered floor (held_keys chains stored) chains
is_kept {next = next} {count = count} {ordered = ordered} {floor = floor} {chains = chains} s =
    subst (λ (ks : List (Option Key)). IsWheelKept next count ordered floor ks chains) (sym (is_held s)) (record { wheel = s.wheel; above = s.above })

-- where more is known of the order of the next bucket
pub sees_ordered : {T : Type 0} {next count : ℕ} {ordered now : Ordered} {floor passed : ℕ} {stored : List Key} {chains owners new : Rings} {values : List T} {stands : List (Option ℕ)} {held : Held T}
    → IsWheelKept next count ordered floor (held_keys chains stored) chains
    → ◌≡◌ {A = Held T} (record { keys = held_keys chains stored; stands = stands; owners = owners; values = values; passed = passed }) held
    → ((n : ℕ) → IsWheel next n ordered (held_keys chains stored) chains → IsWheel next n now (held_keys chains stored) new)
    → Sees next count now floor stored held.keys new
sees_ordered {T} {next} {count} {ordered} {now} {floor} {passed} {stored} {chains} {owners} {new} {values} {stands} {held} w is orders =
    subst (λ (h : Held T). Sees next count now floor stored h.keys new) is
    (record { wheel = orders count w.wheel; above = w.above; are_stored = stored_held chains stored })

-- what is held where other chains hold the same keys in the same buckets
pub same_held : {T : Type 0} {keys other : List (Option Key)} {stands there : List (Option ℕ)} {owners : Rings} {values : List T} {passed : ℕ} {held : Held T}
    → other ≡ keys → there ≡ stands
    → ◌≡◌ {A = Held T} (record { keys = keys; stands = stands; owners = owners; values = values; passed = passed }) held
    → ◌≡◌ {A = Held T} (record { keys = other; stands = there; owners = owners; values = values; passed = passed }) held
same_held {T} {keys} {other} {stands} {there} {owners} {values} {passed} {held} same same' is =
    ap (λ (ks : List (Option Key)). record { keys = ks; stands = there; owners = owners; values = values; passed = passed }) same
    ∙ (ap (λ (st : List (Option ℕ)). record { keys = keys; stands = st; owners = owners; values = values; passed = passed }) same' ∙ is)

-- a slot without a row can be put into a chain
pub may_put : {next count : ℕ} {ordered : Ordered} {floor : ℕ} {stored : List Key} {seen : List (Option Key)} {chains : Rings} {slot home : ℕ}
    → Sees next count ordered floor stored seen chains → slot < length seen → key_in seen slot ≡ None → home < BUCKETS
    → MayPut chains slot home
may_put {next = next} {seen = seen} s low vacant in_range = record {
  places = places (stand_on next s.wheel.are.level s.wheel.are.time s.wheel.are.rank) seen;
  are = s.wheel.are.are;
  low = omega (arith, s.wheel.slots);
  in_range = omega (arith, s.wheel.homes);
  out = ap (place_of (stand_on next s.wheel.are.level s.wheel.are.time s.wheel.are.rank)) vacant;
}

-- the count of rows leaves room for one more where a slot has none
pub count_fits : {next count : ℕ} {ordered : Ordered} {floor : ℕ} {stored : List Key} {seen : List (Option Key)} {chains : Rings} (slot : ℕ) (key : Key)
    → Sees next count ordered floor stored seen chains → slot < length seen → key_in seen slot ≡ None → count + 1 < 2 ^ 32
count_fits {seen = seen} slot key s low vacant = omega (
  arith,
  s.wheel.counts,
  s.wheel.few,
  counts_more seen slot key low vacant,
  length-set seen slot (Some key),
  count_by-le-length is_some (set seen slot (Some key)),
)

-- what a row that is stored needs
pub record CanStore (seen : List (Option Key)) (slot : ℕ) (key : Key) : Type 0 where
  pub low : slot < length seen
  pub deadline : key.deadline < NEVER
  pub order : key.order < 2 ^ 64
  pub newest : (j : ℕ) → IfSome (key_in seen j) (λ k. k.order < key.order)

is_newest : {slot : ℕ} {seen : List (Option Key)} {key : Key} → CanStore seen slot key → IsNewest seen slot key
is_newest can = record { low = can.low; newest = can.newest; order = can.order }

-- the wheel with another row of a slot, or its first
stored_row : {next count count' : ℕ} {ordered : Ordered} {floor floor' : ℕ} {stored : List Key} {seen : List (Option Key)} {chains new : Rings} {slot : ℕ} {key : Key}
    → Sees next count ordered floor stored seen chains → CanStore seen slot key → slot < length stored
    → new.slots ≡ chains.slots → new.homes ≡ chains.homes
    → floor' ≡ min floor key.deadline → count' ≡ count_by is_some (set seen slot (Some key))
    → AreOrderedChains next ordered new (set seen slot (Some key))
    → Sees next count' ordered floor' (set stored slot key) (set seen slot (Some key)) new
stored_row {next = next} {stored = stored} {seen = seen} {new = new} {slot = slot} {key = key} s can written slots homes low' counts are = record {
  are_stored = stored_set stored seen slot key s.are_stored written can.low;
  above = λ j k has. elim (key_set seen slot (Some key) j k can.low has) [
    | inl (here, some) ↦ let same : key ≡ k = cc in omega (arith, ap (λ (x : Key). x.deadline) same)
    | inr (ne, was) ↦ omega (arith, s.above j k was)
  ];
  wheel = record {
    slots = length-set seen slot (Some key) ∙ s.wheel.slots ∙ sym slots;
    few = omega (arith, length-set seen slot (Some key), s.wheel.few);
    homes = homes ∙ s.wheel.homes;
    time = s.wheel.time;
    counts = counts;
    low = λ j k has. elim (key_set seen slot (Some key) j k can.low has) [
      | inl (here, some) ↦ let same : key ≡ k = cc in subst (λ (x : Key). x.deadline < NEVER) same can.deadline
      | inr (ne, was) ↦ s.wheel.low j k was
    ];
    are = are;
  };
}

-- the wheel with a row put in
pub inserted : {next count : ℕ} {ordered : Ordered} {floor floor' : ℕ} {stored : List Key} {seen : List (Option Key)} {chains new : Rings} {slot : ℕ} {key : Key} {home : ℕ}
    → Sees next count ordered floor stored seen chains → CanStore seen slot key → slot < length stored → key_in seen slot ≡ None
    → IsLeastBucket next (max key.deadline next) home
    → new.slots ≡ chains.slots → new.homes ≡ chains.homes → Puts chains new slot home → floor' ≡ min floor key.deadline
    → Sees next (count + 1) ordered floor' (set stored slot key) (set seen slot (Some key)) new
inserted {next = next} {seen = seen} {chains = chains} {slot = slot} {key = key} s can written vacant b slots homes puts low' =
    let a = s.wheel.are in
    let n = numbered chains seen (stand_on next a.level a.time a.rank) s.wheel.slots s.wheel.few a.are in
    stored_row s can written slots homes low' (ap (λ n. n + 1) s.wheel.counts ∙ sym (counts_more seen slot key can.low vacant))
    (entered a n (is_newest can) b.least b.is
    (puts (places (stand_on next a.level a.time n.rank) seen) (chains.slots + 1) n.are (ap (place_of (stand_on next a.level a.time n.rank)) vacant)
    (omega (arith, s.wheel.slots, s.wheel.few)) (numbers_below n)))

-- the key that a slot has is the one that is stored
pub held_stored : {next count : ℕ} {ordered : Ordered} {floor : ℕ} {stored : List Key} {seen : List (Option Key)} {chains : Rings} (slot : ℕ)
    → Sees next count ordered floor stored seen chains → (o : Option Key) → key_in seen slot ≡ o → IsSome o → key_in seen slot ≡ Some (get_or stored slot no_key)
held_stored slot s None is held = absurd (true≢false (sym held))
held_stored {stored = stored} slot s (Some key) is held =
    is ∙ ap (λ (k : Key). Some k) (sym (get_or_from_slice_get stored slot key no_key (s.are_stored slot key is)))

-- the wheel with another row of a slot
pub replaced : {next count : ℕ} {ordered : Ordered} {floor floor' was : ℕ} {stored : List Key} {seen : List (Option Key)} {chains new : Rings} {slot : ℕ} {key : Key}
    → Sees next count ordered floor stored seen chains → CanStore seen slot key → slot < length stored → IsSome (key_in seen slot)
    → was ≡ (get_or stored slot no_key).deadline → MovesOrStays next was (max key.deadline next) chains new slot
    → new.slots ≡ chains.slots → new.homes ≡ chains.homes → floor' ≡ min floor key.deadline
    → Sees next count ordered floor' (set stored slot key) (set seen slot (Some key)) new
replaced {next = next} {ordered = ordered} {stored = stored} {seen = seen} {chains = chains} {new = new} {slot = slot} {key = key} s can written held was_is moves slots homes low' =
    let a = s.wheel.are in
    stored_row s can written slots homes low' (s.wheel.counts ∙ sym (counts_same seen slot key can.low held))
    (elim moves [
      | inl stays ↦
          subst (λ (r : Rings). AreOrderedChains next ordered r (set seen slot (Some key))) (sym stays.same)
          (stays_put (record {
            new = is_newest can;
            has = held_stored slot s (key_in seen slot) refl held;
            put = subst (λ (w : ℕ). StaysPut next w (max key.deadline next)) was_is stays.put;
          }) a)
      | inr m ↦
          let n = numbered chains seen (stand_on next a.level a.time a.rank) s.wheel.slots s.wheel.few a.are in
          entered a n (is_newest can) m.least.least m.least.is
          (m.moves (places (stand_on next a.level a.time n.rank) seen) (chains.slots + 1) n.are
          (omega (arith, s.wheel.slots, s.wheel.few)) (numbers_below n))
    ])

-- where a slot is alone it has no row, and else the one that is stored
pub looks_alone : {next count : ℕ} {ordered : Ordered} {floor : ℕ} {stored : List Key} {seen : List (Option Key)} {chains : Rings} {slot : ℕ}
    → Sees next count ordered floor stored seen chains → slot < length seen → next_at chains.links slot ≡ slot → key_in seen slot ≡ None
looks_alone {stored = stored} {chains = chains} {slot = slot} s low e =
    ap (λ (ks : List (Option Key)). key_in ks slot) (sym (is_held s)) ∙ held_at chains stored slot (omega (arith, s.wheel.slots))
    ∙ key_alone chains.links stored slot e

pub looks_apart : {next count : ℕ} {ordered : Ordered} {floor : ℕ} {stored : List Key} {seen : List (Option Key)} {chains : Rings} {slot : ℕ}
    → Sees next count ordered floor stored seen chains → slot < length seen → slot < length stored → next_at chains.links slot ≢ slot
    → key_in seen slot ≡ Some (get_or stored slot no_key)
looks_apart {stored = stored} {chains = chains} {slot = slot} s low written ne =
    ap (λ (ks : List (Option Key)). key_in ks slot) (sym (is_held s)) ∙ held_at chains stored slot (omega (arith, s.wheel.slots))
    ∙ key_apart chains.links stored slot written ne

pub may_take : {next count : ℕ} {ordered : Ordered} {floor : ℕ} {stored : List Key} {seen : List (Option Key)} {chains : Rings} {slot : ℕ}
    → Sees next count ordered floor stored seen chains → slot < length seen → MayTake chains slot
may_take {next = next} {seen = seen} s low = record {
  places = places (stand_on next s.wheel.are.level s.wheel.are.time s.wheel.are.rank) seen;
  are = s.wheel.are.are;
  low = omega (arith, s.wheel.slots);
}

-- one row at least is counted
pub count_holds : {next count : ℕ} {ordered : Ordered} {floor : ℕ} {stored : List Key} {seen : List (Option Key)} {chains : Rings} {slot : ℕ} {key : Key}
    → Sees next count ordered floor stored seen chains → slot < length seen → key_in seen slot ≡ Some key → 1 ≤ count
count_holds {seen = seen} {slot = slot} {key = key} s low held =
    omega (arith, s.wheel.counts, counts_less seen slot key low held)

-- the chains without it
left_chains : {next : ℕ} {ordered : Ordered} {slot : ℕ} {seen : List (Option Key)} {chains new : Rings} → slot < length seen → AreOrderedChains next ordered chains seen
    → GivesUpPlace chains new slot → AreOrderedChains next ordered new (set seen slot None)
left_chains {next} {ordered} {slot} {seen} {chains} {new} low a takes =
    let was : (j : ℕ) (k : Key) → key_in (set seen slot None) j ≡ Some k → key_in seen j ≡ Some k =
    λ j k has. elim (key_set seen slot None j k low has)
    [ inl (e, none) ↦ let no : None ≡ Some k = none in cc | inr (ne, was) ↦ was ] in
    let spot : Key → Place = stand_on next a.level a.time a.rank in
    record {
      level = a.level;
      time = a.time;
      rank = a.rank;
      levelled = record {
        fit = λ j k has. a.levelled.fit j k (was j k has);
        early = λ j k has. a.levelled.early j k (was j k has);
        exact = λ j k has lowest. a.levelled.exact j k (was j k has) lowest;
        once = λ i j x y has has' same. a.levelled.once i j x y (was i x has) (was j y has') same;
        bounded = λ j k has. a.levelled.bounded j k (was j k has);
      };
      are = chains_set new spot seen slot None low (takes (places spot seen) a.are);
      in_order = λ is all i j x y has has'. a.in_order is all i j x y (was i x has) (was j y has');
      rises = λ is first has_first due i j x y has has'. a.rises is first (was ordered.rising first has_first) due i j x y (was i x has) (was j y has');
    }

-- the wheel with a row taken out
pub removed : {next count : ℕ} {ordered : Ordered} {floor : ℕ} {stored : List Key} {seen : List (Option Key)} {chains new : Rings} {slot : ℕ} {key : Key}
    → Sees next count ordered floor stored seen chains → slot < length seen → key_in seen slot ≡ Some key
    → new.slots ≡ chains.slots → new.homes ≡ chains.homes → GivesUpPlace chains new slot
    → Sees next (count - 1) ordered floor stored (set seen slot None) new
removed {next = next} {stored = stored} {seen = seen} {new = new} {slot = slot} {key = key} s low held slots homes takes = record {
  are_stored = stored_less stored seen slot s.are_stored low;
  above = λ j k has. elim (key_set seen slot None j k low has)
      [ inl (e, none) ↦ let no : None ≡ Some k = none in cc | inr (ne, was) ↦ s.above j k was ];
  wheel = record {
    slots = length-set seen slot None ∙ s.wheel.slots ∙ sym slots;
    few = omega (arith, length-set seen slot None, s.wheel.few);
    homes = homes ∙ s.wheel.homes;
    time = s.wheel.time;
    counts = omega (arith, s.wheel.counts, counts_less seen slot key low held);
    low = λ j k has. elim (key_set seen slot None j k low has)
        [ inl (e, none) ↦ let no : None ≡ Some k = none in cc | inr (ne, was) ↦ s.wheel.low j k was ];
    are = left_chains low s.wheel.are takes;
  };
}

-- whether there is a row
pub found_none : (key : Option Key) → key ≡ None → IsTrue false ↔ IsSome key
found_none key none =
    subst (λ (o : Option Key). IsTrue false ↔ IsSome o) (sym none) (λ f. absurd (true≢false (sym f)), λ s. absurd (true≢false (sym s)))

pub found_some : (found : Option Key) (key : Key) → found ≡ Some key → IsTrue true ↔ IsSome found
found_some found key some = subst (λ (o : Option Key). IsTrue true ↔ IsSome o) (sym some) (λ _. refl, λ _. refl)

-- where there is no row, taking it out changes nothing
pub vacant_view : (seen : List (Option Key)) (slot : ℕ) → key_in seen slot ≡ None → seen ≡ set seen slot None
vacant_view seen slot none = sym (set-get_or seen slot None) ∙ ap (set seen slot) none

-- the chains, whatever the order of a bucket
pub level_chains : {next : ℕ} {ordered : Ordered} {keys : List (Option Key)} {chains : Rings} → AreOrderedChains next ordered chains keys → AreLevelChains next 1 chains keys
level_chains a = record { level = a.level; time = a.time; rank = a.rank; levelled = a.levelled; are = a.are }

-- and where none is known to be in order
abbrev pub unordered : ℕ → Ordered
unordered rising = record { time = NEVER; rising = rising }

pub ordered_never : {next rising : ℕ} {keys : List (Option Key)} {chains : Rings} → next < NEVER → AreLevelChains next 1 chains keys
    → AreOrderedChains next (unordered rising) chains keys
ordered_never early a = record {
  level = a.level;
  time = a.time;
  rank = a.rank;
  levelled = a.levelled;
  are = a.are;
  in_order = λ is. absurd (omega (arith, is, early));
  rises = λ is. absurd (omega (arith, is, early));
}

-- time may move on where all that is passed is gone
pub may_move : {next next' count : ℕ} {ordered : Ordered} {keys : List (Option Key)} {chains : Rings} (to : ℕ) → IsWheel next count ordered keys chains
    → ((j : ℕ) → IfSome (key_in keys j) (λ key. to < key.deadline)) → next ≤ next' → next' ≤ max next (to + 1)
    → next' < NEVER → MayMoveOn chains keys next next'
may_move to w none up low fits = record {
  may = record { slots = w.slots; few = w.few; homes = w.homes; time = w.time; low = w.low; are = level_chains w.are };
  up = up;
  time = fits;
  left = λ j key has.
      let later : to < key.deadline = subst (λ (o : Option Key). IfSome o (λ k. to < k.deadline)) has (none j) in
      omega arith;
}

-- and the wheel after that
pub moved : {next next' count : ℕ} {ordered : Ordered} {floor floor' : ℕ} {stored : List Key} {seen : List (Option Key)} {chains new : Rings} (to after rising : ℕ)
    → Sees next count ordered floor stored seen chains → ((j : ℕ) → IfSome (key_in seen j) (λ key. to < key.deadline))
    → after ≤ to + 1 → floor' ≡ max floor after
    → next' < NEVER → new.slots ≡ chains.slots → new.homes ≡ chains.homes
    → AreLevelChains next' 1 new seen → Sees next' count (unordered rising) floor' stored seen new
moved to after rising s none low up fits slots homes are = record {
  are_stored = s.are_stored;
  above = λ j key has.
      let later : to < key.deadline = subst (λ (o : Option Key). IfSome o (λ k. to < k.deadline)) has (none j) in
      omega (arith, s.above j key has);
  wheel = record {
    slots = s.wheel.slots ∙ sym slots;
    few = s.wheel.few;
    homes = homes ∙ s.wheel.homes;
    time = fits;
    counts = s.wheel.counts;
    low = s.wheel.low;
    are = ordered_never fits are;
  };
}

-- the wheel where more slots are written
pub grown : {next count : ℕ} {ordered : Ordered} {floor : ℕ} {stored : List Key} {seen : List (Option Key)} {chains : Rings} (more : List Key) (written : ℕ)
    → Sees next count ordered floor stored seen chains → Sees next count ordered floor (stored ++ more) seen (record chains { written = written })
grown {next = next} {stored = stored} {seen = seen} {chains = chains} more written s = record {
  are_stored = stored_more stored more seen s.are_stored;
  above = s.above;
  wheel = record {
    slots = s.wheel.slots;
    few = s.wheel.few;
    homes = s.wheel.homes;
    time = s.wheel.time;
    counts = s.wheel.counts;
    low = s.wheel.low;
    are = record {
      level = s.wheel.are.level;
      time = s.wheel.are.time;
      rank = s.wheel.are.rank;
      levelled = s.wheel.are.levelled;
      in_order = s.wheel.are.in_order;
      rises = s.wheel.are.rises;
      are = chains_written chains written (places (stand_on next s.wheel.are.level s.wheel.are.time s.wheel.are.rank) seen) s.wheel.are.are;
    };
  };
}

-- a wheel whose due rows were taken out has left what isn't due
pub record TakesOut {T : Type 0} (old now : Held T) (rows : List Row) : Type 0 where
  pub len : length now.keys ≡ length old.keys
  pub stays : (j : ℕ) → times j rows ≡ 0 → key_in now.keys j ≡ key_in old.keys j
  pub gone : (j : ℕ) → 0 < times j rows → key_in now.keys j ≡ None
  pub owners : now.owners ≡ old.owners
  pub values : now.values ≡ old.values
  pub passed : now.passed ≡ old.passed

left_of : (to : ℕ) (was : Option Key) (count : ℕ) (now : Option Key) → count ≡ due_count to was
    → (count ≡ 0 → now ≡ was) → (0 < count → now ≡ None) → now ≡ left_at to was
left_of to None count now e stays gone = stays e
left_of to (Some key) count now e stays gone =
    elim (leb_tells key.deadline to) [
      | inl (t, due) ↦
          let one : ◌≡◌ {A = ℕ} (cond (nat_le key.deadline to) 1 0) 1 = ap (λ b. cond b 1 0) t in
          gone (omega (arith, e, one)) ∙ sym (ap (λ b. cond b None (Some key)) t)
      | inr (f, later) ↦
          let none : ◌≡◌ {A = ℕ} (cond (nat_le key.deadline to) 1 0) 0 = ap (λ b. cond b 1 0) f in
          stays (e ∙ none) ∙ sym (ap (λ b. cond b None (Some key)) f)
    ]

pub taken_out : {T : Type 0} (to : ℕ) (old now : Held T) (rows : List Row) → TakesOut old now rows
    → ((j : ℕ) → times j rows ≡ due_count to (key_in old.keys j)) → now.keys ≡ map (left_at to) old.keys
taken_out to old now rows t each =
    ext_get_or None now.keys (map (left_at to) old.keys) (t.len ∙ sym (length-map old.keys (left_at to))) (λ j low.
    left_of to (key_in old.keys j) (times j rows) (key_in now.keys j) (each j) (t.stays j) (t.gone j)
    ∙ sym (get_or-map (left_at to) old.keys j None None (omega (arith, t.len))))
