-- What each call on chains does, in the form in which the calls meet it.

use Rattle.std.proofs.Common.{map, ◌≡◌, ◌↔◌, ℕ, ◌+◌, ◌-◌, ◌<◌, ◌≤◌, ◌^◌, Bool, true, false, not, cond, List, Option, Some, None, length, get_or, sym, subst, ◌∙◌, ap, inl, inr, refl, arith}
use Rattle.std.proofs.lemmas.{Bool.{cases_lt, lt-ltb, le-ltb, false≢true}, List.FromFn.get_or-map-range_with_len}
use Rattle.std.specs.{Bool.IsTrue, List.range_with_len, Option.IsSome}
use Rattle.ert_wheel.proofs.Parts.{IsSlot, IsHead, slot_is, head_is, node_is, placed_apart, behind_head, behind_oldest, put_chains, take_chains}
use Rattle.ert_wheel.specs.{Chained.{Shape, Spliced, Unspliced}, Links.{next_at, prev_at, lone_link, no_link, stored_node, seen_links, AreWritten}, Rings.{Rings, rings, seen_rings, Place, order_of, shape, AreChains, MayPut, Puts}}
use Rattle.ert_wheel.specs.{Rings.{PutsInHome, PutsOldestInHome, GivesUpPlace, node_slot, Finds, FindsOldest}, declared.links.Link.Link}
use Rattle.ert_wheel.proofs.Stored.{spliced_seen, spliced_behind, last_node, stored_low, unspliced_seen, written_spliced, written_unspliced}

-- a slot is put in: `lent` is what the links are while they are written
pub splices : (old : Rings) (slots homes written : ℕ) (before lent after : List Link) (slot home : ℕ)
    → rings slots homes written before ≡ old → lent ≡ before
    → Spliced (next_at lent) (prev_at lent) (next_at after) (prev_at after) (slots + home) slot
    → Spliced (next_at old.links) (prev_at old.links) (next_at after) (prev_at after) (old.slots + home) slot
splices old slots homes written before lent after slot home is e spliced =
    subst (λ (r : Rings). Spliced (next_at r.links) (prev_at r.links) (next_at after) (prev_at after) (r.slots + home) slot) is
    (subst (λ (l : List Link). Spliced (next_at l) (prev_at l) (next_at after) (prev_at after) (slots + home) slot) e spliced)

pub puts : (old : Rings) (slots homes written : ℕ) (before after : List Link) (slot home : ℕ)
    → rings slots homes written before ≡ old → slot < old.slots → home < old.homes
    → Spliced (next_at old.links) (prev_at old.links) (next_at after) (prev_at after) (old.slots + home) slot
    → PutsInHome old (rings slots homes written after) slot home
puts old slots homes written before after slot home is low in_range spliced =
    subst (λ (r : Rings). PutsInHome old r slot home) (sym (ap (λ (r : Rings). let n : Rings = record r { links = after } in n) is))
    (λ places order are out fits apart above. put_chains old places slot home order (old.slots + home) after
    (behind_head old places slot home order
    (record { are = are; low = low; in_range = in_range; out = out; fits = fits; apart = apart }) above)
    spliced)

-- and with an order below all others of the home
pub puts_oldest : (old : Rings) (slots homes written : ℕ) (before after : List Link) (slot home : ℕ)
    → rings slots homes written before ≡ old → slot < old.slots → home < old.homes
    → Spliced (next_at old.links) (prev_at old.links) (next_at after) (prev_at after) (prev_at old.links (old.slots + home)) slot
    → PutsOldestInHome old (rings slots homes written after) slot home
puts_oldest old slots homes written before after slot home is low in_range spliced =
    subst (λ (r : Rings). PutsOldestInHome old r slot home) (sym (ap (λ (r : Rings). let n : Rings = record r { links = after } in n) is))
    (λ places order are out fits apart below. put_chains old places slot home order (prev_at old.links (old.slots + home)) after
    (behind_oldest old places slot home order
    (record { are = are; low = low; in_range = in_range; out = out; fits = fits; apart = apart }) below)
    spliced)

-- and with an order above all others
pub puts_newest : (old new : Rings) (slot home : ℕ) → PutsInHome old new slot home → Puts old new slot home
puts_newest old new slot home puts places order are out fits above =
    puts places order are out fits (λ j p h e. absurd (omega (arith, above j p h))) (λ j p h at. above j p h)

-- a slot is taken out
pub unsplices : (old : Rings) (slots homes written : ℕ) (before lent after : List Link) (slot : ℕ)
    → rings slots homes written before ≡ old → lent ≡ before
    → Unspliced (next_at lent) (prev_at lent) (next_at after) (prev_at after) slot
    → Unspliced (next_at old.links) (prev_at old.links) (next_at after) (prev_at after) slot
unsplices old slots homes written before lent after slot is e unspliced =
    subst (λ (r : Rings). Unspliced (next_at r.links) (prev_at r.links) (next_at after) (prev_at after) slot) is
    (subst (λ (l : List Link). Unspliced (next_at l) (prev_at l) (next_at after) (prev_at after) slot) e unspliced)

pub takes : (old : Rings) (slots homes written : ℕ) (before after : List Link) (slot : ℕ)
    → rings slots homes written before ≡ old → slot < old.slots
    → Unspliced (next_at old.links) (prev_at old.links) (next_at after) (prev_at after) slot
    → GivesUpPlace old (rings slots homes written after) slot
takes old slots homes written before after slot is low unspliced =
    subst (λ (r : Rings). GivesUpPlace old r slot) (sym (ap (λ (r : Rings). let n : Rings = record r { links = after } in n) is))
    (λ places are. take_chains old places slot after are low unspliced)

-- a slot is put in where it is stored
pub record IsPutIn (now : Rings) (slots homes cap : ℕ) (after : List Link) (slot home : ℕ) : Type 0 where
  pub written : AreWritten slots homes after cap
  pub spliced : Spliced (next_at now.links) (prev_at now.links) (next_at (seen_links slots homes after)) (prev_at (seen_links slots homes after)) (now.slots + home) slot
  pub in_home : PutsInHome now (seen_rings slots homes after) slot home

pub put_stored : (now : Rings) (slots homes cap : ℕ) (before lent after : List Link) (slot home : ℕ)
    → seen_rings slots homes before ≡ now → MayPut now slot home → slot < now.written
    → AreWritten slots homes before cap → lent ≡ before → length after ≡ length lent
    → Spliced (next_at lent) (prev_at lent) (next_at after) (prev_at after) home (homes + slot) → IsPutIn now slots homes cap after slot home
put_stored now slots homes cap before lent after slot home is may low w e long s =
    let put : MayPut (seen_rings slots homes before) slot home = subst (λ (r : Rings). MayPut r slot home) (sym is) may in
    let here : homes + slot < length before = stored_low slots homes before now slot is low in
    let s' = subst (λ (l : List Link). Spliced (next_at l) (prev_at l) (next_at after) (prev_at after) home (homes + slot)) e s in
    let long' : length after ≡ length before = long ∙ ap length e in
    let spliced = splices now slots homes (length before - homes) (seen_links slots homes before) (seen_links slots homes before) (seen_links slots homes after) slot home is refl
    (spliced_seen slots homes cap before after home slot w put.low put.in_range long' here s') in
    record {
      written = written_spliced slots homes cap before after home (homes + slot) w (omega (arith, w.heads, put.in_range)) here long' s';
      spliced = spliced;
      in_home = subst (λ n. PutsInHome now (rings slots homes (n - homes) (seen_links slots homes after)) slot home) (sym long')
          (puts now slots homes (length before - homes) (seen_links slots homes before) (seen_links slots homes after) slot home is may.low may.in_range spliced);
    }

-- and as the oldest of its home
pub record IsPutOldest (now : Rings) (slots homes cap : ℕ) (after : List Link) (slot home : ℕ) : Type 0 where
  pub written : AreWritten slots homes after cap
  pub spliced : Spliced (next_at now.links) (prev_at now.links) (next_at (seen_links slots homes after)) (prev_at (seen_links slots homes after))
      (prev_at now.links (now.slots + home)) slot
  pub in_home : PutsOldestInHome now (seen_rings slots homes after) slot home

pub put_oldest_stored : (now : Rings) (slots homes cap : ℕ) (before lent after : List Link) (slot home last : ℕ)
    → seen_rings slots homes before ≡ now → MayPut now slot home → slot < now.written
    → AreWritten slots homes before cap → lent ≡ before → length after ≡ length lent → last ≡ prev_at before home
    → Spliced (next_at lent) (prev_at lent) (next_at after) (prev_at after) last (homes + slot) → IsPutOldest now slots homes cap after slot home
put_oldest_stored now slots homes cap before lent after slot home last is may low w e long is_last s =
    let put : MayPut (seen_rings slots homes before) slot home = subst (λ (r : Rings). MayPut r slot home) (sym is) may in
    let here : homes + slot < length before = stored_low slots homes before now slot is low in
    let at : last < length before = omega (arith, is_last, w.prev home (omega (arith, w.heads, put.in_range))) in
    let s' = subst (λ (l : List Link). Spliced (next_at l) (prev_at l) (next_at after) (prev_at after) last (homes + slot)) e s in
    let long' : length after ≡ length before = long ∙ ap length e in
    let node : stored_node slots homes last ≡ prev_at (seen_links slots homes before) (slots + home) =
    ap (stored_node slots homes) is_last ∙ sym (last_node slots homes cap before home w put.in_range) in
    let seen = subst (λ (n : ℕ). Spliced (next_at (seen_links slots homes before)) (prev_at (seen_links slots homes before)) (next_at (seen_links slots homes after)) (prev_at (seen_links slots homes after)) n slot) node
    (spliced_behind slots homes cap before after last slot w put.low at long' here s') in
    let spliced : Spliced (next_at now.links) (prev_at now.links) (next_at (seen_links slots homes after)) (prev_at (seen_links slots homes after)) (prev_at now.links (now.slots + home)) slot =
    subst (λ (r : Rings). Spliced (next_at r.links) (prev_at r.links) (next_at (seen_links slots homes after)) (prev_at (seen_links slots homes after)) (prev_at r.links (r.slots + home)) slot) is seen in
    record {
      written = written_spliced slots homes cap before after last (homes + slot) w at here long' s';
      spliced = spliced;
      in_home = subst (λ n. PutsOldestInHome now (rings slots homes (n - homes) (seen_links slots homes after)) slot home) (sym long')
          (puts_oldest now slots homes (length before - homes) (seen_links slots homes before) (seen_links slots homes after) slot home is may.low may.in_range spliced);
    }

-- a slot is taken out where it is stored
pub record IsTakenOut (now : Rings) (slots homes cap : ℕ) (after : List Link) (slot : ℕ) : Type 0 where
  pub written : AreWritten slots homes after cap
  pub unspliced : Unspliced (next_at now.links) (prev_at now.links) (next_at (seen_links slots homes after)) (prev_at (seen_links slots homes after)) slot
  pub gives_up : GivesUpPlace now (seen_rings slots homes after) slot

pub take_stored : (now : Rings) (slots homes cap : ℕ) (before lent after : List Link) (slot : ℕ)
    → seen_rings slots homes before ≡ now → slot < now.slots → slot < now.written
    → AreWritten slots homes before cap → lent ≡ before → length after ≡ length lent
    → Unspliced (next_at lent) (prev_at lent) (next_at after) (prev_at after) (homes + slot) → IsTakenOut now slots homes cap after slot
take_stored now slots homes cap before lent after slot is few low w e long s =
    let few' : slot < slots = subst (λ (r : Rings). slot < r.slots) (sym is) few in
    let here : homes + slot < length before = stored_low slots homes before now slot is low in
    let s' = subst (λ (l : List Link). Unspliced (next_at l) (prev_at l) (next_at after) (prev_at after) (homes + slot)) e s in
    let long' : length after ≡ length before = long ∙ ap length e in
    let unspliced = unsplices now slots homes (length before - homes) (seen_links slots homes before) (seen_links slots homes before) (seen_links slots homes after) slot is refl
    (unspliced_seen slots homes cap before after slot w few' long' here s') in
    record {
      written = written_unspliced slots homes cap before after (homes + slot) w here long' s';
      unspliced = unspliced;
      gives_up = subst (λ n. GivesUpPlace now (rings slots homes (n - homes) (seen_links slots homes after)) slot) (sym long')
          (takes now slots homes (length before - homes) (seen_links slots homes before) (seen_links slots homes after) slot is few unspliced);
    }

-- a slot isn't alone just where it has a place
pub is_placed : (r : Rings) (slot : ℕ) (lone_link : Bool) (places : ℕ → Option Place) → AreChains r places → slot < r.slots
    → IsTrue lone_link ↔ (next_at r.links slot ≡ slot) → IsTrue (not lone_link) ↔ IsSome (places slot)
is_placed r slot lone_link places are low tells = at lone_link (places slot) refl tells
  where
    at : (b : Bool) (o : Option Place) → places slot ≡ o → IsTrue b ↔ (next_at r.links slot ≡ slot) → IsTrue (not b) ↔ IsSome o
    at false None none tells = (λ t. absurd (false≢true (tells.1 (are.alone slot low none).forth)), λ s. absurd (false≢true s))
    at false (Some place) has tells = (λ t. refl, λ s. refl)
    at true None none tells = (λ t. absurd (false≢true t), λ s. absurd (false≢true s))
    at true (Some place) has tells = absurd (placed_apart r places slot place are low has (tells.0 refl))

-- what comes after a slot is a node
pub after_in_range : (r : Rings) (places : ℕ → Option Place) (slot : ℕ) → AreChains r places → slot < r.slots
    → next_at r.links slot < r.slots + r.homes
after_in_range r places slot are low = at (places slot) refl
  where
    at : (o : Option Place) → places slot ≡ o → next_at r.links slot < r.slots + r.homes
    at None none = omega (arith, (are.alone slot low none).forth)
    at (Some place) has =
        let s : IsSlot r.slots r.homes places slot place = slot_is r.slots r.homes places slot place low has in
        elim (node_is r.slots r.homes places (next_at r.links slot) (are.chained.after_on slot s.on))
        [ inl (p, t) ↦ omega (arith, t.low) | inr t ↦ t.few ]

-- no slot of the chain is between a node and the next
greatest_of : (r : Rings) (places : ℕ → Option Place) (x home bound : ℕ) → AreChains r places
    → (shape r.slots r.homes places).on x ≡ true → (shape r.slots r.homes places).home x ≡ home
    → (shape r.slots r.homes places).top x ≡ bound → (j : ℕ) (p : Place) → j < r.slots → places j ≡ Some p
    → p.home ≡ home → p.order < bound → p.order < (shape r.slots r.homes places).low (next_at r.links x)
greatest_of r places x home bound are on at_home top j p low has same lower =
    let s : IsSlot r.slots r.homes places j p = slot_is r.slots r.homes places j p low has in
    let e : (shape r.slots r.homes places).home j ≡ (shape r.slots r.homes places).home x =
    s.at_home ∙ same ∙ sym at_home in
    let below : (shape r.slots r.homes places).top j < (shape r.slots r.homes places).top x =
    omega (arith, s.top, top) in
    let found : (shape r.slots r.homes places).top j < (shape r.slots r.homes places).low (next_at r.links x) =
    are.chained.least x j on low s.on e below in
    omega (arith, s.top)

-- a look from a node finds the next of its chain
finds : (r : Rings) (places : ℕ → Option Place) (x home bound : ℕ) → AreChains r places
    → (shape r.slots r.homes places).on x ≡ true → (shape r.slots r.homes places).home x ≡ home
    → (shape r.slots r.homes places).top x ≡ bound
    → Finds r places home bound (node_slot r.slots (next_at r.links x))
finds r places x home bound are on at_home top =
    let n : ℕ = next_at r.links x in
    let down : (shape r.slots r.homes places).low n ≤ (shape r.slots r.homes places).top x = are.chained.down x on in
    elim (node_is r.slots r.homes places n (are.chained.after_on x on)) [
      | inl (p, s) ↦
          let some : Some n ≡ node_slot r.slots n = sym (ap (λ b. cond b (Some n) None) (lt-ltb n r.slots s.low)) in
          let e : order_of (places n) ≡ p.order = ap order_of s.has in
          subst (λ (f : Option ℕ). Finds r places home bound f) some
          (record {
            stands = (s.low, record { place = p; has = s.has; at_home = sym s.at_home ∙ are.chained.home x on ∙ at_home });
            down = omega (arith, s.bound);
            greatest = λ j p low has same lower.
                omega (arith, s.bound, greatest_of r places x home bound are on at_home top j p low has same lower);
          })
      | inr h ↦
          let none : None ≡ node_slot r.slots n = sym (ap (λ b. cond b (Some n) None) (le-ltb n r.slots h.high)) in
          subst (λ (f : Option ℕ). Finds r places home bound f) none
          (record {
            stands = tt;
            down = omega arith;
            greatest = λ j p low has same lower.
                omega (arith, h.bound, greatest_of r places x home bound are on at_home top j p low has same lower);
          })
    ]

-- a look from a home's head, and from a slot
pub newest_at : (r : Rings) (home : ℕ) → home < r.homes → (places : ℕ → Option Place) → AreChains r places
    → Finds r places home (2 ^ 64) (node_slot r.slots (next_at r.links (r.slots + home)))
newest_at r home low places are =
    let h : IsHead r.slots r.homes places (r.slots + home) =
    head_is r.slots r.homes places (r.slots + home) (omega arith) (omega arith) in
    let same : (shape r.slots r.homes places).home (r.slots + home) ≡ home = omega (arith, h.at_home) in
    finds r places (r.slots + home) home (2 ^ 64) are h.on same h.top

older_at : (r : Rings) (slot : ℕ) → slot < r.slots → (places : ℕ → Option Place) (place : Place)
    → AreChains r places → places slot ≡ Some place
    → Finds r places place.home place.order (node_slot r.slots (next_at r.links slot))
older_at r slot low places place are has =
    let s : IsSlot r.slots r.homes places slot place = slot_is r.slots r.homes places slot place low has in
    finds r places slot place.home place.order are s.on s.at_home s.top

pub finds_newest : (n : Rings) (slots homes written : ℕ) (links lent : List Link) (home node : ℕ) (found : Option ℕ)
    → rings slots homes written links ≡ n → lent ≡ links → home < n.homes
    → node ≡ next_at lent (slots + home) → found ≡ node_slot n.slots node → (places : ℕ → Option Place)
    → AreChains n places → Finds n places home (2 ^ 64) found
finds_newest n slots homes written links lent home node found is same low read e places are =
    let P : Rings → Type 0 = λ n. home < n.homes → found ≡ node_slot n.slots node → AreChains n places
    → Finds n places home (2 ^ 64) found in
    let r : Rings = rings slots homes written links in
    subst P is
    (λ low e are.
    let is_found : found ≡ node_slot slots (next_at links (slots + home)) =
    e ∙ ap (node_slot slots) (read ∙ ap (λ (l : List Link). next_at l (slots + home)) same) in
    subst (λ (f : Option ℕ). Finds r places home (2 ^ 64) f) (sym is_found) (newest_at r home low places are))
    low e are

pub finds_older : (n : Rings) (slots homes written : ℕ) (links lent : List Link) (slot node : ℕ) (found : Option ℕ)
    → rings slots homes written links ≡ n → lent ≡ links → slot < n.slots
    → node ≡ next_at lent slot → found ≡ node_slot n.slots node → (places : ℕ → Option Place)
    (place : Place) → AreChains n places → places slot ≡ Some place
    → Finds n places place.home place.order found
finds_older n slots homes written links lent slot node found is same low read e places place are in_place =
    let P : Rings → Type 0 = λ n. slot < n.slots → found ≡ node_slot n.slots node → AreChains n places
    → Finds n places place.home place.order found in
    let r : Rings = rings slots homes written links in
    subst P is
    (λ low e are.
    let is_found : found ≡ node_slot slots (next_at links slot) =
    e ∙ ap (node_slot slots) (read ∙ ap (λ (l : List Link). next_at l slot) same) in
    subst (λ (f : Option ℕ). Finds r places place.home place.order f) (sym is_found) (older_at r slot low places place are in_place))
    low e are

-- a look back from a node finds the oldest slot of its home that is newer
finds_back : (r : Rings) (x : ℕ) (places : ℕ → Option Place) (home bound : ℕ) → AreChains r places
    → (shape r.slots r.homes places).on x ≡ true → (shape r.slots r.homes places).home x ≡ home
    → (shape r.slots r.homes places).low x ≡ bound
    → FindsOldest r places home bound (node_slot r.slots (prev_at r.links x))
finds_back r x places home bound are x_on x_home x_low =
    let a : Shape = shape r.slots r.homes places in
    let n : ℕ = prev_at r.links x in
    let on : a.on n ≡ true = are.chained.before_on x x_on in
    let back : next_at r.links n ≡ x = are.chained.after_before x x_on in
    let same : a.home n ≡ home = sym (are.chained.home n on) ∙ ap a.home back ∙ x_home in
    let last : a.low (next_at r.links n) ≡ bound = ap a.low back ∙ x_low in
    let least : (j : ℕ) (p : Place) → j < r.slots → places j ≡ Some p → p.home ≡ home → bound ≤ p.order → a.top n ≤ p.order =
    λ j p below has at high. (let s : IsSlot r.slots r.homes places j p = slot_is r.slots r.homes places j p below has in
    elim (cases_lt (a.top j) (a.top n)) [
      | inl less ↦ absurd (omega (arith, last, high, s.top, are.chained.least n j on below s.on (s.at_home ∙ at ∙ sym same) less))
      | inr more ↦ omega (arith, s.top)
    ]) in
    elim (node_is r.slots r.homes places n on) [
      | inl (p, s) ↦
          let some : Some n ≡ node_slot r.slots n = sym (ap (λ b. cond b (Some n) None) (lt-ltb n r.slots s.low)) in
          let e : order_of (places n) ≡ p.order = ap order_of s.has in
          subst (λ (f : Option ℕ). FindsOldest r places home bound f) some
          (record {
            stands = (s.low, record { place = p; has = s.has; at_home = sym s.at_home ∙ same });
            up = omega (arith, e, s.top, last, are.chained.down n on);
            least = λ j q below has at high. omega (arith, s.top, least j q below has at high);
            none = λ no. (let bad : Some n ≡ None = no in cc);
          })
      | inr t ↦
          let none : None ≡ node_slot r.slots n = sym (ap (λ b. cond b (Some n) None) (le-ltb n r.slots t.high)) in
          subst (λ (f : Option ℕ). FindsOldest r places home bound f) none
          (record {
            stands = tt;
            up = tt;
            least = tt;
            none = λ _ j q below has at.
                elim (cases_lt q.order bound) [
                  | inl low ↦ low
                  | inr high ↦ absurd (omega (arith, t.top, least j q below has at high, are.orders j q has))
                ];
          })
    ]

-- from a home's head that is its oldest
oldest_at : (r : Rings) (home : ℕ) → home < r.homes → (places : ℕ → Option Place) → AreChains r places
    → FindsOldest r places home 0 (node_slot r.slots (prev_at r.links (r.slots + home)))
oldest_at r home low places are =
    let h : IsHead r.slots r.homes places (r.slots + home) =
    head_is r.slots r.homes places (r.slots + home) (omega arith) (omega arith) in
    finds_back r (r.slots + home) places home 0 are h.on (h.at_home ∙ omega arith) h.bound

-- and from a slot the next newer one
newer_at : (r : Rings) (slot : ℕ) → slot < r.slots → (places : ℕ → Option Place) (place : Place)
    → AreChains r places → places slot ≡ Some place
    → FindsOldest r places place.home (place.order + 1) (node_slot r.slots (prev_at r.links slot))
newer_at r slot low places place are has =
    let s : IsSlot r.slots r.homes places slot place = slot_is r.slots r.homes places slot place low has in
    finds_back r slot places place.home (place.order + 1) are s.on s.at_home s.bound

pub finds_oldest : (n : Rings) (slots homes written : ℕ) (links lent : List Link) (home node : ℕ) (found : Option ℕ)
    → rings slots homes written links ≡ n → lent ≡ links → home < n.homes
    → node ≡ prev_at lent (slots + home) → found ≡ node_slot n.slots node → (places : ℕ → Option Place)
    → AreChains n places → FindsOldest n places home 0 found
finds_oldest n slots homes written links lent home node found is same low read e places are =
    let P : Rings → Type 0 = λ n. home < n.homes → found ≡ node_slot n.slots node → AreChains n places
    → FindsOldest n places home 0 found in
    let r : Rings = rings slots homes written links in
    subst P is
    (λ low e are.
    let is_found : found ≡ node_slot slots (prev_at links (slots + home)) =
    e ∙ ap (node_slot slots) (read ∙ ap (λ (l : List Link). prev_at l (slots + home)) same) in
    subst (λ (f : Option ℕ). FindsOldest r places home 0 f) (sym is_found) (oldest_at r home low places are))
    low e are

pub finds_newer : (n : Rings) (slots homes written : ℕ) (links lent : List Link) (slot node : ℕ) (found : Option ℕ)
    → rings slots homes written links ≡ n → lent ≡ links → slot < n.slots
    → node ≡ prev_at lent slot → found ≡ node_slot n.slots node → (places : ℕ → Option Place)
    (place : Place) → AreChains n places → places slot ≡ Some place
    → FindsOldest n places place.home (place.order + 1) found
finds_newer n slots homes written links lent slot node found is same low read e places place are in_place =
    let P : Rings → Type 0 = λ n. slot < n.slots → found ≡ node_slot n.slots node → AreChains n places
    → FindsOldest n places place.home (place.order + 1) found in
    let r : Rings = rings slots homes written links in
    subst P is
    (λ low e are.
    let is_found : found ≡ node_slot slots (prev_at links slot) =
    e ∙ ap (node_slot slots) (read ∙ ap (λ (l : List Link). prev_at l slot) same) in
    subst (λ (f : Option ℕ). FindsOldest r places place.home (place.order + 1) f) (sym is_found) (newer_at r slot low places place are in_place))
    low e are

-- nodes that are alone
pub links_alone : (n x : ℕ) → x < n → get_or (map lone_link (range_with_len 0 n)) x no_link ≡ record { next = x; prev = x }
links_alone n x low = get_or-map-range_with_len lone_link 0 n x x no_link low (omega arith)

-- where no slot has a place only heads are on
only_heads : (slots homes x : ℕ) → (shape slots homes (λ _. None)).on x ≡ true → IsHead slots homes (λ _. None) x
only_heads slots homes x on =
    elim (node_is slots homes (λ _. None) x on)
    [ inl (p, s) ↦ let none : None ≡ Some p = s.has in cc | inr h ↦ h ]

-- all chains empty
pub empty_chains : (slots homes : ℕ)
    → AreChains (rings slots homes 0 (map lone_link (range_with_len 0 (slots + homes)))) (λ _. None)
empty_chains slots homes =
    let a : Shape = shape slots homes (λ _. None) in
    let links : List Link = map lone_link (range_with_len 0 (slots + homes)) in
    let is : (x : ℕ) → x < slots + homes → get_or links x no_link ≡ record { next = x; prev = x } =
    λ x low. links_alone (slots + homes) x low in
    let next : (x : ℕ) → a.on x ≡ true → next_at links x ≡ x =
    λ x on. ap (λ (l : Link). l.next) (is x (only_heads slots homes x on).few) in
    let prev : (x : ℕ) → a.on x ≡ true → prev_at links x ≡ x =
    λ x on. ap (λ (l : Link). l.prev) (is x (only_heads slots homes x on).few) in
    record {
      orders = λ j p h. (let none : None ≡ Some p = h in cc);
      once = λ i j p q h k e. (let none : None ≡ Some p = h in cc);
      chained = record {
        after_on = λ x on. ap a.on (next x on) ∙ on;
        before_on = λ x on. ap a.on (prev x on) ∙ on;
        after_before = λ x on. ap (next_at links) (prev x on) ∙ next x on;
        before_after = λ x on. ap (prev_at links) (next x on) ∙ prev x on;
        home = λ x on. ap a.home (next x on);
        down = λ x on. (let e : a.low (next_at links x) ≡ a.low x = ap a.low (next x on) in
            omega (arith, (only_heads slots homes x on).bound));
        least = λ x j on low held same lower. absurd (omega (arith, (only_heads slots homes j held).high));
      };
      alone = λ j low none. record {
        forth = ap (λ (l : Link). l.next) (is j (omega arith));
        back = ap (λ (l : Link). l.prev) (is j (omega arith));
      };
    }
