-- The links as they are stored, and as they are seen: the heads are stored first, and the slots that aren't written aren't
-- stored.

use Rattle.std.proofs.Common.{map, ◌≡◌, ◌≢◌, ℕ, ◌+◌, ◌-◌, ◌<◌, ◌≤◌, ◌^◌, max, cond, true, List, [], ◌∷◌, ◌++◌, zero, suc, Option, Some, None, IfSome, length, get_or, sym, subst, ◌∙◌, ap, inl, inr, refl, arith}
use Rattle.std.proofs.{lemmas.Bool.{cases_eq, cases_lt, lt-ltb, le-ltb}, lemmas.List.{get_or_default, get_or_push}, lemmas.List.FromFn.{fill_by_all, get_or-map-range_with_len, length-map-range_with_len}, Math.ListN.get_or-eq_default}
use Rattle.std.specs.List.{range_with_len}
use Rattle.ert_wheel.proofs.Parts.{IsHead, head_is, node_is}
use Rattle.ert_wheel.specs.{Chained.{Spliced, Unspliced}, Links.{next_at, prev_at, link_at, lone_link, no_link, node_link, stored_at, stored_node, place_slot, seen_link, seen_links, AreWritten}, Rings.{Rings, rings, seen_rings, Place}}
use Rattle.ert_wheel.specs.{Rings.{AreChains, MayPut, IsOnlyOf, HasOthers, node_slot, shape}, declared.links.Link.Link}

-- where a slot and a head are stored, and what is stored there
slot_stored : (slots homes slot : ℕ) → slot < slots → stored_at slots homes slot ≡ homes + slot
slot_stored slots homes slot low = ap (λ b. cond b (homes + slot) (slot - slots)) (lt-ltb slot slots low)

head_stored : (slots homes home : ℕ) → stored_at slots homes (slots + home) ≡ home
head_stored slots homes home =
    let high : slots ≤ slots + home = omega arith in
    let e : slots + home - slots ≡ home = omega arith in
    ap (λ b. cond b (homes + (slots + home)) (slots + home - slots)) (le-ltb (slots + home) slots high) ∙ e

pub node_of_slot : (slots homes slot : ℕ) → stored_node slots homes (homes + slot) ≡ slot
node_of_slot slots homes slot =
    let high : homes ≤ homes + slot = omega arith in
    let e : homes + slot - homes ≡ slot = omega arith in
    ap (λ b. cond b (slots + (homes + slot)) (homes + slot - homes)) (le-ltb (homes + slot) homes high) ∙ e

node_of_head : (slots homes home : ℕ) → home < homes → stored_node slots homes home ≡ slots + home
node_of_head slots homes home low = ap (λ b. cond b (slots + home) (home - homes)) (lt-ltb home homes low)

-- each node has a place of its own
pub back : (slots homes place : ℕ) → place < slots + homes → stored_at slots homes (stored_node slots homes place) ≡ place
back slots homes place few =
    elim (cases_lt place homes) [
      | inl low ↦ ap (stored_at slots homes) (node_of_head slots homes place low) ∙ head_stored slots homes place
      | inr high ↦
          let slot : ℕ = place - homes in
          let e : homes + slot ≡ place = omega arith in
          ap (λ p. stored_at slots homes (stored_node slots homes p)) (sym e)
          ∙ (ap (stored_at slots homes) (node_of_slot slots homes slot) ∙ (slot_stored slots homes slot (omega (arith, e)) ∙ e))
    ]

forth : (slots homes node : ℕ) → node < slots + homes → stored_node slots homes (stored_at slots homes node) ≡ node
forth slots homes node few =
    elim (cases_lt node slots) [
      | inl low ↦ ap (stored_node slots homes) (slot_stored slots homes node low) ∙ node_of_slot slots homes node
      | inr high ↦
          let home : ℕ = node - slots in
          let e : slots + home ≡ node = omega arith in
          ap (λ n. stored_node slots homes (stored_at slots homes n)) (sym e)
          ∙ (ap (stored_node slots homes) (head_stored slots homes home) ∙ (node_of_head slots homes home (omega (arith, e)) ∙ e))
    ]

pub node_low : (slots homes place : ℕ) → place < slots + homes → stored_node slots homes place < slots + homes
node_low slots homes place few =
    elim (cases_lt place homes) [
      | inl low ↦ omega (arith, node_of_head slots homes place low)
      | inr high ↦
          let slot : ℕ = place - homes in
          let e : homes + slot ≡ place = omega arith in
          let n : stored_node slots homes place ≡ slot = ap (stored_node slots homes) (sym e) ∙ node_of_slot slots homes slot in
          omega (arith, e, n)
    ]

-- the slot of a node, by its place
slot_of_place : (slots homes place : ℕ) → place < slots + homes → place_slot homes place ≡ node_slot slots (stored_node slots homes place)
slot_of_place slots homes place few =
    elim (cases_lt place homes) [
      | inl low ↦
          let high : slots ≤ stored_node slots homes place = omega (arith, node_of_head slots homes place low) in
          ap (λ b. cond b None (Some (place - homes))) (lt-ltb place homes low)
          ∙ sym (ap (λ b. cond b (Some (stored_node slots homes place)) None) (le-ltb (stored_node slots homes place) slots high))
      | inr high ↦
          let slot : ℕ = place - homes in
          let e : homes + slot ≡ place = omega arith in
          let n : stored_node slots homes place ≡ slot = ap (stored_node slots homes) (sym e) ∙ node_of_slot slots homes slot in
          let low : stored_node slots homes place < slots = omega (arith, e, n) in
          ap (λ b. cond b None (Some (place - homes))) (le-ltb place homes high)
          ∙ (ap (λ (m : ℕ). Some m) (sym n)
          ∙ sym (ap (λ b. cond b (Some (stored_node slots homes place)) None) (lt-ltb (stored_node slots homes place) slots low)))
    ]

-- a link that is stored, and one that isn't
written_link : (stored : List Link) (place : ℕ) → place < length stored → node_link stored place ≡ link_at stored place
written_link stored place low = get_or_default stored place (lone_link place) no_link low

unwritten_link : (stored : List Link) (place : ℕ) → length stored ≤ place → node_link stored place ≡ lone_link place
unwritten_link stored place high = get_or-eq_default stored (lone_link place) high

-- the links that are seen
seen_at : (slots homes : ℕ) (stored : List Link) (node : ℕ) → node < slots + homes → link_at (seen_links slots homes stored) node ≡ seen_link slots homes stored node
seen_at slots homes stored node low = get_or-map-range_with_len (seen_link slots homes stored) 0 (slots + homes) node node no_link low (omega arith)

seen_len : (slots homes : ℕ) (stored : List Link) → length (seen_links slots homes stored) ≡ slots + homes
seen_len slots homes stored = length-map-range_with_len (seen_link slots homes stored) 0 (slots + homes)

seen_past : (slots homes : ℕ) (stored : List Link) (node : ℕ) → slots + homes ≤ node → link_at (seen_links slots homes stored) node ≡ no_link
seen_past slots homes stored node high =
    let past : length (seen_links slots homes stored) ≤ node = omega (arith, seen_len slots homes stored) in
    get_or-eq_default (seen_links slots homes stored) no_link past

pub seen_next : (slots homes : ℕ) (stored : List Link) (node : ℕ) → node < slots + homes
    → next_at (seen_links slots homes stored) node ≡ stored_node slots homes (node_link stored (stored_at slots homes node)).next
seen_next slots homes stored node low = ap (λ (l : Link). l.next) (seen_at slots homes stored node low)

pub seen_prev : (slots homes : ℕ) (stored : List Link) (node : ℕ) → node < slots + homes
    → prev_at (seen_links slots homes stored) node ≡ stored_node slots homes (node_link stored (stored_at slots homes node)).prev
seen_prev slots homes stored node low = ap (λ (l : Link). l.prev) (seen_at slots homes stored node low)

-- and those of a node that is stored
pub read_next : (slots homes : ℕ) (stored : List Link) (node place : ℕ) → node < slots + homes → stored_at slots homes node ≡ place → place < length stored
    → next_at (seen_links slots homes stored) node ≡ stored_node slots homes (next_at stored place)
read_next slots homes stored node place few at low =
    seen_next slots homes stored node few
    ∙ (ap (λ p. stored_node slots homes (node_link stored p).next) at ∙ ap (λ (l : Link). stored_node slots homes l.next) (written_link stored place low))

read_prev : (slots homes : ℕ) (stored : List Link) (node place : ℕ) → node < slots + homes → stored_at slots homes node ≡ place → place < length stored
    → prev_at (seen_links slots homes stored) node ≡ stored_node slots homes (prev_at stored place)
read_prev slots homes stored node place few at low =
    seen_prev slots homes stored node few
    ∙ (ap (λ p. stored_node slots homes (node_link stored p).prev) at ∙ ap (λ (l : Link). stored_node slots homes l.prev) (written_link stored place low))

-- where a link isn't written the one that is seen is as it was
same_next : (slots homes : ℕ) (old new : List Link) (x : ℕ) → length new ≡ length old
    → (x < slots + homes → stored_at slots homes x < length old → next_at new (stored_at slots homes x) ≡ next_at old (stored_at slots homes x))
    → next_at (seen_links slots homes new) x ≡ next_at (seen_links slots homes old) x
same_next slots homes old new x long same =
    elim (cases_lt x (slots + homes)) [
      | inl few ↦
          let p : ℕ = stored_at slots homes x in
          let stays : (node_link new p).next ≡ (node_link old p).next =
          elim (cases_lt p (length old)) [
            | inl low ↦ ap (λ (l : Link). l.next) (written_link new p (omega (arith, long))) ∙ (same few low ∙ sym (ap (λ (l : Link). l.next) (written_link old p low)))
            | inr high ↦ ap (λ (l : Link). l.next) (unwritten_link new p (omega (arith, long)) ∙ sym (unwritten_link old p high))
          ] in
          seen_next slots homes new x few ∙ (ap (stored_node slots homes) stays ∙ sym (seen_next slots homes old x few))
      | inr past ↦ ap (λ (l : Link). l.next) (seen_past slots homes new x past ∙ sym (seen_past slots homes old x past))
    ]

same_prev : (slots homes : ℕ) (old new : List Link) (x : ℕ) → length new ≡ length old
    → (x < slots + homes → stored_at slots homes x < length old → prev_at new (stored_at slots homes x) ≡ prev_at old (stored_at slots homes x))
    → prev_at (seen_links slots homes new) x ≡ prev_at (seen_links slots homes old) x
same_prev slots homes old new x long same =
    elim (cases_lt x (slots + homes)) [
      | inl few ↦
          let p : ℕ = stored_at slots homes x in
          let stays : (node_link new p).prev ≡ (node_link old p).prev =
          elim (cases_lt p (length old)) [
            | inl low ↦ ap (λ (l : Link). l.prev) (written_link new p (omega (arith, long))) ∙ (same few low ∙ sym (ap (λ (l : Link). l.prev) (written_link old p low)))
            | inr high ↦ ap (λ (l : Link). l.prev) (unwritten_link new p (omega (arith, long)) ∙ sym (unwritten_link old p high))
          ] in
          seen_prev slots homes new x few ∙ (ap (stored_node slots homes) stays ∙ sym (seen_prev slots homes old x few))
      | inr past ↦ ap (λ (l : Link). l.prev) (seen_past slots homes new x past ∙ sym (seen_past slots homes old x past))
    ]

-- another node has another place
apart : (slots homes x place node : ℕ) → x < slots + homes → stored_node slots homes place ≡ node → x ≢ node → stored_at slots homes x ≢ place
apart slots homes x place node few at ne same = ne (sym (forth slots homes x few) ∙ (ap (stored_node slots homes) same ∙ at))

-- a slot that is put in as it is stored, behind any node, is put in as it is seen
pub spliced_behind : (slots homes cap : ℕ) (old new : List Link) (at slot : ℕ) → AreWritten slots homes old cap → slot < slots → at < length old
    → length new ≡ length old → homes + slot < length old
    → Spliced (next_at old) (prev_at old) (next_at new) (prev_at new) at (homes + slot)
    → Spliced (next_at (seen_links slots homes old)) (prev_at (seen_links slots homes old)) (next_at (seen_links slots homes new)) (prev_at (seen_links slots homes new)) (stored_node slots homes at) slot
spliced_behind slots homes cap old new at slot w low in_old long here s =
    let in_new : at < length new = omega (arith, long) in
    let here' : homes + slot < length new = omega (arith, long) in
    let few : slot < slots + homes = omega arith in
    let at_few : at < slots + homes = omega (arith, w.most) in
    let node : ℕ = stored_node slots homes at in
    let node_few : node < slots + homes = node_low slots homes at at_few in
    let q : ℕ = next_at old at in
    let q_old : q < length old = w.next at in_old in
    let q_new : q < length new = omega (arith, long) in
    let q_few : q < slots + homes = omega (arith, w.most) in
    let slot_at = slot_stored slots homes slot low in
    let node_at = back slots homes at at_few in
    let first : next_at (seen_links slots homes old) node ≡ stored_node slots homes q = read_next slots homes old node at node_few node_at in_old in
    record {
      slot_after = read_next slots homes new slot (homes + slot) few slot_at here' ∙ (ap (stored_node slots homes) s.slot_after ∙ sym first);
      slot_before = read_prev slots homes new slot (homes + slot) few slot_at here' ∙ ap (stored_node slots homes) s.slot_before;
      head_after = read_next slots homes new node at node_few node_at in_new ∙ (ap (stored_node slots homes) s.head_after ∙ node_of_slot slots homes slot);
      next_before = ap (prev_at (seen_links slots homes new)) first
          ∙ (read_prev slots homes new (stored_node slots homes q) q (node_low slots homes q q_few) (back slots homes q q_few) q_new
          ∙ (ap (stored_node slots homes) s.next_before ∙ node_of_slot slots homes slot));
      others_after = λ x ne ne_head. same_next slots homes old new x long
          (λ few _. s.others_after (stored_at slots homes x) (apart slots homes x (homes + slot) slot few (node_of_slot slots homes slot) ne)
          (apart slots homes x at node few refl ne_head));
      others_before = λ x ne ne_next. same_prev slots homes old new x long
          (λ few _. s.others_before (stored_at slots homes x) (apart slots homes x (homes + slot) slot few (node_of_slot slots homes slot) ne)
          (apart slots homes x q (next_at (seen_links slots homes old) node) few (sym first) ne_next));
    }

-- and behind a head
pub spliced_seen : (slots homes cap : ℕ) (old new : List Link) (home slot : ℕ) → AreWritten slots homes old cap → slot < slots → home < homes
    → length new ≡ length old → homes + slot < length old
    → Spliced (next_at old) (prev_at old) (next_at new) (prev_at new) home (homes + slot)
    → Spliced (next_at (seen_links slots homes old)) (prev_at (seen_links slots homes old)) (next_at (seen_links slots homes new)) (prev_at (seen_links slots homes new)) (slots + home) slot
spliced_seen slots homes cap old new home slot w low in_range long here s =
    subst (λ (n : ℕ). Spliced (next_at (seen_links slots homes old)) (prev_at (seen_links slots homes old)) (next_at (seen_links slots homes new)) (prev_at (seen_links slots homes new)) n slot)
    (node_of_head slots homes home in_range)
    (spliced_behind slots homes cap old new home slot w low (omega (arith, w.heads)) long here s)

-- the node before a head
pub last_node : (slots homes cap : ℕ) (stored : List Link) (home : ℕ) → AreWritten slots homes stored cap → home < homes
    → prev_at (seen_links slots homes stored) (slots + home) ≡ stored_node slots homes (prev_at stored home)
last_node slots homes cap stored home w in_range =
    read_prev slots homes stored (slots + home) home (omega arith) (head_stored slots homes home) (omega (arith, w.heads))

-- and so one that is taken out
pub unspliced_seen : (slots homes cap : ℕ) (old new : List Link) (slot : ℕ) → AreWritten slots homes old cap → slot < slots
    → length new ≡ length old → homes + slot < length old
    → Unspliced (next_at old) (prev_at old) (next_at new) (prev_at new) (homes + slot)
    → Unspliced (next_at (seen_links slots homes old)) (prev_at (seen_links slots homes old)) (next_at (seen_links slots homes new)) (prev_at (seen_links slots homes new)) slot
unspliced_seen slots homes cap old new slot w low long here s =
    let here' : homes + slot < length new = omega (arith, long) in
    let few : slot < slots + homes = omega arith in
    let a : ℕ = next_at old (homes + slot) in
    let b : ℕ = prev_at old (homes + slot) in
    let a_old : a < length old = w.next (homes + slot) here in
    let b_old : b < length old = w.prev (homes + slot) here in
    let a_new : a < length new = omega (arith, long) in
    let b_new : b < length new = omega (arith, long) in
    let a_few : a < slots + homes = omega (arith, w.most) in
    let b_few : b < slots + homes = omega (arith, w.most) in
    let slot_at = slot_stored slots homes slot low in
    let of_slot = node_of_slot slots homes slot in
    let after : next_at (seen_links slots homes old) slot ≡ stored_node slots homes a = read_next slots homes old slot (homes + slot) few slot_at here in
    let before : prev_at (seen_links slots homes old) slot ≡ stored_node slots homes b = read_prev slots homes old slot (homes + slot) few slot_at here in
    record {
      slot_after = read_next slots homes new slot (homes + slot) few slot_at here' ∙ (ap (stored_node slots homes) s.slot_after ∙ of_slot);
      slot_before = read_prev slots homes new slot (homes + slot) few slot_at here' ∙ (ap (stored_node slots homes) s.slot_before ∙ of_slot);
      prev_after = λ ne. ap (next_at (seen_links slots homes new)) before
          ∙ (read_next slots homes new (stored_node slots homes b) b (node_low slots homes b b_few) (back slots homes b b_few) b_new
          ∙ (ap (stored_node slots homes) (s.prev_after (λ e. ne (before ∙ (ap (stored_node slots homes) e ∙ of_slot)))) ∙ sym after));
      next_before = λ ne. ap (prev_at (seen_links slots homes new)) after
          ∙ (read_prev slots homes new (stored_node slots homes a) a (node_low slots homes a a_few) (back slots homes a a_few) a_new
          ∙ (ap (stored_node slots homes) (s.next_before (λ e. ne (after ∙ (ap (stored_node slots homes) e ∙ of_slot)))) ∙ sym before));
      others_after = λ x ne ne_prev. same_next slots homes old new x long
          (λ few _. s.others_after (stored_at slots homes x) (apart slots homes x (homes + slot) slot few of_slot ne)
          (apart slots homes x b (prev_at (seen_links slots homes old) slot) few (sym before) ne_prev));
      others_before = λ x ne ne_next. same_prev slots homes old new x long
          (λ few _. s.others_before (stored_at slots homes x) (apart slots homes x (homes + slot) slot few of_slot ne)
          (apart slots homes x a (next_at (seen_links slots homes old) slot) few (sym after) ne_next));
    }

-- what is written keeps to what is stored
pub written_spliced : (slots homes cap : ℕ) (old new : List Link) (head node : ℕ) → AreWritten slots homes old cap → head < length old → node < length old
    → length new ≡ length old → Spliced (next_at old) (prev_at old) (next_at new) (prev_at new) head node → AreWritten slots homes new cap
written_spliced slots homes cap old new head node w in_head in_node long s = record {
  few = w.few;
  few_homes = w.few_homes;
  heads = omega (arith, long, w.heads);
  most = omega (arith, long, w.most);
  room = w.room;
  next = λ p low. subst (λ n. next_at new p < n) (sym long) (next p (omega (arith, long)));
  prev = λ p low. subst (λ n. prev_at new p < n) (sym long) (prev p (omega (arith, long)));
}
  where
    next : (p : ℕ) → p < length old → next_at new p < length old
    next p low =
        elim (cases_eq p node) [
          | inl e ↦ subst (λ n. n < length old) (sym (ap (next_at new) e ∙ s.slot_after)) (w.next head in_head)
          | inr ne ↦ elim (cases_eq p head) [
            | inl e ↦ subst (λ n. n < length old) (sym (ap (next_at new) e ∙ s.head_after)) in_node
            | inr ne' ↦ subst (λ n. n < length old) (sym (s.others_after p ne ne')) (w.next p low)
          ]
        ]

    prev : (p : ℕ) → p < length old → prev_at new p < length old
    prev p low =
        elim (cases_eq p node) [
          | inl e ↦ subst (λ n. n < length old) (sym (ap (prev_at new) e ∙ s.slot_before)) in_head
          | inr ne ↦ elim (cases_eq p (next_at old head)) [
            | inl e ↦ subst (λ n. n < length old) (sym (ap (prev_at new) e ∙ s.next_before)) in_node
            | inr ne' ↦ subst (λ n. n < length old) (sym (s.others_before p ne ne')) (w.prev p low)
          ]
        ]

pub written_unspliced : (slots homes cap : ℕ) (old new : List Link) (node : ℕ) → AreWritten slots homes old cap → node < length old
    → length new ≡ length old → Unspliced (next_at old) (prev_at old) (next_at new) (prev_at new) node → AreWritten slots homes new cap
written_unspliced slots homes cap old new node w in_node long s = record {
  few = w.few;
  few_homes = w.few_homes;
  heads = omega (arith, long, w.heads);
  most = omega (arith, long, w.most);
  room = w.room;
  next = λ p low. subst (λ n. next_at new p < n) (sym long) (next p (omega (arith, long)));
  prev = λ p low. subst (λ n. prev_at new p < n) (sym long) (prev p (omega (arith, long)));
}
  where
    next : (p : ℕ) → p < length old → next_at new p < length old
    next p low =
        elim (cases_eq p node) [
          | inl e ↦ subst (λ n. n < length old) (sym (ap (next_at new) e ∙ s.slot_after)) in_node
          | inr ne ↦ elim (cases_eq p (prev_at old node)) [
            | inl e ↦ subst (λ n. n < length old) (sym (ap (next_at new) e ∙ s.prev_after (λ same. ne (e ∙ same)))) (w.next node in_node)
            | inr ne' ↦ subst (λ n. n < length old) (sym (s.others_after p ne ne')) (w.next p low)
          ]
        ]

    prev : (p : ℕ) → p < length old → prev_at new p < length old
    prev p low =
        elim (cases_eq p node) [
          | inl e ↦ subst (λ n. n < length old) (sym (ap (prev_at new) e ∙ s.slot_before)) in_node
          | inr ne ↦ elim (cases_eq p (next_at old node)) [
            | inl e ↦ subst (λ n. n < length old) (sym (ap (prev_at new) e ∙ s.next_before (λ same. ne (e ∙ same)))) (w.prev node in_node)
            | inr ne' ↦ subst (λ n. n < length old) (sym (s.others_before p ne ne')) (w.prev p low)
          ]
        ]

-- more nodes are stored, each alone
pub record IsGrown (old new : List Link) (count : ℕ) : Type 0 where
  pub long : count ≤ length new
  pub most : length new ≤ max (length old) count
  pub more : length old ≤ length new
  pub same : (node : ℕ) → node_link new node ≡ node_link old node

pub written_grown : (slots homes cap count : ℕ) (old new : List Link) → AreWritten slots homes old cap → count ≤ slots + homes → IsGrown old new count
    → AreWritten slots homes new cap
written_grown slots homes cap count old new w few g = record {
  few = w.few;
  few_homes = w.few_homes;
  heads = omega (arith, w.heads, g.more);
  most = omega (arith, w.most, g.most);
  room = w.room;
  next = λ p low. elim (cases_lt p (length old)) [
    | inl in_old ↦
        let e : next_at new p ≡ next_at old p = ap (λ (l : Link). l.next) (sym (written_link new p low) ∙ (g.same p ∙ written_link old p in_old)) in
        omega (arith, e, w.next p in_old, g.more)
    | inr past ↦
        let e : next_at new p ≡ p = ap (λ (l : Link). l.next) (sym (written_link new p low) ∙ (g.same p ∙ unwritten_link old p past)) in
        omega (arith, e)
  ];
  prev = λ p low. elim (cases_lt p (length old)) [
    | inl in_old ↦
        let e : prev_at new p ≡ prev_at old p = ap (λ (l : Link). l.prev) (sym (written_link new p low) ∙ (g.same p ∙ written_link old p in_old)) in
        omega (arith, e, w.prev p in_old, g.more)
    | inr past ↦
        let e : prev_at new p ≡ p = ap (λ (l : Link). l.prev) (sym (written_link new p low) ∙ (g.same p ∙ unwritten_link old p past)) in
        omega (arith, e)
  ];
}

-- and what is seen is the same
pub seen_grown : (slots homes count : ℕ) (old new : List Link) → IsGrown old new count → seen_links slots homes new ≡ seen_links slots homes old
seen_grown slots homes count old new g = λ i.
    map (λ node. (let l : Link = record {
      next = stored_node slots homes (g.same (stored_at slots homes node) i).next;
      prev = stored_node slots homes (g.same (stored_at slots homes node) i).prev;
    } in l)) (range_with_len 0 (slots + homes))

-- the heads alone are stored at first
pub written_new : (slots homes cap : ℕ) (new : List Link) → slots ≤ 2 ^ 30 → homes ≤ 2 ^ 30 → slots + homes ≤ cap → IsGrown [] new homes → AreWritten slots homes new cap
written_new slots homes cap new few few_homes room g = record {
  few = few;
  few_homes = few_homes;
  heads = g.long;
  most = omega (arith, g.most);
  room = room;
  next = λ p low.
      (let e : next_at new p ≡ p = ap (λ (l : Link). l.next) (sym (written_link new p low) ∙ (g.same p ∙ unwritten_link [] p (omega arith))) in omega (arith, e));
  prev = λ p low.
      (let e : prev_at new p ≡ p = ap (λ (l : Link). l.prev) (sym (written_link new p low) ∙ (g.same p ∙ unwritten_link [] p (omega arith))) in omega (arith, e));
}

-- and each node is seen alone
pub seen_new : (slots homes : ℕ) (new : List Link) → IsGrown [] new homes → seen_links slots homes new ≡ map lone_link (range_with_len 0 (slots + homes))
seen_new slots homes new g =
    fill_by_all lone_link (seen_links slots homes new) (slots + homes) no_link (seen_len slots homes new)
    (λ node low.
    let p : ℕ = stored_at slots homes node in
    let alone : node_link new p ≡ lone_link p = g.same p ∙ unwritten_link [] p (omega arith) in
    seen_at slots homes new node low
    ∙ (λ i. let l : Link = record {
      next = (ap (λ (l : Link). stored_node slots homes l.next) alone ∙ forth slots homes node low) i;
      prev = (ap (λ (l : Link). stored_node slots homes l.prev) alone ∙ forth slots homes node low) i;
    } in l))

-- so only the count of those that are written is another
pub rings_grown : (now : Rings) (slots homes count : ℕ) (old new : List Link) → seen_rings slots homes old ≡ now → length new ≡ homes + count
    → IsGrown old new (homes + count) → seen_rings slots homes new ≡ record now { written = count }
rings_grown now slots homes count old new is long g =
    let more : length new - homes ≡ count = omega (arith, long) in
    (λ i. rings slots homes (more i) (seen_grown slots homes (homes + count) old new g i))
    ∙ ap (λ (r : Rings). let n : Rings = record r { written = count } in n) is

-- the link of a slot that is written is stored
pub stored_low : (slots homes : ℕ) (stored : List Link) (r : Rings) (slot : ℕ) → seen_rings slots homes stored ≡ r → slot < r.written
    → homes + slot < length stored
stored_low slots homes stored r slot is low = omega (arith, ap (λ (r : Rings). r.written) is)

-- a slot that has no place doesn't come after a head
not_next : (r : Rings) (places : ℕ → Option Place) (slot home : ℕ) → AreChains r places → slot < r.slots → home < r.homes → places slot ≡ None
    → slot ≢ next_at r.links (r.slots + home)
not_next r places slot home are low in_range none e =
    let h : IsHead r.slots r.homes places (r.slots + home) = head_is r.slots r.homes places (r.slots + home) (omega arith) (omega arith) in
    elim (node_is r.slots r.homes places (next_at r.links (r.slots + home)) (are.chained.after_on (r.slots + home) h.on)) [
      | inl (p, s) ↦ let bad : None ≡ Some p = sym none ∙ (ap places e ∙ s.has) in cc
      | inr t ↦ absurd (omega (arith, t.high, e))
    ]

-- a slot may be put in where its node is stored
pub record MayLinkIn (homes : ℕ) (stored : List Link) (slot home : ℕ) : Type 0 where
  pub head : home < length stored
  pub node : homes + slot < length stored
  pub next : next_at stored home < length stored
  pub apart : homes + slot ≢ home
  pub new : homes + slot ≢ next_at stored home

pub may_link_in : (r : Rings) (slots homes cap : ℕ) (stored : List Link) (slot home : ℕ) → seen_rings slots homes stored ≡ r
    → MayPut r slot home → slot < r.written → AreWritten slots homes stored cap → MayLinkIn homes stored slot home
may_link_in r slots homes cap stored slot home is may low w =
    let put : MayPut (seen_rings slots homes stored) slot home = subst (λ (r : Rings). MayPut r slot home) (sym is) may in
    let here : home < length stored = omega (arith, w.heads, put.in_range) in
    let few_head : slots + home < slots + homes = omega (arith, put.in_range) in
    let first : next_at (seen_links slots homes stored) (slots + home) ≡ stored_node slots homes (next_at stored home) =
    read_next slots homes stored (slots + home) home few_head (head_stored slots homes home) here in
    record {
      head = here;
      node = stored_low slots homes stored r slot is low;
      next = w.next home here;
      apart = λ e. absurd (omega (arith, e, put.in_range));
      new = λ e. not_next (seen_rings slots homes stored) put.places slot home put.are put.low put.in_range put.out
          (sym (node_of_slot slots homes slot) ∙ (ap (stored_node slots homes) e ∙ sym first));
    }

-- and behind the node before a head
pub record MayLinkLast (homes : ℕ) (stored : List Link) (slot home : ℕ) : Type 0 where
  pub head : home < length stored
  pub last : prev_at stored home < length stored
  pub node : homes + slot < length stored
  pub next : next_at stored (prev_at stored home) < length stored
  pub apart : homes + slot ≢ prev_at stored home
  pub new : homes + slot ≢ next_at stored (prev_at stored home)

pub may_link_last : (r : Rings) (slots homes cap : ℕ) (stored : List Link) (slot home : ℕ) → seen_rings slots homes stored ≡ r
    → MayPut r slot home → slot < r.written → AreWritten slots homes stored cap → MayLinkLast homes stored slot home
may_link_last r slots homes cap stored slot home is may low w =
    let seen : Rings = seen_rings slots homes stored in
    let put : MayPut seen slot home = subst (λ (r : Rings). MayPut r slot home) (sym is) may in
    let here : home < length stored = omega (arith, w.heads, put.in_range) in
    let last : ℕ = prev_at stored home in
    let last_in : last < length stored = w.prev home here in
    let last_few : last < slots + homes = omega (arith, w.most) in
    let before : prev_at seen.links (slots + home) ≡ stored_node slots homes last = last_node slots homes cap stored home w put.in_range in
    let h : IsHead slots homes put.places (slots + home) = head_is slots homes put.places (slots + home) (omega arith) (omega (arith, put.in_range)) in
    let on : (shape slots homes put.places).on (prev_at seen.links (slots + home)) ≡ true = put.are.chained.before_on (slots + home) h.on in
    let after : next_at seen.links (prev_at seen.links (slots + home)) ≡ slots + home = put.are.chained.after_before (slots + home) h.on in
    let next : next_at seen.links (stored_node slots homes last) ≡ stored_node slots homes (next_at stored last) =
    read_next slots homes stored (stored_node slots homes last) last (node_low slots homes last last_few) (back slots homes last last_few) last_in in
    record {
      head = here;
      last = last_in;
      node = stored_low slots homes stored r slot is low;
      next = w.next last last_in;
      apart = λ e.
          let same : prev_at seen.links (slots + home) ≡ slot = before ∙ (ap (stored_node slots homes) (sym e) ∙ node_of_slot slots homes slot) in
          elim (node_is slots homes put.places slot (sym (ap (shape slots homes put.places).on same) ∙ on)) [
            | inl (p, s) ↦ let bad : None ≡ Some p = sym put.out ∙ s.has in cc
            | inr t ↦ absurd (omega (arith, t.high, put.low))
          ];
      new = λ e.
          let same : slots + home ≡ slot =
          sym after ∙ (ap (next_at seen.links) before ∙ (next ∙ (ap (stored_node slots homes) (sym e) ∙ node_of_slot slots homes slot))) in
          absurd (omega (arith, same, put.low));
    }

-- the places of a slot's neighbours
pub next_few : (slots homes cap : ℕ) (stored : List Link) (slot : ℕ) → AreWritten slots homes stored cap → homes + slot < length stored
    → next_at stored (homes + slot) < slots + homes
next_few slots homes cap stored slot w here = omega (arith, w.next (homes + slot) here, w.most)

pub prev_few : (slots homes cap : ℕ) (stored : List Link) (slot : ℕ) → AreWritten slots homes stored cap → homes + slot < length stored
    → prev_at stored (homes + slot) < slots + homes
prev_few slots homes cap stored slot w here = omega (arith, w.prev (homes + slot) here, w.most)

-- how the neighbours of a slot are seen
pub after_seen : (slots homes cap : ℕ) (stored : List Link) (slot : ℕ) → AreWritten slots homes stored cap → homes + slot < length stored
    → stored_node slots homes (next_at stored (homes + slot)) ≡ next_at (seen_links slots homes stored) slot
after_seen slots homes cap stored slot w here =
    let low : slot < slots = omega (arith, w.most) in
    sym (read_next slots homes stored slot (homes + slot) (omega arith) (slot_stored slots homes slot low) here)

pub before_seen : (slots homes cap : ℕ) (stored : List Link) (slot : ℕ) → AreWritten slots homes stored cap → homes + slot < length stored
    → stored_node slots homes (prev_at stored (homes + slot)) ≡ prev_at (seen_links slots homes stored) slot
before_seen slots homes cap stored slot w here =
    let low : slot < slots = omega (arith, w.most) in
    sym (read_prev slots homes stored slot (homes + slot) (omega arith) (slot_stored slots homes slot low) here)

-- a slot is alone as it is seen just where it is as it is stored
pub alone_seen : (slots homes cap : ℕ) (stored : List Link) (slot : ℕ) → AreWritten slots homes stored cap → homes + slot < length stored
    → (next_at stored (homes + slot) ≡ homes + slot → next_at (seen_links slots homes stored) slot ≡ slot)
    × (next_at (seen_links slots homes stored) slot ≡ slot → next_at stored (homes + slot) ≡ homes + slot)
alone_seen slots homes cap stored slot w here =
    let low : slot < slots = omega (arith, w.most) in
    let read = after_seen slots homes cap stored slot w here in (
      λ e. sym read ∙ (ap (stored_node slots homes) e ∙ node_of_slot slots homes slot),
      λ e. sym (back slots homes (next_at stored (homes + slot)) (next_few slots homes cap stored slot w here))
          ∙ (ap (stored_at slots homes) (read ∙ e) ∙ slot_stored slots homes slot low),
    )

-- and those of a head
pub first_seen : (slots homes cap : ℕ) (stored : List Link) (home : ℕ) → AreWritten slots homes stored cap → home < homes
    → stored_node slots homes (next_at stored home) ≡ next_at (seen_links slots homes stored) (slots + home)
first_seen slots homes cap stored home w low =
    sym (read_next slots homes stored (slots + home) home (omega arith) (head_stored slots homes home) (omega (arith, w.heads)))

pub last_seen : (slots homes cap : ℕ) (stored : List Link) (home : ℕ) → AreWritten slots homes stored cap → home < homes
    → stored_node slots homes (prev_at stored home) ≡ prev_at (seen_links slots homes stored) (slots + home)
last_seen slots homes cap stored home w low =
    sym (read_prev slots homes stored (slots + home) home (omega arith) (head_stored slots homes home) (omega (arith, w.heads)))

-- what was found, as it is seen
pub found_seen : (r : Rings) (slots homes place : ℕ) (stored : List Link) (found : Option ℕ) → seen_rings slots homes stored ≡ r
    → place < slots + homes → found ≡ place_slot r.homes place → found ≡ node_slot r.slots (stored_node slots homes place)
found_seen r slots homes place stored found is few e =
    let P : Rings → Type 0 = λ r. found ≡ place_slot r.homes place → found ≡ node_slot r.slots (stored_node slots homes place) in
    subst P is (λ e. e ∙ slot_of_place slots homes place few) e

-- and it is written
pub found_written : (r : Rings) (slots homes place : ℕ) (stored : List Link) (found : Option ℕ) → seen_rings slots homes stored ≡ r
    → place < length stored → found ≡ place_slot r.homes place → IfSome found (λ slot. slot < r.written)
found_written r slots homes place stored found is low e =
    let P : Rings → Type 0 = λ r. found ≡ place_slot r.homes place → IfSome found (λ slot. slot < r.written) in
    subst P is (λ e. subst (λ (o : Option ℕ). IfSome o (λ slot. slot < length stored - homes)) (sym e)
    (elim (cases_lt place homes) [
      | inl head ↦ subst (λ (o : Option ℕ). IfSome o (λ slot. slot < length stored - homes)) (sym (ap (λ b. cond b None (Some (place - homes))) (lt-ltb place homes head))) tt
      | inr high ↦
          let here : place - homes < length stored - homes = omega arith in
          subst (λ (o : Option ℕ). IfSome o (λ slot. slot < length stored - homes)) (sym (ap (λ b. cond b None (Some (place - homes))) (le-ltb place homes high))) here
    ])) e

-- whether a slot is the only one of a home
pub only_seen : (r : Rings) (slots homes cap : ℕ) (stored : List Link) (slot n b : ℕ) → seen_rings slots homes stored ≡ r
    → slot < r.written → AreWritten slots homes stored cap → n ≡ next_at stored (homes + slot) → b ≡ prev_at stored (homes + slot) → n ≡ b → n < homes → IsOnlyOf r slot n
only_seen r slots homes cap stored slot n b is low w next prev same few =
    let here = stored_low slots homes stored r slot is low in
    subst (λ (r : Rings). IsOnlyOf r slot n) is
    (record {
      next = sym (after_seen slots homes cap stored slot w here) ∙ (ap (stored_node slots homes) (sym next) ∙ node_of_head slots homes n few);
      prev = sym (before_seen slots homes cap stored slot w here) ∙ (ap (stored_node slots homes) (sym prev ∙ sym same) ∙ node_of_head slots homes n few);
    })

-- or it isn't: another is beside it, or a slot
pub others_apart : (r : Rings) (slots homes cap : ℕ) (stored : List Link) (slot n b : ℕ) → seen_rings slots homes stored ≡ r
    → slot < r.written → AreWritten slots homes stored cap → n ≡ next_at stored (homes + slot) → b ≡ prev_at stored (homes + slot) → n ≢ b → HasOthers r slot
others_apart r slots homes cap stored slot n b is low w next prev ne =
    let here = stored_low slots homes stored r slot is low in
    let n_few : n < slots + homes = omega (arith, next, next_few slots homes cap stored slot w here) in
    let b_few : b < slots + homes = omega (arith, prev, prev_few slots homes cap stored slot w here) in
    subst (λ (r : Rings). HasOthers r slot) is
    (inl (λ e. ne (sym (back slots homes n n_few)
    ∙ (ap (stored_at slots homes) (ap (stored_node slots homes) next ∙ (after_seen slots homes cap stored slot w here
    ∙ (e ∙ (sym (before_seen slots homes cap stored slot w here) ∙ ap (stored_node slots homes) (sym prev)))))
    ∙ back slots homes b b_few))))

pub others_after : (r : Rings) (slots homes cap : ℕ) (stored : List Link) (slot n : ℕ) → seen_rings slots homes stored ≡ r
    → slot < r.written → AreWritten slots homes stored cap → n ≡ next_at stored (homes + slot) → homes ≤ n → HasOthers r slot
others_after r slots homes cap stored slot n is low w next high =
    let here = stored_low slots homes stored r slot is low in
    let n_few : n < slots + homes = omega (arith, next, next_few slots homes cap stored slot w here) in
    let s : ℕ = n - homes in
    let e : homes + s ≡ n = omega arith in
    let at : next_at (seen_links slots homes stored) slot ≡ s =
    sym (after_seen slots homes cap stored slot w here) ∙ (ap (stored_node slots homes) (sym next ∙ sym e) ∙ node_of_slot slots homes s) in
    subst (λ (r : Rings). HasOthers r slot) is (inr (omega (arith, at, e, n_few)))

-- one more node, alone, is as if it had been stored
pub node_added : (stored : List Link) (node x : ℕ) → length stored ≡ node → node_link (stored ++ lone_link node ∷ []) x ≡ node_link stored x
node_added stored node x long =
    elim (cases_eq x node) [
      | inl e ↦
          ap (node_link (stored ++ lone_link node ∷ [])) e
          ∙ (get_or_push stored (lone_link node) (lone_link node) node long
          ∙ sym (ap (node_link stored) e ∙ get_or-eq_default stored (lone_link node) (omega (arith, long))))
      | inr ne ↦ pushed_other stored (lone_link node) x (lone_link x) (λ e. ne (e ∙ long))
    ]
  where
    pushed_other : (xs : List Link) (y : Link) (j : ℕ) (d : Link) → j ≢ length xs → get_or (xs ++ y ∷ []) j d ≡ get_or xs j d
    pushed_other [] y zero d ne = absurd (ne refl)
    pushed_other [] y (suc j) d ne = refl
    pushed_other (x ∷ xs) y zero d ne = refl
    pushed_other (x ∷ xs) y (suc j) d ne = pushed_other xs y j d (λ e. ne (omega (arith, e)))
