-- Chains by their places: what is at a node, and a slot put in or taken out.

use Rattle.std.proofs.Common.{◌≡◌, ◌≢◌, ◌⊎◌, ℕ, ◌+◌, ◌-◌, ◌<◌, ◌≤◌, ◌^◌, true, false, cond, List, Option, Some, None, nat_lt, sym, subst, ◌∙◌, ap, inl, inr, refl, arith}
use Rattle.std.proofs.lemmas.Bool.{cases_eq, cases_lt, lt-ltb, le-ltb, ltb-true, eq-eqb, ne_eqb, false≢true}
use Rattle.std.specs.Option.{is_some}
use Rattle.ert_wheel.proofs.{Splice.{GoesIn, inserted}, Unsplice.{GoesOut, removed}}
use Rattle.ert_wheel.specs.{Chained.{Shape, Chained, Changed, Alone, Spliced, Unspliced}, Links.{next_at, prev_at}, Rings.{Rings, Place, home_of, order_of, by_node, shape, AreChains, with_place}, declared.links.Link.Link}

-- what a slot has, and what a head has
by_slot : {A : Type 0} (slots : ℕ) (of_place : Option Place → A) (of_head : ℕ → A)
    (places : ℕ → Option Place) (x : ℕ) → x < slots → by_node slots of_place of_head places x ≡ of_place (places x)
by_slot slots of_place of_head places x low =
    ap (λ b. cond b (of_place (places x)) (of_head x)) (lt-ltb x slots low)

by_head : {A : Type 0} (slots : ℕ) (of_place : Option Place → A) (of_head : ℕ → A)
    (places : ℕ → Option Place) (x : ℕ) → slots ≤ x → by_node slots of_place of_head places x ≡ of_head x
by_head slots of_place of_head places x high =
    ap (λ b. cond b (of_place (places x)) (of_head x)) (le-ltb x slots high)

-- a slot that has a place
pub record IsSlot (slots homes : ℕ) (places : ℕ → Option Place) (x : ℕ) (place : Place) : Type 0 where
  pub low : x < slots
  pub has : places x ≡ Some place
  pub on : (shape slots homes places).on x ≡ true
  pub at_home : (shape slots homes places).home x ≡ place.home
  pub top : (shape slots homes places).top x ≡ place.order
  pub bound : (shape slots homes places).low x ≡ place.order + 1

-- a home's head
pub record IsHead (slots homes : ℕ) (places : ℕ → Option Place) (x : ℕ) : Type 0 where
  pub high : slots ≤ x
  pub few : x < slots + homes
  pub on : (shape slots homes places).on x ≡ true
  pub at_home : (shape slots homes places).home x ≡ x - slots
  pub top : (shape slots homes places).top x ≡ 2 ^ 64
  pub bound : (shape slots homes places).low x ≡ 0

pub slot_is : (slots homes : ℕ) (places : ℕ → Option Place) (x : ℕ) (p : Place) → x < slots
    → places x ≡ Some p → IsSlot slots homes places x p
slot_is slots homes places x p low has = record {
  low = low;
  has = has;
  on = by_slot slots is_some (λ x. nat_lt x (slots + homes)) places x low ∙ ap is_some has;
  at_home = by_slot slots home_of (λ x. x - slots) places x low ∙ ap home_of has;
  top = by_slot slots order_of (λ _. 2 ^ 64) places x low ∙ ap order_of has;
  bound = by_slot slots (λ p. order_of p + 1) (λ _. 0) places x low ∙ ap (λ p. order_of p + 1) has;
}

pub head_is : (slots homes : ℕ) (places : ℕ → Option Place) (x : ℕ) → slots ≤ x → x < slots + homes
    → IsHead slots homes places x
head_is slots homes places x high few = record {
  high = high;
  few = few;
  on = by_head slots is_some (λ x. nat_lt x (slots + homes)) places x high ∙ lt-ltb x (slots + homes) few;
  at_home = by_head slots home_of (λ x. x - slots) places x high;
  top = by_head slots order_of (λ _. 2 ^ 64) places x high;
  bound = by_head slots (λ p. order_of p + 1) (λ _. 0) places x high;
}

-- where a test finds a value, there is one
some_place : (o : Option Place) → is_some o ≡ true → (p : Place) × (o ≡ Some p)
some_place None h = absurd (false≢true h)
some_place (Some p) h = (p, refl)

-- what is on is one of both
pub node_is : (slots homes : ℕ) (places : ℕ → Option Place) (x : ℕ)
    → (shape slots homes places).on x ≡ true
    → ((p : Place) × IsSlot slots homes places x p) ⊎ IsHead slots homes places x
node_is slots homes places x on =
    elim (cases_lt x slots) [
      | inl low ↦
          let found : (p : Place) × (places x ≡ Some p) =
          some_place (places x) (sym (by_slot slots is_some (λ x. nat_lt x (slots + homes)) places x low) ∙ on) in
          inl (found.0, slot_is slots homes places x found.0 low found.1)
      | inr high ↦
          inr (head_is slots homes places x high
          (ltb-true x (slots + homes) (sym (by_head slots is_some (λ x. nat_lt x (slots + homes)) places x high) ∙ on)))
    ]

-- a change of one place
pub with_place_here : (places : ℕ → Option Place) (slot : ℕ) (place : Option Place)
    → with_place places slot place slot ≡ place
with_place_here places slot place =
    ap (λ b. cond b place (places slot)) (eq-eqb slot slot refl)

pub with_place_there : (places : ℕ → Option Place) (slot : ℕ) (place : Option Place) (x : ℕ) → x ≢ slot
    → with_place places slot place x ≡ places x
with_place_there places slot place x ne = ap (λ b. cond b place (places x)) (ne_eqb x slot ne)

pub changed_at : {A : Type 0} (slots : ℕ) (of_place : Option Place → A) (of_head : ℕ → A)
    (places : ℕ → Option Place) (slot : ℕ) (place : Option Place) → slot < slots
    → Changed (by_node slots of_place of_head places) (by_node slots of_place of_head (with_place places slot place)) slot (of_place place)
changed_at slots of_place of_head places slot place low = record {
  here =
      by_slot slots of_place of_head (with_place places slot place) slot low
      ∙ ap of_place (with_place_here places slot place);
  there = λ x ne.
      ap (λ p. cond (nat_lt x slots) (of_place p) (of_head x)) (with_place_there places slot place x ne);
}

-- who has a place after one was given
pub has_place : (places : ℕ → Option Place) (slot : ℕ) (new : Place) (j : ℕ) (p : Place)
    → with_place places slot (Some new) j ≡ Some p
    → ((j ≡ slot) × (new ≡ p)) ⊎ ((j ≢ slot) × (places j ≡ Some p))
has_place places slot new j p h =
    elim (cases_eq j slot) [
      | inl e ↦
          let at_slot : Some new ≡ Some p =
          sym (ap (with_place places slot (Some new)) e ∙ with_place_here places slot (Some new)) ∙ h in
          inl (e, cc)
      | inr ne ↦ inr (ne, sym (with_place_there places slot (Some new) j ne) ∙ h)
    ]

-- who has one after one was given up
pub kept_place : (places : ℕ → Option Place) (slot : ℕ) (j : ℕ) (p : Place)
    → with_place places slot None j ≡ Some p → places j ≡ Some p
kept_place places slot j p h =
    elim (cases_eq j slot) [
      | inl e ↦
          let none : None ≡ Some p = sym (ap (with_place places slot None) e ∙ with_place_here places slot None) ∙ h in
          cc
      | inr ne ↦ sym (with_place_there places slot None j ne) ∙ h
    ]

-- what is needed to give a slot a place behind a node of its home
pub record CanPutBehind (r : Rings) (places : ℕ → Option Place) (slot home order node : ℕ) : Type 0 where
  pub are : AreChains r places
  pub low : slot < r.slots
  pub in_range : home < r.homes
  pub out : places slot ≡ None
  pub fits : order < 2 ^ 64
  pub apart : (j : ℕ) (p : Place) → places j ≡ Some p → p.order ≢ order
  pub on : (shape r.slots r.homes places).on node ≡ true
  pub at_home : (shape r.slots r.homes places).home node ≡ home
  pub below : order < (shape r.slots r.homes places).top node
  pub above_next : (shape r.slots r.homes places).low (next_at r.links node) ≤ order
  pub passes : (x : ℕ) → (shape r.slots r.homes places).on x ≡ true → (shape r.slots r.homes places).home x ≡ home → x ≢ node
      → order < (shape r.slots r.homes places).top x → order < (shape r.slots r.homes places).low (next_at r.links x)

-- what is needed to give it one, above all others of its home or below all
pub record CanPut (r : Rings) (places : ℕ → Option Place) (slot home order : ℕ) : Type 0 where
  pub are : AreChains r places
  pub low : slot < r.slots
  pub in_range : home < r.homes
  pub out : places slot ≡ None
  pub fits : order < 2 ^ 64
  pub apart : (j : ℕ) (p : Place) → places j ≡ Some p → p.order ≢ order

-- above all it goes behind the head
pub behind_head : (r : Rings) (places : ℕ → Option Place) (slot home order : ℕ) → CanPut r places slot home order
    → ((j : ℕ) (p : Place) → places j ≡ Some p → p.home ≡ home → p.order < order)
    → CanPutBehind r places slot home order (r.slots + home)
behind_head r places slot home order can above =
    let a : Shape = shape r.slots r.homes places in
    let after : ℕ → ℕ = next_at r.links in
    let h : IsHead r.slots r.homes places (r.slots + home) =
    head_is r.slots r.homes places (r.slots + home) (omega arith) (omega (arith, can.in_range)) in
    let at_home : a.home (r.slots + home) ≡ home = omega (arith, h.at_home) in
    record {
      are = can.are;
      low = can.low;
      in_range = can.in_range;
      out = can.out;
      fits = can.fits;
      apart = can.apart;
      on = h.on;
      at_home = at_home;
      below = omega (arith, h.top, can.fits);
      above_next = elim (node_is r.slots r.homes places (after (r.slots + home)) (can.are.chained.after_on (r.slots + home) h.on)) [
        | inl (p, s) ↦
            let same : p.home ≡ home = sym s.at_home ∙ can.are.chained.home (r.slots + home) h.on ∙ at_home in
            omega (arith, s.bound, above (after (r.slots + home)) p s.has same)
        | inr t ↦ omega (arith, t.bound)
      ];
      passes = λ x on same ne higher. elim (node_is r.slots r.homes places x on) [
        | inl (p, s) ↦ absurd (omega (arith, s.top, above x p s.has (sym s.at_home ∙ same)))
        | inr t ↦ absurd (ne (omega (arith, same, t.at_home, t.high)))
      ];
    }

-- below all it goes behind the node before the head, which is the oldest slot or the head itself
pub behind_oldest : (r : Rings) (places : ℕ → Option Place) (slot home order : ℕ) → CanPut r places slot home order
    → ((j : ℕ) (p : Place) → places j ≡ Some p → p.home ≡ home → order < p.order)
    → CanPutBehind r places slot home order (prev_at r.links (r.slots + home))
behind_oldest r places slot home order can below =
    let a : Shape = shape r.slots r.homes places in
    let after : ℕ → ℕ = next_at r.links in
    let head : ℕ = r.slots + home in
    let node : ℕ = prev_at r.links head in
    let h : IsHead r.slots r.homes places head = head_is r.slots r.homes places head (omega arith) (omega (arith, can.in_range)) in
    let at_home : a.home head ≡ home = omega (arith, h.at_home) in
    let on : a.on node ≡ true = can.are.chained.before_on head h.on in
    let next : after node ≡ head = can.are.chained.after_before head h.on in
    let node_home : a.home node ≡ home = sym (can.are.chained.home node on) ∙ ap a.home next ∙ at_home in
    let low : a.low (after node) ≡ 0 = ap a.low next ∙ h.bound in
    record {
      are = can.are;
      low = can.low;
      in_range = can.in_range;
      out = can.out;
      fits = can.fits;
      apart = can.apart;
      on = on;
      at_home = node_home;
      below = elim (node_is r.slots r.homes places node on) [
        | inl (p, s) ↦ omega (arith, s.top, below node p s.has (sym s.at_home ∙ node_home))
        | inr t ↦ omega (arith, t.top, can.fits)
      ];
      above_next = omega (arith, low);
      passes = λ x on_x same ne higher. passed x on_x same ne;
    }
  where
    head : ℕ
    head = r.slots + home

    node : ℕ
    node = prev_at r.links head

    -- what comes after another node of the home is a slot
    passed : (x : ℕ) → (shape r.slots r.homes places).on x ≡ true → (shape r.slots r.homes places).home x ≡ home → x ≢ node
        → order < (shape r.slots r.homes places).low (next_at r.links x)
    passed x on same ne =
        let a : Shape = shape r.slots r.homes places in
        let n : ℕ = next_at r.links x in
        let h : IsHead r.slots r.homes places head = head_is r.slots r.homes places head (omega arith) (omega (arith, can.in_range)) in
        let at_home : a.home head ≡ home = omega (arith, h.at_home) in
        let n_home : a.home n ≡ home = can.are.chained.home x on ∙ same in
        elim (node_is r.slots r.homes places n (can.are.chained.after_on x on)) [
          | inl (p, s) ↦ omega (arith, s.bound, below n p s.has (sym s.at_home ∙ n_home))
          | inr t ↦
              let is : n ≡ head = omega (arith, n_home, t.at_home, t.high) in
              absurd (ne (sym (can.are.chained.before_after x on) ∙ ap (prev_at r.links) is))
        ]

goes_in : (r : Rings) (places : ℕ → Option Place) (slot home order node : ℕ) → CanPutBehind r places slot home order node
    → GoesIn (shape r.slots r.homes places)
    (shape r.slots r.homes (with_place places slot (Some (record { home = home; order = order })))) node slot order
goes_in r places slot home order node can =
    let new : Option Place = Some (record { home = home; order = order }) in
    let a : Shape = shape r.slots r.homes places in
    let b : Shape = shape r.slots r.homes (with_place places slot new) in
    record {
      slots = refl;
      on = changed_at r.slots is_some (λ x. nat_lt x (r.slots + r.homes)) places slot new can.low;
      home = subst (λ (n : ℕ). Changed a.home b.home slot n) (sym can.at_home)
          (changed_at r.slots home_of (λ x. x - r.slots) places slot new can.low);
      top = changed_at r.slots order_of (λ _. 2 ^ 64) places slot new can.low;
      low = changed_at r.slots (λ p. order_of p + 1) (λ _. 0) places slot new can.low;
      off = by_slot r.slots is_some (λ x. nat_lt x (r.slots + r.homes)) places slot can.low ∙ ap is_some can.out;
      head_on = can.on;
      below_head = can.below;
    }

-- a slot that has a place isn't alone
pub placed_apart : (r : Rings) (places : ℕ → Option Place) (slot : ℕ) (place : Place) → AreChains r places
    → slot < r.slots → places slot ≡ Some place → next_at r.links slot ≢ slot
placed_apart r places slot place are low has e =
    let s : IsSlot r.slots r.homes places slot place = slot_is r.slots r.homes places slot place low has in
    let same : (shape r.slots r.homes places).low (next_at r.links slot) ≡ (shape r.slots r.homes places).low slot =
    ap (shape r.slots r.homes places).low e in
    omega (arith, same, s.bound, s.top, are.chained.down slot s.on)

-- a slot without a place isn't on
off : (slots homes : ℕ) (places : ℕ → Option Place) (x : ℕ) → x < slots → places x ≡ None
    → (shape slots homes places).on x ≡ false
off slots homes places x low none =
    by_slot slots is_some (λ x. nat_lt x (slots + homes)) places x low ∙ ap is_some none

-- the slots without a place are alone as before
put_alone : (r : Rings) (places : ℕ → Option Place) (slot home order node : ℕ) (links : List Link)
    → CanPutBehind r places slot home order node
    → Spliced (next_at r.links) (prev_at r.links) (next_at links) (prev_at links) node slot
    → (j : ℕ) → j < r.slots → with_place places slot (Some (record { home = home; order = order })) j ≡ None
    → Alone (next_at links) (prev_at links) j
put_alone r places slot home order node links can spliced j low h =
    let here : Place = record { home = home; order = order } in
    let new : Option Place = Some here in
    let a : Shape = shape r.slots r.homes places in
    elim (cases_eq j slot) [
      | inl e ↦
          let bad : Some here ≡ None =
          sym (ap (with_place places slot new) e ∙ with_place_here places slot new) ∙ h in
          absurd cc
      | inr ne ↦
          let none : places j ≡ None = sym (with_place_there places slot new j ne) ∙ h in
          let was : Alone (next_at r.links) (prev_at r.links) j = can.are.alone j low none in
          let out : a.on j ≡ false = off r.slots r.homes places j low none in
          let on : a.on (next_at r.links node) ≡ true = can.are.chained.after_on node can.on in
          record {
            forth = spliced.others_after j ne (λ e. false≢true (sym out ∙ ap a.on e ∙ can.on)) ∙ was.forth;
            back = spliced.others_before j ne (λ e. false≢true (sym out ∙ ap a.on e ∙ on)) ∙ was.back;
          }
    ]

-- the chains with a slot put in
pub put_chains : (r : Rings) (places : ℕ → Option Place) (slot home order node : ℕ) (links : List Link)
    → CanPutBehind r places slot home order node
    → Spliced (next_at r.links) (prev_at r.links) (next_at links) (prev_at links) node slot
    → AreChains (record r { links = links }) (with_place places slot (Some (record { home = home; order = order })))
put_chains r places slot home order node links can spliced = record {
  orders = λ j p h. elim (has_place places slot _ j p h)
      [ inl t ↦ omega (arith, ap (λ (q : Place). q.order) t.1, can.fits) | inr t ↦ can.are.orders j p t.1 ];
  once = λ i j p q h k e. elim (has_place places slot _ i p h) [
    | inl s ↦ elim (has_place places slot _ j q k) [
      | inl t ↦ s.0 ∙ sym t.0
      | inr t ↦ absurd (can.apart j q t.1 (omega (arith, ap (λ (q : Place). q.order) s.1)))
    ]
    | inr s ↦ elim (has_place places slot _ j q k) [
      | inl t ↦ absurd (can.apart i p s.1 (omega (arith, ap (λ (q : Place). q.order) t.1)))
      | inr t ↦ can.are.once i j p q s.1 t.1 e
    ]
  ];
  chained = inserted (record {
    old = can.are.chained;
    goes = goes_in r places slot home order node can;
    links = spliced;
    above_next = can.above_next;
    passes = λ x on same ne higher. can.passes x on (same ∙ can.at_home) ne higher;
  });
  alone = put_alone r places slot home order node links can spliced;
}

goes_out : (r : Rings) (places : ℕ → Option Place) (slot : ℕ) (place : Place) → AreChains r places
    → slot < r.slots → places slot ≡ Some place
    → GoesOut (shape r.slots r.homes places) (shape r.slots r.homes (with_place places slot None)) slot
goes_out r places slot place are low has =
    let s : IsSlot r.slots r.homes places slot place = slot_is r.slots r.homes places slot place low has in
    record {
      slots = refl;
      on = changed_at r.slots is_some (λ x. nat_lt x (r.slots + r.homes)) places slot None low;
      home = (changed_at r.slots home_of (λ x. x - r.slots) places slot None low).there;
      top = (changed_at r.slots order_of (λ _. 2 ^ 64) places slot None low).there;
      low = (changed_at r.slots (λ p. order_of p + 1) (λ _. 0) places slot None low).there;
      held = s.on;
      rank = omega (arith, s.bound, s.top);
      once = λ j down on e. elim (node_is r.slots r.homes places j on) [
        | inl (p, t) ↦ are.once j slot p place t.has has (sym t.top ∙ e ∙ s.top)
        | inr t ↦ absurd (omega (arith, t.high))
      ];
    }

-- the slots without a place are alone, also the one that gave it up
take_alone : (r : Rings) (places : ℕ → Option Place) (slot : ℕ) (place : Place) (links : List Link)
    → AreChains r places → slot < r.slots → places slot ≡ Some place
    → Unspliced (next_at r.links) (prev_at r.links) (next_at links) (prev_at links) slot
    → (j : ℕ) → j < r.slots → with_place places slot None j ≡ None → Alone (next_at links) (prev_at links) j
take_alone r places slot place links are low has unspliced j low_j h =
    let a : Shape = shape r.slots r.homes places in
    elim (cases_eq j slot) [
      | inl e ↦
          subst (λ (x : ℕ). Alone (next_at links) (prev_at links) x) (sym e)
          (record { forth = unspliced.slot_after; back = unspliced.slot_before })
      | inr ne ↦
          let none : places j ≡ None = sym (with_place_there places slot None j ne) ∙ h in
          let was : Alone (next_at r.links) (prev_at r.links) j = are.alone j low_j none in
          let on : a.on slot ≡ true = (slot_is r.slots r.homes places slot place low has).on in
          let not_on : a.on j ≡ false = off r.slots r.homes places j low_j none in
          record {
            forth = unspliced.others_after j ne
                (λ e. false≢true (sym not_on ∙ ap a.on e ∙ are.chained.before_on slot on)) ∙ was.forth;
            back = unspliced.others_before j ne
                (λ e. false≢true (sym not_on ∙ ap a.on e ∙ are.chained.after_on slot on)) ∙ was.back;
          }
    ]

-- the chains where the slot had a place
take_placed : (r : Rings) (places : ℕ → Option Place) (slot : ℕ) (place : Place) (links : List Link)
    → AreChains r places → slot < r.slots → places slot ≡ Some place
    → Unspliced (next_at r.links) (prev_at r.links) (next_at links) (prev_at links) slot
    → AreChains (record r { links = links }) (with_place places slot None)
take_placed r places slot place links are low has unspliced = record {
  orders = λ j p h. are.orders j p (kept_place places slot j p h);
  once = λ i j p q h k e. are.once i j p q (kept_place places slot i p h) (kept_place places slot j q k) e;
  chained = removed (record { old = are.chained; goes = goes_out r places slot place are low has; links = unspliced });
  alone = take_alone r places slot place links are low has unspliced;
}

-- the chains where it had none: nothing has changed
take_none : (r : Rings) (places : ℕ → Option Place) (slot : ℕ) (links : List Link) → AreChains r places
    → slot < r.slots → places slot ≡ None
    → Unspliced (next_at r.links) (prev_at r.links) (next_at links) (prev_at links) slot
    → AreChains (record r { links = links }) (with_place places slot None)
take_none r places slot links are low none unspliced =
    let s : Shape = shape r.slots r.homes places in
    let was : Alone (next_at r.links) (prev_at r.links) slot = are.alone slot low none in
    let same_next : (x : ℕ) → next_at links x ≡ next_at r.links x =
    λ x. elim (cases_eq x slot) [
      | inl e ↦ ap (next_at links) e ∙ unspliced.slot_after ∙ sym was.forth ∙ sym (ap (next_at r.links) e)
      | inr ne ↦ unspliced.others_after x ne (λ e. ne (e ∙ was.back))
    ] in
    let same_prev : (x : ℕ) → prev_at links x ≡ prev_at r.links x =
    λ x. elim (cases_eq x slot) [
      | inl e ↦ ap (prev_at links) e ∙ unspliced.slot_before ∙ sym was.back ∙ sym (ap (prev_at r.links) e)
      | inr ne ↦ unspliced.others_before x ne (λ e. ne (e ∙ was.forth))
    ] in
    let same_place : (j : ℕ) → with_place places slot None j ≡ places j =
    λ j. elim (cases_eq j slot) [
      | inl e ↦ ap (with_place places slot None) e ∙ with_place_here places slot None ∙ sym none ∙ sym (ap places e)
      | inr ne ↦ with_place_there places slot None j ne
    ] in
    subst (λ (p : ℕ → Option Place). AreChains (record r { links = links }) p) (λ i j. sym (same_place j) i)
    (record {
      orders = are.orders;
      once = are.once;
      chained = subst (λ (f : ℕ → ℕ). Chained s f (prev_at links)) (λ i x. sym (same_next x) i)
          (subst (λ (f : ℕ → ℕ). Chained s (next_at r.links) f) (λ i x. sym (same_prev x) i) are.chained);
      alone = λ j low_j h. (let o = are.alone j low_j h in
          record { forth = same_next j ∙ o.forth; back = same_prev j ∙ o.back });
    })

-- the chains with a slot taken out
pub take_chains : (r : Rings) (places : ℕ → Option Place) (slot : ℕ) (links : List Link) → AreChains r places
    → slot < r.slots → Unspliced (next_at r.links) (prev_at r.links) (next_at links) (prev_at links) slot
    → AreChains (record r { links = links }) (with_place places slot None)
take_chains r places slot links are low unspliced = at (places slot) refl
  where
    at : (o : Option Place) → places slot ≡ o → AreChains (record r { links = links }) (with_place places slot None)
    at None none = take_none r places slot links are low none unspliced
    at (Some place) has = take_placed r places slot place links are low has unspliced

-- how many slots are written is nothing to the chains
pub chains_written : (r : Rings) (written : ℕ) (places : ℕ → Option Place) → AreChains r places → AreChains (record r { written = written }) places
chains_written r written places are = record { orders = are.orders; once = are.once; chained = are.chained; alone = are.alone }
