-- A slot becomes the newest of a home, from whatever chain it is in.

use Rattle.std.proofs.Common.{◌≡◌, ◌≢◌, ℕ, ◌+◌, ◌-◌, ◌<◌, ◌≤◌, ◌^◌, true, nat_lt, Option, Some, None, sym, subst, ◌∙◌, ap, inl, inr, arith}
use Rattle.std.proofs.lemmas.Bool.{cases_eq}
use Rattle.std.specs.Option.{is_some}
use Rattle.ert_wheel.proofs.Parts.{IsSlot, changed_at, slot_is, node_is, has_place, kept_place, with_place_here, with_place_there}
use Rattle.ert_wheel.specs.{Chained.{Shape, Chained}, Links.{next_at, prev_at}, Rings.{Rings, Place, shape, home_of, order_of, AreChains, with_place, MayTake, MayPut, GivesUpPlace, Puts, MovesSlot, Finds}, Wheels.places}

-- a place that is given twice
pub with_twice : (places : ℕ → Option Place) (slot : ℕ) (x y : Option Place) (j : ℕ)
    → with_place (with_place places slot x) slot y j ≡ with_place places slot y j
with_twice places slot x y j =
    elim (cases_eq j slot) [
      | inl e ↦ ap (with_place (with_place places slot x) slot y) e ∙ with_place_here (with_place places slot x) slot y
          ∙ sym (with_place_here places slot y) ∙ sym (ap (with_place places slot y) e)
      | inr ne ↦ with_place_there (with_place places slot x) slot y j ne ∙ with_place_there places slot x j ne
          ∙ sym (with_place_there places slot y j ne)
    ]

-- a slot that was taken out is put in again
pub moves_by : (old taken new : Rings) (slot home : ℕ) → GivesUpPlace old taken slot → Puts taken new slot home → MovesSlot old new slot home
moves_by old taken new slot home takes puts places order are fits above =
    let here : Option Place = Some (record { home = home; order = order }) in
    subst (λ (p : ℕ → Option Place). AreChains new p) (λ i j. with_twice places slot None here j i)
    (puts (with_place places slot None) order (takes places are) (with_place_here places slot None) fits
    (λ j p is. above j p (kept_place places slot j p is)))

pub may_put_again : (old taken : Rings) (slot home : ℕ) → MayTake old slot → GivesUpPlace old taken slot → taken.slots ≡ old.slots
    → home < taken.homes → MayPut taken slot home
may_put_again old taken slot home may takes slots low = record {
  places = with_place may.places slot None;
  are = takes may.places may.are;
  low = omega (arith, slots, may.low);
  in_range = low;
  out = with_place_here may.places slot None;
}

-- a slot that is the newest of a home, and an order above all
record IsTop (r : Rings) (places : ℕ → Option Place) (slot home order : ℕ) (place : Place) : Type 0 where
  are : AreChains r places
  low : slot < r.slots
  has : places slot ≡ Some place
  at_home : place.home ≡ home
  fits : order < 2 ^ 64
  above : (j : ℕ) (p : Place) → places j ≡ Some p → p.order < order
  greatest : (j : ℕ) (p : Place) → j < r.slots → places j ≡ Some p → p.home ≡ home → p.order ≤ place.order

-- its places with that order
abbrev raised : (ℕ → Option Place) → ℕ → ℕ → ℕ → ℕ → Option Place
raised places slot home order = with_place places slot (Some (record { home = home; order = order }))

-- what a node is after that
record IsRaised (a b : Shape) (x : ℕ) : Type 0 where
  on : b.on x ≡ a.on x
  home : b.home x ≡ a.home x
  top : a.top x ≤ b.top x
  low : a.low x ≤ b.low x

-- the slot itself
slot_raised : (r : Rings) (places : ℕ → Option Place) (slot home order : ℕ) (place : Place) → IsTop r places slot home order place
    → IsSlot r.slots r.homes (raised places slot home order) slot (record { home = home; order = order })
slot_raised r places slot home order place t =
    slot_is r.slots r.homes (raised places slot home order) slot _ t.low (with_place_here places slot _)

-- any node
is_raised : (r : Rings) (places : ℕ → Option Place) (slot home order : ℕ) (place : Place) → IsTop r places slot home order place
    → (x : ℕ) → IsRaised (shape r.slots r.homes places) (shape r.slots r.homes (raised places slot home order)) x
is_raised r places slot home order place t x = elim (cases_eq x slot) [ inl e ↦ subst (λ n. IsRaised a b n) (sym e) here | inr ne ↦ there ne ]
  where
    a : Shape
    a = shape r.slots r.homes places

    b : Shape
    b = shape r.slots r.homes (raised places slot home order)

    here : IsRaised a b slot
    here =
        let old = slot_is r.slots r.homes places slot place t.low t.has in
        let new = slot_raised r places slot home order place t in
        let less = t.above slot place t.has in
        record {
          on = new.on ∙ sym old.on;
          home = new.at_home ∙ sym (old.at_home ∙ t.at_home);
          top = omega (arith, old.top, new.top, less);
          low = omega (arith, old.bound, new.bound, less);
        }

    there : x ≢ slot → IsRaised a b x
    there ne =
        let new : Option Place = Some (record { home = home; order = order }) in record {
          on = (changed_at r.slots is_some (λ x. nat_lt x (r.slots + r.homes)) places slot new t.low).there x ne;
          home = (changed_at r.slots home_of (λ x. x - r.slots) places slot new t.low).there x ne;
          top = omega (arith, (changed_at r.slots order_of (λ _. 2 ^ 64) places slot new t.low).there x ne);
          low = omega (arith, (changed_at r.slots (λ p. order_of p + 1) (λ _. 0) places slot new t.low).there x ne);
        }

-- what is before the slot is its home's head
head_before : (r : Rings) (places : ℕ → Option Place) (slot home order : ℕ) (place : Place) → IsTop r places slot home order place
    → (x : ℕ) → (shape r.slots r.homes places).on x ≡ true → next_at r.links x ≡ slot → 2 ^ 64 ≤ (shape r.slots r.homes places).top x
head_before r places slot home order place t x on e =
    let a : Shape = shape r.slots r.homes places in
    let s = slot_is r.slots r.homes places slot place t.low t.has in
    let down : place.order + 1 ≤ a.top x = omega (arith, s.bound, ap a.low e, t.are.chained.down x on) in
    let same : a.home x ≡ home = sym (t.are.chained.home x on) ∙ ap a.home e ∙ (s.at_home ∙ t.at_home) in
    elim (node_is r.slots r.homes places x on) [
      | inl (p, n) ↦ absurd (omega (arith, n.top, down, t.greatest x p n.low n.has (sym n.at_home ∙ same)))
      | inr h ↦ omega (arith, h.top)
    ]

-- what is after the head of its home is the slot
after_head : (r : Rings) (places : ℕ → Option Place) (slot home order : ℕ) (place : Place) → IsTop r places slot home order place
    → (x : ℕ) → (shape r.slots r.homes places).on x ≡ true → (shape r.slots r.homes places).home x ≡ home
    → 2 ^ 64 ≤ (shape r.slots r.homes places).top x → next_at r.links x ≡ slot
after_head r places slot home order place t x on same high =
    let a : Shape = shape r.slots r.homes places in
    let n : ℕ = next_at r.links x in
    let s = slot_is r.slots r.homes places slot place t.low t.has in
    let less : place.order < 2 ^ 64 = t.are.orders slot place t.has in
    let found : a.top slot < a.low n = t.are.chained.least x slot on t.low s.on (s.at_home ∙ t.at_home ∙ sym same) (omega (arith, s.top)) in
    elim (node_is r.slots r.homes places n (t.are.chained.after_on x on)) [
      | inl (p, m) ↦
          let most = t.greatest n p m.low m.has (sym m.at_home ∙ t.are.chained.home x on ∙ same) in
          t.are.once n slot p place m.has t.has (omega (arith, found, s.top, m.bound, most))
      | inr h ↦ absurd (omega (arith, found, h.bound))
    ]

-- the chains with the greater order
raises : (r : Rings) (places : ℕ → Option Place) (slot home order : ℕ) (place : Place) → IsTop r places slot home order place
    → AreChains r (raised places slot home order)
raises r places slot home order place t = record {
  orders = λ j p h. elim (has_place places slot _ j p h)
      [ inl same ↦ omega (arith, ap (λ (q : Place). q.order) same.1, t.fits) | inr was ↦ t.are.orders j p was.1 ];
  once = λ i j p q h k e. elim (has_place places slot _ i p h) [
    | inl one ↦ elim (has_place places slot _ j q k) [
      | inl other ↦ one.0 ∙ sym other.0
      | inr other ↦ absurd (omega (arith, t.above j q other.1, e, ap (λ (q : Place). q.order) one.1))
    ]
    | inr one ↦ elim (has_place places slot _ j q k) [
      | inl other ↦ absurd (omega (arith, t.above i p one.1, e, ap (λ (q : Place). q.order) other.1))
      | inr other ↦ t.are.once i j p q one.1 other.1 e
    ]
  ];
  chained = record {
    after_on = λ x on. (at (next_at r.links x)).on ∙ was.after_on x (sym (at x).on ∙ on);
    before_on = λ x on. (at (prev_at r.links x)).on ∙ was.before_on x (sym (at x).on ∙ on);
    after_before = λ x on. was.after_before x (sym (at x).on ∙ on);
    before_after = λ x on. was.before_after x (sym (at x).on ∙ on);
    home = λ x on. (at (next_at r.links x)).home ∙ was.home x (sym (at x).on ∙ on) ∙ sym (at x).home;
    down = λ x on. down x (sym (at x).on ∙ on);
    least = λ x j on low held same lower.
        least x j (sym (at x).on ∙ on) low (sym (at j).on ∙ held) (sym (at j).home ∙ same ∙ (at x).home) lower;
  };
  alone = λ j low h. elim (cases_eq j slot) [
    | inl e ↦
        let bad : Some (record { home = home; order = order }) ≡ None =
        sym (ap (raised places slot home order) e ∙ with_place_here places slot _) ∙ h in
        absurd cc
    | inr ne ↦ t.are.alone j low (sym (with_place_there places slot _ j ne) ∙ h)
  ];
}
  where
    a : Shape
    a = shape r.slots r.homes places

    b : Shape
    b = shape r.slots r.homes (raised places slot home order)

    was : Chained a (next_at r.links) (prev_at r.links)
    was = t.are.chained

    at : (x : ℕ) → IsRaised a b x
    at x = is_raised r places slot home order place t x

    there : (x : ℕ) → x ≢ slot → (b.top x ≡ a.top x) × (b.low x ≡ a.low x)
    there x ne =
        let new : Option Place = Some (record { home = home; order = order }) in (
          (changed_at r.slots order_of (λ _. 2 ^ 64) places slot new t.low).there x ne,
          (changed_at r.slots (λ p. order_of p + 1) (λ _. 0) places slot new t.low).there x ne,
        )

    down : (x : ℕ) → a.on x ≡ true → b.low (next_at r.links x) ≤ b.top x
    down x on =
        let n : ℕ = next_at r.links x in
        elim (cases_eq n slot) [
          | inl e ↦
              let bound : b.low n ≡ order + 1 = ap b.low e ∙ (slot_raised r places slot home order place t).bound in
              omega (arith, bound, t.fits, head_before r places slot home order place t x on e, (at x).top)
          | inr ne ↦ omega (arith, (there n ne).1, was.down x on, (at x).top)
        ]

    least : (x j : ℕ) → a.on x ≡ true → j < r.slots → a.on j ≡ true → a.home j ≡ a.home x → b.top j < b.top x
        → b.top j < b.low (next_at r.links x)
    least x j on low held same lower =
        let n : ℕ = next_at r.links x in
        let s = slot_is r.slots r.homes places slot place t.low t.has in
        let new = slot_raised r places slot home order place t in
        elim (cases_eq j slot) [
          | inl e ↦
              let top_j : b.top j ≡ order = ap b.top e ∙ new.top in
              let at_home : a.home x ≡ home = sym same ∙ ap a.home e ∙ (s.at_home ∙ t.at_home) in
              elim (cases_eq x slot) [
                | inl x_is ↦ absurd (omega (arith, lower, top_j, ap b.top x_is, new.top))
                | inr x_ne ↦ elim (node_is r.slots r.homes places x on) [
                  | inl (p, m) ↦ absurd (omega (arith, lower, top_j, (there x x_ne).0, m.top, t.above x p m.has))
                  | inr h ↦
                      let after : n ≡ slot = after_head r places slot home order place t x on at_home (omega (arith, h.top)) in
                      omega (arith, top_j, ap b.low after, new.bound)
                ]
              ]
          | inr ne ↦
              let below : b.top j ≡ a.top j = (there j ne).0 in
              elim (node_is r.slots r.homes places j held) [
                | inl (p, m) ↦ elim (cases_eq x slot) [
                  | inl x_is ↦
                      let p_home : p.home ≡ home = sym m.at_home ∙ same ∙ ap a.home x_is ∙ (s.at_home ∙ t.at_home) in
                      let most = t.greatest j p low m.has p_home in
                      let apart : p.order ≢ place.order = λ e. ne (t.are.once j slot p place m.has t.has e) in
                      let less : a.top j < a.top x = omega (arith, m.top, most, apart, ap a.top x_is, s.top) in
                      omega (arith, below, was.least x j on low held same less, (at n).low)
                  | inr x_ne ↦ omega (arith, below, was.least x j on low held same (omega (arith, lower, below, (there x x_ne).0)), (at n).low)
                ]
                | inr h ↦ absurd (omega (arith, h.high))
              ]
        ]

-- a slot that is the newest of a home stays where it is
pub moves_none : (r : Rings) (slot home : ℕ) → ((places : ℕ → Option Place) → AreChains r places → Finds r places home (2 ^ 64) (Some slot))
    → MovesSlot r r slot home
moves_none r slot home finds places order are fits above =
    let found = finds places are in
    let stands = found.stands.1 in
    raises r places slot home order stands.place (record {
      are = are;
      low = found.stands.0;
      has = stands.has;
      at_home = stands.at_home;
      fits = fits;
      above = above;
      greatest = λ j p low has same.
          omega (arith, found.greatest j p low has same (are.orders j p has), ap order_of stands.has);
    })
