-- A slot is taken out of its chain.

use Rattle.std.proofs.Common.{◌≡◌, ◌≢◌, ℕ, ◌+◌, ◌<◌, ◌≤◌, true, false, sym, subst, ◌∙◌, ap, inl, inr, arith}
use Rattle.std.proofs.lemmas.Bool.{cases_eq, true≢false}
use Rattle.ert_wheel.specs.Chained.{Shape, Chained, Changed, Unspliced}

-- what changes where a slot goes out: it loses its place, and no two of its chain have one order
pub record GoesOut (a b : Shape) (slot : ℕ) : Type 0 where
  pub slots : b.slots ≡ a.slots
  pub on : Changed a.on b.on slot false
  pub home : (x : ℕ) → x ≢ slot → b.home x ≡ a.home x
  pub top : (x : ℕ) → x ≢ slot → b.top x ≡ a.top x
  pub low : (x : ℕ) → x ≢ slot → b.low x ≡ a.low x
  pub held : a.on slot ≡ true
  pub rank : a.low slot ≡ a.top slot + 1
  pub once : (j : ℕ) → j < a.slots → a.on j ≡ true → a.top j ≡ a.top slot → j ≡ slot

-- the chains before, and both changes
pub record Removes (a b : Shape) (after before after' before' : ℕ → ℕ) (slot : ℕ) : Type 0 where
  pub old : Chained a after before
  pub goes : GoesOut a b slot
  pub links : Unspliced after before after' before' slot

-- a node that is still on, as it was
record StaysOn (a b : Shape) (slot x : ℕ) : Type 0 where
  apart : x ≢ slot
  on : a.on x ≡ true
  home : b.home x ≡ a.home x
  top : b.top x ≡ a.top x

stays_on : {a b : Shape} {after before after' before' : ℕ → ℕ} {slot : ℕ}
    (r : Removes a b after before after' before' slot) (x : ℕ) → b.on x ≡ true → StaysOn a b slot x
stays_on {a = a} {b = b} {after = after} {before = before} {after' = after'} {before' = before'} {slot = slot} r x on =
    let ne : x ≢ slot = λ e. true≢false (sym on ∙ ap b.on e ∙ r.goes.on.here) in
    record {
      apart = ne;
      on = sym (r.goes.on.there x ne) ∙ on;
      home = r.goes.home x ne;
      top = r.goes.top x ne;
    }

-- no slot comes after itself, or before itself
after_apart : {a b : Shape} {after before after' before' : ℕ → ℕ} {slot : ℕ}
    (r : Removes a b after before after' before' slot) → after slot ≢ slot
after_apart {a = a} {b = b} {after = after} {before = before} {after' = after'} {before' = before'} {slot = slot} r e = absurd (omega (arith, r.old.down slot r.goes.held, ap a.low e, r.goes.rank))

before_apart : {a b : Shape} {after before after' before' : ℕ → ℕ} {slot : ℕ}
    (r : Removes a b after before after' before' slot) → before slot ≢ slot
before_apart {a = a} {b = b} {after = after} {before = before} {after' = after'} {before' = before'} {slot = slot} r e = after_apart r (ap after (sym e) ∙ r.old.after_before slot r.goes.held)

after_on : {a b : Shape} {after before after' before' : ℕ → ℕ} {slot : ℕ}
    (r : Removes a b after before after' before' slot) (x : ℕ) → b.on x ≡ true
    → b.on (after' x) ≡ true
after_on {a = a} {b = b} {after = after} {before = before} {after' = after'} {before' = before'} {slot = slot} r x on =
    let s : StaysOn a b slot x = stays_on r x on in
    grind (arith, cases_eq x (before slot), r.links.prev_after (before_apart r), r.links.others_after x s.apart, r.old.after_on x s.on, r.old.after_on slot r.goes.held, r.old.before_after x s.on, after_apart r, r.goes.on.there (after x), r.goes.on.there (after slot), cases_eq (after x) slot)

before_on : {a b : Shape} {after before after' before' : ℕ → ℕ} {slot : ℕ}
    (r : Removes a b after before after' before' slot) (x : ℕ) → b.on x ≡ true
    → b.on (before' x) ≡ true
before_on {a = a} {b = b} {after = after} {before = before} {after' = after'} {before' = before'} {slot = slot} r x on =
    let s : StaysOn a b slot x = stays_on r x on in
    grind (arith, cases_eq x (after slot), r.links.next_before (after_apart r), r.links.others_before x s.apart, r.old.before_on x s.on, r.old.before_on slot r.goes.held, r.old.after_before x s.on, before_apart r, r.goes.on.there (before x), r.goes.on.there (before slot), cases_eq (before x) slot)

after_before : {a b : Shape} {after before after' before' : ℕ → ℕ} {slot : ℕ}
    (r : Removes a b after before after' before' slot) (x : ℕ) → b.on x ≡ true
    → after' (before' x) ≡ x
after_before {a = a} {b = b} {after = after} {before = before} {after' = after'} {before' = before'} {slot = slot} r x on =
    let s : StaysOn a b slot x = stays_on r x on in
    grind (arith, cases_eq x (after slot), cases_eq (before x) (before slot), cases_eq (before x) slot, r.links.next_before (after_apart r), r.links.others_before x s.apart, r.links.prev_after (before_apart r), r.links.others_after (before x), r.old.after_before x s.on, r.old.after_before slot r.goes.held, s.apart)

before_after : {a b : Shape} {after before after' before' : ℕ → ℕ} {slot : ℕ}
    (r : Removes a b after before after' before' slot) (x : ℕ) → b.on x ≡ true
    → before' (after' x) ≡ x
before_after {a = a} {b = b} {after = after} {before = before} {after' = after'} {before' = before'} {slot = slot} r x on =
    let s : StaysOn a b slot x = stays_on r x on in
    grind (arith, cases_eq x (before slot), cases_eq (after x) (after slot), cases_eq (after x) slot, r.links.prev_after (before_apart r), r.links.others_after x s.apart, r.links.next_before (after_apart r), r.links.others_before (after x), r.old.before_after x s.on, r.old.before_after slot r.goes.held, s.apart)

home : {a b : Shape} {after before after' before' : ℕ → ℕ} {slot : ℕ}
    (r : Removes a b after before after' before' slot) (x : ℕ) → b.on x ≡ true
    → b.home (after' x) ≡ b.home x
home {a = a} {b = b} {after = after} {before = before} {after' = after'} {before' = before'} {slot = slot} r x on =
    let s : StaysOn a b slot x = stays_on r x on in
    grind (arith, cases_eq x (before slot), r.links.prev_after (before_apart r), r.links.others_after x s.apart, r.old.before_after x s.on, after_apart r, r.goes.home (after x), r.goes.home (after slot), s.home, r.old.home x s.on, r.old.home slot r.goes.held, r.old.after_before slot r.goes.held, cases_eq (after x) slot)

down : {a b : Shape} {after before after' before' : ℕ → ℕ} {slot : ℕ}
    (r : Removes a b after before after' before' slot) (x : ℕ) → b.on x ≡ true
    → b.low (after' x) ≤ b.top x
down {a = a} {b = b} {after = after} {before = before} {after' = after'} {before' = before'} {slot = slot} r x on =
    let s : StaysOn a b slot x = stays_on r x on in
    grind (arith, cases_eq x (before slot), r.links.prev_after (before_apart r), r.links.others_after x s.apart, r.old.before_after x s.on, after_apart r, r.goes.low (after x), r.goes.low (after slot), s.top, r.old.down x s.on, r.old.down slot r.goes.held, r.goes.rank, r.old.after_before slot r.goes.held, cases_eq (after x) slot)

-- the next lower rank after the node that was before the slot
least_before : {a b : Shape} {after before after' before' : ℕ → ℕ} {slot : ℕ}
    (r : Removes a b after before after' before' slot) (j : ℕ)
    → a.on (before slot) ≡ true → j < a.slots → a.on j ≡ true → j ≢ slot → a.home j ≡ a.home (before slot)
    → a.top j < a.top (before slot) → a.top j < a.low (after slot)
least_before {a = a} {b = b} {after = after} {before = before} {after' = after'} {before' = before'} {slot = slot} r j on low held ne home lower =
    let back : after (before slot) ≡ slot = r.old.after_before slot r.goes.held in
    let same : a.home slot ≡ a.home (before slot) = sym (ap a.home back) ∙ r.old.home (before slot) on in
    let near : a.top j < a.low slot =
    subst (λ (y : ℕ). a.top j < a.low y) back (r.old.least (before slot) j on low held home lower) in
    let other : a.top j ≢ a.top slot = λ e. ne (r.goes.once j low held e) in
    let below : a.top j < a.top slot = omega (arith, r.goes.rank) in
    r.old.least slot j r.goes.held low held (home ∙ sym same) below

least : {a b : Shape} {after before after' before' : ℕ → ℕ} {slot : ℕ}
    (r : Removes a b after before after' before' slot) (x j : ℕ) → b.on x ≡ true → j < b.slots
    → b.on j ≡ true → b.home j ≡ b.home x → b.top j < b.top x → b.top j < b.low (after' x)
least {a = a} {b = b} {after = after} {before = before} {after' = after'} {before' = before'} {slot = slot} r x j on low held home lower =
    let s : StaysOn a b slot x = stays_on r x on in
    let t : StaysOn a b slot j = stays_on r j held in
    let down : j < a.slots = omega (arith, r.goes.slots) in
    let same : a.home j ≡ a.home x = sym t.home ∙ home ∙ s.home in
    let below : a.top j < a.top x = omega (arith, s.top, t.top) in
    elim (cases_eq x (before slot)) [
      | inl e ↦
          let found : a.top j < a.low (after slot) =
          least_before r j (subst (λ (y : ℕ). a.on y ≡ true) e s.on) down t.on t.apart (same ∙ ap a.home e)
          (subst (λ (y : ℕ). a.top j < a.top y) e below) in
          let l : b.low (after' x) ≡ a.low (after slot) =
          ap (λ (y : ℕ). b.low (after' y)) e ∙ ap b.low (r.links.prev_after (before_apart r)) ∙ r.goes.low (after slot) (after_apart r) in
          omega (arith, t.top)
      | inr ne ↦
          let apart : after x ≢ slot = λ e. ne (sym (r.old.before_after x s.on) ∙ ap before e) in
          let found : a.top j < a.low (after x) = r.old.least x j s.on down t.on same below in
          let l : b.low (after' x) ≡ a.low (after x) =
          ap b.low (r.links.others_after x s.apart ne) ∙ r.goes.low (after x) apart in
          omega (arith, t.top)
    ]

-- the chains after a slot was taken out
pub removed : {a b : Shape} {after before after' before' : ℕ → ℕ} {slot : ℕ}
    (r : Removes a b after before after' before' slot) → Chained b after' before'
removed r = record {
  after_on = after_on r;
  before_on = before_on r;
  after_before = after_before r;
  before_after = before_after r;
  home = home r;
  down = down r;
  least = least r;
}
