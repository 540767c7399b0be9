-- A slot is put into a chain, behind one of its nodes.

use Rattle.std.proofs.Common.{◌≡◌, ◌≢◌, ◌⊎◌, ℕ, ◌+◌, ◌<◌, ◌≤◌, Bool, true, false, sym, subst, ◌∙◌, ap, inl, inr, arith}
use Rattle.std.proofs.lemmas.Bool.{cases_eq, true≢false}
use Rattle.ert_wheel.specs.Chained.{Shape, Chained, Changed, Spliced}

-- what changes where a slot goes in behind a node of its chain: it had no place, and its order is below that of the node
pub record GoesIn (a b : Shape) (head slot order : ℕ) : Type 0 where
  pub slots : b.slots ≡ a.slots
  pub on : Changed a.on b.on slot true
  pub home : Changed a.home b.home slot (a.home head)
  pub top : Changed a.top b.top slot order
  pub low : Changed a.low b.low slot (order + 1)
  pub off : a.on slot ≡ false
  pub head_on : a.on head ≡ true
  pub below_head : order < a.top head

-- the chains before, and both changes: the order is above what came after the node, and there alone it has its place
pub record Inserts (a b : Shape) (after before after' before' : ℕ → ℕ) (head slot order : ℕ) : Type 0 where
  pub old : Chained a after before
  pub goes : GoesIn a b head slot order
  pub links : Spliced after before after' before' head slot
  pub above_next : a.low (after head) ≤ order
  pub passes : (x : ℕ) → a.on x ≡ true → a.home x ≡ a.home head → x ≢ head → order < a.top x → order < a.low (after x)

-- what is held isn't what isn't held
pub on_apart : (on : ℕ → Bool) (x y : ℕ) → on x ≡ true → on y ≡ false → x ≢ y
on_apart on x y h k e = true≢false (sym h ∙ ap on e ∙ k)

-- what was held still is
on_more : {a b : Shape} {after before after' before' : ℕ → ℕ} {head slot order : ℕ}
    (i : Inserts a b after before after' before' head slot order) (x : ℕ) → a.on x ≡ true → b.on x ≡ true
on_more {b = b} {slot = slot} i x on =
    elim (cases_eq x slot) [ inl e ↦ ap b.on e ∙ i.goes.on.here | inr ne ↦ i.goes.on.there x ne ∙ on ]

-- each node that is on, after the slot, after the head, and after any other node
after_on : {a b : Shape} {after before after' before' : ℕ → ℕ} {head slot order : ℕ}
    (i : Inserts a b after before after' before' head slot order) (x : ℕ) → b.on x ≡ true
    → b.on (after' x) ≡ true
after_on {a = a} {after = after} {head = head} {slot = slot} i x on =
    grind (arith, cases_eq x slot, cases_eq x head, i.links.slot_after, i.links.head_after, i.links.others_after x, i.goes.on.here, i.goes.on.there x, on_more i (after x), on_more i (after head), i.old.after_on x, i.old.after_on head i.goes.head_on)

before_on : {a b : Shape} {after before after' before' : ℕ → ℕ} {head slot order : ℕ}
    (i : Inserts a b after before after' before' head slot order) (x : ℕ) → b.on x ≡ true
    → b.on (before' x) ≡ true
before_on {a = a} {after = after} {before = before} {head = head} {slot = slot} i x on =
    grind (arith, cases_eq x slot, cases_eq x (after head), i.links.slot_before, i.links.next_before, i.links.others_before x, i.goes.on.here, i.goes.on.there x, on_more i (before x), on_more i head i.goes.head_on, i.old.before_on x)

after_before : {a b : Shape} {after before after' before' : ℕ → ℕ} {head slot order : ℕ}
    (i : Inserts a b after before after' before' head slot order) (x : ℕ) → b.on x ≡ true
    → after' (before' x) ≡ x
after_before {a = a} {after = after} {before = before} {head = head} {slot = slot} i x on =
    grind (arith, cases_eq x slot, cases_eq x (after head), cases_eq (before x) head, i.links.slot_before, i.links.next_before, i.links.others_before x, i.links.slot_after, i.links.head_after, i.links.others_after (before x), i.goes.on.there x, i.goes.off, i.old.before_on x, i.old.after_before x, on_apart a.on (before x) slot)

before_after : {a b : Shape} {after before after' before' : ℕ → ℕ} {head slot order : ℕ}
    (i : Inserts a b after before after' before' head slot order) (x : ℕ) → b.on x ≡ true
    → before' (after' x) ≡ x
before_after {a = a} {after = after} {before = before} {head = head} {slot = slot} i x on =
    grind (arith, cases_eq x slot, cases_eq x head, cases_eq (after x) (after head), i.links.slot_before, i.links.next_before, i.links.others_before (after x), i.links.slot_after, i.links.head_after, i.links.others_after x, i.goes.on.there x, i.goes.off, i.old.after_on x, i.old.before_after x, i.old.before_after head i.goes.head_on, on_apart a.on (after x) slot)

home : {a b : Shape} {after before after' before' : ℕ → ℕ} {head slot order : ℕ}
    (i : Inserts a b after before after' before' head slot order) (x : ℕ) → b.on x ≡ true
    → b.home (after' x) ≡ b.home x
home {a = a} {after = after} {before = before} {head = head} {slot = slot} i x on =
    grind (arith, cases_eq x slot, cases_eq x head, i.links.slot_after, i.links.head_after, i.links.others_after x, i.goes.on.there x, i.goes.off, i.goes.home.here, i.goes.home.there x, i.goes.home.there head, i.goes.home.there (after x), i.goes.home.there (after head), on_apart a.on (after x) slot, on_apart a.on (after head) slot, on_apart a.on head slot i.goes.head_on, i.old.after_on x, i.old.after_on head i.goes.head_on, i.old.home x, i.old.home head i.goes.head_on)

down : {a b : Shape} {after before after' before' : ℕ → ℕ} {head slot order : ℕ}
    (i : Inserts a b after before after' before' head slot order) (x : ℕ) → b.on x ≡ true
    → b.low (after' x) ≤ b.top x
down {a = a} {after = after} {before = before} {head = head} {slot = slot} i x on =
    grind (arith, cases_eq x slot, cases_eq x head, i.links.slot_after, i.links.head_after, i.links.others_after x, i.goes.on.there x, i.goes.off, i.goes.low.here, i.goes.top.here, i.goes.top.there x, i.goes.top.there head, i.goes.below_head, i.goes.low.there (after x), i.goes.low.there (after head), on_apart a.on (after x) slot, on_apart a.on (after head) slot, on_apart a.on head slot i.goes.head_on, i.old.after_on x, i.old.after_on head i.goes.head_on, i.above_next, i.old.home head i.goes.head_on, i.old.down x)

-- a slot that is still on, as it was
record StillOn (a b : Shape) (slot j : ℕ) : Type 0 where
  apart : j ≢ slot
  low : j < a.slots
  on : a.on j ≡ true
  home : b.home j ≡ a.home j
  top : b.top j ≡ a.top j

cases_on : {a b : Shape} {after before after' before' : ℕ → ℕ} {head slot order : ℕ}
    (i : Inserts a b after before after' before' head slot order) (j : ℕ) → j < b.slots → b.on j ≡ true
    → (j ≡ slot) ⊎ StillOn a b slot j
cases_on {slot = slot} i j low on =
    elim (cases_eq j slot) [
      | inl e ↦ inl e
      | inr ne ↦ inr (record {
        apart = ne;
        low = omega (arith, i.goes.slots);
        on = sym (i.goes.on.there j ne) ∙ on;
        home = i.goes.home.there j ne;
        top = i.goes.top.there j ne;
      })
    ]

-- the next lower rank after the slot itself
least_slot : {a b : Shape} {after before after' before' : ℕ → ℕ} {head slot order : ℕ}
    (i : Inserts a b after before after' before' head slot order) (j : ℕ) → (j ≡ slot) ⊎ StillOn a b slot j
    → b.home j ≡ b.home slot → b.top j < b.top slot → b.top j < b.low (after' slot)
least_slot {b = b} i j (inl e) home lower =
    absurd (omega (arith, ap b.top e))
least_slot {a = a} {b = b} {after = after} {after' = after'} {head = head} {slot = slot} i j (inr s) home lower =
    let apart : after head ≢ slot =
    on_apart a.on (after head) slot (i.old.after_on head i.goes.head_on) i.goes.off in
    let same : a.home j ≡ a.home head = sym s.home ∙ home ∙ i.goes.home.here in
    let below : a.top j < a.top head = omega (arith, s.top, i.goes.top.here, i.goes.below_head) in
    let found : a.top j < a.low (after head) = i.old.least head j i.goes.head_on s.low s.on same below in
    let e : b.low (after' slot) ≡ a.low (after head) =
    ap b.low i.links.slot_after ∙ i.goes.low.there (after head) apart in
    omega (arith, e, s.top)

-- the next lower rank after the node
least_head : {a b : Shape} {after before after' before' : ℕ → ℕ} {head slot order : ℕ}
    (i : Inserts a b after before after' before' head slot order) (j : ℕ) → (j ≡ slot) ⊎ StillOn a b slot j
    → b.home j ≡ b.home head → b.top j < b.top head → b.top j < b.low (after' head)
least_head {b = b} {after' = after'} {head = head} {slot = slot} {order = order} i j (inl e) home lower =
    let l : b.low (after' head) ≡ order + 1 = ap b.low i.links.head_after ∙ i.goes.low.here in
    omega (arith, ap b.top e, i.goes.top.here)
least_head {a = a} {b = b} {after = after} {after' = after'} {head = head} {slot = slot} {order = order} i j (inr s) home lower =
    let l : b.low (after' head) ≡ order + 1 = ap b.low i.links.head_after ∙ i.goes.low.here in
    let apart : head ≢ slot = on_apart a.on head slot i.goes.head_on i.goes.off in
    let same : a.home j ≡ a.home head = sym s.home ∙ home ∙ i.goes.home.there head apart in
    let below : a.top j < a.top head = omega (arith, s.top, i.goes.top.there head apart) in
    let found : a.top j < a.low (after head) = i.old.least head j i.goes.head_on s.low s.on same below in
    omega (arith, s.top, i.above_next)

-- the next lower rank after any other node
least_other : {a b : Shape} {after before after' before' : ℕ → ℕ} {head slot order : ℕ}
    (i : Inserts a b after before after' before' head slot order) (x j : ℕ) → x ≢ slot → x ≢ head
    → b.on x ≡ true → (j ≡ slot) ⊎ StillOn a b slot j → b.home j ≡ b.home x → b.top j < b.top x
    → b.top j < b.low (after' x)
least_other {a = a} {b = b} {after = after} {after' = after'} {head = head} {slot = slot} {order = order} i x j ns nh on (inl e) home lower =
    let was : a.on x ≡ true = sym (i.goes.on.there x ns) ∙ on in
    let same : a.home x ≡ a.home head =
    sym (i.goes.home.there x ns) ∙ sym home ∙ ap b.home e ∙ i.goes.home.here in
    let apart : after x ≢ slot = on_apart a.on (after x) slot (i.old.after_on x was) i.goes.off in
    let higher : order < a.top x = omega (arith, ap b.top e, i.goes.top.here, i.goes.top.there x ns) in
    let past : order < a.low (after x) = i.passes x was same nh higher in
    let l : b.low (after' x) ≡ a.low (after x) =
    ap b.low (i.links.others_after x ns nh) ∙ i.goes.low.there (after x) apart in
    omega (arith, ap b.top e, i.goes.top.here)
least_other {a = a} {b = b} {after = after} {after' = after'} {head = head} {slot = slot} i x j ns nh on (inr s) home lower =
    let was : a.on x ≡ true = sym (i.goes.on.there x ns) ∙ on in
    let apart : after x ≢ slot = on_apart a.on (after x) slot (i.old.after_on x was) i.goes.off in
    let same : a.home j ≡ a.home x = sym s.home ∙ home ∙ i.goes.home.there x ns in
    let below : a.top j < a.top x = omega (arith, s.top, i.goes.top.there x ns) in
    let found : a.top j < a.low (after x) = i.old.least x j was s.low s.on same below in
    let e : b.low (after' x) ≡ a.low (after x) =
    ap b.low (i.links.others_after x ns nh) ∙ i.goes.low.there (after x) apart in
    omega (arith, e, s.top)

least : {a b : Shape} {after before after' before' : ℕ → ℕ} {head slot order : ℕ}
    (i : Inserts a b after before after' before' head slot order) (x j : ℕ) → b.on x ≡ true → j < b.slots
    → b.on j ≡ true → b.home j ≡ b.home x → b.top j < b.top x → b.top j < b.low (after' x)
least {a = a} {b = b} {after' = after'} {head = head} {slot = slot} i x j on low held home lower =
    let at_j : (j ≡ slot) ⊎ StillOn a b slot j = cases_on i j low held in
    elim (cases_eq x slot) [
      | inl e ↦ subst (λ (y : ℕ). b.top j < b.low (after' y)) (sym e)
          (least_slot i j at_j (home ∙ ap b.home e) (subst (λ (y : ℕ). b.top j < b.top y) e lower))
      | inr ns ↦ elim (cases_eq x head) [
        | inl e ↦ subst (λ (y : ℕ). b.top j < b.low (after' y)) (sym e)
            (least_head i j at_j (home ∙ ap b.home e) (subst (λ (y : ℕ). b.top j < b.top y) e lower))
        | inr nh ↦ least_other i x j ns nh on at_j home lower
      ]
    ]

-- the chains after a slot was put in
pub inserted : {a b : Shape} {after before after' before' : ℕ → ℕ} {head slot order : ℕ}
    (i : Inserts a b after before after' before' head slot order) → Chained b after' before'
inserted i = record {
  after_on = after_on i;
  before_on = before_on i;
  after_before = after_before i;
  before_after = before_after i;
  home = home i;
  down = down i;
  least = least i;
}
