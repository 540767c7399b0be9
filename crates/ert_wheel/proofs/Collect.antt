-- The rows of one chain are collected, from the oldest to the newest.

use Rattle.std.proofs.Common.{◌≡◌, ◌≢◌, ℕ, ◌+◌, ◌<◌, ◌≤◌, ◌^◌, Bool, true, false, ◌&&◌, cond, nat_eq, nat_le, nat_lt, List, Option, Some, None, IfSome, [], ◌∷◌, ◌++◌, length, get_or, sym, subst, ◌∙◌, ap, inl, inr, refl, arith}
use Rattle.std.proofs.lemmas.{Bool.{cases_eq, cases_lt, eq-eqb, ne_eqb, and_right, lt-ltb, le-ltb}, Bool.Decides.eqb_tells, List.Sums.sum_by_push}
use Rattle.ert_wheel.proofs.{Looking.{InBucket, key_low}, Views.{place_is, held_in}}
use Rattle.ert_wheel.specs.{Rings.{Rings, Place, AreChains, StandsIn, order_of, FindsOldest}, Rows.{key_in, times, passing}, Walks.{AreRows, is_due_in}, Wheels.{held_keys, place_of, places}, declared.row.Key.Key, declared.row.Row.Row}

-- the due keys of the bucket whose orders are below a bound
abbrev pub is_due_below : (Key → Place) → ℕ → ℕ → ℕ → Key → Bool
is_due_below spot bucket to bound key = is_due_in spot bucket to key && nat_lt (spot key).order bound

-- the order of the slot that comes next, and one above all orders where none does
abbrev pub order_next : (ℕ → Option Place) → Option ℕ → ℕ
order_next places None = 2 ^ 64
order_next places (Some slot) = order_of (places slot)

-- the chain was walked up to the slot that comes next
pub record IsWalked (keys : List (Option Key)) (spot : Key → Place) (bucket to : ℕ) (next : Option ℕ) (old now : List Row) : Type 0 where
  pub each : (j : ℕ)
      → times j now ≡ times j old + passing (is_due_below spot bucket to (order_next (places spot keys) next)) (key_in keys j)
  pub are_rows : AreRows keys now
  pub stands : IfSome next (InBucket keys spot bucket)

-- what a look found is a slot of the bucket
pub found : (chains : Rings) (keys : List (Option Key)) (spot : Key → Place) (bucket bound : ℕ) (next : Option ℕ)
    → FindsOldest chains (places spot keys) bucket bound next → IfSome next (InBucket keys spot bucket)
found chains keys spot bucket bound None f = tt
found chains keys spot bucket bound (Some slot) f =
    let s : StandsIn (places spot keys) bucket slot = f.stands.1 in
    let k = place_is spot (key_in keys slot) s.place s.has in
    record { key = k.0; has = k.1; at_home = ap (λ (p : Place). p.home) k.2 ∙ s.at_home }

-- no key passes a test that is false at it
pub passing_none : (test : Key → Bool) (o : Option Key) → ((k : Key) → o ≡ Some k → test k ≡ false) → passing test o ≡ 0
passing_none test None h = refl
passing_none test (Some k) h = ap (λ b. cond b 1 0) (h k refl)

-- two tests that agree where there is a key
pub passing_same : (p q : Key → Bool) (o : Option Key) → ((k : Key) → o ≡ Some k → p k ≡ q k) → passing p o ≡ passing q o
passing_same p q None h = refl
passing_same p q (Some k) h = ap (λ b. cond b 1 0) (h k refl)

-- below the first order there is none
below_first : (due : Bool) (h b o first : ℕ) → (h ≡ b → first ≤ o) → ((due && nat_eq h b) && nat_lt o first) ≡ false
below_first due h b o first above =
    elim (eqb_tells h b) [
      | inl (t, e) ↦ and_right (due && nat_eq h b) (nat_lt o first) (le-ltb o first (above e))
      | inr (f, e) ↦ ap (λ c. c && nat_lt o first) (and_right due (nat_eq h b) f)
    ]

-- a key of the bucket from a bound on is no older than what was found from there on
pub found_low : (chains : Rings) (keys : List (Option Key)) (spot : Key → Place) (bucket bound : ℕ) (next : Option ℕ) (j : ℕ) (key : Key)
    → FindsOldest chains (places spot keys) bucket bound next → length keys ≡ chains.slots → key_in keys j ≡ Some key
    → (spot key).home ≡ bucket → bound ≤ (spot key).order → order_next (places spot keys) next ≤ (spot key).order
found_low chains keys spot bucket bound None j key f slots has at high =
    absurd (omega (
      arith,
      f.none refl j (spot key) (omega (arith, slots, key_low keys j key has)) (ap (place_of spot) has) at,
    ))
found_low chains keys spot bucket bound (Some slot) j key f slots has at high =
    f.least j (spot key) (omega (arith, slots, key_low keys j key has)) (ap (place_of spot) has) at high

-- what was found from a bound on is no older
found_high : (chains : Rings) (keys : List (Option Key)) (spot : Key → Place) (bucket bound : ℕ) (next : Option ℕ)
    → FindsOldest chains (places spot keys) bucket bound next → bound ≤ 2 ^ 64 → bound ≤ order_next (places spot keys) next
found_high chains keys spot bucket bound None f fits = fits
found_high chains keys spot bucket bound (Some slot) f fits = f.up

-- the walk begins at the oldest
pub walk_starts : (chains : Rings) (keys : List (Option Key)) (spot : Key → Place) (bucket to : ℕ) (next : Option ℕ) (old : List Row)
    → length keys ≡ chains.slots → AreRows keys old → FindsOldest chains (places spot keys) bucket 0 next
    → IsWalked keys spot bucket to next old old
walk_starts chains keys spot bucket to next old slots rows f = record {
  each = λ j.
      let first : ℕ = order_next (places spot keys) next in
      let none : passing (is_due_below spot bucket to first) (key_in keys j) ≡ 0 =
      passing_none (is_due_below spot bucket to first) (key_in keys j) (λ k has.
      below_first (nat_le k.deadline to) (spot k).home bucket (spot k).order first (λ e.
      found_low chains keys spot bucket 0 next j k f slots has e (omega arith))) in
      omega (arith, none);
  are_rows = rows;
  stands = found chains keys spot bucket 0 next f;
}

-- a test with the order of a key, and one with that of the next: the same but at the key itself
same_test : (due : Bool) (h b o k next : ℕ) → k < next → o ≢ k → (h ≡ b → k < o → next ≤ o)
    → ((due && nat_eq h b) && nat_lt o k) ≡ ((due && nat_eq h b) && nat_lt o next)
same_test due h b o k next up other least =
    elim (eqb_tells h b) [
      | inl (t, e) ↦
          let same : nat_lt o k ≡ nat_lt o next =
          elim (cases_lt o k) [
            | inl less ↦ lt-ltb o k less ∙ sym (lt-ltb o next (omega arith))
            | inr more ↦ le-ltb o k more ∙ sym (le-ltb o next (least e (omega (arith, other))))
          ] in
          ap (λ c. (due && nat_eq h b) && c) same
      | inr (f, e) ↦
          ap (λ c. c && nat_lt o k) (and_right due (nat_eq h b) f)
          ∙ sym (ap (λ c. c && nat_lt o next) (and_right due (nat_eq h b) f))
    ]

-- at the key itself
here_test : (due : Bool) (h b k next : ℕ) → k < next → h ≡ b
    → cond ((due && nat_eq h b) && nat_lt k k) 1 0 + cond due 1 0 ≡ cond ((due && nat_eq h b) && nat_lt k next) 1 0
here_test true h b k next up e =
    let t : nat_eq h b ≡ true = eq-eqb h b e in
    let low : nat_lt k k ≡ false = le-ltb k k (omega arith) in
    let high : nat_lt k next ≡ true = lt-ltb k next up in
    let x : ◌≡◌ {A = ℕ} (cond (nat_eq h b && nat_lt k k) 1 0) 0 =
    ap (λ c. cond c 1 0) (and_right (nat_eq h b) (nat_lt k k) low) in
    let y : ◌≡◌ {A = ℕ} (cond (nat_eq h b && nat_lt k next) 1 0) 1 =
    ap (λ c. cond (c && nat_lt k next) 1 0) t ∙ ap (λ c. cond c 1 0) high in
    omega (arith, x, y)
here_test false h b k next up e = refl

-- one step of the walk, as a slot sees it
step_at : (keys : List (Option Key)) (spot : Key → Place) (bucket to next slot j : ℕ) (key : Key) (o : Option Key)
    → key_in keys slot ≡ Some key → (spot key).home ≡ bucket → (spot key).order < next → key_in keys j ≡ o
    → ((k : Key) → o ≡ Some k → (spot k).order ≡ (spot key).order → j ≡ slot)
    → ((k : Key) → o ≡ Some k → (spot k).home ≡ bucket → (spot key).order < (spot k).order → next ≤ (spot k).order)
    → passing (is_due_below spot bucket to (spot key).order) o + cond (nat_eq slot j && nat_le key.deadline to) 1 0
    ≡ passing (is_due_below spot bucket to next) o
step_at keys spot bucket to next slot j key None has at_home up is once least =
    let ne : slot ≢ j = λ e. (let none : Some key ≡ None = sym has ∙ ap (key_in keys) e ∙ is in cc) in
    let x : ◌≡◌ {A = ℕ} (cond (nat_eq slot j && nat_le key.deadline to) 1 0) 0 =
    ap (λ c. cond (c && nat_le key.deadline to) 1 0) (ne_eqb slot j ne) in
    omega (arith, x)
step_at keys spot bucket to next slot j key (Some k) has at_home up is once least =
    elim (cases_eq slot j) [
      | inl e ↦
          let some : Some key ≡ Some k = sym has ∙ ap (key_in keys) e ∙ is in
          let same : key ≡ k = cc in
          let x : ◌≡◌ {A = ℕ} (cond (nat_eq slot j && nat_le key.deadline to) 1 0) (cond (nat_le key.deadline to) 1 0) =
          ap (λ c. cond (c && nat_le key.deadline to) 1 0) (eq-eqb slot j e) in
          let y = here_test (nat_le key.deadline to) (spot key).home bucket (spot key).order next up at_home in
          subst (λ (l : Key). passing (is_due_below spot bucket to (spot key).order) (Some l) + cond (nat_eq slot j && nat_le key.deadline to) 1 0
          ≡ passing (is_due_below spot bucket to next) (Some l)) same (omega (arith, x, y))
      | inr ne ↦
          let x : ◌≡◌ {A = ℕ} (cond (nat_eq slot j && nat_le key.deadline to) 1 0) 0 =
          ap (λ c. cond (c && nat_le key.deadline to) 1 0) (ne_eqb slot j ne) in
          let other : (spot k).order ≢ (spot key).order = λ e. ne (sym (once k refl e)) in
          let y : ◌≡◌ {A = ℕ} (cond (is_due_below spot bucket to (spot key).order k) 1 0) (cond (is_due_below spot bucket to next k) 1 0) =
          ap (λ c. cond c 1 0) (same_test (nat_le k.deadline to) (spot k).home bucket (spot k).order (spot key).order next up other (least k refl)) in
          omega (arith, x, y)
    ]

-- what a turn of the walk meets: the key of the slot that came next, and what comes after it
pub record Meets (chains : Rings) (keys : List (Option Key)) (spot : Key → Place) (bucket slot : ℕ) (key : Key) (next : Option ℕ) : Type 0 where
  pub slots : length keys ≡ chains.slots
  pub are : AreChains chains (places spot keys)
  pub has : key_in keys slot ≡ Some key
  pub at_home : (spot key).home ≡ bucket
  pub follows : FindsOldest chains (places spot keys) bucket ((spot key).order + 1) next

-- the orders rise
pub order_rises : (chains : Rings) (keys : List (Option Key)) (spot : Key → Place) (bucket slot : ℕ) (key : Key) (next : Option ℕ)
    → Meets chains keys spot bucket slot key next → (spot key).order < order_next (places spot keys) next
order_rises chains keys spot bucket slot key next m =
    let fits : (spot key).order < 2 ^ 64 = m.are.orders slot (spot key) (ap (place_of spot) m.has) in
    omega (arith, found_high chains keys spot bucket ((spot key).order + 1) next m.follows (omega (arith, fits)))

-- one step of the walk: the row of the slot is added where it is due
pub walk_steps : (chains : Rings) (keys : List (Option Key)) (spot : Key → Place) (bucket to slot : ℕ) (key : Key) (next : Option ℕ)
    (old now new : List Row) → Meets chains keys spot bucket slot key next → IsWalked keys spot bucket to (Some slot) old now
    → ((j : ℕ) → times j new ≡ times j now + cond (nat_eq slot j && nat_le key.deadline to) 1 0) → AreRows keys new
    → IsWalked keys spot bucket to next old new
walk_steps chains keys spot bucket to slot key next old now new m w more rows =
    let after : ℕ = order_next (places spot keys) next in
    let here : order_next (places spot keys) (Some slot) ≡ (spot key).order = ap (λ (o : Option Key). order_of (place_of spot o)) m.has in
    record {
      each = λ j.
          let was : times j now ≡ times j old + passing (is_due_below spot bucket to (spot key).order) (key_in keys j) =
          subst (λ (b : ℕ). times j now ≡ times j old + passing (is_due_below spot bucket to b) (key_in keys j)) here (w.each j) in
          let step = step_at keys spot bucket to after slot j key (key_in keys j) m.has m.at_home (order_rises chains keys spot bucket slot key next m) refl
          (λ k is e. m.are.once j slot (spot k) (spot key)
          (ap (place_of spot) is) (ap (place_of spot) m.has) e)
          (λ k is at less. found_low chains keys spot bucket ((spot key).order + 1) next j k m.follows m.slots is at (omega (arith, less))) in
          omega (arith, was, step, more j);
      are_rows = rows;
      stands = found chains keys spot bucket ((spot key).order + 1) next m.follows;
    }

-- a row that is added stands once more
pub times_push : (rows : List Row) (row : Row) (j : ℕ) → times j (rows ++ row ∷ []) ≡ times j rows + cond (nat_eq row.slot j) 1 0
times_push rows row j = sum_by_push (λ (r : Row). cond (nat_eq r.slot j) 1 0) rows row

-- what is true beside is left out
pub and_true : (b : Bool) → (b && true) ≡ b
and_true true = refl
and_true false = refl

-- the walk ends where nothing comes next
pub walk_ends : (chains : Rings) (keys : List (Option Key)) (spot : Key → Place) (bucket to : ℕ) (old now : List Row)
    → AreChains chains (places spot keys) → IsWalked keys spot bucket to None old now
    → (j : ℕ) → times j now ≡ times j old + passing (is_due_in spot bucket to) (key_in keys j)
walk_ends chains keys spot bucket to old now are w j =
    w.each j ∙ ap (λ n. times j old + n)
    (passing_same (is_due_below spot bucket to (2 ^ 64)) (is_due_in spot bucket to) (key_in keys j) (λ k is.
    ap (λ b. is_due_in spot bucket to k && b)
    (lt-ltb (spot k).order (2 ^ 64) (are.orders j (spot k) (ap (place_of spot) is)))
    ∙ and_true (is_due_in spot bucket to k)))

-- the key that is read at the slot that came next
pub record ReadsHere (stored : List Key) (keys : List (Option Key)) (spot : Key → Place) (bucket slot : ℕ) (key : Key) : Type 0 where
  pub low : slot < length stored
  pub has : key_in keys slot ≡ Some key
  pub at_home : (spot key).home ≡ bucket

pub reads_here : (chains : Rings) (stored : List Key) (spot : Key → Place) (bucket slot : ℕ) (here : Option ℕ) (d : Key)
    → IfSome here (InBucket (held_keys chains stored) spot bucket) → here ≡ Some slot
    → ReadsHere stored (held_keys chains stored) spot bucket slot (get_or stored slot d)
reads_here chains stored spot bucket slot here d stands is =
    let keys : List (Option Key) = held_keys chains stored in
    let s : InBucket keys spot bucket slot = subst (λ (o : Option ℕ). IfSome o (InBucket keys spot bucket)) is stands in
    let same : s.key ≡ get_or stored slot d = (held_in chains stored slot d s.key s.has).1 in
    record {
      low = (held_in chains stored slot d s.key s.has).0;
      has = s.has ∙ ap (λ (k : Key). Some k) same;
      at_home = ap (λ (x : Key). (spot x).home) (sym same) ∙ s.at_home;
    }
