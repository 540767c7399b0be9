-- The marks of the buckets follow the chains.

use Rattle.std.proofs.Common.{true, ◌≡◌, ◌≢◌, ℕ, ◌+◌, ◌<◌, ◌≤◌, ◌^◌, cond, List, Option, Some, None, MatchOption, sym, subst, ◌∙◌, ap, inl, inr, refl, arith}
use Rattle.std.proofs.lemmas.Bool.{cases_eq, cases_lt, lt-ltb, le-ltb}
use Rattle.ert_wheel.proofs.{Calls.newest_at, MarkBits.IsFirstMark, Parts.{IsSlot, IsHead, slot_is, head_is, node_is}}
use Rattle.ert_wheel.specs.{Chained.{Shape, Spliced, Unspliced}, Links.{next_at, prev_at}, Marks.{mark_of, newest_node, AreMarked, FirstUsed}, Rings.{Rings, IsOnlyOf, HasOthers, Place, AreChains, shape, node_slot, Finds}}
use Rattle.ert_wheel.specs.{declared.row.TheConstants.BUCKETS}

-- the head of a bucket before a slot
record BeforeIsHead (r : Rings) (slot head : ℕ) : Type 0 where
  after_head : next_at r.links head ≡ slot
  -- where the slot is the last one
  last : r.slots ≤ next_at r.links slot → next_at r.links slot ≡ head

before_is_head : (r : Rings) (places : ℕ → Option Place) (slot head : ℕ) → AreChains r places → slot < r.slots
    → r.slots ≤ head → head < r.slots + r.homes → prev_at r.links slot ≡ head → BeforeIsHead r slot head
before_is_head r places slot head are low high few is = at (places slot) refl
  where
    at : (o : Option Place) → places slot ≡ o → BeforeIsHead r slot head
    at None none = absurd (omega (arith, (are.alone slot low none).back))
    at (Some place) has =
        let a : Shape = shape r.slots r.homes places in
        let after : ℕ → ℕ = next_at r.links in
        let s : IsSlot r.slots r.homes places slot place = slot_is r.slots r.homes places slot place low has in
        let h : IsHead r.slots r.homes places head = head_is r.slots r.homes places head high few in
        let back : after head ≡ slot = ap after (sym is) ∙ are.chained.after_before slot s.on in
        record {
          after_head = back;
          last = λ over.
              elim (node_is r.slots r.homes places (after slot) (are.chained.after_on slot s.on)) [
                | inl (p, t) ↦ absurd (omega (arith, t.low))
                | inr t ↦
                    let one : a.home (after slot) ≡ a.home head =
                    are.chained.home slot s.on ∙ ap a.home (sym back) ∙ are.chained.home head h.on in
                    omega (arith, t.at_home, h.at_home, one)
              ];
        }

-- a slot is put in, and its bucket is marked
pub put_marked : (old new : Rings) (slot home : ℕ) (marks marks' : List ℕ) → AreMarked old marks
    → new.slots ≡ old.slots → new.homes ≡ old.homes → slot < old.slots
    → Spliced (next_at old.links) (prev_at old.links) (next_at new.links) (prev_at new.links) (old.slots + home) slot
    → mark_of marks' home ≡ 1
    → ((other : ℕ) → other ≢ home → mark_of marks' other ≡ mark_of marks other) → AreMarked new marks'
put_marked old new slot home marks marks' m same homes low s here others =
    let at_head : (h : ℕ) → newest_node new h ≡ next_at new.links (old.slots + h) =
    λ h. ap (λ n. next_at new.links (n + h)) same in
    let stays : (h : ℕ) → h ≢ home → newest_node new h ≡ newest_node old h =
    λ h ne. at_head h
    ∙ s.others_after (old.slots + h) (λ bad. absurd (omega arith)) (λ bad. ne (omega (arith, bad))) in
    record {
      homes = homes ∙ m.homes;
      used = λ h in_range set.
          elim (cases_eq h home) [
            | inl is ↦ omega (arith, same, at_head h, ap (λ n. next_at new.links (old.slots + n)) is, s.head_after)
            | inr ne ↦ omega (arith, same, stays h ne, m.used h in_range (sym (others h ne) ∙ set))
          ];
      clear = λ h in_range zero.
          elim (cases_eq h home) [
            | inl is ↦ absurd (omega (arith, here, sym (ap (mark_of marks') is) ∙ zero))
            | inr ne ↦ omega (arith, same, stays h ne, m.clear h in_range (sym (others h ne) ∙ zero))
          ];
    }

-- the node before the head of a bucket: the head itself just where its chain is empty
record LastOf (r : Rings) (home : ℕ) : Type 0 where
  -- no head of another bucket
  own : (h : ℕ) → h < r.homes → r.slots + h ≡ prev_at r.links (r.slots + home) → h ≡ home
  some : prev_at r.links (r.slots + home) ≢ r.slots + home → newest_node r home < r.slots

last_of : (r : Rings) (places : ℕ → Option Place) (home : ℕ) → AreChains r places → home < r.homes → LastOf r home
last_of r places home are in_range =
    let a : Shape = shape r.slots r.homes places in
    let head : ℕ = r.slots + home in
    let last : ℕ = prev_at r.links head in
    let h : IsHead r.slots r.homes places head = head_is r.slots r.homes places head (omega arith) (omega (arith, in_range)) in
    let at_home : a.home head ≡ home = omega (arith, h.at_home) in
    let on : a.on last ≡ true = are.chained.before_on head h.on in
    let next : next_at r.links last ≡ head = are.chained.after_before head h.on in
    let last_home : a.home last ≡ home = sym (are.chained.home last on) ∙ ap a.home next ∙ at_home in
    let first : ℕ = next_at r.links head in
    record {
      own = λ o low is.
          let t : IsHead r.slots r.homes places (r.slots + o) = head_is r.slots r.homes places (r.slots + o) (omega arith) (omega (arith, low)) in
          omega (arith, t.at_home, ap a.home is, last_home);
      some = λ ne. elim (node_is r.slots r.homes places first (are.chained.after_on head h.on)) [
        | inl (p, s) ↦ s.low
        | inr t ↦
            let same : a.home first ≡ home = are.chained.home head h.on ∙ at_home in
            let is : first ≡ head = omega (arith, same, t.at_home, t.high) in
            absurd (ne (sym (ap (prev_at r.links) is) ∙ are.chained.before_after head h.on))
      ];
    }

-- a slot is put in as the oldest, and its bucket is marked
pub put_oldest_marked : (old new : Rings) (slot home : ℕ) (marks marks' : List ℕ) (places : ℕ → Option Place) → AreMarked old marks
    → new.slots ≡ old.slots → new.homes ≡ old.homes → AreChains old places → slot < old.slots → home < old.homes
    → Spliced (next_at old.links) (prev_at old.links) (next_at new.links) (prev_at new.links) (prev_at old.links (old.slots + home)) slot
    → mark_of marks' home ≡ 1
    → ((other : ℕ) → other ≢ home → mark_of marks' other ≡ mark_of marks other) → AreMarked new marks'
put_oldest_marked old new slot home marks marks' places m same homes are low in_range s here others =
    let l = last_of old places home are in_range in
    let last : ℕ = prev_at old.links (old.slots + home) in
    let at_head : (h : ℕ) → newest_node new h ≡ next_at new.links (old.slots + h) =
    λ h. ap (λ n. next_at new.links (n + h)) same in
    let stays : (h : ℕ) → old.slots + h ≢ last → newest_node new h ≡ newest_node old h =
    λ h ne. at_head h ∙ s.others_after (old.slots + h) (λ bad. absurd (omega arith)) ne in
    let own : (h : ℕ) → h < BUCKETS → h ≢ home → old.slots + h ≢ last =
    λ h few ne bad. ne (l.own h (omega (arith, m.homes)) bad) in
    record {
      homes = homes ∙ m.homes;
      used = λ h few set.
          elim (cases_eq h home) [
            | inl is ↦ elim (cases_eq (old.slots + h) last) [
              | inl at ↦ omega (arith, same, at_head h, ap (next_at new.links) at, s.head_after)
              | inr ne ↦ omega (arith, same, stays h ne, ap (newest_node old) is, l.some (λ bad. ne (ap (λ n. old.slots + n) is ∙ sym bad)))
            ]
            | inr ne ↦ omega (arith, same, stays h (own h few ne), m.used h few (sym (others h ne) ∙ set))
          ];
      clear = λ h few zero.
          elim (cases_eq h home) [
            | inl is ↦ absurd (omega (arith, here, sym (ap (mark_of marks') is) ∙ zero))
            | inr ne ↦ omega (arith, same, stays h (own h few ne), m.clear h few (sym (others h ne) ∙ zero))
          ];
    }

-- what is told of a slot
pub is_only : (r : Rings) (slot : ℕ) (told : Option ℕ) (home : ℕ) → told ≡ Some home
    → MatchOption told (HasOthers r slot) (IsOnlyOf r slot) → IsOnlyOf r slot home
is_only r slot told home is has = subst (λ (o : Option ℕ). MatchOption o (HasOthers r slot) (IsOnlyOf r slot)) is has

pub has_others : (r : Rings) (slot : ℕ) (told : Option ℕ) → told ≡ None
    → MatchOption told (HasOthers r slot) (IsOnlyOf r slot) → HasOthers r slot
has_others r slot told is has = subst (λ (o : Option ℕ). MatchOption o (HasOthers r slot) (IsOnlyOf r slot)) is has

-- a slot is taken out, and it was not the only one of a bucket
pub take_marked : (old new : Rings) (slot : ℕ) (marks : List ℕ) (places : ℕ → Option Place) → AreMarked old marks
    → new.slots ≡ old.slots → new.homes ≡ old.homes → AreChains old places → slot < old.slots
    → Unspliced (next_at old.links) (prev_at old.links) (next_at new.links) (prev_at new.links) slot
    → HasOthers old slot → AreMarked new marks
take_marked old new slot marks places m same homes are low u kept =
    let prev : ℕ = prev_at old.links slot in
    let at_head : (h : ℕ) → newest_node new h ≡ next_at new.links (old.slots + h) =
    λ h. ap (λ n. next_at new.links (n + h)) same in
    record {
      homes = homes ∙ m.homes;
      used = λ h in_range one.
          elim (cases_eq (old.slots + h) prev) [
            | inl at ↦
                let b = before_is_head old places slot (old.slots + h) are low (omega arith) (omega (arith, m.homes)) (sym at) in
                let now : newest_node new h ≡ next_at old.links slot =
                at_head h ∙ ap (next_at new.links) at ∙ u.prev_after (λ bad. absurd (omega arith)) in
                elim (cases_lt (next_at old.links slot) old.slots) [
                  | inl less ↦ omega (arith, now, same)
                  | inr more ↦ elim kept [ inl ne ↦ absurd (ne (b.last more ∙ at)) | inr less ↦ absurd (omega arith) ]
                ]
            | inr ne ↦
                let stays = u.others_after (old.slots + h) (λ bad. absurd (omega arith)) ne in
                omega (arith, same, at_head h, stays, m.used h in_range one)
          ];
      clear = λ h in_range zero.
          elim (cases_eq (old.slots + h) prev) [
            | inl at ↦
                let b = before_is_head old places slot (old.slots + h) are low (omega arith) (omega (arith, m.homes)) (sym at) in
                absurd (omega (arith, b.after_head, m.clear h in_range zero))
            | inr ne ↦
                let stays = u.others_after (old.slots + h) (λ bad. absurd (omega arith)) ne in
                omega (arith, same, at_head h, stays, m.clear h in_range zero)
          ];
    }

-- and where it was the only one the mark goes
pub take_cleared : (old new : Rings) (slot home : ℕ) (marks marks' : List ℕ) → AreMarked old marks
    → new.slots ≡ old.slots → new.homes ≡ old.homes → slot < old.slots
    → Unspliced (next_at old.links) (prev_at old.links) (next_at new.links) (prev_at new.links) slot
    → IsOnlyOf old slot home → mark_of marks' home ≡ 0
    → ((other : ℕ) → other ≢ home → mark_of marks' other ≡ mark_of marks other) → AreMarked new marks'
take_cleared old new slot home marks marks' m same homes low u only here others =
    let at_head : (h : ℕ) → newest_node new h ≡ next_at new.links (old.slots + h) =
    λ h. ap (λ n. next_at new.links (n + h)) same in
    let stays : (h : ℕ) → h ≢ home → newest_node new h ≡ newest_node old h =
    λ h ne. at_head h
    ∙ u.others_after (old.slots + h) (λ bad. absurd (omega arith)) (λ bad. ne (omega (arith, bad, only.prev))) in
    record {
      homes = homes ∙ m.homes;
      used = λ h in_range set.
          elim (cases_eq h home) [
            | inl is ↦ absurd (omega (arith, here, ap (mark_of marks') is))
            | inr ne ↦ omega (arith, same, stays h ne, m.used h in_range (sym (others h ne) ∙ set))
          ];
      clear = λ h in_range zero.
          elim (cases_eq h home) [
            | inl is ↦
                let at : old.slots + h ≡ prev_at old.links slot = omega (arith, only.prev) in
                omega (arith, same, at_head h, ap (next_at new.links) at, only.next, u.prev_after (λ bad. absurd (omega (arith, only.prev))))
            | inr ne ↦ omega (arith, same, stays h ne, m.clear h in_range (sym (others h ne) ∙ zero))
          ];
    }

-- the first marked bucket is the first with a slot
used_at : (r : Rings) (marks : List ℕ) (from end found : ℕ) (places : ℕ → Option Place)
    → AreMarked r marks → IsFirstMark marks from end found → end ≤ BUCKETS → AreChains r places
    → FirstUsed r places from end found
used_at r marks from end found places m f most are =
    record {
      none_below = λ j p low has up before.
          elim (cases_lt p.home found) [
            | inl less ↦
                let in_range : p.home < BUCKETS = omega arith in
                let n : ℕ = newest_node r p.home in
                let none : node_slot r.slots n ≡ None =
                ap (λ b. cond b (Some n) None) (le-ltb n r.slots (m.clear p.home in_range (f.below p.home up less))) in
                let g : Finds r places p.home (2 ^ 64) None =
                subst (λ (o : Option ℕ). Finds r places p.home (2 ^ 64) o) none (newest_at r p.home (omega (arith, m.homes)) places are) in
                absurd (omega (arith, g.greatest j p low has refl (are.orders j p has)))
            | inr more ↦ more
          ];
      has_slot = λ less.
          let in_range : found < BUCKETS = omega arith in
          let n : ℕ = newest_node r found in
          let some : node_slot r.slots n ≡ Some n =
          ap (λ b. cond b (Some n) None) (lt-ltb n r.slots (m.used found in_range (f.here less))) in
          let g : Finds r places found (2 ^ 64) (Some n) =
          subst (λ (o : Option ℕ). Finds r places found (2 ^ 64) o) some (newest_at r found (omega (arith, m.homes)) places are) in
          record { slot = n; low = g.stands.0; stands = g.stands.1 };
    }

pub finds_used : (r inside : Rings) (marks : List ℕ) (from end found : ℕ) → inside ≡ r → AreMarked inside marks
    → IsFirstMark marks from end found → end ≤ BUCKETS → (places : ℕ → Option Place) → AreChains r places
    → FirstUsed r places from end found
finds_used r inside marks from end found is m f most places are =
    used_at r marks from end found places (subst (λ (x : Rings). AreMarked x marks) is m) f most are
