-- Slots on two stacks, and those that were never taken.

use Rattle.std.proofs.Common.{Option, Some, None, IsNone, IsSome, IfNone, IfSome, MatchOption, option_to_list, append-nil, subst, ◌≡◌, ◌≢◌, ◌↔◌, ℕ, ◌+◌, ◌-◌, ◌<◌, ◌≤◌, true, false, Bool, ◌||◌, ◌&&◌, List, [], ◌∷◌, ◌++◌, length, nat_eq, nat_lt, nat_le, not, refl, sym, ap, ◌∙◌, arith, inl, inr, true≢false, eq-eqb, ne_eqb}
use Rattle.std.proofs.lemmas.{Bool.{cases_eq, cases_lt}, Bool.Decides.nat_tests, List.Folds.list_any-append}
use Rattle.std.specs.{Cmp.{nat_cmp_total, unsigned_tied}, List.{list_any, range_with_len}, Ordering.nat_cmp}
use Rattle.std.specs.FinSet as set
use Rattle.ert_timers.specs.Free.{Free, FreeSet, free_at, free_list, free_set, with_short, with_long, stacks_changed, TakesFresh, TakesLong, TakesNextSlot, HasNoneFree, IsStacked}
use Rattle.ert_timers.proofs.Held.{IsPopped, Picks, below_more, contains-from_list, distinct_none, list_any-last, list_any-push, list_any-range, nothing, or-true, or_swap, popped, pushed, room_left}

-- whether a slot is free, where these are the stacks, in whichever order
abbrev pub is_free : ℕ → ℕ → List ℕ → List ℕ → ℕ → Bool
is_free slots fresh xs ys q = list_any (nat_eq q) xs || (list_any (nat_eq q) ys || (nat_le fresh q && nat_lt q slots))

-- the set has those slots
pub contains_free : (slots fresh : ℕ) (xs ys : List ℕ) (q : ℕ) → fresh ≤ slots
    → set.contains (free_set (free_at slots fresh xs ys)).held q ≡ is_free slots fresh xs ys q
contains_free slots fresh xs ys q fits =
    let rest : List ℕ = range_with_len fresh (slots - fresh) in
    let all : fresh + (slots - fresh) ≡ slots = omega arith in
    contains-from_list (xs ++ (ys ++ rest)) q
    ∙ (list_any-append (nat_eq q) xs (ys ++ rest)
    ∙ ap (λ b. list_any (nat_eq q) xs || b)
    (list_any-append (nat_eq q) ys rest
    ∙ ap (λ b. list_any (nat_eq q) ys || b)
    (list_any-range fresh (slots - fresh) q ∙ ap (λ n. nat_le fresh q && nat_lt q n) all)))

-- the stacks change places
free_swap : (slots fresh : ℕ) (xs ys : List ℕ) (q : ℕ) → is_free slots fresh xs ys q ≡ is_free slots fresh ys xs q
free_swap slots fresh xs ys q = or_swap (list_any (nat_eq q) xs) (list_any (nat_eq q) ys) (nat_le fresh q && nat_lt q slots)

stacks_swap : (slots fresh xcap ycap : ℕ) (xs ys : List ℕ) → IsStacked slots fresh xs ys xcap ycap → IsStacked slots fresh ys xs ycap xcap
stacks_swap slots fresh xcap ycap xs ys s = record {
  short_room = s.long_room;
  long_room = s.short_room;
  short_taken = s.long_taken;
  long_taken = s.short_taken;
  apart = λ q is. other q is (list_any (nat_eq q) xs) refl;
  fits = s.fits;
}
  where
    other : (q : ℕ) → list_any (nat_eq q) ys ≡ true → (b : Bool) → list_any (nat_eq q) xs ≡ b → list_any (nat_eq q) xs ≡ false
    other q is false e = e
    other q is true e = absurd (true≢false (sym is ∙ s.apart q e))

-- a slot that was taken and is on no stack isn't free
not_free : (slots fresh : ℕ) (xs ys : List ℕ) (x : ℕ) → list_any (nat_eq x) xs ≡ false → list_any (nat_eq x) ys ≡ false → x < fresh
    → is_free slots fresh xs ys x ≡ false
not_free slots fresh xs ys x first second low =
    let old : nat_le fresh x ≡ false = grind (arith, nat_tests) in
    λ i. first i || (second i || (old i && nat_lt x slots))

-- a slot that isn't free was taken, and is on no stack
record IsAway (fresh : ℕ) (xs ys : List ℕ) (x : ℕ) : Type 0 where
  pub first : list_any (nat_eq x) xs ≡ false
  pub second : list_any (nat_eq x) ys ≡ false
  pub old : x < fresh

or_false : (a b : Bool) → (a || b) ≡ false → (a ≡ false) × (b ≡ false)
or_false true b e = absurd (true≢false e)
or_false false b e = (refl, e)

is_away : (slots fresh : ℕ) (xs ys : List ℕ) (x : ℕ) → x < slots → is_free slots fresh xs ys x ≡ false → IsAway fresh xs ys x
is_away slots fresh xs ys x low away =
    let first = or_false (list_any (nat_eq x) xs) (list_any (nat_eq x) ys || (nat_le fresh x && nat_lt x slots)) away in
    let second = or_false (list_any (nat_eq x) ys) (nat_le fresh x && nat_lt x slots) first.1 in
    record {
      first = first.0;
      second = second.0;
      old = elim (cases_lt x fresh) [
        | inl old ↦ old
        | inr new ↦ let is : (nat_le fresh x && nat_lt x slots) ≡ true = grind (arith, nat_tests) in absurd (true≢false (sym is ∙ second.1))
      ];
    }

-- a slot from a bound on isn't on a stack that is below it
absent : (xs : List ℕ) (x bound : ℕ) → ((q : ℕ) → list_any (nat_eq q) xs ≡ true → q < bound) → bound ≤ x → list_any (nat_eq x) xs ≡ false
absent xs x bound below high = at (list_any (nat_eq x) xs) refl
  where
    at : (b : Bool) → list_any (nat_eq x) xs ≡ b → list_any (nat_eq x) xs ≡ false
    at false e = e
    at true e = absurd (let low : x < bound = below x e in omega arith)

-- a set with one slot less or more, told by who is in it
set_less : (old new : set.FinSet nat_cmp) (x : ℕ) → set.contains new x ≡ false
    → ((q : ℕ) → q ≢ x → set.contains new q ≡ set.contains old q) → new ≡ set.remove old x
set_less old new x gone others =
    set.same_set nat_cmp_total set.nat_cmp-IsAntisymmetric new (set.remove old x) at
  where
    left : (q : ℕ) → set.contains (set.remove old x) q ≡ (not (nat_eq q x) && set.contains old q)
    left q = set.contains-remove nat_cmp_total old x q ∙ (λ i. not (unsigned_tied q x i) && set.contains old q)

    at : (q : ℕ) → set.contains new q ≡ set.contains (set.remove old x) q
    at q =
        elim (cases_eq q x) [
          | inl e ↦ ap (λ n. set.contains new n) e ∙ gone ∙ sym (left q ∙ ap (λ b. not b && set.contains old q) (eq-eqb q x e))
          | inr ne ↦ others q ne ∙ sym (left q ∙ ap (λ b. not b && set.contains old q) (ne_eqb q x ne))
        ]

set_more : (old new : set.FinSet nat_cmp) (x : ℕ) → set.contains new x ≡ true
    → ((q : ℕ) → q ≢ x → set.contains new q ≡ set.contains old q) → new ≡ set.insert old x
set_more old new x here others =
    set.same_set nat_cmp_total set.nat_cmp-IsAntisymmetric new (set.insert old x) at
  where
    more : (q : ℕ) → set.contains (set.insert old x) q ≡ (nat_eq q x || set.contains old q)
    more q = set.contains-insert nat_cmp_total old x q ∙ (λ i. unsigned_tied q x i || set.contains old q)

    at : (q : ℕ) → set.contains new q ≡ set.contains (set.insert old x) q
    at q =
        elim (cases_eq q x) [
          | inl e ↦ ap (λ n. set.contains new n) e ∙ here ∙ sym (more q ∙ ap (λ b. b || set.contains old q) (eq-eqb q x e))
          | inr ne ↦ others q ne ∙ sym (more q ∙ ap (λ b. b || set.contains old q) (ne_eqb q x ne))
        ]

-- the free slots before and after one was taken, by the tests
record Takes (slots fresh : ℕ) (xs ys : List ℕ) (fresh' : ℕ) (xs' ys' : List ℕ) (x : ℕ) : Type 0 where
  pub low : x < slots
  pub was : is_free slots fresh xs ys x ≡ true
  pub gone : is_free slots fresh' xs' ys' x ≡ false
  pub others : (q : ℕ) → q ≢ x → is_free slots fresh' xs' ys' q ≡ is_free slots fresh xs ys q

-- and by the sets
takes_picks : (slots fresh : ℕ) (xs ys : List ℕ) (fresh' : ℕ) (xs' ys' : List ℕ) (x : ℕ) → fresh ≤ slots → fresh' ≤ slots
    → Takes slots fresh xs ys fresh' xs' ys' x → Picks (free_set (free_at slots fresh xs ys)) (free_set (free_at slots fresh' xs' ys')) (Some x)
takes_picks slots fresh xs ys fresh' xs' ys' x fits fits' t = record {
  held = contains_free slots fresh xs ys x fits ∙ t.was;
  taken = ap (λ (s : set.FinSet nat_cmp). record { slots = slots; held = s })
      (set_less (free_set (free_at slots fresh xs ys)).held (free_set (free_at slots fresh' xs' ys')).held x
      (contains_free slots fresh' xs' ys' x fits' ∙ t.gone)
      (λ q ne. contains_free slots fresh' xs' ys' q fits' ∙ (t.others q ne ∙ sym (contains_free slots fresh xs ys q fits))));
  in_range = t.low;
}

-- the first stack loses its top
record Pops (slots fresh x xcap ycap : ℕ) (zs ys : List ℕ) : Type 0 where
  pub left : IsStacked slots fresh zs ys xcap ycap
  pub takes : Takes slots fresh (zs ++ x ∷ []) ys fresh zs ys x

pops : (slots fresh x xcap ycap : ℕ) (zs ys : List ℕ) → IsStacked slots fresh (zs ++ x ∷ []) ys xcap ycap → Pops slots fresh x xcap ycap zs ys
pops slots fresh x xcap ycap zs ys s = record {
  left = record {
    short_room = p.room;
    long_room = s.long_room;
    short_taken = λ q is. s.short_taken q (more q is);
    long_taken = s.long_taken;
    apart = λ q is. s.apart q (more q is);
    fits = s.fits;
  };
  takes = record {
    low = p.in_range;
    was = ap (λ b. b || (list_any (nat_eq x) ys || (nat_le fresh x && nat_lt x slots))) (list_any-last x zs);
    gone = not_free slots fresh zs ys x p.away (s.apart x (list_any-last x zs)) (s.short_taken x (list_any-last x zs));
    others = λ q ne. ap (λ b. b || (list_any (nat_eq q) ys || (nat_le fresh q && nat_lt q slots)))
        (sym (list_any-push (nat_eq q) zs x ∙ ap (λ b. b || list_any (nat_eq q) zs) (ne_eqb q x ne)));
  };
}
  where
    p : IsPopped slots xcap x zs
    p = popped slots xcap x zs s.short_room

    more : (q : ℕ) → list_any (nat_eq q) zs ≡ true → list_any (nat_eq q) (zs ++ x ∷ []) ≡ true
    more q is = list_any-push (nat_eq q) zs x ∙ (ap (λ b. nat_eq q x || b) is ∙ or-true (nat_eq q x))

-- the least slot that was never taken is taken
record UsesFirst (slots fresh xcap ycap : ℕ) (xs ys : List ℕ) : Type 0 where
  pub left : IsStacked slots (fresh + 1) xs ys xcap ycap
  pub takes : Takes slots fresh xs ys (fresh + 1) xs ys fresh

uses_first : (slots fresh xcap ycap : ℕ) (xs ys : List ℕ) → fresh < slots → IsStacked slots fresh xs ys xcap ycap → UsesFirst slots fresh xcap ycap xs ys
uses_first slots fresh xcap ycap xs ys low s = record {
  left = record {
    short_room = s.short_room;
    long_room = s.long_room;
    short_taken = λ q is. (let old : q < fresh = s.short_taken q is in omega arith);
    long_taken = λ q is. (let old : q < fresh = s.long_taken q is in omega arith);
    apart = s.apart;
    fits = omega arith;
  };
  takes = record {
    low = low;
    was = ap (λ b. list_any (nat_eq fresh) xs || (list_any (nat_eq fresh) ys || b)) here
        ∙ (ap (λ b. list_any (nat_eq fresh) xs || b) (or-true (list_any (nat_eq fresh) ys)) ∙ or-true (list_any (nat_eq fresh) xs));
    gone = not_free slots (fresh + 1) xs ys fresh (absent xs fresh fresh s.short_taken (omega arith)) (absent ys fresh fresh s.long_taken (omega arith)) (omega arith);
    others = λ q ne. ap (λ b. list_any (nat_eq q) xs || (list_any (nat_eq q) ys || (b && nat_lt q slots))) (from q ne);
  };
}
  where
    here : (nat_le fresh fresh && nat_lt fresh slots) ≡ true
    here = grind (arith, nat_tests)

    from : (q : ℕ) → q ≢ fresh → nat_le (fresh + 1) q ≡ nat_le fresh q
    from q ne = grind (arith, nat_tests)

-- the first stack gets a top
record Pushes (slots fresh x xcap ycap : ℕ) (xs ys : List ℕ) : Type 0 where
  pub left : IsStacked slots fresh (xs ++ x ∷ []) ys xcap ycap
  pub few : length xs < slots
  pub here : is_free slots fresh (xs ++ x ∷ []) ys x ≡ true
  pub others : (q : ℕ) → q ≢ x → is_free slots fresh (xs ++ x ∷ []) ys q ≡ is_free slots fresh xs ys q

pushes : (slots fresh x xcap ycap : ℕ) (xs ys : List ℕ) → x < slots → is_free slots fresh xs ys x ≡ false → IsStacked slots fresh xs ys xcap ycap
    → Pushes slots fresh x xcap ycap xs ys
pushes slots fresh x xcap ycap xs ys low away s = record {
  left = record {
    short_room = pushed slots xcap xcap x xs s.short_room (omega arith) low t.first;
    long_room = s.long_room;
    short_taken = λ q is. below_more fresh x q (list_any (nat_eq q) xs) t.old (s.short_taken q) (sym (list_any-push (nat_eq q) xs x) ∙ is);
    long_taken = s.long_taken;
    apart = λ q is. elim (cases_eq q x) [
      | inl e ↦ ap (λ n. list_any (nat_eq n) ys) e ∙ t.second
      | inr ne ↦ s.apart q (sym (but q ne) ∙ is)
    ];
    fits = s.fits;
  };
  few = room_left slots xcap x xs s.short_room low t.first;
  here = ap (λ b. b || (list_any (nat_eq x) ys || (nat_le fresh x && nat_lt x slots))) (list_any-last x xs);
  others = λ q ne. ap (λ b. b || (list_any (nat_eq q) ys || (nat_le fresh q && nat_lt q slots))) (but q ne);
}
  where
    t : IsAway fresh xs ys x
    t = is_away slots fresh xs ys x low away

    but : (q : ℕ) → q ≢ x → list_any (nat_eq q) (xs ++ x ∷ []) ≡ list_any (nat_eq q) xs
    but q ne = list_any-push (nat_eq q) xs x ∙ ap (λ b. b || list_any (nat_eq q) xs) (ne_eqb q x ne)

-- what a call took, and what is left: by the sets, and by the stacks
pub record IsTaken (old new : Free) (xcap ycap : ℕ) (picked : Option ℕ) : Type 0 where
  pub left : IsStacked new.slots new.fresh new.short new.long xcap ycap
  pub picks : Picks (free_set old) (free_set new) picked

taken_short : (old new : Free) (x xcap ycap : ℕ) → old ≡ with_short new x → IsStacked old.slots old.fresh old.short old.long xcap ycap
    → IsTaken old new xcap ycap (Some x)
taken_short old new x xcap ycap was s =
    let s' = subst (λ (o : Free). IsStacked o.slots o.fresh o.short o.long xcap ycap) was s in
    let p = pops new.slots new.fresh x xcap ycap new.short new.long s' in
    record {
      left = p.left;
      picks = subst (λ (o : Free). Picks (free_set o) (free_set new) (Some x)) (sym was)
          (takes_picks new.slots new.fresh (new.short ++ x ∷ []) new.long new.fresh new.short new.long x s'.fits s'.fits p.takes);
    }

pub taken_long : (old new : Free) (x xcap ycap : ℕ) → old ≡ with_long new x → IsStacked old.slots old.fresh old.short old.long xcap ycap
    → IsTaken old new xcap ycap (Some x)
taken_long old new x xcap ycap was s =
    let s' = subst (λ (o : Free). IsStacked o.slots o.fresh o.short o.long xcap ycap) was s in
    let p = pops new.slots new.fresh x ycap xcap new.long new.short (stacks_swap new.slots new.fresh xcap ycap new.short (new.long ++ x ∷ []) s') in
    let swap_old = free_swap new.slots new.fresh new.short (new.long ++ x ∷ []) in
    let swap_new = free_swap new.slots new.fresh new.short new.long in
    record {
      left = stacks_swap new.slots new.fresh ycap xcap new.long new.short p.left;
      picks = subst (λ (o : Free). Picks (free_set o) (free_set new) (Some x)) (sym was)
          (takes_picks new.slots new.fresh new.short (new.long ++ x ∷ []) new.fresh new.short new.long x s'.fits s'.fits
          (record {
            low = p.takes.low;
            was = swap_old x ∙ p.takes.was;
            gone = swap_new x ∙ p.takes.gone;
            others = λ q ne. swap_new q ∙ (p.takes.others q ne ∙ sym (swap_old q));
          }));
    }

taken_fresh : (old new : Free) (x xcap ycap : ℕ) → TakesFresh old new x → IsStacked old.slots old.fresh old.short old.long xcap ycap
    → IsTaken old new xcap ycap (Some x)
taken_fresh old new x xcap ycap t s =
    let u = uses_first old.slots old.fresh xcap ycap old.short old.long t.low s in
    subst (λ (n : Free). IsTaken old n xcap ycap (Some x)) (sym t.left)
    (subst (λ y. IsTaken old (record old { fresh = old.fresh + 1 }) xcap ycap (Some y)) (sym t.is)
    (record {
      left = u.left;
      picks = takes_picks old.slots old.fresh old.short old.long (old.fresh + 1) old.short old.long old.fresh s.fits u.left.fits u.takes;
    }))

-- what a pick tells
pub record IsPicked (old new : Free) (xcap ycap : ℕ) (picked : Option ℕ) : Type 0 where
  pub left : IsStacked new.slots new.fresh new.short new.long xcap ycap
  pub picks : Picks (free_set old) (free_set new) picked
  pub none : IsNone picked ↔ (free_list old ≡ [])
  pub unchanged : IfNone picked (new ≡ old)
  pub next : IfSome picked (TakesNextSlot old new)

-- none is free
empty_list : (f : Free) → f.short ≡ [] → f.slots ≤ f.fresh → f.long ≡ [] → free_list f ≡ []
empty_list f short all long =
    let rest : List ℕ = range_with_len f.fresh (f.slots - f.fresh) in
    let nothing : f.slots - f.fresh ≡ 0 = omega arith in
    ap (λ xs. xs ++ (f.long ++ rest)) short ∙ (ap (λ xs. xs ++ rest) long ∙ ap (range_with_len f.fresh) nothing)

-- where a slot is held the list isn't empty
some_listed : (f : Free) (x : ℕ) → set.contains (free_set f).held x ≡ true → free_list f ≡ [] → ⊥
some_listed f x held none =
    true≢false (sym held ∙ (ap (λ (xs : List ℕ). set.contains {R = nat_cmp} (set.from_list {R = nat_cmp} xs) x) none ∙ set.contains-empty nat_cmp x))

picks_some : (old new : Free) (x xcap ycap : ℕ) → TakesNextSlot old new x → IsTaken old new xcap ycap (Some x) → IsPicked old new xcap ycap (Some x)
picks_some old new x xcap ycap next t = record {
  left = t.left;
  picks = t.picks;
  none = (λ is. absurd (true≢false is), λ none. absurd (some_listed old x t.picks.held none));
  unchanged = tt;
  next = next;
}

pub next_picked : (old new : Free) (xcap ycap : ℕ) (picked : Option ℕ) → IsStacked old.slots old.fresh old.short old.long xcap ycap
    → MatchOption picked (HasNoneFree old new) (TakesNextSlot old new) → IsPicked old new xcap ycap picked
next_picked old new xcap ycap None s found = record {
  left = subst (λ (n : Free). IsStacked n.slots n.fresh n.short n.long xcap ycap) (sym found.same) s;
  picks = record { held = tt; taken = tt; in_range = tt };
  none = (λ _. empty_list old found.short found.all found.long, λ _. refl);
  unchanged = found.same;
  next = tt;
}
next_picked old new xcap ycap (Some x) s (inl was) = picks_some old new x xcap ycap (inl was) (taken_short old new x xcap ycap was s)
next_picked old new xcap ycap (Some x) s (inr (inl fresh)) = picks_some old new x xcap ycap (inr (inl fresh)) (taken_fresh old new x xcap ycap fresh s)
next_picked old new xcap ycap (Some x) s (inr (inr last)) = picks_some old new x xcap ycap (inr (inr last)) (taken_long old new x xcap ycap last.was s)

-- the same slots are free where the stacks change places
same_free : (slots fresh xcap ycap : ℕ) (xs ys : List ℕ) → IsStacked slots fresh xs ys xcap ycap
    → free_set (free_at slots fresh ys xs) ≡ free_set (free_at slots fresh xs ys)
same_free slots fresh xcap ycap xs ys s =
    ap (λ (s : set.FinSet nat_cmp). let f : FreeSet = record { slots = slots; held = s } in f)
    (set.same_set nat_cmp_total set.nat_cmp-IsAntisymmetric (free_set (free_at slots fresh ys xs)).held (free_set (free_at slots fresh xs ys)).held
    (λ q. contains_free slots fresh ys xs q s.fits ∙ (free_swap slots fresh ys xs q ∙ sym (contains_free slots fresh xs ys q s.fits))))

-- what a pick for a long wait tells
pub record IsPickedLong (old new : Free) (xcap ycap : ℕ) (picked : Option ℕ) : Type 0 where
  pub left : IsStacked new.slots new.fresh new.short new.long xcap ycap
  pub picks : Picks (free_set old) (free_set new) picked
  pub none : IsNone picked ↔ (free_list old ≡ [])
  pub unchanged : IfNone picked (new ≡ old)
  pub next : IfSome picked (TakesLong old new)

pub long_picked : (old new : Free) (xcap ycap : ℕ) (picked : Option ℕ) → IsStacked old.slots old.fresh old.short old.long xcap ycap
    → MatchOption picked (HasNoneFree (stacks_changed old) (stacks_changed new)) (TakesNextSlot (stacks_changed old) (stacks_changed new))
    → IsPickedLong old new xcap ycap picked
long_picked old new xcap ycap None s found =
    let same : new ≡ old = ap stacks_changed found.same in
    record {
      left = subst (λ (n : Free). IsStacked n.slots n.fresh n.short n.long xcap ycap) (sym same) s;
      picks = record { held = tt; taken = tt; in_range = tt };
      none = (λ _. empty_list old found.long found.all found.short, λ _. refl);
      unchanged = same;
      next = tt;
    }
long_picked old new xcap ycap (Some x) s found =
    let p = next_picked (stacks_changed old) (stacks_changed new) ycap xcap (Some x) (stacks_swap old.slots old.fresh xcap ycap old.short old.long s) found in
    let left = stacks_swap new.slots new.fresh ycap xcap new.long new.short p.left in
    let picks = subst (λ (o : FreeSet). Picks o (free_set new) (Some x)) (same_free old.slots old.fresh xcap ycap old.short old.long s)
    (subst (λ (n : FreeSet). Picks (free_set (stacks_changed old)) n (Some x)) (same_free new.slots new.fresh xcap ycap new.short new.long left) p.picks) in
    record {
      left = left;
      picks = picks;
      none = (λ is. absurd (true≢false is), λ none. absurd (some_listed old x picks.held none));
      unchanged = tt;
      next = found;
    }

-- a stack that gave nothing was empty
pub nothing_left : (n : ℕ) (xs ys : List ℕ) (picked : Option ℕ) → picked ≡ None → n ≡ length xs → xs ≡ ys ++ option_to_list picked
    → IsSome picked ↔ (0 < n) → (xs ≡ []) × (ys ≡ xs)
nothing_left n xs ys None is len items some = ((nothing n xs None len some).0 refl, sym (items ∙ append-nil ys))
nothing_left n xs ys (Some x) is len items some = absurd cc

-- what a put tells
pub record IsPut (old new : Free) (x xcap ycap : ℕ) : Type 0 where
  pub left : IsStacked new.slots new.fresh new.short new.long xcap ycap
  pub held : free_set new ≡ record { slots = old.slots; held = set.insert (free_set old).held x }

pub put_short : (old : Free) (x xcap ycap : ℕ) → IsStacked old.slots old.fresh old.short old.long xcap ycap → x < old.slots
    → set.contains (free_set old).held x ≡ false → (length old.short < old.slots) × IsPut old (with_short old x) x xcap ycap
put_short old x xcap ycap s low away =
    let p = pushes old.slots old.fresh x xcap ycap old.short old.long low (sym (contains_free old.slots old.fresh old.short old.long x s.fits) ∙ away) s in (
      p.few,
      record {
        left = p.left;
        held = ap (λ (s : set.FinSet nat_cmp). record { slots = old.slots; held = s })
            (set_more (free_set old).held (free_set (with_short old x)).held x
            (contains_free old.slots old.fresh (old.short ++ x ∷ []) old.long x s.fits ∙ p.here)
            (λ q ne. contains_free old.slots old.fresh (old.short ++ x ∷ []) old.long q s.fits
            ∙ (p.others q ne ∙ sym (contains_free old.slots old.fresh old.short old.long q s.fits))));
      },
    )

pub put_long : (old : Free) (x xcap ycap : ℕ) → IsStacked old.slots old.fresh old.short old.long xcap ycap → x < old.slots
    → set.contains (free_set old).held x ≡ false → (length old.long < old.slots) × IsPut old (with_long old x) x xcap ycap
put_long old x xcap ycap s low away =
    let swap_old = free_swap old.slots old.fresh old.short old.long in
    let swap_new = free_swap old.slots old.fresh old.short (old.long ++ x ∷ []) in
    let p = pushes old.slots old.fresh x ycap xcap old.long old.short low
    (sym (swap_old x) ∙ (sym (contains_free old.slots old.fresh old.short old.long x s.fits) ∙ away))
    (stacks_swap old.slots old.fresh xcap ycap old.short old.long s) in (
      p.few,
      record {
        left = stacks_swap old.slots old.fresh ycap xcap (old.long ++ x ∷ []) old.short p.left;
        held = ap (λ (s : set.FinSet nat_cmp). record { slots = old.slots; held = s })
            (set_more (free_set old).held (free_set (with_long old x)).held x
            (contains_free old.slots old.fresh old.short (old.long ++ x ∷ []) x s.fits ∙ (swap_new x ∙ p.here))
            (λ q ne. contains_free old.slots old.fresh old.short (old.long ++ x ∷ []) q s.fits
            ∙ (swap_new q ∙ (p.others q ne ∙ (sym (swap_old q) ∙ sym (contains_free old.slots old.fresh old.short old.long q s.fits))))));
      },
    )

-- all slots are free, and none was ever taken
pub none_taken : (slots xcap ycap : ℕ) → slots ≤ xcap → slots ≤ ycap → IsStacked slots 0 [] [] xcap ycap
none_taken slots xcap ycap xroom yroom = record {
  short_room = record { once = distinct_none; below = λ q is. absurd (true≢false (sym is)); room = xroom };
  long_room = record { once = distinct_none; below = λ q is. absurd (true≢false (sym is)); room = yroom };
  short_taken = λ q is. absurd (true≢false (sym is));
  long_taken = λ q is. absurd (true≢false (sym is));
  apart = λ q is. refl;
  fits = omega arith;
}

pub all_free : (slots q : ℕ) → set.contains (free_set (free_at slots 0 [] [])).held q ≡ nat_lt q slots
all_free slots q = contains_free slots 0 [] [] q (omega arith) ∙ grind (arith, nat_tests)

-- where the stack of short waits was found empty, the least slot that was never taken comes next
pub next_fresh : (slots fresh : ℕ) (xs xs' ys : List ℕ) → fresh < slots → (xs ≡ []) × (xs' ≡ xs)
    → TakesNextSlot (free_at slots fresh xs ys) (free_at slots (fresh + 1) xs' ys) fresh
next_fresh slots fresh xs xs' ys low none =
    inr (inl (record { none = none.0; low = low; is = refl; left = ap (λ (l : List ℕ). free_at slots (fresh + 1) l ys) none.1 }))

-- and where there is none, the top of the other stack
pub next_found : (slots fresh : ℕ) (xs xs' ys zs : List ℕ) (n : ℕ) (picked : Option ℕ) → slots ≤ fresh → (xs ≡ []) × (xs' ≡ xs)
    → n ≡ length ys → ys ≡ zs ++ option_to_list picked → IsSome picked ↔ (0 < n)
    → MatchOption picked (HasNoneFree (free_at slots fresh xs ys) (free_at slots fresh xs' zs)) (TakesNextSlot (free_at slots fresh xs ys) (free_at slots fresh xs' zs))
next_found slots fresh xs xs' ys zs n None all none len items some =
    let left = nothing_left n ys zs None refl len items some in
    record { short = none.0; all = all; long = left.0; same = λ i. free_at slots fresh (none.1 i) (left.1 i) }
next_found slots fresh xs xs' ys zs n (Some x) all none len items some =
    inr (inr (record { none = none.0; all = all; was = λ i. free_at slots fresh (sym none.1 i) (items i) }))
