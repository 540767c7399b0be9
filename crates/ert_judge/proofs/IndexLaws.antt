-- The laws of what finds a wheel's timers: it fits them after one was armed and after one moved.

use Rattle.std.proofs.Common.{arith, ◌≡◌, ◌≢◌, ◌∙◌, refl, sym, ap, subst, inl, inr, ℕ, Bool, true, false, cond, ◌&&◌, nat_eq, List, [], ◌∷◌, ◌++◌, length, get_or, set, Some, eq-eqb, ne_eqb}
use Rattle.std.proofs.lemmas.{Bool.{cases_eq, and_left, and_right, and_from}, Option.{slice_get_within, slice_get_past, same_Some}}
use Rattle.std.specs.Prelude.{slice_get}
use Rattle.std.specs.{BTreeMap.{BTreeMap, get, is_at}, BTreeSet.{BTreeSet, contains}}
use Rattle.ert_defs.specs.{Laws.is_armed, declared.timer.Status.Status, declared.timer.Status.TheVariants.{Armed, Expired, Delivered, Cancelled, Orphaned, Dropped}, declared.timer.TimerRef.TimerRef}
use Rattle.ert_judge.specs.{Uses.{uses_of, none_kept, used_by, uses_in, IsNewUse}, Indexes.{pair_cmp, kept_at, is_armed_for, PutsPlace, Sets, IsIndexed, StandsAt}, declared.state.uses.Uses.Uses as KeptUses}
use Rattle.ert_judge.specs.{declared.state.wheels.Timer.Timer}
use Rattle.ert_judge.proofs.{PairLaws.is_at_pair, PlaceLaws.{slice_get_push, slice_get_before, slice_get_set, slice_get_others}, UseLaws.{uses_push, uses_moved}, ArmedLaws.Waits, MoveLaws.{moved_at, read_there}}

-- a map has the uses of a slot, and all else as another has it
abbrev pub PutsUses : BTreeMap ℕ KeptUses → BTreeMap ℕ KeptUses → ℕ → KeptUses → Type 0
PutsUses m n slot uses = (k : ℕ) → kept_at n k ≡ cond (nat_eq slot k) uses (kept_at m k)

-- where a map has the places of timers, it has them after the place of a new one was put in
pub placed_kept : (ts : List Timer) (m n : BTreeMap (ℕ × ℕ) ℕ) (k g place : ℕ) → IsNewUse ts k g
    → ((q : ℕ × ℕ) → get pair_cmp n q ≡ cond (is_at (pair_cmp (k, g)) q) (Some place) (get pair_cmp m q))
    → ((p : ℕ) (t : Timer) → slice_get ts p ≡ Some t → get pair_cmp m (t.row.timer.slot, t.row.timer.generation) ≡ Some p)
    → (p : ℕ) (t : Timer) → slice_get ts p ≡ Some t → get pair_cmp n (t.row.timer.slot, t.row.timer.generation) ≡ Some p
placed_kept ts m n k g place new puts placed p t stands =
    let other : is_at (pair_cmp (k, g)) (t.row.timer.slot, t.row.timer.generation) ≡ false =
    is_at_pair k g t.row.timer.slot t.row.timer.generation ∙ elim (cases_eq k t.row.timer.slot) [
      | inl e ↦
          and_right (nat_eq k t.row.timer.slot) (nat_eq g t.row.timer.generation)
          (ne_eqb g t.row.timer.generation (λ f. new p t stands (sym e) (sym f)))
      | inr apart ↦ and_left (nat_eq k t.row.timer.slot) (nat_eq g t.row.timer.generation) (ne_eqb k t.row.timer.slot apart)
    ] in
    puts (t.row.timer.slot, t.row.timer.generation) ∙ rw other (placed p t stands)

-- a wheel's timers with one more that is armed, and what finds them
pub push_placed : (ts : List Timer) (m n : BTreeMap (ℕ × ℕ) ℕ) (t : Timer)
    → ((q : ℕ × ℕ) → get pair_cmp n q
    ≡ cond (is_at (pair_cmp (t.row.timer.slot, t.row.timer.generation)) q) (Some (length ts)) (get pair_cmp m q))
    → ((p : ℕ) (u : Timer) → slice_get ts p ≡ Some u → get pair_cmp n (u.row.timer.slot, u.row.timer.generation) ≡ Some p)
    → (p : ℕ) (u : Timer) → slice_get (ts ++ t ∷ []) p ≡ Some u
    → get pair_cmp n (u.row.timer.slot, u.row.timer.generation) ≡ Some p
push_placed ts m n t puts placed p u stands = elim (cases_eq p (length ts)) [
  | inl e ↦
      let same : t ≡ u = same_Some t u (sym (slice_get_push ts t) ∙ (ap (slice_get (ts ++ t ∷ [])) (sym e) ∙ stands)) in
      let key : is_at (pair_cmp (t.row.timer.slot, t.row.timer.generation)) (t.row.timer.slot, t.row.timer.generation) ≡ true =
      is_at_pair t.row.timer.slot t.row.timer.generation t.row.timer.slot t.row.timer.generation
      ∙ and_from (nat_eq t.row.timer.slot t.row.timer.slot) (nat_eq t.row.timer.generation t.row.timer.generation)
      (eq-eqb t.row.timer.slot t.row.timer.slot refl) (eq-eqb t.row.timer.generation t.row.timer.generation refl) in
      let here : get pair_cmp n (t.row.timer.slot, t.row.timer.generation) ≡ Some (length ts) =
      puts (t.row.timer.slot, t.row.timer.generation) ∙ rw key refl in
      subst (λ (v : Timer). get pair_cmp n (v.row.timer.slot, v.row.timer.generation) ≡ Some p) same (here ∙ ap Some (sym e))
  | inr other ↦ placed p u (sym (slice_get_before ts t p other) ∙ stands)
]

push_uses : (ts : List Timer) (slots more_slots : BTreeMap ℕ KeptUses) (uses : KeptUses) (t : Timer)
    → uses_of uses ≡ used_by t.row (uses_in ts t.row.timer.slot)
    → PutsUses slots more_slots t.row.timer.slot uses
    → ((k : ℕ) → uses_of (kept_at slots k) ≡ uses_in ts k)
    → (k : ℕ) → uses_of (kept_at more_slots k) ≡ uses_in (ts ++ t ∷ []) k
push_uses ts slots more_slots uses t more puts kept k = sym (uses_push (uses_of none_kept) ts t k ∙ elim (cases_eq t.row.timer.slot k) [
  | inl is ↦
      let set_there : kept_at more_slots k ≡ uses = puts k ∙ rw (eq-eqb t.row.timer.slot k is) refl in
      let here : used_by t.row (uses_in ts k) ≡ used_by t.row (uses_in ts t.row.timer.slot) =
      ap (λ j. used_by t.row (uses_in ts j)) (sym is) in
      rw (eq-eqb t.row.timer.slot k is) (here ∙ sym more ∙ sym (ap uses_of set_there))
  | inr other ↦
      rw (ne_eqb t.row.timer.slot k other)
      (sym (ap uses_of (puts k ∙ rw (ne_eqb t.row.timer.slot k other) refl) ∙ kept k))
])

push_waits : (ts : List Timer) (s n : BTreeSet (ℕ × ℕ)) (t : Timer) → t.status ≡ Armed
    → ((q : ℕ × ℕ) → contains pair_cmp n q ≡ cond (is_at (pair_cmp (t.row.deadline, length ts)) q) true (contains pair_cmp s q))
    → Waits ts s → Waits (ts ++ t ∷ []) n
push_waits ts s n t armed puts waits d p =
    puts (d, p) ∙ (rw (is_at_pair t.row.deadline (length ts) d p, waits d p) (elim (cases_eq p (length ts)) [
      | inl e ↦
          let none : is_armed_for (slice_get ts p) d ≡ false =
          ap (λ x. is_armed_for x d) (slice_get_past ts p (omega arith)) in
          let there : slice_get (ts ++ t ∷ []) p ≡ Some t = ap (slice_get (ts ++ t ∷ [])) e ∙ slice_get_push ts t in
          rw (none, there, armed, eq-eqb (length ts) p (sym e)) (by_case (nat_eq t.row.deadline d))
      | inr other ↦
          rw (slice_get_before ts t p other, ne_eqb (length ts) p (λ e. other (sym e)), and_right (nat_eq t.row.deadline d) false refl) refl
    ]))
  where
    by_case : (b : Bool) → cond (b && true) true false ≡ (true && b)
    by_case true = refl
    by_case false = refl

pub indexed_push : (ts : List Timer) (m n : BTreeMap (ℕ × ℕ) ℕ) (slots more_slots : BTreeMap ℕ KeptUses) (uses : KeptUses) (s a : BTreeSet (ℕ × ℕ)) (t : Timer)
    → t.status ≡ Armed → PutsUses slots more_slots t.row.timer.slot uses → IsNewUse ts t.row.timer.slot t.row.timer.generation
    → uses_of uses ≡ used_by t.row (uses_in ts t.row.timer.slot)
    → ((q : ℕ × ℕ) → get pair_cmp n q
    ≡ cond (is_at (pair_cmp (t.row.timer.slot, t.row.timer.generation)) q) (Some (length ts)) (get pair_cmp m q))
    → ((q : ℕ × ℕ) → contains pair_cmp a q ≡ cond (is_at (pair_cmp (t.row.deadline, length ts)) q) true (contains pair_cmp s q))
    → IsIndexed ts m slots s
    → IsIndexed (ts ++ t ∷ []) n more_slots a
indexed_push ts m n slots more_slots uses s a t armed low new more puts waits is = record {
  placed = push_placed ts m n t puts
      (placed_kept ts m n t.row.timer.slot t.row.timer.generation (length ts) new puts is.placed);
  uses = push_uses ts slots more_slots uses t more low is.uses;
  waits = push_waits ts s a t armed waits is.waits;
}

-- without memory for it the timers are as they were
pub indexed_place : (ts : List Timer) (m n : BTreeMap (ℕ × ℕ) ℕ) (slots room : BTreeMap ℕ KeptUses) (s a : BTreeSet (ℕ × ℕ)) (k g place : ℕ)
    → IsNewUse ts k g
    → ((q : ℕ × ℕ) → get pair_cmp n q ≡ cond (is_at (pair_cmp (k, g)) q) (Some place) (get pair_cmp m q))
    → ((j : ℕ) → kept_at room j ≡ kept_at slots j) → a.keys ≡ s.keys
    → IsIndexed ts m slots s → IsIndexed ts n room a
indexed_place ts m n slots room s a k g place new puts same unchanged is = record {
  placed = placed_kept ts m n k g place new puts is.placed;
  uses = λ j. ap uses_of (same j) ∙ is.uses j;
  waits = λ d p. rw unchanged (is.waits d p);
}

-- a timer that isn't armed any more isn't armed with a deadline
taken_out : (b was : Bool) (to : Status) → to ≢ Armed → cond (b && true) false (was && b) ≡ (is_armed (Some to) && b)
taken_out b was Armed other = absurd (other refl)
taken_out true was Expired other = refl
taken_out false was Expired other = and_right was false refl
taken_out true was Delivered other = refl
taken_out false was Delivered other = and_right was false refl
taken_out true was Cancelled other = refl
taken_out false was Cancelled other = and_right was false refl
taken_out true was Orphaned other = refl
taken_out false was Orphaned other = and_right was false refl
taken_out true was Dropped other = refl
taken_out false was Dropped other = and_right was false refl

-- the timers of a wheel after a move, and what finds them
pub indexed_moved : (ts : List Timer) (m : BTreeMap (ℕ × ℕ) ℕ) (slots : BTreeMap ℕ KeptUses) (s a : BTreeSet (ℕ × ℕ)) (r : TimerRef)
    (from to : Status) (p : ℕ) (t : Timer) → StandsAt ts r p t → t.status ≡ from → to ≢ Armed
    → ((q : ℕ × ℕ) → contains pair_cmp a q ≡ cond (is_at (pair_cmp (t.row.deadline, p)) q) false (contains pair_cmp s q))
    → IsIndexed ts m slots s
    → IsIndexed (set ts p (record { row = t.row; status = to })) m slots a
indexed_moved ts m slots s a r from to p t at was settled takes is =
    let new : Timer = record { row = t.row; status = to } in
    let there : slice_get (set ts p new) p ≡ Some new = slice_get_set ts p new (slice_get_within ts p t at.stands) in
    record {
      placed = λ q u stands. elim (cases_eq q p) [
        | inl e ↦
            let same : new ≡ u = same_Some new u (sym there ∙ (ap (slice_get (set ts p new)) (sym e) ∙ stands)) in
            subst (λ (v : Timer). get pair_cmp m (v.row.timer.slot, v.row.timer.generation) ≡ Some q) same
            (is.placed p t at.stands ∙ ap Some (sym e))
        | inr other ↦ is.placed q u (sym (slice_get_others ts p q new other) ∙ stands)
      ];
      uses = λ k. is.uses k
          ∙ (sym (uses_moved (uses_of none_kept) r from to ts k) ∙ ap (λ us. uses_in us k) (moved_at ts r from to p t at was));
      waits = λ d q. takes (d, q) ∙ (rw (is_at_pair t.row.deadline p d q, is.waits d q) (elim (cases_eq q p) [
        | inl e ↦
            let here : slice_get (set ts p new) q ≡ Some new = ap (slice_get (set ts p new)) e ∙ there in
            let old : slice_get ts q ≡ Some t = ap (slice_get ts) e ∙ at.stands in
            rw (here, old, eq-eqb p q (sym e)) (taken_out (nat_eq t.row.deadline d) (is_armed (Some t.status)) to settled)
        | inr other ↦
            rw (slice_get_others ts p q new other, ne_eqb p q (λ e. other (sym e)), and_right (nat_eq t.row.deadline d) false refl) refl
      ]));
    }

-- what finds the timers then
pub indexed_there : (ts now : List Timer) (m : BTreeMap (ℕ × ℕ) ℕ) (slots : BTreeMap ℕ KeptUses) (s a : BTreeSet (ℕ × ℕ)) (r : TimerRef)
    (from to : Status) (p : ℕ) (t u : Timer) → ts ≡ now → StandsAt now r p t → u ≡ get_or ts p u → t.status ≡ from
    → to ≢ Armed → Sets s a t.row.deadline p false → IsIndexed ts m slots s
    → IsIndexed (set ts p (record { row = u.row; status = to })) m slots a
indexed_there ts now m slots s a r from to p t u same at is was settled takes indexed =
    let read = read_there ts now r p t u same at is in
    let old : StandsAt ts r p t = subst (λ us. StandsAt us r p t) (sym same) at in
    subst (λ (v : Timer). IsIndexed (set ts p (record { row = v.row; status = to })) m slots a) (sym read)
    (indexed_moved ts m slots s a r from to p t old was settled takes indexed)

-- what finds the timers where nothing was put but room
pub indexed_room : (ts : List Timer) (m n : BTreeMap (ℕ × ℕ) ℕ) (slots room : BTreeMap ℕ KeptUses) (s : BTreeSet (ℕ × ℕ))
    → n.entries ≡ m.entries → ((j : ℕ) → kept_at room j ≡ kept_at slots j) → IsIndexed ts m slots s
    → IsIndexed ts n room s
indexed_room ts m n slots room s same kept is = record {
  placed = λ p t stands. rw same (is.placed p t stands);
  uses = λ j. ap uses_of (kept j) ∙ is.uses j;
  waits = is.waits;
}

-- what finds the timers where the place of one was put that could not be armed
pub indexed_unarmed : (ts us now : List Timer) (m n : BTreeMap (ℕ × ℕ) ℕ) (slots room : BTreeMap ℕ KeptUses) (s a : BTreeSet (ℕ × ℕ))
    (k g place : ℕ) → us ≡ ts → ts ≡ now → IsNewUse now k g → PutsPlace m n k g place
    → ((j : ℕ) → kept_at room j ≡ kept_at slots j) → a.keys ≡ s.keys → IsIndexed ts m slots s → IsIndexed us n room a
indexed_unarmed ts us now m n slots room s a k g place as_was same new puts kept unchanged is =
    let here : IsNewUse ts k g = subst (λ ws. IsNewUse ws k g) (sym same) new in
    subst (λ ws. IsIndexed ws n room a) (sym as_was)
    (indexed_place ts m n slots room s a k g place here puts kept unchanged is)

-- what finds the timers after one was armed
pub indexed_armed : (ts us now : List Timer) (m n : BTreeMap (ℕ × ℕ) ℕ) (slots room more_slots : BTreeMap ℕ KeptUses) (s a : BTreeSet (ℕ × ℕ))
    (place : ℕ) (uses : KeptUses) (t : Timer) → us ≡ ts ++ t ∷ [] → ts ≡ now → place ≡ length ts → t.status ≡ Armed
    → PutsUses room more_slots t.row.timer.slot uses → IsNewUse now t.row.timer.slot t.row.timer.generation
    → uses_of uses ≡ used_by t.row (uses_in now t.row.timer.slot)
    → PutsPlace m n t.row.timer.slot t.row.timer.generation place
    → ((j : ℕ) → kept_at room j ≡ kept_at slots j) → Sets s a t.row.deadline place true → IsIndexed ts m slots s
    → IsIndexed us n more_slots a
indexed_armed ts us now m n slots room more_slots s a place uses t put same at armed low new more puts kept adds is =
    let new_here : IsNewUse ts t.row.timer.slot t.row.timer.generation =
    subst (λ ws. IsNewUse ws t.row.timer.slot t.row.timer.generation) (sym same) new in
    let more_here : uses_of uses ≡ used_by t.row (uses_in ts t.row.timer.slot) =
    more ∙ ap (λ ws. used_by t.row (uses_in ws t.row.timer.slot)) (sym same) in
    let puts_here : PutsPlace m n t.row.timer.slot t.row.timer.generation (length ts) =
    subst (λ p. PutsPlace m n t.row.timer.slot t.row.timer.generation p) at puts in
    let adds_here : Sets s a t.row.deadline (length ts) true = subst (λ p. Sets s a t.row.deadline p true) at adds in
    subst (λ ws. IsIndexed ws n more_slots a) (sym put)
    (indexed_push ts m n room more_slots uses s a t armed low new_here more_here puts_here adds_here (record {
      placed = is.placed;
      uses = λ j. ap uses_of (kept j) ∙ is.uses j;
      waits = is.waits;
    }))
