-- Due rows are taken out one by one.

use Rattle.std.proofs.Common.{◌≡◌, ◌≢◌, ℕ, suc, ◌+◌, ◌<◌, cond, nat_eq, List, [], ◌∷◌, Option, Some, None, length, get_or, set, take, sym, subst, ◌∙◌, ap, inl, inr, refl, arith, get_or-set_same, get_or-set_other}
use Rattle.std.proofs.{Math.ListN.get_or-eq_default, Math.Seq.take-suc, lemmas.Bool.{cases_eq, cases_lt, eq-eqb, ne_eqb}, lemmas.List.{length-set, map-append}, lemmas.List.Sums.sum_by-append}
use Rattle.ert_wheel.proofs.{Lists.times-cons, StandsOn.{HaveStood, stay_on}, Writes.TakesOut}
use Rattle.ert_wheel.specs.{Rows.{Held, key_in, row_told, rows_told, times}, Standing.{bucket_in, StayOrFall}, declared.row.HeldRow.HeldRow, declared.row.Key.Key, declared.row.Row.Row}

-- a slot that was given up has no key
none_there : (keys : List (Option Key)) (slot : ℕ) → key_in (set keys slot None) slot ≡ None
none_there keys slot =
    elim (cases_lt slot (length keys)) [
      | inl low ↦ get_or-set_same keys slot None None low
      | inr high ↦ get_or-eq_default (set keys slot None) None (omega (arith, high, length-set keys slot None))
    ]

-- rows were taken out, and those that are left stand where they stood
pub record TakesSome {T : Type 0} (old now : Held T) (rows : List Row) : Type 0 where
  pub out : TakesOut old now rows
  pub stood : HaveStood old now

pub takes_none : {T : Type 0} (old : Held T) → TakesSome old old []
takes_none old = record {
  out = record {
    len = refl;
    stays = λ j none. refl;
    gone = λ j some. absurd (omega (arith, some, none_of j));
    owners = refl;
    values = refl;
    passed = refl;
  };
  stood = λ slot key has. refl;
}
  where
    none_of : (j : ℕ) → times j [] ≡ 0
    none_of j = refl

times_more : (keys : List (Option Key)) (items : List HeldRow) (n : ℕ) (d : HeldRow) (j : ℕ) → n < length items
    → times j (rows_told keys (take (n + 1) items)) ≡ times j (rows_told keys (take n items)) + cond (nat_eq (get_or items n d).slot j) 1 0
times_more keys items n d j low =
    let row : HeldRow = get_or items n d in
    let told : Row = row_told keys row in
    let before : List Row = rows_told keys (take n items) in
    let e : n + 1 ≡ suc n = omega arith in
    ap (λ m. times j (rows_told keys (take m items))) e
    ∙ (ap (λ (rows : List HeldRow). times j (rows_told keys rows)) (take-suc items n d low)
    ∙ (ap (times j) (map-append (row_told keys) (take n items) (row ∷ []))
    ∙ (sum_by-append (λ (r : Row). cond (nat_eq r.slot j) 1 0) before (told ∷ [])
    ∙ ap (λ m. times j before + m) (times-cons told [] j ∙ omega arith))))

pub takes_more : {T : Type 0} (old mid now : Held T) (items : List HeldRow) (n : ℕ) (d : HeldRow) → n < length items
    → TakesSome old mid (rows_told old.keys (take n items)) → now.keys ≡ set mid.keys (get_or items n d).slot None
    → now.stands ≡ set mid.stands (get_or items n d).slot None → now.owners ≡ mid.owners → now.values ≡ mid.values → now.passed ≡ mid.passed
    → TakesSome old now (rows_told old.keys (take (n + 1) items))
takes_more old mid now items n d low t keys stands owners values passed = record {
  out = record {
    len = ap length keys ∙ (length-set mid.keys slot None ∙ t.out.len);
    stays = λ j none. elim (cases_eq slot j) [
      | inl e ↦
          let one : ◌≡◌ {A = ℕ} (cond (nat_eq slot j) 1 0) 1 = ap (λ b. cond b 1 0) (eq-eqb slot j e) in
          absurd (omega (arith, none, times_more old.keys items n d j low, one))
      | inr ne ↦
          let zero_more : ◌≡◌ {A = ℕ} (cond (nat_eq slot j) 1 0) 0 = ap (λ b. cond b 1 0) (ne_eqb slot j ne) in
          there j (λ e. ne (sym e)) ∙ t.out.stays j (omega (arith, none, times_more old.keys items n d j low, zero_more))
    ];
    gone = λ j some. elim (cases_eq slot j) [
      | inl e ↦ subst (λ i. key_in now.keys i ≡ None) e (ap (λ ks. key_in ks slot) keys ∙ none_there mid.keys slot)
      | inr ne ↦
          let zero_more : ◌≡◌ {A = ℕ} (cond (nat_eq slot j) 1 0) 0 = ap (λ b. cond b 1 0) (ne_eqb slot j ne) in
          there j (λ e. ne (sym e)) ∙ t.out.gone j (omega (arith, some, times_more old.keys items n d j low, zero_more))
    ];
    owners = owners ∙ t.out.owners;
    values = values ∙ t.out.values;
    passed = passed ∙ t.out.passed;
  };
  stood = λ j key has. elim (cases_eq slot j) [
    | inl e ↦
        let none : None ≡ Some key = sym (none_there mid.keys slot) ∙ (ap (λ ks. key_in ks slot) (sym keys) ∙ (ap (key_in now.keys) e ∙ has)) in
        cc
    | inr ne ↦
        ap (λ (s : List (Option ℕ)). bucket_in s j) stands
        ∙ (get_or-set_other mid.stands slot j None None (λ e. ne (sym e)) ∙ t.stood j key (sym (there j (λ e. ne (sym e))) ∙ has))
  ];
}
  where
    slot : ℕ
    slot = (get_or items n d).slot

    there : (j : ℕ) → j ≢ slot → key_in now.keys j ≡ key_in mid.keys j
    there j ne = ap (λ ks. key_in ks j) keys ∙ get_or-set_other mid.keys slot j None None ne

-- and then time moves on
pub stood_then : {T : Type 0} {passed : ℕ} {new : List (Option ℕ)} (old now : Held T) → HaveStood old now → StayOrFall now.keys passed now.stands new
    → StayOrFall now.keys passed old.stands new
stood_then old now stood falls = stay_on (record { each = λ slot key has. inl (stood slot key has) }) falls
