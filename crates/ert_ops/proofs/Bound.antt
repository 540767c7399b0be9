-- What the plain service calls a timer: its wheel stays, its slot is its label, and it is the first use of
-- that. Such names are one to one, and a start that armed a timer adds one name.

use Rattle.std.proofs.Common.{◌≡◌, ◌≢◌, ℕ, zero, suc, Bool, true, false, cond, nat_eq, [], ◌∷◌, ◌++◌, refl, sym, ap, ◌∙◌, subst, inl, inr, arith, eqb-true, eq-eqb, ne_eqb}
use Rattle.std.proofs.lemmas.Bool.{cases_eq}
use Rattle.ert_defs.proofs.{ExpiredTimers.{same_timer_self, same_timer-false}, Slots.same_timer-true}
use Rattle.ert_defs.specs.{Legal.names_timer, Timers.{same_timer, timer_at}, declared.settings.Settings.Settings, declared.timer.TimerRef.TimerRef}
use Rattle.ert_ops.proofs.Shown.{AreNames, Grows}
use Rattle.ert_ops.specs.Labels.{Labels, ref_of, label_in, label_of, bind}

-- 0 for 0, and else 1
abbrev pub sign : ℕ → ℕ
sign zero = 0
sign (suc n) = 1

-- a reference of the plain service is the name of one
pub record IsName (g : Settings) (ls : Labels) (r n : TimerRef) : Type 0 where
  pub wheel : n.wheel ≡ r.wheel
  pub slot : n.slot ≡ label_of ls r
  pub generation : n.generation ≡ sign r.generation
  pub back : r.generation ≢ 0 → ref_of ls (label_of ls r) ≡ r
  pub in_range : r.generation ≢ 0 → names_timer g r ≡ true

-- references of the same numbers are one
pub timers_same : (r t : TimerRef) → r.wheel ≡ t.wheel → r.slot ≡ t.slot → r.generation ≡ t.generation → r ≡ t
timers_same r t wheel slot generation =
    ap (λ w. timer_at w r.slot r.generation) wheel
    ∙ (ap (λ k. timer_at t.wheel k r.generation) slot ∙ ap (λ n. timer_at t.wheel t.slot n) generation)

pub label_unbound : (ls : Labels) (r : TimerRef) → r.generation ≡ 0 → label_of ls r ≡ r.slot
label_unbound ls r none = ap (λ (k : ℕ). cond (nat_eq k 0) r.slot (label_in ls r)) none

pub label_bound : (ls : Labels) (r : TimerRef) → r.generation ≢ 0 → label_of ls r ≡ label_in ls r
label_bound ls r some = ap (λ (b : Bool). cond b r.slot (label_in ls r)) (ne_eqb r.generation 0 some)

sign_zero : (k : ℕ) → sign k ≡ 0 → k ≡ 0
sign_zero zero is = refl
sign_zero (suc k) is = absurd (omega arith)

pub sign_some : (k : ℕ) → k ≢ 0 → sign k ≡ 1
sign_some zero some = absurd (some refl)
sign_some (suc k) some = refl

-- two references with one name are one
one_name : (g : Settings) (ls : Labels) (r n t m : TimerRef) → IsName g ls r n → IsName g ls t m → n ≡ m → r ≡ t
one_name g ls r n t m h k is =
    let wheel : r.wheel ≡ t.wheel = sym h.wheel ∙ ap (λ (x : TimerRef). x.wheel) is ∙ k.wheel in
    let label : label_of ls r ≡ label_of ls t = sym h.slot ∙ ap (λ (x : TimerRef). x.slot) is ∙ k.slot in
    let signs : sign r.generation ≡ sign t.generation = sym h.generation ∙ ap (λ (x : TimerRef). x.generation) is ∙ k.generation in
    elim (cases_eq r.generation 0) [
      | inl none ↦
          let other : t.generation ≡ 0 = sign_zero t.generation (sym signs ∙ ap sign none) in
          timers_same r t wheel (sym (label_unbound ls r none) ∙ label ∙ label_unbound ls t other) (none ∙ sym other)
      | inr some ↦
          let other : t.generation ≢ 0 = λ none. some (sign_zero r.generation (signs ∙ ap sign none)) in
          sym (h.back some) ∙ ap (ref_of ls) label ∙ k.back other
    ]

-- a reference has one name
name_of_one : (g : Settings) (ls : Labels) (r n t m : TimerRef) → IsName g ls r n → IsName g ls t m → r ≡ t → n ≡ m
name_of_one g ls r n t m h k is = timers_same n m
    (h.wheel ∙ ap (λ (x : TimerRef). x.wheel) is ∙ sym k.wheel)
    (h.slot ∙ ap (label_of ls) is ∙ sym k.slot)
    (h.generation ∙ ap (λ (x : TimerRef). sign x.generation) is ∙ sym k.generation)

same_names : (g : Settings) (ls : Labels) (r n t m : TimerRef) (b : Bool) → IsName g ls r n → IsName g ls t m → same_timer r t ≡ b → same_timer n m ≡ b
same_names g ls r n t m true h k is =
    subst (λ (x : TimerRef). same_timer n x ≡ true) (name_of_one g ls r n t m h k (same_timer-true r t is)) (same_timer_self n)
same_names g ls r n t m false h k is = same_timer-false n m (λ one.
    let same : r ≡ t = one_name g ls r n t m h k one in
    let yes : same_timer r t ≡ true = subst (λ (x : TimerRef). same_timer r x ≡ true) same (same_timer_self r) in
    absurd cc)

pub names_are : (g : Settings) (ls : Labels) → AreNames (IsName g ls)
names_are g ls = record {
  wheel = λ r n h. h.wheel;
  same = λ r n t m h k. same_names g ls r n t m (same_timer r t) h k refl;
}

-- a reference that was never a timer's
pub unbound_name : (g : Settings) (ls : Labels) (w k : ℕ) → IsName g ls (timer_at w k 0) (timer_at w k 0)
unbound_name g ls w k = record {
  wheel = refl;
  slot = refl;
  generation = refl;
  back = λ some. absurd (some refl);
  in_range = λ some. absurd (some refl);
}

-- no pair has the label, or the reference
abbrev pub IsFreeLabel : ℕ → Labels → Type 0
IsFreeLabel l [] = Unit {0}
IsFreeLabel l (p ∷ ps) = (p.0 ≢ l) × IsFreeLabel l ps

abbrev pub IsNewTimer : TimerRef → Labels → Type 0
IsNewTimer t [] = Unit {0}
IsNewTimer t (p ∷ ps) = (p.1 ≢ t) × IsNewTimer t ps

unbound_last : (w x : ℕ) (r : TimerRef) → timer_at w x 0 ≡ r → r.generation ≡ 0
unbound_last w x r is = sym (ap (λ (t : TimerRef). t.generation) is)

-- a label that is bound stays so
kept_at : (b : Bool) (p more rest r : TimerRef) → cond b p rest ≡ r → (rest ≡ r → more ≡ r) → cond b p more ≡ r
kept_at true p more rest r is later = is
kept_at false p more rest r is later = later is

ref_kept : (ls more : Labels) (x : ℕ) (r : TimerRef) → r.generation ≢ 0 → ref_of ls x ≡ r → ref_of (ls ++ more) x ≡ r
ref_kept [] more x r some is = absurd (some (unbound_last 0 x r is))
ref_kept (p ∷ ps) more x r some is =
    kept_at (nat_eq p.0 x) p.1 (ref_of (ps ++ more) x) (ref_of ps x) r is (ref_kept ps more x r some)

in_rest : (b c : Bool) (p rest r : TimerRef) → same_timer p r ≡ b → cond c p rest ≡ r → b ≡ false → rest ≡ r
in_rest b true p rest r test is none =
    let yes : same_timer p r ≡ true = subst (λ (x : TimerRef). same_timer p x ≡ true) is (same_timer_self p) in
    absurd cc
in_rest b false p rest r test is none = is

label_at : (b : Bool) (l more rest : ℕ) → (b ≡ false → more ≡ rest) → cond b l more ≡ cond b l rest
label_at true l more rest same = refl
label_at false l more rest same = same refl

label_kept : (ls more : Labels) (x : ℕ) (r : TimerRef) → r.generation ≢ 0 → ref_of ls x ≡ r → label_in (ls ++ more) r ≡ label_in ls r
label_kept [] more x r some is = absurd (some (unbound_last 0 x r is))
label_kept (p ∷ ps) more x r some is =
    label_at (same_timer p.1 r) p.0 (label_in (ps ++ more) r) (label_in ps r)
    (λ none. label_kept ps more x r some (in_rest (same_timer p.1 r) (nat_eq p.0 x) p.1 (ref_of ps x) r refl is none))

-- names stay when a pair is added
pub names_grow : (g : Settings) (ls more : Labels) → Grows (IsName g ls) (IsName g (ls ++ more))
names_grow g ls more r n h = elim (cases_eq r.generation 0) [
  | inl none ↦ record {
    wheel = h.wheel;
    slot = h.slot ∙ label_unbound ls r none ∙ sym (label_unbound (ls ++ more) r none);
    generation = h.generation;
    back = λ some. absurd (some none);
    in_range = h.in_range;
  }
  | inr some ↦
      let back = h.back some in
      let label : label_of (ls ++ more) r ≡ label_of ls r =
      label_bound (ls ++ more) r some ∙ label_kept ls more (label_of ls r) r some back ∙ sym (label_bound ls r some) in
      record {
        wheel = h.wheel;
        slot = h.slot ∙ sym label;
        generation = h.generation;
        back = λ _. ap (ref_of (ls ++ more)) label ∙ ref_kept ls more (label_of ls r) r some back;
        in_range = h.in_range;
      }
]

-- the new name
label_new : (ls : Labels) (l : ℕ) (t : TimerRef) → IsNewTimer t ls → label_in (bind ls l t) t ≡ l
label_new [] l t new = ap (λ (b : Bool). cond b l t.slot) (same_timer_self t)
label_new (p ∷ ps) l t new =
    ap (λ (b : Bool). cond b p.0 (label_in (bind ps l t) t)) (same_timer-false p.1 t new.0) ∙ label_new ps l t new.1

-- a label stands for the new timer, or for what it stood for before
bound_at : (a b : Bool) (t p rest : TimerRef) → (a ≡ true → b ≡ false) → cond b p (cond a t rest) ≡ cond a t (cond b p rest)
bound_at true true t p rest apart = let no : true ≡ false = apart refl in absurd cc
bound_at true false t p rest apart = refl
bound_at false true t p rest apart = refl
bound_at false false t p rest apart = refl

pub ref_bound : (ls : Labels) (l : ℕ) (t : TimerRef) (x : ℕ) → IsFreeLabel l ls → ref_of (bind ls l t) x ≡ cond (nat_eq l x) t (ref_of ls x)
ref_bound [] l t x free = refl
ref_bound (p ∷ ps) l t x free =
    ap (λ (r : TimerRef). cond (nat_eq p.0 x) p.1 r) (ref_bound ps l t x free.1)
    ∙ bound_at (nat_eq l x) (nat_eq p.0 x) t p.1 (ref_of ps x)
    (λ is. ne_eqb p.0 x (λ same. free.0 (same ∙ sym (eqb-true l x is))))

pub new_name : (g : Settings) (ls : Labels) (l : ℕ) (t : TimerRef) → t.generation ≢ 0 → names_timer g t ≡ true → IsFreeLabel l ls → IsNewTimer t ls
    → IsName g (bind ls l t) t (timer_at t.wheel l 1)
new_name g ls l t some in_range free new =
    let label : label_of (bind ls l t) t ≡ l = label_bound (bind ls l t) t some ∙ label_new ls l t new in
    record {
      wheel = refl;
      slot = sym label;
      generation = sym (sign_some t.generation some);
      back = λ _. ap (ref_of (bind ls l t)) label ∙ ref_bound ls l t l free ∙ ap (λ (b : Bool). cond b t (ref_of ls l)) (eq-eqb l l refl);
      in_range = λ _. in_range;
    }

-- and there is no other
label_other : (ls : Labels) (l : ℕ) (t r : TimerRef) → t ≢ r → label_in (bind ls l t) r ≡ label_in ls r
label_other [] l t r other = ap (λ (b : Bool). cond b l r.slot) (same_timer-false t r other)
label_other (p ∷ ps) l t r other = ap (λ (x : ℕ). cond (same_timer p.1 r) p.0 x) (label_other ps l t r other)

ref_other : (a : Bool) (t rest r : TimerRef) → t ≢ r → cond a t rest ≡ r → rest ≡ r
ref_other true t rest r other is = absurd (other is)
ref_other false t rest r other is = is

pub name_before : (g : Settings) (ls : Labels) (l : ℕ) (t r n : TimerRef) → IsFreeLabel l ls → t ≢ r → IsName g (bind ls l t) r n → IsName g ls r n
name_before g ls l t r n free other h = elim (cases_eq r.generation 0) [
  | inl none ↦ record {
    wheel = h.wheel;
    slot = h.slot ∙ label_unbound (bind ls l t) r none ∙ sym (label_unbound ls r none);
    generation = h.generation;
    back = λ some. absurd (some none);
    in_range = h.in_range;
  }
  | inr some ↦
      let label : label_of (bind ls l t) r ≡ label_of ls r =
      label_bound (bind ls l t) r some ∙ label_other ls l t r other ∙ sym (label_bound ls r some) in
      record {
        wheel = h.wheel;
        slot = h.slot ∙ label;
        generation = h.generation;
        back = λ _. ref_other (nat_eq l (label_of ls r)) t (ref_of ls (label_of ls r)) r other
            (sym (ref_bound ls l t (label_of ls r) free) ∙ ap (ref_of (bind ls l t)) (sym label) ∙ h.back some);
        in_range = h.in_range;
      }
]

pub name_is : (g : Settings) (ls : Labels) (l : ℕ) (t n : TimerRef) → t.generation ≢ 0 → names_timer g t ≡ true → IsFreeLabel l ls → IsNewTimer t ls
    → IsName g (bind ls l t) t n → n ≡ timer_at t.wheel l 1
name_is g ls l t n some in_range free new h =
    name_of_one g (bind ls l t) t n t (timer_at t.wheel l 1) h (new_name g ls l t some in_range free new) refl
