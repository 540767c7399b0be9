-- All intervals of a world stay in order.

use Rattle.std.proofs.Common.{◌≡◌, ◌≢◌, ◌⊎◌, ℕ, zero, suc, ◌+◌, ◌-◌, ◌<◌, ◌≤◌, List, [], ◌∷◌, ◌++◌, length, slice_index_or, set, None, refl, sym, ap, subst, ◌∙◌, inl, inr, arith, get_or-set_same, get_or-set_other, length-append, append-nil}
use Rattle.std.proofs.{lemmas.List.length-set, Math.ListN.get_or-append, Math.Seq.get_or-append_seam, lemmas.Bool.cases_eq}
use Rattle.ert_effects.specs.Ways.{Growth, Way}
use Rattle.ert_defs.specs.{Legal.Legal, States.state, declared.entry.Entry.Entry, declared.settings.Settings.Settings, declared.timer.TimerRef.TimerRef}
use Rattle.ert_defs.proofs.Runs.{state-append}
use Rattle.ert_interval.specs.{Calls.{Still, IsNewOrSame}, Intervals.{HasNoRequests, IsIntervalOf, AreIntervalsKept}, declared.interval.Interval.Interval, Spared.Spares}
use Rattle.ert_interval.proofs.{Stopping.{cancel_spares, cancel_asks}, Onward.spare_kept, Plain.{ArePlain, plain_spares, plain_asks}, Steps.{NoneAsks, idle_stays}}
use Rattle.ert_world.specs.Worlds.{Seen, Goes}

-- no request comes by entries that ask none
pub idle_then : (a b : Seen) (piece : List Entry) → b.settings ≡ a.settings → b.history ≡ a.history ++ piece → NoneAsks piece
    → HasNoRequests (state a.settings a.history) → HasNoRequests (state b.settings b.history)
idle_then a b piece settings grown none idle =
    let g : Settings = a.settings in
    subst (λ x. HasNoRequests (state x b.history)) (sym settings)
    (subst (λ l. HasNoRequests (state g l)) (sym grown)
    (subst HasNoRequests (sym (state-append g a.history piece)) (idle_stays g (state g a.history) piece none idle)))

-- all stay in order by a call that cancels nothing
pub all_kept : (a b : Seen) (call : Way → Growth) (is : List Interval) (goes : Goes a call b) (kept : AreIntervalsKept a is)
    → ArePlain (goes.lone kept.lone).piece → Legal b.settings b.history → AreIntervalsKept b is
all_kept a b call is goes kept plain legal =
    let grows = goes.lone kept.lone in
    record {
      lone = goes.next ∙ kept.lone;
      legal = legal;
      idle = idle_then a b grows.piece goes.settings grows.grown (plain_asks grows.piece plain) kept.idle;
      each = λ n d low.
          let i : Interval = slice_index_or is n d in
          spare_kept a b grows.piece i goes.settings grows.grown (plain_spares i.last grows.piece plain) legal (kept.each n d low);
      few = kept.few;
      apart = kept.apart;
    }

pub either : (x y : ℕ) → x ≢ y → (x < y) ⊎ (y < x)
either x y differ = lt_or x y differ (cases_eq (x - y) 0)
  where
    lt_or : (x y : ℕ) → x ≢ y → (x - y ≡ 0) ⊎ (x - y ≢ 0) → (x < y) ⊎ (y < x)
    lt_or x y differ (inl none) = inl (omega (arith, differ, none))
    lt_or x y differ (inr some) = inr (omega (arith, some))

-- a list with another interval at one place
module _ (a b : Seen) (is : List Interval) (n : ℕ) (j : Interval) (kept : AreIntervalsKept a is) (low : n < length is) (next : b.next ≡ a.next)
    (legal : Legal b.settings b.history) (idle : HasNoRequests (state b.settings b.history))
    (others : (m : ℕ) (d : Interval) → m ≢ n → m < length is → IsIntervalOf b.settings b.history (slice_index_or is m d))
    (one : IsIntervalOf b.settings b.history j) (last : (d : Interval) → IsNewOrSame (state a.settings a.history) (slice_index_or is n d) j) where
  here : (d : Interval) → slice_index_or (set is n j) n d ≡ j
  here d = get_or-set_same is n j d low

  there : (m : ℕ) (d : Interval) → m ≢ n → slice_index_or (set is n j) m d ≡ slice_index_or is m d
  there m d not = get_or-set_other is n m j d not

  -- the last timer of another interval isn't that of the new one
  differs : (m : ℕ) (d : Interval) → m ≢ n → m < length is → (slice_index_or is m d).last ≢ j.last
  differs m d not high same = elim (last d) [
    | inl old ↦ apart_old (same ∙ old)
    | inr none ↦ (kept.each m d high).used (ap (state a.settings a.history).status same ∙ none)
  ]
    where
      apart_old : (slice_index_or is m d).last ≢ (slice_index_or is n d).last
      apart_old is_same = elim (either m n not) [
        | inl less ↦ kept.apart m n d less low is_same
        | inr more ↦ kept.apart n m d more high (sym is_same)
      ]

  pub set_kept : AreIntervalsKept b (set is n j)
  set_kept = record {
    lone = next ∙ kept.lone;
    legal = legal;
    idle = idle;
    each = λ m d high. elim (cases_eq m n) [
      | inl same ↦ subst (IsIntervalOf b.settings b.history) (sym (ap (λ x. slice_index_or (set is n j) x d) same ∙ here d)) one
      | inr not ↦
          subst (IsIntervalOf b.settings b.history) (sym (there m d not)) (others m d not (subst (λ x. m < x) (length-set is n j) high))
    ];
    few = subst (λ x. x ≤ 4294967295) (sym (length-set is n j)) kept.few;
    apart = λ m k d less high.
        let high_k : k < length is = subst (λ x. k < x) (length-set is n j) high in
        elim (cases_eq m n) [
          | inl same ↦
              let not : k ≢ n = omega (arith, same, less) in
              λ is_same. differs k d not high_k
              (ap (λ (i : Interval). i.last) (sym (there k d not)) ∙ (sym is_same
              ∙ ap (λ (i : Interval). i.last) (ap (λ x. slice_index_or (set is n j) x d) same ∙ here d)))
          | inr not ↦ elim (cases_eq k n) [
            | inl same ↦ λ is_same.
                differs m d not (omega (arith, less, high_k))
                (ap (λ (i : Interval). i.last) (sym (there m d not)) ∙ (is_same
                ∙ ap (λ (i : Interval). i.last) (ap (λ x. slice_index_or (set is n j) x d) same ∙ here d)))
            | inr other ↦ λ is_same.
                kept.apart m k d less high_k
                (ap (λ (i : Interval). i.last) (sym (there m d not)) ∙ (is_same ∙ ap (λ (i : Interval). i.last) (there k d other)))
          ]
        ];
  }

pub still_none : (a : Seen) → Still a a
still_none a = record { piece = []; grown = sym (append-nil a.history); still = tt; settings = refl; next = refl }

-- within a list the default doesn't matter
pub any_default : (xs : List Interval) (n : ℕ) (d e : Interval) → n < length xs → slice_index_or xs n d ≡ slice_index_or xs n e
any_default [] n d e low = absurd (omega (arith, low))
any_default (x ∷ xs) zero d e low = refl
any_default (x ∷ xs) (suc n) d e low = any_default xs n d e (omega (arith, low))

-- all but one stay in order where only the timer of that may be cancelled
pub spared_kept : (a b : Seen) (is : List Interval) (n : ℕ) (i : Interval) → AreIntervalsKept a is → n < length is → i ≡ slice_index_or is n i
    → Spares i.last a b → Legal b.settings b.history → (m : ℕ) (d : Interval) → m ≢ n → m < length is
    → IsIntervalOf b.settings b.history (slice_index_or is m d)
spared_kept a b is n i kept low here spares legal m d not high =
    let k : Interval = slice_index_or is m d in
    let same : i ≡ slice_index_or is n d = here ∙ any_default is n i d low in
    let differ : i.last ≢ k.last = λ is_same. differ_at (subst (λ (x : Interval). x.last ≡ k.last) same is_same) in
    spare_kept a b spares.piece k spares.settings spares.grown (cancel_spares i.last k.last spares.piece spares.spares differ) legal (kept.each m d high)
  where
    differ_at : (slice_index_or is n d).last ≡ (slice_index_or is m d).last → ⊥
    differ_at is_same = elim (either m n not) [
      | inl less ↦ kept.apart m n d less low (sym is_same)
      | inr more ↦ kept.apart n m d more high is_same
    ]

pub spared_idle : (a b : Seen) (r : TimerRef) → Spares r a b → HasNoRequests (state a.settings a.history)
    → HasNoRequests (state b.settings b.history)
spared_idle a b r spares idle = idle_then a b spares.piece spares.settings spares.grown (cancel_asks r spares.piece spares.spares) idle

-- one interval more
pub pushed_kept : (a b : Seen) (call : Way → Growth) (is : List Interval) (j : Interval) (goes : Goes a call b) (kept : AreIntervalsKept a is)
    → ArePlain (goes.lone kept.lone).piece → Legal b.settings b.history → length is < 4294967295 → IsIntervalOf b.settings b.history j
    → (state a.settings a.history).status j.last ≡ None → AreIntervalsKept b (is ++ j ∷ [])
pushed_kept a b call is j goes kept plain legal few one new =
    let all = all_kept a b call is goes kept plain legal in
    let size : length (is ++ j ∷ []) ≡ length is + 1 = length-append is (j ∷ []) in
    record {
      lone = all.lone;
      legal = legal;
      idle = all.idle;
      each = λ n d low. elim (cases_eq n (length is)) [
        | inl same ↦ subst (IsIntervalOf b.settings b.history) (sym (ap (λ x. slice_index_or (is ++ j ∷ []) x d) same ∙ get_or-append_seam is j [] d)) one
        | inr not ↦
            let below : n < length is = omega (arith, low, size, not) in
            subst (IsIntervalOf b.settings b.history) (sym (get_or-append is (j ∷ []) d n below)) (all.each n d below)
      ];
      few = omega (arith, few, size);
      apart = λ m n d less low.
          let below_m : m < length is = omega (arith, low, size, less) in
          let at_m = get_or-append is (j ∷ []) d m below_m in
          elim (cases_eq n (length is)) [
            | inl same ↦ λ is_same.
                kept_used m d below_m
                (ap (λ (i : Interval). i.last) (sym at_m)
                ∙ (is_same ∙ ap (λ (i : Interval). i.last) (ap (λ x. slice_index_or (is ++ j ∷ []) x d) same ∙ get_or-append_seam is j [] d)))
            | inr not ↦ λ is_same.
                let below : n < length is = omega (arith, low, size, not) in
                kept.apart m n d less below
                (ap (λ (i : Interval). i.last) (sym at_m) ∙ (is_same ∙ ap (λ (i : Interval). i.last) (get_or-append is (j ∷ []) d n below)))
          ];
    }
  where
    kept_used : (m : ℕ) (d : Interval) → m < length is → (slice_index_or is m d).last ≡ j.last → ⊥
    kept_used m d low same = (kept.each m d low).used (ap (state a.settings a.history).status same ∙ new)
