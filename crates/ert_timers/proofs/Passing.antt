-- Rows go, and each of their timers is tried once.

use Rattle.std.proofs.Common.{◌≡◌, ◌≢◌, ℕ, zero, suc, ◌<◌, ◌≤◌, cond, count_by, List, [], ◌∷◌, ◌++◌, length, Option, Some, None, IfSome, refl, sym, ap, subst, ◌∙◌, set, inl, arith, get_or-set_other}
use Rattle.std.proofs.lemmas.List.Sums.{sum_by-cons}
use Rattle.std.specs.Option.{is_some}
use Rattle.ert_defs.specs.{Timers.Row, declared.timer.TimerRef.TimerRef}
use Rattle.ert_effects.specs.WheelCalls.{Try, AllDue, AreOnce, IsDueBy, IsUntried}
use Rattle.ert_timers.specs.{Parts.{Part, last_timer}, Freeing.IsHeld, Frees.KeepsFree, Passed.{HasFewerRows, HasPassed, HoldsEach, HoldsNone, LosesRows}}
use Rattle.ert_timers.proofs.Rows.{key_left}
use Rattle.ert_wheel.proofs.{Looking.key_low, StandsOn.{stay_all, stay_then}}
use Rattle.ert_wheel.specs.{Rows.key_in, declared.row.Key.Key, Standing.bucket_in}

pub loses_none : (p : Part) → LosesRows p p
loses_none p = record { number = refl; slots = refl; left = λ k key is. is; time = omega arith; frees = λ k was. was; stands = stay_all p.keys p.passed p.stands }

pub loses_then : (p q r : Part) → LosesRows p q → LosesRows q r → LosesRows p r
loses_then p q r one other = record {
  number = other.number ∙ one.number;
  slots = other.slots ∙ one.slots;
  left = λ k key is. one.left k key (other.left k key is);
  time = omega (arith, one.time, other.time);
  frees = λ k was. other.frees k (one.frees k was);
  stands = stay_then other.time (λ k key is. other.left k key is) one.stands other.stands;
}

-- the row of a slot goes
row_goes : (p q : Part) (k : ℕ) → k < length p.keys → q.number ≡ p.number → q.slots ≡ p.slots → q.keys ≡ set p.keys k None → q.passed ≡ p.passed
    → HasFewerRows p q
row_goes p q k low number slots keys time = record {
  number = number;
  slots = slots;
  left = λ j key is. (key_left p.keys k j key low (ap (λ ks. key_in ks j) (sym keys) ∙ is)).1;
  time = omega arith;
}

pub loses_row : (p q : Part) (k : ℕ) → k < length p.keys → q.number ≡ p.number → q.slots ≡ p.slots → q.keys ≡ set p.keys k None → q.passed ≡ p.passed
    → q.stands ≡ set p.stands k None → KeepsFree p q → LosesRows p q
loses_row p q k low number slots keys time stands frees = record {
  number = number;
  slots = slots;
  left = λ j key is. (key_left p.keys k j key low (ap (λ ks. key_in ks j) (sym keys) ∙ is)).1;
  time = omega arith;
  frees = frees;
  stands = record {
    each = λ j key is.
        inl (ap (λ (s : List (Option ℕ)). bucket_in s j) stands
        ∙ get_or-set_other p.stands k j None None (key_left p.keys k j key low (ap (λ ks. key_in ks j) (sym keys) ∙ is)).0);
  };
}

-- rows that are lost have gone
pub fewer_rows : {p q : Part} → LosesRows p q → HasFewerRows p q
fewer_rows loses = record { number = loses.number; slots = loses.slots; left = loses.left; time = loses.time }

pub fewer_then : (p q r : Part) → HasFewerRows p q → HasFewerRows q r → HasFewerRows p r
fewer_then p q r one other = record {
  number = other.number ∙ one.number;
  slots = other.slots ∙ one.slots;
  left = λ k key is. one.left k key (other.left k key is);
  time = omega (arith, one.time, other.time);
}

-- where rows only go there are no more of them
keys_lost : (ks ls : List (Option Key)) → ((k : ℕ) (key : Key) → key_in ks k ≡ Some key → key_in ls k ≡ Some key) → count_by is_some ks ≤ count_by is_some ls
keys_lost [] ls left = omega arith
keys_lost (None ∷ ks) [] left =
    omega (arith, sum_by-cons (λ (o : Option Key). cond (is_some o) 1 0) None ks, keys_lost ks [] (λ k key is. left (suc k) key is))
keys_lost (Some key ∷ ks) [] left = let clash : None ≡ Some key = left zero key refl in absurd cc
keys_lost (None ∷ ks) (l ∷ ls) left =
    omega (
      arith,
      sum_by-cons (λ (o : Option Key). cond (is_some o) 1 0) None ks,
      sum_by-cons (λ (o : Option Key). cond (is_some o) 1 0) l ls,
      keys_lost ks ls (λ k key is. left (suc k) key is),
    )
keys_lost (Some key ∷ ks) (None ∷ ls) left = let clash : None ≡ Some key = left zero key refl in absurd cc
keys_lost (Some key ∷ ks) (Some l ∷ ls) left =
    omega (
      arith,
      sum_by-cons (λ (o : Option Key). cond (is_some o) 1 0) (Some key) ks,
      sum_by-cons (λ (o : Option Key). cond (is_some o) 1 0) (Some l) ls,
      keys_lost ks ls (λ k key is. left (suc k) key is),
    )

pub rows_lost : (p q : Part) → LosesRows p q → count_by is_some q.keys ≤ count_by is_some p.keys
rows_lost p q loses = keys_lost q.keys p.keys loses.left

-- the last timers are the same
pub fewer_last : (p q : Part) (k : ℕ) → HasFewerRows p q → last_timer q.number q.slots k ≡ last_timer p.number p.slots k
fewer_last p q k fewer = ap (λ n. last_timer n q.slots k) fewer.number ∙ ap (λ slots. last_timer p.number slots k) fewer.slots

pub same_last : (p q : Part) (k : ℕ) → LosesRows p q → last_timer q.number q.slots k ≡ last_timer p.number p.slots k
same_last p q k loses = fewer_last p q k (fewer_rows loses)

-- where rows go no row comes back
pub holds_less : (p q : Part) (tries : List Try) → HasFewerRows p q → HoldsNone p tries → HoldsNone q tries
holds_less p q [] loses none = tt
holds_less p q (t ∷ tries) loses none =
    (λ k key is same. none.0 k key (loses.left k key is) (sym (fewer_last p q k loses) ∙ same), holds_less p q tries loses none.1)

none_push : (p : Part) (tries : List Try) (t : Try) → HoldsNone p tries
    → ((k : ℕ) (key : Key) → key_in p.keys k ≡ Some key → last_timer p.number p.slots k ≢ t.timer) → HoldsNone p (tries ++ t ∷ [])
none_push p [] t none one = (one, tt)
none_push p (x ∷ tries) t none one = (none.0, none_push p tries t none.1 one)

-- a timer whose row is held wasn't tried
untried : (p : Part) (k : ℕ) (key : Key) (timer : TimerRef) (tries : List Try) → key_in p.keys k ≡ Some key → timer ≡ last_timer p.number p.slots k
    → HoldsNone p tries → IsUntried timer tries
untried p k key timer [] held is none = tt
untried p k key timer (t ∷ tries) held is none = (λ same. none.0 k key held (sym is ∙ sym same), untried p k key timer tries held is none.1)

untried_push : (timer : TimerRef) (tries : List Try) (t : Try) → IsUntried timer tries → t.timer ≢ timer → IsUntried timer (tries ++ t ∷ [])
untried_push timer [] t all one = (one, tt)
untried_push timer (x ∷ tries) t all one = (all.0, untried_push timer tries t all.1 one)

once_push : (tries : List Try) (t : Try) → AreOnce tries → IsUntried t.timer tries → AreOnce (tries ++ t ∷ [])
once_push [] t once one = (tt, tt)
once_push (x ∷ tries) t once one = (untried_push x.timer tries t once.0 (λ same. one.0 (sym same)), once_push tries t once.1 one.1)

-- so it is tried once
pub once_more : (p : Part) (k : ℕ) (key : Key) (tries : List Try) (t : Try) → key_in p.keys k ≡ Some key → t.timer ≡ last_timer p.number p.slots k
    → HoldsNone p tries → AreOnce tries → AreOnce (tries ++ t ∷ [])
once_more p k key tries t held is none once = once_push tries t once (untried p k key t.timer tries held is none)

-- and after that its row is held no more
pub none_more : (p q : Part) (k : ℕ) (tries : List Try) (t : Try) → k < length p.keys → t.timer ≡ last_timer p.number p.slots k
    → q.number ≡ p.number → q.slots ≡ p.slots → q.keys ≡ set p.keys k None → q.passed ≡ p.passed
    → HoldsNone p tries → HoldsNone q (tries ++ t ∷ [])
none_more p q k tries t low is number slots keys time none =
    none_push q tries t (holds_less p q tries (row_goes p q k low number slots keys time) none)
    (λ j key held same. (key_left p.keys k j key low (ap (λ ks. key_in ks j) (sym keys) ∙ held)).0 (ap (λ (r : TimerRef). r.slot) (same ∙ is)))

-- a timer whose row is held was held before rows went
pub was_held : (p q : Part) (k : ℕ) (key : Key) → LosesRows p q → length q.keys ≡ length q.slots → key_in q.keys k ≡ Some key
    → IsHeld p (last_timer q.number q.slots k)
was_held p q k key loses wide held = record {
  low = omega (arith, key_low q.keys k key held, wide, ap (λ slots. length slots) loses.slots);
  named = same_last p q k loses;
  row = λ none. (let clash : None ≡ Some key = sym none ∙ loses.left k key held in absurd cc);
}

pub held_push : (p : Part) (tries : List Try) (t : Try) → HoldsEach p tries → IsHeld p t.timer → HoldsEach p (tries ++ t ∷ [])
held_push p [] t all one = (one, tt)
held_push p (x ∷ tries) t all one = (all.0, held_push p tries t all.1 one)

pub due_push : (rows : List Row) (to : ℕ) (tries : List Try) (t : Try) → AllDue rows to tries → IsDueBy rows to t.timer → AllDue rows to (tries ++ t ∷ [])
due_push rows to [] t all one = (one, tt)
due_push rows to (x ∷ tries) t all one = (all.0, due_push rows to tries t all.1 one)

-- where nothing is due any more, each row that is held is later
later_some : (to : ℕ) (o : Option Key) (key : Key) → IfSome o (λ (x : Key). to < x.deadline) → o ≡ Some key → to < key.deadline
later_some to None key later is = absurd cc
later_some to (Some x) key later is = subst (λ o. IfSome o (λ (x : Key). to < x.deadline)) is later

pub passed : (p : Part) (to : ℕ) → ((k : ℕ) → IfSome (key_in p.keys k) (λ key. to < key.deadline)) → to < p.passed
    → HasPassed p to
passed p to each on = record { left = λ k key is. later_some to (key_in p.keys k) key (each k) is; on = on }
