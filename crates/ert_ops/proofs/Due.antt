-- The due timers of a wheel in the order in which they expire: the next one is the first of them.

use Rattle.std.proofs.Common.{◌≡◌, ◌≢◌, ℕ, ◌<◌, ◌≤◌, Bool, true, false, cond, ◌&&◌, nat_lt, nat_le, List, [], ◌∷◌, ◌++◌, filter, Option, Some, None, refl, sym, ap, ◌∙◌, subst, arith}
use Rattle.std.proofs.lemmas.Bool.{and_parts, Decides.nat_tests}
use Rattle.ert_defs.specs.{Laws.is_armed, Legal.AllSettled, Timers.Row, declared.timer.Status.Status, declared.timer.Status.TheVariants.Armed, declared.timer.TimerRef.TimerRef}
use Rattle.ert_ops.proofs.Shown.{Names, SameRow, Pairs, both_if}
use Rattle.ert_ops.specs.PlainTurns.{is_due_at, put_by_deadline, by_deadline, due_rows}

pub filter_yes : {X : Type 0} (p : X → Bool) (x : X) (xs : List X) → p x ≡ true → filter p (x ∷ xs) ≡ x ∷ filter p xs
filter_yes p x xs is = rw is refl

pub filter_no : {X : Type 0} (p : X → Bool) (x : X) (xs : List X) → p x ≡ false → filter p (x ∷ xs) ≡ filter p xs
filter_no p x xs is = rw is refl

pub is_armed_some : (x : Option Status) → is_armed x ≡ true → x ≡ Some Armed
is_armed_some (Some Armed) is = refl
is_armed_some None is = let clash : false ≡ true = is in cc
is_armed_some (Some _) is = let clash : false ≡ true = is in cc

-- rows whose deadlines are at least so many milliseconds
abbrev AllFrom : ℕ → List Row → Type 0
AllFrom d [] = Unit {0}
AllFrom d (x ∷ xs) = (d ≤ x.deadline) × AllFrom d xs

from_if : (d : ℕ) (b : Bool) (xs ys : List Row) → AllFrom d xs → AllFrom d ys → AllFrom d (cond b xs ys)
from_if d true xs ys h k = h
from_if d false xs ys h k = k

from_put : (d : ℕ) (r : Row) (xs : List Row) → d ≤ r.deadline → AllFrom d xs → AllFrom d (put_by_deadline r xs)
from_put d r [] low h = (low, tt)
from_put d r (x ∷ xs) low h =
    from_if d (nat_le r.deadline x.deadline) (r ∷ x ∷ xs) (x ∷ put_by_deadline r xs) (low, h) (h.0, from_put d r xs low h.1)

from_sorted : (d : ℕ) (xs : List Row) → AllFrom d xs → AllFrom d (by_deadline xs)
from_sorted d [] h = tt
from_sorted d (x ∷ xs) h = from_put d x (by_deadline xs) h.0 (from_sorted d xs h.1)

-- what isn't settled below a deadline is due from that on

low_from : (d x : ℕ) (status : Option Status) → is_armed status ≡ true → (nat_lt x d ≡ true → status ≢ Some Armed) → d ≤ x
low_from d x status armed settled = below_or (nat_lt x d) refl
  where
    below_or : (b : Bool) → nat_lt x d ≡ b → d ≤ x
    below_or true is = absurd (settled is (is_armed_some status armed))
    below_or false is = grind (arith, nat_tests)

from_one : (status : TimerRef → Option Status) (to d : ℕ) (x : Row) (xs : List Row) (b : Bool) → is_due_at status to x ≡ b
    → (nat_lt x.deadline d ≡ true → status x.timer ≢ Some Armed) → AllFrom d (filter (is_due_at status to) xs)
    → AllFrom d (filter (is_due_at status to) (x ∷ xs))
from_one status to d x xs true is settled h =
    let armed = (and_parts (nat_le x.deadline to) (is_armed (status x.timer)) is).1 in
    subst (AllFrom d) (sym (filter_yes (is_due_at status to) x xs is)) (low_from d x.deadline (status x.timer) armed settled, h)
from_one status to d x xs false is settled h = subst (AllFrom d) (sym (filter_no (is_due_at status to) x xs is)) h

from_due : (status : TimerRef → Option Status) (to d : ℕ) (xs : List Row) → AllSettled status (λ x. nat_lt x d) xs
    → AllFrom d (filter (is_due_at status to) xs)
from_due status to d [] h = tt
from_due status to d (x ∷ xs) h = from_one status to d x xs (is_due_at status to x) refl h.0 (from_due status to d xs h.1)

put_first : (r : Row) (xs : List Row) → AllFrom r.deadline xs → put_by_deadline r xs ≡ r ∷ xs
put_first r [] h = refl
put_first r (x ∷ xs) h =
    let first : nat_le r.deadline x.deadline ≡ true = grind (arith, nat_tests, h.0) in
    ap (λ (b : Bool). cond b (r ∷ x ∷ xs) (x ∷ put_by_deadline r xs)) first

put_later : (r x : Row) (xs : List Row) → x.deadline < r.deadline → put_by_deadline r (x ∷ xs) ≡ x ∷ put_by_deadline r xs
put_later r x xs lt =
    let later : nat_le r.deadline x.deadline ≡ false = grind (arith, nat_tests) in
    ap (λ (b : Bool). cond b (r ∷ x ∷ xs) (x ∷ put_by_deadline r xs)) later

-- two statuses have the same of these rows armed
abbrev pub SameArmed : (TimerRef → Option Status) → (TimerRef → Option Status) → List Row → Type 0
SameArmed status later [] = Unit {0}
SameArmed status later (x ∷ xs) = (is_armed (status x.timer) ≡ is_armed (later x.timer)) × SameArmed status later xs

same_due : (status later : TimerRef → Option Status) (to : ℕ) (xs : List Row) → SameArmed status later xs
    → filter (is_due_at status to) xs ≡ filter (is_due_at later to) xs
same_due status later to [] h = refl
same_due status later to (x ∷ xs) h =
    let here : is_due_at status to x ≡ is_due_at later to x = ap (λ (b : Bool). nat_le x.deadline to && b) h.0 in
    ap (λ (b : Bool). cond b (x ∷ filter (is_due_at status to) xs) (filter (is_due_at status to) xs)) here
    ∙ ap (λ (ys : List Row). cond (is_due_at later to x) (x ∷ ys) ys) (same_due status later to xs h.1)

-- the row that expires next, in rows with others before and behind it
pub record IsFirstDue (status later : TimerRef → Option Status) (to : ℕ) (before : List Row) (row : Row) (behind : List Row) : Type 0 where
  pub due : is_due_at status to row ≡ true
  pub gone : is_due_at later to row ≡ false
  pub same_before : SameArmed status later before
  pub same_behind : SameArmed status later behind
  pub first_before : AllSettled status (λ d. nat_le d row.deadline) before
  pub first_behind : AllSettled status (λ d. nat_lt d row.deadline) behind

above : (row x : ℕ) (status : Option Status) → is_armed status ≡ true → (nat_le x row ≡ true → status ≢ Some Armed) → row < x
above row x status armed settled = above_or (nat_le x row) refl
  where
    above_or : (b : Bool) → nat_le x row ≡ b → row < x
    above_or true is = absurd (settled is (is_armed_some status armed))
    above_or false is = grind (arith, nat_tests)

due_behind : (status later : TimerRef → Option Status) (to : ℕ) (row x : Row) (rest : List Row) (b : Bool) → is_due_at status to x ≡ b
    → is_armed (status x.timer) ≡ is_armed (later x.timer)
    → (nat_le x.deadline row.deadline ≡ true → status x.timer ≢ Some Armed)
    → by_deadline (filter (is_due_at status to) rest) ≡ row ∷ by_deadline (filter (is_due_at later to) rest)
    → by_deadline (filter (is_due_at status to) (x ∷ rest)) ≡ row ∷ by_deadline (filter (is_due_at later to) (x ∷ rest))
due_behind status later to row x rest true is same settled h =
    let armed = (and_parts (nat_le x.deadline to) (is_armed (status x.timer)) is).1 in
    let other : is_due_at later to x ≡ true = ap (λ (b : Bool). nat_le x.deadline to && b) (sym same) ∙ is in
    ap by_deadline (filter_yes (is_due_at status to) x rest is)
    ∙ ap (put_by_deadline x) h
    ∙ put_later x row (by_deadline (filter (is_due_at later to) rest)) (above row.deadline x.deadline (status x.timer) armed settled)
    ∙ ap (λ (xs : List Row). row ∷ by_deadline xs) (sym (filter_yes (is_due_at later to) x rest other))
due_behind status later to row x rest false is same settled h =
    let other : is_due_at later to x ≡ false = ap (λ (b : Bool). nat_le x.deadline to && b) (sym same) ∙ is in
    ap by_deadline (filter_no (is_due_at status to) x rest is) ∙ h
    ∙ ap (λ (xs : List Row). row ∷ by_deadline xs) (sym (filter_no (is_due_at later to) x rest other))

pub due_first : (status later : TimerRef → Option Status) (to : ℕ) (before : List Row) (row : Row) (behind : List Row)
    → IsFirstDue status later to before row behind
    → due_rows status to (before ++ (row ∷ behind)) ≡ row ∷ due_rows later to (before ++ (row ∷ behind))
due_first status later to [] row behind h =
    ap by_deadline (filter_yes (is_due_at status to) row behind h.due)
    ∙ put_first row (by_deadline (filter (is_due_at status to) behind))
    (from_sorted row.deadline (filter (is_due_at status to) behind) (from_due status to row.deadline behind h.first_behind))
    ∙ ap (λ (xs : List Row). row ∷ by_deadline xs) (same_due status later to behind h.same_behind ∙ sym (filter_no (is_due_at later to) row behind h.gone))
due_first status later to (x ∷ before) row behind h =
    due_behind status later to row x (before ++ (row ∷ behind)) (is_due_at status to x) refl h.same_before.0 h.first_before.0
    (due_first status later to before row behind (record {
      due = h.due;
      gone = h.gone;
      same_before = h.same_before.1;
      same_behind = h.same_behind;
      first_before = h.first_before.1;
      first_behind = h.first_behind;
    }))

-- no row is due where each is settled

not_due : (x to : ℕ) (status : Option Status) (b : Bool) → nat_le x to ≡ b → (nat_le x to ≡ true → status ≢ Some Armed) → (b && is_armed status) ≡ false
not_due x to status true is settled = unarmed (is_armed status) refl
  where
    unarmed : (b : Bool) → is_armed status ≡ b → b ≡ false
    unarmed true armed = absurd (settled is (is_armed_some status armed))
    unarmed false armed = refl
not_due x to status false is settled = refl

none_due : (status : TimerRef → Option Status) (to : ℕ) (xs : List Row) → AllSettled status (λ d. nat_le d to) xs
    → filter (is_due_at status to) xs ≡ []
none_due status to [] h = refl
none_due status to (x ∷ xs) h =
    filter_no (is_due_at status to) x xs (not_due x.deadline to (status x.timer) (nat_le x.deadline to) refl h.0) ∙ none_due status to xs h.1

pub due_none : (status : TimerRef → Option Status) (to : ℕ) (xs : List Row) → AllSettled status (λ d. nat_le d to) xs → due_rows status to xs ≡ []
due_none status to xs h = ap by_deadline (none_due status to xs h)

-- both services have the same due

put_pairs : (R : Names) (a b : Row) (xs ys : List Row) → SameRow R a b → Pairs (SameRow R) xs ys
    → Pairs (SameRow R) (put_by_deadline a xs) (put_by_deadline b ys)
put_pairs R a b [] [] h k = (h, tt)
put_pairs R a b (x ∷ xs) (y ∷ ys) h k =
    let test : nat_le a.deadline x.deadline ≡ nat_le b.deadline y.deadline =
    ap (λ (d : ℕ). nat_le d x.deadline) h.deadline ∙ ap (λ (d : ℕ). nat_le b.deadline d) k.0.deadline in
    subst (λ (c : Bool). Pairs (SameRow R) (put_by_deadline a (x ∷ xs)) (cond c (b ∷ y ∷ ys) (y ∷ put_by_deadline b ys))) test
    (both_if (Pairs (SameRow R)) (nat_le a.deadline x.deadline) _ _ _ _ (h, k) (k.0, put_pairs R a b xs ys h k.1))
put_pairs R a b [] (y ∷ ys) h k = absurd k
put_pairs R a b (x ∷ xs) [] h k = absurd k

sorted_pairs : (R : Names) (xs ys : List Row) → Pairs (SameRow R) xs ys → Pairs (SameRow R) (by_deadline xs) (by_deadline ys)
sorted_pairs R [] [] h = tt
sorted_pairs R (x ∷ xs) (y ∷ ys) h = put_pairs R x y (by_deadline xs) (by_deadline ys) h.0 (sorted_pairs R xs ys h.1)
sorted_pairs R [] (y ∷ ys) h = absurd h
sorted_pairs R (x ∷ xs) [] h = absurd h

pub filter_pairs : (R : Names) (p q : Row → Bool) → ((x y : Row) → SameRow R x y → p x ≡ q y) → (xs ys : List Row) → Pairs (SameRow R) xs ys
    → Pairs (SameRow R) (filter p xs) (filter q ys)
filter_pairs R p q same [] [] h = tt
filter_pairs R p q same (x ∷ xs) (y ∷ ys) h =
    subst (λ (c : Bool). Pairs (SameRow R) (filter p (x ∷ xs)) (cond c (y ∷ filter q ys) (filter q ys))) (same x y h.0)
    (both_if (Pairs (SameRow R)) (p x) _ _ _ _ (h.0, filter_pairs R p q same xs ys h.1) (filter_pairs R p q same xs ys h.1))
filter_pairs R p q same [] (y ∷ ys) h = absurd h
filter_pairs R p q same (x ∷ xs) [] h = absurd h

pub due_pairs : (R : Names) (status other : TimerRef → Option Status) (to : ℕ) → ((r n : TimerRef) → R r n → status r ≡ other n)
    → (xs ys : List Row) → Pairs (SameRow R) xs ys → Pairs (SameRow R) (due_rows status to xs) (due_rows other to ys)
due_pairs R status other to same xs ys h =
    sorted_pairs R (filter (is_due_at status to) xs) (filter (is_due_at other to) ys)
    (filter_pairs R (is_due_at status to) (is_due_at other to)
    (λ x y k. ap (λ (d : ℕ). nat_le d to && is_armed (status x.timer)) k.deadline
    ∙ ap (λ (z : Option Status). nat_le y.deadline to && is_armed z) (same x.timer y.timer k.timer)) xs ys h)
