-- How many rows have a status that passes a test, where the status of one timer moves.

use Rattle.std.proofs.Common.{◌≡◌, ◌≢◌, ℕ, ◌+◌, Bool, true, false, cond, nat_eq, List, [], ◌∷◌, ◌++◌, length, All, AllPairs, get_or, Option, Some, None, refl, sym, ap, subst, ◌∙◌, arith, eqb-true, eq-eqb}
use Rattle.std.proofs.lemmas.List.Elements.{All-head, All-tail}
use Rattle.ert_defs.proofs.{ExpiredTimers.{cond_same, same_timer_self, same_timer-false}, Lists.{pairs_head, pairs_tail}, Rows.Differ, Slots.same_timer-true}
use Rattle.ert_defs.specs.{Timers.{Row, Stands, same_timer, row_of}, declared.timer.Status.Status, declared.timer.TimerRef.TimerRef}
use Rattle.ert_laws.specs.{Counts.count_of, Lives.{status_before, Moved}}

-- 1 where a test passes, and where both of two do
abbrev pub one_if : Bool → ℕ
one_if b = cond b 1 0

abbrev pub one_in : Bool → Bool → ℕ
one_in a b = cond a (one_if b) 0

pub count-append : (test : Option Status → Bool) (status : TimerRef → Option Status) (xs ys : List Row)
    → count_of test status (xs ++ ys) ≡ count_of test status xs + count_of test status ys
count-append test status [] ys = omega arith
count-append test status (x ∷ xs) ys = omega (arith, count-append test status xs ys)

pub count_all : (status : TimerRef → Option Status) (rows : List Row) → count_of (λ x. true) status rows ≡ length rows
count_all status [] = refl
count_all status (r ∷ rows) = omega (arith, count_all status rows)

-- the count stays where no status does other
pub count_same : (test : Option Status → Bool) (status later : TimerRef → Option Status) (rows : List Row)
    → All (λ row. later row.timer ≡ status row.timer) rows → count_of test later rows ≡ count_of test status rows
count_same test status later [] same = refl
count_same test status later (r ∷ rows) same =
    let here : later r.timer ≡ status r.timer = All-head (λ (row : Row). later row.timer ≡ status row.timer) r rows same in
    let rest : count_of test later rows ≡ count_of test status rows =
    count_same test status later rows (All-tail (λ (row : Row). later row.timer ≡ status row.timer) r rows same) in
    rw here (omega arith)

-- no timer's status moves but that of one
abbrev pub Stay : (TimerRef → Option Status) → (TimerRef → Option Status) → TimerRef → Type 0
Stay status later t = (r : TimerRef) → same_timer t r ≡ false → later r ≡ status r

other_way : (r t : TimerRef) → same_timer r t ≡ false → same_timer t r ≡ false
other_way r t not =
    same_timer-false t r (λ same.
    let own : same_timer r t ≡ true = subst (λ (x : TimerRef). same_timer x t ≡ true) same (same_timer_self t) in
    let clash : true ≡ false = sym own ∙ not in
    cc)

stands_behind : (t : TimerRef) (x : Row) (xs : List Row) → Stands (x ∷ xs) t → same_timer x.timer t ≡ false → Stands xs t
stands_behind t x xs stands other =
    record { row = stands.row; is = sym (ap (λ (b : Bool). cond b (Some x) (row_of xs t)) other) ∙ stands.is }

-- among rows of which it has one, its old status is counted before and its new one after
pub count_moved : (test : Option Status → Bool) (status later : TimerRef → Option Status) (t : TimerRef) (rows : List Row) → AllPairs Differ rows
    → Stands rows t → Stay status later t
    → count_of test later rows + one_if (test (status t)) ≡ count_of test status rows + one_if (test (later t))
count_moved test status later t [] apart stands stay = let none : None ≡ Some stands.row = stands.is in absurd cc
count_moved test status later t (x ∷ xs) apart stands stay =
    at (same_timer x.timer t) refl
    (λ is. count_moved test status later t xs (pairs_tail Differ x xs apart) (stands_behind t x xs stands is) stay)
  where
    at : (b : Bool) → same_timer x.timer t ≡ b
        → (same_timer x.timer t ≡ false → count_of test later xs + one_if (test (status t)) ≡ count_of test status xs + one_if (test (later t)))
        → count_of test later (x ∷ xs) + one_if (test (status t)) ≡ count_of test status (x ∷ xs) + one_if (test (later t))
    at true is behind =
        let same : x.timer ≡ t = same_timer-true x.timer t is in
        let new : one_if (test (later x.timer)) ≡ one_if (test (later t)) = ap (λ r. one_if (test (later r))) same in
        let old : one_if (test (status x.timer)) ≡ one_if (test (status t)) = ap (λ r. one_if (test (status r))) same in
        let apart_from : All (Differ x) xs = pairs_head Differ x xs apart in
        let rest : count_of test later xs ≡ count_of test status xs =
        count_same test status later xs
        (λ k d lt. stay (get_or xs k d).timer (same_timer-false t (get_or xs k d).timer (λ is. apart_from k d lt (same ∙ is)))) in
        omega arith
    at false is behind =
        let here : later x.timer ≡ status x.timer = stay x.timer (other_way x.timer t is) in
        let rest : count_of test later xs + one_if (test (status t)) ≡ count_of test status xs + one_if (test (later t)) = behind is in
        rw here (omega arith)

-- a timer that is given a status moves to that from the one before, and no other moves
abbrev pub Gives : (TimerRef → Option Status) → (TimerRef → Option Status) → TimerRef → Status → Type 0
Gives status later t to = (r : TimerRef) → Moved (cond (same_timer t r) (Some to) None) (status r) (later r)

moved_not : (b : Bool) (to : Status) (x y : Option Status) → b ≡ false → Moved (cond b (Some to) None) x y → y ≡ x
moved_not true to x y is moved = absurd cc
moved_not false to x y is moved = moved

pub gives_stay : (status later : TimerRef → Option Status) (t : TimerRef) (to : Status) → Gives status later t to → Stay status later t
gives_stay status later t to gives = λ r not. moved_not (same_timer t r) to (status r) (later r) not (gives r)

pub given_own : (status later : TimerRef → Option Status) (t : TimerRef) (to : Status) → Gives status later t to
    → (status t ≡ status_before to) × (later t ≡ Some to)
given_own status later t to gives =
    subst (λ b. Moved (cond b (Some to) None) (status t) (later t)) (same_timer_self t) (gives t)

no_wheel : (v w : ℕ) → nat_eq v w ≡ false → v ≡ w → ⊥
no_wheel v w not same = let clash : true ≡ false = sym (eq-eqb v w same) ∙ not in cc

-- so it is among the rows of a wheel: those of its own have it once, and those of another don't have it
pub count_given : (test : Option Status → Bool) (status later : TimerRef → Option Status) (t : TimerRef) (to : Status) (w : ℕ) (rows : List Row)
    → Gives status later t to → AllPairs Differ rows → All (λ row. row.timer.wheel ≡ w) rows → (t.wheel ≡ w → Stands rows t)
    → count_of test later rows + one_in (test (status_before to)) (nat_eq t.wheel w)
    ≡ count_of test status rows + one_in (test (Some to)) (nat_eq t.wheel w)
count_given test status later t to w rows gives apart wheels stands = at (nat_eq t.wheel w) refl
  where
    stay : Stay status later t
    stay = gives_stay status later t to gives

    own : (status t ≡ status_before to) × (later t ≡ Some to)
    own = given_own status later t to gives

    at : (b : Bool) → nat_eq t.wheel w ≡ b
        → count_of test later rows + one_in (test (status_before to)) b ≡ count_of test status rows + one_in (test (Some to)) b
    at true is =
        let old : one_if (test (status t)) ≡ one_if (test (status_before to)) = ap (λ x. one_if (test x)) own.0 in
        let new : one_if (test (later t)) ≡ one_if (test (Some to)) = ap (λ x. one_if (test x)) own.1 in
        let moved = count_moved test status later t rows apart (stands (eqb-true t.wheel w is)) stay in
        omega arith
    at false is =
        let same : count_of test later rows ≡ count_of test status rows =
        count_same test status later rows
        (λ k d lt. stay (get_or rows k d).timer (same_timer-false t (get_or rows k d).timer (λ same.
        absurd (no_wheel t.wheel w is (ap (λ (r : TimerRef). r.wheel) same ∙ wheels k d lt))))) in
        rw (cond_same {X = ℕ} (test (status_before to)) 0, cond_same {X = ℕ} (test (Some to)) 0) (omega arith)

-- a timer that is armed has a row behind the others, which are of other timers
pub count_armed : (test : Option Status → Bool) (status later : TimerRef → Option Status) (rows : List Row) (row : Row) (x : Option Status)
    → Stay status later row.timer → All (λ r. row.timer ≢ r.timer) rows → later row.timer ≡ x
    → count_of test later (rows ++ row ∷ []) ≡ count_of test status rows + one_if (test x)
count_armed test status later rows row x stay others is =
    let old : count_of test later rows ≡ count_of test status rows =
    count_same test status later rows (λ k d lt. stay (get_or rows k d).timer (same_timer-false row.timer (get_or rows k d).timer (others k d lt))) in
    let new : one_if (test (later row.timer)) ≡ one_if (test x) = ap (λ y. one_if (test y)) is in
    omega (arith, count-append test later rows (row ∷ []))
