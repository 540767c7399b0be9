-- A wheel is full exactly where as many of its rows take a slot as it has slots: a row that takes a slot is
-- the last of it, and no two rows have one reference.

use Rattle.std.proofs.Common.{◌≡◌, ◌≢◌, ℕ, zero, suc, ◌+◌, ◌-◌, ◌<◌, ◌≤◌, Bool, true, false, cond, ◌&&◌, nat_eq, nat_lt, List, [], ◌∷◌, All, AllPairs, length, get_or, Option, Some, None, refl, sym, ap, ◌∙◌, subst, inl, inr, arith, eq-eqb, eqb-true}
use Rattle.std.proofs.lemmas.{Bool.{cases_eq, and_parts}, Bool.Decides.nat_tests, List.Elements.{All-head, All-tail}}
use Rattle.ert_defs.proofs.{ExpiredLists.taken_last, ExpiredTimers.{same_timer_self, same_timer-false}, Lists.{pairs_head, pairs_tail}, Rows.{IsRow, AreRows, Differ}, Slots.{IsOrdered, same_timer-true}}
use Rattle.ert_defs.specs.{Legal.{is_generation, names_timer}, States.{State, uses_at}, Timers.{Row, Stands, Uses, same_timer, row_of, is_taken, timer_at}, declared.settings.Settings.Settings, declared.timer.Status.Status}
use Rattle.ert_defs.specs.{declared.timer.TimerRef.TimerRef}
use Rattle.ert_ops.proofs.{Bound.{IsName, timers_same}, Meets.IsKept, Shown.{Names, SameRow, Pairs, Shows}}
use Rattle.ert_ops.specs.{Labels.Labels, PlainTimers.taken_slots}
use Rattle.ert_laws.specs.Counts.{count_of}

-- 1 where a test passes
abbrev one_if : Bool → ℕ
one_if b = cond b 1 0

-- how many rows pass a test
abbrev count_rows : (Row → Bool) → List Row → ℕ
count_rows test [] = 0
count_rows test (r ∷ rows) = one_if (test r) + count_rows test rows

-- those that take one of the first n slots, and that take slot k
abbrev is_below : (TimerRef → Option Status) → ℕ → Row → Bool
is_below status n r = is_taken (status r.timer) && nat_lt r.timer.slot n

abbrev is_at : (TimerRef → Option Status) → ℕ → Row → Bool
is_at status k r = is_taken (status r.timer) && nat_eq r.timer.slot k

count_same : (p q : Row → Bool) (rows : List Row) → All (λ r. p r ≡ q r) rows → count_rows p rows ≡ count_rows q rows
count_same p q [] same = refl
count_same p q (r ∷ rows) same =
    let here : p r ≡ q r = All-head (λ r. p r ≡ q r) r rows same in
    let rest : count_rows p rows ≡ count_rows q rows = count_same p q rows (All-tail (λ r. p r ≡ q r) r rows same) in
    cc

count_none : (p : Row → Bool) (rows : List Row) → All (λ r. p r ≡ false) rows → count_rows p rows ≡ 0
count_none p [] none = refl
count_none p (r ∷ rows) none =
    let here : p r ≡ false = All-head (λ r. p r ≡ false) r rows none in
    let rest : count_rows p rows ≡ 0 = count_none p rows (All-tail (λ r. p r ≡ false) r rows none) in
    rw (here, rest) refl

slot_split : (b : Bool) (k n : ℕ) → one_if (b && nat_lt k (suc n)) ≡ one_if (b && nat_lt k n) + one_if (b && nat_eq k n)
slot_split true k n = grind (arith, nat_tests)
slot_split false k n = refl

below_more : (status : TimerRef → Option Status) (n : ℕ) (rows : List Row)
    → count_rows (is_below status (suc n)) rows ≡ count_rows (is_below status n) rows + count_rows (is_at status n) rows
below_more status n [] = refl
below_more status n (r ∷ rows) =
    omega (arith, below_more status n rows, slot_split (is_taken (status r.timer)) r.timer.slot n)

none_below : (b : Bool) (k : ℕ) → (b && nat_lt k 0) ≡ false
none_below true k = grind (arith, nat_tests)
none_below false k = refl

below_none : (status : TimerRef → Option Status) (rows : List Row) → count_rows (is_below status 0) rows ≡ 0
below_none status rows = count_none (is_below status 0) rows (λ i d lt. none_below (is_taken (status (get_or rows i d).timer)) (get_or rows i d).timer.slot)

-- of the rows with a slot the last takes it, or none does

named_others : (t : TimerRef) (x : Row) (xs : List Row) → x.timer ≡ t → All (Differ x) xs → count_rows (λ r. same_timer r.timer t) xs ≡ 0
named_others t x xs is apart =
    count_none (λ r. same_timer r.timer t) xs (λ i d lt. same_timer-false _ t (λ other. apart i d lt (is ∙ sym other)))

one_of_both : (c : ℕ) (b : Bool) → (b ≡ true → c ≡ 0) → (b ≡ false → c ≡ 1) → one_if b + c ≡ 1
one_of_both c true none one = omega (arith, none refl)
one_of_both c false none one = omega (arith, one refl)

stands_behind : (t : TimerRef) (x : Row) (xs : List Row) → Stands (x ∷ xs) t → same_timer x.timer t ≡ false → Stands xs t
stands_behind t x xs stands other =
    record { row = stands.row; is = sym (ap (λ (b : Bool). cond b (Some x) (row_of xs t)) other) ∙ stands.is }

named_once : (t : TimerRef) (rows : List Row) → AllPairs Differ rows → Stands rows t → count_rows (λ r. same_timer r.timer t) rows ≡ 1
named_once t [] apart stands = let none : None ≡ Some stands.row = stands.is in cc
named_once t (x ∷ xs) apart stands =
    one_of_both (count_rows (λ r. same_timer r.timer t) xs) (same_timer x.timer t)
    (λ is. named_others t x xs (same_timer-true x.timer t is) (pairs_head Differ x xs apart))
    (λ other. named_once t xs (pairs_tail Differ x xs apart) (stands_behind t x xs stands other))

-- the timer that may take a slot: the last of it
abbrev pub last_timer : State → ℕ → ℕ → TimerRef
last_timer s w k = timer_at w k (s.last w k)

both_tests : (a b : Bool) → (a ≡ true → b ≡ true → ⊥) → (a && b) ≡ false
both_tests true true no_both = absurd (no_both refl refl)
both_tests true false no_both = refl
both_tests false b no_both = refl

and-none : (b : Bool) → (b && false) ≡ false
and-none true = refl
and-none false = refl

at_named : (s : State) (w k : ℕ) (r : Row) (b : Bool) → IsOrdered s → r.timer.wheel ≡ w → same_timer r.timer (last_timer s w k) ≡ b
    → is_at s.status k r ≡ (is_taken (s.status (last_timer s w k)) && same_timer r.timer (last_timer s w k))
at_named s w k r true ordered wheel is =
    let t : TimerRef = last_timer s w k in
    let P : TimerRef → Type 0 = λ x. (is_taken (s.status x) && nat_eq x.slot k) ≡ (is_taken (s.status t) && same_timer x t) in
    let own : P t = ap (λ (b : Bool). is_taken (s.status t) && b) (eq-eqb k k refl ∙ sym (same_timer_self t)) in
    subst P (sym (same_timer-true r.timer t is)) own
at_named s w k r false ordered wheel other =
    let t : TimerRef = last_timer s w k in
    both_tests (is_taken (s.status r.timer)) (nat_eq r.timer.slot k)
    (λ taken slot.
    let at_slot : r.timer.slot ≡ k = eqb-true r.timer.slot k slot in
    let last : r.timer.generation ≡ s.last w k =
    taken_last s r.timer ordered taken ∙ ap (λ (v : ℕ). s.last v r.timer.slot) wheel ∙ ap (λ (j : ℕ). s.last w j) at_slot in
    let same : same_timer r.timer t ≡ true =
    subst (λ (x : TimerRef). same_timer x t ≡ true) (sym (timers_same r.timer t wheel at_slot last)) (same_timer_self t) in
    let clash : true ≡ false = sym same ∙ other in
    cc)
    ∙ sym (ap (λ (b : Bool). is_taken (s.status t) && b) other ∙ and-none (is_taken (s.status t)))

count_and : (c : Bool) (p : Row → Bool) (rows : List Row) → count_rows (λ r. c && p r) rows ≡ cond c (count_rows p rows) 0
count_and true p rows = refl
count_and false p rows = count_none (λ r. false && p r) rows (λ i d lt. refl)

taken_some : (x : Option Status) → is_taken x ≡ true → x ≢ None
taken_some None is = λ _. let clash : false ≡ true = is in cc
taken_some (Some x) is = λ none. cc

count_at : (s : State) (w k : ℕ) (c : Bool) → IsKept s → is_taken (s.status (last_timer s w k)) ≡ c
    → count_rows (is_at s.status k) (s.rows w) ≡ one_if c
count_at s w k c kept is =
    let t : TimerRef = last_timer s w k in
    let rows : AreRows w (uses_at s w) (s.rows w) = kept.rows w in
    let same : count_rows (is_at s.status k) (s.rows w) ≡ count_rows (λ r. is_taken (s.status t) && same_timer r.timer t) (s.rows w) =
    count_same (is_at s.status k) (λ r. is_taken (s.status t) && same_timer r.timer t) (s.rows w)
    (λ i d lt.
    let r : Row = get_or (s.rows w) i d in
    at_named s w k r (same_timer r.timer t) kept.ordered (rows.each i d lt).wheel refl) in
    same ∙ count_and (is_taken (s.status t)) (λ r. same_timer r.timer t) (s.rows w) ∙ count_when s w k c kept is
  where
    count_when : (s : State) (w k : ℕ) (c : Bool) → IsKept s → is_taken (s.status (last_timer s w k)) ≡ c
        → cond (is_taken (s.status (last_timer s w k))) (count_rows (λ r. same_timer r.timer (last_timer s w k)) (s.rows w)) 0 ≡ one_if c
    count_when s w k true kept is =
        let t : TimerRef = last_timer s w k in
        ap (λ (b : Bool). cond b (count_rows (λ r. same_timer r.timer t) (s.rows w)) 0) is
        ∙ named_once t (s.rows w) (kept.rows w).apart (kept.stand t (taken_some (s.status t) is))
    count_when s w k false kept is =
        ap (λ (b : Bool). cond b (count_rows (λ r. same_timer r.timer (last_timer s w k)) (s.rows w)) 0) is

-- the sums

all_below : (s : State) (w n : ℕ) → IsKept s → ((k : ℕ) → k < n → is_taken (s.status (last_timer s w k)) ≡ true)
    → count_rows (is_below s.status n) (s.rows w) ≡ n
all_below s w zero kept taken = below_none s.status (s.rows w)
all_below s w (suc n) kept taken =
    let before : count_rows (is_below s.status n) (s.rows w) ≡ n = all_below s w n kept (λ k lt. taken k (omega arith)) in
    let here : count_rows (is_at s.status n) (s.rows w) ≡ 1 = count_at s w n true kept (taken n (omega arith)) in
    omega (arith, below_more s.status n (s.rows w))

if_one : (count : ℕ) (c : Bool) → count ≡ one_if c → count ≤ 1
if_one count true is = omega arith
if_one count false is = omega arith

at_most_one : (s : State) (w k : ℕ) → IsKept s → count_rows (is_at s.status k) (s.rows w) ≤ 1
at_most_one s w k kept =
    if_one (count_rows (is_at s.status k) (s.rows w)) (is_taken (s.status (last_timer s w k)))
    (count_at s w k (is_taken (s.status (last_timer s w k))) kept refl)

most_below : (s : State) (w n : ℕ) → IsKept s → count_rows (is_below s.status n) (s.rows w) ≤ n
most_below s w zero kept = omega (arith, below_none s.status (s.rows w))
most_below s w (suc n) kept = omega (arith, most_below s w n kept, at_most_one s w n kept, below_more s.status n (s.rows w))

one_below : (s : State) (w k n : ℕ) → IsKept s → k < n → is_taken (s.status (last_timer s w k)) ≡ false
    → count_rows (is_below s.status n) (s.rows w) < n
one_below s w k zero kept lt free = absurd (omega arith)
one_below s w k (suc n) kept lt free = elim (cases_eq k n) [
  | inl same ↦
      let here : count_rows (is_at s.status n) (s.rows w) ≡ 0 =
      subst (λ (j : ℕ). count_rows (is_at s.status j) (s.rows w) ≡ 0) same (count_at s w k false kept free) in
      omega (arith, most_below s w n kept, below_more s.status n (s.rows w))
  | inr other ↦ omega (arith, one_below s w k n kept (omega arith) free, at_most_one s w n kept, below_more s.status n (s.rows w))
]

-- as many rows as slots that are taken, of a range and of the first slots, which come before it

below_rises : (s : State) (w n d : ℕ) → count_rows (is_below s.status n) (s.rows w) ≤ count_rows (is_below s.status (n + d)) (s.rows w)
below_rises s w n zero =
    let same : n + 0 ≡ n = omega arith in
    subst (λ (m : ℕ). count_rows (is_below s.status n) (s.rows w) ≤ count_rows (is_below s.status m) (s.rows w)) (sym same) (omega arith)
below_rises s w n (suc d) =
    let next_is : n + suc d ≡ suc (n + d) = omega arith in
    subst (λ (m : ℕ). count_rows (is_below s.status n) (s.rows w) ≤ count_rows (is_below s.status m) (s.rows w)) (sym next_is)
    (omega (arith, below_rises s w n d, below_more s.status (n + d) (s.rows w)))

range_below : (s : State) (w from n : ℕ) → IsKept s → ((k : ℕ) → from ≤ k → k < from + n → is_taken (s.status (last_timer s w k)) ≡ true)
    → count_rows (is_below s.status from) (s.rows w) + n ≤ count_rows (is_below s.status (from + n)) (s.rows w)
range_below s w from zero kept taken = omega (arith, below_rises s w from 0)
range_below s w from (suc n) kept taken =
    let next_is : from + suc n ≡ suc (from + n) = omega arith in
    let before = range_below s w from n kept (λ k low high. taken k low (omega arith)) in
    let here : count_rows (is_at s.status (from + n)) (s.rows w) ≡ 1 = count_at s w (from + n) true kept (taken (from + n) (omega arith) (omega arith)) in
    subst (λ (m : ℕ). count_rows (is_below s.status from) (s.rows w) + suc n ≤ count_rows (is_below s.status m) (s.rows w)) (sym next_is)
    (omega (arith, before, here, below_more s.status (from + n) (s.rows w)))

few_rows : (test : Row → Bool) (rows : List Row) → count_rows test rows ≤ length rows
few_rows test [] = omega arith
few_rows test (r ∷ rows) = omega (arith, few_rows test rows, one_at_most (test r))
  where
    one_at_most : (b : Bool) → one_if b ≤ 1
    one_at_most true = omega arith
    one_at_most false = omega arith

pub as_many : (s : State) (w from ahead behind : ℕ) → IsKept s → behind ≤ from → ((k : ℕ) → k < behind → is_taken (s.status (last_timer s w k)) ≡ true)
    → ((k : ℕ) → from ≤ k → k < from + ahead → is_taken (s.status (last_timer s w k)) ≡ true) → ahead + behind ≤ length (s.rows w)
as_many s w from ahead behind kept apart first second =
    let between : behind + (from - behind) ≡ from = omega (arith, apart) in
    let rises = subst (λ (m : ℕ). count_rows (is_below s.status behind) (s.rows w) ≤ count_rows (is_below s.status m) (s.rows w)) between
    (below_rises s w behind (from - behind)) in
    omega (arith, all_below s w behind kept first, rises, range_below s w from ahead kept second, few_rows (is_below s.status (from + ahead)) (s.rows w))

-- all rows are in range, by their names

abbrev AreIn : ℕ → List Row → Type 0
AreIn n [] = Unit {0}
AreIn n (r ∷ rows) = (r.timer.slot < n) × AreIn n rows

slot_in : (g : Settings) (t : TimerRef) → names_timer g t ≡ true → t.slot < g.slots
slot_in g t is =
    let place = (and_parts (nat_lt t.wheel g.schedulers && nat_lt t.slot g.slots) (is_generation t.generation) is).0 in
    let slot = (and_parts (nat_lt t.wheel g.schedulers) (nat_lt t.slot g.slots) place).1 in
    grind (arith, nat_tests)

rows_in : (g : Settings) (ls : Labels) (w : ℕ) (uses : ℕ → Uses) (xs ys : List Row) → Pairs (SameRow (IsName g ls)) xs ys → All (IsRow w uses) xs
    → AreIn g.slots xs
rows_in g ls w uses [] ys same each = tt
rows_in g ls w uses (x ∷ xs) (y ∷ ys) same each =
    let row : IsRow w uses x = All-head (IsRow w uses) x xs each in
    let some : x.timer.generation ≢ 0 = λ none. let low : 1 ≤ x.timer.generation = row.used.low in absurd (omega arith) in
    (slot_in g x.timer (same.0.timer.in_range some), rows_in g ls w uses xs ys same.1 (All-tail (IsRow w uses) x xs each))
rows_in g ls w uses (x ∷ xs) [] same each = absurd same

below_all : (b : Bool) (k n : ℕ) → k < n → one_if b ≡ one_if (b && nat_lt k n)
below_all true k n lt = grind (arith, nat_tests)
below_all false k n lt = refl

taken_below : (status : TimerRef → Option Status) (n : ℕ) (rows : List Row) → AreIn n rows → taken_slots status rows ≡ count_rows (is_below status n) rows
taken_below status n [] are = refl
taken_below status n (r ∷ rows) are =
    omega (arith, taken_below status n rows are.1, below_all (is_taken (status r.timer)) r.timer.slot n are.0)

-- of both services as many rows pass a test

pub count_pairs : (test : Option Status → Bool) (R : Names) (status other : TimerRef → Option Status) → ((r n : TimerRef) → R r n → status r ≡ other n)
    → (xs ys : List Row) → Pairs (SameRow R) xs ys → count_of test status xs ≡ count_of test other ys
count_pairs test R status other same [] [] h = refl
count_pairs test R status other same (x ∷ xs) (y ∷ ys) h =
    let here : status x.timer ≡ other y.timer = same x.timer y.timer h.0.timer in
    let rest : count_of test status xs ≡ count_of test other ys = count_pairs test R status other same xs ys h.1 in
    cc
count_pairs test R status other same [] (y ∷ ys) h = absurd h
count_pairs test R status other same (x ∷ xs) [] h = absurd h

pub all_taken : (g : Settings) (ls : Labels) (s c : State) (w : ℕ) → IsKept s → Shows (IsName g ls) s c
    → ((k : ℕ) → k < g.slots → is_taken (s.status (last_timer s w k)) ≡ true) → taken_slots s.status (s.rows w) ≡ g.slots
all_taken g ls s c w kept shows taken =
    taken_below s.status g.slots (s.rows w) (rows_in g ls w (uses_at s w) (s.rows w) (c.rows w) (shows.rows w) (kept.rows w).each)
    ∙ all_below s w g.slots kept taken

pub one_free : (g : Settings) (ls : Labels) (s c : State) (w k : ℕ) → IsKept s → Shows (IsName g ls) s c → k < g.slots
    → is_taken (s.status (last_timer s w k)) ≡ false → taken_slots s.status (s.rows w) < g.slots
one_free g ls s c w k kept shows lt free =
    omega (
      arith,
      taken_below s.status g.slots (s.rows w) (rows_in g ls w (uses_at s w) (s.rows w) (c.rows w) (shows.rows w) (kept.rows w).each),
      one_below s w k g.slots kept lt free,
    )
