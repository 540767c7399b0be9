-- A start has an answer after each legal history: it arms a timer in a free slot, or finds none.

use Rattle.std.proofs.Common.{◌≡◌, ◌≢◌, ◌⊎◌, inl, inr, ⊎_elim, ℕ, zero, suc, ℤ, pos, negsuc, ◌+◌, ◌<◌, ◌≤◌, Bool, true, false, cond, ◌&&◌, ◌||◌, nat_eq, nat_lt, nat_le, min, List, [], ◌∷◌, ◌++◌, All, length, Option, Some, None, Ok, Err, refl, sym, ap, ◌∙◌, subst, arith, eq-eqb, append-nil}
use Rattle.std.proofs.lemmas.{Bool.cases_eq, Bool.Decides.nat_tests, List.Elements.{All-head, All-tail}}
use Rattle.ert_defs.proofs.{ExpiredTimers.{cond_same, same_timer_self, same_timer-false}, Rows.IsRow, Uses.{Use, CanUse, IsBefore, fresh}}
use Rattle.ert_defs.specs.{Actors.has_actor, Entries.{look_entry, probe_entry, arm_entry, mark_entry, orphan_entry}, Legal.{Can, IsSlot, LegalFrom}, Milliseconds.{natural, down, up, deadline_at, deadline_when, deadline_of}, States.State}
use Rattle.ert_defs.specs.{States.{uses_at, next, run}, Timers.{Row, Uses, IsNextUse, turned, use_of, deadline_in, deadline_told, generation_in, row_from, row_of, is_taken, same_timer, timer_at}, declared.entry.Actor.TheVariants.Wheel}
use Rattle.ert_defs.specs.{declared.entry.Actor.TheVariants.Caller, declared.entry.Entry.Entry, declared.settings.Settings.Settings, declared.timer.Start.Start, declared.timer.Status.TheVariants.Armed, declared.timer.TimerRef.TimerRef}
use Rattle.ert_defs.specs.{declared.timer.When.When, declared.timer.When.TheVariants.{After, At}}
use Rattle.std.specs.Int.{int_div_euclid}
use Rattle.std.specs.Prelude.{◌+ℤ◌, ◌-ℤ◌}
use Rattle.ert_effects.specs.{TimerCalls.{AreTaken, Closes, Rests, Round, Starts}, declared.answers.StartErr.TheVariants.{BadArg, Full, NoMemory}}
use Rattle.ert_ops.proofs.{PossibleCalls.{can_look, can_mark}, Reached.{IsReached, milliseconds, reached_next}}
use Rattle.ert_ops.specs.Existence.{HasAnswerBut}

-- a deadline is within the limits

at_within : (z : ℤ) (d : ℕ) → deadline_at z ≡ Some d → d ≤ 8796093022207
at_within (pos n) d is = low (nat_le n 8796093022207) refl is
  where
    low : (b : Bool) → nat_le n 8796093022207 ≡ b → cond b (Some n) None ≡ Some d → d ≤ 8796093022207
    low true le same = let e : n ≡ d = cc in let h : n ≤ 8796093022207 = grind (arith, nat_tests) in omega arith
    low false le same = let clash : None ≡ Some d = same in absurd cc
at_within (negsuc n) d is = let clash : None ≡ Some d = is in absurd cc

when_within : (g : Settings) (when : When) (now : ℤ) (d : ℕ) → deadline_when g when now ≡ Some d → d ≤ 8796093022207
when_within g (After (pos n)) now d is = at_within (up g now +ℤ pos n) d is
when_within g (After (negsuc n)) now d is = let clash : None ≡ Some d = is in absurd cc
when_within g (At v) now d is = at_within (v -ℤ int_div_euclid g.start (pos 1000000)) d is

deadline_within : (since now wanted : ℕ) → now ≤ 8796093022207 → wanted ≤ 8796093022207 → deadline_in since now wanted ≤ 8796093022207
deadline_within zero now wanted low high = high
deadline_within (suc since) now wanted low high = omega (arith, low, high)

-- whether one of some first slots is free at a look

abbrev pub last_of : State → ℕ → ℕ → TimerRef
last_of s w k = timer_at w k (s.last w k)

pub record IsFreeSlot (s : State) (w now k : ℕ) : Type 0 where
  pub free : is_taken (s.status (last_of s w k)) ≡ false
  pub rested : (turned (uses_at s w k)).since ≤ now

abbrev pub IsUnfit : State → ℕ → ℕ → ℕ → Type 0
IsUnfit s w now k = (is_taken (s.status (last_of s w k)) ≡ true) ⊎ Rests s now w k

pub data Search (s : State) (w now m : ℕ) : Type 0 where
  found : (k : ℕ) → k < m → IsFreeSlot s w now k → Search s w now m
  nowhere : ((k : ℕ) → k < m → IsUnfit s w now k) → Search s w now m

one_more : (s : State) (w now m : ℕ) → IsUnfit s w now m → ((k : ℕ) → k < m → IsUnfit s w now k) → Search s w now (suc m)
one_more s w now m here before = nowhere (λ k lt. elim (cases_eq k m) [
  | inl same ↦ subst (IsUnfit s w now) (sym same) here
  | inr other ↦ before k (omega arith)
])

search_slot : (s : State) (w now m : ℕ) (a b : Bool) → is_taken (s.status (last_of s w m)) ≡ a → nat_lt now (turned (uses_at s w m)).since ≡ b
    → ((k : ℕ) → k < m → IsUnfit s w now k) → Search s w now (suc m)
search_slot s w now m true b taken rests before = one_more s w now m (inl taken) before
search_slot s w now m false true taken rests before =
    let lt : now < (turned (uses_at s w m)).since = grind (arith, nat_tests) in
    one_more s w now m (inr lt) before
search_slot s w now m false false taken rests before =
    let le : (turned (uses_at s w m)).since ≤ now = grind (arith, nat_tests) in
    found m (omega arith) (record { free = taken; rested = le })

search_more : (s : State) (w now m : ℕ) → Search s w now m → Search s w now (suc m)
search_more s w now m (found k lt free) = found k (omega arith) free
search_more s w now m (nowhere before) = search_slot s w now m _ _ refl refl before

pub search_slots : (s : State) (w now m : ℕ) → Search s w now m
search_slots s w now zero = nowhere (λ k lt. absurd (omega arith))
search_slots s w now (suc m) = search_more s w now m (search_slots s w now m)

-- slots that are looked at, each unfit: they are probed

pub record AreProbed (g : Settings) (n w now : ℕ) (s z : State) (slot count : ℕ) : Type 0 where
  pub entries : List Entry
  pub taken : AreTaken n w now s slot count entries
  pub legal : LegalFrom g z entries
  pub undue : z.clock.due ≡ None → (run g z entries).clock.due ≡ None

abbrev SameSlots : ℕ → State → State → Type 0
SameSlots w s z = (k : ℕ) → z.status (last_of z w k) ≡ s.status (last_of s w k)

pub probe_slots : (g : Settings) (n w now : ℕ) (s : State) (slot count : ℕ) → n < g.callers → w < g.schedulers → slot + count ≤ g.slots
    → ((k : ℕ) → k < slot + count → IsUnfit s w now k) → (z : State) → SameSlots w s z → AreProbed g n w now s z slot count
probe_slots g n w now s slot zero caller sched within unfit z same = record { entries = []; taken = refl; legal = tt; undue = λ idle. idle }
probe_slots g n w now s slot (suc count) caller sched within unfit z same =
    let status = z.status (last_of z w slot) in
    let probe : Entry = probe_entry (Caller n) w slot status in
    let after : SameSlots w s (next g z probe) = λ k.
    ap (λ (x : ℕ). z.status (timer_at w k x)) (cond_same (has_actor probe (Wheel w)) (z.last w k)) ∙ same k in
    let more = probe_slots g n w now s (suc slot) count caller sched (omega arith) (λ k lt. unfit k (omega arith)) (next g z probe) after in
    let here : (is_taken status ≡ true) ⊎ Rests s now w slot =
    ⊎_elim (λ taken. inl (ap is_taken (same slot) ∙ taken)) (λ rests. inr rests) (unfit slot (omega arith)) in
    record {
      entries = probe ∷ more.entries;
      taken = (status, more.entries, refl, here, more.taken);
      undue = more.undue;
      legal = (
        record { keeps = (caller, refl, record { wheel_high = sched; slot_high = omega arith }); known = tt; found = refl },
        more.legal,
      );
    }

-- all slots that a start looks at are unfit: the first ones

unfoldable pub first_round : (slots looks : ℕ) → Round slots looks
first_round slots looks = record {
  from = 0;
  ahead = min slots looks;
  behind = 0;
  within = omega arith;
  apart = omega arith;
  all = λ le. omega arith;
  many = λ le. omega arith;
}

start_full : (g : Settings) (s : State) (n w : ℕ) (start : Start) → n < g.callers → w < g.schedulers → deadline_of g start s.clock.now ≢ None
    → ((k : ℕ) → k < min g.slots g.looks → IsUnfit s w (natural (down g s.clock.now)) k) → HasAnswerBut g s (Err NoMemory) (Starts g n w start)
unfolding first_round
start_full g s n w start caller sched accepted unfit =
    let now : ℕ = natural (down g s.clock.now) in
    let look : Entry = look_entry (Caller n) s.clock.now in
    let probed = probe_slots g n w now s 0 (min g.slots g.looks) caller sched (omega arith) (λ k lt. unfit k (omega arith)) (next g s look) (λ k. refl) in (
      Err Full,
      (λ same. cc),
      record {
        entries = look ∷ (probed.entries ++ []);
        undue = subst (λ (x : List Entry). s.clock.due ≡ None → (run g (next g s look) x).clock.due ≡ None) (sym (append-nil probed.entries)) probed.undue;
        allowed = record {
          now = s.clock.now;
          probes = probed.entries ++ [];
          accepted = accepted;
          are_taken = inl (first_round g.slots g.looks, record { first = probed.entries; second = []; onward = probed.taken; around = refl; entries = refl });
          entries = refl;
        };
        legal = (can_look g s (Caller n) caller, subst (LegalFrom g (next g s look)) (sym (append-nil probed.entries)) probed.legal);
      },
    )

-- the wheel has had all its timers

start_spent : (g : Settings) (s : State) (n w : ℕ) (start : Start) → n < g.callers → deadline_of g start s.clock.now ≢ None
    → length (s.rows w) ≡ 9007199254740992 → HasAnswerBut g s (Err NoMemory) (Starts g n w start)
start_spent g s n w start caller accepted spent = (
  Err Full,
  (λ same. cc),
  record {
    entries = look_entry (Caller n) s.clock.now ∷ [];
    undue = λ idle. idle;
    allowed = record { now = s.clock.now; probes = []; accepted = accepted; are_taken = inr (spent, refl); entries = refl };
    legal = (can_look g s (Caller n) caller, tt);
  },
)

-- a timer is armed in a free slot

-- no row has the timer before
abbrev NoneIs : TimerRef → List Row → Type 0
NoneIs t [] = Unit {0}
NoneIs t (r ∷ rows) = (r.timer ≢ t) × NoneIs t rows

none_is : (t : TimerRef) (w : ℕ) (uses : ℕ → Uses) (rows : List Row) → (IsBefore (uses t.slot) t.generation → ⊥) → All (IsRow w uses) rows → NoneIs t rows
none_is t w uses [] new each = tt
none_is t w uses (r ∷ rows) new each = (
  (λ same. new (subst (λ (x : TimerRef). IsBefore (uses x.slot) x.generation) same (All-head (IsRow w uses) r rows each).used)),
  none_is t w uses rows new (All-tail (IsRow w uses) r rows each),
)

row_last : (t : TimerRef) (rows : List Row) (row : Row) → NoneIs t rows → row.timer ≡ t → row_of (rows ++ row ∷ []) t ≡ Some row
row_last t [] row none named =
    ap (λ (b : Bool). cond b (Some row) None) (ap (λ (x : TimerRef). same_timer x t) named ∙ same_timer_self t)
row_last t (r ∷ rows) row none named =
    ap (λ (b : Bool). cond b (Some r) (row_of (rows ++ row ∷ []) t)) (same_timer-false r.timer t none.0) ∙ row_last t rows row none.1 named

-- what ends the start, by whether the destination had exited
record AreClosed (g : Settings) (n : ℕ) (t : TimerRef) (was : Bool) (z : State) : Type 0 where
  closing : List Entry
  closes : Closes was n t closing
  legal : LegalFrom g z closing
  undue : z.clock.due ≡ None → (run g z closing).clock.due ≡ None

closed_by : (g : Settings) (n : ℕ) (t : TimerRef) (row : Row) (z : State) (was : Bool) → n < g.callers → IsSlot g t.wheel t.slot
    → row_of (z.rows t.wheel) t ≡ Some row → z.exited row.dest ≡ was → z.status t ≡ Some Armed → AreClosed g n t was z
closed_by g n t row z false caller slot stands exited armed = record { closing = []; closes = refl; legal = tt; undue = λ idle. idle }
closed_by g n t row z true caller slot stands exited armed = record {
  closing = orphan_entry n t.wheel t ∷ [];
  closes = inl refl;
  undue = λ idle. idle;
  legal = (record { keeps = (caller, refl, slot); known = record { row = row; stands = stands; exited = exited }; found = armed }, tt);
}

pub or_not : (x b : Bool) → (x || (b && false)) ≡ x
or_not true b = refl
or_not false true = refl
or_not false false = refl

-- a timer is armed, in a state in which its caller has looked at the time
pub record ArmsIn (g : Settings) (n w : ℕ) (start : Start) (z : State) : Type 0 where
  pub timer : TimerRef
  pub was : Bool
  pub closing : List Entry
  pub on_wheel : timer.wheel ≡ w
  pub closes : Closes was n timer closing
  pub legal : LegalFrom g z (arm_entry n timer start ∷ (mark_entry (Caller n) start.dest false was ∷ closing))
  pub undue : z.clock.due ≡ None → (run g z (arm_entry n timer start ∷ (mark_entry (Caller n) start.dest false was ∷ closing))).clock.due ≡ None

pub arm_in : (g : Settings) (z : State) (n w k wanted : ℕ) (start : Start) (now : ℤ) → IsReached g z → z.looked (Caller n) ≡ now → natural (down g now) ≤ 8796093022207
    → n < g.callers → w < g.schedulers → start.dest < g.processes → deadline_of g start now ≡ Some wanted → length (z.rows w) < 9007199254740992 → k < g.slots
    → IsFreeSlot z w (natural (down g now)) k → ArmsIn g n w start z
arm_in g z n w k wanted start now reached looked high caller sched process due few slot free =
    let u : Uses = uses_at z w k in
    let deadline : ℕ = deadline_in (turned u).since (natural (down g now)) wanted in
    let t : TimerRef = timer_at w k (generation_in (turned u).since (use_of (turned u).last + 1) deadline) in
    let one : Use = record { now = natural (down g now); wanted = wanted; generation = t.generation } in
    let can : CanUse u one = record {
      rested = free.rested;
      within = deadline_within (turned u).since (natural (down g now)) wanted high (when_within g start.when now wanted due);
      counts = refl;
    } in
    let arm : Entry = arm_entry n t start in
    let mark : Entry = mark_entry (Caller n) start.dest false (z.exited start.dest) in
    let deadline_is : deadline_of g start (z.looked (Caller n)) ≡ Some wanted = ap (deadline_of g start) looked ∙ due in
    let place : IsSlot g w k = record { wheel_high = sched; slot_high = slot } in
    let arms : Can g z arm = record {
      keeps = (caller, refl, place, process);
      known = record {
        free = free.free;
        wanted = wanted;
        due = deadline_is;
        next_use = subst (λ (x : ℤ). IsNextUse u (natural (down g x)) wanted t.generation) (sym looked) can;
        few = few;
      };
      found = tt;
    } in
    let armed : State = next g z arm in
    let marked : State = next g armed mark in
    let row : Row = record { timer = t; deadline = deadline_told t.generation wanted; dest = start.dest; msg = start.msg; kind = start.kind } in
    let own : nat_eq w w ≡ true = eq-eqb w w refl in
    let rows_are : marked.rows w ≡ z.rows w ++ row ∷ [] =
    ap (λ (b : Bool). cond b (cond b (z.rows w ++ row_from t start (deadline_of g start (z.looked (Caller n)))) (z.rows w)) (z.rows w)) own
    ∙ ap (λ (d : Option ℕ). z.rows w ++ row_from t start d) deadline_is in
    let new : IsBefore u t.generation → ⊥ = λ before. fresh u one t.generation (reached.kept.ordered w k).sound can before refl in
    let stands : row_of (marked.rows w) t ≡ Some row =
    ap (λ (rows : List Row). row_of rows t) rows_are
    ∙ row_last t (z.rows w) row (none_is t w (uses_at z w) (z.rows w) new (reached.kept.rows w).each) refl in
    let status : marked.status t ≡ Some Armed =
    ap (λ (b : Bool). cond (b && same_timer t t) (Some Armed) (z.status t)) own ∙ ap (λ (b : Bool). cond b (Some Armed) (z.status t)) (same_timer_self t) in
    let closed = closed_by g n t row marked (z.exited start.dest) caller place stands (or_not (z.exited start.dest) (nat_eq start.dest start.dest)) status in
    record {
      timer = t;
      was = z.exited start.dest;
      closing = closed.closing;
      on_wheel = refl;
      closes = closed.closes;
      legal = (arms, (can_mark g armed (Caller n) start.dest false caller process (z.exited start.dest) refl, closed.legal));
      undue = closed.undue;
    }

start_armed : (g : Settings) (s : State) (n w k wanted : ℕ) (start : Start) → IsReached g s → n < g.callers → w < g.schedulers → start.dest < g.processes
    → deadline_of g start s.clock.now ≡ Some wanted → length (s.rows w) < 9007199254740992 → k < g.slots
    → IsFreeSlot s w (natural (down g s.clock.now)) k → HasAnswerBut g s (Err NoMemory) (Starts g n w start)
start_armed g s n w k wanted start reached caller sched process due few slot free =
    let look : Entry = look_entry (Caller n) s.clock.now in
    let looked : State = next g s look in
    let look_can : Can g s look = can_look g s (Caller n) caller in
    let arms = arm_in g looked n w k wanted start s.clock.now (reached_next g s look reached look_can)
    (ap (λ (b : Bool). cond b s.clock.now (s.looked (Caller n))) (eq-eqb n n refl)) (milliseconds g s reached).high caller sched process due few slot
    (record { free = free.free; rested = free.rested }) in (
      Ok arms.timer,
      (λ same. cc),
      record {
        entries = look ∷ (arm_entry n arms.timer start ∷ (mark_entry (Caller n) start.dest false arms.was ∷ arms.closing));
        undue = arms.undue;
        allowed = record {
          now = s.clock.now;
          probes = [];
          was = arms.was;
          closing = arms.closing;
          on_wheel = arms.on_wheel;
          are_probes = tt;
          closes = arms.closes;
          entries = refl;
        };
        legal = (look_can, arms.legal);
      },
    )

start_searched : (g : Settings) (s : State) (n w wanted : ℕ) (start : Start) → IsReached g s → n < g.callers → w < g.schedulers → start.dest < g.processes
    → deadline_of g start s.clock.now ≡ Some wanted → length (s.rows w) < 9007199254740992 → Search s w (natural (down g s.clock.now)) (min g.slots g.looks)
    → HasAnswerBut g s (Err NoMemory) (Starts g n w start)
start_searched g s n w wanted start reached caller sched process due few (found k lt free) =
    start_armed g s n w k wanted start reached caller sched process due few (omega (arith, lt)) free
start_searched g s n w wanted start reached caller sched process due few (nowhere unfit) =
    start_full g s n w start caller sched (λ none. let clash : Some wanted ≡ None = sym due ∙ none in cc) unfit

start_counted : (g : Settings) (s : State) (n w wanted : ℕ) (start : Start) → IsReached g s → n < g.callers → w < g.schedulers → start.dest < g.processes
    → deadline_of g start s.clock.now ≡ Some wanted → length (s.rows w) ≤ 9007199254740992 → (b : Bool) → nat_lt (length (s.rows w)) 9007199254740992 ≡ b
    → HasAnswerBut g s (Err NoMemory) (Starts g n w start)
start_counted g s n w wanted start reached caller sched process due most true few =
    let lt : length (s.rows w) < 9007199254740992 = grind (arith, nat_tests) in
    start_searched g s n w wanted start reached caller sched process due lt (search_slots s w (natural (down g s.clock.now)) (min g.slots g.looks))
start_counted g s n w wanted start reached caller sched process due most false many =
    let le : 9007199254740992 ≤ length (s.rows w) = grind (arith, nat_tests) in
    start_spent g s n w start caller (λ none. let clash : Some wanted ≡ None = sym due ∙ none in cc) (omega arith)

start_at : (g : Settings) (s : State) (n w : ℕ) (start : Start) → IsReached g s → n < g.callers → w < g.schedulers → start.dest < g.processes
    → length (s.rows w) ≤ 9007199254740992 → (d : Option ℕ) → deadline_of g start s.clock.now ≡ d → HasAnswerBut g s (Err NoMemory) (Starts g n w start)
start_at g s n w start reached caller sched process most None is = (
  Err BadArg,
  (λ same. cc),
  record {
    entries = look_entry (Caller n) s.clock.now ∷ [];
    undue = λ idle. idle;
    allowed = record { now = s.clock.now; refused = is; entries = refl };
    legal = (can_look g s (Caller n) caller, tt);
  },
)
start_at g s n w start reached caller sched process most (Some wanted) is =
    start_counted g s n w wanted start reached caller sched process is most _ refl

pub possible_start : (g : Settings) (s : State) (n w : ℕ) (start : Start) → IsReached g s → length (s.rows w) ≤ 9007199254740992
    → n < g.callers → w < g.schedulers → start.dest < g.processes → HasAnswerBut g s (Err NoMemory) (Starts g n w start)
possible_start g s n w start reached most caller sched process = start_at g s n w start reached caller sched process most _ refl
