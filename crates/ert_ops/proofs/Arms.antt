-- A timer is armed: both services then differ in names alone, by the labels with one more.

use Rattle.std.proofs.Common.{◌≡◌, ◌≢◌, ℕ, ℤ, suc, ◌+◌, ◌<◌, ◌≤◌, Bool, true, false, cond, ◌&&◌, nat_eq, List, [], ◌∷◌, ◌++◌, length, length-append, append-nil, Option, Some, None, refl, sym, ap, ◌∙◌, subst, subst₂, arith, eq-eqb, eqb-true}
use Rattle.std.proofs.lemmas.Bool.{and_parts, Decides.nat_tests}
use Rattle.ert_defs.proofs.{ExpiredTimers.same_timer_self, Slots.same_timer-true, Uses.told_low}
use Rattle.ert_defs.specs.{Actors.{same_actor, has_actor}, Entries.arm_entry, Legal.{Can, IsSlot, names_timer}, Milliseconds.deadline_of, States.{State, uses_at, next}, Timers.{Row, same_timer, row_from, timer_at}}
use Rattle.ert_defs.specs.{declared.entry.Actor.TheVariants.{Wheel, Caller}, declared.settings.Settings.Settings, declared.timer.Start.Start, declared.timer.Status.TheVariants.Armed, declared.timer.TimerRef.TimerRef}
use Rattle.ert_ops.proofs.{Bound.{IsName, names_are, names_grow, new_name, name_before, name_is, IsFreeLabel, IsNewTimer}, FirstRounds.{first_round, one_more}, Meets.{AreUsed, IsUsed, Meets, kept_next, used_later}, Shown.{Names, Grows}}
use Rattle.ert_ops.proofs.{Shown.{Pairs, SameRow, Shows, both_if, pairs-append, rows_grow, requests_grow, mails_grow, sched_grows}}
use Rattle.ert_ops.specs.Labels.{Labels, bind}

-- the rows with one more

-- both have the deadline that was wanted, since both are of a first round
row_from_same : (R : Names) (t m : TimerRef) (start : Start) (d : Option ℕ) → t.generation < 8796093022208 → m.generation < 8796093022208 → R t m
    → Pairs (SameRow R) (row_from t start d) (row_from m start d)
row_from_same R t m start None first other named = tt
row_from_same R t m start (Some d) first other named = (
  record {
    timer = named;
    deadline = told_low t.generation d first ∙ sym (told_low m.generation d other);
    dest = refl;
    msg = refl;
    kind = refl;
  },
  tt,
)

rows_armed : (R : Names) (g : Settings) (t m : TimerRef) (start : Start) (look other : ℤ) (b c : Bool) (xs ys : List Row)
    → t.generation < 8796093022208 → m.generation < 8796093022208 → R t m → look ≡ other → Pairs (SameRow R) xs ys
    → Pairs (SameRow R) (cond b (cond c (xs ++ row_from t start (deadline_of g start look)) xs) xs)
    (cond b (cond c (ys ++ row_from m start (deadline_of g start other)) ys) ys)
rows_armed R g t m start look other b c xs ys first second named same h =
    let more : Pairs (SameRow R) (xs ++ row_from t start (deadline_of g start look)) (ys ++ row_from m start (deadline_of g start other)) =
    pairs-append (SameRow R) xs ys _ _ h
    (subst (λ (x : ℤ). Pairs (SameRow R) (row_from t start (deadline_of g start look)) (row_from m start (deadline_of g start x))) same
    (row_from_same R t m start (deadline_of g start look) first second named)) in
    both_if (Pairs (SameRow R)) b _ _ _ _ (both_if (Pairs (SameRow R)) c _ _ _ _ more h) h

-- the statuses: the new timer is armed in both, and the others stay

has_wheel : (t : TimerRef) (start : Start) → has_actor (arm_entry 0 t start) (Wheel t.wheel) ≡ true
has_wheel t start = eq-eqb t.wheel t.wheel refl

pub armed_status : (g : Settings) (s : State) (t : TimerRef) (start : Start) → (next g s (arm_entry 0 t start)).status t ≡ Some Armed
armed_status g s t start =
    ap (λ (b : Bool). cond (b && same_timer t t) (Some Armed) (s.status t)) (has_wheel t start)
    ∙ ap (λ (b : Bool). cond b (Some Armed) (s.status t)) (same_timer_self t)

and-other : (b : Bool) → (b && false) ≡ false
and-other true = refl
and-other false = refl

other_status : (g : Settings) (s : State) (t r : TimerRef) (start : Start) → same_timer t r ≡ false
    → (next g s (arm_entry 0 t start)).status r ≡ s.status r
other_status g s t r start other =
    let b : Bool = has_actor (arm_entry 0 t start) (Wheel r.wheel) in
    ap (λ (x : Bool). cond (b && x) (Some Armed) (s.status r)) other
    ∙ ap (λ (x : Bool). cond x (Some Armed) (s.status r)) (and-other b)

-- what is asked of the new timer
pub record IsNew (g : Settings) (ls : Labels) (l : ℕ) (t : TimerRef) : Type 0 where
  pub some : t.generation ≢ 0
  pub first : t.generation ≤ 262143
  pub in_range : names_timer g t ≡ true
  pub free : IsFreeLabel l ls
  pub new : IsNewTimer t ls

status_armed : (g : Settings) (ls : Labels) (l : ℕ) (t : TimerRef) (start : Start) (s c : State) (b : Bool) → IsNew g ls l t → Shows (IsName g ls) s c
    → (r n : TimerRef) → IsName g (bind ls l t) r n → same_timer t r ≡ b
    → (next g s (arm_entry 0 t start)).status r ≡ (next g c (arm_entry 0 (timer_at t.wheel l 1) start)).status n
status_armed g ls l t start s c true new h r n named is =
    let m : TimerRef = timer_at t.wheel l 1 in
    let same : t ≡ r = same_timer-true t r is in
    let here : IsName g (bind ls l t) t n = subst (λ (x : TimerRef). IsName g (bind ls l t) x n) (sym same) named in
    let name : n ≡ m = name_is g ls l t n new.some new.in_range new.free new.new here in
    subst (λ (x : TimerRef). (next g s (arm_entry 0 t start)).status x ≡ Some Armed) same (armed_status g s t start)
    ∙ sym (subst (λ (x : TimerRef). (next g c (arm_entry 0 m start)).status x ≡ Some Armed) (sym name) (armed_status g c m start))
status_armed g ls l t start s c false new h r n named is =
    let m : TimerRef = timer_at t.wheel l 1 in
    let own : IsName g (bind ls l t) t m = new_name g ls l t new.some new.in_range new.free new.new in
    let apart : t ≢ r = λ same.
    let one : same_timer t r ≡ true = subst (λ (x : TimerRef). same_timer t x ≡ true) same (same_timer_self t) in
    let clash : true ≡ false = sym one ∙ is in
    cc in
    let before : IsName g ls r n = name_before g ls l t r n new.free apart named in
    let other : same_timer m n ≡ false = (names_are g (bind ls l t)).same t m r n own named ∙ is in
    other_status g s t r start is ∙ h.status r n before ∙ sym (other_status g c m n start other)

equal_if : {X : Type 0} (b : Bool) (x y : X) → x ≡ y → cond b x x ≡ cond b y y
equal_if true x y p = p
equal_if false x y p = p

shows_armed : (g : Settings) (ls : Labels) (l : ℕ) (t : TimerRef) (start : Start) (s c : State) → IsNew g ls l t → Shows (IsName g ls) s c
    → Shows (IsName g (bind ls l t)) (next g s (arm_entry 0 t start)) (next g c (arm_entry 0 (timer_at t.wheel l 1) start))
shows_armed g ls l t start s c new h =
    let m : TimerRef = timer_at t.wheel l 1 in
    let R : Names = IsName g ls in
    let S : Names = IsName g (bind ls l t) in
    let grows : Grows R S = names_grow g ls ((l, t) ∷ []) in
    let own : S t m = new_name g ls l t new.some new.in_range new.free new.new in
    record {
      clock = h.clock;
      looked = λ a. equal_if (same_actor (Caller 0) a) (s.looked a) (c.looked a) (h.looked a);
      exited = h.exited;
      rows = λ w. rows_armed S g t m start (s.looked (Caller 0)) (c.looked (Caller 0)) (nat_eq t.wheel w) (nat_eq t.wheel w) (s.rows w) (c.rows w)
          (omega (arith, new.first)) (omega arith) own
          (h.looked (Caller 0)) (rows_grow R S grows (s.rows w) (c.rows w) (h.rows w));
      mails = λ p. mails_grow R S grows (s.mails p) (c.mails p) (h.mails p);
      inboxes = λ w. requests_grow R S grows (s.inboxes w) (c.inboxes w) (h.inboxes w);
      scheds = λ w. sched_grows R S grows (s.scheds w) (c.scheds w) (h.scheds w);
      status = λ r n named. status_armed g ls l t start s c (same_timer t r) new h r n named refl;
    }

-- the new timer is none of those that the labels have

new_timer : (last : ℕ → ℕ → ℕ) (t : TimerRef) (ls : Labels) → t.generation ≡ last t.wheel t.slot + 1 → AreUsed last ls → IsNewTimer t ls
new_timer last t [] next h = tt
new_timer last t (p ∷ ps) next h = (
  λ same.
      let within : t.generation ≤ last t.wheel t.slot = subst (λ (x : TimerRef). x.generation ≤ last x.wheel x.slot) same h.0.high in
      absurd (omega arith),
  new_timer last t ps next h.1,
)

in_range_by : (g : Settings) (t : TimerRef) → IsSlot g t.wheel t.slot → 1 ≤ t.generation → t.generation ≤ 262143 → names_timer g t ≡ true
in_range_by g t slot low high = grind (arith, nat_tests, slot.wheel_high, slot.slot_high)

used_bound : (last : ℕ → ℕ → ℕ) (ls : Labels) (l : ℕ) (t : TimerRef) → AreUsed last ls → IsUsed last t → AreUsed last (bind ls l t)
used_bound last [] l t h used = (used, tt)
used_bound last (p ∷ ps) l t h used = (h.0, used_bound last ps l t h.1 used)

pub own_last : (g : Settings) (s : State) (t : TimerRef) (start : Start) → (next g s (arm_entry 0 t start)).last t.wheel t.slot ≡ t.generation
own_last g s t start =
    ap (λ (b : Bool). cond b (cond (b && nat_eq t.slot t.slot) t.generation (s.last t.wheel t.slot)) (s.last t.wheel t.slot)) (eq-eqb t.wheel t.wheel refl)
    ∙ ap (λ (b : Bool). cond b t.generation (s.last t.wheel t.slot)) (eq-eqb t.slot t.slot refl)

last_high : (b c : Bool) (n last generation : ℕ) → last ≤ n → generation ≤ suc n → cond b (cond c generation last) last ≤ suc n
last_high true true n last generation low high = high
last_high true false n last generation low high = omega arith
last_high false c n last generation low high = omega arith

-- it is one more than the last of its slot, of which there were as many as ops at most
next_timer : (g : Settings) (n : ℕ) (ls : Labels) (t : TimerRef) (start : Start) (s c : State) → n ≤ 100000 → Meets g n ls s c
    → Can g s (arm_entry 0 t start) → t.generation ≡ s.last t.wheel t.slot + 1
next_timer g n ls t start s c few h can =
    one_more (uses_at s t.wheel t.slot) _ can.known.wanted t.generation
    (first_round (uses_at s t.wheel t.slot) (h.kept.ordered t.wheel t.slot).sound (omega (arith, h.lasts t.wheel t.slot))) can.known.next_use

last_grows : (last : ℕ → ℕ → ℕ) (t : TimerRef) (w k : ℕ) (b here : Bool) → t.generation ≡ last t.wheel t.slot + 1
    → (nat_eq t.wheel w && nat_eq t.slot k) ≡ here → last w k ≤ cond b (cond here t.generation (last w k)) (last w k)
last_grows last t w k true true next is =
    let place = and_parts (nat_eq t.wheel w) (nat_eq t.slot k) is in
    subst₂ (λ (v j : ℕ). last v j ≤ t.generation) (eqb-true t.wheel w place.0) (eqb-true t.slot k place.1) (omega (arith, next))
last_grows last t w k true false next is = omega arith
last_grows last t w k false here next is = omega arith

row_more : (n : ℕ) (rows : List Row) (t : TimerRef) (start : Start) (d : Option ℕ) → length rows ≤ n → length (rows ++ row_from t start d) ≤ suc n
row_more n rows t start None few = rw append-nil (omega (arith, few))
row_more n rows t start (Some d) few = rw length-append (omega (arith, few))

rows_more : (n : ℕ) (rows more : List Row) (b c : Bool) → length rows ≤ n → length more ≤ suc n → length (cond b (cond c more rows) rows) ≤ suc n
rows_more n rows more true true few one = one
rows_more n rows more true false few one = omega (arith, few)
rows_more n rows more false c few one = omega (arith, few)

pub is_new : (g : Settings) (n : ℕ) (ls : Labels) (l : ℕ) (t : TimerRef) (start : Start) (s c : State) → n ≤ 100000 → IsFreeLabel l ls → Meets g n ls s c
    → Can g s (arm_entry 0 t start) → IsNew g ls l t
is_new g n ls l t start s c few free h can =
    let next : t.generation ≡ s.last t.wheel t.slot + 1 = next_timer g n ls t start s c few h can in
    let high : t.generation ≤ 262143 = omega (arith, next, h.lasts t.wheel t.slot, few) in
    record {
      some = λ none. absurd (omega arith);
      first = high;
      in_range = in_range_by g t can.keeps.2 (omega arith) high;
      free = free;
      new = new_timer s.last t ls next h.used;
    }

pub meets_armed : (g : Settings) (n : ℕ) (ls : Labels) (l : ℕ) (t : TimerRef) (start : Start) (s c : State) → n ≤ 100000 → IsFreeLabel l ls
    → Meets g n ls s c → Can g s (arm_entry 0 t start)
    → Meets g (suc n) (bind ls l t) (next g s (arm_entry 0 t start)) (next g c (arm_entry 0 (timer_at t.wheel l 1) start))
meets_armed g n ls l t start s c few free h can =
    let made : t.generation ≡ s.last t.wheel t.slot + 1 = next_timer g n ls t start s c few h can in
    let later : State = next g s (arm_entry 0 t start) in
    let grows : (w k : ℕ) → s.last w k ≤ later.last w k =
    λ w k. last_grows s.last t w k (has_actor (arm_entry 0 t start) (Wheel w)) (nat_eq t.wheel w && nat_eq t.slot k) made refl in
    record {
      kept = kept_next g s (arm_entry 0 t start) h.kept can;
      shows = shows_armed g ls l t start s c (is_new g n ls l t start s c few free h can) h.shows;
      used = used_bound later.last ls l t (used_later s.last later.last grows ls h.used)
          (record { low = omega arith; high = omega (arith, own_last g s t start) });
      lasts = λ w k. last_high (nat_eq t.wheel w) (nat_eq t.wheel w && nat_eq t.slot k) n (s.last w k) t.generation (h.lasts w k)
          (omega (arith, h.lasts t.wheel t.slot));
      few = λ w. rows_more n (s.rows w) _ (has_actor (arm_entry 0 t start) (Wheel w)) (nat_eq t.wheel w) (h.few w)
          (row_more n (s.rows w) t start (deadline_of g start (s.looked (Caller 0))) (h.few w));
    }
