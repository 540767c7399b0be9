-- What the start of a timer leaves.

use Rattle.std.proofs.Common.{◌≡◌, ◌≢◌, ◌⊎◌, inl, inr, ℕ, zero, suc, ◌<◌, ◌≤◌, max, ℤ, Bool, true, false, cond, ◌&&◌, ◌||◌, nat_lt, nat_le, List, [], ◌∷◌, ◌++◌, length, All, Option, Some, None, Ok, Err, refl, sym, ap, subst, ◌∙◌, arith, append_assoc, eq-eqb, lt-ltb}
use Rattle.std.proofs.lemmas.Bool.{cases_eq, le-leb, ltb-true, Decides.nat_tests}
use Rattle.ert_effects.proofs.Told.{round_probes}
use Rattle.ert_effects.specs.{TimerCalls.{Starts, Closes, Round, IsRoundTaken}, declared.answers.StartErr.StartErr, declared.answers.StartErr.TheVariants.{BadArg, Full, NoMemory}}
use Rattle.ert_defs.specs.{Actors.has_actor, Entries.{look_entry, arm_entry, mark_entry}, Legal.{Legal, LegalFrom, Can, CanArm, IsSlot, is_generation, names_timer}, Milliseconds.{natural, down, deadline_of}, States.{State, uses_at, state}}
use Rattle.ert_defs.specs.{States.{run, next}, Timers.{Row, Uses, turned, deadline_in, deadline_told, row_of, row_from, same_timer}, declared.entry.Actor.TheVariants.{Wheel, Caller}, declared.entry.Entry.Entry}
use Rattle.ert_defs.specs.{declared.settings.Settings.Settings, declared.timer.Start.Start, declared.timer.Status.TheVariants.Armed, declared.timer.TimerRef.TimerRef}
use Rattle.ert_defs.proofs.{ExpiredTimers.{row_named, same_timer_self}, Rows.{IsRow, rows_hold}, Runs.{legal_first, legal_then, state-append}, Settlings.armed_first, Slots.{IsOrdered, ordered, ordered_next}, Standing.of_row, Uses.IsBefore}
use Rattle.ert_defs.proofs.{Uses.{Use, used, fresh, before_self, told_is}}
use Rattle.ert_interval.specs.{Calls.{Still, AreStill, IsFull}, Intervals.{IsPastExpiry, IsGoing, IsToldAt, HasToldDeadline}}
use Rattle.ert_interval.proofs.{Plain.{ArePlain, plain_spares, starts_plain}, Reading.{piece_legal, piece_state}, Steps.{row_stays, expired_stays, used_stays, going_stays, none_from}, Still.{still_armed, still_lives, still_full}}
use Rattle.ert_interval.proofs.{Still.{still_append, probes_still, full_round}}
use Rattle.ert_world.specs.Worlds.{Seen, Goes, By}

-- a row at the end is found, where there was none before
row_last : (rows : List Row) (row : Row) → row_of rows row.timer ≡ None → row_of (rows ++ row ∷ []) row.timer ≡ Some row
row_last [] row none = rw (same_timer_self row.timer) refl
row_last (x ∷ rows) row none = at (same_timer x.timer row.timer) (row_last rows row) none
  where
    at : (b : Bool) → (row_of rows row.timer ≡ None → row_of (rows ++ row ∷ []) row.timer ≡ Some row)
        → cond b (Some x) (row_of rows row.timer) ≡ None → cond b (Some x) (row_of (rows ++ row ∷ []) row.timer) ≡ Some row
    at true more h = absurd cc
    at false more h = more h

-- the use of a slot that a start makes, for a deadline that is wanted
abbrev use_by : Settings → State → TimerRef → ℕ → Use
use_by g s timer wanted = record { now = natural (down g (s.looked (Caller 0))); wanted = wanted; generation = timer.generation }

-- a timer that can be armed has no row yet
row_new : (g : Settings) (s : State) (timer : TimerRef) (deadline : Option ℕ) (o : Option Row) → IsOrdered s
    → All (IsRow timer.wheel (uses_at s timer.wheel)) (s.rows timer.wheel) → CanArm g s (Caller 0) timer deadline
    → row_of (s.rows timer.wheel) timer ≡ o → row_of (s.rows timer.wheel) timer ≡ None
row_new g s timer deadline None order each can is = is
row_new g s timer deadline (Some row) order each can is =
    let w : ℕ = timer.wheel in
    let is_row : IsRow w (uses_at s w) row = of_row (IsRow w (uses_at s w)) (s.rows w) timer row each is in
    let named : row.timer ≡ timer = row_named (s.rows w) row timer is in
    let used : IsBefore (uses_at s w timer.slot) timer.generation = subst (λ (t : TimerRef). IsBefore (uses_at s w t.slot) t.generation) named is_row.used in
    absurd (fresh (uses_at s w timer.slot) (use_by g s timer can.wanted) timer.generation (order w timer.slot).sound can.next_use used refl)

abbrev row_at : TimerRef → Start → ℕ → Row
row_at timer start deadline = record {
  timer = timer;
  deadline = deadline_told timer.generation deadline;
  dest = start.dest;
  msg = start.msg;
  kind = start.kind;
}

-- a timer has just been armed
armed_row : (g : Settings) (h : List Entry) (timer : TimerRef) (start : Start) (deadline : ℕ) → Legal g h → Can g (state g h) (arm_entry 0 timer start)
    → deadline_of g start ((state g h).looked (Caller 0)) ≡ Some deadline
    → row_of ((next g (state g h) (arm_entry 0 timer start)).rows timer.wheel) timer ≡ Some (row_at timer start deadline)
armed_row g h timer start deadline legal can due =
    let s : State = state g h in
    let has : has_actor (arm_entry 0 timer start) (Wheel timer.wheel) ≡ true = eq-eqb timer.wheel timer.wheel refl in
    let none : row_of (s.rows timer.wheel) timer ≡ None =
    row_new g s timer _ (row_of (s.rows timer.wheel) timer) (ordered g h legal) (rows_hold g h timer.wheel legal).each can.known refl in
    let rows : (next g s (arm_entry 0 timer start)).rows timer.wheel ≡ s.rows timer.wheel ++ row_at timer start deadline ∷ [] =
    rw has (ap (λ d. s.rows timer.wheel ++ row_from timer start d) due) in
    ap (λ l. row_of l timer) rows ∙ row_last (s.rows timer.wheel) (row_at timer start deadline) none

armed_status : (g : Settings) (s : State) (timer : TimerRef) (start : Start) → (next g s (arm_entry 0 timer start)).status timer ≡ Some Armed
armed_status g s timer start =
    rw (eq-eqb timer.wheel timer.wheel refl, eq-eqb timer.slot timer.slot refl, eq-eqb timer.generation timer.generation refl) refl

or_true : (x : Bool) → (x || true) ≡ true
or_true true = refl
or_true false = refl

-- a generation that was armed is one that a timer may have
is_armed_generation : (u : Uses) (n : ℕ) → IsBefore u n → is_generation n ≡ true
is_armed_generation u n armed = at (nat_lt n 8796093022208) refl
  where
    at : (b : Bool) → nat_lt n 8796093022208 ≡ b → is_generation n ≡ true
    at true is =
        let high : n ≤ 262143 = armed.small (ltb-true n 8796093022208 is) in
        rw (le-leb 1 n armed.low, le-leb n 262143 high) refl
    at false is =
        let later : 8796093022208 ≤ n = grind (arith, nat_tests) in
        rw (le-leb 8796093022208 n later, lt-ltb n 2305843009213693952 armed.high) (or_true (nat_le 1 n && nat_le n 262143))

and_all : (a b c : Bool) → a ≡ true → b ≡ true → c ≡ true → (a && b && c) ≡ true
and_all a b c is_a is_b is_c = rw (is_a, is_b, is_c) refl

-- a timer that can be armed is in range
names : (g : Settings) (s : State) (timer : TimerRef) (deadline : Option ℕ) → IsOrdered s → IsSlot g timer.wheel timer.slot
    → CanArm g s (Caller 0) timer deadline → names_timer g timer ≡ true
names g s timer deadline order slot can =
    let u : Uses = uses_at s timer.wheel timer.slot in
    let t : Use = use_by g s timer can.wanted in
    and_all (nat_lt timer.wheel g.schedulers) (nat_lt timer.slot g.slots) (is_generation timer.generation)
    (lt-ltb timer.wheel g.schedulers slot.wheel_high) (lt-ltb timer.slot g.slots slot.slot_high)
    (is_armed_generation (used u t) timer.generation (before_self u t (order timer.wheel timer.slot).sound can.next_use))

-- the deadline of a timer is the wanted one, or one that had passed counts as the time of the look
deadline_cases : (since now wanted : ℕ) → (deadline_in since now wanted ≡ wanted)
    ⊎ ((wanted < deadline_in since now wanted) × (deadline_in since now wanted ≡ now))
deadline_cases zero now wanted = inl refl
deadline_cases (suc since) now wanted = elim (cases_eq (max now wanted) wanted) [
  | inl is ↦ inl is
  | inr not ↦ inr (omega (arith, not), omega (arith, not))
]

told_cases : (g : Settings) (s : State) (timer : TimerRef) (deadline : Option ℕ) (wanted : ℕ) → IsOrdered s → CanArm g s (Caller 0) timer deadline
    → deadline ≡ Some wanted → IsToldAt g s timer wanted
told_cases g s timer deadline wanted order can due =
    let u : Uses = uses_at s timer.wheel timer.slot in
    let t : Use = use_by g s timer can.wanted in
    let same : can.wanted ≡ wanted = (let is : Some can.wanted ≡ Some wanted = sym can.due ∙ due in cc) in
    let told : deadline_told timer.generation can.wanted ≡ deadline_in (turned u).since t.now can.wanted =
    told_is u t (order timer.wheel timer.slot).sound can.next_use in
    subst (IsToldAt g s timer) same
    (subst (λ d. (d ≡ can.wanted) ⊎ ((can.wanted < d) × (d ≡ t.now))) (sym told) (deadline_cases (turned u).since t.now can.wanted))

-- a timer was started
pub record HasStarted (a b : Seen) (w : ℕ) (start : Start) (timer : TimerRef) (deadline : ℕ) : Type 0 where
  pub on : timer.wheel ≡ w
  pub named : names_timer a.settings timer ≡ true
  pub before : List Entry
  pub behind : List Entry
  pub parted : b.history ≡ before ++ behind
  pub early : (r : TimerRef) → IsPastExpiry ((state a.settings a.history).status r) → IsPastExpiry ((state a.settings before).status r)
  pub unarmed : (state a.settings before).status timer ≡ None
  pub new : (state a.settings a.history).status timer ≡ None
  pub row : row_of ((state a.settings b.history).rows timer.wheel) timer ≡ Some (row_at timer start deadline)
  pub told : HasToldDeadline a.settings b.history timer deadline
  pub going : IsGoing ((state a.settings b.history).status timer) ((state a.settings b.history).exited start.dest)
  pub used : (state a.settings b.history).status timer ≢ None
  pub lives : (state a.settings a.history).exited start.dest ≡ false → ((state a.settings b.history).status timer ≡ Some Armed) × Still a b

closed : (was : Bool) (timer : TimerRef) (closing : List Entry) → was ≡ false → Closes was 0 timer closing → closing ≡ []
closed was timer closing is closes = subst (λ b. Closes b 0 timer closing) is closes

pub started : (a b : Seen) (w : ℕ) (start : Start) (timer : TimerRef) (deadline : ℕ) → Goes a (By a (λ g. Starts g 0 w start (Ok timer))) b
    → a.next ≡ 1 → Legal b.settings b.history → ((look : ℤ) → deadline_of a.settings start look ≡ Some deadline) → HasStarted a b w start timer deadline
started a b w start timer deadline goes lone legal_b due =
    let g : Settings = a.settings in
    let grows = goes.lone lone in
    let st = grows.made in
    let pre : List Entry = look_entry (Caller 0) st.now ∷ st.probes in
    let arm : Entry = arm_entry 0 timer start in
    let mark : Entry = mark_entry (Caller 0) start.dest false st.was in
    let post : List Entry = mark ∷ st.closing in
    let h1 : List Entry = a.history ++ pre in
    let s1 : State = state g h1 in
    let parted : b.history ≡ h1 ++ (arm ∷ post) =
    grows.grown ∙ (ap (λ l. a.history ++ l) st.entries ∙ sym (append_assoc a.history pre (arm ∷ post))) in
    let legal : Legal g (h1 ++ (arm ∷ post)) = subst (Legal g) parted (subst (λ k. Legal k b.history) goes.settings legal_b) in
    let legal_h1 : Legal g h1 = legal_first g _ h1 (arm ∷ post) legal in
    let legal_a : Legal g a.history = legal_first g _ a.history pre legal_h1 in
    let legal_pre : LegalFrom g (state g a.history) pre = legal_then g _ a.history pre legal_h1 in
    let legal_rest : LegalFrom g s1 (arm ∷ post) = legal_then g _ h1 (arm ∷ post) legal in
    let can = legal_rest.0 in
    let s2 : State = next g s1 arm in
    let end : state g b.history ≡ run g s2 post = ap (state g) parted ∙ state-append g h1 (arm ∷ post) in
    let at1 : s1 ≡ run g (state g a.history) pre = state-append g a.history pre in
    let plain : ArePlain (arm ∷ post) = plain_then (look_entry (Caller 0) st.now ∷ st.probes) (arm ∷ post)
    (subst ArePlain st.entries (starts_plain g 0 w start (Ok timer) (state g a.history) grows.piece st)) in
    let unarmed : s1.status timer ≡ None = armed_first g s1 (Caller 0) timer timer _ (ordered g h1 legal_h1) can.known (same_timer_self timer) in
    let status : s2.status timer ≡ Some Armed = armed_status g s1 timer start in
    let row2 : row_of (s2.rows timer.wheel) timer ≡ Some (row_at timer start deadline) =
    armed_row g h1 timer start deadline legal_h1 can (due (s1.looked (Caller 0))) in
    let going2 : IsGoing (s2.status timer) (s2.exited start.dest) = subst (λ x. IsGoing x (s2.exited start.dest)) (sym status) tt in
    let used2 : s1.status timer ≡ None → s2.status timer ≢ None = λ was none. (let clash : Some Armed ≡ None = sym status ∙ none in absurd cc) in
    let still_pre : AreStill pre = (refl, probes_still (Caller 0) w st.probes st.are_probes) in
    record {
      on = st.on_wheel;
      named = names g s1 timer _ (ordered g h1 legal_h1) can.keeps.2 can.known;
      before = h1;
      behind = arm ∷ post;
      parted = parted;
      early = λ r expired. subst (λ (s : State). IsPastExpiry (s.status r)) (sym at1)
          (expired_stays g (state g a.history) pre r (ordered g a.history legal_a) legal_pre expired);
      unarmed = unarmed;
      new = none_from ((state g a.history).status timer) (λ some.
          subst (λ (s : State). s.status timer ≢ None) (sym at1)
          (used_stays g (state g a.history) pre timer (ordered g a.history legal_a) legal_pre some) unarmed);
      row = subst (λ (s : State). row_of (s.rows timer.wheel) timer ≡ Some (row_at timer start deadline)) (sym end)
          (row_stays g s2 post timer (row_at timer start deadline) row2);
      told = record {
        before = h1;
        start = start;
        behind = post;
        parted = parted;
        told = told_cases g s1 timer _ deadline (ordered g h1 legal_h1) can.known (due (s1.looked (Caller 0)));
      };
      going = subst (λ (s : State). IsGoing (s.status timer) (s.exited start.dest)) (sym end)
          (going_stays g s2 post timer (row_at timer start deadline) legal_rest.1 (plain_spares timer post plain.1) row2 going2);
      used = subst (λ (s : State). s.status timer ≢ None) (sym end)
          (used_post g s2 post timer start h1 s1 refl legal_h1 can legal_rest.1 (used2 unarmed));
      lives = λ alive.
          let alive1 : s1.exited start.dest ≡ false =
          subst (λ (s : State). s.exited start.dest ≡ false) (sym at1) (still_lives g (state g a.history) pre start.dest still_pre alive) in
          let was : st.was ≡ false = legal_rest.1.0.found ∙ alive1 in
          let none : st.closing ≡ [] = closed st.was timer st.closing was st.closes in
          let still_rest : AreStill (arm ∷ (mark ∷ [])) = (refl, (refl, tt)) in
          let still_es : AreStill grows.piece =
          subst AreStill (sym st.entries) (still_append pre (arm ∷ post) still_pre (subst (λ l. AreStill (arm ∷ (mark ∷ l))) (sym none) still_rest)) in (
            subst (λ (s : State). s.status timer ≡ Some Armed) (sym end)
                (still_armed g s2 post timer (subst (λ l. AreStill (mark ∷ l)) (sym none) (refl, tt)) status),
            record { piece = grows.piece; grown = grows.grown; still = still_es; settings = goes.settings; next = goes.next },
          );
    }
  where
    plain_then : (es fs : List Entry) → ArePlain (es ++ fs) → ArePlain fs
    plain_then [] fs plain = plain
    plain_then (e ∷ es) fs plain = plain_then es fs plain.1

    used_post : (g : Settings) (s2 : State) (post : List Entry) (timer : TimerRef) (start : Start) (h1 : List Entry) (s1 : State) → s1 ≡ state g h1 → Legal g h1
        → Can g (state g h1) (arm_entry 0 timer start) → LegalFrom g (next g (state g h1) (arm_entry 0 timer start)) post
        → (next g (state g h1) (arm_entry 0 timer start)).status timer ≢ None
        → (run g (next g (state g h1) (arm_entry 0 timer start)) post).status timer ≢ None
    used_post g s2 post timer start h1 s1 is legal can legal_post used =
        used_stays g (next g (state g h1) (arm_entry 0 timer start)) post timer (ordered_next g (state g h1) (arm_entry 0 timer start) (ordered g h1 legal) can)
        legal_post used

-- what a start that is refused with Full found
abbrev FoundFull : Settings → ℕ → ℤ → State → List Entry → Type 0
FoundFull g w now s probes = ((round : Round g.slots g.looks) × IsRoundTaken 0 w (natural (down g now)) s round probes) ⊎ ((length (s.rows w) ≡ 9007199254740992) × (probes ≡ []))

taken_all : (g : Settings) (s : State) (w : ℕ) (now : ℤ) (probes : List Entry) → LegalFrom g s (look_entry (Caller 0) now ∷ probes)
    → FoundFull g w now s probes → IsFull g s w
taken_all g s w now probes legal (inl taken) =
    let found : now ≡ s.clock.now = legal.0.found in
    inl (
      taken.0,
      λ k within.
          full_round g s (next g s (look_entry (Caller 0) now)) (natural (down g s.clock.now)) w taken.0 probes (λ j. refl) legal.1
          (subst (λ x. IsRoundTaken 0 w (natural (down g x)) s taken.0 probes) found taken.1) k within,
    )
taken_all g s w now probes legal (inr many) = inr many.0

found_still : (g : Settings) (w : ℕ) (now : ℤ) (s : State) (probes : List Entry) → FoundFull g w now s probes → AreStill probes
found_still g w now s probes (inl taken) = probes_still (Caller 0) w probes (round_probes 0 w (natural (down g now)) s taken.0 probes taken.1)
found_still g w now s probes (inr many) = subst AreStill (sym many.1) tt

-- a start that found no free slot leaves a full wheel
pub refused_full : (a b : Seen) (w : ℕ) (start : Start) (deadline : ℕ) (e : StartErr) → Goes a (By a (λ g. Starts g 0 w start (Err e))) b
    → a.next ≡ 1 → Legal b.settings b.history → ((look : ℤ) → deadline_of a.settings start look ≡ Some deadline) → (e ≡ NoMemory → ⊥)
    → IsFull b.settings (state b.settings b.history) w × Still a b
refused_full a b w start deadline BadArg goes lone legal due memory =
    let st = (goes.lone lone).made in
    let clash : Some deadline ≡ None = sym (due st.now) ∙ st.refused in
    absurd cc
refused_full a b w start deadline NoMemory goes lone legal due memory = absurd (memory refl)
refused_full a b w start deadline Full goes lone legal due memory =
    let g : Settings = a.settings in
    let s : State = state g a.history in
    let grows = goes.lone lone in
    let st = grows.made in
    let es : List Entry = look_entry (Caller 0) st.now ∷ st.probes in
    let legal_es : LegalFrom g s es = subst (LegalFrom g s) st.entries (piece_legal a b grows.piece goes.settings grows.grown legal) in
    let still : AreStill es = (refl, found_still g w st.now s st.probes st.are_taken) in
    let end : state b.settings b.history ≡ run g s es = piece_state a b grows.piece goes.settings grows.grown ∙ ap (run g s) st.entries in
    let full : IsFull g (run g s es) w = still_full g s es w legal_es still (taken_all g s w st.now st.probes legal_es st.are_taken) in (
      subst (λ (k : Settings). IsFull k (state b.settings b.history) w) (sym goes.settings)
          (subst (λ (t : State). IsFull g t w) (sym end) full),
      record { piece = grows.piece; grown = grows.grown; still = subst AreStill (sym st.entries) still; settings = goes.settings; next = goes.next },
    )

-- a start that has a deadline, and isn't refused because memory ran out, is refused for a full wheel
pub full_start : (a b : Seen) (w : ℕ) (start : Start) (deadline : ℕ) (e : StartErr) → Goes a (By a (λ g. Starts g 0 w start (Err e))) b
    → a.next ≡ 1 → ((look : ℤ) → deadline_of a.settings start look ≡ Some deadline) → (e ≡ NoMemory → ⊥) → Goes a (By a (λ g. Starts g 0 w start (Err Full))) b
full_start a b w start deadline BadArg goes lone due memory =
    let st = (goes.lone lone).made in
    let clash : Some deadline ≡ None = sym (due st.now) ∙ st.refused in
    absurd cc
full_start a b w start deadline NoMemory goes lone due memory = absurd (memory refl)
full_start a b w start deadline Full goes lone due memory = goes

-- and its answer is that
pub full_answer : (a b : Seen) (w : ℕ) (start : Start) (deadline : ℕ) (e : StartErr) → Goes a (By a (λ g. Starts g 0 w start (Err e))) b
    → a.next ≡ 1 → ((look : ℤ) → deadline_of a.settings start look ≡ Some deadline) → (e ≡ NoMemory → ⊥) → e ≡ Full
full_answer a b w start deadline BadArg goes lone due memory =
    let st = (goes.lone lone).made in
    let clash : Some deadline ≡ None = sym (due st.now) ∙ st.refused in
    absurd cc
full_answer a b w start deadline NoMemory goes lone due memory = absurd (memory refl)
full_answer a b w start deadline Full goes lone due memory = refl
