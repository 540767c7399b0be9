-- What entries that settle no timer leave: armed timers, living processes and full wheels.

use Rattle.std.proofs.Common.{◌≡◌, ◌⊎◌, ℕ, zero, suc, ◌+◌, ◌<◌, ◌≤◌, ℤ, Bool, true, false, cond, ◌&&◌, nat_eq, List, [], ◌∷◌, ◌++◌, length, Option, Some, refl, sym, ap, subst, ◌∙◌, inl, inr, arith, eqb-true, eq-eqb}
use Rattle.std.proofs.lemmas.Bool.{cases_eq}
use Rattle.ert_effects.specs.TimerCalls.{AreProbes, AreTaken, Round, IsInRound, IsRoundTaken}
use Rattle.ert_defs.specs.{Actors.has_actor, Entries.probe_entry, Clocks.{Clock, clock_after}, Legal.{Known, LegalFrom}, Milliseconds.{natural, down, deadline_of}, States.{State, uses_at, next, run, exited_after}, Timers.{Row, Uses}}
use Rattle.ert_defs.specs.{Timers.{turned, above_with, row_from, rows_after, same_timer, status_after, is_taken, timer_at}, declared.entry.Actor.Actor, declared.entry.Actor.TheVariants.{Keeper, Wheel, Caller}, declared.entry.Entry.Entry}
use Rattle.ert_defs.specs.{declared.entry.Event.Event, declared.entry.Event.TheVariants.{Tick, Shift, Look, Arm, Probe, Peek, Cancel, Expire, Orphan, Deliver, Drop, Mark}, declared.settings.Settings.Settings, declared.timer.Status.Status}
use Rattle.ert_defs.specs.{declared.timer.Status.TheVariants.Armed, declared.timer.TimerRef.TimerRef}
use Rattle.ert_defs.proofs.Slots.{uses_after}
use Rattle.ert_interval.specs.Calls.{is_still, AreStill, IsFull}
use Rattle.ert_interval.proofs.{Reading.or_none, Steps.cond_same}

armed_one : (r : TimerRef) (b : Bool) (x : Option Status) (event : Event) → is_still event ≡ true → x ≡ Some Armed → status_after r b x event ≡ Some Armed
armed_one r b x (Arm timer start) still is = cond_same (b && same_timer timer r) (Some Armed) x (Some Armed) refl is
armed_one r b x (Cancel timer left) still is = absurd cc
armed_one r b x (Expire timer) still is = absurd cc
armed_one r b x (Orphan timer) still is = absurd cc
armed_one r b x (Deliver timer) still is = absurd cc
armed_one r b x (Drop timer) still is = absurd cc
armed_one r b x _ still is = is

-- an armed timer stays so
pub still_armed : (g : Settings) (s : State) (es : List Entry) (r : TimerRef) → AreStill es → s.status r ≡ Some Armed → (run g s es).status r ≡ Some Armed
still_armed g s [] r still is = is
still_armed g s (e ∷ es) r still is =
    still_armed g (next g s e) es r still.1 (armed_one r (has_actor e (Wheel r.wheel)) (s.status r) e.event still.0 is)

lives_one : (p : ℕ) (x : Bool) (event : Event) → is_still event ≡ true → x ≡ false → exited_after p x event ≡ false
lives_one p x (Mark process true was) still is = absurd cc
lives_one p x (Mark process false was) still is = or_none x (nat_eq process p) ∙ is
lives_one p x _ still is = is

-- a living process stays so
pub still_lives : (g : Settings) (s : State) (es : List Entry) (p : ℕ) → AreStill es → s.exited p ≡ false → (run g s es).exited p ≡ false
still_lives g s [] p still is = is
still_lives g s (e ∷ es) p still is = still_lives g (next g s e) es p still.1 (lives_one p (s.exited p) e.event still.0 is)

-- a slot with these uses is taken, or rests at a time
abbrev pub SlotFull : (TimerRef → Option Status) → ℕ → ℕ → ℕ → Uses → Type 0
SlotFull status now w k u = (is_taken (status (timer_at w k u.last)) ≡ true) ⊎ (now < (turned u).since)

taken_cond : (c : Bool) (x : Option Status) → is_taken x ≡ true → is_taken (cond c (Some Armed) x) ≡ true
taken_cond true x taken = refl
taken_cond false x taken = taken

taken_arm : (c : Bool) (x : Option Status) (now : ℕ) (u : Uses) → (is_taken x ≡ true) ⊎ (now < (turned u).since)
    → (is_taken (cond c (Some Armed) x) ≡ true) ⊎ (now < (turned u).since)
taken_arm c x now u (inl taken) = inl (taken_cond c x taken)
taken_arm c x now u (inr rests) = inr rests

-- a timer that is started takes its slot
taken_here : (b c d : Bool) (x : Option Status) → b ≡ true → c ≡ true → d ≡ true → is_taken (cond (b && (c && d)) (Some Armed) x) ≡ true
taken_here b c d x is_b is_c is_d = rw (is_b, is_c, is_d) refl

-- the uses of a slot that stay, whether an entry has its wheel or not
abbrev uses_same : Bool → Uses → Uses
uses_same b u = record { last = cond b u.last u.last; since = cond b u.since u.since; above = cond b u.above u.above }

same_uses : (b : Bool) (u : Uses) → uses_same b u ≡ u
same_uses true u = refl
same_uses false u = refl

-- a start leaves each slot full that was
full_arm : (status : TimerRef → Option Status) (has : ℕ → Bool) (u : Uses) (timer : TimerRef) (deadline : Option ℕ) (now w k : ℕ) (b here : Bool)
    → has w ≡ b → (nat_eq timer.wheel w && nat_eq timer.slot k) ≡ here → SlotFull status now w k u
    → SlotFull (λ r. cond (has r.wheel && same_timer timer r) (Some Armed) (status r)) now w k (record {
      last = cond b (cond here timer.generation u.last) u.last;
      since = cond b (cond here (turned u).since u.since) u.since;
      above = cond b (cond here (above_with timer.generation u.above deadline) u.above) u.above;
    })
full_arm status has u timer deadline now w k true true has_w at full =
    inl (taken_here (has w) (nat_eq timer.wheel w && nat_eq timer.slot k) (nat_eq timer.generation timer.generation)
    (status (timer_at w k timer.generation)) has_w at (eq-eqb timer.generation timer.generation refl))
full_arm status has u timer deadline now w k true false has_w at full =
    taken_arm (has w && same_timer timer (timer_at w k u.last)) (status (timer_at w k u.last)) now u full
full_arm status has u timer deadline now w k false here has_w at full =
    taken_arm (has w && same_timer timer (timer_at w k u.last)) (status (timer_at w k u.last)) now u full

full_one : (g : Settings) (look : ℤ) (status : TimerRef → Option Status) (has : ℕ → Bool) (u : Uses) (event : Event) (now w k : ℕ) → is_still event ≡ true
    → SlotFull status now w k u
    → SlotFull (λ r. status_after r (has r.wheel) (status r) event) now w k (uses_after g look (has w) w k u event)
full_one g look status has u (Arm timer start) now w k still full =
    full_arm status has u timer (deadline_of g start look) now w k (has w) (nat_eq timer.wheel w && nat_eq timer.slot k) refl refl full
full_one g look status has u (Look time) now w k still full = subst (SlotFull status now w k) (sym (same_uses (has w) u)) full
full_one g look status has u (Peek timer left) now w k still full = subst (SlotFull status now w k) (sym (same_uses (has w) u)) full
full_one g look status has u (Probe wheel slot found) now w k still full = subst (SlotFull status now w k) (sym (same_uses (has w) u)) full
full_one g look status has u (Mark process exits was) now w k still full = subst (SlotFull status now w k) (sym (same_uses (has w) u)) full
full_one g look status has u _ now w k still full = absurd cc

cond_one : {X : Type 0} (b : Bool) (x : X) → cond b x x ≡ x
cond_one true x = refl
cond_one false x = refl

-- the clock stands still
clock_one : (g : Settings) (c : Clock) (b : Bool) (event : Event) → is_still event ≡ true → cond b (clock_after g c event) c ≡ c
clock_one g c b (Tick reading act now) still = absurd cc
clock_one g c b (Shift offset state) still = absurd cc
clock_one g c b _ still = cond_one b c

-- no timer is started on a wheel that has had the most
many_arm : (rows more : List Row) (wheel w : ℕ) (b own : Bool) → nat_eq wheel w ≡ own → (wheel ≡ w → length rows < 9007199254740992)
    → length rows ≡ 9007199254740992 → length (cond b (cond own more rows) rows) ≡ 9007199254740992
many_arm rows more wheel w true true is few many = (let room = few (eqb-true wheel w is) in absurd (omega (arith, room, many)))
many_arm rows more wheel w true false is few many = many
many_arm rows more wheel w false own is few many = many

many_one : (g : Settings) (s : State) (by : Actor) (with : Option Actor) (b : Bool) (event : Event) (w : ℕ) → Known g s by with event
    → is_still event ≡ true → length (s.rows w) ≡ 9007199254740992
    → length (cond b (rows_after g (s.looked by) w (s.rows w) event) (s.rows w)) ≡ 9007199254740992
many_one g s by with b (Arm timer start) w known still many =
    many_arm (s.rows w) (s.rows w ++ row_from timer start (deadline_of g start (s.looked by))) timer.wheel w b (nat_eq timer.wheel w) refl
    (λ is. subst (λ v. length (s.rows v) < 9007199254740992) is known.few) many
many_one g s by with b (Look time) w known still many = ap length (cond_one b (s.rows w)) ∙ many
many_one g s by with b (Peek timer left) w known still many = ap length (cond_one b (s.rows w)) ∙ many
many_one g s by with b (Probe wheel slot found) w known still many = ap length (cond_one b (s.rows w)) ∙ many
many_one g s by with b (Mark process exits was) w known still many = ap length (cond_one b (s.rows w)) ∙ many
many_one g s by with b _ w known still many = absurd cc

full_next : (g : Settings) (s : State) (e : Entry) (w : ℕ) → Known g s e.by e.with e.event → is_still e.event ≡ true → IsFull g s w → IsFull g (next g s e) w
full_next g s e w known still (inl full) =
    inl (
      full.0,
      λ k within.
          subst (λ (c : Clock). SlotFull (next g s e).status (natural (down g c.now)) w k (uses_at (next g s e) w k))
          (sym (clock_one g s.clock (has_actor e Keeper) e.event still))
          (full_one g (s.looked e.by) s.status (λ v. has_actor e (Wheel v)) (uses_at s w k) e.event (natural (down g s.clock.now)) w k still (full.1 k within)),
    )
full_next g s e w known still (inr many) = inr (many_one g s e.by e.with (has_actor e (Wheel w)) e.event w known still many)

-- a full wheel stays so
pub still_full : (g : Settings) (s : State) (es : List Entry) (w : ℕ) → LegalFrom g s es → AreStill es → IsFull g s w → IsFull g (run g s es) w
still_full g s [] w legal still full = full
still_full g s (e ∷ es) w legal still full =
    still_full g (next g s e) es w legal.1 still.1 (full_next g s e w legal.0.known still.0 full)

pub still_append : (es fs : List Entry) → AreStill es → AreStill fs → AreStill (es ++ fs)
still_append [] fs one other = other
still_append (e ∷ es) fs one other = (one.0, still_append es fs one.1 other)

pub probes_still : (by : Actor) (w : ℕ) (es : List Entry) → AreProbes by w es → AreStill es
probes_still by w [] probes = tt
probes_still by w (e ∷ es) probes =
    (subst (λ (x : Entry). is_still x.event ≡ true) (sym probes.2) refl, probes_still by w es probes.3)

-- each slot of a range is taken or rests, as the probes found
full_from : (g : Settings) (s t : State) (now w slot n : ℕ) (es : List Entry) → ((k : ℕ) → uses_at t w k ≡ uses_at s w k) → LegalFrom g t es
    → AreTaken 0 w now s slot n es → (k : ℕ) → slot ≤ k → k < slot + n → SlotFull t.status now w k (uses_at t w k)
full_from g s t now w slot zero es same legal taken k low high = absurd (omega (arith, low, high))
full_from g s t now w slot (suc n) es same legal taken k low high =
    let found : Option Status = taken.0 in
    let e : Entry = probe_entry (Caller 0) w slot found in
    let legal_e : LegalFrom g t (e ∷ taken.1) = subst (LegalFrom g t) taken.2 legal in
    let t' : State = next g t e in
    let uses : (j : ℕ) → uses_at t' w j ≡ uses_at t w j = λ j. same_uses (has_actor e (Wheel w)) (uses_at t w j) in
    elim (cases_eq k slot) [
      | inl is ↦
          subst (λ j. SlotFull t.status now w j (uses_at t w j)) (sym is)
          (elim taken.3 [
            | inl one ↦ inl (subst (λ (x : Option Status). is_taken x ≡ true) legal_e.0.found one)
            | inr rests ↦ inr (subst (λ u. now < (turned u).since) (sym (same slot)) rests)
          ])
      | inr not ↦
          subst (SlotFull t.status now w k) (uses k)
          (full_from g s t' now w (suc slot) n taken.1 (λ j. uses j ∙ same j) legal_e.1 taken.4 k (omega (arith, low, not)) (omega (arith, high)))
    ]

-- the same of a range, and of the first slots after that
full_both : (g : Settings) (s t : State) (now w slot n m : ℕ) (es fs : List Entry) → ((k : ℕ) → uses_at t w k ≡ uses_at s w k) → LegalFrom g t (es ++ fs)
    → AreTaken 0 w now s slot n es → AreTaken 0 w now s 0 m fs → (k : ℕ) → ((slot ≤ k) × (k < slot + n)) ⊎ (k < m)
    → SlotFull t.status now w k (uses_at t w k)
full_both g s t now w slot zero m es fs same legal taken more k (inl within) = absurd (omega (arith, within.0, within.1))
full_both g s t now w slot zero m es fs same legal taken more k (inr low) =
    full_from g s t now w 0 m fs same (subst (λ (xs : List Entry). LegalFrom g t (xs ++ fs)) taken legal) more k (omega arith) (omega (arith, low))
full_both g s t now w slot (suc n) m es fs same legal taken more k is =
    let found : Option Status = taken.0 in
    let e : Entry = probe_entry (Caller 0) w slot found in
    let legal_e : LegalFrom g t (e ∷ (taken.1 ++ fs)) = subst (λ (xs : List Entry). LegalFrom g t (xs ++ fs)) taken.2 legal in
    let t' : State = next g t e in
    let uses : (j : ℕ) → uses_at t' w j ≡ uses_at t w j = λ j. same_uses (has_actor e (Wheel w)) (uses_at t w j) in
    elim is [
      | inl within ↦ elim (cases_eq k slot) [
        | inl here ↦
            full_from g s t now w slot 1 (e ∷ []) same (legal_e.0, tt)
            (found, [], refl, taken.3, refl) k (omega (arith, here)) (omega (arith, here))
        | inr not ↦
            subst (SlotFull t.status now w k) (uses k)
            (full_both g s t' now w (suc slot) n m taken.1 fs (λ j. uses j ∙ same j) legal_e.1 taken.4 more k
            (inl (omega (arith, within.0, not), omega (arith, within.1))))
      ]
      | inr low ↦
          subst (SlotFull t.status now w k) (uses k)
          (full_both g s t' now w (suc slot) n m taken.1 fs (λ j. uses j ∙ same j) legal_e.1 taken.4 more k (inr low))
    ]

-- the same of a round
pub full_round : (g : Settings) (s t : State) (now w : ℕ) (round : Round g.slots g.looks) (es : List Entry) → ((k : ℕ) → uses_at t w k ≡ uses_at s w k)
    → LegalFrom g t es → IsRoundTaken 0 w now s round es → (k : ℕ) → IsInRound round k → SlotFull t.status now w k (uses_at t w k)
full_round g s t now w round es same legal taken k within =
    full_both g s t now w round.from round.ahead round.behind taken.first taken.second same
    (subst (LegalFrom g t) taken.entries legal) taken.onward taken.around k within
