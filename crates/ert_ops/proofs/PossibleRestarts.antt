-- A look at the room of a wheel, and a restart, have an answer after each legal history.

use Rattle.std.proofs.Common.{◌≡◌, inl, inr, ℕ, zero, suc, ℤ, ◌+◌, ◌<◌, ◌≤◌, Bool, true, false, cond, nat_lt, min, List, [], ◌∷◌, ◌++◌, length, Option, Some, None, Ok, Err, refl, sym, ap, ◌∙◌, subst, arith, append-nil, eq-eqb}
use Rattle.std.proofs.lemmas.Bool.{cases_eq, Decides.nat_tests}
use Rattle.ert_defs.proofs.{ExpiredLists.taken_last, ExpiredTimers.{cond_same, same_timer_self}, Runs.{legal-append, run-append}}
use Rattle.ert_defs.specs.{Actors.same_actor, Entries.{look_entry, probe_entry, peek_entry, cancel_entry, arm_entry, mark_entry}, Legal.{Can, LegalFrom, left_by, left_of, names_timer}, Milliseconds.{natural, down, deadline_of}}
use Rattle.ert_defs.specs.{States.{State, uses_at, next, run}, Timers.{Row, Uses, turned, use_of, is_taken, row_of, same_timer, settled_as, timer_at}, declared.entry.Actor.TheVariants.Caller, declared.entry.Entry.Entry}
use Rattle.ert_defs.specs.{declared.settings.Settings.Settings, declared.timer.Start.Start, declared.timer.Status.Status, declared.timer.Status.TheVariants.{Armed, Cancelled}, declared.timer.TimerRef.TimerRef}
use Rattle.ert_effects.specs.{RestartCalls.{IsFullFor, NeedsSlot, RestartEnds, Restarts}, TimerCalls.{AreProbes, AreTaken}, RoomCalls.{ShowsRoom, TellsRoom, no_room, room_with, with_found}, declared.answers.RestartErr.TheVariants.BadArg}
use Rattle.ert_effects.specs.{declared.answers.RestartErr.TheVariants.{NotArmed, Full}, declared.answers.Room.Room}
use Rattle.ert_ops.proofs.{PossibleCalls.{can_look, slot_named}, PossibleStarts.{IsFreeSlot, IsUnfit, Search, found, nowhere, arm_in, first_round, last_of, probe_slots, search_slots}, Reached.{IsReached, milliseconds, reached_next}}
use Rattle.ert_ops.specs.Existence.{HasAnswer}

-- the room: each slot is looked at

record IsShown (g : Settings) (n w now : ℕ) (s z : State) (slot count : ℕ) (before : Room) : Type 0 where
  seen : Room
  entries : List Entry
  shows : ShowsRoom n w now s slot count before seen entries
  legal : LegalFrom g z entries
  undue : z.clock.due ≡ None → (run g z entries).clock.due ≡ None

room_slots : (g : Settings) (n w now : ℕ) (s : State) (slot count : ℕ) → n < g.callers → w < g.schedulers → slot + count ≤ g.slots → (before : Room) (z : State)
    → IsShown g n w now s z slot count before
room_slots g n w now s slot zero caller sched within before z = record { seen = before; entries = []; shows = (refl, refl); legal = tt; undue = λ idle. idle }
room_slots g n w now s slot (suc count) caller sched within before z =
    let status = z.status (last_of z w slot) in
    let probe : Entry = probe_entry (Caller n) w slot status in
    let more = room_slots g n w now s (suc slot) count caller sched (omega arith) (with_found s now w slot status before) (next g z probe) in
    record {
      seen = more.seen;
      entries = probe ∷ more.entries;
      shows = (status, more.entries, refl, more.shows);
      legal = (record { keeps = (caller, refl, record { wheel_high = sched; slot_high = omega arith }); known = tt; found = refl }, more.legal);
      undue = more.undue;
    }

pub possible_room : (g : Settings) (s : State) (n w : ℕ) → n < g.callers → w < g.schedulers → HasAnswer g s (TellsRoom g n w)
possible_room g s n w caller sched =
    let look : Entry = look_entry (Caller n) s.clock.now in
    let all = room_slots g n w (natural (down g s.clock.now)) s 0 g.slots caller sched (omega arith) no_room (next g s look) in (
      room_with (length (s.rows w)) all.seen,
      record {
        entries = look ∷ all.entries;
        allowed = record { now = s.clock.now; probes = all.entries; seen = all.seen; shows = all.shows; told = refl; entries = refl };
        legal = (can_look g s (Caller n) caller, all.legal);
        undue = all.undue;
      },
    )

-- a restart

-- what was left of a timer that was armed
armed_left : (g : Settings) (look : ℤ) (x : Option Status) (row : Option Row) (n : ℕ) → left_by g look x row ≡ Some n → x ≡ Some Armed
armed_left g look (Some Armed) row n is = refl
armed_left g look None row n is = let clash : None ≡ Some n = is in absurd cc
armed_left g look (Some _) row n is = let clash : None ≡ Some n = is in absurd cc

-- a slot that is free stays so where a timer is cancelled
free_still : (b : Bool) (x : Option Status) → is_taken x ≡ false → is_taken (cond b (settled_as Cancelled x) x) ≡ false
free_still false x free = free
free_still true None free = refl
free_still true (Some Armed) free = refl
free_still true (Some _) free = free

taken_probes : (n w now : ℕ) (s : State) (slot count : ℕ) (es : List Entry) → AreTaken n w now s slot count es → AreProbes (Caller n) w es
taken_probes n w now s slot zero es taken = subst (AreProbes (Caller n) w) (sym taken) tt
taken_probes n w now s slot (suc count) es taken =
    subst (AreProbes (Caller n) w) (sym taken.2) (slot, taken.0, refl, taken_probes n w now s (suc slot) count taken.1 taken.4)

-- what a restart needs to know of its caller, its timer and its start
record IsWanted (g : Settings) (s : State) (n w : ℕ) (t : TimerRef) (start : Start) (wanted : ℕ) : Type 0 where
  reached : IsReached g s
  begun : (w k : ℕ) → s.since w k ≤ natural (down g s.clock.now)
  caller : n < g.callers
  sched : w < g.schedulers
  process : start.dest < g.processes
  due : deadline_of g start s.clock.now ≡ Some wanted
  named : names_timer g t ≡ true

abbrev looked_at : Settings → State → ℕ → State
looked_at g s n = next g s (look_entry (Caller n) s.clock.now)

-- the timer isn't armed, after these probes
not_armed : (g : Settings) (s : State) (n w : ℕ) (t : TimerRef) (start : Start) (wanted : ℕ) (probes : List Entry) → IsWanted g s n w t start wanted
    → AreProbes (Caller n) w probes → LegalFrom g (looked_at g s n) probes
    → (s.clock.due ≡ None → (run g (looked_at g s n) probes).clock.due ≡ None)
    → None ≡ left_of g (run g (looked_at g s n) probes) (Caller n) t → HasAnswer g s (Restarts g n w t start)
not_armed g s n w t start wanted probes is are legal undue left =
    let z : State = run g (looked_at g s n) probes in
    let peek : Entry = peek_entry (Caller n) t None in (
      Err NotArmed,
      record {
        entries = look_entry (Caller n) s.clock.now ∷ (probes ++ peek ∷ []);
        allowed = record {
          now = s.clock.now;
          probes = probes;
          end = peek ∷ [];
          accepted = λ none. let clash : Some wanted ≡ None = sym is.due ∙ none in cc;
          are_probes = are;
          ends = subst (λ (b : Bool). RestartEnds b n w t start (Err NotArmed) (peek ∷ [])) (sym is.named) (None, refl);
          full = tt;
          entries = refl;
        };
        legal = (
          can_look g s (Caller n) is.caller,
          legal-append g (looked_at g s n) probes (peek ∷ []) legal
              (record { keeps = (is.caller, refl, slot_named g t is.named); known = tt; found = left }, tt),
        );
        undue = λ idle. subst (λ (x : State). x.clock.due ≡ None) (sym (run-append g (looked_at g s n) probes (peek ∷ []))) (undue idle);
      },
    )

-- it is armed, and there is no slot for the next
no_slot : (g : Settings) (s : State) (n w : ℕ) (t : TimerRef) (start : Start) (wanted : ℕ) (probes : List Entry) (left : ℕ) → IsWanted g s n w t start wanted
    → AreProbes (Caller n) w probes → LegalFrom g (looked_at g s n) probes
    → (s.clock.due ≡ None → (run g (looked_at g s n) probes).clock.due ≡ None)
    → Some left ≡ left_of g (run g (looked_at g s n) probes) (Caller n) t
    → IsFullFor g n w t (natural (down g s.clock.now)) (Err Full) s probes → HasAnswer g s (Restarts g n w t start)
no_slot g s n w t start wanted probes left is are legal undue found_is full =
    let peek : Entry = peek_entry (Caller n) t (Some left) in (
      Err Full,
      record {
        entries = look_entry (Caller n) s.clock.now ∷ (probes ++ peek ∷ []);
        allowed = record {
          now = s.clock.now;
          probes = probes;
          end = peek ∷ [];
          accepted = λ none. let clash : Some wanted ≡ None = sym is.due ∙ none in cc;
          are_probes = are;
          ends = subst (λ (b : Bool). RestartEnds b n w t start (Err Full) (peek ∷ [])) (sym is.named) (left, refl);
          full = full;
          entries = refl;
        };
        legal = (
          can_look g s (Caller n) is.caller,
          legal-append g (looked_at g s n) probes (peek ∷ []) legal
              (record { keeps = (is.caller, refl, slot_named g t is.named); known = tt; found = found_is }, tt),
        );
        undue = λ idle. subst (λ (x : State). x.clock.due ≡ None) (sym (run-append g (looked_at g s n) probes (peek ∷ []))) (undue idle);
      },
    )

abbrev cancelled_at : Settings → State → ℕ → TimerRef → ℕ → State
cancelled_at g s n t left = next g (next g (looked_at g s n) (peek_entry (Caller n) t (Some left))) (cancel_entry (Caller n) t (Some left))

-- it is armed, and a slot is free for the next once it is cancelled
renewed : (g : Settings) (s : State) (n w k wanted left : ℕ) (t : TimerRef) (start : Start) → IsWanted g s n w t start wanted
    → Some left ≡ left_of g (looked_at g s n) (Caller n) t → length (s.rows w) < 9007199254740992 → k < g.slots
    → IsFreeSlot (cancelled_at g s n t left) w (natural (down g s.clock.now)) k → HasAnswer g s (Restarts g n w t start)
renewed g s n w k wanted left t start is found_is few slot free =
    let look : Entry = look_entry (Caller n) s.clock.now in
    let peek : Entry = peek_entry (Caller n) t (Some left) in
    let cancel : Entry = cancel_entry (Caller n) t (Some left) in
    let z : State = looked_at g s n in
    let p : State = next g z peek in
    let look_can : Can g s look = can_look g s (Caller n) is.caller in
    let peek_can : Can g z peek = record { keeps = (is.caller, refl, slot_named g t is.named); known = tt; found = found_is } in
    let same_look : p.looked (Caller n) ≡ z.looked (Caller n) = cond_same (same_actor (Caller n) (Caller n)) (z.looked (Caller n)) in
    let still : Some left ≡ left_of g p (Caller n) t = found_is ∙ ap (λ (x : ℤ). left_by g x (z.status t) (row_of (z.rows t.wheel) t)) (sym same_look) in
    let cancel_can : Can g p cancel = record { keeps = (is.caller, refl, slot_named g t is.named); known = tt; found = still } in
    let c : State = next g p cancel in
    let looked : c.looked (Caller n) ≡ s.clock.now =
    cond_same (same_actor (Caller n) (Caller n)) (p.looked (Caller n))
    ∙ (same_look ∙ ap (λ (b : Bool). cond b s.clock.now (s.looked (Caller n))) (eq-eqb n n refl)) in
    let reached_c : IsReached g c = reached_next g p cancel (reached_next g z peek (reached_next g s look is.reached look_can) peek_can) cancel_can in
    let arms = arm_in g c n w k wanted start s.clock.now reached_c looked (milliseconds g s is.reached).high is.caller is.sched is.process is.due few slot free in
    let end : List Entry = peek ∷ (cancel ∷ (arm_entry n arms.timer start ∷ (mark_entry (Caller n) start.dest false arms.was ∷ arms.closing))) in (
      Ok arms.timer,
      record {
        entries = look ∷ end;
        allowed = record {
          now = s.clock.now;
          probes = [];
          end = end;
          accepted = λ none. let clash : Some wanted ≡ None = sym is.due ∙ none in cc;
          are_probes = tt;
          ends = subst (λ (b : Bool). RestartEnds b n w t start (Ok arms.timer) end) (sym is.named)
              (record { left = left; was = arms.was; closing = arms.closing; on_wheel = arms.on_wheel; closes = arms.closes; entries = refl });
          full = tt;
          entries = refl;
        };
        legal = (look_can, (peek_can, (cancel_can, arms.legal)));
        undue = arms.undue;
      },
    )

-- by whether the timer is armed at the look
restart_in : (g : Settings) (s : State) (n w k wanted : ℕ) (t : TimerRef) (start : Start) → IsWanted g s n w t start wanted
    → length (s.rows w) < 9007199254740992 → k < g.slots
    → ((left : ℕ) → (looked_at g s n).status t ≡ Some Armed → IsFreeSlot (cancelled_at g s n t left) w (natural (down g s.clock.now)) k)
    → (found : Option ℕ) → found ≡ left_of g (looked_at g s n) (Caller n) t → HasAnswer g s (Restarts g n w t start)
restart_in g s n w k wanted t start is few slot free None left = not_armed g s n w t start wanted [] is tt tt (λ idle. idle) left
restart_in g s n w k wanted t start is few slot free (Some n_left) left =
    let z : State = looked_at g s n in
    renewed g s n w k wanted n_left t start is left few slot
    (free n_left (armed_left g (z.looked (Caller n)) (z.status t) (row_of (z.rows t.wheel) t) n_left (sym left)))

restart_out : (g : Settings) (s : State) (n w wanted : ℕ) (t : TimerRef) (start : Start) (probes : List Entry) → IsWanted g s n w t start wanted
    → AreProbes (Caller n) w probes → LegalFrom g (looked_at g s n) probes
    → (s.clock.due ≡ None → (run g (looked_at g s n) probes).clock.due ≡ None)
    → IsFullFor g n w t (natural (down g s.clock.now)) (Err Full) s probes
    → (found : Option ℕ) → found ≡ left_of g (run g (looked_at g s n) probes) (Caller n) t → HasAnswer g s (Restarts g n w t start)
restart_out g s n w wanted t start probes is are legal undue full None left = not_armed g s n w t start wanted probes is are legal undue left
restart_out g s n w wanted t start probes is are legal undue full (Some n_left) left = no_slot g s n w t start wanted probes n_left is are legal undue left full

-- no slot of the wheel is free: the timer's own serves, or another is needed

restart_full : (g : Settings) (s : State) (n w wanted : ℕ) (t : TimerRef) (start : Start) → IsWanted g s n w t start wanted
    → ((k : ℕ) → k < min g.slots g.looks → IsUnfit s w (natural (down g s.clock.now)) k) → NeedsSlot w t → HasAnswer g s (Restarts g n w t start)
unfolding first_round
restart_full g s n w wanted t start is unfit needs =
    let now : ℕ = natural (down g s.clock.now) in
    let probed = probe_slots g n w now s 0 (min g.slots g.looks) is.caller is.sched (omega arith) (λ k lt. unfit k (omega arith)) (looked_at g s n) (λ k. refl) in
    restart_out g s n w wanted t start probed.entries is (taken_probes n w now s 0 (min g.slots g.looks) probed.entries probed.taken) probed.legal probed.undue
    (inl (needs, (first_round g.slots g.looks, record { first = probed.entries; second = []; onward = probed.taken; around = refl; entries = sym (append-nil probed.entries) })))
    _ refl

own_free : (g : Settings) (s : State) (n : ℕ) (t : TimerRef) (left : ℕ) → IsReached g s → ((w k : ℕ) → s.since w k ≤ natural (down g s.clock.now))
    → nat_lt (use_of t.generation) 262143 ≡ true → s.status t ≡ Some Armed
    → IsFreeSlot (cancelled_at g s n t left) t.wheel (natural (down g s.clock.now)) t.slot
own_free g s n t left reached begun unspent armed =
    let last : t.generation ≡ s.last t.wheel t.slot = taken_last s t reached.kept.ordered (ap is_taken armed) in
    let c : State = cancelled_at g s n t left in
    let u : Uses = uses_at s t.wheel t.slot in
    let test : nat_lt (use_of u.last) 262143 ≡ true = ap (λ (x : ℕ). nat_lt (use_of x) 262143) (sym last) ∙ unspent in
    let stays : (turned u).since ≡ u.since = ap (λ (b : Bool). (cond b u (let x : Uses = record { last = 0; since = u.above; above = u.above } in x)).since) test in
    let le = begun t.wheel t.slot in
    record {
      free = ap (λ (x : ℕ). is_taken (c.status (timer_at t.wheel t.slot x))) (sym last)
          ∙ (ap (λ (b : Bool). is_taken (cond b (settled_as Cancelled (s.status t)) (s.status t))) (same_timer_self t)
          ∙ ap (λ (x : Option Status). is_taken (settled_as Cancelled x)) armed);
      rested = omega (arith, stays, le);
    }

restart_own : (g : Settings) (s : State) (n w wanted : ℕ) (t : TimerRef) (start : Start) → IsWanted g s n w t start wanted
    → length (s.rows w) < 9007199254740992 → ((k : ℕ) → k < min g.slots g.looks → IsUnfit s w (natural (down g s.clock.now)) k)
    → (b : Bool) → nat_lt (use_of t.generation) 262143 ≡ b → HasAnswer g s (Restarts g n w t start)
restart_own g s n w wanted t start is few unfit false spent = restart_full g s n w wanted t start is unfit (inr spent)
restart_own g s n w wanted t start is few unfit true unspent = elim (cases_eq t.wheel w) [
  | inl here ↦
      restart_in g s n w t.slot wanted t start is few (slot_named g t is.named).slot_high
      (λ left armed. subst (λ (v : ℕ). IsFreeSlot (cancelled_at g s n t left) v (natural (down g s.clock.now)) t.slot) here
      (own_free g s n t left is.reached is.begun unspent armed)) _ refl
  | inr other ↦ restart_full g s n w wanted t start is unfit (inl other)
]

restart_searched : (g : Settings) (s : State) (n w wanted : ℕ) (t : TimerRef) (start : Start) → IsWanted g s n w t start wanted
    → length (s.rows w) < 9007199254740992 → Search s w (natural (down g s.clock.now)) (min g.slots g.looks) → HasAnswer g s (Restarts g n w t start)
restart_searched g s n w wanted t start is few (found k lt free) =
    restart_in g s n w k wanted t start is few (omega (arith, lt))
    (λ left armed. record {
      free = free_still (same_timer t (last_of s w k)) (s.status (last_of s w k)) free.free;
      rested = free.rested;
    }) _ refl
restart_searched g s n w wanted t start is few (nowhere unfit) = restart_own g s n w wanted t start is few unfit _ refl

restart_counted : (g : Settings) (s : State) (n w wanted : ℕ) (t : TimerRef) (start : Start) → IsWanted g s n w t start wanted
    → length (s.rows w) ≤ 9007199254740992 → (b : Bool) → nat_lt (length (s.rows w)) 9007199254740992 ≡ b → HasAnswer g s (Restarts g n w t start)
restart_counted g s n w wanted t start is most true few =
    let lt : length (s.rows w) < 9007199254740992 = grind (arith, nat_tests) in
    restart_searched g s n w wanted t start is lt (search_slots s w (natural (down g s.clock.now)) (min g.slots g.looks))
restart_counted g s n w wanted t start is most false many =
    let le : 9007199254740992 ≤ length (s.rows w) = grind (arith, nat_tests) in
    let all : length (s.rows w) ≡ 9007199254740992 = omega arith in
    restart_out g s n w wanted t start [] is tt tt (λ idle. idle) (inr (all, refl)) _ refl

unnamed : (g : Settings) (s : State) (n w : ℕ) (t : TimerRef) (start : Start) (wanted : ℕ) → n < g.callers → deadline_of g start s.clock.now ≡ Some wanted
    → names_timer g t ≡ false → HasAnswer g s (Restarts g n w t start)
unnamed g s n w t start wanted caller due other = (
  Err NotArmed,
  record {
    entries = look_entry (Caller n) s.clock.now ∷ [];
    allowed = record {
      now = s.clock.now;
      probes = [];
      end = [];
      accepted = λ none. let clash : Some wanted ≡ None = sym due ∙ none in cc;
      are_probes = tt;
      ends = subst (λ (b : Bool). RestartEnds b n w t start (Err NotArmed) []) (sym other) (refl, refl);
      full = tt;
      entries = refl;
    };
    legal = (can_look g s (Caller n) caller, tt);
    undue = λ idle. idle;
  },
)

restart_by : (g : Settings) (s : State) (n w : ℕ) (t : TimerRef) (start : Start) → IsReached g s → ((w k : ℕ) → s.since w k ≤ natural (down g s.clock.now))
    → length (s.rows w) ≤ 9007199254740992 → n < g.callers → w < g.schedulers → start.dest < g.processes
    → (d : Option ℕ) (b : Bool) → deadline_of g start s.clock.now ≡ d → names_timer g t ≡ b → HasAnswer g s (Restarts g n w t start)
restart_by g s n w t start reached begun most caller sched process None b refused named = (
  Err BadArg,
  record {
    entries = look_entry (Caller n) s.clock.now ∷ [];
    allowed = record { now = s.clock.now; refused = refused; entries = refl };
    legal = (can_look g s (Caller n) caller, tt);
    undue = λ idle. idle;
  },
)
restart_by g s n w t start reached begun most caller sched process (Some wanted) false due other = unnamed g s n w t start wanted caller due other
restart_by g s n w t start reached begun most caller sched process (Some wanted) true due named =
    restart_counted g s n w wanted t start
    (record { reached = reached; begun = begun; caller = caller; sched = sched; process = process; due = due; named = named }) most _ refl

pub possible_restart : (g : Settings) (s : State) (n w : ℕ) (t : TimerRef) (start : Start) → IsReached g s → ((w k : ℕ) → s.since w k ≤ natural (down g s.clock.now))
    → length (s.rows w) ≤ 9007199254740992 → n < g.callers → w < g.schedulers → start.dest < g.processes → HasAnswer g s (Restarts g n w t start)
possible_restart g s n w t start reached begun most caller sched process = restart_by g s n w t start reached begun most caller sched process _ _ refl refl
