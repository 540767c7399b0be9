-- What the calls of a service leave settled: the place of an entry of a call in its piece, and what is known
-- there.

use Rattle.std.proofs.Common.{◌≡◌, ◌≢◌, ⊎_elim, ℕ, zero, suc, ◌<◌, ◌≤◌, ℤ, Bool, true, false, cond, List, [], ◌∷◌, ◌++◌, length, filter, slice_index_or, Contains, Option, Some, None, Result, Ok, Err, refl, sym, ap, subst, ◌∙◌, arith, append_assoc, append-nil, eq-eqb}
use Rattle.std.specs.Prelude.{nat_eq, nat_le, IfOk}
use Rattle.std.proofs.lemmas.{Bool.{le-leb, true_from_ne_false}, List.Elements.Contains-append_left}
use Rattle.ert_effects.proofs.{Growing.filter_within, Swept.exits_settle_timers, TurnEnds.turns_end}
use Rattle.ert_effects.specs.{Chains.{AdvancesWheel, Exits}, TimerCalls.{Starts, Closes, IsMissed}, WheelCalls.expiry_entries, Ways.{Whole, Grows, beside}, declared.answers.StartErr.StartErr}
use Rattle.ert_defs.specs.{Actors.{has_actor, IsFree}, Entries.{is_ours, look_entry, arm_entry, mark_entry, probe_entry, orphan_entry, advanced_entry}, Laws.has_settled, Legal.{Legal, Can, AllSettled}, Milliseconds.{natural, down}}
use Rattle.ert_defs.specs.{Milliseconds.deadline_of, States.{State, uses_at, opening, next, run, state}, Timers.{Row, row_from, rows_after, timer_at}, declared.entry.Actor.Actor, declared.entry.Actor.TheVariants.{Wheel, Sched, Caller}}
use Rattle.ert_defs.specs.{declared.entry.Entry.Entry, declared.entry.Event.Event, declared.entry.Event.TheVariants.Arm, declared.memory.NoMemory.NoMemory, declared.settings.Settings.Settings, declared.timer.Start.Start}
use Rattle.ert_defs.specs.{declared.timer.Status.Status, declared.timer.Status.TheVariants.Armed, declared.timer.TimerRef.TimerRef}
use Rattle.ert_defs.proofs.{Runs.{state-append, legal_first, legal_then, rows_stay, last_stays, exit_stays}, Settlings.{rows_stay_settled, settled_timers_stay}, ExpiredTimers.same_timer_self, Slots.ordered, Uses.{Use, before_self}}
use Rattle.ert_service.specs.Settled.{LawOfSettledByAdvance, LawOfSettledByExit, LawOfSettledByStart, LawOfNoneWaiting, NoneDue, NoneFor, NoneWaits, WasSettled}
use Rattle.ert_world.proofs.Places.{Place, place}
use Rattle.ert_table.proofs.{Holders.or_left, OneStep.legal_by}
use Rattle.ert_table.specs.{Desks.front_of, declared.desk.Pass.Pass}
use native.Mathlib.Bridge.{le_prop}

-- the history up to such a place in what comes last of a piece, and what comes from it on
at_place : (f m b d after first : List Entry) (x : Entry) (last : List Entry) → m ≡ b ++ d → d ≡ first ++ (x ∷ last)
    → f ++ (m ++ after) ≡ ((f ++ b) ++ first) ++ (x ∷ (last ++ after))
at_place f m b d after first x last parted more =
    let shape : f ++ ((b ++ (first ++ (x ∷ last))) ++ after) ≡ ((f ++ b) ++ first) ++ (x ∷ (last ++ after)) = simp append_assoc in
    ap (λ l. f ++ (l ++ after)) (parted ∙ ap (λ l. b ++ l) more) ∙ shape

-- an entry of a legal history can come where it does
can_at : (g : Settings) (p : List Entry) (x : Entry) (later : List Entry) → Legal g (p ++ (x ∷ later)) → Can g (state g p) x
can_at g p x later legal = (legal_then g (opening g) p (x ∷ later) legal).0

-- where what passes the test of the wheel's actor and another has no entry of the wheel, nothing has
free_of : (w : ℕ) (a : Actor) (m es : List Entry) → filter (is_ours (Wheel w ∷ (a ∷ []))) m ≡ es → IsFree es (Wheel w) → IsFree m (Wheel w)
free_of w a m es is free =
    sym (filter_within (λ e. has_actor e (Wheel w)) (is_ours (Wheel w ∷ (a ∷ []))) (λ e own. or_left (has_actor e (Wheel w)) (is_ours (a ∷ []) e) own) m)
    ∙ (ap (λ l. filter (λ e. has_actor e (Wheel w)) l) is ∙ free)

cond_one : {X : Type 0} (b : Bool) (x : X) → cond b x x ≡ x
cond_one true x = refl
cond_one false x = refl

-- of rows that are settled up to a time, one that is due by then isn't armed
settled_at : (status : TimerRef → Option Status) (to : ℕ) (rows : List Row) (row : Row) (k : ℕ) → AllSettled status (λ d. nat_le d to) rows
    → k < length rows → slice_index_or rows k row ≡ row → row.deadline ≤ to → status row.timer ≢ Some Armed
settled_at status to [] row k settled low is due = absurd (omega arith)
settled_at status to (r ∷ rows) row zero settled low is due =
    subst (λ (x : Row). status x.timer ≢ Some Armed) is
    (settled.0 (le-leb r.deadline to (subst (λ (x : Row). x.deadline ≤ to) (sym is) due)))
settled_at status to (r ∷ rows) row (suc k) settled low is due = settled_at status to rows row k settled.1 (omega arith) is due

-- what was settled at a place is so after all that follows
pub due_settled : (g : Settings) (a : Actor) (w to expired : ℕ) (row : Row) (f m after : List Entry) → Legal g (f ++ (m ++ after))
    → AdvancesWheel g (beside g a) w (Ok (to, expired)) f m → Contains ((state g (f ++ m)).rows w) row → row.deadline ≤ to
    → (state g (f ++ (m ++ after))).status row.timer ≢ Some Armed
due_settled g a w to expired row f m after legal step among due =
    let answer = step.allowed in
    let e = advanced_entry w to in
    let spot = place (is_ours (Wheel w ∷ (a ∷ []))) step.during (look_entry (Sched w) answer.now ∷ expiry_entries w answer.tries) e [] (step.whole ∙ answer.entries) in
    let p = (f ++ step.before) ++ spot.first in
    let there : f ++ (m ++ after) ≡ p ++ (e ∷ (spot.last ++ after)) = at_place f m step.before step.during after spot.first e spot.last step.parted spot.parted in
    let ends : f ++ (m ++ []) ≡ p ++ (e ∷ (spot.last ++ [])) = at_place f m step.before step.during [] spot.first e spot.last step.parted spot.parted in
    let at_end : f ++ m ≡ p ++ (e ∷ spot.last) = simp append-nil at ends in
    let here = subst (Legal g) there legal in
    let can = can_at g p e (spot.last ++ after) here in
    let still : (run g (next g (state g p) e) spot.last).rows w ≡ (next g (state g p) e).rows w =
    rows_stay g w (next g (state g p) e) spot.last (free_of w a spot.last [] spot.last_is refl) in
    let same : (state g (f ++ m)).rows w ≡ (state g p).rows w =
    ap (λ l. (state g l).rows w) at_end ∙ (ap (λ (s : State). s.rows w) (state-append g p (e ∷ spot.last))
    ∙ (still ∙ cond_one (has_actor e (Wheel w)) ((state g p).rows w))) in
    let stands = subst (λ rows. Contains rows row) same among in
    subst (λ l. (state g l).status row.timer ≢ Some Armed) (sym there)
    (rows_stay_settled g p (e ∷ (spot.last ++ after)) w row here stands
    (settled_at (state g p).status to ((state g p).rows w) row stands.0 can.known.1 stands.1 stands.2 due))

-- what was started and isn't armed has settled
not_armed_settled : (x : Option Status) → x ≢ None → x ≢ Some Armed → has_settled x ≡ true
not_armed_settled None some other = absurd (some refl)
not_armed_settled (Some Armed) some other = absurd (other refl)
not_armed_settled (Some _) some other = refl

-- a timer that was cancelled for the exit of its destination is settled
orphan_settles : (g : Settings) (s : State) (by : ℕ) (timer : TimerRef) → s.status timer ≡ Some Armed
    → has_settled ((next g s (orphan_entry by timer.wheel timer)).status timer) ≡ true
orphan_settles g s by timer armed = rw (same_timer_self timer, armed) refl

-- after an arming its slot's last generation is the timer's
armed_last : (g : Settings) (s : State) (by : ℕ) (timer : TimerRef) (start : Start)
    → (next g s (arm_entry by timer start)).last timer.wheel timer.slot ≡ timer.generation
armed_last g s by timer start = rw (eq-eqb timer.wheel timer.wheel refl, eq-eqb timer.slot timer.slot refl) refl

-- a start whose destination had exited ends with its timer settled: it is cancelled, or was found settled
pub start_settled : (g : Settings) (a : Actor) (by wheel : ℕ) (start : Start) (timer : TimerRef) (f m after : List Entry) → Legal g (f ++ (m ++ after))
    → (step : Whole g a (Wheel wheel ∷ []) (Starts g by wheel start (Ok timer)) f m) → step.allowed.was ≡ true
    → has_settled ((state g (f ++ (m ++ after))).status timer) ≡ true
start_settled g a by wheel start timer f m after legal step was =
    ⊎_elim orphaned missed (subst (λ b. Closes b by timer step.allowed.closing) was step.allowed.closes)
  where
    test : Entry → Bool
    test = is_ours (Wheel wheel ∷ (a ∷ []))

    arm : Entry
    arm = arm_entry by timer start

    mark : Entry
    mark = mark_entry (Caller by) start.dest false step.allowed.was

    spot : Place test step.during (look_entry (Caller by) step.allowed.now ∷ step.allowed.probes) arm (mark ∷ step.allowed.closing)
    spot = place test step.during (look_entry (Caller by) step.allowed.now ∷ step.allowed.probes) arm (mark ∷ step.allowed.closing)
        (step.whole ∙ step.allowed.entries)

    p : List Entry
    p = (f ++ step.before) ++ spot.first

    there : f ++ (m ++ after) ≡ p ++ (arm ∷ (spot.last ++ after))
    there = at_place f m step.before step.during after spot.first arm spot.last step.parted spot.parted

    here : Legal g (p ++ (arm ∷ (spot.last ++ after)))
    here = subst (Legal g) there legal

    -- the last entry of the call, and the history before it
    closing : (e : Entry) → step.allowed.closing ≡ e ∷ [] → Place test spot.last (mark ∷ []) e []
    closing e is = place test spot.last (mark ∷ []) e [] (spot.last_is ∙ ap (λ l. mark ∷ l) is)

    on : (e : Entry) (at : Place test spot.last (mark ∷ []) e []) → p ++ (arm ∷ (spot.last ++ after)) ≡ (p ++ (arm ∷ at.first)) ++ (e ∷ (at.last ++ after))
    on e at =
        let shape : p ++ (arm ∷ ((at.first ++ (e ∷ at.last)) ++ after)) ≡ (p ++ (arm ∷ at.first)) ++ (e ∷ (at.last ++ after)) = simp append_assoc in
        ap (λ l. p ++ (arm ∷ (l ++ after))) at.parted ∙ shape

    orphaned : step.allowed.closing ≡ orphan_entry by timer.wheel timer ∷ [] → has_settled ((state g (f ++ (m ++ after))).status timer) ≡ true
    orphaned is =
        let e = orphan_entry by timer.wheel timer in
        let at = closing e is in
        let q = p ++ (arm ∷ at.first) in
        let rest = at.last ++ after in
        let legal_q = subst (Legal g) (on e at) here in
        let can = can_at g q e rest legal_q in
        let one : q ++ (e ∷ rest) ≡ (q ++ e ∷ []) ++ rest = sym (append_assoc q (e ∷ []) rest) in
        let settled : has_settled ((state g (q ++ e ∷ [])).status timer) ≡ true =
        subst (λ (s : State). has_settled (s.status timer) ≡ true) (sym (state-append g q (e ∷ []))) (orphan_settles g (state g q) by timer can.found) in
        subst (λ l. has_settled ((state g l).status timer) ≡ true) (sym (there ∙ (on e at ∙ one)))
        (settled_timers_stay g (q ++ e ∷ []) rest timer (subst (Legal g) one legal_q) settled)

    missed : IsMissed (Caller by) timer step.allowed.closing → has_settled ((state g (f ++ (m ++ after))).status timer) ≡ true
    missed miss =
        let e = probe_entry (Caller by) timer.wheel timer.slot miss.found in
        let at = closing e miss.entries in
        let q = p ++ (arm ∷ at.first) in
        let rest = at.last ++ after in
        let legal_q = subst (Legal g) (on e at) here in
        let can = can_at g q e rest legal_q in
        let armed = (can_at g p arm (spot.last ++ after) here).known in
        let free : IsFree at.first (Wheel timer.wheel) = subst (λ w. IsFree at.first (Wheel w)) (sym step.allowed.on_wheel)
        (free_of wheel a at.first (mark ∷ []) at.first_is refl) in
        let last : (state g q).last timer.wheel timer.slot ≡ timer.generation =
        ap (λ (s : State). s.last timer.wheel timer.slot) (state-append g p (arm ∷ at.first))
        ∙ (last_stays g timer.wheel timer.slot (next g (state g p) arm) at.first free ∙ armed_last g (state g p) by timer start) in
        let legal_at_q = legal_first g (opening g) q (e ∷ rest) legal_q in
        let u : Use = record { now = natural (down g ((state g p).looked (Caller by))); wanted = armed.wanted; generation = timer.generation } in
        let order = ordered g p (legal_first g (opening g) p (arm ∷ (spot.last ++ after)) here) timer.wheel timer.slot in
        let once : 1 ≤ timer.generation = (before_self (uses_at (state g p) timer.wheel timer.slot) u order.sound armed.next_use).low in
        let used : (state g q).status timer ≢ None =
        subst (λ n. (state g q).status (timer_at timer.wheel timer.slot n) ≢ None) last
        ((ordered g q legal_at_q timer.wheel timer.slot).used (omega (arith, once, last))) in
        let found : miss.found ≡ (state g q).status timer =
        can.found ∙ ap (λ n. (state g q).status (timer_at timer.wheel timer.slot n)) last in
        let settled = not_armed_settled ((state g q).status timer) used (λ is. miss.settled (found ∙ is)) in
        subst (λ l. has_settled ((state g l).status timer) ≡ true) (sym (there ∙ on e at))
        (settled_timers_stay g q (e ∷ rest) timer legal_q settled)

-- a history that grew by a piece, with what comes after
grown_on : (f h m after : List Entry) → h ≡ f ++ m → h ++ after ≡ f ++ (m ++ after)
grown_on f h m after grown = ap (λ l. l ++ after) grown ∙ append_assoc f m after

pub advances_settle : LawOfSettledByAdvance
advances_settle g a wheel to expired row f h after legal call among due =
    let on = grown_on f h call.piece after call.grown in
    subst (λ l. (state g l).status row.timer ≢ Some Armed) (sym on)
    (due_settled g a wheel to expired row f call.piece after (subst (Legal g) on legal) call.made
    (subst (λ l. Contains ((state g l).rows wheel) row) call.grown among) due)

pub exits_settle : LawOfSettledByExit
exits_settle g a by process wheel row f h after legal call low among dest =
    let on = grown_on f h call.piece after call.grown in
    subst (λ l. (state g l).status row.timer ≢ Some Armed) (sym on)
    ((exits_settle_timers g).1 a by process wheel row f call.piece after (subst (Legal g) on legal) call.made low among dest)

pub starts_settle : LawOfSettledByStart
starts_settle g a by wheel start timer f h after legal call was =
    let on = grown_on f h call.piece after call.grown in
    subst (λ l. WasSettled (state g l) timer) (sym on)
    (start_settled g a by wheel start timer f call.piece after (subst (Legal g) on legal) call.made was)

pub turns_leave_none : LawOfNoneWaiting
turns_leave_none g a wheel t f h call =
    subst (λ l. NoneWaits (state g l) wheel) (sym call.grown) ((turns_end g).1 a wheel t f call.piece call.made).1

-- what is refuted of a legal history is refuted of the front of a pass
pub refute_by : (g : Settings) (p : Pass) → p.seat.me.0.settings ≡ Some g → (Legal g (front_of p) → ⊥) → ⊥
refute_by g p named refutes =
    let no : 1 ≤ 0 = legal_by {P = 1 ≤ 0} g p.seat.me.0.settings (front_of p) le_prop named p.legal (λ legal. absurd (refutes legal)) in
    absurd (omega arith)

-- after an advance none is armed that is due
pub due_in : (g : Settings) (a : Actor) (wheel : ℕ) (answer : Result (ℕ × ℕ) NoMemory) (f : List Entry) (p : Pass) → p.seat.me.0.settings ≡ Some g
    → Grows (AdvancesWheel g (beside g a) wheel answer) f (front_of p) → IfOk answer (λ x. NoneDue (state g (front_of p)) wheel x.0)
due_in g a wheel (Ok (to, expired)) f p named call = λ row among due armed.
    refute_by g p named (λ legal.
    advances_settle g a wheel to expired row f (front_of p) [] (subst (Legal g) (sym (append-nil (front_of p))) legal) call among due
    (subst (λ l. (state g l).status row.timer ≡ Some Armed) (sym (append-nil (front_of p))) armed))
due_in g a wheel (Err e) f p named call = tt

-- the rows of a wheel stay
row_after : (g : Settings) (look : ℤ) (w : ℕ) (rows : List Row) (event : Event) (row : Row) → Contains rows row → Contains (rows_after g look w rows event) row
row_after g look w rows (Arm timer start) row among = at (nat_eq timer.wheel w)
  where
    at : (b : Bool) → Contains (cond b (rows ++ row_from timer start (deadline_of g start look)) rows) row
    at true = Contains-append_left rows (row_from timer start (deadline_of g start look)) row among
    at false = among
row_after g look w rows _ row among = among

row_kept : (g : Settings) (w : ℕ) (s : State) (m : List Entry) (row : Row) → Contains (s.rows w) row → Contains ((run g s m).rows w) row
row_kept g w s [] row among = among
row_kept g w s (e ∷ m) row among = row_kept g w (next g s e) m row (at (has_actor e (Wheel w)))
  where
    at : (b : Bool) → Contains (cond b (rows_after g (s.looked e.by) w (s.rows w) e.event) (s.rows w)) row
    at true = row_after g (s.looked e.by) w (s.rows w) e.event row among
    at false = among

-- after an exit no timer for the process is armed that the caller knew
pub swept_in : (g : Settings) (a : Actor) (by process : ℕ) (f : List Entry) (p : Pass) → p.seat.me.0.settings ≡ Some g
    → Grows (Exits g (beside g a) by process true) f (front_of p) → (wheel : ℕ) → wheel < g.schedulers
    → NoneFor (state g f) (state g (front_of p)) wheel process
swept_in g a by process f p named call wheel low = λ row among dest armed.
    refute_by g p named (λ legal.
    exits_settle g a by process wheel row f (front_of p) [] (subst (Legal g) (sym (append-nil (front_of p))) legal) call low
    (subst (λ (s : State). Contains (s.rows wheel) row) (sym (state-append g f call.made.before)) (row_kept g wheel (state g f) call.made.before row among)) dest
    (subst (λ l. (state g l).status row.timer ≡ Some Armed) (sym (append-nil (front_of p))) armed))

-- a start for a process that the caller knew to have exited finds that
start_was : (g : Settings) (a : Actor) (by wheel : ℕ) (start : Start) (timer : TimerRef) (f m : List Entry) → Legal g (f ++ m)
    → (step : Whole g a (Wheel wheel ∷ []) (Starts g by wheel start (Ok timer)) f m) → (state g f).exited start.dest ≡ true → step.allowed.was ≡ true
start_was g a by wheel start timer f m legal step exited =
    let mark = mark_entry (Caller by) start.dest false step.allowed.was in
    let arm = arm_entry by timer start in
    let before = look_entry (Caller by) step.allowed.now ∷ (step.allowed.probes ++ arm ∷ []) in
    let shape : look_entry (Caller by) step.allowed.now ∷ (step.allowed.probes ++ (arm ∷ (mark ∷ step.allowed.closing))) ≡ before ++ (mark ∷ step.allowed.closing) = simp append_assoc in
    let spot = place (is_ours (Wheel wheel ∷ (a ∷ []))) step.during before mark step.allowed.closing (step.whole ∙ (step.allowed.entries ∙ shape)) in
    let q = (f ++ step.before) ++ spot.first in
    let ends : f ++ (m ++ []) ≡ q ++ (mark ∷ (spot.last ++ [])) = at_place f m step.before step.during [] spot.first mark spot.last step.parted spot.parted in
    let whole : f ++ m ≡ q ++ (mark ∷ spot.last) = simp append-nil at ends in
    let can = can_at g q mark spot.last (subst (Legal g) whole legal) in
    let longer : q ≡ f ++ (step.before ++ spot.first) = append_assoc f step.before spot.first in
    let still : (state g q).exited start.dest ≡ true =
    subst (λ (s : State). s.exited start.dest ≡ true) (sym (ap (state g) longer ∙ state-append g f (step.before ++ spot.first)))
    (exit_stays g start.dest (state g f) (step.before ++ spot.first) exited) in
    can.found ∙ still

-- so its timer is settled at the end
pub settled_in : (g : Settings) (a : Actor) (by wheel : ℕ) (start : Start) (answer : Result TimerRef StartErr) (f : List Entry) (p : Pass) → p.seat.me.0.settings ≡ Some g
    → (state g f).exited start.dest ≡ true → Grows (beside g a (Wheel wheel ∷ []) (Starts g by wheel start answer)) f (front_of p)
    → IfOk answer (λ timer. WasSettled (state g (front_of p)) timer)
settled_in g a by wheel start (Ok timer) f p named exited call =
    true_from_ne_false (has_settled ((state g (front_of p)).status timer)) (λ isnt.
    refute_by g p named (λ legal.
    let was = start_was g a by wheel start timer f call.piece (subst (Legal g) call.grown legal) call.made exited in
    let settled = starts_settle g a by wheel start timer f (front_of p) [] (subst (Legal g) (sym (append-nil (front_of p))) legal) call was in
    let here : WasSettled (state g (front_of p)) timer =
    subst (λ l. WasSettled (state g l) timer) (append-nil (front_of p)) settled in
    let clash : true ≡ false = sym here ∙ isnt in
    absurd cc))
settled_in g a by wheel start (Err e) f p named exited call = tt
