-- How one more legal entry changes the number of a wheel's timers whose status passes a test.

use Rattle.std.proofs.Common.{◌≡◌, ◌≢◌, ℕ, ◌+◌, Bool, true, false, cond, nat_eq, List, [], ◌∷◌, ◌++◌, All, get_or, Option, Some, None, refl, sym, ap, subst, ◌∙◌, arith}
use Rattle.std.proofs.{Math.Bool.or-true, lemmas.List.Elements.{All-weaker, Contains-get_or}}
use Rattle.ert_defs.proofs.{ExpiredLists.{made, kept_after}, ExpiredTimers.{cond_same, same_timer-false}, Rows.{IsRow, AreRows, rows_hold}, Runs.carry, Settlings.row_was_armed, Standing.all_stand}
use Rattle.ert_defs.specs.{Actors.{has_actor, is_with, same_actor}, Legal.{Can, Legal}, Milliseconds.deadline_of, States.{State, uses_at, next, state}, Timers.{Row, Stands, deadline_told, row_from}, declared.entry.Actor.Actor}
use Rattle.ert_defs.specs.{declared.entry.Actor.TheVariants.Wheel, declared.entry.Entry.Entry, declared.entry.Event.Event, declared.entry.Event.TheVariants.{Arm, Cancel, Expire, Orphan, Deliver, Drop}, declared.settings.Settings.Settings}
use Rattle.ert_defs.specs.{declared.timer.Start.Start, declared.timer.Status.Status, declared.timer.Status.TheVariants.{Armed, Expired, Delivered, Cancelled, Orphaned, Dropped}, declared.timer.TimerRef.TimerRef}
use Rattle.ert_laws.proofs.{Counted.{one_if, one_in, Gives, count_armed, count_given, count_same, gives_stay, given_own}, TimerLives.moved_next}
use Rattle.ert_laws.specs.{Counts.count_of, Lives.status_before}

-- how many timers of a wheel an event gives a status that passes a test
abbrev pub come : (Option Status → Bool) → ℕ → Event → ℕ
come test w (Arm timer start) = one_in (test (Some Armed)) (nat_eq timer.wheel w)
come test w (Cancel timer (Some left)) = one_in (test (Some Cancelled)) (nat_eq timer.wheel w)
come test w (Expire timer) = one_in (test (Some Expired)) (nat_eq timer.wheel w)
come test w (Orphan timer) = one_in (test (Some Orphaned)) (nat_eq timer.wheel w)
come test w (Deliver timer) = one_in (test (Some Delivered)) (nat_eq timer.wheel w)
come test w (Drop timer) = one_in (test (Some Dropped)) (nat_eq timer.wheel w)
come test w _ = 0

-- and takes one from
abbrev pub gone : (Option Status → Bool) → ℕ → Event → ℕ
gone test w (Cancel timer (Some left)) = one_in (test (Some Armed)) (nat_eq timer.wheel w)
gone test w (Expire timer) = one_in (test (Some Armed)) (nat_eq timer.wheel w)
gone test w (Orphan timer) = one_in (test (Some Armed)) (nat_eq timer.wheel w)
gone test w (Deliver timer) = one_in (test (Some Expired)) (nat_eq timer.wheel w)
gone test w (Drop timer) = one_in (test (Some Expired)) (nat_eq timer.wheel w)
gone test w _ = 0

-- so many timers of a wheel pass a test
abbrev pub counted : (Option Status → Bool) → ℕ → State → ℕ
counted test w s = count_of test s.status (s.rows w)

-- one timer is given a status, and the rows stay
given_step : (g : Settings) (h : List Entry) (s : State) (w : ℕ) (test : Option Status → Bool) (t : TimerRef) (to : Status) → Legal g h
    → status_before to ≢ None → Gives (state g h).status s.status t to → s.rows w ≡ (state g h).rows w
    → counted test w s + one_in (test (status_before to)) (nat_eq t.wheel w) ≡ counted test w (state g h) + one_in (test (Some to)) (nat_eq t.wheel w)
given_step g h s w test t to legal was gives same =
    let old : State = state g h in
    let are : AreRows w (uses_at old w) (old.rows w) = rows_hold g h w legal in
    let before : old.status t ≡ status_before to = (given_own old.status s.status t to gives).0 in
    let stands : Stands (old.rows t.wheel) t = all_stand g h legal t (λ none. was (sym before ∙ none)) in
    subst (λ rows. count_of test s.status rows + one_in (test (status_before to)) (nat_eq t.wheel w)
    ≡ count_of test old.status (old.rows w) + one_in (test (Some to)) (nat_eq t.wheel w)) (sym same)
    (count_given test old.status s.status t to w (old.rows w) gives are.apart
    (All-weaker (IsRow w (uses_at old w)) (λ row. row.timer.wheel ≡ w) (λ row is. is.wheel) (old.rows w) are.each)
    (λ own. subst (λ v. Stands (old.rows v) t) own stands))

-- nothing moves
quiet_step : (g : Settings) (h : List Entry) (s : State) (w : ℕ) (test : Option Status → Bool)
    → ((r : TimerRef) → s.status r ≡ (state g h).status r) → s.rows w ≡ (state g h).rows w
    → counted test w s + 0 ≡ counted test w (state g h) + 0
quiet_step g h s w test stay same =
    let old : State = state g h in
    let count : count_of test s.status (old.rows w) ≡ count_of test old.status (old.rows w) =
    count_same test old.status s.status (old.rows w) (λ k d lt. stay (get_or (old.rows w) k d).timer) in
    let rows : count_of test s.status (s.rows w) ≡ count_of test s.status (old.rows w) = ap (count_of test s.status) same in
    omega arith

-- a timer is armed that never was, and has a row of its own from then on
armed_rows : (test : Option Status → Bool) (status later : TimerRef → Option Status) (rows : List Row) (timer : TimerRef) (start : Start) (deadline : Option ℕ)
    → deadline ≢ None → Gives status later timer Armed → All (λ r. timer ≢ r.timer) rows
    → count_of test later (rows ++ row_from timer start deadline) + 0 ≡ count_of test status rows + one_if (test (Some Armed))
armed_rows test status later rows timer start None some_deadline gives others = absurd (some_deadline refl)
armed_rows test status later rows timer start (Some d) some_deadline gives others =
    let row : Row = record { timer = timer; deadline = deadline_told timer.generation d; dest = start.dest; msg = start.msg; kind = start.kind } in
    let count : count_of test later (rows ++ row ∷ []) ≡ count_of test status rows + one_if (test (Some Armed)) =
    count_armed test status later rows row (Some Armed) (gives_stay status later timer Armed gives) others (given_own status later timer Armed gives).1 in
    omega arith

armed_at : (test : Option Status → Bool) (status later : TimerRef → Option Status) (rows : List Row) (timer : TimerRef) (start : Start) (deadline : Option ℕ)
    (has own : Bool) → (own ≡ true → has ≡ true) → deadline ≢ None → Gives status later timer Armed → All (λ r. timer ≢ r.timer) rows
    → count_of test later (cond has (cond own (rows ++ row_from timer start deadline) rows) rows) + 0
    ≡ count_of test status rows + one_in (test (Some Armed)) own
armed_at test status later rows timer start deadline has true wheel some_deadline gives others =
    rw (wheel refl) (armed_rows test status later rows timer start deadline some_deadline gives others)
armed_at test status later rows timer start deadline has false wheel some_deadline gives others =
    let stay = gives_stay status later timer Armed gives in
    let count : count_of test later rows ≡ count_of test status rows =
    count_same test status later rows (λ k d lt. stay (get_or rows k d).timer (same_timer-false timer (get_or rows k d).timer (others k d lt))) in
    rw (cond_same has rows, cond_same {X = ℕ} (test (Some Armed)) 0) (omega arith)

-- an event with a wheel has it
has_own : (by : Actor) (with : Option Actor) (event : Event) (v w : ℕ) → with ≡ Some (Wheel v) → nat_eq v w ≡ true
    → has_actor (made by with event) (Wheel w) ≡ true
has_own by with event v w is own =
    let has : is_with with (Wheel w) ≡ true = carry (λ (x : Option Actor). is_with x (Wheel w) ≡ true) is own in
    rw has (or-true (same_actor by (Wheel w)))

arm_step : (g : Settings) (h : List Entry) (by : Actor) (with : Option Actor) (timer : TimerRef) (start : Start) (w : ℕ) (test : Option Status → Bool)
    → Legal g h → Can g (state g h) (made by with (Arm timer start)) → Gives (state g h).status (next g (state g h) (made by with (Arm timer start))).status timer Armed
    → counted test w (next g (state g h) (made by with (Arm timer start))) + 0
    ≡ counted test w (state g h) + one_in (test (Some Armed)) (nat_eq timer.wheel w)
arm_step g h by with timer start w test legal can gives =
    let s : State = state g h in
    let e : Entry = made by with (Arm timer start) in
    let first : s.status timer ≡ None = (given_own s.status (next g s e).status timer Armed gives).0 in
    armed_at test s.status (next g s e).status (s.rows w) timer start (deadline_of g start (s.looked by))
    (has_actor e (Wheel w)) (nat_eq timer.wheel w) (has_own by with (Arm timer start) timer.wheel w can.keeps.1) (λ none. (let no : Some can.known.wanted ≡ None = sym can.known.due ∙ none in cc)) gives
    (λ k d lt same.
    row_was_armed g h w (get_or (s.rows w) k d) legal (Contains-get_or (s.rows w) k d lt)
    (subst (λ (t : TimerRef). s.status t ≡ None) same first))

-- one more entry brings so many timers to a test, and takes so many from it
pub count_step : (g : Settings) (h : List Entry) (by : Actor) (with : Option Actor) (event : Event) (w : ℕ) (test : Option Status → Bool)
    → Legal g h → Can g (state g h) (made by with event)
    → counted test w (next g (state g h) (made by with event)) + gone test w event ≡ counted test w (state g h) + come test w event
count_step g h by with (Arm timer start) w test legal can =
    arm_step g h by with timer start w test legal can
    (λ r. moved_next g (state g h) (made by with (Arm timer start)) r (kept_after g h legal) (all_stand g h legal) can)
count_step g h by with (Cancel timer (Some left)) w test legal can =
    let e : Entry = made by with (Cancel timer (Some left)) in
    given_step g h (next g (state g h) e) w test timer Cancelled legal (λ none. cc)
    (λ r. moved_next g (state g h) e r (kept_after g h legal) (all_stand g h legal) can)
    (cond_same (has_actor e (Wheel w)) ((state g h).rows w))
count_step g h by with (Expire timer) w test legal can =
    let e : Entry = made by with (Expire timer) in
    given_step g h (next g (state g h) e) w test timer Expired legal (λ none. cc)
    (λ r. moved_next g (state g h) e r (kept_after g h legal) (all_stand g h legal) can)
    (cond_same (has_actor e (Wheel w)) ((state g h).rows w))
count_step g h by with (Orphan timer) w test legal can =
    let e : Entry = made by with (Orphan timer) in
    given_step g h (next g (state g h) e) w test timer Orphaned legal (λ none. cc)
    (λ r. moved_next g (state g h) e r (kept_after g h legal) (all_stand g h legal) can)
    (cond_same (has_actor e (Wheel w)) ((state g h).rows w))
count_step g h by with (Deliver timer) w test legal can =
    let e : Entry = made by with (Deliver timer) in
    given_step g h (next g (state g h) e) w test timer Delivered legal (λ none. cc)
    (λ r. moved_next g (state g h) e r (kept_after g h legal) (all_stand g h legal) can)
    (cond_same (has_actor e (Wheel w)) ((state g h).rows w))
count_step g h by with (Drop timer) w test legal can =
    let e : Entry = made by with (Drop timer) in
    given_step g h (next g (state g h) e) w test timer Dropped legal (λ none. cc)
    (λ r. moved_next g (state g h) e r (kept_after g h legal) (all_stand g h legal) can)
    (cond_same (has_actor e (Wheel w)) ((state g h).rows w))
count_step g h by with event w test legal can =
    let e : Entry = made by with event in
    quiet_step g h (next g (state g h) e) w test
    (λ r. moved_next g (state g h) e r (kept_after g h legal) (all_stand g h legal) can)
    (cond_same (has_actor e (Wheel w)) ((state g h).rows w))
