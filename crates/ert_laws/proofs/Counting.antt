-- How many timers of a wheel there are, and how many have which status, by the entries of a history.

use Rattle.std.proofs.Common.{◌≡◌, ◌≢◌, ℕ, ◌+◌, Bool, true, false, cond, ◌&&◌, nat_eq, List, [], ◌∷◌, ◌++◌, length, All, get_or, Option, Some, None, refl, ap, ◌∙◌, arith}
use Rattle.std.proofs.{Math.Bool.{and-false, and-true}, lemmas.List.Elements.{All-head, All-tail, Contains-get_or}, lemmas.List.Sums.sum_by_push}
use Rattle.ert_defs.proofs.{ExpiredLists.made, Settlings.row_was_armed}
use Rattle.ert_defs.specs.{Actors.{has_actor, same_actor, IsCaller}, Legal.{Can, Keeps, Legal}, States.{next, state}, Timers.Row, declared.entry.Actor.Actor, declared.entry.Actor.TheVariants.{Wheel, Caller}, declared.entry.Entry.Entry}
use Rattle.ert_defs.specs.{declared.entry.Event.Event, declared.entry.Event.TheVariants.{Arm, Cancel, Expire, Orphan}, declared.settings.Settings.Settings, declared.timer.Status.Status, declared.timer.Status.TheVariants.{Armed, Expired}}
use Rattle.ert_defs.specs.{declared.timer.Status.TheVariants.{Delivered, Cancelled, Orphaned, Dropped}, declared.timer.TimerRef.TimerRef}
use Rattle.ert_laws.proofs.{Counted.{one_if, count_all}, CountSteps.{come, gone, counted, count_step}, Histories.{by_entries, state-more}}
use Rattle.ert_laws.specs.Counts.{has_status, count_of, is_arm, is_expire, is_orphan, entries_of, LawOfArms, LawOfExpiries, LawOfOrphans, LawOfSix}

-- no caller is a wheel
pub caller_no_wheel : (g : Settings) (by : Actor) (w : ℕ) → IsCaller g by → same_actor by (Wheel w) ≡ false
caller_no_wheel g (Caller n) w is = refl
caller_no_wheel g _ w is = absurd is

-- an event with one wheel has that and no other
pub has_wheel : (by : Actor) (with : Option Actor) (event : Event) (v w : ℕ) → same_actor by (Wheel w) ≡ false → with ≡ Some (Wheel v)
    → has_actor (made by with event) (Wheel w) ≡ nat_eq v w
has_wheel by with event v w not is = rw (not, is) refl

-- an entry of another kind isn't counted
other_kind : (b : Bool) (n m : ℕ) → n ≡ m → one_if (b && false) + n ≡ m
other_kind b n m same = rw (and-false b) (omega arith)

-- one of the kind is, where it is of the wheel
own_kind : (b own : Bool) → b ≡ own → one_if (b && true) + 0 ≡ one_if own
own_kind b own same = rw (and-true b, same) (omega arith)

-- an entry of a kind brings a timer to a test, and no other does
abbrev pub Brings : (Event → Bool) → (Option Status → Bool) → Type 0
Brings kind test = (g : Settings) (by : Actor) (with : Option Actor) (event : Event) (w : ℕ) → Keeps g by with event
    → one_if (has_actor (made by with event) (Wheel w) && kind event) + gone test w event ≡ come test w event

pub arm_brings : Brings is_arm (λ x. true)
arm_brings g by with (Arm timer start) w keeps =
    own_kind (has_actor (made by with (Arm timer start)) (Wheel w)) (nat_eq timer.wheel w)
    (has_wheel by with (Arm timer start) timer.wheel w (caller_no_wheel g by w keeps.0) keeps.1)
arm_brings g by with (Cancel timer (Some left)) w keeps =
    other_kind (has_actor (made by with (Cancel timer (Some left))) (Wheel w)) (one_if (nat_eq timer.wheel w)) (one_if (nat_eq timer.wheel w)) refl
arm_brings g by with event w keeps =
    other_kind (has_actor (made by with event) (Wheel w)) (gone (λ x. true) w event) (come (λ x. true) w event) refl

-- a timer has expired, and may have been delivered or dropped since
abbrev pub has_passed : Option Status → Bool
has_passed (Some Expired) = true
has_passed (Some Delivered) = true
has_passed (Some Dropped) = true
has_passed _ = false

expire_brings : Brings is_expire has_passed
expire_brings g by with (Expire timer) w keeps =
    own_kind (has_actor (made by with (Expire timer)) (Wheel w)) (nat_eq timer.wheel w)
    (has_wheel by with (Expire timer) timer.wheel w (rw keeps.0 refl) keeps.1)
expire_brings g by with (Cancel timer (Some left)) w keeps =
    other_kind (has_actor (made by with (Cancel timer (Some left))) (Wheel w)) 0 0 refl
expire_brings g by with event w keeps =
    other_kind (has_actor (made by with event) (Wheel w)) (gone has_passed w event) (come has_passed w event) refl

orphan_brings : Brings is_orphan (has_status Orphaned)
orphan_brings g by with (Orphan timer) w keeps =
    own_kind (has_actor (made by with (Orphan timer)) (Wheel w)) (nat_eq timer.wheel w)
    (has_wheel by with (Orphan timer) timer.wheel w (caller_no_wheel g by w keeps.0) keeps.1)
orphan_brings g by with (Cancel timer (Some left)) w keeps =
    other_kind (has_actor (made by with (Cancel timer (Some left))) (Wheel w)) 0 0 refl
orphan_brings g by with event w keeps =
    other_kind (has_actor (made by with event) (Wheel w)) (gone (has_status Orphaned) w event) (come (has_status Orphaned) w event) refl

-- so there are as many of these entries as timers that pass the test
pub entries_count : (kind : Event → Bool) (test : Option Status → Bool) → Brings kind test
    → (g : Settings) (h : List Entry) (w : ℕ) → Legal g h → entries_of kind w h ≡ counted test w (state g h)
entries_count kind test brings g h w legal = by_entries g (λ h. entries_of kind w h ≡ counted test w (state g h)) more refl h legal
  where
    more : (h : List Entry) (e : Entry) → Legal g h → Can g (state g h) e → entries_of kind w h ≡ counted test w (state g h)
        → entries_of kind w (h ++ e ∷ []) ≡ counted test w (state g (h ++ e ∷ []))
    more h e legal can is =
        let entries : entries_of kind w (h ++ e ∷ []) ≡ entries_of kind w h + one_if (has_actor e (Wheel w) && kind e.event) =
        sum_by_push (λ (x : Entry). cond (has_actor x (Wheel w) && kind x.event) 1 0) h e in
        let kinds : one_if (has_actor e (Wheel w) && kind e.event) + gone test w e.event ≡ come test w e.event =
        brings g e.by e.with e.event w can.keeps in
        let step : counted test w (next g (state g h) e) + gone test w e.event ≡ counted test w (state g h) + come test w e.event =
        count_step g h e.by e.with e.event w test legal can in
        let now : counted test w (state g (h ++ e ∷ [])) ≡ counted test w (next g (state g h) e) = ap (counted test w) (state-more g h e) in
        omega arith

pub arms_counted : LawOfArms
arms_counted g h w legal =
    entries_count is_arm (λ x. true) arm_brings g h w legal ∙ count_all (state g h).status ((state g h).rows w)

pub orphans_counted : LawOfOrphans
orphans_counted g h w legal = entries_count is_orphan (has_status Orphaned) orphan_brings g h w legal

-- a status passes one test of three, or none
passed_once : (x : Option Status)
    → one_if (has_passed x) ≡ one_if (has_status Expired x) + one_if (has_status Delivered x) + one_if (has_status Dropped x)
passed_once None = refl
passed_once (Some Armed) = refl
passed_once (Some Expired) = refl
passed_once (Some Delivered) = refl
passed_once (Some Cancelled) = refl
passed_once (Some Orphaned) = refl
passed_once (Some Dropped) = refl

passed_count : (status : TimerRef → Option Status) (rows : List Row)
    → count_of has_passed status rows
    ≡ count_of (has_status Expired) status rows + count_of (has_status Delivered) status rows + count_of (has_status Dropped) status rows
passed_count status [] = refl
passed_count status (r ∷ rows) = omega (arith, passed_count status rows, passed_once (status r.timer))

pub expiries_counted : LawOfExpiries
expiries_counted g h w legal =
    entries_count is_expire has_passed expire_brings g h w legal ∙ passed_count (state g h).status ((state g h).rows w)

-- a status is one of six
one_of_six : (x : Option Status) → x ≢ None
    → 1 ≡ one_if (has_status Armed x) + one_if (has_status Expired x) + one_if (has_status Delivered x)
    + one_if (has_status Dropped x) + one_if (has_status Cancelled x) + one_if (has_status Orphaned x)
one_of_six None some_status = absurd (some_status refl)
one_of_six (Some Armed) some_status = refl
one_of_six (Some Expired) some_status = refl
one_of_six (Some Delivered) some_status = refl
one_of_six (Some Cancelled) some_status = refl
one_of_six (Some Orphaned) some_status = refl
one_of_six (Some Dropped) some_status = refl

six_count : (status : TimerRef → Option Status) (rows : List Row) → All (λ row. status row.timer ≢ None) rows
    → length rows
    ≡ count_of (has_status Armed) status rows + count_of (has_status Expired) status rows + count_of (has_status Delivered) status rows
    + count_of (has_status Dropped) status rows + count_of (has_status Cancelled) status rows + count_of (has_status Orphaned) status rows
six_count status [] each = refl
six_count status (r ∷ rows) each =
    let one = one_of_six (status r.timer) (All-head (λ (row : Row). status row.timer ≢ None) r rows each) in
    omega (arith, six_count status rows (All-tail (λ (row : Row). status row.timer ≢ None) r rows each), one)

pub six_statuses : LawOfSix
six_statuses g h w legal =
    six_count (state g h).status ((state g h).rows w)
    (λ k d lt. row_was_armed g h w (get_or ((state g h).rows w) k d) legal (Contains-get_or ((state g h).rows w) k d lt))
