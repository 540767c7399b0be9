use Rattle.std.proofs.Common.{◌≡◌, ℕ, pos, cond, nat_eq, Bool, true, false, List, [], ◌∷◌, ◌++◌, Option, Some, None, refl, sym, ap, ◌∙◌, subst, arith, lit≤}
use Rattle.ert_effects.proofs.Told.{advances_same, event_same}
use Rattle.ert_effects.specs.{WheelCalls.{Try, AllMissesSettled, HasAdvanced, expires_by, expiry_entries, IsSettled, IsDueBy, AllDue, AreOnce}, Worked.{one, asked_at_once, missing}}
use Rattle.ert_defs.specs.{Entries.{probe_entry, expire_entry, advanced_entry}, States.state, Timers.{Row, same_timer}, declared.timer.Kind.TheVariants.Wrapped, Worked.timer, declared.entry.Actor.TheVariants.Sched}
use Rattle.ert_defs.specs.{declared.entry.Entry.Entry, declared.entry.Event.TheVariants.{Probe, Expire, Advanced}, declared.timer.Status.Status, declared.timer.Status.TheVariants.{Armed, Cancelled}, declared.timer.TimerRef.TimerRef}
use Rattle.ert_defs.proofs.ExpiredTimers.{row_named}
use Rattle.ert_effects.proofs.worked.advances_are_judged.Goals as goal

-- the timer is due at the time of the advance
row : Row
row = record { timer = timer; deadline = 1; dest = 0; msg = 7; kind = Wrapped }

due : IsDueBy ((state one asked_at_once).rows 0) 1 timer
unfolding row
due = record { row = row; stands = refl; due = lit≤ tt }

pub returns-clause-expired : goal.returns-clause-expired
returns-clause-expired c =
    record {
      now = pos 1000000;
      tries = (record { timer = timer; missed = None }) ∷ [];
      expired = refl;
      settled = (tt, tt);
      due = (due, tt);
      once = (tt, tt);
      entries = refl;
    }

-- a try that missed
missed : HasAdvanced 0 (1, 0) (state one asked_at_once) (missing Cancelled)
missed = record {
  now = pos 1000000;
  tries = (record { timer = timer; missed = Some (Some Cancelled) }) ∷ [];
  expired = refl;
  settled = (λ is. cc, tt);
  due = (due, tt);
  once = (tt, tt);
  entries = refl;
}

pub returns-clause-missed : goal.returns-clause-missed
returns-clause-missed c = missed

pub returns-clause-miscounted : goal.returns-clause-miscounted
returns-clause-miscounted c = λ is.
    let both = advances_same one 0 (state one asked_at_once) (missing Cancelled) (1, 1) (1, 0) is missed in
    subst (λ (p : ℕ × ℕ). cond (nat_eq p.1 1) (Unit {0}) ⊥) both tt

-- a probe of an armed timer
abbrev probed : Entry
probed = probe_entry (Sched 0) 0 0 (Some Armed)

-- it is no try of an advance
not_tried : (timer : TimerRef) (missed : Option (Option Status)) → IsSettled missed → probed ≡ expires_by 0 timer missed → ⊥
not_tried timer None settled same =
    let event : Probe 0 0 (Some Armed) ≡ Expire timer = event_same probed (expire_entry 0 timer) same in cc
not_tried timer (Some found) settled same =
    let event : Probe 0 0 (Some Armed) ≡ Probe 0 timer.slot found =
    event_same probed (probe_entry (Sched 0) 0 timer.slot found) same in
    settled cc

-- nor the record
not_recorded : (to : ℕ) → probed ≡ advanced_entry 0 to → ⊥
not_recorded to same =
    let event : Probe 0 0 (Some Armed) ≡ Advanced 0 to = event_same probed (advanced_entry 0 to) same in cc

-- so it doesn't come first
not_first : (tries : List Try) (to : ℕ) (rest : List Entry) → AllMissesSettled tries
    → probed ∷ rest ≡ expiry_entries 0 tries ++ advanced_entry 0 to ∷ [] → ⊥
not_first [] to rest settled same = not_recorded to cc
not_first (t ∷ tries) to rest settled same = not_tried t.timer t.missed settled.0 cc

pub returns-clause-unsettled : goal.returns-clause-unsettled
returns-clause-unsettled c = λ is.
    let same : probed ∷ (advanced_entry 0 1 ∷ []) ≡ expiry_entries 0 is.tries ++ advanced_entry 0 1 ∷ [] = cc is.entries in
    not_first is.tries 1 (advanced_entry 0 1 ∷ []) is.settled same

-- a look at the slot, and the record, aren't the record alone
abbrev looked_at : Entry
looked_at = probe_entry (Sched 0) 0 0 (Some Cancelled)

unrecorded : (to : ℕ) (rest : List Entry) → looked_at ∷ rest ≡ advanced_entry 0 to ∷ [] → ⊥
unrecorded to rest same =
    let heads : looked_at ≡ advanced_entry 0 to = cc in
    let event : Probe 0 0 (Some Cancelled) ≡ Advanced 0 to = event_same looked_at (advanced_entry 0 to) heads in cc

-- so something was tried, and that is due
some_due : (rows : List Row) (to : ℕ) (tries : List Try) (rest : List Entry) → AllDue rows to tries
    → looked_at ∷ rest ≡ expiry_entries 0 tries ++ advanced_entry 0 1 ∷ [] → (t : TimerRef) × IsDueBy rows to t
some_due rows to [] rest due same = absurd (unrecorded 1 rest same)
some_due rows to (t ∷ tries) rest due same = (t.timer, due.0)

pub returns-clause-stray : goal.returns-clause-stray
returns-clause-stray c = λ is.
    let one = some_due [] 1 is.tries (advanced_entry 0 1 ∷ []) is.due (cc is.entries) in
    let none : None ≡ Some one.1.row = one.1.stands in cc

-- the only timer is due at the sixth millisecond
late : Row
late = record { timer = timer; deadline = 6; dest = 0; msg = 7; kind = Wrapped }

of_one : (r : Row) (t : TimerRef) (row : Row) (b : Bool) → cond b (Some r) None ≡ Some row → r ≡ row
of_one r t row true is = cc
of_one r t row false is = absurd cc

pub returns-clause-early : goal.returns-clause-early
unfolding late
returns-clause-early c = λ is.
    let one = some_due (late ∷ []) 1 is.tries (advanced_entry 0 1 ∷ []) is.due (cc is.entries) in
    let row : late ≡ one.1.row = of_one late one.0 one.1.row (same_timer timer one.0) one.1.stands in
    let deadline : 6 ≡ one.1.row.deadline = ap (λ (r : Row). r.deadline) row in
    omega (arith, deadline, one.1.due)

-- two tries are of two timers
twice : (tries : List Try) → AllDue (row ∷ []) 1 tries → AreOnce tries
    → looked_at ∷ (looked_at ∷ (advanced_entry 0 1 ∷ [])) ≡ expiry_entries 0 tries ++ advanced_entry 0 1 ∷ [] → ⊥
twice [] due once same = unrecorded 1 _ same
twice (t ∷ []) due once same = unrecorded 1 (advanced_entry 0 1 ∷ []) cc
twice (t ∷ (u ∷ tries)) due once same =
    once.0.0 (sym (row_named (row ∷ []) due.1.0.row u.timer due.1.0.stands) ∙ (ap (λ (r : Row). r.timer)
    (sym (of_one row u.timer due.1.0.row (same_timer row.timer u.timer) due.1.0.stands)
    ∙ of_one row t.timer due.0.row (same_timer row.timer t.timer) due.0.stands)
    ∙ row_named (row ∷ []) due.0.row t.timer due.0.stands))

pub returns-clause-tried_twice : goal.returns-clause-tried_twice
unfolding row
returns-clause-tried_twice c = λ is. twice is.tries is.due is.once (cc is.entries)
