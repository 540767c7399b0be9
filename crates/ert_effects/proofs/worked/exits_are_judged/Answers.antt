use Rattle.std.proofs.Common.{◌≡◌, ℕ, List, [], ◌∷◌, Option, Some, None, refl, ap, ◌∙◌}
use Rattle.ert_effects.proofs.Told.{event_same}
use Rattle.ert_effects.specs.{WheelCalls.{Try, IsFor, MaySweep, AllMaySweep, orphans_by, orphan_entries}, Worked.{first_timer_of, exiting, probed}}
use Rattle.ert_defs.specs.{Entries.orphan_entry, Timers.Row, declared.entry.Event.TheVariants.{Probe, Orphan}, declared.timer.Kind.TheVariants.Wrapped, declared.timer.Status.Status, declared.timer.Status.TheVariants.Cancelled}
use Rattle.ert_defs.specs.{declared.timer.TimerRef.TimerRef}
use Rattle.ert_effects.proofs.worked.exits_are_judged.Goals as goal

-- the row of the timer of a wheel for a process
abbrev row_for : ℕ → ℕ → Row
row_for w process = record { timer = first_timer_of w; deadline = 5; dest = process; msg = 7; kind = Wrapped }

-- the try that cancels it
abbrev cancels : ℕ → Try
cancels w = record { timer = first_timer_of w; missed = None }

pub returns-clause-all : goal.returns-clause-all
returns-clause-all c = record {
  before = exiting [];
  after = orphan_entry 0 0 (first_timer_of 0) ∷ (orphan_entry 0 1 (first_timer_of 1) ∷ []);
  joined = refl;
  one = refl;
  other = record {
    before = orphan_entry 0 0 (first_timer_of 0) ∷ [];
    after = orphan_entry 0 1 (first_timer_of 1) ∷ [];
    joined = refl;
    one = record {
      steps = record { tries = cancels 0 ∷ []; may = ((record { row = row_for 0 0; stands = refl; dest = refl }, tt), tt); once = (tt, tt); entries = refl };
      swept = (λ dest is. cc, tt);
    };
    other = record {
      before = orphan_entry 0 1 (first_timer_of 1) ∷ [];
      after = [];
      joined = refl;
      one = record {
        steps = record { tries = cancels 1 ∷ []; may = ((record { row = row_for 1 0; stands = refl; dest = refl }, tt), tt); once = (tt, tt); entries = refl };
        swept = (λ dest is. cc, tt);
      };
      other = refl;
    };
  };
}

pub returns-clause-own : goal.returns-clause-own
returns-clause-own c = record {
  before = exiting [];
  after = orphan_entry 0 0 (first_timer_of 0) ∷ [];
  joined = refl;
  one = refl;
  other = record {
    before = orphan_entry 0 0 (first_timer_of 0) ∷ [];
    after = [];
    joined = refl;
    one = record {
      steps = record { tries = cancels 0 ∷ []; may = ((record { row = row_for 0 0; stands = refl; dest = refl }, tt), tt); once = (tt, tt); entries = refl };
      swept = (λ dest is. cc, tt);
    };
    other = record {
      before = [];
      after = [];
      joined = refl;
      one = record { steps = record { tries = []; may = tt; once = tt; entries = refl }; swept = (λ dest is. cc, tt) };
      other = refl;
    };
  };
}

-- the timer of wheel 1 goes to process 1
other_dest : IsFor (row_for 1 1 ∷ []) 0 (first_timer_of 1) → ⊥
other_dest is =
    let row : row_for 1 1 ≡ is.row = cc is.stands in
    let dest : 1 ≡ is.row.dest = ap (λ (r : Row). r.dest) row in
    cc (dest ∙ is.dest)

-- so no try of a sweep for process 0 cancels it
other_try : (t : TimerRef) (missed : Option (Option Status)) → orphan_entry 0 1 (first_timer_of 1) ≡ orphans_by 0 1 t missed
    → MaySweep (row_for 1 1 ∷ []) 0 t missed → ⊥
other_try t None same may =
    let event : Orphan (first_timer_of 1) ≡ Orphan t = event_same _ _ same in
    let timer : t ≡ first_timer_of 1 = cc in
    other_dest (rw timer at may.0)
other_try t (Some found) same may =
    let event : Orphan (first_timer_of 1) ≡ Probe 1 t.slot found = event_same _ _ same in cc

others : (tries : List Try) → AllMaySweep (row_for 1 1 ∷ []) 0 tries → orphan_entry 0 1 (first_timer_of 1) ∷ [] ≡ orphan_entries 0 1 tries → ⊥
others [] may same = cc
others (t ∷ tries) may same =
    let heads : orphan_entry 0 1 (first_timer_of 1) ≡ orphans_by 0 1 t.timer t.missed = cc in other_try t.timer t.missed heads may.0

pub returns-clause-other_process : goal.returns-clause-other_process
returns-clause-other_process c = λ is. others is.tries is.may is.entries

-- where no timer was started nothing is tried
strays : (tries : List Try) → AllMaySweep [] 0 tries → probed (Some Cancelled) ≡ orphan_entries 0 0 tries → ⊥
strays [] may same = cc
strays (t ∷ tries) may same = (let none : None ≡ Some may.0.0.row = may.0.0.stands in cc)

pub returns-clause-stray : goal.returns-clause-stray
returns-clause-stray c = λ is. strays is.tries is.may is.entries
