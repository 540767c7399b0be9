use Rattle.std.proofs.Common.{◌≡◌, ◌≤◌, pos, List, [], ◌∷◌, ◌++◌, length, None, refl, arith, lit≤}
use Rattle.ert_defs.specs.{Entries.look_entry, States.state, Timers.Row, Worked.timer, declared.entry.Actor.TheVariants.Sched, declared.entry.Entry.Entry, declared.timer.Kind.TheVariants.Wrapped}
use Rattle.ert_effects.specs.{SomeCalls.end_entries, WheelCalls.{Try, hits, expiry_entries, IsDueBy}, declared.answers.Left.TheVariants.Due, Worked.{one, asked_at_once}}
use Rattle.ert_effects.proofs.worked_some.bounded_advances_are_judged.Goals as goal

-- the timer is due at the time of the advance
row : Row
row = record { timer = timer; deadline = 1; dest = 0; msg = 7; kind = Wrapped }

due : IsDueBy ((state one asked_at_once).rows 0) 1 timer
unfolding row
due = record { row = row; stands = refl; due = lit≤ tt }

pub returns-clause-ended : goal.returns-clause-ended
returns-clause-ended c =
    record {
      now = pos 1000000;
      told = refl;
      tries = (record { timer = timer; missed = None }) ∷ [];
      expired = refl;
      settled = (tt, tt);
      due = (due, tt);
      once = (tt, tt);
      tried = lit≤ tt;
      entries = refl;
    }

-- a look alone has no try
none_tried : (look other : Entry) (tries : List Try) → look ∷ [] ≡ other ∷ (expiry_entries 0 tries ++ end_entries 0 1 Due) → length tries ≡ 1 → ⊥
none_tried look other [] same one = absurd (omega (arith, one))
none_tried look other (t ∷ tries) same one = absurd cc

pub returns-clause-idle : goal.returns-clause-idle
returns-clause-idle c = λ now is. none_tried (look_entry (Sched 0) now) (look_entry (Sched 0) is.now) is.tries is.entries is.tried

-- no try hits nothing
no_hit : (tries : List Try) → 1 ≡ hits tries → length tries ≤ 0 → ⊥
no_hit [] hit few = absurd (omega (arith, hit))
no_hit (t ∷ tries) hit few = absurd (omega (arith, few))

pub returns-clause-too_many : goal.returns-clause-too_many
returns-clause-too_many c = λ is. no_hit is.tries is.expired is.tried

pub returns-clause-moving : goal.returns-clause-moving
returns-clause-moving c =
    record {
      now = pos 1000000;
      told = refl;
      tries = [];
      expired = refl;
      settled = tt;
      due = tt;
      once = tt;
      tried = lit≤ tt;
      entries = refl;
    }
