use Rattle.std.proofs.Common.{◌≡◌, ℕ, pos, ◌≤ℤ◌, List, [], ◌∷◌, ◌++◌, Some, refl, subst, rules, arith}
use Rattle.std.proofs.lemmas.Int.{ints}
use Rattle.ert_defs.proofs.Runs.{legal_parts, legal_one_more}
use Rattle.ert_defs.specs.{Legal.{IsNext, IsFirst, HasDestExited, CanAnswer}, States.state, Timers.Row, Worked.{small, timer, started, expiry, exit, asked, answer, request}, declared.entry.Actor.TheVariants.{Sched, MailOf}}
use Rattle.ert_defs.specs.{declared.settings.Mode.TheVariants.No, declared.timer.Kind.TheVariants.Wrapped}
use Rattle.ert_laws.proofs.worked.histories_are_judged.Goals as goal

-- the row of the timer with a deadline
abbrev row_due : ℕ → Row
row_due deadline = record { timer = timer; deadline = deadline; dest = 0; msg = 7; kind = Wrapped }

-- an element of a list of one is that one
only : (x r : Row) (before behind : List Row) → x ∷ [] ≡ before ++ (r ∷ behind) → r ≡ x
only x r [] behind e = cc
only x r (y ∷ []) behind e = cc
only x r (y ∷ z ∷ ys) behind e = cc

pub returns-clause-early_expiry : goal.returns-clause-early_expiry
returns-clause-early_expiry c = (
  search rules,
  λ legal.
      let next = ((legal_one_more (small No) (started 5) _).0 legal).1.known in
      let first : next.row ≡ row_due 6 = only (row_due 6) next.row next.before next.behind next.stands in
      let due : pos 6 ≤ℤ pos 1 = subst (λ (r : Row). pos r.deadline ≤ℤ pos 1) first next.due in
      omega (arith, ints),
)

-- the timer is the next to expire
next : IsNext (small No) (state (small No) (started 0)) (Sched 0) timer
next = record { before = []; row = row_due 1; behind = []; stands = refl; named = refl; due = search rules; first_before = tt; first_behind = search rules }

-- and the first to hand over, to the process that it was started for
first : (first : IsFirst (row_due 1 ∷ []) timer) × (Some (MailOf 0) ≡ Some (MailOf first.row.dest))
first = (record { row = row_due 1; first = refl; named = refl }, refl)

pub returns-clause-delivered : goal.returns-clause-delivered
returns-clause-delivered c =
    ((legal_parts (small No) (started 0) expiry).1 (search rules, search (rules, next, first)), refl)

-- its destination has exited
exited : HasDestExited (state (small No) exit) timer
exited = record { row = row_due 5; stands = refl; exited = refl }

pub returns-clause-orphaned : goal.returns-clause-orphaned
returns-clause-orphaned c = (search (rules, exited), refl)

-- the request in the scheduler's hand can be answered with what was left
can_answer : CanAnswer (small No) (state (small No) asked) (Some (MailOf 0)) 0 (Some 5)
can_answer = record { request = request; hand = refl; asker = refl; result = refl }

pub returns-clause-answered : goal.returns-clause-answered
returns-clause-answered c = ((legal_parts (small No) asked answer).1 (search rules, search (rules, can_answer)), refl)
